-- Two groups of steps: the first that refuses decides.
-- Assumes nothing.
use Rattle.refusal.specs.Steps.{Reply, refused, answered}

-- the first reply if it refuses, else the second
abbrev pub or_else : Reply (Unit {0}) → Reply (Unit {0}) → Reply (Unit {0})
or_else (refused k) later = refused k
or_else (answered a) later = later
