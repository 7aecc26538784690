-- The documents' number of each refusal, and a call's answer as a reply.
-- Assumes nothing.
use Rattle.std.specs.Prelude.{ℕ, Result, Ok, Err}
use Rattle.refusal.specs.Steps.{Reply, refused, answered}
use Rattle.refusal.specs.declared.Refusal.{Refusal}
use Rattle.refusal.specs.declared.Refusal.TheVariants.{TooLarge, BrokenStarts, BrokenRows, DimensionMismatch, RequestOutOfRange, NonPositiveDefinite, TooShort, NotCovered, BrokenOperator, IndexTooLarge, DuplicateEntry, NotInverse, NotFinite, BadScale, OtherHeader, MalformedFile, FileIndexOutside, NotFiniteEntry, DiagonalNotOne, NumberTooLarge, BadWeights, BadWidth, PivotDiagonalNotOne, NoRequests}

-- the documents' number of a refusal
abbrev pub refusal_number : Refusal → ℕ
refusal_number TooLarge = 1
refusal_number BrokenStarts = 2
refusal_number BrokenRows = 3
refusal_number DimensionMismatch = 4
refusal_number RequestOutOfRange = 5
refusal_number NonPositiveDefinite = 6
refusal_number TooShort = 7
refusal_number NotCovered = 8
refusal_number BrokenOperator = 9
refusal_number IndexTooLarge = 10
refusal_number DuplicateEntry = 11
refusal_number NotInverse = 12
refusal_number NotFinite = 13
refusal_number BadScale = 14
refusal_number OtherHeader = 15
refusal_number MalformedFile = 16
refusal_number FileIndexOutside = 17
refusal_number NotFiniteEntry = 18
refusal_number DiagonalNotOne = 19
refusal_number NumberTooLarge = 20
refusal_number BadWeights = 21
refusal_number BadWidth = 22
refusal_number PivotDiagonalNotOne = 23
refusal_number NoRequests = 24

-- the reply of a call: its answer, or its refusal's number
abbrev pub reply_of : {A : Type 0} → Result A Refusal → Reply A
reply_of (Ok a) = answered a
reply_of (Err r) = refused (refusal_number r)
