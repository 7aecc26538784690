-- Reading then writing: the requests of an accepted file pass the writer's checks, and give the file's canonical bytes.
-- Assumes nothing.
use Rattle.std.specs.Prelude.{ℕ, List}
use Rattle.matrix_market.specs.File.{dimension_of, file_rows, file_columns}
use Rattle.requests_writer.specs.Writer.{requests_file}

-- the canonical bytes of a file: those of the set that its requests are
abbrev pub canonical : List ℕ → List ℕ
canonical text = requests_file (dimension_of text) (file_rows text) (file_columns text)
