-- A whole run: "reads standard input .. and prints one reply line each" (document 01, "Frames").
use Rattle.std.specs.Prelude.{List, [], ◌∷◌, ◌++◌, ℕ}
use Rattle.layout.specs.View.{Table}
use Rattle.runs.specs.Session.{table_after, printed}
use Rattle.runs.specs.Lines.{lines_of}

-- what is printed for lines, from a table in use on
unfoldable pub answers : Table → List (List ℕ) → List ℕ
answers t [] = []
answers t (line ∷ lines) = printed t line ++ answers (table_after t line) lines

-- "Before a lay succeeds the table is empty."
unfoldable pub run : List ℕ → List ℕ
run input = answers [] (lines_of input)
