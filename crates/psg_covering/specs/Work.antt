-- The work of the search for values that no hole row has, where a comparison of two symbols counts 1.
use Rattle.std.specs.Prelude.{ℕ, ◌+◌, ◌*◌, List, sum_by}
use Rattle.psg_terms.specs.Terms.{Term}
use Rattle.psg_terms.specs.Weight.{symbols_of}

-- to look up a term under one key, where that many hole rows are found
abbrev pub look_work : ℕ → ℕ
look_work found = 16 + found

-- to choose a hole row for a column: a join, which reads the symbols of the row and of the hole row's term
abbrev pub choice_work : List Term → Term → ℕ
choice_work row hole = 128 + 8 * (sum_by symbols_of row + symbols_of hole)

-- to make a row and to look at its head
abbrev pub row_work : List Term → ℕ
row_work row = 8 * sum_by symbols_of row

-- to keep a row
abbrev pub kept_work : List Term → ℕ
kept_work row = 256 * sum_by symbols_of row

-- to test whether a term is an instance of this one
abbrev pub test_work : Term → ℕ
test_work general = 8 * (symbols_of general + 1)
