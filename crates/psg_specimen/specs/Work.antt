-- The work that is done for specimens, in the unit of that of patterns: a comparison of two symbols counts 1.
use Rattle.std.specs.Prelude.{ℕ, ◌+◌, ◌*◌, List, length, sum_by}
use Rattle.psg_terms.specs.Terms.{Term}
use Rattle.psg_terms.specs.Weight.{symbols_of, weight_of}

-- to read a term: 8, and 1 for each of its symbols
abbrev pub term_work : Term → ℕ
term_work t = 8 + symbols_of t

abbrev pub terms_work : List Term → ℕ
terms_work terms = sum_by term_work terms

-- of the pattern of a list's end: its nil rows are read, and 8 more
abbrev pub end_work : List Term → ℕ
end_work nil_rows = terms_work nil_rows + 8

-- to compare the terms with columns of each row: the rows are read once, and the terms once for each row
abbrev pub shown_work : List (List Term) → List Term → ℕ
shown_work rows terms = weight_of rows + length rows * terms_work terms
