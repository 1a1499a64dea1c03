-- Worked cases: texts and spans of trees of MINI.
use Rattle.std.proofs.Common.{◌≡◌, ℕ, true, false, List, [], ◌∷◌, codes, refl, map, lit<}
use Rattle.std.specs.Str.{chars}
use Rattle.std.specs.Fmt.{digits}
use Rattle.std.proofs.lemmas.Fmt.{decimal_digit}
use Rattle.unicode_ident.proofs.Computing.{unicode_ident}
use Rattle.psg_grammar.specs.Fragments.{Fragment, hole, ending, cell, operator, with_child, with_name, with_text}
use Rattle.psg_grammar.specs.declared.types.Item.TheVariants as items
use Rattle.psg_grammar.specs.declared.types.Level.TheVariants as levels
use Rattle.psg_grammar.specs.declared.types.Definition.{Definition}
use Rattle.psg_unparse.specs.Layout.{text_of}
use Rattle.psg_unparse.specs.Spans.{span_of}
use Rattle.psg_unparse.specs.Spots.{Placed, placed_in}
use Rattle.psg_unparse.specs.declared.spans.Span.{Span}
use Rattle.psg_unparse.proofs.Mini.{mini, op_of, both, ref, num, plus, eq, block, call, assign, proc, var}

abbrev spans_of : Fragment → List Span
spans_of f = map (span_of mini) (placed_in mini f)

abbrev at : List ℕ → ℕ → ℕ → Span
at path start end = record { path = path; start = start; end = end }

abbrev x : Fragment
x = ref (codes "x")

-- placeholders
two_holes : text_of mini (plus (hole 1) (hole 1)) ≡ codes "?Exp + ?Exp"
two_holes = refl

-- brackets round a child whose level is below the slot's, and no others
brackets : text_of mini (eq (eq x (ref (codes "z"))) (ref (codes "y"))) ≡ codes "(x = z) = y"
unfolding chars unicode_ident
brackets = refl

bracket_spans : spans_of (eq (eq x (ref (codes "z"))) (ref (codes "y"))) ≡ at [] 0 11 ∷ at (0 ∷ []) 1 6 ∷ at (0 ∷ 0 ∷ []) 1 2 ∷ at (0 ∷ 1 ∷ []) 5 6 ∷ at (1 ∷ []) 10 11 ∷ []
unfolding chars unicode_ident
bracket_spans = refl

-- to the left no brackets, to the right some
left_right : (text_of mini (plus (plus x x) x) ≡ codes "x + x + x") × (text_of mini (plus x (plus x x)) ≡ codes "x + (x + x)")
unfolding chars unicode_ident
left_right = (refl, refl)

-- a list without elements
lists : (text_of mini (ending 1 true) ≡ codes "...") × (text_of mini (ending 1 false) ≡ [])
lists = (refl, refl)

list_spans : (spans_of (ending 1 true) ≡ at [] 0 3 ∷ []) × (spans_of (ending 1 false) ≡ at [] 0 0 ∷ [])
list_spans = (refl, refl)

-- a small program
abbrev small_tree : Fragment
small_tree = block (cell 0 (proc (codes "p") (ending 3 false) (operator 4)) (ending 0 false)) (cell 1 (call (codes "p") (ending 2 false)) (ending 1 false))

small_text : text_of mini small_tree ≡ codes "begin\n  proc p () skip\ndo\n  call p()\nend"
unfolding chars unicode_ident
small_text = refl

-- the empty lists stand where the bracket before them ends
small_spans : spans_of small_tree ≡
    at [] 0 40 ∷ at (0 ∷ []) 8 22 ∷ at (0 ∷ 0 ∷ []) 8 22 ∷ at (0 ∷ 0 ∷ 0 ∷ []) 15 22 ∷ at (0 ∷ 0 ∷ 0 ∷ 0 ∷ []) 16 16 ∷ at (0 ∷ 0 ∷ 0 ∷ 1 ∷ []) 18 22
    ∷ at (1 ∷ []) 28 36 ∷ at (1 ∷ 0 ∷ []) 28 36 ∷ at (1 ∷ 0 ∷ 0 ∷ []) 35 35 ∷ []
unfolding chars unicode_ident
small_spans = refl

-- what stands round the second child
abbrev sum : Fragment
sum = plus x (num 1)

sum_text : text_of mini sum ≡ codes "x + 1"
unfolding chars unicode_ident
sum_text = rw (decimal_digit 1 (lit< tt)) refl

sum_spans : spans_of sum ≡ at [] 0 5 ∷ at (0 ∷ []) 0 1 ∷ at (1 ∷ []) 4 5 ∷ []
unfolding chars unicode_ident
sum_spans = rw (decimal_digit 1 (lit< tt)) refl

abbrev levels_in : Fragment → List ℕ
levels_in f = map (λ (p : Placed). p.spot.level) (placed_in mini f)

abbrev around_in : Fragment → List ℕ
around_in f = map (λ (p : Placed). p.spot.around) (placed_in mini f)

levels_are : (levels_in sum ≡ 0 ∷ 4 ∷ 5 ∷ []) × (levels_in (eq (eq x x) x) ≡ 0 ∷ 0 ∷ 4 ∷ 4 ∷ 4 ∷ []) × (around_in (eq (eq x x) x) ≡ 0 ∷ 1 ∷ 1 ∷ 1 ∷ 0 ∷ [])
levels_are = (refl, refl, refl)

-- a program
abbrev k : Fragment
k = ref (codes "k")

abbrev program : Fragment
program = block
    (cell 0 (with_child (with_name (operator 14) (codes "vec")) (with_child (operator 20) (operator 18)))
    (cell 0 (var (codes "v") (with_name (operator 21) (codes "vec")))
    (cell 0 (var (codes "n") (operator 18))
    (cell 0 (var (codes "sum") (operator 18))
    (cell 0 (proc (codes "add") (cell 3 (with_child (with_name (operator 17) (codes "k")) (operator 18)) (ending 3 false)) (assign (codes "sum") (plus (ref (codes "sum")) (both 12 (ref (codes "v")) k))))
    (ending 0 false))))))
    (cell 1 (assign (codes "n") (num 0))
    (cell 1 (both 3 (eq (ref (codes "n")) (num 10)) (cell 1 (call (codes "add") (cell 2 (ref (codes "n")) (ending 2 false))) (cell 1 (assign (codes "n") (plus (ref (codes "n")) (num 1))) (ending 1 false))))
    (ending 1 false)))

program_text : text_of mini program ≡ codes "begin\n  type vec = array int;\n  var v : vec;\n  var n : int;\n  var sum : int;\n  proc add (k : int) sum := sum + v[k]\ndo\n  n := 0;\n  while n = 10 do\n    call add(n);\n    n := n + 1\n  od\nend"
unfolding chars unicode_ident digits
program_text = refl

-- a line feed in a text is written as an escape; two word characters that are to stand tight are kept apart
abbrev glued_definition : Definition
glued_definition = record mini { operators = op_of (codes "o") 1 levels.Plain (items.Word (codes "a") ∷ items.Tight ∷ items.Refers 0 ∷ items.Tight ∷ items.Word (codes "<") ∷ items.Tight ∷ items.Text ∷ items.Tight ∷ items.Word (codes ")") ∷ items.In ∷ items.Out ∷ items.Out ∷ items.In ∷ items.Line ∷ items.Word (codes "b") ∷ items.Line ∷ []) ∷ [] }

glued : text_of glued_definition (with_text (with_name (operator 0) (codes "x")) (codes "q\"\n")) ≡ codes "a x<\"q\\\"\\n\")\n  b"
unfolding chars unicode_ident
glued = refl
