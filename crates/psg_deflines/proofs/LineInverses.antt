-- Which line begins with which word, and what parts stand behind the word.
use Rattle.std.proofs.Common.{◌≡◌, ℕ, ◌+◌, ◌*◌, Bool, cond, List, [], ◌∷◌, ◌++◌, map, drop, length, codes, refl, subst, sym, ap, ◌∙◌, arith}
use Rattle.std.specs.Prelude.{Option, Some}
use Rattle.psg_terms.specs.Names.{Name}
use Rattle.psg_terms.specs.declared.declare.SortDecl.{SortDecl}
use Rattle.psg_grammar.specs.declared.types.Level.{Level}
use Rattle.psg_deflines.specs.WrittenTerms.{WrittenTerm, term_parts}
use Rattle.psg_deflines.specs.WrittenTrees.{WrittenTree, quoted_part}
use Rattle.psg_deflines.specs.Forms.{constructor_parts, word_if, level_parts, item_part, columns_parts, by_parts, parts_of, tag}
use Rattle.psg_deflines.specs.TermWalks.{Parts}
use Rattle.psg_deflines.specs.declared.lines.LineItem.{LineItem}
use Rattle.psg_deflines.specs.declared.lines.Line.{Line}
use Rattle.psg_deflines.specs.declared.lines.Line.TheVariants as lines
use Rattle.psg_deflines.proofs.PartReads.{rest_of, byte_of, first_of}

-- the first two characters of the first part tell the forms apart
abbrev second_of : List ℕ → ℕ
second_of [] = 0
second_of (c ∷ cs) = byte_of cs

abbrev sign : Parts → ℕ
sign ps = byte_of (first_of ps) * 256 + second_of (first_of ps)

pub data Is_sort (ps : Parts) : Line → Type 0 where
  sort_line : (d : SortDecl) → ps ≡ d.name ∷ codes "=" ∷ constructor_parts d.constructors → Is_sort ps (lines.Sort d)

pub sort-inverse : (ps : Parts) (line : Line) → parts_of line ≡ codes "sort" ∷ ps → Is_sort ps line
sort-inverse ps (lines.Sort d) h = sort_line d (sym (ap rest_of h))
sort-inverse ps (lines.Space [] s) h = absurd (omega (arith, ap sign h))
sort-inverse ps (lines.Space (c ∷ cs) s) h = absurd (omega (arith, ap sign h))
sort-inverse ps (lines.Phylum n s b) h = absurd (omega (arith, ap sign h))
sort-inverse ps (lines.List n s e w l u) h = absurd (omega (arith, ap sign h))
sort-inverse ps (lines.Operator n k s l ms) h = absurd (omega (arith, ap sign h))
sort-inverse ps (lines.Row t ts) h = absurd (omega (arith, ap sign h))
sort-inverse ps (lines.Nil n t) h = absurd (omega (arith, ap sign h))
sort-inverse ps (lines.Cell n t u v) h = absurd (omega (arith, ap sign h))
sort-inverse ps (lines.Hole n t w) h = absurd (omega (arith, ap sign h))
sort-inverse ps (lines.Case t w) h = absurd (omega (arith, ap sign h))
sort-inverse ps (lines.Declare spot n t u w) h = absurd (omega (arith, ap sign h))

-- the name that stands behind the mark
pub untagged : (n : Name) → drop 1 (tag n) ≡ n
untagged [] = refl
untagged (c ∷ cs) = refl

pub data Is_entity (ps : Parts) : Line → Type 0 where
  entity_line : (s : Name) → ps ≡ s ∷ [] → Is_entity ps (lines.Space [] s)

pub entity-inverse : (ps : Parts) (line : Line) → parts_of line ≡ codes "entity" ∷ ps → Is_entity ps line
entity-inverse ps (lines.Sort d) h = absurd (omega (arith, ap sign h))
entity-inverse ps (lines.Space [] s) h = entity_line s (sym (ap rest_of h))
entity-inverse ps (lines.Space (c ∷ cs) s) h = absurd (omega (arith, ap sign h))
entity-inverse ps (lines.Phylum n s b) h = absurd (omega (arith, ap sign h))
entity-inverse ps (lines.List n s e w l u) h = absurd (omega (arith, ap sign h))
entity-inverse ps (lines.Operator n k s l ms) h = absurd (omega (arith, ap sign h))
entity-inverse ps (lines.Row t ts) h = absurd (omega (arith, ap sign h))
entity-inverse ps (lines.Nil n t) h = absurd (omega (arith, ap sign h))
entity-inverse ps (lines.Cell n t u v) h = absurd (omega (arith, ap sign h))
entity-inverse ps (lines.Hole n t w) h = absurd (omega (arith, ap sign h))
entity-inverse ps (lines.Case t w) h = absurd (omega (arith, ap sign h))
entity-inverse ps (lines.Declare spot n t u w) h = absurd (omega (arith, ap sign h))

pub data Is_space (ps : Parts) : Line → Type 0 where
  space_line : (c : ℕ) (cs s : Name) → ps ≡ (c ∷ cs) ∷ codes ":" ∷ s ∷ [] → Is_space ps (lines.Space (c ∷ cs) s)

pub space-inverse : (ps : Parts) (line : Line) → parts_of line ≡ codes "space" ∷ ps → Is_space ps line
space-inverse ps (lines.Sort d) h = absurd (omega (arith, ap sign h))
space-inverse ps (lines.Space [] s) h = absurd (omega (arith, ap sign h))
space-inverse ps (lines.Space (c ∷ cs) s) h = space_line c cs s (sym (ap rest_of h))
space-inverse ps (lines.Phylum n s b) h = absurd (omega (arith, ap sign h))
space-inverse ps (lines.List n s e w l u) h = absurd (omega (arith, ap sign h))
space-inverse ps (lines.Operator n k s l ms) h = absurd (omega (arith, ap sign h))
space-inverse ps (lines.Row t ts) h = absurd (omega (arith, ap sign h))
space-inverse ps (lines.Nil n t) h = absurd (omega (arith, ap sign h))
space-inverse ps (lines.Cell n t u v) h = absurd (omega (arith, ap sign h))
space-inverse ps (lines.Hole n t w) h = absurd (omega (arith, ap sign h))
space-inverse ps (lines.Case t w) h = absurd (omega (arith, ap sign h))
space-inverse ps (lines.Declare spot n t u w) h = absurd (omega (arith, ap sign h))

pub data Is_phylum (ps : Parts) : Line → Type 0 where
  phylum_line : (n s : Name) (b : Bool) → ps ≡ n ∷ codes ":" ∷ s ∷ word_if b (codes "bracketed") → Is_phylum ps (lines.Phylum n s b)

pub phylum-inverse : (ps : Parts) (line : Line) → parts_of line ≡ codes "phylum" ∷ ps → Is_phylum ps line
phylum-inverse ps (lines.Sort d) h = absurd (omega (arith, ap sign h))
phylum-inverse ps (lines.Space [] s) h = absurd (omega (arith, ap sign h))
phylum-inverse ps (lines.Space (c ∷ cs) s) h = absurd (omega (arith, ap sign h))
phylum-inverse ps (lines.Phylum n s b) h = phylum_line n s b (sym (ap rest_of h))
phylum-inverse ps (lines.List n s e w l u) h = absurd (omega (arith, ap sign h))
phylum-inverse ps (lines.Operator n k s l ms) h = absurd (omega (arith, ap sign h))
phylum-inverse ps (lines.Row t ts) h = absurd (omega (arith, ap sign h))
phylum-inverse ps (lines.Nil n t) h = absurd (omega (arith, ap sign h))
phylum-inverse ps (lines.Cell n t u v) h = absurd (omega (arith, ap sign h))
phylum-inverse ps (lines.Hole n t w) h = absurd (omega (arith, ap sign h))
phylum-inverse ps (lines.Case t w) h = absurd (omega (arith, ap sign h))
phylum-inverse ps (lines.Declare spot n t u w) h = absurd (omega (arith, ap sign h))

pub data Is_list (ps : Parts) : Line → Type 0 where
  list_line : (n s e w : Name) (l u : Bool) → ps ≡ n ∷ codes ":" ∷ s ∷ codes "of" ∷ e ∷ quoted_part w ∷ cond l (codes "lines") (codes "inline") ∷ cond u (codes "unfinished") (codes "fixed") ∷ [] → Is_list ps (lines.List n s e w l u)

pub list-inverse : (ps : Parts) (line : Line) → parts_of line ≡ codes "list" ∷ ps → Is_list ps line
list-inverse ps (lines.Sort d) h = absurd (omega (arith, ap sign h))
list-inverse ps (lines.Space [] s) h = absurd (omega (arith, ap sign h))
list-inverse ps (lines.Space (c ∷ cs) s) h = absurd (omega (arith, ap sign h))
list-inverse ps (lines.Phylum n s b) h = absurd (omega (arith, ap sign h))
list-inverse ps (lines.List n s e w l u) h = list_line n s e w l u (sym (ap rest_of h))
list-inverse ps (lines.Operator n k s l ms) h = absurd (omega (arith, ap sign h))
list-inverse ps (lines.Row t ts) h = absurd (omega (arith, ap sign h))
list-inverse ps (lines.Nil n t) h = absurd (omega (arith, ap sign h))
list-inverse ps (lines.Cell n t u v) h = absurd (omega (arith, ap sign h))
list-inverse ps (lines.Hole n t w) h = absurd (omega (arith, ap sign h))
list-inverse ps (lines.Case t w) h = absurd (omega (arith, ap sign h))
list-inverse ps (lines.Declare spot n t u w) h = absurd (omega (arith, ap sign h))

pub data Is_op (ps : Parts) : Line → Type 0 where
  op_line : (n k : Name) (s : Bool) (l : Level) (ms : List LineItem) → ps ≡ n ∷ codes ":" ∷ k ∷ word_if s (codes "scope") ++ (level_parts l ++ (codes "=" ∷ map item_part ms)) → Is_op ps (lines.Operator n k s l ms)

pub op-inverse : (ps : Parts) (line : Line) → parts_of line ≡ codes "op" ∷ ps → Is_op ps line
op-inverse ps (lines.Sort d) h = absurd (omega (arith, ap sign h))
op-inverse ps (lines.Space [] s) h = absurd (omega (arith, ap sign h))
op-inverse ps (lines.Space (c ∷ cs) s) h = absurd (omega (arith, ap sign h))
op-inverse ps (lines.Phylum n s b) h = absurd (omega (arith, ap sign h))
op-inverse ps (lines.List n s e w l u) h = absurd (omega (arith, ap sign h))
op-inverse ps (lines.Operator n k s l ms) h = op_line n k s l ms (sym (ap rest_of h))
op-inverse ps (lines.Row t ts) h = absurd (omega (arith, ap sign h))
op-inverse ps (lines.Nil n t) h = absurd (omega (arith, ap sign h))
op-inverse ps (lines.Cell n t u v) h = absurd (omega (arith, ap sign h))
op-inverse ps (lines.Hole n t w) h = absurd (omega (arith, ap sign h))
op-inverse ps (lines.Case t w) h = absurd (omega (arith, ap sign h))
op-inverse ps (lines.Declare spot n t u w) h = absurd (omega (arith, ap sign h))

pub data Is_row (ps : Parts) : Line → Type 0 where
  row_line : (t : WrittenTerm) (ts : List WrittenTerm) → ps ≡ term_parts t ++ columns_parts ts → Is_row ps (lines.Row t ts)

pub row-inverse : (ps : Parts) (line : Line) → parts_of line ≡ codes "row" ∷ ps → Is_row ps line
row-inverse ps (lines.Sort d) h = absurd (omega (arith, ap sign h))
row-inverse ps (lines.Space [] s) h = absurd (omega (arith, ap sign h))
row-inverse ps (lines.Space (c ∷ cs) s) h = absurd (omega (arith, ap sign h))
row-inverse ps (lines.Phylum n s b) h = absurd (omega (arith, ap sign h))
row-inverse ps (lines.List n s e w l u) h = absurd (omega (arith, ap sign h))
row-inverse ps (lines.Operator n k s l ms) h = absurd (omega (arith, ap sign h))
row-inverse ps (lines.Row t ts) h = row_line t ts (sym (ap rest_of h))
row-inverse ps (lines.Nil n t) h = absurd (omega (arith, ap sign h))
row-inverse ps (lines.Cell n t u v) h = absurd (omega (arith, ap sign h))
row-inverse ps (lines.Hole n t w) h = absurd (omega (arith, ap sign h))
row-inverse ps (lines.Case t w) h = absurd (omega (arith, ap sign h))
row-inverse ps (lines.Declare spot n t u w) h = absurd (omega (arith, ap sign h))

pub data Is_nil (ps : Parts) : Line → Type 0 where
  nil_line : (n : Name) (t : WrittenTerm) → ps ≡ n ∷ term_parts t → Is_nil ps (lines.Nil n t)

pub nil-inverse : (ps : Parts) (line : Line) → parts_of line ≡ codes "nil" ∷ ps → Is_nil ps line
nil-inverse ps (lines.Sort d) h = absurd (omega (arith, ap sign h))
nil-inverse ps (lines.Space [] s) h = absurd (omega (arith, ap sign h))
nil-inverse ps (lines.Space (c ∷ cs) s) h = absurd (omega (arith, ap sign h))
nil-inverse ps (lines.Phylum n s b) h = absurd (omega (arith, ap sign h))
nil-inverse ps (lines.List n s e w l u) h = absurd (omega (arith, ap sign h))
nil-inverse ps (lines.Operator n k s l ms) h = absurd (omega (arith, ap sign h))
nil-inverse ps (lines.Row t ts) h = absurd (omega (arith, ap sign h))
nil-inverse ps (lines.Nil n t) h = nil_line n t (sym (ap rest_of h))
nil-inverse ps (lines.Cell n t u v) h = absurd (omega (arith, ap sign h))
nil-inverse ps (lines.Hole n t w) h = absurd (omega (arith, ap sign h))
nil-inverse ps (lines.Case t w) h = absurd (omega (arith, ap sign h))
nil-inverse ps (lines.Declare spot n t u w) h = absurd (omega (arith, ap sign h))

pub data Is_cell (ps : Parts) : Line → Type 0 where
  cell_line : (n : Name) (t u v : WrittenTerm) → ps ≡ n ∷ (term_parts t ++ (codes ":" ∷ (term_parts u ++ term_parts v))) → Is_cell ps (lines.Cell n t u v)

pub cell-inverse : (ps : Parts) (line : Line) → parts_of line ≡ codes "cell" ∷ ps → Is_cell ps line
cell-inverse ps (lines.Sort d) h = absurd (omega (arith, ap sign h))
cell-inverse ps (lines.Space [] s) h = absurd (omega (arith, ap sign h))
cell-inverse ps (lines.Space (c ∷ cs) s) h = absurd (omega (arith, ap sign h))
cell-inverse ps (lines.Phylum n s b) h = absurd (omega (arith, ap sign h))
cell-inverse ps (lines.List n s e w l u) h = absurd (omega (arith, ap sign h))
cell-inverse ps (lines.Operator n k s l ms) h = absurd (omega (arith, ap sign h))
cell-inverse ps (lines.Row t ts) h = absurd (omega (arith, ap sign h))
cell-inverse ps (lines.Nil n t) h = absurd (omega (arith, ap sign h))
cell-inverse ps (lines.Cell n t u v) h = cell_line n t u v (sym (ap rest_of h))
cell-inverse ps (lines.Hole n t w) h = absurd (omega (arith, ap sign h))
cell-inverse ps (lines.Case t w) h = absurd (omega (arith, ap sign h))
cell-inverse ps (lines.Declare spot n t u w) h = absurd (omega (arith, ap sign h))

pub data Is_hole (ps : Parts) : Line → Type 0 where
  hole_line : (n : Name) (t : WrittenTerm) (w : Option WrittenTree) → ps ≡ n ∷ (term_parts t ++ by_parts w) → Is_hole ps (lines.Hole n t w)

pub hole-inverse : (ps : Parts) (line : Line) → parts_of line ≡ codes "hole" ∷ ps → Is_hole ps line
hole-inverse ps (lines.Sort d) h = absurd (omega (arith, ap sign h))
hole-inverse ps (lines.Space [] s) h = absurd (omega (arith, ap sign h))
hole-inverse ps (lines.Space (c ∷ cs) s) h = absurd (omega (arith, ap sign h))
hole-inverse ps (lines.Phylum n s b) h = absurd (omega (arith, ap sign h))
hole-inverse ps (lines.List n s e w l u) h = absurd (omega (arith, ap sign h))
hole-inverse ps (lines.Operator n k s l ms) h = absurd (omega (arith, ap sign h))
hole-inverse ps (lines.Row t ts) h = absurd (omega (arith, ap sign h))
hole-inverse ps (lines.Nil n t) h = absurd (omega (arith, ap sign h))
hole-inverse ps (lines.Cell n t u v) h = absurd (omega (arith, ap sign h))
hole-inverse ps (lines.Hole n t w) h = hole_line n t w (sym (ap rest_of h))
hole-inverse ps (lines.Case t w) h = absurd (omega (arith, ap sign h))
hole-inverse ps (lines.Declare spot n t u w) h = absurd (omega (arith, ap sign h))

pub data Is_case (ps : Parts) : Line → Type 0 where
  case_line : (t : WrittenTerm) (w : WrittenTree) → ps ≡ term_parts t ++ by_parts (Some w) → Is_case ps (lines.Case t w)

pub case-inverse : (ps : Parts) (line : Line) → parts_of line ≡ codes "case" ∷ ps → Is_case ps line
case-inverse ps (lines.Sort d) h = absurd (omega (arith, ap sign h))
case-inverse ps (lines.Space [] s) h = absurd (omega (arith, ap sign h))
case-inverse ps (lines.Space (c ∷ cs) s) h = absurd (omega (arith, ap sign h))
case-inverse ps (lines.Phylum n s b) h = absurd (omega (arith, ap sign h))
case-inverse ps (lines.List n s e w l u) h = absurd (omega (arith, ap sign h))
case-inverse ps (lines.Operator n k s l ms) h = absurd (omega (arith, ap sign h))
case-inverse ps (lines.Row t ts) h = absurd (omega (arith, ap sign h))
case-inverse ps (lines.Nil n t) h = absurd (omega (arith, ap sign h))
case-inverse ps (lines.Cell n t u v) h = absurd (omega (arith, ap sign h))
case-inverse ps (lines.Hole n t w) h = absurd (omega (arith, ap sign h))
case-inverse ps (lines.Case t w) h = case_line t w (sym (ap rest_of h))
case-inverse ps (lines.Declare spot n t u w) h = absurd (omega (arith, ap sign h))

pub data Is_declare (spot : Name) (ps : Parts) : Line → Type 0 where
  declare_line : (n : Name) (t u : WrittenTerm) (w : WrittenTree) → ps ≡ n ∷ (term_parts t ++ (codes ":" ∷ (term_parts u ++ by_parts (Some w)))) → Is_declare spot ps (lines.Declare spot n t u w)

same-spot : (spot own : Name) (ps : Parts) (n : Name) (t u : WrittenTerm) (w : WrittenTree) → own ≡ spot → ps ≡ n ∷ (term_parts t ++ (codes ":" ∷ (term_parts u ++ by_parts (Some w)))) → Is_declare spot ps (lines.Declare own n t u w)
same-spot spot own ps n t u w e f = subst (λ o. Is_declare spot ps (lines.Declare o n t u w)) (sym e) (declare_line n t u w f)

pub declare-inverse : (spot : Name) (ps : Parts) (line : Line) → parts_of line ≡ (codes "declare" ++ tag spot) ∷ ps → Is_declare spot ps line
declare-inverse spot ps (lines.Sort d) h = absurd (omega (arith, ap sign h))
declare-inverse spot ps (lines.Space [] s) h = absurd (omega (arith, ap sign h))
declare-inverse spot ps (lines.Space (c ∷ cs) s) h = absurd (omega (arith, ap sign h))
declare-inverse spot ps (lines.Phylum n s b) h = absurd (omega (arith, ap sign h))
declare-inverse spot ps (lines.List n s e w l u) h = absurd (omega (arith, ap sign h))
declare-inverse spot ps (lines.Operator n k s l ms) h = absurd (omega (arith, ap sign h))
declare-inverse spot ps (lines.Row t ts) h = absurd (omega (arith, ap sign h))
declare-inverse spot ps (lines.Nil n t) h = absurd (omega (arith, ap sign h))
declare-inverse spot ps (lines.Cell n t u v) h = absurd (omega (arith, ap sign h))
declare-inverse spot ps (lines.Hole n t w) h = absurd (omega (arith, ap sign h))
declare-inverse spot ps (lines.Case t w) h = absurd (omega (arith, ap sign h))
declare-inverse spot ps (lines.Declare own n t u w) h =
    same-spot spot own ps n t u w (sym (untagged own) ∙ ap (λ xs. drop 8 (first_of xs)) h ∙ untagged spot) (sym (ap rest_of h))

-- every line has a first part
pub no-empty : (line : Line) → parts_of line ≡ [] → ⊥
no-empty (lines.Sort d) h = omega (arith, ap length h)
no-empty (lines.Space [] s) h = omega (arith, ap length h)
no-empty (lines.Space (c ∷ cs) s) h = omega (arith, ap length h)
no-empty (lines.Phylum n s b) h = omega (arith, ap length h)
no-empty (lines.List n s e w l u) h = omega (arith, ap length h)
no-empty (lines.Operator n k s l ms) h = omega (arith, ap length h)
no-empty (lines.Row t ts) h = omega (arith, ap length h)
no-empty (lines.Nil n t) h = omega (arith, ap length h)
no-empty (lines.Cell n t u v) h = omega (arith, ap length h)
no-empty (lines.Hole n t w) h = omega (arith, ap length h)
no-empty (lines.Case t w) h = omega (arith, ap length h)
no-empty (lines.Declare spot n t u w) h = omega (arith, ap length h)
