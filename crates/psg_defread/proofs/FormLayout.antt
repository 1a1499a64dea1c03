-- The lines that write a definition are in the order of their ranks; rows follow an operator, and the cases of a hole
-- row follow it.
use Rattle.std.proofs.Common.{◌≡◌, ◌≢◌, ℕ, Bool, true, false, Some, None, List, [], ◌∷◌, ◌++◌, map, IsTrue, refl, sym, subst, append-nil, append_assoc, arith, suc, ◌≤◌}
use Rattle.std.specs.List.{flat_map, AllByRecursion}
use Rattle.std.proofs.lemmas.Bool.{false≢true}
use Rattle.psg_terms.proofs.Lists.{each_append}
use Rattle.psg_terms.specs.Names.{Name}
use Rattle.psg_grammar.specs.declared.types.Kind.TheVariants as kinds
use Rattle.psg_grammar.specs.declared.types.Level.{Level}
use Rattle.psg_grammar.specs.declared.types.Row.{Row}
use Rattle.psg_grammar.specs.declared.types.Operator.{Operator}
use Rattle.psg_grammar.specs.declared.types.Case.{Case}
use Rattle.psg_grammar.specs.declared.types.HoleRow.{HoleRow}
use Rattle.psg_grammar.specs.declared.types.Definition.{Definition}
use Rattle.psg_deflines.specs.Entries.{takes_rows, takes_cases, HasPlace}
use Rattle.psg_deflines.specs.WrittenTerms.{WrittenTerm}
use Rattle.psg_deflines.specs.WrittenTrees.{WrittenTree}
use Rattle.psg_deflines.specs.declared.lines.LineItem.{LineItem}
use Rattle.psg_deflines.specs.declared.lines.Line.{Line}
use Rattle.psg_deflines.specs.declared.lines.Line.TheVariants as lines
use Rattle.psg_defread.specs.WrittenLines.{lines_of, item_written, row_line, operator_lines, case_line, hole_lines, kind_name, term_written, tree_written}
use Rattle.psg_defread.specs.Layout.{rank, IsRanked, HasCasesBehind}
use Rattle.psg_defread.proofs.Blocks.{from_nils, from_declares, flat-front, some-blocks, first-blocks, last-blocks, blocks, joined, map-all, flat-all, HasRank, AreRanked, ranked}

-- each line has its place behind those above it
abbrev ArePlaced : List Line → List Line → Type 0
ArePlaced above [] = Unit {0}
ArePlaced above (line ∷ rest) = HasPlace above line × ArePlaced (above ++ line ∷ []) rest

placed-split : (above front : List Line) (line : Line) (behind : List Line) → ArePlaced above (front ++ line ∷ behind)
    → HasPlace (above ++ front) line
placed-split above [] line behind h = subst (λ ls. HasPlace ls line) (sym (append-nil above)) h.0
placed-split above (l ∷ front) line behind h =
    subst (λ ls. HasPlace ls line) (append_assoc above (l ∷ []) front)
    (placed-split (above ++ l ∷ []) front line behind h.1)

-- whatever stands above
abbrev ArePlacedAnywhere : List Line → Type 0
ArePlacedAnywhere ls = (above : List Line) → ArePlaced above ls

-- a line that is no row and no case has its place
abbrev IsFree : ℕ → Type 0
IsFree r = (r ≢ 4) × (r ≢ 7)

free-place : (line : Line) → IsFree (rank line) → (above : List Line) → HasPlace above line
free-place (lines.Row head columns) h above = absurd (h.0 refl)
free-place (lines.Case term specimen) h above = absurd (h.1 refl)
free-place line h above = tt

free-step : (line : Line) (rest : List Line) → IsFree (rank line) → ArePlacedAnywhere rest
    → ArePlacedAnywhere (line ∷ rest)
free-step line rest h k = λ above. (free-place line h above, k (above ++ line ∷ []))

flat-placed : {X : Type 0} (f : X → List Line)
    → ((x : X) (rest : List Line) → ArePlacedAnywhere rest → ArePlacedAnywhere (f x ++ rest)) → (xs : List X)
    (tail : List Line) → ArePlacedAnywhere tail → ArePlacedAnywhere (flat_map f xs ++ tail)
flat-placed f each [] tail k = k
flat-placed f each (x ∷ xs) tail k =
    flat-front ArePlacedAnywhere f x xs tail (each x (flat_map f xs ++ tail) (flat-placed f each xs tail k))

-- ---- operators, each with its rows

rows-kept : (xs ys : List Line) → IsTrue (takes_rows xs) → IsTrue (takes_rows (xs ++ ys))
rows-kept [] ys h = absurd (false≢true h)
rows-kept (lines.Operator name phylum scope level made ∷ rest) ys h = refl
rows-kept (line ∷ rest) ys h = rows-kept rest ys h

behind-operator : (xs : List Line) (name phylum : Name) (scope : Bool) (level : Level) (made : List LineItem)
    → IsTrue (takes_rows (xs ++ lines.Operator name phylum scope level made ∷ []))
behind-operator [] name phylum scope level made = refl
behind-operator (lines.Operator _ _ _ _ _ ∷ rest) name phylum scope level made = refl
behind-operator (line ∷ rest) name phylum scope level made = behind-operator rest name phylum scope level made

rows-placed : (def : Definition) (rows : List Row) (rest above : List Line) → ArePlacedAnywhere rest
    → IsTrue (takes_rows above) → ArePlaced above (map (row_line def) rows ++ rest)
rows-placed def [] rest above k h = k above
rows-placed def (row ∷ rows) rest above k h =
    let line = row_line def row in
    (h, rows-placed def rows rest (above ++ line ∷ []) k (rows-kept above (line ∷ []) h))

operator-placed : (def : Definition) (o : Operator) (rest : List Line) → ArePlacedAnywhere rest
    → ArePlacedAnywhere (operator_lines def o ++ rest)
operator-placed def o rest k = λ above.
    (let phylum = kind_name def (kinds.Phylum o.phylum) in
    let made = map (item_written def) o.items in
    let line = lines.Operator o.name phylum o.scope o.level made in
    let behind = behind-operator above o.name phylum o.scope o.level made in
    (tt, rows-placed def o.rows rest (above ++ line ∷ []) k behind))

-- ---- hole rows, each with its cases

cases-kept : (so_far : Bool) (xs : List Line) (term : WrittenTerm) (specimen : WrittenTree)
    → IsTrue (takes_cases so_far xs) → IsTrue (takes_cases so_far (xs ++ lines.Case term specimen ∷ []))
cases-kept so_far [] term specimen h = h
cases-kept so_far (lines.Hole _ _ None ∷ rest) term specimen h = cases-kept true rest term specimen h
cases-kept so_far (lines.Hole _ _ (Some tree) ∷ rest) term specimen h = cases-kept false rest term specimen h
cases-kept so_far (line ∷ rest) term specimen h = cases-kept so_far rest term specimen h

behind-hole : (so_far : Bool) (xs : List Line) (kind : Name) (term : WrittenTerm)
    → IsTrue (takes_cases so_far (xs ++ lines.Hole kind term None ∷ []))
behind-hole so_far [] kind term = refl
behind-hole so_far (lines.Hole _ _ None ∷ rest) kind term = behind-hole true rest kind term
behind-hole so_far (lines.Hole _ _ (Some tree) ∷ rest) kind term = behind-hole false rest kind term
behind-hole so_far (line ∷ rest) kind term = behind-hole so_far rest kind term

cases-placed : (def : Definition) (cases : List Case) (rest above : List Line) → ArePlacedAnywhere rest
    → IsTrue (takes_cases false above) → ArePlaced above (map (case_line def) cases ++ rest)
cases-placed def [] rest above k h = k above
cases-placed def (one ∷ cases) rest above k h =
    let line = case_line def one in
    let still = cases-kept false above (term_written def one.term) (tree_written def one.specimen) h in
    (h, cases-placed def cases rest (above ++ line ∷ []) k still)

hole-placed : (def : Definition) (row : HoleRow) (rest : List Line) → ArePlacedAnywhere rest
    → ArePlacedAnywhere (hole_lines def row ++ rest)
hole-placed def row rest k = λ above.
    (let kind = kind_name def row.kind in
    let term = term_written def row.term in
    let line = lines.Hole kind term None in
    (tt, cases-placed def row.cases rest (above ++ line ∷ []) k (behind-hole false above kind term)))

-- ---- all lines

lines-placed : (def : Definition) → ArePlacedAnywhere (lines_of def)
lines-placed def =
    let last = last-blocks 8 IsFree ArePlacedAnywhere free-step def
    (λ r h. ((λ e. omega (arith, h, e)), (λ e. omega (arith, h, e)))) (λ above. tt) in
    let holes = flat-placed (hole_lines def) (hole-placed def) def.hole_rows (from_declares def) last in
    let lists = some-blocks 5 2 IsFree ArePlacedAnywhere free-step def
    (λ r h l. ((λ e. omega (arith, h, e)), (λ e. omega (arith, l, e)))) holes in
    first-blocks 4 IsFree ArePlacedAnywhere free-step def
    (λ r h. ((λ e. omega (arith, h, e)), (λ e. omega (arith, h, e))))
    (flat-placed (operator_lines def) (operator-placed def) def.operators (from_nils def) lists)

-- a row stands behind an operator, a case behind a hole row whose cases stand on lines of their own
pub written_places : (def : Definition) (front : List Line) (line : Line) (behind : List Line)
    → lines_of def ≡ front ++ line ∷ behind → HasPlace front line
written_places def front line behind e =
    placed-split [] front line behind (subst (ArePlaced []) e (lines-placed def []))

-- ---- ranks

-- behind any line of at most that rank
abbrev IsRankedFrom : ℕ → List Line → Type 0
IsRankedFrom n ls = (low : ℕ) → low ≤ n → IsRanked low ls

ranked-block : (r : ℕ) (xs rest : List Line) → AllByRecursion (HasRank r) xs → IsRankedFrom r rest
    → IsRankedFrom r (xs ++ rest)
ranked-block r [] rest h k = k
ranked-block r (x ∷ xs) rest h k = λ low le.
    (let e : rank x ≡ r = h.0 in (omega (arith, le, e), ranked-block r xs rest h.1 k (rank x) (omega (arith, e))))

ranked-all : (r : ℕ) (xs : List Line) → AllByRecursion (HasRank r) xs → IsRankedFrom r xs
ranked-all r [] h = λ low le. tt
ranked-all r (x ∷ xs) h = λ low le.
    (let e : rank x ≡ r = h.0 in (omega (arith, le, e), ranked-all r xs h.1 (rank x) (omega (arith, e))))

rising : (r : ℕ) (bs : List (List Line)) → AreRanked r bs → IsRankedFrom r (joined bs)
rising r [] h = λ low le. tt
rising r (b ∷ []) h = ranked-all r b h.0
rising r (b ∷ c ∷ rest) h =
    ranked-block r b (joined (c ∷ rest)) h.0 (λ low le. rising (suc r) (c ∷ rest) h.1 low (omega (arith, le)))

-- the ranks do not fall
pub written_ranked : (def : Definition) → IsRanked 0 (lines_of def)
written_ranked def = rising 0 (blocks def) (ranked def) 0 (omega arith)

-- ---- the cases of a hole row are on lines of their own

has-none : (line : Line) → rank line ≢ 7 → HasCasesBehind line
has-none (lines.Hole kind term specimen) h = absurd (h refl)
has-none line h = tt

abbrev HaveCases : List Line → Type 0
HaveCases ls = AllByRecursion HasCasesBehind ls

cases-step : (line : Line) (rest : List Line) → rank line ≢ 7 → HaveCases rest → HaveCases (line ∷ rest)
cases-step line rest free h = (has-none line free, h)

pub written_cases : (def : Definition) → HaveCases (lines_of def)
written_cases def =
    let last = last-blocks 8 (λ r. r ≢ 7) HaveCases cases-step def (λ r h e. omega (arith, h, e)) tt in
    let own = flat-all HasCasesBehind (hole_lines def)
    (λ h. (refl, map-all HasCasesBehind (case_line def) (λ c. tt) h.cases)) def.hole_rows in
    first-blocks 7 (λ r. r ≢ 7) HaveCases cases-step def (λ r h e. omega (arith, h, e))
    (each_append HasCasesBehind (flat_map (hole_lines def) def.hole_rows) (from_declares def) own last)
