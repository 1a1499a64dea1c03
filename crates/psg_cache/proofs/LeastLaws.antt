-- A change takes no more evaluations than the new tree made from nothing.
use Rattle.std.proofs.Common.{◌≡◌, inl, inr, ℕ, zero, suc, ◌+◌, ◌≤◌, Bool, true, false, cond, length, ap, arith}
use Rattle.std.proofs.lemmas.Bool.{cases_Bool}
use Rattle.psg_grammar.specs.declared.types.Definition.{Definition}
use Rattle.psg_grammar.specs.Fragments.{Fragment, hole, ending, cell, operator, with_child, with_name, with_number, with_text, anything, observed, children_of, top_operator}
use Rattle.psg_grammar.specs.Paths.{IsList}
use Rattle.psg_grammar.specs.Same.{same_tree}
use Rattle.psg_grammar.specs.Work.{work_of, works_of}
use Rattle.psg_cache.specs.Diff.{agree, diff_below, diff_cells, diff_of, last_differing, list_number, place_before, same_some}
use Rattle.psg_cache.specs.Notes.{IsFormed}
use Rattle.psg_cache.proofs.Counting.{work_split}
use Rattle.psg_cache.proofs.PairLaws.{list_of_kind, same_both, spine_of, works_list}
use Rattle.psg_cache.proofs.RealTrees.{IsReal, IsSpine, real}
use Rattle.psg_cache.proofs.RenoteLaws.{list_evaluations}

some_work : (f : Fragment) → 1 ≤ work_of f
some_work (hole p) = omega arith
some_work (ending l u) = omega arith
some_work (cell l e r) = omega arith
some_work (operator o) = omega arith
some_work (with_child f t) = omega (arith, some_work f)
some_work (with_name f n) = some_work f
some_work (with_number f n) = some_work f
some_work (with_text f t) = some_work f
some_work anything = omega arith
some_work (observed f) = some_work f

-- ---- cells

place_most : (b : Bool) (n : ℕ) → place_before b n ≤ n + 1
place_most true zero = omega arith
place_most false zero = omega arith
place_most true (suc n) = omega arith
place_most false (suc n) = omega arith

last_most : (f g : Fragment) → last_differing f g ≤ length (children_of g)
last_most (cell l e r) (cell k d s) =
    omega (arith, place_most (same_tree e d) (last_differing r s), last_most r s)
last_most (cell l e r) (hole q) = omega arith
last_most (cell l e r) (ending k v) = omega arith
last_most (cell l e r) (operator b) = omega arith
last_most (cell l e r) (with_child g x) = omega arith
last_most (cell l e r) (with_name g m) = omega arith
last_most (cell l e r) (with_number g m) = omega arith
last_most (cell l e r) (with_text g x) = omega arith
last_most (cell l e r) anything = omega arith
last_most (cell l e r) (observed g) = omega arith
last_most (hole p) g = omega arith
last_most (ending l u) g = omega arith
last_most (operator o) g = omega arith
last_most (with_child f t) g = omega arith
last_most (with_name f n) g = omega arith
last_most (with_number f n) g = omega arith
last_most (with_text f t) g = omega arith
last_most anything g = omega arith
last_most (observed f) g = omega arith

cells_most : (f g : Fragment) → diff_cells f g ≤ length (children_of g) + 1
cells_most f g =
    elim (cases_Bool (agree f g)) [
      | inl e ↦
          let put : diff_cells f g ≡ last_differing f g =
          ap (λ b. cond b (last_differing f g) (length (children_of g) + 1)) e in
          omega (arith, put, last_most f g)
      | inr e ↦
          let put : diff_cells f g ≡ length (children_of g) + 1 =
          ap (λ b. cond b (last_differing f g) (length (children_of g) + 1)) e in
          omega (arith, put)
    ]

-- a list takes its elements, its cells and its end
list_work : (g : Fragment) → IsReal g → IsList g → work_of g ≡ works_of g + (length (children_of g) + 1)
list_work g is list =
    omega (arith, work_split g, works_list g is list, list_evaluations g is list)

-- ---- what is below, and the whole

-- less than an operator takes, and no more than the elements of a list take
abbrev IsLeastBelow : Fragment → Fragment → Type 0
IsLeastBelow f g = (IsSpine g → diff_below f g + 1 ≤ work_of g) × (IsList g → diff_below f g ≤ works_of g)

below_bound : (f g : Fragment) → IsReal g → IsLeastBelow f g → diff_of f g ≤ work_of g
below_bound f g is least =
    let tops : Bool = same_some (top_operator f) (top_operator g) in
    let lists : Bool = same_some (list_number f) (list_number g) in
    let below : ℕ = diff_below f g in
    let list : ℕ = cond lists (below + diff_cells f g) (work_of g) in
    elim (cases_Bool (same_tree f g)) [
      | inl e ↦
          let none : diff_of f g ≡ 0 = ap (λ b. cond b 0 (cond tops (below + 1) list)) e in
          omega (arith, none)
      | inr e ↦
          let other : diff_of f g ≡ cond tops (below + 1) list = ap (λ b. cond b 0 (cond tops (below + 1) list)) e in
          elim (cases_Bool tops) [
            | inl o ↦
                let one : cond tops (below + 1) list ≡ below + 1 = ap (λ b. cond b (below + 1) list) o in
                let (number, mine, its) = same_both (top_operator f) (top_operator g) o in
                let node = least.0 (spine_of g number is its) in
                omega (arith, other, one, node)
            | inr o ↦
                let one : cond tops (below + 1) list ≡ list = ap (λ b. cond b (below + 1) list) o in
                elim (cases_Bool lists) [
                  | inl k ↦
                      let two : list ≡ below + diff_cells f g = ap (λ b. cond b (below + diff_cells f g) (work_of g)) k in
                      let (number, mine, its) = same_both (list_number f) (list_number g) k in
                      let is_list = (list_of_kind g number its).0 in
                      let elements = least.1 is_list in
                      omega (arith, other, one, two, elements, cells_most f g, list_work g is is_list)
                  | inr k ↦
                      let two : list ≡ work_of g = ap (λ b. cond b (below + diff_cells f g) (work_of g)) k in
                      omega (arith, other, one, two)
                ]
          ]
    ]

below_least : (f g : Fragment) → IsReal g → IsLeastBelow f g
below_least f (hole q) is = (λ spine. absurd spine, λ list. absurd list)
below_least f anything is = absurd is
below_least f (observed g) is = absurd is
below_least (hole p) (operator b) is = (λ spine. omega arith, λ list. absurd list)
below_least (ending l u) (operator b) is = (λ spine. omega arith, λ list. absurd list)
below_least (cell l e r) (operator b) is = (λ spine. omega arith, λ list. absurd list)
below_least (operator o) (operator b) is = (λ spine. omega arith, λ list. absurd list)
below_least (with_child f t) (operator b) is = (λ spine. omega arith, λ list. absurd list)
below_least (with_name f n) (operator b) is = (λ spine. omega arith, λ list. absurd list)
below_least (with_number f n) (operator b) is = (λ spine. omega arith, λ list. absurd list)
below_least (with_text f t) (operator b) is = (λ spine. omega arith, λ list. absurd list)
below_least anything (operator b) is = (λ spine. omega arith, λ list. absurd list)
below_least (observed f) (operator b) is = (λ spine. omega arith, λ list. absurd list)
below_least (hole p) (ending k v) is = (λ spine. absurd spine, λ list. omega arith)
below_least (ending l u) (ending k v) is = (λ spine. absurd spine, λ list. omega arith)
below_least (cell l e r) (ending k v) is = (λ spine. absurd spine, λ list. omega arith)
below_least (operator o) (ending k v) is = (λ spine. absurd spine, λ list. omega arith)
below_least (with_child f t) (ending k v) is = (λ spine. absurd spine, λ list. omega arith)
below_least (with_name f n) (ending k v) is = (λ spine. absurd spine, λ list. omega arith)
below_least (with_number f n) (ending k v) is = (λ spine. absurd spine, λ list. omega arith)
below_least (with_text f t) (ending k v) is = (λ spine. absurd spine, λ list. omega arith)
below_least anything (ending k v) is = (λ spine. absurd spine, λ list. omega arith)
below_least (observed f) (ending k v) is = (λ spine. absurd spine, λ list. omega arith)
below_least (hole p) (cell k d s) is = (λ spine. absurd spine, λ list. omega arith)
below_least (ending l u) (cell k d s) is = (λ spine. absurd spine, λ list. omega arith)
below_least (cell l e r) (cell k d s) is =
    let one = below_bound e d is.0 (below_least e d is.0) in
    let rest = (below_least r s is.1).1 is.2 in
    (λ spine. absurd spine, λ list. omega (arith, one, rest))
below_least (operator o) (cell k d s) is = (λ spine. absurd spine, λ list. omega arith)
below_least (with_child f t) (cell k d s) is = (λ spine. absurd spine, λ list. omega arith)
below_least (with_name f n) (cell k d s) is = (λ spine. absurd spine, λ list. omega arith)
below_least (with_number f n) (cell k d s) is = (λ spine. absurd spine, λ list. omega arith)
below_least (with_text f t) (cell k d s) is = (λ spine. absurd spine, λ list. omega arith)
below_least anything (cell k d s) is = (λ spine. absurd spine, λ list. omega arith)
below_least (observed f) (cell k d s) is = (λ spine. absurd spine, λ list. omega arith)
below_least (hole p) (with_child g x) is = (λ spine. omega (arith, some_work g), λ list. absurd list)
below_least (ending l u) (with_child g x) is = (λ spine. omega (arith, some_work g), λ list. absurd list)
below_least (cell l e r) (with_child g x) is = (λ spine. omega (arith, some_work g), λ list. absurd list)
below_least (operator o) (with_child g x) is = (λ spine. omega (arith, some_work g), λ list. absurd list)
below_least (with_child f t) (with_child g x) is =
    let one = below_bound t x is.1 (below_least t x is.1) in
    let front = (below_least f g is.0).0 is.2 in
    (λ spine. omega (arith, one, front), λ list. absurd list)
below_least (with_name f n) (with_child g x) is = (λ spine. omega (arith, some_work g), λ list. absurd list)
below_least (with_number f n) (with_child g x) is = (λ spine. omega (arith, some_work g), λ list. absurd list)
below_least (with_text f t) (with_child g x) is = (λ spine. omega (arith, some_work g), λ list. absurd list)
below_least anything (with_child g x) is = (λ spine. omega (arith, some_work g), λ list. absurd list)
below_least (observed f) (with_child g x) is = (λ spine. omega (arith, some_work g), λ list. absurd list)
below_least (hole p) (with_name g m) is = (λ spine. omega (arith, some_work g), λ list. absurd list)
below_least (ending l u) (with_name g m) is = (λ spine. omega (arith, some_work g), λ list. absurd list)
below_least (cell l e r) (with_name g m) is = (λ spine. omega (arith, some_work g), λ list. absurd list)
below_least (operator o) (with_name g m) is = (λ spine. omega (arith, some_work g), λ list. absurd list)
below_least (with_child f t) (with_name g m) is = (λ spine. omega (arith, some_work g), λ list. absurd list)
below_least (with_name f n) (with_name g m) is = (λ spine. (below_least f g is.0).0 spine, λ list. absurd list)
below_least (with_number f n) (with_name g m) is = (λ spine. omega (arith, some_work g), λ list. absurd list)
below_least (with_text f t) (with_name g m) is = (λ spine. omega (arith, some_work g), λ list. absurd list)
below_least anything (with_name g m) is = (λ spine. omega (arith, some_work g), λ list. absurd list)
below_least (observed f) (with_name g m) is = (λ spine. omega (arith, some_work g), λ list. absurd list)
below_least (hole p) (with_number g m) is = (λ spine. omega (arith, some_work g), λ list. absurd list)
below_least (ending l u) (with_number g m) is = (λ spine. omega (arith, some_work g), λ list. absurd list)
below_least (cell l e r) (with_number g m) is = (λ spine. omega (arith, some_work g), λ list. absurd list)
below_least (operator o) (with_number g m) is = (λ spine. omega (arith, some_work g), λ list. absurd list)
below_least (with_child f t) (with_number g m) is = (λ spine. omega (arith, some_work g), λ list. absurd list)
below_least (with_name f n) (with_number g m) is = (λ spine. omega (arith, some_work g), λ list. absurd list)
below_least (with_number f n) (with_number g m) is = (λ spine. (below_least f g is.0).0 spine, λ list. absurd list)
below_least (with_text f t) (with_number g m) is = (λ spine. omega (arith, some_work g), λ list. absurd list)
below_least anything (with_number g m) is = (λ spine. omega (arith, some_work g), λ list. absurd list)
below_least (observed f) (with_number g m) is = (λ spine. omega (arith, some_work g), λ list. absurd list)
below_least (hole p) (with_text g x) is = (λ spine. omega (arith, some_work g), λ list. absurd list)
below_least (ending l u) (with_text g x) is = (λ spine. omega (arith, some_work g), λ list. absurd list)
below_least (cell l e r) (with_text g x) is = (λ spine. omega (arith, some_work g), λ list. absurd list)
below_least (operator o) (with_text g x) is = (λ spine. omega (arith, some_work g), λ list. absurd list)
below_least (with_child f t) (with_text g x) is = (λ spine. omega (arith, some_work g), λ list. absurd list)
below_least (with_name f n) (with_text g x) is = (λ spine. omega (arith, some_work g), λ list. absurd list)
below_least (with_number f n) (with_text g x) is = (λ spine. omega (arith, some_work g), λ list. absurd list)
below_least (with_text f t) (with_text g x) is = (λ spine. (below_least f g is.0).0 spine, λ list. absurd list)
below_least anything (with_text g x) is = (λ spine. omega (arith, some_work g), λ list. absurd list)
below_least (observed f) (with_text g x) is = (λ spine. omega (arith, some_work g), λ list. absurd list)

-- for a well-formed new tree, whatever the old one is
pub no_more_than_anew : (def : Definition) (f g : Fragment) → IsFormed def g → diff_of f g ≤ work_of g
no_more_than_anew def f g formed =
    let is = real def g formed in below_bound f g is (below_least f g is)
