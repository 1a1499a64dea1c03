-- The weights of a list, its suffixes and its elements: a list counts once, as its first suffix.
use Rattle.std.proofs.Common.{◌≡◌, ◌∙◌, ◌++◌, ℕ, zero, suc, false, List, [], ◌∷◌, map, Some, refl, sym, ap, ap₂, subst, slice_get}
use Rattle.std.proofs.lemmas.Option.{none-some}
use Rattle.psg_terms.specs.Terms.{Term, symbol}
use Rattle.psg_terms.specs.Signature.{HasSort}
use Rattle.psg_terms.specs.Instances.{substitute, IsGroundInstance}
use Rattle.psg_grammar.specs.declared.types.Row.{Row}
use Rattle.psg_grammar.specs.declared.types.ListKind.{ListKind}
use Rattle.psg_grammar.specs.Fragments.{Fragment, ending, cell}
use Rattle.psg_grammar.specs.Regions.{names_of}
use Rattle.psg_grammar.specs.Legal.{Entities, AreEntities}
use Rattle.psg_grammar.specs.Open.{Choice, Holds}
use Rattle.psg_grammar.specs.Relations.{IsPossible, IsRelationOf}
use Rattle.psg_grammar.specs.Steps.{HasWeights, of_node, below_operator, below_ending, below_child, below_cell}
use Rattle.psg_grammar.proofs.CaseLanguage.{sig, ok, bool, row_of, list_items, op_yes, yes}
use Rattle.psg_tests_languages.proofs.CaseNeeds.{needing, op_need, need, bool_type, grounding, terms_by, ok_sorted, ok_row, cell_row, yes_row, need_row, entities_by, are_entities, only_row}
use Rattle.psg_tests_languages.proofs.CaseOneRow.{one_row}

abbrev bools : Entities
bools = entities_by (λ n. bool)

bools_are : AreEntities needing bools
bools_are = are_entities needing refl refl (λ n. bool) (λ n. bool_type)

-- the value is the constant, and no node is observed
abbrev Has : Fragment → ℕ → Type 0
Has f k = (g : Entities) (c : Choice f) (v : Term) (seen : List Term) → Holds needing g f c [] v seen [] → (v ≡ symbol k) × (seen ≡ [])

-- a fragment without names whose value is a constant has this one row
constant_relation : (f : Fragment) (k s : ℕ) → names_of needing f ≡ [] → HasSort sig (symbol k) s → Has f k → (c : Choice f) → IsPossible needing f c (symbol k ∷ []) → IsRelationOf needing f ((symbol k ∷ []) ∷ [])
constant_relation f k s none sorted has c possible = (
  s ∷ [],
  one_row sig (s ∷ []) (Choice f) (IsPossible needing f) (symbol k ∷ []) record { numbered = tt; written = (tt, tt) } (sorted, tt) c (symbol k ∷ [], possible)
      (λ columns (h, g, e). subst (IsPossible needing f c) (sym e) possible) only,
)
  where
    only : (d : Choice f) (columns : List Term) → IsPossible needing f d columns → IsGroundInstance sig (symbol k ∷ []) columns
    only d columns p =
        let (value, unseen) = has p.judged.inner d p.value p.seen p.judged.holds in
        let made : (p.value ∷ p.seen) ++ map p.outside (names_of needing f) ≡ symbol k ∷ [] = ap₂ (λ v ns. (v ∷ p.seen) ++ map p.outside ns) value none ∙ ap (λ s. (symbol k ∷ s) ++ []) unseen in
        (terms_by bool, grounding bool bool_type, p.columns_are ∙ made)

-- ---- `yes`, `need yes`, the end, and the list of the one element

yes_has : Has yes 2
yes_has g c v seen (unseen, h) = (h.value.head ∙ ap (λ (r : Row). substitute h.value.terms r.head) (only_row needing 6 op_yes h.op _ h.row c refl refl h.found h.chosen), unseen)

need_has : Has (need yes) 0
need_has g c v seen (u, mid, inner, (s1, h), ent, same, (s2, h2)) =
    (h.value.head ∙ ap (λ (r : Row). substitute h.value.terms r.head) (only_row needing 7 op_need h.op _ h.row c.0 refl refl h.found h.chosen), s1 ∙ s2)

only_list : (l : ListKind) → slice_get needing.lists 0 ≡ Some l → l ≡ list_items
only_list l e = let f : Some list_items ≡ Some l = e in cc

nil_is : (r : ℕ) (row : Term) → slice_get list_items.nil_rows r ≡ Some row → row ≡ ok
nil_is zero row e = let f : Some ok ≡ Some row = e in cc
nil_is (suc r) row e = absurd (none-some row e)

cell_is : (r : ℕ) (row : Row) → slice_get list_items.cell_rows r ≡ Some row → row ≡ row_of ok (ok ∷ ok ∷ [])
cell_is zero row e = let f : Some (row_of ok (ok ∷ ok ∷ [])) ≡ Some row = e in cc
cell_is (suc r) row e = absurd (none-some row e)

end_has : (g : Entities) (c : ℕ) (v : Term) (before after : List Term) → Holds needing g (ending 0 false) c [] v before after → (v ≡ ok) × (before ≡ after)
end_has g c v before after (none, unseen, h) =
    let (terms, ground, value) = h.value in
    let row : h.row ≡ ok = nil_is c h.row (subst (λ (l : ListKind). slice_get l.nil_rows c ≡ Some h.row) (only_list h.kind h.list) h.chosen) in
    (value ∙ ap (substitute terms) row, unseen)

abbrev list : Fragment
list = cell 0 (need yes) (ending 0 false)

list_has : Has list 0
list_has g c v seen (none, first, others, mid, inner, h, ent, same, (u, mid2, inner2, (s1, h2), ent2, same2, (s2, h3)), end) =
    let row : h.row ≡ row_of ok (ok ∷ ok ∷ []) = cell_is c.0 h.row (subst (λ (l : ListKind). slice_get l.cell_rows c.0 ≡ Some h.row) (only_list h.kind h.list) h.chosen) in
    let (value, s3) = end_has g c.2 others mid [] end in
    (h.value.head ∙ ap (λ (r : Row). substitute h.value.terms r.head) row, s1 ∙ s2 ∙ s3)

yes_holds : Holds needing bools yes 0 [] bool [] []
yes_holds = (refl, record { op = op_yes; found = refl; row = _; chosen = refl; value = yes_row })

need_holds : Holds needing bools (need yes) (0, 0) [] ok [] []
need_holds = (bool, [], bools, (refl, record { op = op_need; found = refl; row = _; chosen = refl; value = need_row }), bools_are, refl, yes_holds)

end_holds : Holds needing bools (ending 0 false) 0 [] ok [] []
end_holds = (refl, refl, record { kind = list_items; list = refl; row = ok; chosen = refl; value = (ok_row.terms, ok_row.grounding, refl) })

list_holds : Holds needing bools list (0, (0, 0), 0) [] ok [] []
list_holds = (refl, ok, ok, [], bools, record { kind = list_items; list = refl; row = _; chosen = refl; value = cell_row }, bools_are, refl, need_holds, end_holds)

bool_sorted : HasSort sig bool 1
bool_sorted = bool_type.sorted

yes_relation : IsRelationOf needing yes ((bool ∷ []) ∷ [])
yes_relation = constant_relation yes 2 1 refl bool_sorted yes_has 0 record { distinct = (refl, tt); outside = bools; entities = bools_are; value = bool; seen = []; judged = record { inner = bools; entities = bools_are; agree = refl; holds = yes_holds }; columns_are = refl }

need_relation : IsRelationOf needing (need yes) ((ok ∷ []) ∷ [])
need_relation = constant_relation (need yes) 0 0 refl ok_sorted need_has (0, 0) record { distinct = (refl, (tt, tt, (λ e. refl))); outside = bools; entities = bools_are; value = ok; seen = []; judged = record { inner = bools; entities = bools_are; agree = refl; holds = need_holds }; columns_are = refl }

end_relation : IsRelationOf needing (ending 0 false) ((ok ∷ []) ∷ [])
end_relation = constant_relation (ending 0 false) 0 0 refl ok_sorted (λ g c v seen h. end_has g c v seen [] h) 0 record { distinct = (refl, tt); outside = bools; entities = bools_are; value = ok; seen = []; judged = record { inner = bools; entities = bools_are; agree = refl; holds = end_holds }; columns_are = refl }

list_relation : IsRelationOf needing list ((ok ∷ []) ∷ [])
list_relation = constant_relation list 0 0 refl ok_sorted list_has (0, (0, 0), 0) record { distinct = (refl, ((tt, tt, (λ e. refl)), (λ e. refl), tt)); outside = bools; entities = bools_are; value = ok; seen = []; judged = record { inner = bools; entities = bools_are; agree = refl; holds = list_holds }; columns_are = refl }

-- `yes` 1, `need yes` 1, the end 1, and the list 1
four : HasWeights needing list 4
four = of_node 3 ((ok ∷ []) ∷ []) (below_cell 2 1 (of_node 1 ((ok ∷ []) ∷ []) (below_child 0 1 below_operator (of_node 0 ((bool ∷ []) ∷ []) below_operator yes_relation)) need_relation) (of_node 0 ((ok ∷ []) ∷ []) below_ending end_relation)) list_relation
