-- Relations with columns of keys, and the last step of a scope, which has those of the keys that pass outward alone.
use Rattle.std.proofs.Common.{◌≡◌, ◌++◌, ◌∙◌, ℕ, false, List, [], ◌∷◌, refl, sym, ap, subst, lit<, lit≤, true≢false, arith}
use Rattle.psg_terms.specs.Terms.{Term, variable}
use Rattle.psg_terms.specs.Signature.{HasSort}
use Rattle.psg_terms.specs.Instances.{substitute, IsGroundInstance}
use Rattle.psg_grammar.specs.declared.types.Row.{Row}
use Rattle.psg_grammar.specs.Fragments.{Fragment, ending, cell}
use Rattle.psg_grammar.specs.Keys.{in_order}
use Rattle.psg_grammar.specs.Regions.{names_of, names_inside}
use Rattle.psg_grammar.specs.Legal.{Entities, AreEntities}
use Rattle.psg_grammar.specs.Open.{Choice, Holds}
use Rattle.psg_grammar.specs.Relations.{IsPossible, IsPossibleInside, IsRelationOf, IsInsideRelationOf}
use Rattle.psg_grammar.specs.Steps.{last_step, IsStepRelation, adding, closing}
use Rattle.psg_grammar.proofs.CaseLanguage.{spaces, sig, ok, int, op_blk, op_let, op_ref, list_items, block, let_of, ref_to}
use Rattle.psg_tests_languages.proofs.CaseNeeds.{x, y, IsType, int_type, ok_sorted, entities_by, are_entities, terms_by, grounding, ok_row, cell_row, let_row, ref_row, only_row, use_is_name, let_is_value}
use Rattle.psg_tests_languages.proofs.CaseOneRow.{one_row}

all_are : (t : Term) → IsType t → AreEntities spaces (entities_by (λ n. t))
all_are t type = are_entities spaces refl refl (λ n. t) (λ n. type)

any_sorted : HasSort sig (variable 1 1) 1
any_sorted = (lit< tt, refl, refl)

-- ---- a use: its value, and that of its name

abbrev pub use_row : List Term
use_row = variable 1 1 ∷ variable 1 1 ∷ []

use_keys : names_of spaces (ref_to x) ≡ (0 ∷ x) ∷ []
use_keys = refl

pub use_possible : (t : Term) → IsType t → IsPossible spaces (ref_to x) 0 (t ∷ t ∷ [])
use_possible t type = record {
  distinct = (refl, tt);
  outside = entities_by (λ n. t);
  entities = all_are t type;
  value = t;
  seen = [];
  judged = record {
    inner = entities_by (λ n. t);
    entities = all_are t type;
    agree = refl;
    holds = (refl, record { op = op_ref; found = refl; row = _; chosen = refl; value = ref_row t type });
  };
  columns_are = refl;
}

-- the value and the entity are the same, whatever row is chosen
use_only : (k : ℕ) (columns : List Term) → IsPossible spaces (ref_to x) k columns → IsGroundInstance sig use_row columns
use_only k columns p =
    let (seen, h) = p.judged.holds in
    let row : h.row ≡ _ = only_row spaces 4 op_ref h.op _ h.row k refl refl h.found h.chosen in
    let t : Term = h.value.terms 1 1 in
    let value : p.value ≡ t = h.value.head ∙ ap (λ (r : Row). substitute h.value.terms r.head) row in
    let inner : p.judged.inner (0 ∷ x) ≡ t = sym (use_is_name h.row p.value (p.judged.inner (0 ∷ x)) row h.value) ∙ value in
    let outer : p.outside (0 ∷ x) ≡ t = ap (λ (e : Entities). e (0 ∷ x)) (sym p.judged.agree) ∙ inner in
    let made : (p.value ∷ p.seen) ++ p.outside (0 ∷ x) ∷ [] ≡ t ∷ t ∷ [] = cc in
    (h.value.terms, h.value.grounding, p.columns_are ∙ made)

-- One row, whose value and entity are one variable.
pub use_relation : IsRelationOf spaces (ref_to x) (use_row ∷ [])
use_relation = (
  1 ∷ 1 ∷ [],
  one_row sig (1 ∷ 1 ∷ []) ℕ (IsPossible spaces (ref_to x)) use_row
      record { numbered = (refl, tt); written = (refl, (refl, tt)) }
      (any_sorted, (any_sorted, tt)) 0 (int ∷ int ∷ [], use_possible int int_type)
      (λ columns (f, g, e). subst (IsPossible spaces (ref_to x) 0) (sym e) (use_possible (f 1 1) record { ground = g.variable_free 1 1 (lit< tt); sorted = g.sorted 1 1 (lit< tt) }))
      use_only,
)

-- ---- `{ let x = y }`

abbrev pub linked : Fragment
linked = block (cell 0 (let_of x (ref_to y)) (ending 0 false))

-- inside there are x and y, and y alone passes outward
linked_keys : (in_order (names_inside spaces linked) ≡ (0 ∷ x) ∷ (0 ∷ y) ∷ []) × (names_of spaces linked ≡ (0 ∷ y) ∷ []) × (last_step spaces linked ≡ 2)
linked_keys = (refl, refl, refl)

abbrev chosen : Choice linked
chosen = (0, (0, (0, 0), 0))

linked_holds : (t : Term) → IsType t → Holds spaces (entities_by (λ n. t)) linked chosen [] ok [] []
linked_holds t type = (
  ok,
  [],
  entities_by (λ n. t),
  (refl, record { op = op_blk; found = refl; row = _; chosen = refl; value = ok_row }),
  all_are t type,
  refl,
  (
    refl,
    ok,
    ok,
    [],
    entities_by (λ n. t),
    record { kind = list_items; list = refl; row = _; chosen = refl; value = cell_row },
    all_are t type,
    refl,
    (
      t,
      [],
      entities_by (λ n. t),
      (refl, record { op = op_let; found = refl; row = _; chosen = refl; value = let_row t type }),
      all_are t type,
      refl,
      (refl, record { op = op_ref; found = refl; row = _; chosen = refl; value = ref_row t type }),
    ),
    (refl, refl, record { kind = list_items; list = refl; row = ok; chosen = refl; value = (ok_row.terms, ok_row.grounding, refl) }),
  ),
)

-- the value is ok, no node is observed, and x is what y is
record IsLinked (g : Entities) (v : Term) (seen : List Term) : Type 0 where
  value : v ≡ ok
  unseen : seen ≡ []
  same : g (0 ∷ x) ≡ g (0 ∷ y)

linked_only : (g : Entities) (c : Choice linked) (v : Term) (seen : List Term) → Holds spaces g linked c [] v seen [] → IsLinked g v seen
linked_only g c v seen
    (u, mid, g1, (s0, h), ent, e1, (none, head, others, mid2, g2, of_cell, ent2, e2, (w, mid3, g3, (s1, hl), ent3, e3, (s2, hr)), (none3, s3, of_end))) =
    let block_row : h.row ≡ _ = only_row spaces 0 op_blk h.op _ h.row c.0 refl refl h.found h.chosen in
    let let_same : g2 (0 ∷ x) ≡ w = let_is_value hl.row head (g2 (0 ∷ x)) w (only_row spaces 1 op_let hl.op _ hl.row c.1.1.0 refl refl hl.found hl.chosen) hl.value in
    let use_same : w ≡ g3 (0 ∷ y) = use_is_name hr.row w (g3 (0 ∷ y)) (only_row spaces 4 op_ref hr.op _ hr.row c.1.1.1 refl refl hr.found hr.chosen) hr.value in
    let x_is : g2 (0 ∷ x) ≡ g (0 ∷ x) = ap (λ (e : Entities). e (0 ∷ x)) (e2 ∙ e1) in
    let y_is : g3 (0 ∷ y) ≡ g (0 ∷ y) = ap (λ (e : Entities). e (0 ∷ y)) (e3 ∙ e2 ∙ e1) in
    record {
      value = h.value.head ∙ ap (λ (r : Row). substitute h.value.terms r.head) block_row;
      unseen = s0 ∙ s1 ∙ s2 ∙ s3;
      same = sym x_is ∙ let_same ∙ use_same ∙ y_is;
    }

-- ---- the step of the only child: x has a column

abbrev pub inside_row : List Term
inside_row = ok ∷ variable 1 1 ∷ variable 1 1 ∷ []

inside_possible : (t : Term) → IsType t → IsPossibleInside spaces linked chosen (ok ∷ t ∷ t ∷ [])
inside_possible t type = record {
  distinct = (refl, (tt, ((tt, tt, (λ e. refl)), (λ e. refl), tt), (λ e. refl)));
  inside = entities_by (λ n. t);
  entities = all_are t type;
  value = ok;
  seen = [];
  holds = linked_holds t type;
  columns_are = refl;
}

inside_only : (c : Choice linked) (columns : List Term) → IsPossibleInside spaces linked c columns → IsGroundInstance sig inside_row columns
inside_only c columns p =
    let only = linked_only p.inside c p.value p.seen p.holds in
    let t : Term = p.inside (0 ∷ y) in
    let type : IsType t = record { ground = p.entities.ground (0 ∷ y); sorted = p.entities.sorted (0 ∷ y) _ refl } in
    let value = only.value in
    let unseen = only.unseen in
    let same = only.same in
    let made : (p.value ∷ p.seen) ++ p.inside (0 ∷ x) ∷ t ∷ [] ≡ ok ∷ t ∷ t ∷ [] = rw (value, unseen, same) refl in
    (terms_by t, grounding t type, p.columns_are ∙ made)

inside_relation : IsInsideRelationOf spaces linked (inside_row ∷ [])
inside_relation = (
  0 ∷ 1 ∷ 1 ∷ [],
  one_row sig (0 ∷ 1 ∷ 1 ∷ []) (Choice linked) (IsPossibleInside spaces linked) inside_row
      record { numbered = (refl, tt); written = (tt, (refl, (refl, tt))) }
      (ok_sorted, (any_sorted, (any_sorted, tt))) chosen (ok ∷ int ∷ int ∷ [], inside_possible int int_type)
      (λ columns (f, g, e). subst (IsPossibleInside spaces linked chosen) (sym e) (inside_possible (f 1 1) record { ground = g.variable_free 1 1 (lit< tt); sorted = g.sorted 1 1 (lit< tt) }))
      inside_only,
)

pub inside_step : IsStepRelation spaces linked 1 (inside_row ∷ [])
inside_step = adding 1 (inside_row ∷ []) (lit≤ tt) inside_relation

-- ---- the last step: it has none

abbrev pub outside_row : List Term
outside_row = ok ∷ variable 1 1 ∷ []

outside_possible : (t : Term) → IsType t → IsPossible spaces linked chosen (ok ∷ t ∷ [])
outside_possible t type = record {
  distinct = (refl, (tt, ((tt, tt, (λ e. refl)), (λ e. refl), tt), (λ e. refl)));
  outside = entities_by (λ n. t);
  entities = all_are t type;
  value = ok;
  seen = [];
  judged = record { inner = entities_by (λ n. t); entities = all_are t type; agree = λ n u e. refl; holds = linked_holds t type };
  columns_are = refl;
}

outside_only : (c : Choice linked) (columns : List Term) → IsPossible spaces linked c columns → IsGroundInstance sig outside_row columns
outside_only c columns p =
    let only = linked_only p.judged.inner c p.value p.seen p.judged.holds in
    let t : Term = p.outside (0 ∷ y) in
    let type : IsType t = record { ground = p.entities.ground (0 ∷ y); sorted = p.entities.sorted (0 ∷ y) _ refl } in
    let value = only.value in
    let unseen = only.unseen in
    let made : (p.value ∷ p.seen) ++ t ∷ [] ≡ ok ∷ t ∷ [] = rw (value, unseen) refl in
    (terms_by t, grounding t type, p.columns_are ∙ made)

outside_relation : IsRelationOf spaces linked (outside_row ∷ [])
outside_relation = (
  0 ∷ 1 ∷ [],
  one_row sig (0 ∷ 1 ∷ []) (Choice linked) (IsPossible spaces linked) outside_row
      record { numbered = (refl, tt); written = (tt, (refl, tt)) }
      (ok_sorted, (any_sorted, tt)) chosen (ok ∷ int ∷ [], outside_possible int int_type)
      (λ columns (f, g, e). subst (IsPossible spaces linked chosen) (sym e) (outside_possible (f 1 1) record { ground = g.variable_free 1 1 (lit< tt); sorted = g.sorted 1 1 (lit< tt) }))
      outside_only,
)

pub last_of_scope : IsStepRelation spaces linked 2 (outside_row ∷ [])
last_of_scope = closing 2 (outside_row ∷ []) refl refl outside_relation

-- ---- without a scope there is no such step

no_step_after_use : (rows : List (List Term)) → IsStepRelation spaces (ref_to x) 1 rows → ⊥
no_step_after_use rows h = after 1 rows h refl where
  after : (n : ℕ) (rows : List (List Term)) → IsStepRelation spaces (ref_to x) n rows → n ≡ 1 → ⊥
  after n rows (adding m r few rel) e = absurd (omega arith)
  after n rows (closing m r is scope rel) e = true≢false (sym scope)
