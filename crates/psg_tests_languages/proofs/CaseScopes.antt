-- Entities inside a block and outside of it: another one for a name that it declares, the same for each other name.
use Rattle.std.proofs.Common.{◌≡◌, ◌||◌, zero, suc, Bool, true, false, cond, List, [], ◌∷◌, refl, sym, ap, ◌∙◌, true≢false, bytes_eq}
use Rattle.psg_terms.specs.Terms.{Term}
use Rattle.psg_terms.specs.Names.{is_among}
use Rattle.psg_grammar.specs.Fragments.{Fragment, ending, cell}
use Rattle.psg_grammar.specs.Keys.{Key}
use Rattle.psg_grammar.specs.Legal.{Entities, AreEntities, Legal, IsLegal}
use Rattle.psg_grammar.proofs.CaseLanguage.{ok, int, bool, row_of, op_blk, op_let, op_ref, op_yes, list_items, block, let_of, ref_to, yes}
use Rattle.psg_tests_languages.proofs.CaseNeeds.{needing, op_need, need, x, entities_by, are_entities, int_type, bool_type, IsType, ok_row, cell_row, yes_row, need_row, let_row, ref_row, only_row, needs_bool, use_is_name, int_no_bool}

-- outside, x is an int and each other value a bool
abbrev outside : Entities
outside = entities_by (λ n. cond (bytes_eq x n) int bool)

outer_type : (b : Bool) → IsType (cond b int bool)
outer_type true = int_type
outer_type false = bool_type

outside_are : AreEntities needing outside
outside_are = are_entities needing refl refl (λ n. cond (bytes_eq x n) int bool) (λ n. outer_type (bytes_eq x n))

-- inside, all values are
abbrev inside : Entities
inside = entities_by (λ n. bool)

inside_are : AreEntities needing inside
inside_are = are_entities needing refl refl (λ n. bool) (λ n. bool_type)

-- ---- `{ let x = yes ; need x }`

abbrev own : Fragment
own = block (cell 0 (let_of x yes) (cell 0 (need (ref_to x)) (ending 0 false)))

need_legal : Legal needing inside (need (ref_to x)) [] ok [] []
need_legal = (
  bool,
  [],
  inside,
  (refl, op_need, row_of ok (bool ∷ []), 0, refl, refl, need_row),
  inside_are,
  refl,
  (refl, op_ref, _, 0, refl, refl, ref_row bool bool_type),
)

let_legal : Legal needing inside (let_of x yes) [] ok [] []
let_legal = (
  bool,
  [],
  inside,
  (refl, op_let, _, 0, refl, refl, let_row bool bool_type),
  inside_are,
  refl,
  (refl, op_yes, _, 0, refl, refl, yes_row),
)

end_legal : Legal needing inside (ending 0 false) [] ok [] []
end_legal = (refl, refl, list_items, ok, 0, refl, refl, (ok_row.terms, ok_row.grounding, refl))

list_legal : Legal needing inside (cell 0 (let_of x yes) (cell 0 (need (ref_to x)) (ending 0 false))) [] ok [] []
list_legal = (
  refl,
  list_items,
  _,
  0,
  ok,
  ok,
  [],
  inside,
  refl,
  refl,
  cell_row,
  inside_are,
  refl,
  let_legal,
  (refl, list_items, _, 0, ok, ok, [], inside, refl, refl, cell_row, inside_are, refl, need_legal, end_legal),
)

own_inside : Legal needing inside own [] ok [] []
own_inside = (ok, [], inside, (refl, op_blk, _, 0, refl, refl, ok_row), inside_are, refl, list_legal)

-- only x is declared inside
agrees : (b : Bool) → (b || false) ≡ false → bool ≡ cond b int bool
agrees true e = absurd (true≢false e)
agrees false e = refl

apart : (n : Key) → is_among ((0 ∷ x) ∷ []) n ≡ false → inside n ≡ outside n
apart [] e = refl
apart (zero ∷ n) e = agrees (bytes_eq x n) e
apart (suc s ∷ n) e = refl

-- A block that declares x is legal where x is an int outside and a bool inside.
own_is_legal : IsLegal needing outside own ok []
own_is_legal = record { inner = inside; entities = inside_are; agree = apart; legal = own_inside }

differ : (outside (0 ∷ x) ≡ int) × (inside (0 ∷ x) ≡ bool)
differ = (refl, refl)

-- ---- `{ need x }`

-- need x holds where x is a bool alone
pub needs : (g : Entities) (v : Term) (before after : List Term) → Legal needing g (need (ref_to x)) [] v before after → g (0 ∷ x) ≡ bool
needs g v before after (u, mid, inner, (seen, op, row, r, found, chosen, of_row), ent, same, (seen2, op2, row2, r2, found2, chosen2, of_row2)) =
    let wanted : u ≡ bool = needs_bool row v u (only_row needing 7 op_need op _ row r refl refl found chosen) of_row in
    let used : u ≡ inner (0 ∷ x) = use_is_name row2 u (inner (0 ∷ x)) (only_row needing 4 op_ref op2 _ row2 r2 refl refl found2 chosen2) of_row2 in
    ap (λ (e : Entities). e (0 ∷ x)) (sym same) ∙ sym used ∙ wanted

-- A block that does not declare x is illegal where x is an int outside, whatever else the entities are.
must_agree : (g : Entities) (v : Term) → g (0 ∷ x) ≡ int → IsLegal needing g (block (cell 0 (need (ref_to x)) (ending 0 false))) v [] → ⊥
must_agree g v e h =
    let (u, mid, inner, of_block, ent, same, (none, kind, row, r, first, others, mid2, inner2, list, chosen, of_cell, ent2, same2, used, end)) = h.legal in
    let inside_is : inner2 (0 ∷ x) ≡ bool = needs inner2 first mid mid2 used in
    let outside_is : h.inner (0 ∷ x) ≡ int = h.agree (0 ∷ x) refl ∙ e in
    let one : inner (0 ∷ x) ≡ h.inner (0 ∷ x) = ap (λ (e : Entities). e (0 ∷ x)) same in
    let two : inner2 (0 ∷ x) ≡ inner (0 ∷ x) = ap (λ (e : Entities). e (0 ∷ x)) same2 in
    int_no_bool (sym outside_is ∙ sym one ∙ sym two ∙ inside_is)

-- and it is legal where x is a bool outside
agreeing : IsLegal needing inside (block (cell 0 (need (ref_to x)) (ending 0 false))) ok []
agreeing = record {
  inner = inside;
  entities = inside_are;
  agree = λ n e. refl;
  legal = (
    ok,
    [],
    inside,
    (refl, op_blk, _, 0, refl, refl, ok_row),
    inside_are,
    refl,
    (refl, list_items, _, 0, ok, ok, [], inside, refl, refl, cell_row, inside_are, refl, need_legal, end_legal),
  );
}
