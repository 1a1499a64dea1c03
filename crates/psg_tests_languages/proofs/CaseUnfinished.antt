-- A use in a block whose list may still declare the name, and the same in a block whose list is finished.
use Rattle.std.proofs.Common.{◌≡◌, zero, suc, Bool, true, false, List, [], ◌∷◌, refl, sym, ap, ◌∙◌, true≢false}
use Rattle.psg_terms.specs.Terms.{Term}
use Rattle.psg_grammar.specs.Fragments.{Fragment, ending, cell}
use Rattle.psg_grammar.specs.Keys.{Key, space_of}
use Rattle.psg_grammar.specs.Regions.{unfinished_inside}
use Rattle.psg_grammar.specs.Legal.{Entities, AreEntities}
use Rattle.psg_grammar.specs.Open.{Choice, Holds, IsOpen, IsOfCellRow}
use Rattle.psg_grammar.proofs.CaseLanguage.{ok, int, bool, hole_items, list_items, op_blk, op_let, op_ref, op_one, block, let_of, ref_to, one}
use Rattle.psg_tests_languages.proofs.CaseNeeds.{needing, op_need, need, x, entities_by, are_entities, int_type, bool_type, ok_row, cell_row, one_row, need_row, let_row, ref_row, int_no_bool, declares_int, needs_bool_there}

-- the list `need x`, in a block, which ends so
abbrev part : Bool → Fragment
part u = block (cell 0 (need (ref_to x)) (ending 0 u))

-- `let x = one ; { need x .. }`
abbrev tree : Bool → Fragment
tree u = cell 0 (let_of x one) (cell 0 (part u) (ending 0 false))

abbrev outside : Entities
outside = entities_by (λ n. int)

outside_are : AreEntities needing outside
outside_are = are_entities needing refl refl (λ n. int) (λ n. int_type)

abbrev inside : Entities
inside = entities_by (λ n. bool)

inside_are : AreEntities needing inside
inside_are = are_entities needing refl refl (λ n. bool) (λ n. bool_type)

-- what the block may still declare is another thing than outside
apart : (n : Key) → unfinished_inside needing (space_of n) (part true) ≡ false → inside n ≡ outside n
apart [] e = absurd (true≢false e)
apart (zero ∷ n) e = absurd (true≢false e)
apart (suc s ∷ n) e = refl

cell_holds : IsOfCellRow needing 0 0 ok ok ok
cell_holds = record { kind = list_items; list = refl; row = _; chosen = refl; value = cell_row }

need_holds : Holds needing inside (need (ref_to x)) (0, 0) [] ok [] []
need_holds = (
  bool,
  [],
  inside,
  (refl, record { op = op_need; found = refl; row = _; chosen = refl; value = need_row }),
  inside_are,
  refl,
  (refl, record { op = op_ref; found = refl; row = _; chosen = refl; value = ref_row bool bool_type }),
)

part_holds : Holds needing inside (part true) (0, (0, (0, 0), 2)) [] ok [] []
part_holds = (
  ok,
  [],
  inside,
  (refl, record { op = op_blk; found = refl; row = _; chosen = refl; value = ok_row }),
  inside_are,
  refl,
  (
    refl,
    ok,
    ok,
    [],
    inside,
    cell_holds,
    inside_are,
    refl,
    need_holds,
    (refl, refl, record { row = hole_items; chosen = refl; same = refl; value = (ok_row.terms, ok_row.grounding, refl) }),
  ),
)

let_holds : Holds needing outside (let_of x one) (0, 0) [] ok [] []
let_holds = (
  int,
  [],
  outside,
  (refl, record { op = op_let; found = refl; row = _; chosen = refl; value = let_row int int_type }),
  outside_are,
  refl,
  (refl, record { op = op_one; found = refl; row = _; chosen = refl; value = one_row }),
)

-- In an unfinished list the use need not be that of the outer name.
unfinished_is_open : IsOpen needing (tree true)
unfinished_is_open = record {
  distinct = (refl, ((tt, tt, (λ e. refl)), (λ e. refl), ((tt, ((tt, tt, (λ e. refl)), (λ e. refl), tt), (λ e. refl)), (λ e. refl), tt)));
  choice = (0, (0, 0), (0, (0, (0, (0, 0), 2)), 0));
  outside = outside;
  entities = outside_are;
  value = ok;
  judged = record {
    inner = outside;
    entities = outside_are;
    agree = refl;
    holds = (
      refl,
      ok,
      ok,
      [],
      outside,
      cell_holds,
      outside_are,
      refl,
      let_holds,
      (
        refl,
        ok,
        ok,
        [],
        inside,
        cell_holds,
        inside_are,
        (λ n u e. apart n u),
        part_holds,
        (refl, refl, record { kind = list_items; list = refl; row = ok; chosen = refl; value = (ok_row.terms, ok_row.grounding, refl) }),
      ),
    );
  };
}

part_needs : (u : Bool) (g : Entities) (c : Choice (part u)) (v : Term) (before after : List Term) → Holds needing g (part u) c [] v before after → g (0 ∷ x) ≡ bool
part_needs u g c v before after (w, mid, inner, of_block, ent, same, (none, first, others, mid2, inner2, of_cell, ent2, same2, used, end)) =
    let one : inner (0 ∷ x) ≡ g (0 ∷ x) = ap (λ (e : Entities). e (0 ∷ x)) same in
    let two : inner2 (0 ∷ x) ≡ inner (0 ∷ x) = ap (λ (e : Entities). e (0 ∷ x)) same2 in
    sym one ∙ sym two ∙ needs_bool_there inner2 c.1.1 first mid mid2 used

-- In a finished list it is.
finished_is_not : IsOpen needing (tree false) → ⊥
finished_is_not h =
    let c : Choice (tree false) = h.choice in
    let (none, first, others, mid, inner, of_cell, ent, same, of_let, (none2, first2, others2, mid2, inner2, of_cell2, ent2, agree, of_part, end)) = h.judged.holds in
    let is_int : inner (0 ∷ x) ≡ int = declares_int inner c.1 first [] mid of_let in
    let is_bool : inner2 (0 ∷ x) ≡ bool = part_needs false inner2 c.2.1 first2 mid mid2 of_part in
    let linked : inner2 (0 ∷ x) ≡ h.judged.inner (0 ∷ x) = agree (0 ∷ x) refl refl in
    let list : inner (0 ∷ x) ≡ h.judged.inner (0 ∷ x) = ap (λ (e : Entities). e (0 ∷ x)) same in
    int_no_bool (sym is_int ∙ list ∙ sym linked ∙ is_bool)
