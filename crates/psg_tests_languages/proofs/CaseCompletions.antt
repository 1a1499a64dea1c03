-- A use that clashes with the outer declaration has a legal completion while its list may still declare the name, and none once it may not.
use Rattle.std.proofs.Common.{◌≡◌, ◌||◌, ◌∙◌, zero, suc, Bool, true, false, cond, List, [], ◌∷◌, codes, refl, sym, ap, subst, true≢false, bytes_eq, lit<, inr}
use Rattle.psg_terms.specs.Terms.{Term}
use Rattle.psg_terms.specs.Names.{is_among}
use Rattle.psg_grammar.specs.declared.types.Kind.TheVariants as kinds
use Rattle.psg_grammar.specs.Fragments.{Fragment, ending, cell, operator, with_name}
use Rattle.psg_grammar.specs.Keys.{Key}
use Rattle.psg_grammar.specs.WellFormed.{WellFormed, IsComplete, IsName}
use Rattle.psg_grammar.specs.Fillings.{Fills}
use Rattle.psg_grammar.specs.Legal.{Entities, AreEntities, Legal, IsCompletable}
use Rattle.psg_grammar.proofs.CaseLanguage.{ok, int, bool, op_blk, op_let, op_ref, op_one, op_yes, list_items, block, let_of, ref_to, one, yes}
use Rattle.psg_tests_languages.proofs.CaseNeeds.{needing, op_need, need, x, IsType, entities_by, are_entities, int_type, bool_type, ok_row, cell_row, one_row, yes_row, need_row, let_row, ref_row, only_row, let_is_value, one_is_int, int_no_bool}
use Rattle.psg_tests_languages.proofs.CaseScopes.{needs}
use Rattle.psg_tests_languages.proofs.CaseTokens.{starts}

-- `let x = one ; { need x .. }`, where this list follows the block's first element
abbrev tree : Fragment → Fragment
tree rest = cell 0 (let_of x one) (cell 0 (block (cell 0 (need (ref_to x)) rest)) (ending 0 false))

-- `let x = yes`
abbrev more : Fragment
more = cell 0 (let_of x yes) (ending 0 false)

-- ---- it fits in place of the dots

x_is_name : IsName needing x
unfolding lib.Utf8.encode
x_is_name = (codes "x", refl, (starts 120 (lit< tt), tt), refl)

more_fits : WellFormed needing more (kinds.List 0) × IsComplete more
more_fits = (
  (
    (
      refl,
      refl,
      list_items,
      refl,
      (kinds.Phylum 0, (inr (0, (op_let, refl, refl, refl)), x_is_name), (op_yes, refl, refl, refl)),
      (refl, refl, (list_items, refl, λ e. absurd (true≢false (sym e)))),
      tt,
    ),
    ((tt, tt), tt),
  ),
  ((tt, tt), refl),
)

filled : Fills needing (tree (ending 0 true)) (tree more)
filled = (
  let_of x one,
  _,
  refl,
  (with_name (operator 1) x, one, refl, (operator 1, refl, refl), refl),
  (
    block (cell 0 (need (ref_to x)) more),
    ending 0 false,
    refl,
    (operator 0, _, refl, refl, (need (ref_to x), more, refl, (operator 7, ref_to x, refl, refl, (operator 4, refl, refl)), more_fits)),
    refl,
  ),
)

-- ---- and is legal: x is an int outside and a bool inside

abbrev outside : Entities
outside = entities_by (λ n. int)

outside_are : AreEntities needing outside
outside_are = are_entities needing refl refl (λ n. int) (λ n. int_type)

abbrev inside : Entities
inside = entities_by (λ n. cond (bytes_eq x n) bool int)

inner_type : (b : Bool) → IsType (cond b bool int)
inner_type true = bool_type
inner_type false = int_type

inside_are : AreEntities needing inside
inside_are = are_entities needing refl refl (λ n. cond (bytes_eq x n) bool int) (λ n. inner_type (bytes_eq x n))

agrees : (b : Bool) → (b || false) ≡ false → cond b bool int ≡ int
agrees true e = absurd (true≢false e)
agrees false e = refl

apart : (n : Key) → is_among ((0 ∷ x) ∷ []) n ≡ false → inside n ≡ outside n
apart [] e = refl
apart (zero ∷ n) e = agrees (bytes_eq x n) e
apart (suc s ∷ n) e = refl

end_legal : (g : Entities) → Legal needing g (ending 0 false) [] ok [] []
end_legal g = (refl, refl, list_items, ok, 0, refl, refl, (ok_row.terms, ok_row.grounding, refl))

need_legal : Legal needing inside (need (ref_to x)) [] ok [] []
need_legal = (bool, [], inside, (refl, op_need, _, 0, refl, refl, need_row), inside_are, refl, (refl, op_ref, _, 0, refl, refl, ref_row bool bool_type))

yes_legal : Legal needing inside (let_of x yes) [] ok [] []
yes_legal = (bool, [], inside, (refl, op_let, _, 0, refl, refl, let_row bool bool_type), inside_are, refl, (refl, op_yes, _, 0, refl, refl, yes_row))

block_legal : Legal needing inside (block (cell 0 (need (ref_to x)) more)) [] ok [] []
block_legal = (
  ok,
  [],
  inside,
  (refl, op_blk, _, 0, refl, refl, ok_row),
  inside_are,
  refl,
  (
    refl,
    list_items,
    _,
    0,
    ok,
    ok,
    [],
    inside,
    refl,
    refl,
    cell_row,
    inside_are,
    refl,
    need_legal,
    (refl, list_items, _, 0, ok, ok, [], inside, refl, refl, cell_row, inside_are, refl, yes_legal, end_legal inside),
  ),
)

one_legal : Legal needing outside (let_of x one) [] ok [] []
one_legal = (int, [], outside, (refl, op_let, _, 0, refl, refl, let_row int int_type), outside_are, refl, (refl, op_one, _, 0, refl, refl, one_row))

-- `let x = one ; { need x ; ... }` is completed by `let x = one ; { need x ; let x = yes }`.
unfinished_completable : IsCompletable needing (tree (ending 0 true))
unfinished_completable = record {
  tree = tree more;
  fills = filled;
  distinct = (refl, ((tt, tt, (λ e. refl)), (λ e. refl), ((tt, ((tt, tt, (λ e. refl)), (λ e. refl), ((tt, tt, (λ e. refl)), (λ e. refl), tt)), (λ e. refl)), (λ e. refl), tt)));
  outside = outside;
  entities = outside_are;
  value = ok;
  legal = record {
    inner = outside;
    entities = outside_are;
    agree = refl;
    legal = (
      refl,
      list_items,
      _,
      0,
      ok,
      ok,
      [],
      outside,
      refl,
      refl,
      cell_row,
      outside_are,
      refl,
      one_legal,
      (refl, list_items, _, 0, ok, ok, [], inside, refl, refl, cell_row, inside_are, apart, block_legal, end_legal outside),
    );
  };
}

-- ---- the finished one

-- a finished tree without placeholders is filled by itself alone
itself : (t : Fragment) → Fills needing (tree (ending 0 false)) t → t ≡ tree (ending 0 false)
itself t (e, r, t_is, (f1, c1, e_is, (f2, f1_is, f2_is), c1_is), (e2, r2, r_is, (f3, c3, e2_is, f3_is, (e4, r4, c3_is, (f5, c5, e4_is, f5_is, (f6, c5_is, f6_is)), r4_is)), r2_is)) = cc

declares : (g : Entities) (v : Term) (before after : List Term) → Legal needing g (let_of x one) [] v before after → g (0 ∷ x) ≡ int
declares g v before after (u, mid, inner, (seen, op, row, r, found, chosen, of_row), ent, same, (seen2, op2, row2, r2, found2, chosen2, of_row2)) =
    let_is_value row v (g (0 ∷ x)) u (only_row needing 1 op_let op _ row r refl refl found chosen) of_row
    ∙ one_is_int row2 u (only_row needing 5 op_one op2 _ row2 r2 refl refl found2 chosen2) of_row2

never_legal : (g : Entities) (v : Term) (before after : List Term) → Legal needing g (tree (ending 0 false)) [] v before after → ⊥
never_legal g v before after (none, kind, row, r, first, others, mid, inner, found, chosen, of_cell, ent, same, of_let, (none2, kind2, row2, r2, first2, others2, mid2, inner2, found2, chosen2, of_cell2, ent2, agree, of_block, end)) =
    let (u, mid3, inner3, block_row, ent3, same3, (none4, kind4, row4, r4, first4, others4, mid4, inner4, found4, chosen4, of_cell4, ent4, same4, used, end4)) = of_block in
    let is_bool : inner4 (0 ∷ x) ≡ bool = needs inner4 first4 mid3 mid4 used in
    let is_int : inner (0 ∷ x) ≡ int = declares inner first before mid of_let in
    let outer : inner (0 ∷ x) ≡ g (0 ∷ x) = ap (λ (e : Entities). e (0 ∷ x)) same in
    let linked : inner2 (0 ∷ x) ≡ g (0 ∷ x) = agree (0 ∷ x) refl in
    let deeper : inner4 (0 ∷ x) ≡ inner2 (0 ∷ x) = ap (λ (e : Entities). e (0 ∷ x)) (same4 ∙ same3) in
    int_no_bool (sym is_int ∙ outer ∙ sym linked ∙ sym deeper ∙ is_bool)

finished_is_not : IsCompletable needing (tree (ending 0 false)) → ⊥
finished_is_not h = never_legal h.legal.inner h.value [] [] (subst (λ t. Legal needing h.legal.inner t [] h.value [] []) (itself h.tree h.fills) h.legal.legal)
