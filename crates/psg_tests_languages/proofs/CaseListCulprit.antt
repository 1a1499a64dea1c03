-- A list as culprit: each element is good by itself, and together they are wrong; so is the block round it, which is none.
use Rattle.std.proofs.Common.{◌≡◌, ◌∙◌, ℕ, false, List, [], ◌∷◌, refl, sym, ap}
use Rattle.psg_terms.specs.Terms.{Term}
use Rattle.psg_grammar.specs.Fragments.{Fragment, ending, cell}
use Rattle.psg_grammar.specs.Legal.{Entities}
use Rattle.psg_grammar.specs.Open.{Choice, Holds, IsOpen}
use Rattle.psg_grammar.specs.Marks.{Located, nodes_from, taken, passed, nothing, wrong, IsCulprit, IsMark}
use Rattle.psg_grammar.proofs.CaseLanguage.{ok, int, bool, op_let, op_ref, op_one, let_of, ref_to, one, block}
use Rattle.psg_tests_languages.proofs.CaseNeeds.{needing, op_need, need, x, entities_by, are_entities, int_type, bool_type, one_row, need_row, let_row, ref_row, int_no_bool, declares_int, needs_bool_there}

-- `let x = one ; need x`
abbrev list : Fragment
list = cell 0 (let_of x one) (cell 0 (need (ref_to x)) (ending 0 false))

abbrev tree : Fragment
tree = block list

abbrev all : Term → Entities
all t = entities_by (λ n. t)

-- ---- each node below the list is good

let_is_open : IsOpen needing (let_of x one)
let_is_open = record {
  distinct = (refl, (tt, tt, (λ e. refl)));
  choice = (0, 0);
  outside = all int;
  entities = are_entities needing refl refl (λ n. int) (λ n. int_type);
  value = ok;
  judged = record {
    inner = all int;
    entities = are_entities needing refl refl (λ n. int) (λ n. int_type);
    agree = refl;
    holds = (
      int,
      [],
      all int,
      (refl, record { op = op_let; found = refl; row = _; chosen = refl; value = let_row int int_type }),
      are_entities needing refl refl (λ n. int) (λ n. int_type),
      refl,
      (refl, record { op = op_one; found = refl; row = _; chosen = refl; value = one_row }),
    );
  };
}

one_is_open : IsOpen needing one
one_is_open = record {
  distinct = (refl, tt);
  choice = 0;
  outside = all int;
  entities = are_entities needing refl refl (λ n. int) (λ n. int_type);
  value = int;
  judged = record {
    inner = all int;
    entities = are_entities needing refl refl (λ n. int) (λ n. int_type);
    agree = refl;
    holds = (refl, record { op = op_one; found = refl; row = _; chosen = refl; value = one_row });
  };
}

-- x is free, so it may be a bool
need_is_open : IsOpen needing (need (ref_to x))
need_is_open = record {
  distinct = (refl, (tt, tt, (λ e. refl)));
  choice = (0, 0);
  outside = all bool;
  entities = are_entities needing refl refl (λ n. bool) (λ n. bool_type);
  value = ok;
  judged = record {
    inner = all bool;
    entities = are_entities needing refl refl (λ n. bool) (λ n. bool_type);
    agree = refl;
    holds = (
      bool,
      [],
      all bool,
      (refl, record { op = op_need; found = refl; row = _; chosen = refl; value = need_row }),
      are_entities needing refl refl (λ n. bool) (λ n. bool_type),
      refl,
      (refl, record { op = op_ref; found = refl; row = _; chosen = refl; value = ref_row bool bool_type }),
    );
  };
}

ref_is_open : IsOpen needing (ref_to x)
ref_is_open = record {
  distinct = (refl, tt);
  choice = 0;
  outside = all bool;
  entities = are_entities needing refl refl (λ n. bool) (λ n. bool_type);
  value = bool;
  judged = record {
    inner = all bool;
    entities = are_entities needing refl refl (λ n. bool) (λ n. bool_type);
    agree = refl;
    holds = (refl, record { op = op_ref; found = refl; row = _; chosen = refl; value = ref_row bool bool_type });
  };
}

-- ---- the list is wrong

list_never : (g : Entities) (c : Choice list) (v : Term) (before after : List Term) → Holds needing g list c [] v before after → ⊥
list_never g c v before after (none, first, others, mid, inner, of_cell, ent, same, of_let, (none2, first2, others2, mid2, inner2, of_cell2, ent2, same2, of_need, end)) =
    let is_int : inner (0 ∷ x) ≡ int = declares_int inner c.1 first before mid of_let in
    let is_bool : inner2 (0 ∷ x) ≡ bool = needs_bool_there inner2 c.2.1 first2 mid mid2 of_need in
    let one : inner (0 ∷ x) ≡ g (0 ∷ x) = ap (λ (e : Entities). e (0 ∷ x)) same in
    let two : inner2 (0 ∷ x) ≡ g (0 ∷ x) = ap (λ (e : Entities). e (0 ∷ x)) same2 in
    int_no_bool (sym is_int ∙ one ∙ sym two ∙ is_bool)

list_is_wrong : IsOpen needing list → ⊥
list_is_wrong h = list_never h.judged.inner h.choice h.value [] [] h.judged.holds

tree_is_wrong : IsOpen needing tree → ⊥
tree_is_wrong h =
    let c : Choice tree = h.choice in
    let (u, mid, inner, of_block, ent, same, of_list) = h.judged.holds in
    list_never inner c.1 u mid [] of_list

-- ---- the mark

abbrev at : List ℕ → Fragment → Located
at path node = record { path = path; node = node }

-- a list is one node, whose children are its elements
nodes : nodes_from [] tree
    ≡ at [] tree ∷ at (0 ∷ []) list ∷ at (0 ∷ 0 ∷ []) (let_of x one) ∷ at (0 ∷ 0 ∷ 0 ∷ []) one ∷ at (0 ∷ 1 ∷ []) (need (ref_to x)) ∷ at (0 ∷ 1 ∷ 0 ∷ []) (ref_to x) ∷ []
nodes = refl

list_is_culprit : IsCulprit needing (at (0 ∷ []) list)
list_is_culprit = (list_is_wrong, (let_is_open, (need_is_open, tt)))

block_is_none : IsCulprit needing (at [] tree) → ⊥
block_is_none (bad, (of_list, rest)) = list_is_wrong of_list

good_is_none : (path : List ℕ) (node : Fragment) → IsOpen needing node → IsCulprit needing (at path node) → ⊥
good_is_none path node fine (bad, below) = bad fine

marked : IsMark needing tree (wrong ((0 ∷ []) ∷ []))
marked = (
  tree_is_wrong,
  (
    at (0 ∷ []) list ∷ [],
    passed block_is_none (taken list_is_culprit (passed (good_is_none (0 ∷ 0 ∷ []) (let_of x one) let_is_open) (passed (good_is_none (0 ∷ 0 ∷ 0 ∷ []) one one_is_open)
        (passed (good_is_none (0 ∷ 1 ∷ []) (need (ref_to x)) need_is_open) (passed (good_is_none (0 ∷ 1 ∷ 0 ∷ []) (ref_to x) ref_is_open) nothing))))),
    refl,
  ),
)
