-- A mark with one culprit, which is wrong by itself while its children are good; the node above it is no culprit.
use Rattle.std.proofs.Common.{◌≡◌, ◌∙◌, ℕ, List, [], ◌∷◌, map, refl, ap}
use Rattle.psg_terms.specs.Terms.{Term, symbol}
use Rattle.psg_terms.specs.Instances.{substitute}
use Rattle.psg_grammar.specs.declared.types.Row.{Row}
use Rattle.psg_grammar.specs.Fragments.{Fragment, operator}
use Rattle.psg_grammar.specs.Legal.{Entities}
use Rattle.psg_grammar.specs.Open.{Choice, Holds, IsOpen}
use Rattle.psg_grammar.specs.Marks.{Located, nodes_from, taken, passed, nothing, good, wrong, IsCulprit, IsMark}
use Rattle.psg_grammar.proofs.CaseLanguage.{constants, row_of, op_zero, op_tru, op_plus, zero_leaf, plus_of}
use Rattle.psg_grammar.proofs.CaseLegal.{int, all_int, entities}
use Rattle.psg_tests_languages.proofs.CaseNeeds.{only_row}

abbrev true_leaf : Fragment
true_leaf = operator 1

-- `( zero + true )`
abbrev clash : Fragment
clash = plus_of zero_leaf true_leaf

-- `( zero + ( zero + true ) )`
abbrev tree : Fragment
tree = plus_of zero_leaf clash

-- ---- the leaves are good

zero_is_open : IsOpen constants zero_leaf
zero_is_open = record {
  distinct = (refl, tt);
  choice = 0;
  outside = λ n. int;
  entities = entities;
  value = int;
  judged = record { inner = λ n. int; entities = entities; agree = refl; holds = (refl, record { op = op_zero; found = refl; row = row_of int []; chosen = refl; value = record { terms = λ s n. int; grounding = all_int; head = refl; rest = refl } }) };
}

true_is_open : IsOpen constants true_leaf
true_is_open = record {
  distinct = (refl, tt);
  choice = 0;
  outside = λ n. int;
  entities = entities;
  value = symbol 1;
  judged = record {
    inner = λ n. int;
    entities = entities;
    agree = refl;
    holds = (refl, record { op = op_tru; found = refl; row = row_of (symbol 1) []; chosen = refl; value = record { terms = λ s n. int; grounding = all_int; head = refl; rest = refl } });
  };
}

-- ---- a sum with true is wrong

clash_never : (g : Entities) (c : Choice clash) (v : Term) (before after : List Term) → Holds constants g clash c [] v before after → ⊥
clash_never g c v before after (u, mid, inner, (w, mid2, inner2, (seen, h), ent2, same2, left), ent, same, (seen3, h3)) =
    let rows : h.row ≡ row_of int (int ∷ int ∷ []) = only_row constants 2 op_plus h.op _ h.row c.0.0 refl refl h.found h.chosen in
    let columns : w ∷ u ∷ [] ≡ int ∷ int ∷ [] = h.value.rest ∙ ap (λ (r : Row). map (substitute h.value.terms) r.columns) rows in
    let is_true : u ≡ symbol 1 = h3.value.head ∙ ap (λ (r : Row). substitute h3.value.terms r.head) (only_row constants 1 op_tru h3.op _ h3.row c.1 refl refl h3.found h3.chosen) in
    absurd (cc)

clash_is_wrong : IsOpen constants clash → ⊥
clash_is_wrong h = clash_never h.judged.inner h.choice h.value [] [] h.judged.holds

tree_is_wrong : IsOpen constants tree → ⊥
tree_is_wrong h =
    let c : Choice tree = h.choice in
    let (u, mid, inner, (w, mid2, inner2, of_plus, ent2, same2, left), ent, same, right) = h.judged.holds in
    clash_never inner c.1 u mid [] right

-- ---- culprits

abbrev at : List ℕ → Fragment → Located
at path node = record { path = path; node = node }

clash_is_culprit : IsCulprit constants (at (1 ∷ []) clash)
clash_is_culprit = (clash_is_wrong, (zero_is_open, (true_is_open, tt)))

-- the root is wrong too, and one of its children is
root_is_none : IsCulprit constants (at [] tree) → ⊥
root_is_none (bad, (left, (right, rest))) = clash_is_wrong right

leaf_is_none : (path : List ℕ) (node : Fragment) → IsOpen constants node → IsCulprit constants (at path node) → ⊥
leaf_is_none path node fine (bad, below) = bad fine

nodes : nodes_from [] tree ≡ at [] tree ∷ at (0 ∷ []) zero_leaf ∷ at (1 ∷ []) clash ∷ at (1 ∷ 0 ∷ []) zero_leaf ∷ at (1 ∷ 1 ∷ []) true_leaf ∷ []
nodes = refl

-- The mark names the inner sum alone.
marked : IsMark constants tree (wrong ((1 ∷ []) ∷ []))
marked = (
  tree_is_wrong,
  (
    at (1 ∷ []) clash ∷ [],
    passed root_is_none (passed (leaf_is_none (0 ∷ []) zero_leaf zero_is_open) (taken clash_is_culprit (passed (leaf_is_none (1 ∷ 0 ∷ []) zero_leaf zero_is_open) (passed (leaf_is_none (1 ∷ 1 ∷ []) true_leaf true_is_open) nothing)))),
    refl,
  ),
)

-- ---- two culprits, in the order of the nodes

abbrev both : Fragment
both = plus_of clash clash

both_are_wrong : IsOpen constants both → ⊥
both_are_wrong h =
    let c : Choice both = h.choice in
    let (u, mid, inner, left, ent, same, right) = h.judged.holds in
    clash_never inner c.1 u mid [] right

second_is_culprit : IsCulprit constants (at (0 ∷ []) clash)
second_is_culprit = (clash_is_wrong, (zero_is_open, (true_is_open, tt)))

neither_is_root : IsCulprit constants (at [] both) → ⊥
neither_is_root (bad, (left, rest)) = clash_is_wrong left

both_marked : IsMark constants both (wrong ((0 ∷ []) ∷ (1 ∷ []) ∷ []))
both_marked = (
  both_are_wrong,
  (
    at (0 ∷ []) clash ∷ at (1 ∷ []) clash ∷ [],
    passed neither_is_root (taken second_is_culprit (passed (leaf_is_none (0 ∷ 0 ∷ []) zero_leaf zero_is_open) (passed (leaf_is_none (0 ∷ 1 ∷ []) true_leaf true_is_open)
        (taken clash_is_culprit (passed (leaf_is_none (1 ∷ 0 ∷ []) zero_leaf zero_is_open) (passed (leaf_is_none (1 ∷ 1 ∷ []) true_leaf true_is_open) nothing)))))),
    refl,
  ),
)

-- ---- a wrong tree is not good

not_good : IsMark constants tree good → ⊥
not_good h = tree_is_wrong h

zero_marked : IsMark constants zero_leaf good
zero_marked = zero_is_open
