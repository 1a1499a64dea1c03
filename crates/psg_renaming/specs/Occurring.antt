-- The names that occur in a fragment, and names that do not.
use Rattle.std.specs.Prelude.{◌≡◌, false, List, [], ◌∷◌, ◌++◌}
use Rattle.std.specs.List.{AllByRecursion}
use Rattle.psg_terms.specs.Names.{Name, is_among, has_twice}
use Rattle.psg_grammar.specs.Fragments.{Fragment, hole, ending, cell, operator, with_child, with_name}
use Rattle.psg_grammar.specs.Fragments.{with_number, with_text, anything, observed}
use Rattle.psg_grammar.specs.Insertion.{Leaf, a_name, a_number, a_text}

-- The names of all positions of the fragment, each as often as it occurs. Its keys would not do: a name that ends
-- inside a scope is none of them, and still occurs.
abbrev pub occurring : Fragment → List Name
occurring (hole p) = []
occurring (ending l u) = []
occurring (cell l e r) = occurring e ++ occurring r
occurring (operator o) = []
occurring (with_child f t) = occurring f ++ occurring t
occurring (with_name f n) = occurring f ++ n ∷ []
occurring (with_number f n) = occurring f
occurring (with_text f t) = occurring f
occurring anything = []
occurring (observed f) = occurring f

abbrev pub leaf_names : List Leaf → List Name
leaf_names [] = []
leaf_names (a_name n ∷ rest) = n ∷ leaf_names rest
leaf_names (a_number n ∷ rest) = leaf_names rest
leaf_names (a_text t ∷ rest) = leaf_names rest

-- the names differ from each other and from all of these
abbrev pub AreFresh : List Name → List Name → Type 0
AreFresh used names = (has_twice names ≡ false) × AllByRecursion (λ n. is_among used n ≡ false) names
