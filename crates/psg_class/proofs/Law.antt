-- In a class each kind, level and list of tokens has at most one tree.
use Rattle.std.proofs.Common.{◌≡◌, ℕ, List, [], Some, None, subst, append-nil}
use Rattle.psg_grammar.specs.declared.types.Kind.{Kind}
use Rattle.psg_grammar.specs.declared.types.Kind.TheVariants as kinds
use Rattle.psg_grammar.specs.declared.types.Definition.{Definition}
use Rattle.psg_grammar.specs.Fragments.{Fragment}
use Rattle.psg_class.specs.Terminals.{Token}
use Rattle.psg_class.specs.Class.{IsClass}
use Rattle.psg_class.proofs.ClassFacts.{ClassFacts, facts}
use Rattle.psg_class.specs.Yields.{TreeYields, ListYields}
use Rattle.psg_class.specs.Only.{HasOnlyTrees}
use Rattle.psg_class.specs.Runs.{Run, start, list}
use Rattle.psg_class.proofs.Reading.{Follows, read_tree, tree_runs, list_run}
use Rattle.psg_class.proofs.Sameness.{same}

module _ (def : Definition) (c : ClassFacts def) where
  -- the end of the tokens can stand behind anything
  at_end : (kind : Kind) → Follows def c kind []
  at_end kind terminal e = let x : None ≡ Some terminal = e in cc

  pub tree_is_read : (f : Fragment) (p m d : ℕ) (ts : List Token) → TreeYields def f p m d ts → Run def (start p m) ts f d []
  tree_is_read f p m d ts y = subst (λ x. Run def (start p m) x f d []) (append-nil ts) (read_tree def c f p m d ts (tree_runs def c f p m d ts y) [] (at_end (kinds.Phylum p)))

  pub list_is_read : (f : Fragment) (l d : ℕ) (ts : List Token) → ListYields def f l d ts → Run def (list l) ts f d []
  list_is_read f l d ts y = subst (λ x. Run def (list l) x f d []) (append-nil ts) (list_run def c f l d ts y [] (at_end (kinds.List l)))

pub only_trees : (def : Definition) → IsClass def → HasOnlyTrees def
only_trees def k (kinds.Phylum p) m ts f g d e y z =
    let c : ClassFacts def = facts def k in
    let a = same def c (tree_is_read def c f p m d ts y) (tree_is_read def c g p m e ts z) in record { tree = a.tree; nesting = a.nesting }
only_trees def k (kinds.List l) m ts f g d e y z =
    let c : ClassFacts def = facts def k in
    let a = same def c (list_is_read def c f l d ts y) (list_is_read def c g l e ts z) in record { tree = a.tree; nesting = a.nesting }
