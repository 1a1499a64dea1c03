-- Operators put into a fragment.
use Rattle.std.specs.Prelude.{ℕ, Bool, false, List, [], ◌∷◌, Option, Some, None, slice_get}
use Rattle.std.specs.Prelude.{◌<◌, ◌^◌, IsUtf8}
use Rattle.psg_terms.specs.Names.{Name}
use Rattle.psg_grammar.specs.declared.types.Kind.{Kind}
use Rattle.psg_grammar.specs.declared.types.Kind.TheVariants as kinds
use Rattle.psg_grammar.specs.declared.types.Item.{Item}
use Rattle.psg_grammar.specs.declared.types.Item.TheVariants as items
use Rattle.psg_grammar.specs.declared.types.ListKind.{ListKind}
use Rattle.psg_grammar.specs.declared.types.Definition.{Definition}
use Rattle.psg_grammar.specs.Fragments.{Fragment, hole, ending, operator, with_child, with_name, with_number, with_text}
use Rattle.psg_grammar.specs.Lookups.{operator_at, items_of}
use Rattle.psg_grammar.specs.WellFormed.{IsName}
use Rattle.psg_grammar.specs.Paths.{Path, change_at, replaced, inserted}

-- whether the list is there and a tree of it may be unfinished
abbrev pub may_be_unfinished : Option ListKind → Bool
may_be_unfinished None = false
may_be_unfinished (Some k) = k.unfinished

-- the new tree of a kind: a placeholder, or an empty list, unfinished if the kind allows it
abbrev pub blank : Definition → Kind → Fragment
blank def (kinds.Phylum p) = hole p
blank def (kinds.List l) = ending l (may_be_unfinished (slice_get def.lists l))

-- a name, number or text that a command gives
pub data Leaf : Type 0 where
  a_name : (name : Name) → Leaf
  a_number : (value : ℕ) → Leaf
  a_text : (text : List ℕ) → Leaf

-- the fragment with a name or literal as one more part
abbrev pub with_leaf : Fragment → Leaf → Fragment
with_leaf f (a_name n) = with_name f n
with_leaf f (a_number n) = with_number f n
with_leaf f (a_text t) = with_text f t

-- an operator's parts by its items: a blank for each slot, and the leaves in order for the others
abbrev pub filled : Definition → Fragment → List Item → List Leaf → Fragment
filled def f [] leaves = f
filled def f (items.Slot k ∷ rest) leaves = filled def (with_child f (blank def k)) rest leaves
filled def f (i ∷ rest) [] = filled def f rest []
filled def f (i ∷ rest) (leaf ∷ leaves) = filled def (with_leaf f leaf) rest leaves

-- the operator with these names and literals, and a blank in each slot
abbrev pub fresh_operator : Definition → ℕ → List Leaf → Fragment
fresh_operator def o leaves = filled def (operator o) (items_of (operator_at def o)) leaves

-- the leaves are one for each name position, number and text of the items, in order and of their kinds
abbrev pub AreLeaves : Definition → List Item → List Leaf → Type 0
AreLeaves def [] [] = Unit {0}
AreLeaves def [] (leaf ∷ leaves) = ⊥
AreLeaves def (items.Slot k ∷ rest) leaves = AreLeaves def rest leaves
AreLeaves def (items.Refers s ∷ rest) (a_name n ∷ leaves) = IsName def n × AreLeaves def rest leaves
AreLeaves def (items.Declares s ∷ rest) (a_name n ∷ leaves) = IsName def n × AreLeaves def rest leaves
AreLeaves def (items.Number ∷ rest) (a_number n ∷ leaves) = (n < 2 ^ 128) × AreLeaves def rest leaves
AreLeaves def (items.Text ∷ rest) (a_text t ∷ leaves) = IsUtf8 t × AreLeaves def rest leaves
AreLeaves def _ _ = ⊥

-- the operator in place of the node at the path, or as a new element before the place of the list there
abbrev pub with_operator : Definition → Fragment → Path → Option ℕ → ℕ → List Leaf → Fragment
with_operator def f path None o leaves = replaced path (fresh_operator def o leaves) f
with_operator def f path (Some k) o leaves = change_at (inserted k (fresh_operator def o leaves)) path f
