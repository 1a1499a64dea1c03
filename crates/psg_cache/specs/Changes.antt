-- What changes of a node are, and when an annotated tree takes one.
use Rattle.std.specs.Prelude.{ℕ, ◌≡◌, ◌<◌, ◌≤◌, ◌+◌, Bool, List, drop, length, map, slice_get, Some, take}
use Rattle.psg_grammar.specs.declared.types.Definition.{Definition}
use Rattle.psg_grammar.specs.Fragments.{Fragment, cell, ending, children_of, top_operator}
use Rattle.psg_grammar.specs.Paths.{Path, node_at, change_at, change_child, inserted, removed, replaced, IsList}
use Rattle.psg_grammar.specs.Work.{work_of}
use Rattle.psg_tree.specs.Shapes.{list_of}
use Rattle.psg_eval.specs.Trees.{own_names}
use Rattle.psg_cache.specs.Annotated.{Annotated, tree_in, whole_in, below_in}
use Rattle.psg_cache.specs.Noted.{IsNoted, IsNotedAs}
use Rattle.psg_cache.specs.Notes.{IsFormed, IsNoteOf}
use Rattle.psg_cache.specs.declared.editing.Edit.{Edit}
use Rattle.psg_cache.specs.declared.editing.Edit.TheVariants as edits

abbrev pub change_of : Edit → Fragment → Fragment
change_of (edits.Put new) node = tree_in new
change_of (edits.Add place new) node = inserted place new node
change_of (edits.Take place) node = removed place node

-- the evaluations of the change itself: of the new element, and of the cells of the list up to the place; a tree that
-- is put there has its note
abbrev pub ticks_of : Edit → ℕ
ticks_of (edits.Put new) = 0
ticks_of (edits.Add place new) = work_of new + (place + 1)
ticks_of (edits.Take place) = place

-- the node takes the change
abbrev pub TakesEdit : Definition → Edit → Fragment → Type 0
TakesEdit def (edits.Put new) node = IsNoted def new
TakesEdit def (edits.Add place new) node = IsList node × (place ≤ length (children_of node)) × IsFormed def new
TakesEdit def (edits.Take place) node = IsList node × (place < length (children_of node))

-- the tree is made by the change of the node at the path of an annotated tree
pub record IsPlace (def : Definition) (n : Annotated) (path : Path) (edit : Edit) (made : Fragment) : Type 0 where
  pub noted : IsNoted def n
  pub formed_old : IsFormed def (tree_in n)
  pub formed : IsFormed def made
  pub node : Fragment
  pub there : node_at (tree_in n) path ≡ Some node
  pub takes : TakesEdit def edit node
  pub changed : made ≡ change_at (change_of edit) path (tree_in n)

-- the tree is that of the note with the new one in place of the node at the path
pub record IsExchange (def : Definition) (n : Annotated) (path : Path) (new made : Fragment) : Type 0 where
  pub whole : IsNoteOf def (tree_in n) n
  pub formed : IsFormed def made
  pub formed_new : IsFormed def new
  pub node : Fragment
  pub there : node_at (tree_in n) path ≡ Some node
  pub changed : made ≡ replaced path new (tree_in n)

-- The tree's children from `front` on have the summaries of the annotated one's last children, and its first `same`
-- ones those of the annotated one's first. A list has the same number and end; a node of which all children are such
-- has the same operator and names.
pub record IsKept (def : Definition) (n : Annotated) (same behind front : ℕ) (made : Fragment) (below : List Annotated)
    : Type 0 where
  pub noted : IsNoted def n
  pub formed_old : IsFormed def (tree_in n)
  pub kept : drop front (map whole_in below) ≡ drop behind (map whole_in (below_in n))
  pub first : take same (map whole_in below) ≡ take same (map whole_in (below_in n))
  pub fewer : (same ≤ behind) × (same ≤ front)
  pub within : (behind ≤ length (below_in n)) × (front ≤ length below)
  pub lists : (l : ℕ) (es : List Fragment) (u : Bool) → made ≡ list_of l es u
      → tree_in n ≡ list_of l (children_of (tree_in n)) u
  pub nodes : (o : ℕ) → top_operator made ≡ Some o → front ≡ 0
      → (behind ≡ 0) × (top_operator (tree_in n) ≡ Some o) × (own_names made ≡ own_names (tree_in n))

-- the evaluations of a tree of which the first n children are new: of a list their cells, else the node
abbrev pub remade_ticks : Fragment → ℕ → ℕ
remade_ticks (cell l e r) n = n
remade_ticks (ending l u) n = n
remade_ticks _ n = 1

-- a list with one more element before the place
pub record IsAdded (def : Definition) (n : Annotated) (place : ℕ) (new made : Fragment) : Type 0 where
  pub noted : IsNoted def n
  pub formed_old : IsFormed def (tree_in n)
  pub formed : IsFormed def made
  pub fresh : IsFormed def new
  pub list : IsList (tree_in n)
  pub within : place ≤ length (children_of (tree_in n))
  pub changed : made ≡ inserted place new (tree_in n)

-- a list without the element at the place
pub record IsTaken (def : Definition) (n : Annotated) (place : ℕ) (made : Fragment) : Type 0 where
  pub noted : IsNoted def n
  pub formed_old : IsFormed def (tree_in n)
  pub formed : IsFormed def made
  pub list : IsList (tree_in n)
  pub within : place < length (children_of (tree_in n))
  pub changed : made ≡ removed place (tree_in n)

-- a node with another child of the number, which has this note
pub record IsPut (def : Definition) (n : Annotated) (number : ℕ) (child : Annotated) (made : Fragment) : Type 0 where
  pub noted : IsNoted def n
  pub formed_old : IsFormed def (tree_in n)
  pub formed : IsFormed def made
  pub old : Fragment
  pub there : slice_get (children_of (tree_in n)) number ≡ Some old
  pub change : Fragment → Fragment
  pub made_so : made ≡ change_child change number (tree_in n)
  pub child_noted : IsNotedAs def (change old) child
