-- Where the nodes of a tree are among its tokens: what a derivation of the tree from the tokens says of each node.
use Rattle.std.specs.Prelude.{ℕ, zero, suc, ◌≡◌, ◌+◌, Bool, true, List, [], ◌∷◌, ◌++◌, length}
use Rattle.std.specs.Prelude.{Option, Some, None, slice_get}
use Rattle.psg_grammar.specs.declared.types.Kind.{Kind}
use Rattle.psg_grammar.specs.declared.types.Kind.TheVariants as kinds
use Rattle.psg_grammar.specs.declared.types.Item.{Item}
use Rattle.psg_grammar.specs.declared.types.Operator.{Operator}
use Rattle.psg_grammar.specs.declared.types.Definition.{Definition}
use Rattle.psg_grammar.specs.declared.types.Phylum.{Phylum}
use Rattle.psg_grammar.specs.Fragments.{Fragment, hole, operator}
use Rattle.psg_grammar.specs.Declaring.{HasHoles}
use Rattle.psg_grammar.specs.Paths.{Path}
use Rattle.psg_class.specs.Places.{solid}
use Rattle.psg_class.specs.Terminals.{Token, placeholder}
use Rattle.psg_class.specs.Yields.{TreeYields, of_hole, of_operator, in_brackets, PartsYield, no_items, of_word}
use Rattle.psg_class.specs.Yields.{of_refers, of_declares, of_number, of_text, of_slot, of_list_slot, ListYields}
use Rattle.psg_class.specs.Yields.{no_elements, only_more, elements, SomeYield, last_element, and_more, and_elements}
use Rattle.psg_class.specs.Yields.{Yields}
use Rattle.psg_ranges.specs.declared.ranges.Range.{Range}

-- Nodes side by side, each with the nodes below it. A node has the number of its first token, the number after that of
-- its last one, and the numbers of the tokens that are its names. Brackets around a node are none of its tokens.
pub data Forest : Type 0 where
  no_nodes : Forest
  node : (start end : ℕ) (names : List ℕ) (below beside : Forest) → Forest

-- a tree of the phylum without brackets around it
pub data Core (def : Definition) : Fragment → ℕ → List Token → Type 0 where
  hole_core : {p : ℕ} (phylum : Phylum) → slice_get def.phyla p ≡ Some phylum → HasHoles def (kinds.Phylum p)
      → Core def (hole p) p (placeholder phylum.name ∷ [])
  operator_core : {f : Fragment} {p depth : ℕ} {ts : List Token} (n : ℕ) (o : Operator)
      → slice_get def.operators n ≡ Some o → o.phylum ≡ p
      → PartsYield def o true (operator n) 0 (solid o.items) f depth ts → Core def f p ts

-- ---- the nodes of a derivation, where the first token has the number `start`

-- the names among the tokens of these items
abbrev pub names_of : {def : Definition} {o : Operator} {first : Bool} {f g : Fragment} {d e : ℕ} {more : List Item}
    {ts : List Token} → PartsYield def o first f d more g e ts → ℕ → List ℕ
names_of no_items start = []
names_of (of_word t is z) start = names_of z (start + 1)
names_of (of_refers s x is z) start = start ∷ names_of z (start + 1)
names_of (of_declares s x is z) start = start ∷ names_of z (start + 1)
names_of (of_number x z) start = names_of z (start + 1)
names_of (of_text x z) start = names_of z (start + 1)
names_of (of_slot t depth own behind y z) start = names_of z (start + length own)
names_of (of_list_slot t depth own behind y z) start = names_of z (start + length own)

-- of_tree, of_list: the node, in front of those beside it. of_parts: the children of an operator. of_elements: the
-- elements of a list. A node without tokens ends where it begins.
module _ {def : Definition} where
  abbrev mutual
    pub of_tree : {f : Fragment} {p level depth : ℕ} {ts : List Token} → TreeYields def f p level depth ts → ℕ → Forest
        → Forest
    of_tree (of_hole phylum found holes) start beside = node start (start + 1) [] no_nodes beside
    of_tree (of_operator {ts = ts} n o found is fits z) start beside =
        node start (start + length ts) (names_of z start) (of_parts z start) beside
    of_tree (in_brackets phylum t u found bracketed is is' y) start beside = of_tree y (start + 1) beside

    pub of_parts : {o : Operator} {first : Bool} {f g : Fragment} {d e : ℕ} {more : List Item} {ts : List Token}
        → PartsYield def o first f d more g e ts → ℕ → Forest
    of_parts no_items start = no_nodes
    of_parts (of_word t is z) start = of_parts z (start + 1)
    of_parts (of_refers s x is z) start = of_parts z (start + 1)
    of_parts (of_declares s x is z) start = of_parts z (start + 1)
    of_parts (of_number x z) start = of_parts z (start + 1)
    of_parts (of_text x z) start = of_parts z (start + 1)
    of_parts (of_slot t depth own behind y z) start = of_tree y start (of_parts z (start + length own))
    of_parts (of_list_slot t depth own behind y z) start = of_list y start (of_parts z (start + length own))

    pub of_list : {f : Fragment} {l depth : ℕ} {ts : List Token} → ListYields def f l depth ts → ℕ → Forest → Forest
    of_list (no_elements kind found) start beside = node start start [] no_nodes beside
    of_list (only_more kind found unfinished) start beside = node start (start + 1) [] no_nodes beside
    of_list (elements {ts = ts} y) start beside = node start (start + length ts) [] (of_elements y start) beside

    pub of_elements : {f : Fragment} {l depth : ℕ} {ts : List Token} → SomeYield def f l depth ts → ℕ → Forest
    of_elements (last_element kind found y) start = of_tree y start no_nodes
    of_elements (and_more ts kind separator found unfinished is y) start = of_tree y start no_nodes
    of_elements (and_elements kind m n own behind separator found is y z) start =
        of_tree y start (of_elements z (start + length own + 1))

-- the nodes of a tree of the kind, whose tokens are numbered from 0
abbrev pub nodes_of : (def : Definition) (f : Fragment) (kind : Kind) (level depth : ℕ) (ts : List Token)
    → Yields def f kind level depth ts → Forest
nodes_of def f (kinds.Phylum p) level depth ts y = of_tree y 0 no_nodes
nodes_of def f (kinds.List l) level depth ts y = of_list y 0 no_nodes

-- ---- a forest as a list, and by paths

-- the ranges, a node before those below it, and these before those beside it
abbrev pub ranges_in : Forest → List Range
ranges_in no_nodes = []
ranges_in (node start end names below beside) =
    record { start = start; end = end; nodes = suc (length (ranges_in below)); names = names }
    ∷ (ranges_in below ++ ranges_in beside)

-- the nodes from the one of this number on
abbrev pub from_nth : Forest → ℕ → Forest
from_nth f zero = f
from_nth no_nodes (suc k) = no_nodes
from_nth (node start end names below beside) (suc k) = from_nth beside k

abbrev pub below_first : Forest → Forest
below_first no_nodes = no_nodes
below_first (node start end names below beside) = below

-- the nodes from the one at the path on; a step is the number of a child, from 0
abbrev pub at_path : Forest → Path → Forest
at_path f [] = f
at_path f (k ∷ path) = at_path (from_nth (below_first f) k) path

-- the range of the first node
abbrev pub first_range : Forest → Option Range
first_range no_nodes = None
first_range (node start end names below beside) =
    Some (record { start = start; end = end; nodes = suc (length (ranges_in below)); names = names })
