-- What is reported about a blamed place, by the table of the page on program files: one constructor for each row.
use Rattle.std.specs.Prelude.{ℕ, ◌≡◌, Bool, true, false, cond, List, [], ◌∷◌, ◌++◌, Option, Some, None, slice_get}
use Rattle.std.specs.Prelude.{codes, decimal}
use Rattle.psg_terms.specs.Names.{Name}
use Rattle.psg_terms.specs.Terms.{Term}
use Rattle.psg_grammar.specs.declared.types.Definition.{Definition}
use Rattle.psg_grammar.specs.declared.types.ListKind.{ListKind}
use Rattle.psg_grammar.specs.declared.types.Operator.{Operator}
use Rattle.psg_grammar.specs.Fragments.{Fragment}
use Rattle.psg_grammar.specs.Paths.{Path, node_at}
use Rattle.psg_menu.specs.Menus.{IsMenu}
use Rattle.psg_places.specs.declared.place.Place.{Place}
use Rattle.psg_places.specs.declared.place.Place.TheVariants.{Node, Element, End, Name as NameOf}
use Rattle.psg_places.specs.Blame.{kept_in}
use Rattle.psg_places.specs.Opened.{opened}
use Rattle.psg_places.specs.Places.{declares, declares_by, operator_of}
use Rattle.psg_program.specs.Places.{IsAt}
use Rattle.psg_uses.specs.declared.names.Written.{Written}
use Rattle.psg_wanted.specs.Fronts.{AreKeyValues, AreValues, IsListed, IsThere, IsTooMuch, elements_of, is_first}
use Rattle.psg_wanted.specs.Fronts.{last_path}
use Rattle.psg_wanted.specs.Fronts.{list_of, with_last}
use Rattle.psg_uses.specs.Naming.{nth_name}
use Rattle.psg_uses.specs.Regions.{declaration_of, declared_again}
use Rattle.psg_recover.specs.TextPlaces.{Read, name_byte}
use Rattle.psg_wanted.specs.Texts.{entity_wanted, menu_or_none, node_message, operator_name, say_nothing, values_text}

-- the phylum of the list's elements
abbrev pub element_of : Option ListKind → ℕ
element_of None = 0
element_of (Some k) = k.element

-- that of the elements of the list, if it is one
abbrev pub element_phylum : Definition → Option Fragment → ℕ
element_phylum def list = element_of (slice_get def.lists (list_of list))

-- `L:C`
abbrev pub place_text : ℕ → ℕ → List ℕ
place_text line column = decimal line ++ 58 ∷ decimal column

-- no further element: `OP does not fit here` if elements declare
abbrev pub operator_message : Definition → Option Operator → List ℕ
operator_message def o = cond (declares_by def o) (operator_name o ++ codes " does not fit here")
    (codes "no further element fits here")

-- what is reported about the element
abbrev pub element_message : Definition → Fragment → List ℕ
element_message def e = operator_message def (operator_of def e)

-- it is the name of this number of the node at the path, and it is declared there or not
abbrev pub IsNameOf : Definition → Fragment → Path → ℕ → Written → Bool → Type 0
IsNameOf def f path k w declared = nth_name def path k (node_at f path)
    ≡ Some (record { name = w; declares = declared })

-- The operators that may be a further element of the list at the path, whose elements are of the phylum. If the tree
-- passes a limit, none are reported.
pub data IsElementMenu (def : Definition) (g : Fragment) (path : Path) (p : ℕ) : List ℕ → Type 0 where
  listed : (ops : List ℕ) → (IsTooMuch def g → ⊥)
      → IsMenu def g path (Some (elements_of (node_at g path))) (IsListed def) p ops → IsElementMenu def g path p ops
  beyond : IsTooMuch def g → IsElementMenu def g path p []

-- the values of a further element say nothing, or the elements declare
pub data SaysNoValues (def : Definition) (g : Fragment) (path : Path) (p : ℕ) : Type 0 where
  declaring : declares def p ≡ true → SaysNoValues def g path p
  silent : (values : List Term) → AreValues def (with_last g path p) (last_path g path) values
      → say_nothing values ≡ true
      → SaysNoValues def g path p

-- What is reported about the end of the list at the path of the tree: which values a further element has, or which it
-- may be.
pub data IsEndMessage (def : Definition) (g : Fragment) (path : Path) : List ℕ → Type 0 where
  by_values : (p : ℕ) (wanted : List Term) → p ≡ element_phylum def (node_at g path) → declares def p ≡ false
      → AreValues def (with_last g path p) (last_path g path) wanted → say_nothing wanted ≡ false
      → IsEndMessage def g path (codes "an element is missing here, wanted " ++ values_text def.signature wanted)
  by_menu : (p : ℕ) (ops : List ℕ) → p ≡ element_phylum def (node_at g path) → SaysNoValues def g path p
      → IsElementMenu def g path p ops
      → IsEndMessage def g path (codes "an element is missing here: " ++ menu_or_none def ops)

module _ (def : Definition) (text : List ℕ) (f : Fragment) (r : Read) where
  -- the line and the column of the name
  abbrev pub IsNameAt : Written → ℕ → ℕ → Type 0
  IsNameAt w line column = IsAt text (name_byte def r w.path w.number) line column

  -- where the name is declared, or that nothing declares it
  pub data IsDeclaredText (w : Written) : List ℕ → Type 0 where
    declared_at : (d : Written) (line column : ℕ) → declaration_of def f w ≡ Some d → IsNameAt d line column
        → IsDeclaredText w (codes ", declared at " ++ place_text line column)
    declared_nowhere : declaration_of def f w ≡ None → IsDeclaredText w (codes ", used otherwise before")

  -- what is reported about a name that is declared
  pub data IsDeclaredMessage (w : Written) : List ℕ → Type 0 where
    twice : (d : Written) (line column : ℕ) → declared_again def f w ≡ Some d → IsNameAt d line column
        → IsDeclaredMessage w (w.name ++ (codes " is declared twice, at " ++ (place_text line column ++ codes " too")))
    once : declared_again def f w ≡ None → IsDeclaredMessage w (w.name ++ codes " is used as something else before")

  -- The new names are those of the places that are opened.
  module _ (fresh : ℕ → Name) where
    -- the tree of the places that these answers keep, all later places opened
    abbrev pub tree_of : List Bool → Fragment
    tree_of kept = opened def (kept_in kept) fresh f

    -- Of a used name, whose place has the number n and is not kept: what is wanted of the entity of the new name in its
    -- place.
    pub data IsUseMessage (kept : List Bool) (n : ℕ) (w : Written) : List ℕ → Type 0 where
      use_message : (terms : List Term) (declared : List ℕ)
          → AreKeyValues def (tree_of kept) (w.space ∷ fresh n) terms → IsDeclaredText w declared
          → IsUseMessage kept n w (w.name ++ (codes " does not fit here"
          ++ (entity_wanted def.signature terms ++ declared)))

    -- This is reported about the place n, if `kept` are the answers for those before it.
    pub data IsMessage (kept : List Bool) (n : ℕ) : Place → List ℕ → Type 0 where
      of_node : (path there : Path) (g : Fragment) (wanted found : List Term) → node_at f path ≡ Some g
          → IsThere def f kept path there → AreValues def (tree_of kept) there wanted
          → AreValues def (opened def is_first fresh g) [] found
          → IsMessage kept n (Node path) (node_message def.signature wanted found)
      of_element : (path : Path) (e : Fragment) → node_at f path ≡ Some e
          → IsMessage kept n (Element path) (element_message def e)
      of_end : (path there : Path) (message : List ℕ) → IsThere def f kept path there
          → IsEndMessage def (tree_of kept) there message → IsMessage kept n (End path) message
      of_declared : (path : Path) (k : ℕ) (w : Written) (message : List ℕ) → IsNameOf def f path k w true
          → IsDeclaredMessage w message → IsMessage kept n (NameOf path k) message
      of_used : (path : Path) (k : ℕ) (w : Written) (message : List ℕ) → IsNameOf def f path k w false
          → IsUseMessage kept n w message → IsMessage kept n (NameOf path k) message
