-- The names `it` of a specimen.
use Rattle.std.specs.Prelude.{ℕ, ◌+◌, ◌==◌, ◌&&◌, not, Bool, true, false, cond, List, [], ◌∷◌, ◌++◌, Option, Some, None}
use Rattle.std.specs.Prelude.{slice_get, bytes_eq, codes}
use Rattle.psg_grammar.specs.declared.types.Item.{Item}
use Rattle.psg_grammar.specs.declared.types.Item.TheVariants as items
use Rattle.psg_grammar.specs.declared.types.Specimen.{Specimen}
use Rattle.psg_grammar.specs.declared.types.SpecimenPart.{SpecimenPart, Sub, Name, Number, Text}
use Rattle.psg_grammar.specs.declared.types.Definition.{Definition}
use Rattle.psg_grammar.specs.Fragments.{Fragment, hole, ending, cell, operator, with_child, with_name, with_number}
use Rattle.psg_grammar.specs.Fragments.{with_text, anything, observed}
use Rattle.psg_grammar.specs.Lookups.{is_part, is_scope, next_item}
use Rattle.psg_grammar.specs.Specimens.{tree_of}
use Rattle.psg_specimen.specs.declared.its.Spot.{Spot}

-- a name `it` in a space, declared or used
abbrev pub spot_by : ℕ → Bool → Spot
spot_by s b = record { space = s; declares = b }

-- the space of a name's key at the item, and whether it declares there; the key of a name at another item is empty
abbrev pub spot_of : Item → Spot
spot_of (items.Refers s) = spot_by s false
spot_of (items.Declares s) = spot_by s true
spot_of _ = spot_by 0 false

-- the spot of an item; where there is none, any spot that declares nothing
abbrev pub spot_or : Option Item → Spot
spot_or None = spot_by 0 false
spot_or (Some i) = spot_of i

-- the spots of the items, those of items that have parts, and the one with the number
abbrev pub spots_of : List Item → List Spot
spots_of [] = []
spots_of (i ∷ rest) = spot_of i ∷ spots_of rest

-- the spot of an item that has a part in a tree
abbrev pub item_spot : Item → List Spot
item_spot i = cond (is_part i) (spot_of i ∷ []) []

-- the spots of all such items, in order
abbrev pub part_spots : List Item → List Spot
part_spots [] = []
part_spots (i ∷ rest) = item_spot i ++ part_spots rest

-- a spot that is there, or any spot that declares nothing
abbrev pub there_or : Option Spot → Spot
there_or None = spot_by 0 false
there_or (Some x) = x

-- the spot of this number
abbrev pub spot_in : List Spot → ℕ → Spot
spot_in xs k = there_or (slice_get xs k)

-- the spot of the name where it is `it`
abbrev pub one_it : Bool → Spot → List ℕ → List Spot
one_it inside x n = cond (bytes_eq n (codes "it")) (spot_by x.space (inside && x.declares) ∷ []) []

module _ (def : Definition) where
  -- the names `it` in the tree, where what the node at the top has inside is in the region or not
  abbrev pub its_inside : Bool → Fragment → List Spot
  its_inside inside (hole p) = []
  its_inside inside (ending l u) = []
  its_inside inside (cell l e r) = its_inside (inside && not (is_scope def e)) e ++ its_inside inside r
  its_inside inside (operator o) = []
  its_inside inside (with_child f t) = its_inside inside f ++ its_inside (inside && not (is_scope def t)) t
  its_inside inside (with_name f n) = its_inside inside f ++ one_it inside (spot_or (next_item def f)) n
  its_inside inside (with_number f n) = its_inside inside f
  its_inside inside (with_text f t) = its_inside inside f
  its_inside inside anything = []
  its_inside inside (observed f) = its_inside inside f

  abbrev pub its_in : Bool → Fragment → List Spot
  its_in inside f = its_inside (inside && not (is_scope def f)) f

  abbrev pub its_of_part : Bool → Spot → SpecimenPart → List Spot
  its_of_part inside x (Sub s) = its_in inside (tree_of s)
  its_of_part inside x (Name n) = one_it inside x n
  its_of_part inside x (Number n) = []
  its_of_part inside x (Text t) = []

  -- the names `it` of the parts of an operator with these spots, from the number on
  abbrev pub its_of_parts : Bool → List Spot → ℕ → List SpecimenPart → List Spot
  its_of_parts inside spots k [] = []
  its_of_parts inside spots k (p ∷ rest) = its_of_part inside (spot_in spots k) p
      ++ its_of_parts inside spots (k + 1) rest

  abbrev pub its_of_elements : Bool → List Specimen → List Spot
  its_of_elements inside [] = []
  its_of_elements inside (s ∷ rest) = its_in inside (tree_of s) ++ its_of_elements inside rest

-- whether the spot declares in the space
abbrev pub declares_there : ℕ → Spot → Bool
declares_there s x = x.declares && (x.space == s)

-- how many declare in the space
abbrev pub declare_in : ℕ → List Spot → ℕ
declare_in s [] = 0
declare_in s (x ∷ xs) = cond (declares_there s x) 1 0 + declare_in s xs
