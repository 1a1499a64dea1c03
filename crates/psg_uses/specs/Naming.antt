-- The names of a tree, by path, in the order of the text.
use Rattle.std.specs.Prelude.{ℕ, suc, ◌==◌, ◌&&◌, not, Bool, true, false, cond, List, [], ◌∷◌, ◌++◌, length, bytes_eq}
use Rattle.std.specs.Prelude.{Option, Some, None}
use Rattle.psg_grammar.specs.declared.types.Definition.{Definition}
use Rattle.psg_grammar.specs.declared.types.Item.{Item}
use Rattle.psg_grammar.specs.declared.types.Item.TheVariants as items
use Rattle.psg_grammar.specs.Fragments.{Fragment, hole, ending, cell, operator, with_child, with_name, with_number}
use Rattle.psg_grammar.specs.Fragments.{with_text, anything, observed, children_of}
use Rattle.psg_grammar.specs.Keys.{Key}
use Rattle.psg_grammar.specs.Lookups.{is_scope, next_item}
use Rattle.psg_grammar.specs.Paths.{Path}
use Rattle.psg_places.specs.declared.place.Place.{Place}
use Rattle.psg_places.specs.declared.place.Place.TheVariants as places
use Rattle.psg_places.specs.Places.{below, names_before}
use Rattle.psg_uses.specs.declared.names.NameItem.{NameItem}
use Rattle.psg_uses.specs.declared.names.Named.{Named}
use Rattle.psg_uses.specs.declared.names.Written.{Written}

-- what an item says of a name
abbrev pub name_item : Option Item → Option NameItem
name_item (Some (items.Refers s)) = Some (record { declares = false; space = s })
name_item (Some (items.Declares s)) = Some (record { declares = true; space = s })
name_item _ = None

abbrev pub is_same : Bool → Bool → Bool
is_same true b = b
is_same false b = not b

abbrev pub written : Path → ℕ → ℕ → List ℕ → Written
written path number space x = record { path = path; number = number; space = space; name = x }

abbrev pub key_of : Written → Key
key_of w = w.space ∷ w.name

-- the name, if names of its kind are wanted
abbrev pub wanted_name : Bool → Option NameItem → Path → ℕ → List ℕ → List Written
wanted_name declared None path number x = []
wanted_name declared (Some item) path number x =
    cond (is_same declared item.declares) (written path number item.space x ∷ []) []

-- The names of the node at the path and of those below it, in the order of the text: those that are declared, or those
-- that are used; all, or not those below scope operators. The first element of a list has the number k.
module _ (def : Definition) (declared inside : Bool) where
  abbrev pub names_below : Path → ℕ → Fragment → List Written
  names_below path k (hole p) = []
  names_below path k (ending l u) = []
  names_below path k (cell l e r) =
      cond (not inside && is_scope def e) [] (names_below (below path k) 0 e) ++ names_below path (suc k) r
  names_below path k (operator o) = []
  names_below path k (with_child f t) = names_below path k f
      ++ cond (not inside && is_scope def t) [] (names_below (below path (length (children_of f))) 0 t)
  names_below path k (with_name f x) = names_below path k f
      ++ wanted_name declared (name_item (next_item def f)) path (names_before f) x
  names_below path k (with_number f x) = names_below path k f
  names_below path k (with_text f x) = names_below path k f
  names_below path k anything = []
  names_below path k (observed f) = []

-- the names that are used in the tree
abbrev pub used_names : Definition → Fragment → List Written
used_names def f = names_below def false true [] 0 f

-- ---- one name

abbrev pub own_name : Option NameItem → Path → ℕ → List ℕ → Option Named
own_name None path number x = None
own_name (Some item) path number x =
    Some (record { name = written path number item.space x; declares = item.declares })

-- the name of the number of the operator at the path
abbrev pub name_in : Definition → Path → ℕ → Fragment → Option Named
name_in def path k (with_child f t) = name_in def path k f
name_in def path k (with_name f x) =
    cond (names_before f == k) (own_name (name_item (next_item def f)) path k x) (name_in def path k f)
name_in def path k (with_number f x) = name_in def path k f
name_in def path k (with_text f x) = name_in def path k f
name_in def path k _ = None

abbrev pub nth_name : Definition → Path → ℕ → Option Fragment → Option Named
nth_name def path k None = None
nth_name def path k (Some f) = name_in def path k f

abbrev pub is_same_place : Written → Written → Bool
is_same_place a b = a.number == b.number && bytes_eq a.path b.path

abbrev pub is_same_key : Written → Written → Bool
is_same_key a b = a.space == b.space && bytes_eq a.name b.name

abbrev pub path_of_place : Place → Path
path_of_place (places.Node path) = path
path_of_place (places.Element path) = path
path_of_place (places.End path) = path
path_of_place (places.Name path k) = path
