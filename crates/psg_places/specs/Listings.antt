-- The opened and the blamed places of a tree, listed by path.
use Rattle.std.specs.Prelude.{ℕ, suc, ◌≡◌, ◌+◌, not, Bool, false, cond, List, [], ◌∷◌, ◌++◌, length, Option, Some, None}
use Rattle.std.specs.Prelude.{slice_get}
use Rattle.psg_grammar.specs.declared.types.Definition.{Definition}
use Rattle.psg_grammar.specs.Fragments.{Fragment}
use Rattle.psg_grammar.specs.Paths.{Path}
use Rattle.psg_tree.specs.declared.tree.Part.{Part}
use Rattle.psg_tree.specs.declared.tree.Part.TheVariants.{Sub, Name as NamePart, Number, Text}
use Rattle.psg_places.specs.declared.passing.Listing.{Listing}
use Rattle.psg_places.specs.declared.passing.What.{What}
use Rattle.psg_places.specs.declared.passing.What.TheVariants as what
use Rattle.psg_places.specs.declared.place.Place.{Place}
use Rattle.psg_places.specs.declared.place.Place.TheVariants.{Node, Element, End, Name}
use Rattle.psg_places.specs.Blame.{kept_in}
use Rattle.psg_places.specs.Places.{below, child_places, content_places, declared_places, has_no_placeholder}

-- the places among these that are not kept, of which the first has the number n
abbrev pub opened_among : List Bool → ℕ → List Place → List Place
opened_among kept n [] = []
opened_among kept n (p ∷ ps) = cond (not (kept_in kept n)) (p ∷ []) [] ++ opened_among kept (suc n) ps

abbrev pub is_some_false : Option Bool → Bool
is_some_false None = false
is_some_false (Some b) = not b

-- whether there is an answer for the place of the number, and it is blamed
abbrev pub is_blamed : List Bool → ℕ → Bool
is_blamed kept n = is_some_false (slice_get kept n)

-- the blamed places among these, of which the first has the number n
abbrev pub blamed_among : List Bool → ℕ → List Place → List Place
blamed_among kept n [] = []
blamed_among kept n (p ∷ ps) = cond (is_blamed kept n) (p ∷ []) [] ++ blamed_among kept (suc n) ps

-- ---- steps of the walk

-- After these places their number is added, and those of them that are opened.
pub record Lists (kept : List Bool) (ps : List Place) (old new : Listing) : Type 0 where
  pub seen : new.seen ≡ old.seen + length ps
  pub found : new.found.items ≡ old.found.items ++ opened_among kept old.seen ps

abbrev pub place_by : What → Path → Place
place_by what.Node path = Node path
place_by what.Element path = Element path
place_by what.End path = End path
place_by (what.Name n) path = Name path n

module _ (def : Definition) where
  -- those of a part of the node at the path, which has j names and c children before it
  abbrev pub part_declared_places : Path → Bool → ℕ → ℕ → Part → List Place
  part_declared_places path declares j c (Sub t) =
      cond (has_no_placeholder def t) (declared_places def (below path c) 0 t) []
  part_declared_places path declares j c (NamePart x) = cond declares (Name path j ∷ []) []
  part_declared_places path declares j c (Number x) = []
  part_declared_places path declares j c (Text x) = []

  abbrev pub part_content_places : Path → Bool → ℕ → ℕ → Part → List Place
  part_content_places path declares j c (Sub t) =
      child_places def (below path c) t (content_places def (below path c) 0 t)
  part_content_places path declares j c (NamePart x) = cond declares [] (Name path j ∷ [])
  part_content_places path declares j c (Number x) = []
  part_content_places path declares j c (Text x) = []

  -- the declared names of an element of a list that can't be unfinished
  abbrev pub fixed_places : Path → Fragment → List Place
  fixed_places path e = cond (has_no_placeholder def e) (declared_places def path 0 e) []

  -- what is said there, of elements, of which the first has the number k
  abbrev pub elements_declared_places : Path → ℕ → List Fragment → List Place
  elements_declared_places path k [] = []
  elements_declared_places path k (e ∷ es) =
      fixed_places (below path k) e ++ elements_declared_places path (suc k) es

  -- the places of a child with its contents
  abbrev pub own_child_places : Path → Fragment → List Place
  own_child_places path t = child_places def path t (content_places def path 0 t)

  -- the declared names, and then the other places
  abbrev pub both_places : Path → Fragment → List Place
  both_places path t = declared_places def path 0 t ++ content_places def path 0 t

  -- those of an element, if the list may go on and if not
  abbrev pub own_element_places : Bool → Path → Fragment → List Place
  own_element_places free path e = cond free
      (Element path ∷ cond (has_no_placeholder def e) (both_places path e) (own_child_places path e))
      (own_child_places path e)

  abbrev pub elements_places : Bool → Path → ℕ → List Fragment → List Place
  elements_places free path k [] = []
  elements_places free path k (e ∷ es) =
      own_element_places free (below path k) e ++ elements_places free path (suc k) es

-- how many names and how many children a part is
abbrev pub names_in : Part → ℕ
names_in (NamePart x) = 1
names_in _ = 0

abbrev pub children_in : Part → ℕ
children_in (Sub t) = 1
children_in _ = 0
