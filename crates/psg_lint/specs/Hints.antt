-- Other places than the blamed one, which say more of what is wrong.
use Rattle.std.specs.Prelude.{ℕ, suc, ◌≡◌, ◌<◌, Bool, true, false, List, [], ◌∷◌, ◌++◌, length, Some, slice_get, take}
use Rattle.std.specs.Prelude.{drop}
use Rattle.psg_terms.specs.Names.{Name}
use Rattle.psg_terms.specs.Relations.{IsIn}
use Rattle.psg_grammar.specs.declared.types.Definition.{Definition}
use Rattle.psg_grammar.specs.Fragments.{Fragment, children_of}
use Rattle.psg_grammar.specs.Paths.{IsList, Path, change_at, node_at, removed}
use Rattle.psg_places.specs.declared.place.Place.{Place}
use Rattle.psg_places.specs.declared.place.Place.TheVariants.{Name as NameOf}
use Rattle.psg_places.specs.Blame.{kept_in}
use Rattle.psg_places.specs.Opened.{opened}
use Rattle.psg_places.specs.Places.{declares, places_of}
use Rattle.psg_places.specs.Ways.{goes_through}
use Rattle.psg_uses.specs.declared.elements.Member.{Member}
use Rattle.psg_uses.specs.declared.names.Named.{Named}
use Rattle.psg_uses.specs.declared.names.Written.{Written}
use Rattle.psg_lint.specs.Blamed.{IsNameOf, element_phylum}
use Rattle.psg_wanted.specs.Fronts.{IsGoodTree}
use Rattle.psg_uses.specs.Members.{members_at}
use Rattle.psg_uses.specs.Regions.{declaration_of, region_of}

-- the last member with the property
pub record IsLast {X : Type 0} (P : X → Type 0) (xs : List X) (x : X) : Type 0 where
  pub front : List X
  pub rest : List X
  pub split : xs ≡ front ++ x ∷ rest
  pub holds : P x
  pub last : (y : X) → IsIn y rest → P y → ⊥

-- the tree of the places that these answers keep is good
abbrev pub IsGoodWith : Definition → (ℕ → Name) → Fragment → List Bool → Type 0
IsGoodWith def fresh f kept = IsGoodTree def (opened def (kept_in kept) fresh f)

-- there is such an element of a list
pub record HasMember (f : Fragment) (m : Member) : Type 0 where
  pub list : Fragment
  pub there : node_at f m.list ≡ Some list
  pub is_list : IsList list
  pub inside : m.number < length (children_of list)

-- ---- one element of a fixed list less

-- what is at the place after these answers may be kept if the element is left out
abbrev pub IsBetterWithout : Definition → (ℕ → Name) → Fragment → List Bool → Member → Type 0
IsBetterWithout def fresh f kept m =
    IsGoodWith def fresh (change_at (removed m.number) m.list f) (kept ++ true ∷ [])

-- the last such element of the node at the path
abbrev pub IsWithout : Definition → (ℕ → Name) → Fragment → List Bool → Path → Member → Type 0
IsWithout def fresh f kept path m =
    IsLast (IsBetterWithout def fresh f kept) (members_at def path (node_at f path)) m

-- there is none
abbrev pub HasNoWithout : Definition → (ℕ → Name) → Fragment → List Bool → Path → Type 0
HasNoWithout def fresh f kept path = (m : Member) → IsIn m (members_at def path (node_at f path))
    → IsBetterWithout def fresh f kept m → ⊥

-- ---- another name in front of the end of a list that declares

-- The place is a name that is used in the region, and nothing in the region declares it.
pub record IsLooseUse (def : Definition) (f : Fragment) (region : Path) (place : Place) (w : Written) : Type 0 where
  pub path : Path
  pub k : ℕ
  pub place_is : place ≡ NameOf path k
  pub is : IsNameOf def f path k w false
  pub inside : goes_through region path ≡ true
  pub loose : (d : Written) → declaration_of def f w ≡ Some d → goes_through region d.path ≡ true → ⊥

-- the place of the number is one, and is kept
pub record IsLoose (def : Definition) (f : Fragment) (kept : List Bool) (region : Path) (number : ℕ) (w : Written)
    : Type 0 where
  pub place : Place
  pub there : slice_get (places_of def f) number ≡ Some place
  pub is_kept : slice_get kept number ≡ Some true
  pub is_use : IsLooseUse def f region place w

-- the answers, except that the place of the number is not kept
abbrev pub but_for : List Bool → ℕ → List Bool
but_for kept number = take number kept ++ false ∷ (drop (suc number) kept)

-- With another name there the end, which is the place after these answers, can be kept. It is the last such use.
pub record IsOtherName (def : Definition) (fresh : ℕ → Name) (f : Fragment) (kept : List Bool) (path : Path)
    (number : ℕ)
    (w : Written) : Type 0 where
  pub declaring : declares def (element_phylum def (node_at f path)) ≡ true
  pub is_loose : IsLoose def f kept (region_of def f path) number w
  pub good : IsGoodWith def fresh f (but_for kept number ++ true ∷ [])
  pub last : (later : ℕ) (v : Written) → number < later → IsLoose def f kept (region_of def f path) later v
      → IsGoodWith def fresh f (but_for kept later ++ true ∷ []) → ⊥

-- no use is one
abbrev pub HasNoOtherName : Definition → (ℕ → Name) → Fragment → List Bool → Path → Type 0
HasNoOtherName def fresh f kept path = (number : ℕ) (w : Written) → IsOtherName def fresh f kept path number w → ⊥

-- ---- steps

-- The name is used, and nothing in the region declares it.
pub record IsUndeclared (def : Definition) (f : Fragment) (region : Path) (own : Named) : Type 0 where
  pub is_used : own.declares ≡ false
  pub loose : (d : Written) → declaration_of def f own.name ≡ Some d → goes_through region d.path ≡ true → ⊥

-- With another name in the place of the number the end can be kept.
pub record IsOther (def : Definition) (fresh : ℕ → Name) (f : Fragment) (kept : List Bool) (region : Path) (number : ℕ)
    (w : Written) : Type 0 where
  pub is_loose : IsLoose def f kept region number w
  pub good : IsGoodWith def fresh f (but_for kept number ++ true ∷ [])

-- the last such use of those from the number on
pub record IsLastOther (def : Definition) (fresh : ℕ → Name) (f : Fragment) (kept : List Bool) (region : Path)
    (number : ℕ) (w : Written) : Type 0 where
  pub is : IsOther def fresh f kept region number w
  pub last : (later : ℕ) (v : Written) → number < later → IsOther def fresh f kept region later v → ⊥
