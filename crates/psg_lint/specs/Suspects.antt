-- Declarations that explain all that is wrong.
use Rattle.std.specs.Prelude.{ℕ, ◌≡◌, ◌<◌, ◌≤◌, ◌↔◌, ◌+◌, Bool, true, false, List, [], ◌∷◌, ◌++◌, length, Option, None}
use Rattle.std.specs.Prelude.{Some, slice_get, codes}
use Rattle.psg_terms.specs.Names.{Name}
use Rattle.psg_grammar.specs.declared.types.Definition.{Definition}
use Rattle.psg_grammar.specs.Fragments.{Fragment}
use Rattle.psg_grammar.specs.Paths.{Path}
use Rattle.psg_places.specs.declared.place.Place.{Place}
use Rattle.psg_places.specs.declared.place.Place.TheVariants.{Name as NameOf}
use Rattle.psg_places.specs.Blame.{blamed_in}
use Rattle.psg_places.specs.Places.{place_count, places_of}
use Rattle.psg_places.specs.Ways.{goes_through}
use Rattle.psg_recover.specs.declared.finding.Finding.{Finding}
use Rattle.psg_uses.specs.declared.names.Written.{Written}
use Rattle.psg_lint.specs.Blamed.{IsNameOf}
use Rattle.psg_recover.specs.Findings.{note_at}
use Rattle.psg_lint.specs.Hints.{IsGoodWith}
use Rattle.psg_uses.specs.Naming.{path_of_place}
use Rattle.psg_recover.specs.TextPlaces.{Read, name_byte}

-- a list of what is found, if anything is
abbrev pub one_or_none : Option Finding → List Finding
one_or_none None = []
one_or_none (Some found) = found ∷ []

module _ (def : Definition) (f : Fragment) where
  -- the place is a name that is declared
  pub record IsDeclaration (place : Place) (w : Written) : Type 0 where
    pub path : Path
    pub k : ℕ
    pub place_is : place ≡ NameOf path k
    pub is : IsNameOf def f path k w true

  -- The place n is below the declaration, whose place has the number, after it, and declares nothing.
  pub record IsContent (path : Path) (number n : ℕ) : Type 0 where
    pub place : Place
    pub there : slice_get (places_of def f) n ≡ Some place
    pub inside : goes_through path (path_of_place place) ≡ true
    pub after : number < n
    pub quiet : (w : Written) → IsDeclaration place w → ⊥

  -- All blamed places are outside of what is below the path.
  abbrev pub AreOutside : List Bool → Path → Type 0
  AreOutside kept path = (n : ℕ) (p : Place) → slice_get kept n ≡ Some false → slice_get (places_of def f) n ≡ Some p
      → goes_through path (path_of_place p) ≡ true → ⊥

  -- The answers keep all places but the contents of the declaration, whose place has the number; it has some.
  pub record AreButContents (path : Path) (number : ℕ) (answers : List Bool) : Type 0 where
    pub each : length answers ≡ place_count def f
    pub opens : (n : ℕ) → (slice_get answers n ≡ Some false) ↔ IsContent path number n
    pub some : (n : ℕ) × IsContent path number n

  -- All blamed places are outside of what is below the declaration, and with its contents opened all the rest can be
  -- kept.
  pub record IsExplaining (fresh : ℕ → Name) (kept : List Bool) (path : Path) (number : ℕ) : Type 0 where
    pub outside : AreOutside kept path
    pub answers : List Bool
    pub but_contents : AreButContents path number answers
    pub good : IsGoodWith def fresh f answers

  -- Two places or more are blamed, and the declaration explains them.
  pub record IsSuspect (fresh : ℕ → Name) (kept : List Bool) (number : ℕ) (w : Written) : Type 0 where
    pub place : Place
    pub there : slice_get (places_of def f) number ≡ Some place
    pub declared : IsDeclaration place w
    pub several : 2 ≤ blamed_in kept
    pub explains : IsExplaining fresh kept w.path number

  -- each place from the number on in turn
  pub data AreSuspected (r : Read) (fresh : ℕ → Name) (kept : List Bool) : ℕ → List Place → List Finding → Type 0 where
    none_left : (number : ℕ) → AreSuspected r fresh kept number [] []
    suspected : {number : ℕ} {places : List Place} {found : List Finding} (place : Place) (w : Written)
        → IsSuspect fresh kept number w → AreSuspected r fresh kept (number + 1) places found
        → AreSuspected r fresh kept number (place ∷ places) (note_at (name_byte def r w.path w.number)
        (codes "with another declaration of " ++ (w.name ++ codes " all the rest would fit")) ∷ found)
    unsuspected : {number : ℕ} {places : List Place} {found : List Finding} (place : Place)
        → ((w : Written) → IsSuspect fresh kept number w → ⊥) → AreSuspected r fresh kept (number + 1) places found
        → AreSuspected r fresh kept number (place ∷ places) found

  -- what is reported about the place of the number
  pub data IsSuspected (r : Read) (fresh : ℕ → Name) (kept : List Bool) (number : ℕ) : List Finding → Type 0 where
    one_suspect : (w : Written) → IsSuspect fresh kept number w → IsSuspected r fresh kept number
        (note_at (name_byte def r w.path w.number)
        (codes "with another declaration of " ++ (w.name ++ codes " all the rest would fit")) ∷ [])
    no_suspect : ((w : Written) → IsSuspect fresh kept number w → ⊥) → IsSuspected r fresh kept number []
