-- Whether a specimen shows its values, by the columns of its pattern's rows, and the first specimen that does not.
use Rattle.std.specs.Prelude.{ℕ, ◌≡◌, ◌∷◌, [], List, map, slice_get, Option, Some, None, MatchOption}
use Rattle.psg_terms.specs.Terms.{Term}
use Rattle.psg_terms.specs.Instances.{IsInstance}
use Rattle.psg_terms.specs.Relations.{IsIn}
use Rattle.psg_grammar.specs.declared.types.Kind.{Kind}
use Rattle.psg_grammar.specs.declared.types.SpecimenHole.{SpecimenHole}
use Rattle.psg_grammar.specs.declared.types.Case.{Case}
use Rattle.psg_grammar.specs.declared.types.Definition.{Definition}
use Rattle.psg_grammar.specs.Keys.{Key}
use Rattle.psg_grammar.specs.Sound.{HasKindSort, IsCase}
use Rattle.psg_relation.specs.Choices.{picked}
use Rattle.psg_scope.specs.declared.header.NameCol.{NameCol}
use Rattle.psg_scope.specs.Headers.{key_of}
use Rattle.psg_specimen.specs.Refusal.{IsFirstSite, IsGeneralAt, IsNarrowAt, IsSiteBefore}
use Rattle.psg_specimen.specs.declared.fault.Site.{Site}
use Rattle.psg_specimen.specs.declared.unshown.Flaw.{Flaw}
use Rattle.psg_specimen.specs.declared.unshown.Flaw.TheVariants as flaws
use Rattle.psg_specimen.specs.declared.unshown.Walk.{Walk}
use Rattle.psg_specimen.specs.declared.unshown.Walk.TheVariants as walks

-- the row is an instance of these columns of one of the rows
abbrev pub IsRowShown : List (List Term) → List ℕ → List Term → Type 0
IsRowShown rows keep row = (general : List Term) × IsIn general rows × IsInstance row (picked general keep)

-- the value and the terms of the hole places
abbrev pub value_terms : Term → List SpecimenHole → List Term
value_terms value places = value ∷ map (λ (h : SpecimenHole). h.term) places

-- the first of the places has this term
abbrev pub IsFirstTerm : Term → List SpecimenHole → Type 0
IsFirstTerm value [] = ⊥
IsFirstTerm value (h ∷ rest) = h.term ≡ value

-- a column with the key, or that none has it
abbrev pub FindsKey : Key → List NameCol → Option ℕ → Type 0
FindsKey k names o = MatchOption o ((m : ℕ) (c : NameCol) → slice_get names m ≡ Some c → key_of c ≡ k → ⊥)
    (λ m. (c : NameCol) × (slice_get names m ≡ Some c) × (key_of c ≡ k))

-- ---- the first specimen that is too large, or else the first that does not show its values

-- what is wrong with one of them
abbrev pub HasFlaw : Type 0 → Type 0 → Option Flaw → Type 0
HasFlaw Narrow General None = Narrow × General
HasFlaw Narrow General (Some flaws.Large) = Narrow → ⊥
HasFlaw Narrow General (Some flaws.Weak) = Narrow × (General → ⊥)

-- the site that was noted, or else this one where it is weak
abbrev pub noted : Option Site → Option Flaw → Site → Option Site
noted (Some s) flaw site = Some s
noted None (Some flaws.Weak) site = Some site
noted None (Some flaws.Large) site = None
noted None None site = None

-- the sites before this one, or all
abbrev pub IsGone : Option Site → Site → Type 0
IsGone None t = Unit {0}
IsGone (Some s) t = IsSiteBefore t s

module _ (def : Definition) where
  -- a case of a hole row
  abbrev pub IsSomeCase : Case → Type 0
  IsSomeCase one = (kind : Kind) × (sort : ℕ) × HasKindSort def kind sort × IsCase def kind sort one

  -- No step passes the limit in the specimens that are gone over, and the first of them that does not show its values
  -- is noted.
  pub record IsUpTo (end weak : Option Site) : Type 0 where
    pub narrow : (t : Site) → IsGone end t → IsNarrowAt def t
    pub general : MatchOption weak ((t : Site) → IsGone end t → IsGeneralAt def t)
        (λ s. IsFirstSite (IsGeneralAt def) s)

  -- the walk gets this far, or ends at the first specimen that is too large
  abbrev pub IsWalk : Option Site → Walk → Type 0
  IsWalk end (walks.Large s) = IsFirstSite (IsNarrowAt def) s
  IsWalk end (walks.Weak weak) = IsUpTo end weak
