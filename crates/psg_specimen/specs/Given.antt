-- The constructors for which lists have declare rows.
use Rattle.std.specs.Prelude.{ℕ, ◌≡◌, ◌↔◌, ◌==◌, ◌&&◌, ◌<◌, Bool, true, List, MatchOption, Option, slice_get, Some}
use Rattle.std.specs.HashSet.{HashSet, contains}
use Rattle.std.specs.declared.hash.FoldHasher.{FoldHasher}
use Rattle.std.specs.declared.hash.BuildHasherDefault.{BuildHasherDefault}
use Rattle.psg_terms.specs.Signature.{Signature, constructors_of}
use Rattle.psg_terms.specs.Relations.{IsIn}
use Rattle.psg_terms.specs.declared.sorts.ConId.{ConId}
use Rattle.psg_grammar.specs.declared.types.Kind.TheVariants as kinds
use Rattle.psg_grammar.specs.declared.types.Space.{Space}
use Rattle.psg_grammar.specs.declared.types.ListKind.{ListKind}
use Rattle.psg_grammar.specs.declared.types.DeclareRow.{DeclareRow}
use Rattle.psg_grammar.specs.declared.types.Definition.{Definition}
use Rattle.psg_grammar.specs.Declaring.{is_declaring}
use Rattle.psg_completions.specs.Cases.{IsOver}
use Rattle.psg_completions.specs.Elements.{HasDeclareRow}
use Rattle.psg_specimen.specs.declared.declarable.Given.{Given}
use Rattle.psg_specimen.specs.declared.declarable.Place.{Place}

-- the constructor in a space of a list
abbrev pub given_by : ℕ → ℕ → ℕ → Given
given_by l s c = record { place = record { list = l; space = s }; con = c }

-- whether list and space are equal
abbrev pub same_place : Place → Place → Bool
same_place a b = (a.list == b.list) && (a.space == b.space)

-- whether list, space and constructor are equal
abbrev pub same_given : Given → Given → Bool
same_given a b = same_place a.place b.place && (a.con == b.con)

-- whether the set has it
abbrev pub has_given : HashSet Given (BuildHasherDefault FoldHasher) → Given → Bool
has_given set k = contains same_given set k

-- the row is one of the list, in the space, for the constructor
pub record IsGivenBy (sig : Signature) (row : DeclareRow) (k : Given) : Type 0 where
  pub of_list : row.list ≡ k.place.list
  pub of_space : row.space ≡ k.place.space
  pub over : IsOver sig k.con row.term

-- some declare row gives it
abbrev pub IsGiven : Signature → List DeclareRow → Given → Type 0
IsGiven sig rows k = (r : ℕ) × (row : DeclareRow) × (slice_get rows r ≡ Some row) × IsGivenBy sig row k

-- the constructor is given in the space of the list
abbrev pub HasCon : (Given → Bool) → ℕ → ℕ → ConId → Type 0
HasCon has l s c = has (given_by l s c.0) ≡ true

-- the number of the first constructor that is not there for the list and the space, or none
abbrev pub FindsCon : (Given → Bool) → ℕ → ℕ → List ConId → Option ℕ → Type 0
FindsCon has l s cs o = MatchOption o ((m : ℕ) (c : ConId) → slice_get cs m ≡ Some c → HasCon has l s c)
    (λ d. (i : ℕ) × (c : ConId) × (slice_get cs i ≡ Some c) × (c.0 ≡ d)
    × (HasCon has l s c → ⊥) × ((m : ℕ) → m < i → (k : ConId) → slice_get cs m ≡ Some k → HasCon has l s k))

-- what the set has is what the declare rows of the definition give
abbrev pub AreGiven : Definition → (Given → Bool) → Type 0
AreGiven def has = (k : Given) → (has k ≡ true) ↔ IsGiven def.signature def.declare_rows k

-- the list has a declare row in the space where the constructor is one of its entities
abbrev pub IsDeclarableIn : Definition → ℕ → ℕ → ℕ → Type 0
IsDeclarableIn def l s c = (space : Space) → slice_get def.spaces s ≡ Some space
    → IsIn c (constructors_of def.signature space.sort.0) → HasDeclareRow def l s c

-- the list of this number has such a declare row, if a tree of it may be unfinished and it declares in the space
abbrev pub IsDeclarableOf : Definition → ℕ → ListKind → ℕ → ℕ → Type 0
IsDeclarableOf def l list s c = list.unfinished ≡ true → is_declaring def s (kinds.List l) ≡ true
    → IsDeclarableIn def l s c
