-- The hole rows of a definition, found by how their terms begin.
use Rattle.std.specs.Prelude.{ℕ, ◌≡◌, ◌⊎◌, ◌<◌, ◌≤◌, ◌+◌, ◌*◌, ◌%◌, ◌^◌, List, [], ◌∷◌, ◌++◌, Option, Some, None}
use Rattle.std.specs.Prelude.{length, slice_get, take}
use Rattle.psg_terms.specs.Terms.{Term, variable, symbol, apply}
use Rattle.psg_terms.specs.Instances.{Substitution, substitute}
use Rattle.psg_terms.specs.Relations.{IsIn}
use Rattle.psg_relation.specs.Heads.{head_of, places_at}
use Rattle.psg_grammar.specs.declared.types.Kind.{Kind}
use Rattle.psg_grammar.specs.declared.types.Kind.TheVariants as kinds
use Rattle.psg_grammar.specs.declared.types.HoleRow.{HoleRow}
use Rattle.psg_grammar.specs.declared.types.Definition.{Definition}
use Rattle.psg_covering.specs.Choices.{IsRowOf}
use Rattle.psg_covering.specs.Fronts.{AreRowsOf}
use Rattle.psg_covering.specs.declared.index.Index.{Index}

-- the constructor in a list, if there is one
abbrev pub listed : Option ℕ → List ℕ
listed None = []
listed (Some c) = c ∷ []

-- the constructor of the term, and then those of its arguments, as far as they have one
abbrev pub heads_in : Term → List ℕ
heads_in (variable s n) = []
heads_in (symbol c) = c ∷ []
heads_in (apply f a) = heads_in f ++ listed (head_of a)

-- each instance of the term begins with these constructors
abbrev pub Begins : Term → List ℕ → Type 0
Begins t front = (f : Substitution) → (rest : List ℕ) × (heads_in (substitute f t) ≡ front ++ rest)

-- the terms have an instance in common, the variables of the one being others than those of the other
abbrev pub Meets : Term → Term → Type 0
Meets t u = (f : Substitution) × (g : Substitution) × (substitute f t ≡ substitute g u)

-- ---- a number for a kind and constructors; different ones may have the same number

-- a number for each kind: even for phyla, odd for lists
abbrev pub kind_key : Kind → ℕ
kind_key (kinds.Phylum p) = 2 * p
kind_key (kinds.List l) = 2 * l + 1

-- the key with one more constructor; of constructors far back it keeps nothing
abbrev pub next_key : ℕ → ℕ → ℕ
next_key key c = (key % 2 ^ 40) * 2 ^ 20 + c

-- the key with these constructors, in order
abbrev pub key_of : ℕ → List ℕ → ℕ
key_of key [] = key
key_of key (c ∷ cs) = key_of (next_key key c) cs

-- ---- tables of places

-- the place was put to those of the key, and nothing else was
pub record Puts (key place : ℕ) (old new : ℕ → List ℕ) : Type 0 where
  pub kept : (k r : ℕ) → IsIn r (old k) → IsIn r (new k)
  pub put : IsIn place (new key)
  pub only : (k r : ℕ) → IsIn r (new k) → IsIn r (old k) ⊎ (r ≡ place)

-- the hole row is found at the key of each number of constructors with which its term begins, and as one that ends at
-- the key of them all
pub record IsFound (passing ending : ℕ → List ℕ) (r : ℕ) (h : HoleRow) : Type 0 where
  pub front : List ℕ
  pub begins : Begins h.term front
  pub passes : (n : ℕ) → n ≤ length front → IsIn r (passing (key_of (kind_key h.kind) (take n front)))
  pub ends : IsIn r (ending (key_of (kind_key h.kind) front))

-- a hole row was put to the places of its keys, and nothing else was
pub record IsPut (r : ℕ) (h : HoleRow) (passing ending more after : ℕ → List ℕ) : Type 0 where
  pub found : IsFound more after r h
  pub kept : (k s : ℕ) → IsIn s (passing k) → IsIn s (more k)
  pub left : (k s : ℕ) → IsIn s (ending k) → IsIn s (after k)
  pub only : (k s : ℕ) → IsIn s (more k) → IsIn s (passing k) ⊎ (s ≡ r)
  pub alone : (k s : ℕ) → IsIn s (after k) → IsIn s (ending k) ⊎ (s ≡ r)

module _ (def : Definition) where
  -- each of the first `count` hole rows is found, and no other number is
  pub record AreIndexed (count : ℕ) (passing ending : ℕ → List ℕ) : Type 0 where
    pub passing_rows : (k r : ℕ) → IsIn r (passing k) → r < count
    pub ending_rows : (k r : ℕ) → IsIn r (ending k) → r < count
    pub found : (r : ℕ) (h : HoleRow) → slice_get def.hole_rows r ≡ Some h → r < count → IsFound passing ending r h

  abbrev pub IsIndex : Index → Type 0
  IsIndex index = AreIndexed (length def.hole_rows) (places_at index.passing) (places_at index.ending)

  -- the hole rows of the kind among the places were put to the numbers, and those have no hole row of another kind
  pub record Collects (kind : Kind) (places old new : List ℕ) : Type 0 where
    pub rows : AreRowsOf def kind old → AreRowsOf def kind new
    pub kept : (r : ℕ) → IsIn r old → IsIn r new
    pub all : (r : ℕ) (h : HoleRow) → IsIn r places → IsRowOf def kind r h → IsIn r new

  -- among the numbers are all hole rows of the kind whose terms may meet the term
  abbrev pub AreMet : Kind → Term → List ℕ → Type 0
  AreMet kind t numbers = (r : ℕ) (h : HoleRow) → IsRowOf def kind r h → Meets t h.term → IsIn r numbers
