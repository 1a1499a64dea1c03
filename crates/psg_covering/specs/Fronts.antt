-- Lists of rows that are covered together, and what one more choice of hole rows makes of them.
use Rattle.std.specs.Prelude.{ℕ, zero, suc, ◌≡◌, ◌⊎◌, ◌↔◌, List, [], ◌∷◌, ◌++◌}
use Rattle.psg_terms.specs.Terms.{Term}
use Rattle.psg_terms.specs.Instances.{IsGroundInstance}
use Rattle.psg_terms.specs.Relations.{IsIn}
use Rattle.psg_grammar.specs.declared.types.Kind.{Kind}
use Rattle.psg_grammar.specs.declared.types.HoleRow.{HoleRow}
use Rattle.psg_grammar.specs.declared.types.Definition.{Definition}
use Rattle.psg_covering.specs.Choices.{Fits, HasCover, IsCovered, IsRowOf}

-- the number is put at the end, if the row is of the kind
abbrev pub IsNoted : Kind → ℕ → HoleRow → List ℕ → List ℕ → Type 0
IsNoted kind number row old new = ((row.kind ≡ kind) × (new ≡ old ++ number ∷ []))
    ⊎ ((row.kind ≡ kind → ⊥) × (new ≡ old))

-- that many numbers from this one on
abbrev pub run : ℕ → ℕ → List ℕ
run from zero = []
run from (suc count) = from ∷ run (suc from) count

module _ (def : Definition) where
  -- numbers of hole rows of the kind
  abbrev pub AreRowsOf : Kind → List ℕ → Type 0
  AreRowsOf kind numbers = (r : ℕ) → IsIn r numbers → (h : HoleRow) × IsRowOf def kind r h

  -- the row has the head and the other columns of the ground instances whose first column is of the hole row
  abbrev pub IsChosen : List Term → HoleRow → List Term → Type 0
  IsChosen row h made = (v : Term) (us : List Term) → IsGroundInstance def.signature made (v ∷ us)
      ↔ ((w : Term) × IsGroundInstance def.signature row (v ∷ w ∷ us)
      × IsGroundInstance def.signature (h.term ∷ []) (w ∷ []))

  abbrev pub IsNone : List Term → HoleRow → Type 0
  IsNone row h = (v w : Term) (us : List Term) → IsGroundInstance def.signature row (v ∷ w ∷ us)
      → IsGroundInstance def.signature (h.term ∷ []) (w ∷ []) → ⊥

  module _ (kind : Kind) where
    abbrev pub AllFit : List Kind → List (List Term) → Type 0
    AllFit ks rows = (row : List Term) → IsIn row rows → Fits def kind ks row

    abbrev pub AllCovered : List Kind → List (List Term) → Type 0
    AllCovered ks rows = (row : List Term) → IsIn row rows → IsCovered def kind ks row

    -- no head is an instance of a hole row
    abbrev pub AreBare : List (List Term) → Type 0
    AreBare rows = (head : Term) (columns : List Term) → IsIn (head ∷ columns) rows → HasCover def kind head → ⊥

    -- Rows were added that are covered together with those before exactly where these are covered and the row is.
    pub record Adds (ks : List Kind) (old new : List (List Term)) (P : Type 0) : Type 0 where
      pub fit : AllFit ks old → AllFit ks new
      pub bare : AreBare old → AreBare new
      pub covered : AllCovered ks new ↔ (AllCovered ks old × P)
