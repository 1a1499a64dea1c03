-- Which rows are covered. A row is a head and after it a column for each slot whose hole row is still to be chosen.
use Rattle.std.specs.Prelude.{ℕ, ◌≡◌, List, [], ◌∷◌, slice_get, Some}
use Rattle.psg_terms.specs.Terms.{Term}
use Rattle.psg_terms.specs.Signature.{HaveSorts}
use Rattle.psg_terms.specs.Instances.{IsInstance, IsGroundInstance}
use Rattle.psg_terms.specs.Canonical.{AreWrittenOut}
use Rattle.psg_grammar.specs.declared.types.Kind.{Kind}
use Rattle.psg_grammar.specs.declared.types.HoleRow.{HoleRow}
use Rattle.psg_grammar.specs.declared.types.Definition.{Definition}
use Rattle.psg_grammar.specs.Open.{IsOfHoleRow}
use Rattle.psg_grammar.specs.Sound.{HasKindSort}

module _ (def : Definition) where
  -- the values are of these hole rows, one for each
  abbrev pub KindsHold : List Kind → List Term → List ℕ → Type 0
  KindsHold [] [] [] = Unit {0}
  KindsHold (k ∷ ks) (u ∷ us) (r ∷ rs) = IsOfHoleRow def k r u × KindsHold ks us rs
  KindsHold _ _ _ = ⊥

  -- Whatever hole rows of these kinds the columns are of, the heads are values of one hole row of the kind.
  abbrev pub IsCovered : Kind → List Kind → List Term → Type 0
  IsCovered kind ks row = (rs : List ℕ) → (r : ℕ) × ((v : Term) (us : List Term)
      → IsGroundInstance def.signature row (v ∷ us) → KindsHold ks us rs → IsOfHoleRow def kind r v)

  -- the row is covered where the first column is of this hole row
  abbrev pub IsCoveredFor : Kind → List Kind → List Term → HoleRow → Type 0
  IsCoveredFor kind ks row h = (rs : List ℕ) → (r : ℕ) × ((v w : Term) (us : List Term)
      → IsGroundInstance def.signature row (v ∷ w ∷ us) → IsGroundInstance def.signature (h.term ∷ []) (w ∷ [])
      → KindsHold ks us rs → IsOfHoleRow def kind r v)

  -- the number of a hole row of the kind
  abbrev pub IsRowOf : Kind → ℕ → HoleRow → Type 0
  IsRowOf kind r h = (slice_get def.hole_rows r ≡ Some h) × (h.kind ≡ kind)

  -- a hole row of the kind of which the head is an instance
  abbrev pub HasCover : Kind → Term → Type 0
  HasCover kind head = (r : ℕ) × (h : HoleRow) × IsRowOf kind r h × IsInstance (head ∷ []) (h.term ∷ [])

  -- the sorts of the kinds
  abbrev pub HaveKindSorts : List Kind → List ℕ → Type 0
  HaveKindSorts [] [] = Unit {0}
  HaveKindSorts (k ∷ ks) (s ∷ ss) = HasKindSort def k s × HaveKindSorts ks ss
  HaveKindSorts _ _ = ⊥

  -- the head is of the sort of the kind, and the columns of those of the kinds of the slots
  pub record Fits (kind : Kind) (ks : List Kind) (row : List Term) : Type 0 where
    pub head : ℕ
    pub of_head : HasKindSort def kind head
    pub sorts : List ℕ
    pub of_slots : HaveKindSorts ks sorts
    pub sorted : HaveSorts def.signature row (head ∷ sorts)
    pub written : AreWrittenOut def.signature row
