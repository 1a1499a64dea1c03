-- The conditions on hole rows and declare rows that make them true of trees.
use Rattle.std.specs.Prelude.{ℕ, ◌≡◌, slice_get, Some}
use Rattle.psg_grammar.specs.declared.types.Case.{Case}
use Rattle.psg_grammar.specs.declared.types.HoleRow.{HoleRow}
use Rattle.psg_grammar.specs.declared.types.Specimen.{Specimen}
use Rattle.psg_grammar.specs.declared.types.DeclareRow.{DeclareRow}
use Rattle.psg_grammar.specs.declared.types.Definition.{Definition}
use Rattle.psg_completions.specs.Cases.{HasCases}
use Rattle.psg_completions.specs.Covered.{IsCoveredRow, IsCoveredNil, IsCoveredCell}
use Rattle.psg_completions.specs.Places.{IsSmallerPlace, IsOpenPlace}
use Rattle.psg_completions.specs.General.{IsGeneralCase, IsGeneralDeclare}
use Rattle.psg_completions.specs.Elements.{DeclaresOnce, IsDeclarable, IsClearRow}

-- the two things that have specimens
abbrev pub EachCase : Definition → (ℕ → ℕ → HoleRow → Case → Type 0) → Type 0
EachCase def P = (r : ℕ) (row : HoleRow) → slice_get def.hole_rows r ≡ Some row → (c : ℕ) (one : Case)
    → slice_get row.cases c ≡ Some one → P r c row one

-- it holds of each declare row, with its number
abbrev pub EachDeclare : Definition → (ℕ → DeclareRow → Type 0) → Type 0
EachDeclare def P = (k : ℕ) (d : DeclareRow) → slice_get def.declare_rows k ≡ Some d → P k d

module _ (def : Definition) where
  -- what holds of each specimen
  abbrev pub EachSpecimen : (Specimen → Type 0) → Type 0
  EachSpecimen P = EachCase def (λ r c row one. P one.specimen) × EachDeclare def (λ k d. P d.specimen)

  -- Hole rows miss no value of a tree and have none too many, and an unfinished region can declare any key with any
  -- entity.
  pub record HasTrueRows : Type 0 where
    -- hole rows miss no value
    pub rows : (o k : ℕ) → IsCoveredRow def o k
    pub nils : (l k : ℕ) → IsCoveredNil def l k
    pub cells : (l k : ℕ) → IsCoveredCell def l k
    -- hole rows have no value too many
    pub cases : (r : ℕ) → HasCases def r
    pub smaller : EachCase def (λ r c row one. (h : ℕ) → IsSmallerPlace one.specimen one.term h)
    pub open_places : EachSpecimen (λ specimen. (h : ℕ) → IsOpenPlace def specimen h)
    pub general_cases : EachCase def (λ r c row one. IsGeneralCase def one)
    pub general_declares : EachDeclare def (λ k d. IsGeneralDeclare def d)
    -- an unfinished list can declare any key with any entity and keeps its value
    pub declares : EachDeclare def (λ k d. DeclaresOnce def d)
    pub declarable : (l s c : ℕ) → IsDeclarable def l s c
    pub clear : (k : ℕ) → IsClearRow def k
