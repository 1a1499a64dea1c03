-- A row of terms that is matched with cells.
use Rattle.std.specs.Prelude.{ℕ, ◌≡◌, ◌+◌, ◌↔◌, List, [], ◌∷◌, length, All, Option, Some}
use Rattle.std.specs.HashMap.{HashMap, get}
use Rattle.std.specs.declared.hash.FoldHasher.{FoldHasher}
use Rattle.std.specs.declared.hash.BuildHasherDefault.{BuildHasherDefault}
use Rattle.psg_terms.specs.Terms.{Term}
use Rattle.psg_terms.specs.Sizes.{size}
use Rattle.psg_terms.specs.Signature.{Signature}
use Rattle.psg_terms.specs.Instances.{Substitution, substitute}
use Rattle.psg_terms.specs.Matching.{same_key}
use Rattle.psg_terms.specs.declared.canonical.Key.{Key}
use Rattle.psg_pool.specs.declared.cells.CellId.{CellId}
use Rattle.psg_pool.specs.Cells.{IsAmong}
use Rattle.psg_pool.specs.Bindings.{Kept}
use Rattle.psg_unify.specs.declared.covering.Facing.{Facing}
use Rattle.psg_unify.specs.declared.covering.Matching.{Matching}
use Rattle.psg_unify.specs.Reading.{Reading}
use Rattle.psg_unify.specs.Numbering.{IsClearReading, IsNumbered}

-- a table of the program
abbrev pub FirstCells : Type 0
FirstCells = HashMap Key CellId (BuildHasherDefault FoldHasher)

-- the cell that a variable met first, if it has met one
abbrev pub first_cell : FirstCells → ℕ → ℕ → Option CellId
first_cell table s n = get same_key table (record { sort = record { 0 = s }; number = n })

abbrev pub facing : Term → CellId → Facing
facing term cell = record { term = term; cell = cell }

-- terms and cells, place by place
abbrev pub facings : List Term → List CellId → List Facing
facings [] ids = []
facings (t ∷ terms) [] = []
facings (t ∷ terms) (id ∷ ids) = facing t id ∷ facings terms ids

-- the substitution makes of each term what the cell beside it reads as
abbrev pub AreMet : Substitution → Reading → List Facing → Type 0
AreMet f read [] = Unit {0}
AreMet f read (p ∷ rest) = (substitute f p.term ≡ read p.cell) × AreMet f read rest

-- It does so, and makes of each variable that has met a cell what this cell reads as.
pub record IsFit (f : Substitution) (read : Reading) (first : FirstCells) (left : List Facing) : Type 0 where
  pub known : (s n : ℕ) (id : CellId) → first_cell first s n ≡ Some id → f s n ≡ read id
  pub met : AreMet f read left

-- Numbers stay right, and the substitutions that fit are those that did.
abbrev pub StaysFit : Signature → Kept → Matching → List Facing → Matching → Type 0
StaysFit sig kept old left new = (read : Reading) → IsClearReading sig kept read → IsNumbered read old.numbers
    → IsNumbered read new.numbers
    × ((f : Substitution) → IsFit f read old.first left ↔ IsFit f read new.first new.left.items)

-- no substitution fits
abbrev pub FitsNone : Signature → Kept → Matching → List Facing → Type 0
FitsNone sig kept old left = (read : Reading) → IsClearReading sig kept read → IsNumbered read old.numbers
    → (f : Substitution) → IsFit f read old.first left → ⊥

-- there is a place for each cell's number, and the cells that are noted or left are there
pub record CanMatch (kept : Kept) (m : Matching) : Type 0 where
  pub count : length m.numbers.cells.items ≡ length kept.cells
  pub first : (s n : ℕ) (id : CellId) → first_cell m.first s n ≡ Some id → IsAmong kept.cells id
  pub left : All (λ (p : Facing). IsAmong kept.cells p.cell) m.left.items

-- a measure of what is left, which falls where a term is taken from it and its arguments are put there
abbrev pub weigh : List Facing → ℕ
weigh [] = 0
weigh (p ∷ rest) = size p.term + 1 + weigh rest
