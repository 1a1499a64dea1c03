-- What is known while cells are written out with canonical numbers.
use Rattle.std.specs.Prelude.{◌≡◌, ◌≤◌, List, [], ◌∷◌, slice_get, Option, Some}
use Rattle.psg_terms.specs.Terms.{Term}
use Rattle.psg_terms.specs.Signature.{Signature}
use Rattle.psg_terms.specs.Canonical.{Variable, variables}
use Rattle.psg_terms.specs.Instances.{substitute}
use Rattle.psg_terms.specs.Renaming.{opens, numbering, AreKnown}
use Rattle.psg_pool.specs.declared.cells.CellId.{CellId}
use Rattle.psg_pool.specs.Bindings.{Kept}
use Rattle.psg_unify.specs.declared.walking.Item.{Item}
use Rattle.psg_unify.specs.declared.walking.Item.TheVariants.{Visit}
use Rattle.psg_unify.specs.Reading.{Reading, IsReading}
use Rattle.psg_unify.specs.Walking.{EndsWith}
use Rattle.psg_unify.specs.Filling.{IsFilled, StaysFilling, fresh}

-- each of the cells has its term
abbrev pub AreWritten : List (Option Term) → List CellId → List Term → Type 0
AreWritten written [] [] = Unit {0}
AreWritten written [] (t ∷ terms) = ⊥
AreWritten written (id ∷ ids) [] = ⊥
AreWritten written (id ∷ ids) (t ∷ terms) = (slice_get written id.0 ≡ Some (Some t)) × AreWritten written ids terms

-- what was written is what the cell reads as, numbered, and its variables are known
abbrev pub IsWrittenAt : Signature → Reading → List Variable → CellId → Term → Type 0
IsWrittenAt sig read known id t =
    (t ≡ substitute (numbering sig 0 known) (read id)) × AreKnown known (opens sig (variables (read id)))

-- the walk ends with these variables, and what was written is right
pub record IsReadingOut (sig : Signature) (read : Reading) (known : List Variable) (written : List (Option Term))
    (stack : List Item) (final : List Variable) : Type 0 where
  pub ends : EndsWith sig read known stack final
  pub right : (id : CellId) (t : Term) → slice_get written id.0 ≡ Some (Some t) → IsWrittenAt sig read known id t

-- it goes on, whatever the pool reads as
abbrev pub ReadsOn : Signature → Kept → (known after : List Variable) → (old new : List (Option Term))
    → (stack rest : List Item) → Type 0
ReadsOn sig kept known after old new stack rest =
    (read : Reading) → IsReading kept read → (final : List Variable)
    → IsReadingOut sig read known old stack final → IsReadingOut sig read after new rest final

-- Cells were written, and the next one is not written.
pub record IsNextUnwritten (kept : Kept) (old new : List (Option Term)) (stack rest : List Item) (id : CellId)
    : Type 0 where
  pub reads : (s : Signature) (known : List Variable) → ReadsOn s kept known known old new stack (Visit id ∷ rest)
  pub stays : StaysFilling kept old new stack (Visit id ∷ rest)
  pub other : IsFilled new id → ⊥
  pub fewer : fresh new (Visit id ∷ rest) ≤ fresh old stack
