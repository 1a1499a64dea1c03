-- What is still to be put of a row, and what is known while it is put.
use Rattle.std.specs.Prelude.{ℕ, suc, ◌≡◌, ◌≤◌, ◌+◌, ◌-◌, ◌++◌, true, List, [], ◌∷◌, reverse}
use Rattle.std.specs.Prelude.{map, take, drop, length, slice_get, All, Some}
use Rattle.psg_terms.specs.Terms.{Term, symbol, applied}
use Rattle.psg_terms.specs.Sizes.{size}
use Rattle.psg_terms.specs.Signature.{Signature, HaveSorts}
use Rattle.psg_terms.specs.Instances.{Substitution, substitute}
use Rattle.psg_terms.specs.Canonical.{Variable, is_noted, variables}
use Rattle.psg_terms.specs.Renaming.{place, opens, numbering, AreKnown, Renumbered}
use Rattle.psg_pool.specs.declared.cells.CellId.{CellId}
use Rattle.psg_pool.specs.Cells.{free, constructor, IsAmong, arguments_of}
use Rattle.psg_pool.specs.Bindings.{Kept, IsSound}
use Rattle.psg_unify.specs.declared.making.Task.{Task}
use Rattle.psg_unify.specs.declared.making.Task.TheVariants.{Whole, Make}
use Rattle.psg_unify.specs.Reading.{Reading, IsReading}
use Rattle.psg_unify.specs.Fitting.{Fits}
use Rattle.psg_unify.specs.Putting.{IsLonger}

-- What the tasks make, the first one first. What was made is a list from the last one back.
abbrev pub makes : Substitution → List Task → List Term → List Term
makes f [] made = made
makes f (Whole t ∷ rest) made = makes f rest (substitute f t ∷ made)
makes f (Make c n ∷ rest) made = makes f rest (applied (symbol c.0) (reverse (take n made)) ∷ drop n made)

-- how much is left to be done
abbrev pub work : List Task → ℕ
work [] = 0
work (Whole t ∷ rest) = size t + 1 + work rest
work (Make c n ∷ rest) = 1 + work rest

-- Where this many cells are made, each constructor finds its arguments; the open variables of the terms are known.
abbrev pub MayPut : Signature → List Variable → ℕ → List Task → Type 0
MayPut sig known n [] = Unit {0}
MayPut sig known n (Whole t ∷ rest) = AreKnown known (opens sig (variables t)) × MayPut sig known (suc n) rest
MayPut sig known n (Make c k ∷ rest) = (k ≤ n) × MayPut sig known (suc (n - k)) rest

-- a constructor cell over the last cells has taken their place
pub record IsMade (old new : Kept) (before after : List CellId) (c n : ℕ) : Type 0 where
  pub front : List CellId
  pub args : List CellId
  pub split : before ≡ front ++ args
  pub count : length args ≡ n
  pub id : CellId
  pub id_is : id.0 ≡ length old.cells
  pub after_is : after ≡ front ++ id ∷ []
  pub cells_are : new.cells ≡ old.cells ++ constructor c args ∷ []
  pub bindings_are : new.bindings ≡ old.bindings

-- A row is being put into a pool that was another one before. Its known variables have free cells from there on, in
-- their order; the cells were made for the terms that are done, and the tasks make the rest.
pub record IsPutting (sig : Signature) (old : Kept) (known : List Variable) (row : List Term) (now : Kept)
    (tasks : List Task) (cells : List CellId) : Type 0 where
  pub fits : Fits sig now
  pub sound : IsSound now
  pub longer : IsLonger old now
  pub among : All (IsAmong now.cells) cells
  pub beyond : All (λ (id : CellId). length old.cells ≤ id.0) cells
  pub apart : (id : CellId) → length old.cells ≤ id.0
      → All (λ (a : CellId). length old.cells ≤ a.0) (arguments_of now.cells id)
  pub open_cells : (x : Variable) → is_noted x known ≡ true
      → slice_get now.cells (length old.cells + place x known) ≡ Some (free x.0)
  pub terms : (ss : List ℕ) × HaveSorts sig (map (substitute (numbering sig (length old.cells) known)) row) ss
  pub made : (read : Reading) → IsReading now read
      → makes (numbering sig (length old.cells) known) tasks (reverse (map read cells))
      ≡ reverse (map (substitute (numbering sig (length old.cells) known)) row)

-- A row was put into a pool after all its cells. Its cells lead to new ones alone, and read as the row with numbers
-- from there on.
pub record IsPutRow (sig : Signature) (old new : Kept) (row : List Term) (cells : List CellId) : Type 0 where
  pub fits : Fits sig new
  pub sound : IsSound new
  pub longer : IsLonger old new
  pub among : All (IsAmong new.cells) cells
  pub beyond : All (λ (id : CellId). length old.cells ≤ id.0) cells
  pub apart : (id : CellId) → length old.cells ≤ id.0
      → All (λ (a : CellId). length old.cells ≤ a.0) (arguments_of new.cells id)
  pub known : List Variable
  pub read_as : (read : Reading) → IsReading new read → Renumbered sig (length old.cells) [] known row (map read cells)
