-- Numbers of terms, one for equal terms, and the numbers that cells have by what they read as.
use Rattle.std.specs.Prelude.{ℕ, ◌≡◌, ◌+◌, ◌++◌, List, map, slice_get, Some, None}
use Rattle.psg_terms.specs.Terms.{Term, variable, symbol, apply, applied}
use Rattle.psg_terms.specs.Signature.{Signature, only_constructor}
use Rattle.psg_terms.specs.Renaming.{written}
use Rattle.psg_pool.specs.declared.cells.CellId.{CellId}
use Rattle.psg_pool.specs.Cells.{free, constructor}
use Rattle.psg_pool.specs.Bindings.{Kept, target_of}
use Rattle.psg_unify.specs.declared.forms.Form.{Form}
use Rattle.psg_unify.specs.declared.forms.Numbers.{Numbers}
use Rattle.psg_unify.specs.Reading.{Reading}

-- A term for each cell as a reading has it, except that an open cell of a sort that is one constant is this constant.
pub record IsClearReading (sig : Signature) (kept : Kept) (read : Reading) : Type 0 where
  pub open_cell : (id : CellId) (s : ℕ) → slice_get kept.cells id.0 ≡ Some (free s) → target_of kept.bindings id ≡ None
      → read id ≡ written (only_constructor sig s) (variable s (id.0 + 1))
  pub bound_cell : (id to : CellId) → target_of kept.bindings id ≡ Some to → read id ≡ read to
  pub con_cell : (id : CellId) (c : ℕ) (args : List CellId) → slice_get kept.cells id.0 ≡ Some (constructor c args)
      → read id ≡ applied (symbol c) (map read args)

-- the variable that an open cell reads as
abbrev pub open_form : ℕ → ℕ → Form
open_form sort cell = record { kind = 0; first = sort; second = cell }

abbrev pub symbol_form : ℕ → Form
symbol_form con = record { kind = 1; first = con; second = 0 }

-- the term of the first number applied to that of the second one
abbrev pub apply_form : ℕ → ℕ → Form
apply_form function argument = record { kind = 2; first = function; second = argument }

-- the form with this number makes the term
pub data Makes (forms : List Form) : (number : ℕ) (term : Term) → Type 0 where
  of_open : (k s n : ℕ) → slice_get forms k ≡ Some (open_form s n) → Makes forms k (variable s (n + 1))
  of_symbol : (k c : ℕ) → slice_get forms k ≡ Some (symbol_form c) → Makes forms k (symbol c)
  of_apply : (k i j : ℕ) (f a : Term) → slice_get forms k ≡ Some (apply_form i j) → Makes forms i f → Makes forms j a
      → Makes forms k (apply f a)

-- no form is there twice
abbrev pub AreOnce : List Form → Type 0
AreOnce forms = (i j : ℕ) (form : Form) → slice_get forms i ≡ Some form → slice_get forms j ≡ Some form → i ≡ j

-- the form has this number, and the others have those that they had
pub record IsFound (old new : List Form) (form : Form) (number : ℕ) : Type 0 where
  pub more : List Form
  pub grown : new ≡ old ++ more
  pub here : slice_get new number ≡ Some form
  pub once : AreOnce old → AreOnce new

-- each cell that has a number has that of what it reads as, and no other term has this number
pub record IsNumbered (read : Reading) (numbers : Numbers) : Type 0 where
  pub once : AreOnce numbers.forms.keys
  pub right : (id : CellId) (k : ℕ) → slice_get numbers.cells.items id.0 ≡ Some (Some k)
      → Makes numbers.forms.keys k (read id)

-- where cells have right numbers, they still have
abbrev pub StaysNumbered : Signature → Kept → Numbers → Numbers → Type 0
StaysNumbered sig kept old new = (read : Reading) → IsClearReading sig kept read → IsNumbered read old
    → IsNumbered read new
