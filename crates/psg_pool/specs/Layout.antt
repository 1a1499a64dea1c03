-- How the slots of a pool show its cells, and the order that is kept among them.
use Rattle.std.specs.Prelude.{ℕ, suc, ◌≡◌, ◌+◌, List, [], ◌∷◌, length, map, take, drop, slice_get, Option, Some, None}
use Rattle.std.specs.Option.{option_and_then, option_map, unwrap_or}
use Rattle.psg_pool.specs.declared.cells.CellId.{CellId}
use Rattle.psg_pool.specs.declared.cells.Binding.{Binding}
use Rattle.psg_pool.specs.declared.pool.Slot.{Slot}
use Rattle.psg_pool.specs.declared.pool.Content.{Content}
use Rattle.psg_pool.specs.declared.pool.Content.TheVariants.{Free, Con}
use Rattle.psg_pool.specs.Cells.{Put, free, constructor}
use Rattle.psg_pool.specs.Bindings.{Kept, IsSound}

-- How many arguments the slot has in the buffer.
abbrev pub count_in : Content → ℕ
count_in (Free _ _) = 0
count_in (Con _ count) = count

-- The place of the binding of a free cell, if it is bound.
abbrev pub place_in : Content → Option ℕ
place_in (Free _ place) = Some place
place_in (Con _ _) = None

-- The cell that was put, with its arguments from the buffer.
abbrev pub put_in : List CellId → ℕ → Content → Put
put_in arguments start (Free sort _) = free sort
put_in arguments start (Con number count) = constructor number (take count (drop start arguments))

-- The content of a free cell that is bound at this place; a constructor stays as it is.
abbrev pub bound_at : Content → ℕ → Content
bound_at (Free sort _) place = Free sort place
bound_at (Con number count) place = Con number count

-- the cell that a slot is, with its arguments from the buffer
abbrev pub put_of : List CellId → Slot → Put
put_of arguments slot = put_in arguments slot.start slot.content

-- the cells that the slots are, in order
abbrev pub puts : List CellId → List Slot → List Put
puts arguments slots = map (put_of arguments) slots

-- The arguments of the slots lie one after the other in the buffer, from one place to another.
abbrev pub IsLaid : ℕ → List Slot → ℕ → Type 0
IsLaid at [] end = at ≡ end
IsLaid at (slot ∷ rest) end = (slot.start ≡ at) × IsLaid (at + count_in slot.content) rest end

-- The place that the slot of a cell names.
abbrev pub place_at : List Slot → CellId → Option ℕ
place_at slots id = option_and_then (λ (slot : Slot). place_in slot.content) (slice_get slots id.0)

-- The slot of each bound cell names the place of its binding, counted from this one.
abbrev pub IsLinked : List Slot → ℕ → List Binding → Type 0
IsLinked slots place [] = Unit {0}
IsLinked slots place (b ∷ rest) = (place_at slots b.bound ≡ Some place) × IsLinked slots (suc place) rest

-- Where the arguments of the first slots end in the buffer, of which this is the length.
abbrev pub end_of : List Slot → ℕ → ℕ → ℕ
end_of slots cells length = unwrap_or (option_map (λ (slot : Slot). slot.start) (slice_get slots cells)) length

-- The two lists that contracts see.
abbrev pub shown : List Slot → List CellId → List Binding → Kept
shown slots arguments bindings = record { cells = puts arguments slots; bindings = bindings }

-- What is true of the fields of every pool.
pub record IsInOrder (slots : List Slot) (arguments : List CellId) (bindings : List Binding) : Type 0 where
  pub laid : IsLaid 0 slots (length arguments)
  pub linked : IsLinked slots 0 bindings
  pub sound : IsSound (shown slots arguments bindings)
