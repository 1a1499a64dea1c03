-- The level that is wanted in a slot.
use Rattle.std.specs.Prelude.{ℕ, ◌≡◌, take, count_by, Option, Some, None}
use Rattle.psg_grammar.specs.declared.types.Operator.{Operator}
use Rattle.psg_grammar.specs.Levels.{IsSlotAt, is_slot, least_level_of}

-- the slot of the number is at the place among the items
pub record IsSlotOf (o : Operator) (number place : ℕ) : Type 0 where
  pub is_slot_there : IsSlotAt o place
  pub many_before : count_by is_slot (take place o.items) ≡ number

-- the least level of the slot of the number; none where there is no such slot
pub data IsLeastUnder (number : ℕ) : Option Operator → ℕ → Type 0 where
  of_slot : (o : Operator) (place : ℕ) → IsSlotOf o number place → IsLeastUnder number (Some o) (least_level_of o place)
  of_none : (o : Operator) → ((place : ℕ) → IsSlotOf o number place → ⊥) → IsLeastUnder number (Some o) 0
  of_no_operator : IsLeastUnder number None 0
