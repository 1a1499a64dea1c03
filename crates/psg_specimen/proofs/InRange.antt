-- The first thing for which something fails is there.
use Rattle.std.proofs.Common.{◌≡◌, inl, inr, ℕ, ◌<◌, ◌≤◌, List, [], ◌∷◌, length, Some, slice_get, arith}
use Rattle.std.proofs.lemmas.Bool.{cases_lt}
use Rattle.std.proofs.lemmas.Option.{slice_get_within}
use Rattle.psg_grammar.specs.declared.types.Kind.{Kind}
use Rattle.psg_grammar.specs.declared.types.Item.{Item}
use Rattle.psg_grammar.specs.declared.types.Item.TheVariants as items
use Rattle.psg_grammar.specs.declared.types.Operator.{Operator}
use Rattle.psg_grammar.specs.declared.types.Definition.{Definition}
use Rattle.psg_specimen.specs.Conditions.{IsQuiet, IsQuietSlot, slot_kinds}
use Rattle.psg_covering.proofs.Firsts.{At}

pub inside : {X : Type 0} (xs : List X) (P : X → Type 0) (n : ℕ) → (At xs P n → ⊥) → n < length xs
inside xs P n fails = elim (cases_lt n (length xs)) [
  | inl lt ↦ lt
  | inr le ↦ absurd (fails (λ x at. absurd (let lt = slice_get_within xs n x at in omega (arith, le, lt))))
]

few_slots : (xs : List Item) → length (slot_kinds xs) ≤ length xs
few_slots [] = omega arith
few_slots (items.Slot k ∷ xs) = let h = few_slots xs in omega (arith, h)
few_slots (items.Word w ∷ xs) = let h = few_slots xs in omega (arith, h)
few_slots (items.Refers s ∷ xs) = let h = few_slots xs in omega (arith, h)
few_slots (items.Declares s ∷ xs) = let h = few_slots xs in omega (arith, h)
few_slots (items.Number ∷ xs) = let h = few_slots xs in omega (arith, h)
few_slots (items.Text ∷ xs) = let h = few_slots xs in omega (arith, h)
few_slots (items.Space ∷ xs) = let h = few_slots xs in omega (arith, h)
few_slots (items.Tight ∷ xs) = let h = few_slots xs in omega (arith, h)
few_slots (items.Line ∷ xs) = let h = few_slots xs in omega (arith, h)
few_slots (items.In ∷ xs) = let h = few_slots xs in omega (arith, h)
few_slots (items.Out ∷ xs) = let h = few_slots xs in omega (arith, h)

module _ (def : Definition) where
  pub loud_operator : (o k : ℕ) → (IsQuietSlot def o k → ⊥) → o < length def.operators
  loud_operator o k fails = inside def.operators (λ op. (kind : Kind) → slice_get (slot_kinds op.items) k ≡ Some kind → IsQuiet def kind) o fails

  -- a slot that is not there is quiet
  pub loud_slot : (o k m : ℕ) → ((n : ℕ) (op : Operator) → slice_get def.operators n ≡ Some op → length op.items < m) → (IsQuietSlot def o k → ⊥) → k < m
  loud_slot o k m short fails = elim (cases_lt k m) [
    | inl lt ↦ lt
    | inr le ↦ absurd (fails (λ op at kind there. absurd (
        let lt = slice_get_within (slot_kinds op.items) k kind there in
        let few = few_slots op.items in
        let most = short o op at in omega (arith, le, lt, few, most))))
  ]
