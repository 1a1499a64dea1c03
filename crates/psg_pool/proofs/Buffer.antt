-- The arguments of the slots lie one behind the other in the buffer.
use Rattle.std.proofs.Common.{◌≡◌, ℕ, suc, zero, ◌+◌, ◌≤◌, Option, Some, inl, inr, List, [], ◌∷◌, ◌++◌, length, take, drop, slice_get, refl, ap, ap₂, sym, ◌∙◌, subst, arith}
use Rattle.std.proofs.Math.ListN.{set}
use Rattle.std.specs.Option.{option_map, unwrap_or}
use Rattle.std.proofs.Math.Seq.{drop-append_seam}
use Rattle.std.proofs.lemmas.List.{take-append-le, take_all, take-take}
use Rattle.psg_pool.specs.declared.cells.CellId.{CellId}
use Rattle.psg_pool.specs.declared.pool.Slot.{Slot}
use Rattle.psg_pool.specs.declared.pool.Content.{Content}
use Rattle.psg_pool.specs.declared.pool.Content.TheVariants.{Free, Con}
use Rattle.psg_pool.specs.Cells.{Put, constructor}
use Rattle.psg_pool.specs.Layout.{count_in, put_in, puts, IsLaid, end_of}
use Rattle.psg_pool.proofs.Places.{some_or_none, slice_get_none}

-- the slots end behind where they begin
pub laid_le : (at : ℕ) (slots : List Slot) (end : ℕ) → IsLaid at slots end → at ≤ end
laid_le at [] end laid = omega (arith, laid)
laid_le at (s ∷ rest) end laid = omega (arith, laid_le (at + count_in s.content) rest end laid.1)

-- one more slot at the end
pub laid_more : (at : ℕ) (slots : List Slot) (end : ℕ) (slot : Slot) (after : ℕ) → IsLaid at slots end → slot.start ≡ end
    → after ≡ end + count_in slot.content → IsLaid at (slots ++ slot ∷ []) after
laid_more at [] end slot after laid start is = (start ∙ sym laid, omega (arith, laid, is))
laid_more at (s ∷ rest) end slot after laid start is = (laid.0, laid_more (at + count_in s.content) rest end slot after laid.1 start is)

-- the first slots end where the next one starts
pub laid_take : (at : ℕ) (slots : List Slot) (end n : ℕ) (slot : Slot) → IsLaid at slots end → slice_get slots n ≡ Some slot
    → IsLaid at (take n slots) slot.start
laid_take at [] end n slot laid got = cc
laid_take at (s ∷ rest) end zero slot laid got = let e : s ≡ slot = cc in sym laid.0 ∙ ap (λ (x : Slot). x.start) e
laid_take at (s ∷ rest) end (suc n) slot laid got = (laid.0, laid_take (at + count_in s.content) rest end n slot laid.1 got)

-- a write that keeps the start and the count keeps the layout
pub laid_set : (at : ℕ) (slots : List Slot) (end i : ℕ) (old new : Slot) → IsLaid at slots end → slice_get slots i ≡ Some old
    → new.start ≡ old.start → count_in new.content ≡ count_in old.content → IsLaid at (set slots i new) end
laid_set at [] end i old new laid got start count = laid
laid_set at (s ∷ rest) end zero old new laid got start count =
    let e : s ≡ old = cc in
    let c : count_in new.content ≡ count_in s.content = count ∙ sym (ap (λ (x : Slot). count_in x.content) e) in
    (start ∙ sym (ap (λ (x : Slot). x.start) e) ∙ laid.0, subst (λ n. IsLaid (at + n) rest end) (sym c) laid.1)
laid_set at (s ∷ rest) end (suc i) old new laid got start count =
    (laid.0, laid_set (at + count_in s.content) rest end i old new laid.1 got start count)

-- a part that ends by a place needs no more of the list
pub part_cut : {X : Type 0} (xs : List X) (start count end : ℕ) → start + count ≤ end → take count (drop start (take end xs)) ≡ take count (drop start xs)
part_cut xs zero count end h = take-take count end xs (omega (arith, h))
part_cut xs (suc start) count zero h = absurd (omega (arith, h))
part_cut [] (suc start) count (suc end) h = refl
part_cut (x ∷ xs) (suc start) count (suc end) h = part_cut xs start count end (omega (arith, h))

-- a cell is the same over buffers that agree up to its end
pub put_same : (a b : List CellId) (start end : ℕ) (content : Content) → start + count_in content ≤ end → take end a ≡ take end b
    → put_in a start content ≡ put_in b start content
put_same a b start end (Free sort place) h e = refl
put_same a b start end (Con number count) h e =
    ap (λ (xs : List CellId). constructor number xs)
    (sym (part_cut a start count end h) ∙ ap (λ (xs : List CellId). take count (drop start xs)) e ∙ part_cut b start count end h)

pub puts_same : (a b : List CellId) (at : ℕ) (slots : List Slot) (end : ℕ) → IsLaid at slots end → take end a ≡ take end b
    → puts a slots ≡ puts b slots
puts_same a b at [] end laid e = refl
puts_same a b at (s ∷ rest) end laid e =
    let h : s.start + count_in s.content ≤ end = omega (arith, laid.0, laid_le (at + count_in s.content) rest end laid.1) in
    ap₂ (λ (x : Put) (xs : List Put). x ∷ xs) (put_same a b s.start end s.content h e) (puts_same a b (at + count_in s.content) rest end laid.1 e)

-- more arguments at the end of the buffer change no cell
pub puts_grown : (arguments more : List CellId) (slots : List Slot) → IsLaid 0 slots (length arguments)
    → puts (arguments ++ more) slots ≡ puts arguments slots
puts_grown arguments more slots laid =
    let whole : length arguments ≤ length arguments = omega arith in
    puts_same (arguments ++ more) arguments 0 slots (length arguments) laid (take-append-le (length arguments) arguments more whole)

-- the cells of the first slots need the buffer up to their end
pub puts_cut : (arguments : List CellId) (slots : List Slot) (end : ℕ) → IsLaid 0 slots end → puts (take end arguments) slots ≡ puts arguments slots
puts_cut arguments slots end laid =
    let whole : end ≤ end = omega arith in
    puts_same (take end arguments) arguments 0 slots end laid (take-take end end arguments whole)

-- a slot over the arguments at the end of the buffer shows a constructor over them
pub put_of_last : (arguments more : List CellId) (number : ℕ)
    → put_in (arguments ++ more) (length arguments) (Con number (length more)) ≡ constructor number more
put_of_last arguments more number =
    let whole : length more ≤ length more = omega arith in
    ap (λ (xs : List CellId). constructor number xs)
    (ap (λ (xs : List CellId). take (length more) xs) (drop-append_seam arguments more) ∙ take_all (length more) more whole)

-- the arguments of each slot lie within the buffer
pub laid_within : (at : ℕ) (slots : List Slot) (end i : ℕ) (slot : Slot) → IsLaid at slots end → slice_get slots i ≡ Some slot
    → slot.start + count_in slot.content ≤ end
laid_within at [] end i slot laid got = cc
laid_within at (s ∷ rest) end zero slot laid got =
    let e : s ≡ slot = cc in
    subst (λ (x : Slot). x.start + count_in x.content ≤ end) e (omega (arith, laid.0, laid_le (at + count_in s.content) rest end laid.1))
laid_within at (s ∷ rest) end (suc i) slot laid got = laid_within (at + count_in s.content) rest end i slot laid.1 got

-- the first slots end where `end_of` says, within the buffer
pub laid_cut : (slots : List Slot) (n length' : ℕ) → IsLaid 0 slots length' → IsLaid 0 (take n slots) (end_of slots n length') × (end_of slots n length' ≤ length')
laid_cut slots n length' laid = elim (some_or_none (slice_get slots n)) [
  | inl none ↦
      let all : take n slots ≡ slots = take_all n slots (slice_get_none slots n none) in
      let end : end_of slots n length' ≡ length' = ap (λ (o : Option Slot). unwrap_or (option_map (λ (s : Slot). s.start) o) length') none in
      (subst (λ (l : List Slot). IsLaid 0 l (end_of slots n length')) (sym all) (subst (λ (e : ℕ). IsLaid 0 slots e) (sym end) laid), omega (arith, end))
  | inr some ↦
      let end : end_of slots n length' ≡ some.0.start = ap (λ (o : Option Slot). unwrap_or (option_map (λ (s : Slot). s.start) o) length') some.1 in (
        subst (λ (e : ℕ). IsLaid 0 (take n slots) e) (sym end) (laid_take 0 slots length' n some.0 laid some.1),
        omega (arith, end, laid_within 0 slots length' n some.0 laid some.1),
      )
]
