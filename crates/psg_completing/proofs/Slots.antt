-- The slots among the items of an operator.
use Rattle.std.proofs.Common.{◌≡◌, ◌<◌, ◌≤◌, ◌+◌, ◌-◌, ◌==◌, ◌&&◌, Bool, true, false, cond, ℕ, zero, suc, List, length, take, Some, slice_get, refl, sym, ap, ◌∙◌, arith}
use Rattle.std.specs.Prelude.{count_by, get_or}
use Rattle.std.proofs.lemmas.Bool.{eqb-true, false≢true, true≢false}
use Rattle.std.proofs.lemmas.List.{take_all}
use Rattle.std.proofs.lemmas.List.Sums.{count_by_more_no, count_by_more_yes, sum_by-take-le}
use Rattle.std.proofs.lemmas.Option.{same_Some, slice_get_within, slice_get-get_or}
use Rattle.psg_grammar.specs.declared.types.Item.{Item}
use Rattle.psg_grammar.specs.declared.types.Item.TheVariants as items
use Rattle.psg_grammar.specs.declared.types.Kind.{Kind}
use Rattle.psg_grammar.specs.declared.types.Operator.{Operator}
use Rattle.psg_grammar.specs.Levels.{is_slot}
use Rattle.psg_completing.specs.Wanted.{IsSlotOf}

slot_is : (i : Item) → is_slot i ≡ true → (kind : Kind) × (i ≡ items.Slot kind)
slot_is (items.Slot kind) e = (kind, refl)
slot_is (items.Word w) e = absurd (false≢true e)
slot_is (items.Refers s) e = absurd (false≢true e)
slot_is (items.Declares s) e = absurd (false≢true e)
slot_is items.Number e = absurd (false≢true e)
slot_is items.Text e = absurd (false≢true e)
slot_is items.Space e = absurd (false≢true e)
slot_is items.Tight e = absurd (false≢true e)
slot_is items.Line e = absurd (false≢true e)
slot_is items.In e = absurd (false≢true e)
slot_is items.Out e = absurd (false≢true e)

-- one more item, which is not the wanted slot
step : (slot : Bool) (left new : ℕ) → (slot && (left == 0)) ≡ false → new ≡ cond slot (left - 1) left
    → left ≡ new + cond slot 1 0
step true zero new due n = absurd (true≢false due)
step true (suc left) new due n = omega (arith, n)
step false left new due n = omega (arith, n)

counted : (row : List Item) (i : ℕ) (x : Item) (slot : Bool) → i < length row → x ≡ get_or row i x → slot ≡ is_slot x
    → count_by is_slot (take (i + 1) row) ≡ count_by is_slot (take i row) + cond slot 1 0
counted row i x true lt is so = count_by_more_yes is_slot row i x lt (ap is_slot (sym is) ∙ sym so)
counted row i x false lt is so =
    let no = count_by_more_no is_slot row i x lt (ap is_slot (sym is) ∙ sym so) in omega (arith, no)

pub slots_next : (row : List Item) (i : ℕ) (x : Item) (number left new : ℕ) (slot : Bool) → i < length row
    → x ≡ get_or row i x → slot ≡ is_slot x → (slot && (left == 0)) ≡ false → new ≡ cond slot (left - 1) left
    → count_by is_slot (take i row) + left ≡ number → count_by is_slot (take (i + 1) row) + new ≡ number
slots_next row i x number left new slot lt is so due n h =
    let a = step slot left new due n in
    let b = counted row i x slot lt is so in
    omega (arith, a, b, h)

both_true : (a b : Bool) → (a && b) ≡ true → (a ≡ true) × (b ≡ true)
both_true true true e = (refl, refl)
both_true true false e = absurd (false≢true e)
both_true false b e = absurd (false≢true e)

pub slot_here : (o : Operator) (row : List Item) (i : ℕ) (x : Item) (number left : ℕ) (slot : Bool) → row ≡ o.items
    → i < length row → x ≡ get_or row i x → slot ≡ is_slot x → (slot && (left == 0)) ≡ true
    → count_by is_slot (take i row) + left ≡ number → IsSlotOf o number i
slot_here o row i x number left slot same lt is so due h =
    let (one, none) = both_true slot (left == 0) due in
    let (kind, own) = slot_is x (sym so ∙ one) in
    let zero_left : left ≡ 0 = eqb-true left 0 none in
    record {
      is_slot_there = (
        kind,
        ap (λ l. slice_get l i) (sym same) ∙ slice_get-get_or row i x lt ∙ ap Some (sym is ∙ own),
      );
      many_before = ap (λ l. count_by is_slot (take i l)) (sym same) ∙ omega (arith, h, zero_left);
    }

pub no_slot : (o : Operator) (row : List Item) (i number left : ℕ) → row ≡ o.items → length row ≤ i
    → count_by is_slot (take i row) + left ≡ number → (place : ℕ) → IsSlotOf o number place → ⊥
no_slot o row i number left same le h place is =
    let (kind, at) = is.is_slot_there in
    let here : slice_get row place ≡ Some (items.Slot kind) = ap (λ l. slice_get l place) same ∙ at in
    let lt = slice_get_within row place (items.Slot kind) here in
    let own : items.Slot kind ≡ get_or row place (items.Slot kind) =
    same_Some (items.Slot kind) (get_or row place (items.Slot kind))
    (sym here ∙ slice_get-get_or row place (items.Slot kind) lt) in
    let more = count_by_more_yes is_slot row place (items.Slot kind) lt (ap is_slot (sym own)) in
    let most = sum_by-take-le (λ x. cond (is_slot x) 1 0) row (place + 1) in
    let all : count_by is_slot (take i row) ≡ count_by is_slot row = ap (count_by is_slot) (take_all i row le) in
    let many : count_by is_slot (take place row) ≡ number =
    ap (λ l. count_by is_slot (take place l)) same ∙ is.many_before in
    absurd (omega (arith, more, most, all, many, h))
