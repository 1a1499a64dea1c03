-- Each change of the fields keeps their order and shows as the change of the two lists.
use Rattle.std.proofs.Common.{◌≡◌, ℕ, ◌<◌, ◌≤◌, Some, List, [], ◌∷◌, ◌++◌, length, take, slice_get, slice_index_or, All, refl, ap, sym, ◌∙◌, subst, arith, length-append}
use Rattle.std.proofs.Math.ListN.{set}
use Rattle.std.proofs.Math.Seq.{map-set_same}
use Rattle.std.specs.Option.{option_and_then, option_map}
use Rattle.std.proofs.lemmas.List.{map-append, take-map, length-take, length-map}
use Rattle.std.proofs.lemmas.List.Elements.{All-nil, All-weaker}
use Rattle.std.proofs.lemmas.Option.{slice_get-map, slice_get_read, slice_get_within}
use Rattle.psg_pool.specs.declared.cells.CellId.{CellId}
use Rattle.psg_pool.specs.declared.cells.Binding.{Binding}
use Rattle.psg_pool.specs.declared.pool.Slot.{Slot}
use Rattle.psg_pool.specs.declared.pool.Content.{Content}
use Rattle.psg_pool.specs.declared.pool.Content.TheVariants.{Free, Con}
use Rattle.psg_pool.specs.Cells.{Put, free, constructor, IsAmong}
use Rattle.psg_pool.specs.Bindings.{IsSound, IsFree, Leads}
use Rattle.psg_pool.specs.Marks.{Lengths, IsReleasable}
use Rattle.psg_pool.specs.Layout.{count_in, place_in, put_in, put_of, puts, bound_at, place_at, end_of, shown, IsLaid, IsInOrder}
use Rattle.psg_pool.proofs.Places.{slice_get-set_same}
use Rattle.psg_pool.proofs.Links.{linked_grown, linked_take, linked_cut, linked_set, linked_more}
use Rattle.psg_pool.proofs.Buffer.{laid_more, laid_set, laid_cut, puts_grown, puts_cut, put_of_last}
use Rattle.psg_pool.proofs.Soundness.{sound_empty, sound_put, sound_bind, sound_release}

pub order_empty : IsInOrder [] [] []
order_empty = record { laid = refl; linked = tt; sound = sound_empty }

-- one more free cell
pub order_put_free : (slots : List Slot) (arguments : List CellId) (bindings : List Binding) (start sort place : ℕ) → IsInOrder slots arguments bindings
    → start ≡ length arguments → IsInOrder (slots ++ record { start = start; content = Free sort place } ∷ []) arguments bindings
order_put_free slots arguments bindings start sort place order is = record {
  laid = laid_more 0 slots (length arguments) slot (length arguments) order.laid is (omega arith);
  linked = linked_grown slots (slot ∷ []) bindings 0 order.linked;
  sound = subst (λ (cells : List Put). IsSound (record { cells = cells; bindings = bindings })) (sym (map-append (put_of arguments) slots (slot ∷ [])))
      (sound_put (shown slots arguments bindings) (free sort) (All-nil (IsAmong (puts arguments slots))) order.sound);
} where
  slot : Slot
  slot = record { start = start; content = Free sort place }

-- one more constructor cell
pub puts_put_con : (slots : List Slot) (arguments more : List CellId) (start number count : ℕ) → IsLaid 0 slots (length arguments)
    → start ≡ length arguments → count ≡ length more
    → puts (arguments ++ more) (slots ++ record { start = start; content = Con number count } ∷ []) ≡ puts arguments slots ++ constructor number more ∷ []
puts_put_con slots arguments more start number count laid is size =
    let last : put_in (arguments ++ more) start (Con number count) ≡ constructor number more =
    ap (λ (s : ℕ). put_in (arguments ++ more) s (Con number count)) is
    ∙ ap (λ (n : ℕ). put_in (arguments ++ more) (length arguments) (Con number n)) size ∙ put_of_last arguments more number in
    map-append (put_of (arguments ++ more)) slots (record { start = start; content = Con number count } ∷ [])
    ∙ ap (λ (l : List Put). l ++ put_in (arguments ++ more) start (Con number count) ∷ []) (puts_grown arguments more slots laid)
    ∙ ap (λ (p : Put). puts arguments slots ++ p ∷ []) last

pub order_put_con : (slots : List Slot) (arguments more : List CellId) (bindings : List Binding) (start number count : ℕ)
    → IsInOrder slots arguments bindings → start ≡ length arguments → count ≡ length more → All (IsAmong (puts arguments slots)) more
    → IsInOrder (slots ++ record { start = start; content = Con number count } ∷ []) (arguments ++ more) bindings
order_put_con slots arguments more bindings start number count order is size among = record {
  laid = laid_more 0 slots (length arguments) slot (length (arguments ++ more)) order.laid is (omega (arith, size, length-append arguments more));
  linked = linked_grown slots (slot ∷ []) bindings 0 order.linked;
  sound = subst (λ (cells : List Put). IsSound (record { cells = cells; bindings = bindings }))
      (sym (puts_put_con slots arguments more start number count order.laid is size))
      (sound_put (shown slots arguments bindings) (constructor number more) among order.sound);
} where
  slot : Slot
  slot = record { start = start; content = Con number count }

-- binding a cell changes neither what was put nor how many arguments there are
put_in-bound_at : (arguments : List CellId) (start place : ℕ) (content : Content)
    → put_in arguments start (bound_at content place) ≡ put_in arguments start content
put_in-bound_at arguments start place (Free sort old) = refl
put_in-bound_at arguments start place (Con number count) = refl

count_in-bound_at : (place : ℕ) (content : Content) → count_in (bound_at content place) ≡ count_in content
count_in-bound_at place (Free sort old) = refl
count_in-bound_at place (Con number count) = refl

-- a free cell names the place of its binding
place_in-bound_at : (arguments : List CellId) (start place sort : ℕ) (content : Content) → put_in arguments start content ≡ free sort
    → place_in (bound_at content place) ≡ Some place
place_in-bound_at arguments start place sort (Free _ old) is = refl
place_in-bound_at arguments start place sort (Con number count) is = cc

-- the slot of a cell of the pool
pub slot_at : (slots : List Slot) (arguments : List CellId) (i : ℕ) (slot : Slot) → i < length (puts arguments slots) → slot ≡ slice_index_or slots i slot
    → slice_get slots i ≡ Some slot
slot_at slots arguments i slot among is =
    let within : i < length slots = omega (arith, among, length-map slots (put_of arguments)) in
    slice_get_read slots (length slots) i slot refl within is

pub puts_bind : (slots : List Slot) (arguments : List CellId) (i place : ℕ) (slot : Slot) → slot ≡ slice_index_or slots i slot
    → puts arguments (set slots i (record { start = slot.start; content = bound_at slot.content place })) ≡ puts arguments slots
puts_bind slots arguments i place slot is =
    map-set_same (put_of arguments) slots i (record { start = slot.start; content = bound_at slot.content place }) slot
    (put_in-bound_at arguments slot.start place slot.content ∙ ap (put_of arguments) is)

-- one more binding
pub order_bind : (slots : List Slot) (arguments : List CellId) (bindings : List Binding) (cell to : CellId) (slot : Slot) (place : ℕ)
    → IsInOrder slots arguments bindings → IsFree (shown slots arguments bindings) cell → IsAmong (puts arguments slots) to
    → (Leads bindings to cell → ⊥) → slot ≡ slice_index_or slots cell.0 slot → place ≡ length bindings
    → IsInOrder (set slots cell.0 (record { start = slot.start; content = bound_at slot.content place })) arguments
    (bindings ++ record { bound = cell; target = to } ∷ [])
order_bind slots arguments bindings cell to slot place order is_free among apart is last = record {
  laid = laid_set 0 slots (length arguments) cell.0 slot new order.laid here refl (count_in-bound_at place slot.content);
  linked = linked_more (set slots cell.0 new) bindings 0 place (record { bound = cell; target = to })
      (linked_set slots cell new bindings 0 is_free.1 order.linked) (omega (arith, last)) named;
  sound = subst (λ (cells : List Put). IsSound (record { cells = cells; bindings = bindings ++ record { bound = cell; target = to } ∷ [] }))
      (sym (puts_bind slots arguments cell.0 place slot is))
      (sound_bind (shown slots arguments bindings) (record { bound = cell; target = to }) (is_free.0, among) apart order.sound);
} where
  new : Slot
  new = record { start = slot.start; content = bound_at slot.content place }

  here : slice_get slots cell.0 ≡ Some slot
  here = slot_at slots arguments cell.0 slot (slice_get_within (puts arguments slots) cell.0 (free is_free.0.0) is_free.0.1) is

  named : place_at (set slots cell.0 new) cell ≡ Some place
  named =
      let put : Some (put_of arguments slot) ≡ Some (free is_free.0.0) =
      sym (slice_get-map (put_of arguments) slots cell.0 ∙ ap (λ o. option_map (put_of arguments) o) here) ∙ is_free.0.1 in
      let same : put_of arguments slot ≡ free is_free.0.0 = cc in
      ap (option_and_then (λ (s : Slot). place_in s.content)) (slice_get-set_same slots cell.0 new slot here)
      ∙ place_in-bound_at arguments slot.start place is_free.0.0 slot.content same

-- both lists cut
pub puts_release : (slots : List Slot) (arguments : List CellId) (cells : ℕ) → IsLaid 0 slots (length arguments)
    → puts (take (end_of slots cells (length arguments)) arguments) (take cells slots) ≡ take cells (puts arguments slots)
puts_release slots arguments cells laid =
    puts_cut arguments (take cells slots) (end_of slots cells (length arguments)) (laid_cut slots cells (length arguments) laid).0
    ∙ sym (take-map (put_of arguments) cells slots)

pub order_release : (slots : List Slot) (arguments : List CellId) (bindings : List Binding) (mark : Lengths) → IsInOrder slots arguments bindings
    → IsReleasable (shown slots arguments bindings) mark
    → IsInOrder (take mark.cells slots) (take (end_of slots mark.cells (length arguments)) arguments) (take mark.bindings bindings)
order_release slots arguments bindings mark order can = record {
  laid = subst (λ (n : ℕ). IsLaid 0 (take mark.cells slots) n) (sym size) cut.0;
  linked = linked_cut slots mark.cells (take mark.bindings bindings) 0
      (All-weaker (λ (b : Binding). (b.bound.0 < mark.cells) × (b.target.0 < mark.cells)) (λ (b : Binding). b.bound.0 < mark.cells) (λ b h. h.0) (take mark.bindings bindings) can.stay)
      (linked_take slots bindings 0 mark.bindings order.linked);
  sound = subst (λ (cells : List Put). IsSound (record { cells = cells; bindings = take mark.bindings bindings }))
      (sym (puts_release slots arguments mark.cells order.laid)) (sound_release (shown slots arguments bindings) mark can order.sound);
} where
  cut : IsLaid 0 (take mark.cells slots) (end_of slots mark.cells (length arguments)) × (end_of slots mark.cells (length arguments) ≤ length arguments)
  cut = laid_cut slots mark.cells (length arguments) order.laid

  size : length (take (end_of slots mark.cells (length arguments)) arguments) ≡ end_of slots mark.cells (length arguments)
  size = omega (arith, cut.1, length-take (end_of slots mark.cells (length arguments)) arguments)
