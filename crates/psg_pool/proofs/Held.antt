-- What a cell holds, by its slot.
use Rattle.std.proofs.Common.{◌≡◌, ◌≢◌, ℕ, ◌+◌, ◌≤◌, Some, List, length, take, drop, slice_get, ap, sym, ◌∙◌, subst, arith}
use Rattle.std.specs.Option.{option_map, option_and_then}
use Rattle.std.proofs.lemmas.List.{length-take, length-drop}
use Rattle.std.proofs.lemmas.Option.{slice_get-map}
use Rattle.psg_pool.specs.declared.cells.CellId.{CellId}
use Rattle.psg_pool.specs.declared.cells.Binding.{Binding}
use Rattle.psg_pool.specs.declared.cells.Cell.TheVariants as cell
use Rattle.psg_pool.specs.declared.pool.Slot.{Slot}
use Rattle.psg_pool.specs.declared.pool.Content.TheVariants.{Free, Con}
use Rattle.psg_pool.specs.Cells.{constructor, arguments_in, arguments_of}
use Rattle.psg_pool.specs.Bindings.{Holds}
use Rattle.psg_pool.specs.Layout.{count_in, place_in, put_in, put_of, puts, place_at, shown, IsInOrder}
use Rattle.psg_pool.proofs.Links.{found, not_found, never_bound}
use Rattle.psg_pool.proofs.Buffer.{laid_within}

-- a slot shows the cell that was put
pub shows : (slots : List Slot) (arguments : List CellId) (i : ℕ) (slot : Slot) → slice_get slots i ≡ Some slot
    → slice_get (puts arguments slots) i ≡ Some (put_of arguments slot)
shows slots arguments i slot here = slice_get-map (put_of arguments) slots i ∙ ap (option_map (put_of arguments)) here

-- the place that a slot names
names : (slots : List Slot) (id : CellId) (slot : Slot) → slice_get slots id.0 ≡ Some slot → place_at slots id ≡ place_in slot.content
names slots id slot here = ap (option_and_then (λ (s : Slot). place_in s.content)) here

pub reads_bound : (slots : List Slot) (arguments : List CellId) (bindings : List Binding) (id : CellId) (slot : Slot) (sort place : ℕ) (b : Binding)
    → IsInOrder slots arguments bindings → slice_get slots id.0 ≡ Some slot → slot.content ≡ Free sort place → slice_get bindings place ≡ Some b
    → b.bound.0 ≡ id.0 → Holds (shown slots arguments bindings) id (cell.Bound b.target)
reads_bound slots arguments bindings id slot sort place b order here is at same = (
  (sort, shows slots arguments id.0 slot here ∙ ap (λ c. Some (put_in arguments slot.start c)) is),
  found slots bindings 0 place place id b order.linked (names slots id slot here ∙ ap place_in is) (omega arith) at same,
)

pub reads_free : (slots : List Slot) (arguments : List CellId) (bindings : List Binding) (id : CellId) (slot : Slot) (sort place : ℕ)
    → IsInOrder slots arguments bindings → slice_get slots id.0 ≡ Some slot → slot.content ≡ Free sort place
    → ((b : Binding) → slice_get bindings place ≡ Some b → b.bound.0 ≢ id.0) → Holds (shown slots arguments bindings) id (cell.Free sort)
reads_free slots arguments bindings id slot sort place order here is apart = (
  shows slots arguments id.0 slot here ∙ ap (λ c. Some (put_in arguments slot.start c)) is,
  not_found slots bindings 0 place id order.linked (names slots id slot here ∙ ap place_in is)
      (λ j b at got. let same : j ≡ place = omega (arith, at) in apart b (subst (λ (n : ℕ). slice_get bindings n ≡ Some b) same got)),
)

pub reads_con : (slots : List Slot) (arguments : List CellId) (bindings : List Binding) (id : CellId) (slot : Slot) (number count : ℕ)
    → IsInOrder slots arguments bindings → slice_get slots id.0 ≡ Some slot → slot.content ≡ Con number count
    → Holds (shown slots arguments bindings) id (cell.Con number count)
reads_con slots arguments bindings id slot number count order here is =
    let put : slice_get (puts arguments slots) id.0 ≡ Some (constructor number (take count (drop slot.start arguments))) =
    shows slots arguments id.0 slot here ∙ ap (λ c. Some (put_in arguments slot.start c)) is in
    let own : arguments_of (puts arguments slots) id ≡ take count (drop slot.start arguments) = ap arguments_in put in
    let within : slot.start + count ≤ length arguments =
    subst (λ c. slot.start + count_in c ≤ length arguments) is (laid_within 0 slots (length arguments) id.0 slot order.laid here) in
    let size : length (take count (drop slot.start arguments)) ≡ count =
    omega (arith, within, length-take count (drop slot.start arguments), length-drop slot.start arguments) in (
      put ∙ ap (λ (l : List CellId). Some (constructor number l)) (sym own),
      ap length own ∙ size,
      never_bound slots bindings 0 id order.linked (names slots id slot here ∙ ap place_in is),
    )
