use Rattle.std.proofs.Common.{◌+◌, true, false, refl, sym, subst}
use Rattle.std.proofs.lemmas.List.{drop_all}
use Rattle.psg_terms.proofs.Lists.{drop_item}
use Rattle.psg_grammar.specs.declared.types.Item.TheVariants as items
use Rattle.psg_eval.specs.declared.own.Places.{Places}
use Rattle.psg_eval.proofs.ItemSteps.{IsFoundUpTo, found_all, found_none, found_name, found_other, found_slot, is_other, item_at, name_there, settled}
use Rattle.psg_eval.proofs.own.item_places.Goals as goal
use Rattle.psg_eval.proofs.own.item_places.Goals.{in-Slot+in_ok-push-in-Slot, in-Refers+in_ok-add_name-in-Refers, in-Declares+in_ok-add_name-in-Declares, in_default}

pub loop-item-init : goal.loop-item-init
loop-item-init c =
    found_none c.requires.fits.0 c.args.items.now c.args.names.now c.new.result.items c.new-2.result.items c.new-3.result.items c.requires.fits.1 c.new.ensures.items c.new-2.ensures.items c.new-3.ensures.items

pub loop-item-preserved : goal.loop-item-preserved
loop-item-preserved c =
    let xs = c.args.items.now in
    let names = c.args.names.now in
    let i = c.loop-item.item-index in
    let column = c.loop-item.column in
    let next = c.loop-item.next in
    let found = c.loop-item.found in
    let f = c.loop-item.invariant in
    elim c.match-item.branch [
      | in-Slot+in_ok-push-in-Slot w ↦
          let here = item_at xs i c.item-item.result (items.Slot w.in-Slot.field-0) c.loop-item-test.true c.item-item.is w.in-Slot.is in
          let more = w.push.new.self.items in
          subst (λ (p : Places). IsFoundUpTo xs names (i + 1) c.match-item.column c.match-item.next p.positions.items p.names.items p.slots.items) (sym w.found-is)
          (settled xs names (i + 1) (column + 1) next c.match-item.column c.match-item.next found.positions.items found.names.items more w.column-is w.next-is
          (found_slot xs names i column next found.positions.items found.names.items found.slots.items f w.in-Slot.field-0 here more w.in_ok-push-in-Slot.ensures.items))
      | in-Refers+in_ok-add_name-in-Refers w ↦
          let here = item_at xs i c.item-item.result (items.Refers w.in-Refers.space) c.loop-item-test.true c.item-item.is w.in-Refers.is in
          let there = name_there xs names i column next found.positions.items found.names.items found.slots.items f w.in-Refers.space false (items.Refers w.in-Refers.space) (refl, refl) here in
          let name = w.index-names-next in
          let new = w.add_name.new.self in
          let added = w.in_ok-add_name-in-Refers.ensures in
          subst (λ (p : Places). IsFoundUpTo xs names (i + 1) c.match-item.column c.match-item.next p.positions.items p.names.items p.slots.items) (sym w.found-is)
          (settled xs names (i + 1) (column + 1) (next + 1) c.match-item.column c.match-item.next new.positions.items new.names.items new.slots.items w.column-is w.next-is
          (found_name xs names i column next found.positions.items found.names.items found.slots.items f w.in-Refers.space false (items.Refers w.in-Refers.space) (refl, refl) here name.result (drop_item names next name.result there name.is)
          (record { space = w.in-Refers.space; name = name.result; declared = false }) refl new.positions.items new.names.items new.slots.items added.positions added.names added.slots))
      | in-Declares+in_ok-add_name-in-Declares w ↦
          let here = item_at xs i c.item-item.result (items.Declares w.in-Declares.space) c.loop-item-test.true c.item-item.is w.in-Declares.is in
          let there = name_there xs names i column next found.positions.items found.names.items found.slots.items f w.in-Declares.space true (items.Declares w.in-Declares.space) (refl, refl) here in
          let name = w.index-names-next-in-Declares in
          let new = w.add_name-in-Declares.new.self in
          let added = w.in_ok-add_name-in-Declares.ensures in
          subst (λ (p : Places). IsFoundUpTo xs names (i + 1) c.match-item.column c.match-item.next p.positions.items p.names.items p.slots.items) (sym w.found-is)
          (settled xs names (i + 1) (column + 1) (next + 1) c.match-item.column c.match-item.next new.positions.items new.names.items new.slots.items w.column-is w.next-is
          (found_name xs names i column next found.positions.items found.names.items found.slots.items f w.in-Declares.space true (items.Declares w.in-Declares.space) (refl, refl) here name.result (drop_item names next name.result there name.is)
          (record { space = w.in-Declares.space; name = name.result; declared = true }) refl new.positions.items new.names.items new.slots.items added.positions added.names added.slots))
      | in_default w ↦
          let other = is_other c.item-item.result w.in_default.not-Slot w.in_default.not-Refers w.in_default.not-Declares in
          subst (λ (p : Places). IsFoundUpTo xs names (i + 1) c.match-item.column c.match-item.next p.positions.items p.names.items p.slots.items) (sym w.found-is)
          (settled xs names (i + 1) column next c.match-item.column c.match-item.next found.positions.items found.names.items found.slots.items w.column-is w.next-is
          (found_other xs names i column next found.positions.items found.names.items found.slots.items f c.item-item.result other (item_at xs i c.item-item.result c.item-item.result c.loop-item-test.true c.item-item.is refl)))
    ]

pub returns : goal.returns
returns c =
    let found = c.loop-item.found in
    let all = found_all c.args.items.now c.args.names.now c.loop-item.item-index c.loop-item.column c.loop-item.next found.positions.items found.names.items found.slots.items c.loop-item.invariant
    (drop_all c.loop-item.item-index c.args.items.now c.loop-item-test.false) in
    record { positions = all.0; names = all.1; slots = all.2 }
