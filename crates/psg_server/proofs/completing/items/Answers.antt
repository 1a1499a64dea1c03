use Rattle.psg_server.proofs.CompletionLaws.{items_end, items_first, items_next}
use Rattle.psg_server.proofs.completing.items.Goals as goal

pub loop-place-init : goal.loop-place-init
loop-place-init c =
    items_first c.args.page.now.encoding c.args.page.now.text.now c.args.completion.now c.args.filter.now
    c.args.completion.now.entries.items c.as_slice-entries.result.now _ c.as_slice-entries.ensures.value
    c.new-values.ensures.items

pub loop-place-preserved : goal.loop-place-preserved
loop-place-preserved c =
    items_next c.args.page.now.encoding c.args.page.now.text.now c.args.completion.now c.args.filter.now
    c.args.completion.now.entries.items c.as_slice-entries.result.now c.loop-place.place c.index-entries-place.result
    c.in_ok-value.value c.loop-place.values.items _ c.loop-place-test.true c.index-entries-place.is c.in_ok-value.ensures
    c.in_ok-push.ensures.items c.loop-place.invariant

pub returns : goal.returns
returns c =
    items_end c.args.page.now.encoding c.args.page.now.text.now c.args.completion.now c.args.filter.now
    c.args.completion.now.entries.items c.as_slice-entries.result.now c.loop-place.place c.loop-place.values.items
    c.loop-place-test.false c.loop-place.invariant
