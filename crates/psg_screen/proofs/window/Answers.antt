use Rattle.std.proofs.Common.{lit<, eqb}
use Rattle.std.specs.List.{slice_split}
use Rattle.std.proofs.lemmas.Iterator.{YieldsList-from_take}
use Rattle.std.proofs.lemmas.Iterator.Adapters.{YieldsList-from_skip}
use Rattle.std.proofs.lemmas.Iterator.Consumers.{YieldsList-at, YieldsList-end}
use Rattle.std.proofs.lemmas.Iterator.Splits.{YieldsList-from_str_split}
use Rattle.std.proofs.lemmas.Result.{IfOk-weaker}
use Rattle.psg_screen.specs.Window.{shown_line}
use Rattle.psg_screen.proofs.WindowLaws.{filled-numbered, shown_line-nil}
use Rattle.psg_screen.proofs.window.Goals as goal

pub returns-clause-lines : goal.returns-clause-lines
returns-clause-lines c =
    let parts = YieldsList-from_str_split 10 c.args.text.now (lit< tt) c.split.ensures.text c.split.ensures.has_more c.split.ensures.pattern in
    let below = YieldsList-from_skip c.args.view.top (YieldsList-at c.skip.ensures.source parts) c.skip.ensures.count in
    let taken = YieldsList-from_take c.args.view.rows (YieldsList-at c.take-line-items.ensures.source below) c.take-line-items.ensures.count in
    let looped = YieldsList-at {s = c.into_iter-line-iterator.result} (cc) taken in
    let ends = YieldsList-end looped c.loop-line.yielded _ c.loop-line.yielded_by _ _ c.in-None.is c.next.ensures.steps in
    IfOk-weaker c.with_empty_lines.result _ _
    (λ filled padding. filled-numbered (shown_line c.args.view) (shown_line-nil c.args.view) (slice_split (λ b. eqb b 10) c.args.text.now) _ _ _ c.args.view.top c.args.view.rows _
    ends.0 c.loop-line.invariant.items c.loop-line.invariant.len padding)
    c.with_empty_lines.ensures.lines
