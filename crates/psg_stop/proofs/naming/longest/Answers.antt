use Rattle.std.proofs.Common.{rules, ◌≡◌, length, take, arith, subst, sym}
use Rattle.std.proofs.lemmas.List.{take_all}
use Rattle.psg_terms.proofs.Lists.{take_item}
use Rattle.psg_stop.proofs.Runs.{AreBounded, bounded_next}
use Rattle.psg_stop.proofs.naming.longest.Goals as goal

pub loop-text-init : goal.loop-text-init
loop-text-init c = tt

pub loop-text-preserved : goal.loop-text-preserved
loop-text-preserved c =
    let next = c.longer-next.ensures in
    subst (AreBounded c.longer-next.result) (sym (take_item c.args.texts.now c.loop-text.text-index c.text-item.result c.loop-text-test.true c.text-item.is))
    (bounded_next c.loop-text.longest c.longer-next.result (take c.loop-text.text-index c.args.texts.now) c.text-item.result next.old c.loop-text.invariant next.text)

pub returns : goal.returns
returns c =
    let end : c.loop-text.text-index ≡ length c.args.texts.now = search rules in
    subst (AreBounded c.loop-text.longest) (take_all c.loop-text.text-index c.args.texts.now (omega (arith, end))) c.loop-text.invariant
