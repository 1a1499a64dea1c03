use Rattle.psg_defnumber.proofs.SortLineLaws.{copy-next, copy-all}
use Rattle.psg_defnumber.proofs.signatures.shared.Goals as goal

pub loop-text-preserved : goal.loop-text-preserved
loop-text-preserved c = copy-next c.args.texts.now c.loop-text.made.items c.push.new.self.items c.loop-text.text-index c.text-item.result c.in_ok-one.one c.loop-text-test.true c.text-item.is c.loop-text.invariant c.in_ok-push.ensures.items c.in_ok-one.ensures

pub returns : goal.returns
returns c = copy-all c.args.texts.now c.loop-text.made.items c.loop-text.text-index c.loop-text-test.false c.loop-text.invariant
