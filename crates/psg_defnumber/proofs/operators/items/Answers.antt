use Rattle.std.proofs.Common.{◌+◌, drop, refl}
use Rattle.psg_defnumber.specs.Putting.{ReadsItems}
use Rattle.psg_defnumber.proofs.PutLaws.{reads-next, reads-end}
use Rattle.psg_defnumber.proofs.LineLaws.{item-put}
use Rattle.psg_defcheck.specs.Meanings.{KnowsItem}
use Rattle.psg_defcheck.proofs.SortLaws.{all-at}
use Rattle.psg_defnumber.proofs.operators.items.Goals as goal

pub item-requires-clause-known : goal.item-requires-clause-known
item-requires-clause-known c = all-at (KnowsItem c.args.checked.now) c.args.parts.now c.loop-part.part-index c.part-item.result c.requires.known c.loop-part-test.true c.part-item.is

pub loop-part-preserved : goal.loop-part-preserved
loop-part-preserved c =
    reads-next c.args.definition.now ReadsItems c.args.parts.now c.loop-part.part-index c.part-item.result c.loop-part.made.items c.push.new.self.items c.loop-part-test.true c.part-item.is c.loop-part.invariant
    (item-put c.args.definition.now c.part-item.result (drop (c.loop-part.part-index + 1) c.args.parts.now) c.loop-part.made.items c.push.new.self.items c.in_ok-one.one c.in_ok-push.ensures.items c.in_ok-one.ensures)

pub returns : goal.returns
returns c = reads-end c.args.definition.now ReadsItems c.args.parts.now c.loop-part.part-index c.loop-part.made.items c.loop-part-test.false (λ full. refl) c.loop-part.invariant
