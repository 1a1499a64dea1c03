use Rattle.psg_specimen.proofs.PatternLaws.{names_next}
use Rattle.psg_specimen.proofs.patterns.names_of.Goals as goal

pub loop-part-preserved : goal.loop-part-preserved
loop-part-preserved c =
    names_next c.args.parts.now c.loop-part.part-index c.part-item.result c.loop-part.names.items c.add_name.new.names.items c.loop-part-test.true c.part-item.is c.in_ok-add_name.ensures c.loop-part.invariant
