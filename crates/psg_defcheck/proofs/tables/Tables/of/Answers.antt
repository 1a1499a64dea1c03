use Rattle.psg_defcheck.proofs.TableLaws.{lines-some}
use Rattle.psg_defcheck.proofs.tables.Tables.of.Goals as goal

pub loop-entry-preserved-in-Continue-1 : goal.loop-entry-preserved-in-Continue-1
loop-entry-preserved-in-Continue-1 c =
    lines-some c.args.entries.now c.loop-entry.rest.now c.in-Some.front.now c.loop-entry.tables c.add.new.self c.in-Some.entry.now c.in-Some-entry.line c.loop-entry.invariant c.in-Some.ensures.cases.0 c.in-Some-entry.is c.in_ok-add.ensures
