use Rattle.std.proofs.Common.{refl}
use Rattle.psg_defcheck.proofs.TableLaws.{behind-step}
use Rattle.psg_defcheck.proofs.tables.add_constructors.Goals as goal

pub loop-decl-preserved : goal.loop-decl-preserved
loop-decl-preserved c =
    behind-step c.args.table.now c.loop-decl.table c.insert.new.self c.args.sort.now c.as_str.result.now c.args.decls.now c.loop-decl.rest.now c.in-Some.front.now c.in-Some.decl.now
    (record { sort = c.args.sort; decl = c.in-Some.decl }) c.loop-decl.invariant c.in-Some.ensures.cases.0 c.as_str.ensures refl refl c.in_ok-insert.ensures.updates
