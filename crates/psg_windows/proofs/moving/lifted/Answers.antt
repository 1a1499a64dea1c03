use Rattle.std.proofs.Common.{sym}
use Rattle.psg_windows.proofs.Walks.{lifted_here, not_under, ok_by}
use Rattle.psg_windows.proofs.moving.lifted.Goals as goal

pub returns-in-Some : goal.returns-in-Some
returns-in-Some c =
    ok_by c.of.result _ _ c.of.ensures
    (sym (lifted_here c.args.at.now c.in-Some.field-0.0 c.in-Some.field-0.1.now c.args.cursor.now c.in-Some.ensures))

pub returns-in-None : goal.returns-in-None
returns-in-None c = ok_by c.of-in-None.result _ _ c.of-in-None.ensures (sym (not_under _ c.args.at.now c.args.cursor.now c.in-None.ensures))
