use Rattle.psg_specimen.proofs.TrueRows.{true_rows}
use Rattle.psg_program.proofs.Accepted.{can_end}
use Rattle.psg_lint.proofs.FineLaws.{fine_exactly}
use Rattle.psg_lint.proofs.laws.fine_exactly.Goals as goal

pub returns : goal.returns
returns c =
    let d = c.definition-own.ensures in
    fine_exactly c.args.language.now (can_end c.args.language.now d.sound d.accepted d.tokens) d.accepted.of_class
    (true_rows c.args.language.now d.accepted.met)
