use Rattle.std.proofs.Common.{[]}
use Rattle.psg_eval.proofs.StartLaws.{kept_own}
use Rattle.psg_eval.proofs.starts.bare_start.Goals as goal

pub returns-in-Some : goal.returns-in-Some
returns-in-Some c =
    kept_own c.args.definition.now c.args.operator.now [] c.first_step-made.result c.in_ok-first.first c.in-Some.bare c.in-Some.is c.in_ok-first.ensures c.requires.names
    c.first_step-made.ensures.step c.first_step-made.ensures.partial c.first_step-made.ensures.seen
