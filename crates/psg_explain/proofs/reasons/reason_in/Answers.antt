use Rattle.std.proofs.Common.{sym, subst}
use Rattle.psg_explain.specs.Reasons.{IsReason}
use Rattle.psg_explain.specs.Solutions.{reason_of}
use Rattle.psg_explain.proofs.SolvingLaws.{reason_is}
use Rattle.psg_explain.proofs.reasons.reason_in.Goals as goal

pub returns : goal.returns
returns c =
    let s = c.in_ok-solution.ensures in
    subst (IsReason c.args.equations.now) (sym c.reason_kept.ensures) (reason_is c.args.equations.now s.bindings (reason_of c.in_ok-solution.solution.failure) s.solving)
