use Rattle.std.proofs.Common.{Option, ap, subst}
use Rattle.std.specs.Prelude.{IfSome, option_copied}
use Rattle.psg_eval.specs.declared.starts.ListStart.{ListStart}
use Rattle.psg_eval.specs.Starts.{IsListStart}
use Rattle.psg_eval.proofs.StartLaws.{end_start}
use Rattle.psg_eval.proofs.starts.Starts.end.Goals as goal

pub returns-in-Some : goal.returns-in-Some
returns-in-Some c = λ def are.
    let is = subst (λ (o : Option ListStart). IfSome o (IsListStart def c.args.list)) (ap option_copied c.in-Some.is) (c.list.ensures def are) in
    end_start def c.args.list c.in-Some.start.now c.args.unfinished (option_copied c.end.result) is c.end.ensures.unfinished c.end.ensures.finished
