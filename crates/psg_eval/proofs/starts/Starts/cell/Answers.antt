use Rattle.std.proofs.Common.{Option, ap, sym, subst}
use Rattle.std.specs.Prelude.{IfSome, option_copied}
use Rattle.psg_eval.specs.declared.partial.Partial.{Partial}
use Rattle.psg_eval.specs.declared.starts.ListStart.{ListStart}
use Rattle.psg_eval.specs.Starts.{IsCellBegun, IsListStart}
use Rattle.psg_eval.proofs.starts.Starts.cell.Goals as goal

pub returns-in-Some : goal.returns-in-Some
returns-in-Some c = λ def are.
    let is = subst (λ (o : Option ListStart). IfSome o (IsListStart def c.args.list)) (ap option_copied c.in-Some.is) (c.list.ensures def are) in
    subst (λ (o : Option Partial). IfSome o (IsCellBegun def c.args.list)) (sym c.as_ref.ensures.value) is.cell
