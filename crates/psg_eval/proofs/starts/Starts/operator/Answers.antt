use Rattle.std.proofs.Common.{◌≡◌, List, Option, Some, ap, slice_get, sym, subst}
use Rattle.std.specs.Prelude.{IfSome, option_copied}
use Rattle.psg_eval.specs.declared.starts.OperatorStart.{OperatorStart}
use Rattle.psg_eval.specs.Starts.{IsOperatorStart}
use Rattle.psg_eval.proofs.starts.Starts.operator.Goals as goal

pub returns-in-Some : goal.returns-in-Some
returns-in-Some c = λ def operator are found.
    let at = subst (λ (o : Option OperatorStart). IfSome o (λ s. slice_get c.as_slice.result.now c.args.op ≡ Some s)) (ap option_copied c.in-Some.is) c.start_at.ensures in
    are.operators c.args.op c.in-Some.found.now (subst (λ (xs : List OperatorStart). slice_get xs c.args.op ≡ Some c.in-Some.found.now) c.as_slice.ensures.value at) operator found

pub returns-in-None : goal.returns-in-None
returns-in-None c = λ def operator are found. subst (IsOperatorStart def operator) (sym are.unknown) tt
