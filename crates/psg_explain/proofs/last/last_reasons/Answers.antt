use Rattle.std.proofs.Common.{sym, subst}
use Rattle.psg_explain.specs.declared.refutation.Refutation.{Refutation}
use Rattle.psg_explain.specs.LastReasons.{AreLastReasons}
use Rattle.psg_explain.specs.Refutations.{Refutes}
use Rattle.psg_explain.proofs.last.last_reasons.Goals as goal

pub reasons_at-requires-clause-right : goal.reasons_at-requires-clause-right
reasons_at-requires-clause-right c = subst (Refutes c.args.lang.now c.args.tree.now) c.in-Empty.is c.requires.right

pub returns-in_ok-told-in-Empty : goal.returns-in_ok-told-in-Empty
returns-in_ok-told-in-Empty c =
    subst (λ (r : Refutation). AreLastReasons c.args.lang.now c.args.tree.now r c.in_ok-told-in-Empty.told.items) (sym c.in-Empty.is) c.in_ok-told-in-Empty.ensures
