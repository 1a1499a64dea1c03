use Rattle.std.proofs.Common.{◌↔◌, IsTrue, sym, subst}
use Rattle.psg_explain.specs.declared.refutation.Refutation.{Refutation}
use Rattle.psg_explain.specs.Refutations.{Refutes}
use Rattle.psg_explain.proofs.checking.is_right_refutation.Goals as goal

pub returns-in_ok-twice-in-Twice : goal.returns-in_ok-twice-in-Twice
returns-in_ok-twice-in-Twice c =
    subst (λ (r : Refutation). IsTrue c.in_ok-twice-in-Twice.twice ↔ Refutes c.args.lang.now c.args.tree.now r) (sym c.in-Twice.is) c.in_ok-twice-in-Twice.ensures

pub returns-in_ok-met-in-Empty : goal.returns-in_ok-met-in-Empty
returns-in_ok-met-in-Empty c =
    subst (λ (r : Refutation). IsTrue c.in_ok-met-in-Empty.met ↔ Refutes c.args.lang.now c.args.tree.now r) (sym c.in-Empty.is) c.in_ok-met-in-Empty.ensures
