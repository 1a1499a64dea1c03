use Rattle.std.proofs.Common.{refl, sym, ap, ◌∙◌, true≢false}
use Rattle.psg_terms.specs.Shapes.{term_of}
use Rattle.psg_specimen.specs.Variables.{has_key}
use Rattle.psg_specimen.proofs.VariableLaws.{var_met, var_new, con_other, var_next}
use Rattle.psg_specimen.proofs.cases.is_different.Goals as goal

pub returns-then-contains-clause-test : goal.returns-then-contains-clause-test
returns-then-contains-clause-test c = λ rest are. (
  λ h. absurd (true≢false (sym h)),
  λ d. absurd (var_met c.args.sig.now (has_key c.args.met.now) c.args.arg.now c.args.sort.now.0 c.in-Var.own.0 c.in-Var.number (sym c.node.ensures ∙ ap term_of c.in-Var.is) c.if-own-sort.false c.in_default.ensures (sym c.contains.ensures ∙ c.if-contains.true) rest are d),
)

pub returns-in_ok-insert-in-Var-clause-test : goal.returns-in_ok-insert-in-Var-clause-test
returns-in_ok-insert-in-Var-clause-test c = λ rest are. (
  λ h. var_new c.args.sig.now (has_key c.args.met.now) c.args.arg.now c.args.sort.now.0 c.in-Var.own.0 c.in-Var.number (sym c.node.ensures ∙ ap term_of c.in-Var.is) c.if-own-sort.false c.in_default.ensures (sym c.contains.ensures ∙ c.if-contains.false) rest are,
  λ d. refl,
)

pub returns-in_ok-insert-in-Var-clause-met : goal.returns-in_ok-insert-in-Var-clause-met
returns-in_ok-insert-in-Var-clause-met c = λ rest are h.
    var_next (has_key c.args.met.now) (has_key c.insert.new.self) c.args.arg.now c.in-Var.own.0 c.in-Var.number (sym c.node.ensures ∙ ap term_of c.in-Var.is) c.in_ok-insert-in-Var.ensures.updates.0 rest are

pub returns-in-Con-clause-test : goal.returns-in-Con-clause-test
returns-in-Con-clause-test c = λ rest are. (
  λ h. absurd (true≢false (sym h)),
  λ d. absurd (con_other c.args.sig.now (has_key c.args.met.now) c.args.arg.now c.args.sort.now.0 c.in-Con.con.0 c.in-Con.args (sym c.node.ensures ∙ ap term_of c.in-Con.is) c.in_default.ensures rest d),
)
