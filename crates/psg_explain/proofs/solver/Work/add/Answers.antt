use Rattle.std.proofs.Common.{◌∷◌, [], ◌++◌, refl, ap, ◌∙◌}
use Rattle.psg_explain.proofs.SolvingLaws.{extends_added, working_added}
use Rattle.psg_explain.proofs.solver.Work.add.Goals as goal

pub returns-clause-work : goal.returns-clause-work
returns-clause-work c = λ given w gives.
    working_added given c.args.self.now.derived.rules.items c.args.self.now.derived.all.items c.args.self.now.left.items c.args.rule c.args.equation
    (record { number = c.in_ok-number.number; equation = c.args.equation })
    c.add.new.self.rules.items c.add.new.self.all.items c.push.new.self.items
    c.in_ok-number.ensures.number refl c.in_ok-number.ensures.rules
    (c.in_ok-number.ensures.all ∙ ap (λ e. c.args.self.now.derived.all.items ++ e ∷ []) c.in_ok-copy.ensures)
    c.in_ok-push.ensures.items w gives

pub returns-clause-extends : goal.returns-clause-extends
returns-clause-extends c = λ n e h.
    extends_added c.args.self.now.derived.all.items c.add.new.self.all.items c.in_ok-copy.copy c.in_ok-number.ensures.all n e h
