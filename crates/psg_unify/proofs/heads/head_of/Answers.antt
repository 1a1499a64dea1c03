use Rattle.std.proofs.Common.{ap, sym, ◌∙◌}
use Rattle.psg_terms.specs.Shapes.{term_of}
use Rattle.psg_terms.proofs.Nodes.{no_variable}
use Rattle.psg_unify.proofs.heads.head_of.Goals as goal

pub returns-in-Con-clause-some : goal.returns-in-Con-clause-some
returns-in-Con-clause-some c = (c.in-Con.args, sym c.node.ensures ∙ ap term_of c.in-Con.is)

pub returns-in-Var-clause-none : goal.returns-in-Var-clause-none
returns-in-Var-clause-none c = λ k (args, e). no_variable k c.in-Var.sort.0 c.in-Var.number args (sym e ∙ sym c.node.ensures ∙ ap term_of c.in-Var.is)
