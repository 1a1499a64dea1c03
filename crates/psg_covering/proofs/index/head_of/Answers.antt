use Rattle.std.proofs.Common.{ap, sym, ◌∙◌}
use Rattle.psg_terms.specs.Shapes.{term_of}
use Rattle.psg_covering.proofs.IndexLaws.{head-con, head-variable}
use Rattle.psg_covering.proofs.index.head_of.Goals as goal

pub returns-in-Var : goal.returns-in-Var
returns-in-Var c = head-variable c.args.term.now _ _ (sym c.node.ensures ∙ ap term_of c.in-Var.is)

pub returns-in-Con : goal.returns-in-Con
returns-in-Con c = head-con c.args.term.now c.in-Con.con.0 c.in-Con.args (sym c.node.ensures ∙ ap term_of c.in-Con.is)
