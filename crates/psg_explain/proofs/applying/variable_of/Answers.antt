use Rattle.std.proofs.Common.{sym, ap, ◌∙◌}
use Rattle.psg_terms.specs.Shapes.{term_of}
use Rattle.psg_explain.proofs.ApplyingLaws.{con_no_variable}
use Rattle.psg_explain.proofs.applying.variable_of.Goals as goal

pub returns-in-Con : goal.returns-in-Con
returns-in-Con c = con_no_variable c.args.term.now c.in-Con.con.0 c.in-Con.args (sym c.node.ensures ∙ ap term_of c.in-Con.is)
