use Rattle.std.proofs.Common.{ap, sym, ◌∙◌}
use Rattle.psg_terms.specs.Shapes.{term_of}
use Rattle.psg_wanted.proofs.TextLaws.{con_not}
use Rattle.psg_wanted.proofs.texts.is_variable.Goals as goal

pub returns-in-Con : goal.returns-in-Con
returns-in-Con c = con_not c.in-Con.con.0 c.in-Con.args c.args.term.now (ap term_of (sym c.in-Con.is) ∙ c.node.ensures)
