use Rattle.std.proofs.Common.{ap, sym, ◌∙◌, true≢false}
use Rattle.psg_terms.specs.Shapes.{term_of}
use Rattle.psg_specimen.proofs.InstanceLaws.{other_constructor, other_variable, unequal}
use Rattle.psg_specimen.proofs.instances.begin_apart.Goals as goal

pub returns-in-Con-node : goal.returns-in-Con-node
returns-in-Con-node c = λ h i. other_constructor c.args.special.now c.args.general.now c.in-Con.con.0 c.in-Con-node.other.0 c.in-Con.args c.in-Con-node.args
    (sym c.node.ensures ∙ ap term_of c.in-Con.is) (sym c.node-in-Con.ensures ∙ ap term_of c.in-Con-node.is) (unequal c.in-Con.con.0 c.in-Con-node.other.0 h) i

pub returns-in-Var-node : goal.returns-in-Var-node
returns-in-Var-node c = λ h i. other_variable c.args.special.now c.args.general.now c.in-Con.con.0 c.in-Var-node.sort.0 c.in-Var-node.number c.in-Con.args
    (sym c.node.ensures ∙ ap term_of c.in-Con.is) (sym c.node-in-Con.ensures ∙ ap term_of c.in-Var-node.is) i

pub returns-in-Var : goal.returns-in-Var
returns-in-Var c = λ h i. absurd (true≢false (sym h))
