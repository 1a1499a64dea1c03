use Rattle.std.proofs.Common.{◌∙◌, sym, ap}
use Rattle.psg_terms.specs.Shapes.{term_of}
use Rattle.psg_explain.proofs.ApplyingLaws.{clash_says, says_clash, nat_differ, nat_not}
use Rattle.psg_explain.proofs.applying.is_clash.Goals as goal

pub returns-in-Con-node : goal.returns-in-Con-node
returns-in-Con-node c =
    let left = sym c.node.ensures ∙ ap term_of c.in-Con.is in
    let right = sym c.node-in-Con.ensures ∙ ap term_of c.in-Con-node.is in (
      (λ h. says_clash c.args.equation.now c.in-Con.con.0 c.in-Con-node.other.0 c.in-Con.args c.in-Con-node.args left right (nat_differ c.in-Con.con.0 c.in-Con-node.other.0 h)),
      (λ h. nat_not c.in-Con.con.0 c.in-Con-node.other.0 (clash_says c.args.equation.now c.in-Con.con.0 c.in-Con-node.other.0 c.in-Con.args c.in-Con-node.args left right h)),
    )
