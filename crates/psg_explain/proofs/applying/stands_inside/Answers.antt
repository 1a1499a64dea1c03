use Rattle.std.proofs.Common.{sym, ap, ◌∙◌}
use Rattle.psg_terms.specs.Canonical.{Variable}
use Rattle.psg_terms.specs.Shapes.{term_of}
use Rattle.psg_explain.proofs.ApplyingLaws.{noted_inside, stands_con}
use Rattle.psg_explain.proofs.applying.stands_inside.Goals as goal

pub returns-in-Con : goal.returns-in-Con
returns-in-Con c =
    let x : Variable = (c.in-Some.variable.sort.0, c.in-Some.variable.number) in (
      (λ h. (x, c.in-Some.ensures, stands_con x c.args.other.now c.in-Con.con.0 c.in-Con.args (sym c.node.ensures ∙ ap term_of c.in-Con.is) (sym c.occurs.ensures ∙ h))),
      (λ (y, is, inside). c.occurs.ensures ∙ noted_inside x y c.args.one.now c.args.other.now c.in-Some.ensures is inside),
    )
