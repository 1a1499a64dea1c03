use Rattle.std.proofs.Common.{◌==◌, length, sym, ap, ◌∙◌, true≢false}
use Rattle.psg_terms.specs.Shapes.{term_of}
use Rattle.psg_specimen.proofs.CaseLaws.{constant_made, other_made}
use Rattle.psg_specimen.proofs.cases.is_constant.Goals as goal

pub returns-then-made-con : goal.returns-then-made-con
returns-then-made-con c = (
  λ h. absurd (true≢false (sym h)),
  λ e. absurd (other_made c.args.term.now c.in-Con.made.0 c.in-Con.args c.args.con.0 (sym c.node.ensures ∙ ap term_of c.in-Con.is) c.if-made-con.true e),
)

pub returns-else-made-con : goal.returns-else-made-con
returns-else-made-con c =
    constant_made c.args.term.now c.in-Con.made.0 c.in-Con.args c.args.con.0 c.is_empty.result (sym c.node.ensures ∙ ap term_of c.in-Con.is) c.if-made-con.false
    (c.is_empty.ensures ∙ ap (λ l. length l == 0) c.as_slice.ensures)
