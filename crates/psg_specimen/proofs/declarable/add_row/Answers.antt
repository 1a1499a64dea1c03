use Rattle.std.proofs.Common.{ap, sym, ◌∙◌, arith, true≢false}
use Rattle.psg_terms.specs.Shapes.{term_of}
use Rattle.psg_specimen.specs.Given.{has_given}
use Rattle.psg_specimen.proofs.OverLaws.{over_other, over_variable}
use Rattle.psg_specimen.proofs.DeclarableLaws.{adds_none, adds_own, none_large, none_other}
use Rattle.psg_specimen.proofs.declarable.add_row.Goals as goal

pub returns-then-con-constructors : goal.returns-then-con-constructors
returns-then-con-constructors c =
    adds_none c.args.sig.now c.args.row.now (has_given c.args.set.now)
    (none_large c.args.sig.now c.args.row.now c.in-Con.con.0 c.in-Con.args (sym c.node.ensures ∙ ap term_of c.in-Con.is) (let e = c.constructors.ensures in let le = c.if-con-constructors.true in omega (arith, e, le)))

pub returns-else-branch : goal.returns-else-branch
returns-else-branch c =
    adds_none c.args.sig.now c.args.row.now (has_given c.args.set.now)
    (none_other c.args.sig.now c.args.row.now c.in-Con.con.0 c.in-Con.args (sym c.node.ensures ∙ ap term_of c.in-Con.is) (λ o. true≢false (sym (c.in_ok-is_over-in-Con.ensures.1 o) ∙ c.if-branch.false)))

pub returns-in_ok-insert-in-Con : goal.returns-in_ok-insert-in-Con
returns-in_ok-insert-in-Con c =
    adds_own c.args.sig.now c.args.row.now (has_given c.args.set.now) (has_given c.insert.new.self) c.in-Con.con.0 c.in-Con.args c.given_by-given.result (sym c.node.ensures ∙ ap term_of c.in-Con.is)
    (c.in_ok-is_over-in-Con.ensures.0 c.if-branch.true) (λ d made ne e o. over_other c.args.sig.now d made c.args.row.now.term c.in-Con.args e ne o)
    c.given_by-given.ensures c.in_ok-insert-in-Con.ensures.updates.0

pub returns-in-Var : goal.returns-in-Var
returns-in-Var c =
    adds_none c.args.sig.now c.args.row.now (has_given c.args.set.now)
    (λ d o. over_variable c.args.sig.now d c.in-Var.sort.0 c.in-Var.number c.args.row.now.term (sym c.node.ensures ∙ ap term_of c.in-Var.is) o)
