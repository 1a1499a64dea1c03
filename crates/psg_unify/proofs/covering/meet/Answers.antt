use Rattle.std.proofs.Common.{◌≡◌, ◌∷◌, true, false, ap, sym, ◌∙◌, subst, arith}
use Rattle.psg_terms.specs.Terms.{Term, variable, symbol, applied}
use Rattle.psg_terms.specs.Shapes.{term_of}
use Rattle.psg_terms.proofs.Nodes.{size-con}
use Rattle.psg_unify.specs.Covering.{facing, StaysFit, FitsNone}
use Rattle.psg_unify.proofs.covering.meet.Goals as goal

pub returns-in_ok-met-in-Var-clause-yes : goal.returns-in_ok-met-in-Var-clause-yes
returns-in_ok-met-in-Var-clause-yes c =
    let e : c.args.term.now ≡ variable c.in-Var.sort.0 c.in-Var.number = sym c.node.ensures ∙ ap term_of c.in-Var.is in
    subst (λ (t : Term). c.in_ok-met-in-Var.met ≡ true → StaysFit c.args.sig.now c.args.pool.now c.args.state.now (facing t c.args.cell ∷ c.args.state.now.left.items) c.meet_variable.new.state)
    (sym e) c.in_ok-met-in-Var.ensures.yes

pub returns-in_ok-met-in-Var-clause-no : goal.returns-in_ok-met-in-Var-clause-no
returns-in_ok-met-in-Var-clause-no c =
    let e : c.args.term.now ≡ variable c.in-Var.sort.0 c.in-Var.number = sym c.node.ensures ∙ ap term_of c.in-Var.is in
    subst (λ (t : Term). c.in_ok-met-in-Var.met ≡ false → FitsNone c.args.sig.now c.args.pool.now c.args.state.now (facing t c.args.cell ∷ c.args.state.now.left.items))
    (sym e) c.in_ok-met-in-Var.ensures.no

pub returns-in_ok-met-in-Con-clause-yes : goal.returns-in_ok-met-in-Con-clause-yes
returns-in_ok-met-in-Con-clause-yes c =
    let e : c.args.term.now ≡ applied (symbol c.in-Con.con.0) c.as_slice.result.now = sym c.node.ensures ∙ ap term_of c.in-Con.is ∙ ap (applied (symbol c.in-Con.con.0)) (sym c.as_slice.ensures) in
    subst (λ (t : Term). c.in_ok-met-in-Con.met ≡ true → StaysFit c.args.sig.now c.args.pool.now c.args.state.now (facing t c.args.cell ∷ c.args.state.now.left.items) c.meet_con.new.state)
    (sym e) c.in_ok-met-in-Con.ensures.yes

pub returns-in_ok-met-in-Con-clause-no : goal.returns-in_ok-met-in-Con-clause-no
returns-in_ok-met-in-Con-clause-no c =
    let e : c.args.term.now ≡ applied (symbol c.in-Con.con.0) c.as_slice.result.now = sym c.node.ensures ∙ ap term_of c.in-Con.is ∙ ap (applied (symbol c.in-Con.con.0)) (sym c.as_slice.ensures) in
    subst (λ (t : Term). c.in_ok-met-in-Con.met ≡ false → FitsNone c.args.sig.now c.args.pool.now c.args.state.now (facing t c.args.cell ∷ c.args.state.now.left.items))
    (sym e) c.in_ok-met-in-Con.ensures.no

pub returns-in_ok-met-in-Con-clause-less : goal.returns-in_ok-met-in-Con-clause-less
returns-in_ok-met-in-Con-clause-less c =
    let e : c.args.term.now ≡ applied (symbol c.in-Con.con.0) c.as_slice.result.now = sym c.node.ensures ∙ ap term_of c.in-Con.is ∙ ap (applied (symbol c.in-Con.con.0)) (sym c.as_slice.ensures) in
    let s = size-con c.args.term.now c.in-Con.con.0 c.as_slice.result.now e in
    omega (arith, s, c.in_ok-met-in-Con.ensures.less)
