use Rattle.std.proofs.Common.{◌≡◌, map, sym, ap, ◌∙◌, arith, true≢false}
use Rattle.psg_terms.specs.Terms.{symbol, applied}
use Rattle.psg_terms.specs.Shapes.{term_of}
use Rattle.psg_terms.specs.Sizes.{size, sizes}
use Rattle.psg_terms.specs.Instances.{substitute}
use Rattle.psg_terms.proofs.Nodes.{size-con}
use Rattle.psg_terms.proofs.Weights.{sizes-at}
use Rattle.psg_covering.proofs.CoverLaws.{arguments_made, length_made, other_constructor, other_variable, value_at}
use Rattle.psg_covering.proofs.covers.+differs.Goals as goal

pub differs-any_differs-requires : goal.differs-any_differs-requires
differs-any_differs-requires t c =
    let a : c.args.general.now ≡ applied (symbol c.in-Con.con.0) c.in-Con.args = sym c.node.ensures ∙ ap term_of c.in-Con.is in
    let s = size-con c.args.general.now c.in-Con.con.0 c.in-Con.args a in
    let d = ap sizes c.as_slice-in-Con-node.ensures in
    (omega arith, tt)

pub any_differs-differs-requires : goal.any_differs-differs-requires
any_differs-differs-requires t c =
    let z = sizes-at c.args.general.now c.loop-i.i c.index-general-i.result (omega (arith, c.loop-i-test.true, c.if-special-general.false)) in
    let r = ap size c.index-general-i.is in
    (omega arith, tt)

pub differs-returns-then-con-other : goal.differs-returns-then-con-other
differs-returns-then-con-other t c = λ h f is. other_constructor c.args.special.now c.args.general.now c.in-Con.con.0 c.in-Con-node.other.0 c.in-Con.args c.in-Con-node.parts
    (sym c.node.ensures ∙ ap term_of c.in-Con.is) (sym c.node-in-Con.ensures ∙ ap term_of c.in-Con-node.is) c.if-con-other.true f is

pub differs-returns-else-con-other : goal.differs-returns-else-con-other
differs-returns-else-con-other t c = λ h f is. c.any_differs.ensures h f
    (c.as_slice.ensures ∙ arguments_made c.args.special.now c.args.general.now c.in-Con.con.0 c.in-Con-node.other.0 c.in-Con.args c.in-Con-node.parts
    (sym c.node.ensures ∙ ap term_of c.in-Con.is) (sym c.node-in-Con.ensures ∙ ap term_of c.in-Con-node.is) f is ∙ ap (map (substitute f)) (sym c.as_slice-in-Con-node.ensures))

pub differs-returns-in-Var-node : goal.differs-returns-in-Var-node
differs-returns-in-Var-node t c = λ h f is. other_variable c.args.special.now c.args.general.now c.in-Con.con.0 c.in-Var-node.sort.0 c.in-Var-node.number c.in-Con.args
    (sym c.node.ensures ∙ ap term_of c.in-Con.is) (sym c.node-in-Con.ensures ∙ ap term_of c.in-Var-node.is) f is

pub differs-returns-in-Var : goal.differs-returns-in-Var
differs-returns-in-Var t c = λ h. absurd (true≢false (sym h))

pub any_differs-returns-then-special-general : goal.any_differs-returns-then-special-general
any_differs-returns-then-special-general t c = λ h f is. length_made c.args.special.now c.args.general.now f is c.if-special-general.true

pub any_differs-returns-then-differs : goal.any_differs-returns-then-differs
any_differs-returns-then-differs t c = λ h f is. c.differs.ensures c.if-differs.true f
    (value_at c.args.special.now c.args.general.now f is c.loop-i.i c.index-special-i.result c.index-general-i.result c.loop-i-test.true c.index-special-i.is c.index-general-i.is)

pub any_differs-returns : goal.any_differs-returns
any_differs-returns t c = λ h. absurd (true≢false (sym h))
