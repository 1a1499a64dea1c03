use Rattle.std.proofs.Common.{sym, ap, ap₂, subst, ◌∙◌, arith}
use Rattle.psg_terms.specs.Shapes.{term_of}
use Rattle.psg_terms.specs.Sizes.{size, sizes}
use Rattle.psg_terms.proofs.Nodes.{size-con}
use Rattle.psg_terms.proofs.Weights.{sizes-at}
use Rattle.psg_explain.specs.Verdicts.{AreMade}
use Rattle.psg_explain.proofs.UnderLaws.{con_made, con_same, con_unmade, made_at, made_next, told, unmade}
use Rattle.psg_explain.proofs.applying.+under.Goals as goal

pub are_under-is_under-requires : goal.are_under-is_under-requires
are_under-is_under-requires t c =
    let z = sizes-at c.args.general.now c.loop-i.i c.index-general-i.result c.loop-i-test.true in
    let r = ap size c.index-general-i.is in
    (omega arith, tt)

pub are_under-returns-then-not-met : goal.are_under-returns-then-not-met
are_under-returns-then-not-met t c =
    unmade (λ h. told c.if-not-met.true (c.in_ok-met.ensures.1 (made_at c.args.values.now c.args.general.now c.args.special.now c.loop-i.i c.index-general-i.result c.index-special-i.result
    c.loop-i-test.true (omega (arith, c.loop-i-test.true, c.if-general-special.false)) c.index-general-i.is c.index-special-i.is h)))

pub are_under-loop-i-preserved : goal.are_under-loop-i-preserved
are_under-loop-i-preserved t c =
    made_next c.args.values.now c.args.general.now c.args.special.now c.loop-i.i c.index-general-i.result c.index-special-i.result
    c.loop-i-test.true (omega (arith, c.loop-i-test.true, c.if-general-special.false)) c.index-general-i.is c.index-special-i.is c.loop-i.invariant (c.in_ok-met.ensures.0 c.if-not-met.false)

pub is_under-returns-then-con-other : goal.is_under-returns-then-con-other
is_under-returns-then-con-other t c =
    unmade (λ h. c.if-con-other.true (con_same c.args.values.now c.args.general.now c.args.special.now c.in-Con.con.0 c.in-Con-node.other.0 c.in-Con.args c.in-Con-node.parts
    (sym c.node.ensures ∙ ap term_of c.in-Con.is) (sym c.node-in-Con.ensures ∙ ap term_of c.in-Con-node.is) h))

pub is_under-are_under-requires : goal.is_under-are_under-requires
is_under-are_under-requires t c =
    let s = size-con c.args.general.now c.in-Con.con.0 c.in-Con.args (sym c.node.ensures ∙ ap term_of c.in-Con.is) in
    let d = ap sizes c.as_slice.ensures in
    (omega arith, tt)

pub is_under-returns-in_ok-met-in-Con-node : goal.is_under-returns-in_ok-met-in-Con-node
is_under-returns-in_ok-met-in-Con-node t c =
    let (on, back) = con_made c.args.values.now c.args.general.now c.args.special.now c.in-Con.con.0 c.in-Con-node.other.0 c.in-Con.args c.in-Con-node.parts
    (sym c.node.ensures ∙ ap term_of c.in-Con.is) (sym c.node-in-Con.ensures ∙ ap term_of c.in-Con-node.is) c.if-con-other.false in
    let same = ap₂ (AreMade c.args.values.now) c.as_slice.ensures c.as_slice-in-Con-node.ensures in
    let (says, of) = c.in_ok-met-in-Con-node.ensures in
    ((λ h. on (subst (λ P. P) same (says h))), (λ h. of (subst (λ P. P) (sym same) (back h))))

pub is_under-returns-in-Var-node : goal.is_under-returns-in-Var-node
is_under-returns-in-Var-node t c =
    unmade (con_unmade c.args.values.now c.args.general.now c.args.special.now c.in-Con.con.0 c.in-Con.args c.in-Var-node.sort.0 c.in-Var-node.number
    (sym c.node.ensures ∙ ap term_of c.in-Con.is) (sym c.node-in-Con.ensures ∙ ap term_of c.in-Var-node.is))
