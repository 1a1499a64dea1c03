use Rattle.std.proofs.Common.{sym, ap, ◌∙◌, arith}
use Rattle.std.proofs.lemmas.List.{take_all}
use Rattle.psg_terms.specs.Shapes.{term_of}
use Rattle.psg_terms.specs.Sizes.{size, sizes}
use Rattle.psg_terms.specs.Canonical.{is_noted, variables_of}
use Rattle.psg_terms.proofs.Nodes.{size-con}
use Rattle.psg_terms.proofs.Weights.{sizes-at}
use Rattle.psg_explain.proofs.PuttingLaws.{beyond, occurs_at, occurs_con, occurs_next}
use Rattle.psg_explain.proofs.putting.+occurs.Goals as goal

pub occurs-returns-then-above-variable : goal.occurs-returns-then-above-variable
occurs-returns-then-above-variable t c =
    let e = c.above.ensures in
    let le = c.if-above-variable.true in
    sym (beyond (c.args.variable.sort.0, c.args.variable.number) c.args.term.now (omega (arith, e, le)))

pub occurs-occurs_among-requires : goal.occurs-occurs_among-requires
occurs-occurs_among-requires t c =
    let s = size-con c.args.term.now c.in-Con.con.0 c.in-Con.args (sym c.node.ensures ∙ ap term_of c.in-Con.is) in
    let d = ap sizes c.as_slice.ensures in
    (omega arith, tt)

pub occurs-returns-in-Con : goal.occurs-returns-in-Con
occurs-returns-in-Con t c =
    c.occurs_among.ensures ∙ ap (λ l. is_noted (c.args.variable.sort.0, c.args.variable.number) (variables_of l)) c.as_slice.ensures
    ∙ occurs_con (c.args.variable.sort.0, c.args.variable.number) c.in-Con.con.0 c.in-Con.args c.args.term.now (sym c.node.ensures ∙ ap term_of c.in-Con.is)

pub occurs_among-occurs-requires : goal.occurs_among-occurs-requires
occurs_among-occurs-requires t c =
    let z = sizes-at c.args.row.now c.loop-i.i c.index-row-i.result c.loop-i-test.true in
    let r = ap size c.index-row-i.is in
    (omega arith, tt)

pub occurs_among-returns-then-occurs : goal.occurs_among-returns-then-occurs
occurs_among-returns-then-occurs t c =
    sym (occurs_at (c.args.variable.sort.0, c.args.variable.number) c.args.row.now c.loop-i.i c.index-row-i.result c.loop-i-test.true c.index-row-i.is (sym c.occurs.ensures ∙ c.if-occurs.true))

pub occurs_among-loop-i-preserved : goal.occurs_among-loop-i-preserved
occurs_among-loop-i-preserved t c =
    occurs_next (c.args.variable.sort.0, c.args.variable.number) c.args.row.now c.loop-i.i c.index-row-i.result c.loop-i-test.true c.index-row-i.is c.loop-i.invariant (sym c.occurs.ensures ∙ c.if-occurs.false)

pub occurs_among-returns : goal.occurs_among-returns
occurs_among-returns t c =
    sym (ap (λ l. is_noted (c.args.variable.sort.0, c.args.variable.number) (variables_of l)) (sym (take_all c.loop-i.i c.args.row.now (omega arith))) ∙ c.loop-i.invariant)
