use Rattle.std.proofs.Common.{sym, ap, subst, ◌∙◌, arith}
use Rattle.psg_terms.specs.Terms.{symbol, applied}
use Rattle.psg_terms.specs.Shapes.{term_of}
use Rattle.psg_terms.specs.Sizes.{size, sizes}
use Rattle.psg_terms.specs.Matching.{lookup}
use Rattle.psg_terms.proofs.Nodes.{size-con}
use Rattle.psg_terms.proofs.Weights.{sizes-at}
use Rattle.psg_terms.proofs.Fitting.{at_bound, at_free, at_other, at_variable, at_same, lengths_differ, matched_none, matched_more, unmatched_at, matched_all, Answers}
use Rattle.psg_terms.proofs.matching.+fits.Goals as goal

pub fits-returns-then-con-other : goal.fits-returns-then-con-other
fits-returns-then-con-other t c =
    at_other (lookup c.args.table.now) c.args.general.now c.args.special.now c.in-Con.con.0 c.in-Con-node.other.0 c.in-Con.args c.in-Con-node.parts
    (sym c.node.ensures ∙ ap term_of c.in-Con.is) (sym c.node-in-Con.ensures ∙ ap term_of c.in-Con-node.is) (c.if-con-other.true)

pub fits-fit-requires : goal.fits-fit-requires
fits-fit-requires t c =
    let s = size-con c.args.general.now c.in-Con.con.0 c.in-Con.args (sym c.node.ensures ∙ ap term_of c.in-Con.is) in
    let d = ap sizes c.as_slice.ensures in
    (omega arith, tt)

pub fits-returns-in_ok-equal-in-Some : goal.fits-returns-in_ok-equal-in-Some
fits-returns-in_ok-equal-in-Some t c =
    at_bound (lookup c.args.table.now) c.in-Var.sort.0 c.in-Var.number c.in-Some.term.now c.args.general.now c.args.special.now c.in_ok-equal-in-Some.equal
    (sym c.in-Some.ensures) (sym c.node.ensures ∙ ap term_of c.in-Var.is) c.in_ok-equal-in-Some.ensures

pub fits-returns-in_ok-bind-in-None : goal.fits-returns-in_ok-bind-in-None
fits-returns-in_ok-bind-in-None t c =
    at_free (lookup c.args.table.now) (lookup c.bind.new.table) c.in-Var.sort.0 c.in-Var.number c.in_ok-term-in-None.term c.args.general.now c.args.special.now
    (sym c.in-None.ensures) (sym c.node.ensures ∙ ap term_of c.in-Var.is) c.in_ok-bind-in-None.ensures c.in_ok-term-in-None.ensures

pub fits-returns-in_ok-fitting-in-Con-node : goal.fits-returns-in_ok-fitting-in-Con-node
fits-returns-in_ok-fitting-in-Con-node t c =
    at_same (lookup c.args.table.now) (lookup c.fit.new.table) c.args.general.now c.args.special.now c.in-Con.con.0 c.in-Con.args c.in-Con-node.parts c.in_ok-fitting-in-Con-node.fitting
    (sym c.node.ensures ∙ ap term_of c.in-Con.is)
    (sym c.node-in-Con.ensures ∙ ap term_of c.in-Con-node.is ∙ ap (λ k. applied (symbol k) c.in-Con-node.parts) (sym c.if-con-other.false))
    (subst (λ xs. Answers c.in_ok-fitting-in-Con-node.fitting (lookup c.args.table.now) (lookup c.fit.new.table) xs c.in-Con-node.parts) c.as_slice.ensures
    (subst (λ ys. Answers c.in_ok-fitting-in-Con-node.fitting (lookup c.args.table.now) (lookup c.fit.new.table) c.as_slice.result.now ys) c.as_slice-in-Con-node.ensures c.in_ok-fitting-in-Con-node.ensures))

pub fits-returns-in-Var-node : goal.fits-returns-in-Var-node
fits-returns-in-Var-node t c =
    at_variable (lookup c.args.table.now) c.args.general.now c.args.special.now c.in-Con.con.0 c.in-Var-node.sort.0 c.in-Var-node.number c.in-Con.args
    (sym c.node.ensures ∙ ap term_of c.in-Con.is) (sym c.node-in-Con.ensures ∙ ap term_of c.in-Var-node.is)

pub fit-returns-then-general-special : goal.fit-returns-then-general-special
fit-returns-then-general-special t c = lengths_differ (lookup c.args.table.now) c.args.general.now c.args.special.now c.if-general-special.true

pub fit-loop-i-init : goal.fit-loop-i-init
fit-loop-i-init t c = (c.if-general-special.false, matched_none (lookup c.args.table.now))

pub fit-fits-requires : goal.fit-fits-requires
fit-fits-requires t c =
    let z = sizes-at c.args.general.now c.loop-i.i c.index-general-i.result c.loop-i-test.true in
    let r = ap size c.index-general-i.is in
    (omega arith, tt)

pub fit-returns-then-not-branch : goal.fit-returns-then-not-branch
fit-returns-then-not-branch t c =
    let l = c.loop-i.invariant.0 in
    unmatched_at (lookup c.args.table.now) (lookup c.loop-i.table) (lookup c.fits.new.table) c.args.general.now c.args.special.now c.loop-i.i c.index-general-i.result c.index-special-i.result c.in_ok-fits.field-0
    c.if-not-branch.true c.loop-i.invariant.1 c.in_ok-fits.ensures c.loop-i-test.true (omega arith) c.index-general-i.is c.index-special-i.is

pub fit-loop-i-preserved : goal.fit-loop-i-preserved
fit-loop-i-preserved t c =
    let l = c.loop-i.invariant.0 in (
      l,
      matched_more (lookup c.args.table.now) (lookup c.loop-i.table) (lookup c.fits.new.table) c.args.general.now c.args.special.now c.loop-i.i c.index-general-i.result c.index-special-i.result c.in_ok-fits.field-0
          c.if-not-branch.false c.loop-i.invariant.1 c.in_ok-fits.ensures c.loop-i-test.true (omega arith) c.index-general-i.is c.index-special-i.is,
    )

pub fit-returns : goal.fit-returns
fit-returns t c =
    matched_all (lookup c.args.table.now) (lookup c.loop-i.table) c.args.general.now c.args.special.now c.loop-i.i c.loop-i.invariant.1 c.loop-i.invariant.0 (omega arith)
