use Rattle.std.proofs.Common.{false, sym, ap, ap₂, subst, ◌∙◌, arith}
use Rattle.psg_terms.specs.Shapes.{term_of}
use Rattle.psg_terms.specs.Sizes.{size, sizes}
use Rattle.psg_terms.proofs.Nodes.{size-con}
use Rattle.psg_terms.proofs.Weights.{sizes-at}
use Rattle.psg_explain.proofs.FitLaws.{FitsAll, fit_end, fit_lengths, fit_next, fit_start, fits_con, fits_variable, no_fit_other, no_fit_variable}
use Rattle.psg_explain.proofs.UnderLaws.{told}
use Rattle.psg_explain.proofs.fitting.+fits.Goals as goal

pub fit_all-fit-requires : goal.fit_all-fit-requires
fit_all-fit-requires t c =
    let z = sizes-at c.args.general.now c.loop-i.i c.index-general-i.result c.loop-i-test.true in
    let r = ap size c.index-general-i.is in
    (omega arith, tt)

pub fit-fit_all-requires : goal.fit-fit_all-requires
fit-fit_all-requires t c =
    let s = size-con c.args.general.now c.in-Con.con.0 c.in-Con.args (sym c.node.ensures ∙ ap term_of c.in-Con.is) in
    let d = ap sizes c.as_slice.ensures in
    (omega arith, tt)

pub fit_all-loop-i-init : goal.fit_all-loop-i-init
fit_all-loop-i-init t c = fit_start c.args.general.now c.args.special.now c.args.values.now.items

pub fit_all-loop-i-preserved : goal.fit_all-loop-i-preserved
fit_all-loop-i-preserved t c = λ f known v k is.
    (fit_next c.args.general.now c.args.special.now c.args.values.now.items c.loop-i.values.items c.fit.new.values.items c.in_ok-met.met c.loop-i.i c.index-general-i.result c.index-special-i.result
    c.loop-i-test.true (omega (arith, c.loop-i-test.true, c.if-general-special.false)) c.index-general-i.is c.index-special-i.is c.loop-i.invariant c.in_ok-met.ensures f known v k is).1

pub fit_all-returns-then-not-met : goal.fit_all-returns-then-not-met
fit_all-returns-then-not-met t c = λ f known v k is.
    absurd (told c.if-not-met.true (fit_next c.args.general.now c.args.special.now c.args.values.now.items c.loop-i.values.items c.fit.new.values.items c.in_ok-met.met c.loop-i.i c.index-general-i.result c.index-special-i.result
    c.loop-i-test.true (omega (arith, c.loop-i-test.true, c.if-general-special.false)) c.index-general-i.is c.index-special-i.is c.loop-i.invariant c.in_ok-met.ensures f known v k is).0)

pub fit_all-returns-then-general-special : goal.fit_all-returns-then-general-special
fit_all-returns-then-general-special t c = λ f known v k is. absurd (c.if-general-special.true (fit_lengths c.args.general.now c.args.special.now f is))

pub fit_all-returns : goal.fit_all-returns
fit_all-returns t c = fit_end c.args.general.now c.args.special.now c.args.values.now.items c.loop-i.values.items c.loop-i.i (omega arith) c.loop-i.invariant

pub fit-returns-in_ok-met-in-Var : goal.fit-returns-in_ok-met-in-Var
fit-returns-in_ok-met-in-Var t c =
    fits_variable c.args.values.now.items c.fit_variable.new.values.items c.in_ok-met-in-Var.met c.args.general.now c.args.special.now c.in-Var.sort.0 c.in-Var.number (sym c.node.ensures ∙ ap term_of c.in-Var.is)
    c.in_ok-met-in-Var.ensures

pub fit-returns-then-con-other : goal.fit-returns-then-con-other
fit-returns-then-con-other t c =
    no_fit_other c.args.values.now.items c.args.values.now.items false c.args.general.now c.args.special.now c.in-Con.con.0 c.in-Con.args (sym c.node.ensures ∙ ap term_of c.in-Con.is)
    c.in-Con-node.other.0 c.in-Con-node.parts (sym c.node-in-Con.ensures ∙ ap term_of c.in-Con-node.is) c.if-con-other.true

pub fit-returns-in_ok-met-in-Con-node : goal.fit-returns-in_ok-met-in-Con-node
fit-returns-in_ok-met-in-Con-node t c =
    let same = ap₂ (FitsAll c.args.values.now.items c.fit_all.new.values.items c.in_ok-met-in-Con-node.met) c.as_slice.ensures c.as_slice-in-Con-node.ensures in
    fits_con c.args.values.now.items c.fit_all.new.values.items c.in_ok-met-in-Con-node.met c.args.general.now c.args.special.now c.in-Con.con.0 c.in-Con.args (sym c.node.ensures ∙ ap term_of c.in-Con.is)
    c.in-Con-node.other.0 c.in-Con-node.parts (sym c.node-in-Con.ensures ∙ ap term_of c.in-Con-node.is) (subst (λ P. P) same c.in_ok-met-in-Con-node.ensures)

pub fit-returns-in-Var-node : goal.fit-returns-in-Var-node
fit-returns-in-Var-node t c =
    no_fit_variable c.args.values.now.items c.args.values.now.items false c.args.general.now c.args.special.now c.in-Con.con.0 c.in-Con.args (sym c.node.ensures ∙ ap term_of c.in-Con.is)
    c.in-Var-node.sort.0 c.in-Var-node.number (sym c.node-in-Con.ensures ∙ ap term_of c.in-Var-node.is)
