use Rattle.std.proofs.Common.{sym, ap, subst, ◌≡◌, ◌∙◌, map, arith}
use Rattle.psg_terms.specs.Shapes.{term_of}
use Rattle.psg_terms.specs.Sizes.{size, sizes}
use Rattle.psg_terms.specs.Instances.{substitute}
use Rattle.psg_terms.proofs.Nodes.{size-con}
use Rattle.psg_terms.proofs.Recognising.{substitute-closed}
use Rattle.psg_terms.proofs.Weights.{sizes-at}
use Rattle.psg_relation.specs.Forcing.{by_forced}
use Rattle.psg_relation.proofs.Filling.{filled_con, filled_step}
use Rattle.psg_relation.proofs.forcing.+fill.Goals as goal

pub fill-returns-then-above-eq0 : goal.fill-returns-then-above-eq0
fill-returns-then-above-eq0 t c = c.in_ok-copy.ensures ∙ sym (substitute-closed (by_forced c.args.forced.now) c.args.term.now (sym c.above.ensures ∙ c.if-above-eq0.true))

pub fill-forced_term-requires : goal.fill-forced_term-requires
fill-forced_term-requires t c = sym c.node.ensures ∙ ap term_of c.in-Var.is

pub fill-returns-in_ok-copy-in-Var : goal.fill-returns-in_ok-copy-in-Var
fill-returns-in_ok-copy-in-Var t c = c.in_ok-copy-in-Var.ensures ∙ sym (ap (substitute (by_forced c.args.forced.now)) (sym c.node.ensures ∙ ap term_of c.in-Var.is))

pub fill-fill_all-requires : goal.fill-fill_all-requires
fill-fill_all-requires t c =
    let s = size-con c.args.term.now c.in-Con.con.0 c.in-Con.args (sym c.node.ensures ∙ ap term_of c.in-Con.is) in
    let d = ap sizes c.as_slice.ensures in
    (omega arith, tt)

pub fill-returns-in_ok-copy-in-Con : goal.fill-returns-in_ok-copy-in-Con
fill-returns-in_ok-copy-in-Con t c =
    filled_con (by_forced c.args.forced.now) c.in-Con.con.0 c.in-Con.args c.in_ok-parts-in-Con.parts.items c.args.term.now c.in_ok-copy-in-Con.copy
    (sym c.node.ensures ∙ ap term_of c.in-Con.is)
    c.in_ok-copy-in-Con.ensures
    (subst (λ xs. c.in_ok-parts-in-Con.parts.items ≡ map (substitute (by_forced c.args.forced.now)) xs) c.as_slice.ensures c.in_ok-parts-in-Con.ensures)

pub fill_all-fill-requires : goal.fill_all-fill-requires
fill_all-fill-requires t c =
    let z = sizes-at c.args.row.now c.loop-i.i c.index-row-i.result c.loop-i-test.true in
    let r = ap size c.index-row-i.is in
    (omega arith, tt)

pub fill_all-loop-i-preserved : goal.fill_all-loop-i-preserved
fill_all-loop-i-preserved t c =
    filled_step (by_forced c.args.forced.now) c.args.row.now c.loop-i.copies.items c.push.new.self.items c.loop-i.i c.index-row-i.result c.in_ok-copy.copy
    c.loop-i.invariant c.in_ok-copy.ensures c.in_ok-push.ensures.items c.loop-i-test.true c.index-row-i.is
