use Rattle.std.proofs.Common.{◌+◌, sym, ap, subst, ◌∙◌, arith}
use Rattle.psg_terms.specs.Shapes.{term_of}
use Rattle.psg_terms.specs.Sizes.{size, sizes}
use Rattle.psg_terms.specs.Renaming.{Renumbered}
use Rattle.psg_terms.proofs.Nodes.{size-con}
use Rattle.psg_terms.proofs.Weights.{sizes-at}
use Rattle.psg_terms.proofs.RenamingLaws.{renumbered_con, renumbered_open, renumbered_step}
use Rattle.psg_terms.proofs.Recognising.{renumbered_closed}
use Rattle.psg_terms.proofs.canonical.+renumber.Goals as goal

pub renumber-returns-then-above-eq0 : goal.renumber-returns-then-above-eq0
renumber-returns-then-above-eq0 t c =
    renumbered_closed c.args.sig.now 0 c.args.known.now c.args.term.now c.in_ok-copy.copy (sym c.above.ensures ∙ c.if-above-eq0.true) c.in_ok-copy.ensures

pub renumber-renumber_all-requires : goal.renumber-renumber_all-requires
renumber-renumber_all-requires t c =
    let s = size-con c.args.term.now c.in-Con.con.0 c.in-Con.args (sym c.node.ensures ∙ ap term_of c.in-Con.is) in
    let d = ap sizes c.as_slice.ensures in
    (omega arith, tt)

pub renumber-returns-in_ok-copy-in-Con : goal.renumber-returns-in_ok-copy-in-Con
renumber-returns-in_ok-copy-in-Con t c =
    renumbered_con c.args.sig.now 0 c.args.known.now c.renumber_all.new.known c.in-Con.con.0 c.in-Con.args c.in_ok-parts-in-Con.parts.items c.args.term.now c.in_ok-copy-in-Con.copy
    (sym c.node.ensures ∙ ap term_of c.in-Con.is)
    c.in_ok-copy-in-Con.ensures
    (subst (λ xs. Renumbered c.args.sig.now 0 c.args.known.now c.renumber_all.new.known xs c.in_ok-parts-in-Con.parts.items) c.as_slice.ensures c.in_ok-parts-in-Con.ensures)

pub renumber-with_number-requires : goal.renumber-with_number-requires
renumber-with_number-requires t c = sym c.node.ensures ∙ ap term_of c.in-Var.is

pub renumber-returns-in_ok-copy-in-None : goal.renumber-returns-in_ok-copy-in-None
renumber-returns-in_ok-copy-in-None t c =
    renumbered_open c.args.sig.now 0 c.args.known.now c.note.new.self c.in-Var.sort.0 c.in-Var.number c.in_ok-fresh-in-None.fresh c.args.term.now c.in_ok-copy-in-None.copy
    (sym c.in-None.ensures) (sym c.node.ensures ∙ ap term_of c.in-Var.is) c.in_ok-copy-in-None.ensures c.in_ok-place-in-None.ensures.noted
    (c.in_ok-fresh-in-None.ensures.number ∙ ap (λ k. 0 + k + 1) c.in_ok-place-in-None.ensures.place)

pub renumber_all-renumber-requires : goal.renumber_all-renumber-requires
renumber_all-renumber-requires t c =
    let z = sizes-at c.args.row.now c.loop-i.i c.index-row-i.result c.loop-i-test.true in
    let r = ap size c.index-row-i.is in
    (omega arith, tt)

pub renumber_all-loop-i-preserved : goal.renumber_all-loop-i-preserved
renumber_all-loop-i-preserved t c =
    renumbered_step c.args.sig.now 0 c.args.known.now c.loop-i.known c.renumber.new.known c.args.row.now c.loop-i.copies.items c.push.new.self.items c.loop-i.i c.index-row-i.result c.in_ok-copy.copy
    c.loop-i.invariant c.in_ok-copy.ensures c.in_ok-push.ensures.items c.loop-i-test.true c.index-row-i.is
