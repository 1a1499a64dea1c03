use Rattle.std.proofs.Common.{sym, ap, subst, ◌∙◌, arith}
use Rattle.psg_terms.specs.Shapes.{term_of}
use Rattle.psg_terms.specs.Sizes.{size, sizes}
use Rattle.psg_terms.specs.Renaming.{GoesOn}
use Rattle.psg_terms.proofs.Nodes.{size-con}
use Rattle.psg_terms.proofs.Weights.{sizes-at}
use Rattle.psg_terms.proofs.Recognising.{goes_on_closed, goes_on_con, goes_on_step}
use Rattle.psg_terms.proofs.canonical.+recognise.Goals as goal

pub is_numbered-returns-then-above-eq0 : goal.is_numbered-returns-then-above-eq0
is_numbered-returns-then-above-eq0 t c = λ _. goes_on_closed c.args.sig.now c.args.known.now.items c.args.term.now (sym c.above.ensures ∙ c.if-above-eq0.true)

pub is_numbered-are_numbered-requires : goal.is_numbered-are_numbered-requires
is_numbered-are_numbered-requires t c =
    let s = size-con c.args.term.now c.in-Con.con.0 c.in-Con.args (sym c.node.ensures ∙ ap term_of c.in-Con.is) in
    let d = ap sizes c.as_slice.ensures in
    (omega arith, tt)

pub is_numbered-returns-in_ok-all-in-Con : goal.is_numbered-returns-in_ok-all-in-Con
is_numbered-returns-in_ok-all-in-Con t c = λ h.
    goes_on_con c.args.sig.now c.args.known.now.items c.are_numbered.new.known.items c.in-Con.con.0 c.in-Con.args c.args.term.now
    (sym c.node.ensures ∙ ap term_of c.in-Con.is)
    (subst (GoesOn c.args.sig.now c.args.known.now.items c.are_numbered.new.known.items) c.as_slice.ensures (c.in_ok-all-in-Con.ensures h))

pub are_numbered-is_numbered-requires : goal.are_numbered-is_numbered-requires
are_numbered-is_numbered-requires t c =
    let z = sizes-at c.args.row.now c.loop-i.i c.index-row-i.result c.loop-i-test.true in
    let r = ap size c.index-row-i.is in
    (omega arith, tt)

pub are_numbered-loop-i-preserved : goal.are_numbered-loop-i-preserved
are_numbered-loop-i-preserved t c =
    goes_on_step c.args.sig.now c.args.known.now.items c.loop-i.known.items c.is_numbered.new.known.items c.args.row.now c.loop-i.i c.index-row-i.result
    c.loop-i.invariant (c.in_ok-is_numbered.ensures c.if-not-branch.false) c.loop-i-test.true c.index-row-i.is
