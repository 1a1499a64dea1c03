use Rattle.std.proofs.Common.{map, sym, ap, ◌∙◌, arith}
use Rattle.psg_terms.specs.Shapes.{term_of}
use Rattle.psg_terms.specs.Sizes.{size, sizes}
use Rattle.psg_terms.specs.Instances.{substitute}
use Rattle.psg_terms.proofs.Nodes.{size-con}
use Rattle.psg_terms.proofs.Weights.{sizes-at}
use Rattle.psg_explain.specs.Equations.{put_for}
use Rattle.psg_explain.proofs.PuttingLaws.{made_con, made_step, put-beyond}
use Rattle.psg_explain.proofs.putting.+put.Goals as goal

pub put-returns-then-above-variable : goal.put-returns-then-above-variable
put-returns-then-above-variable t c =
    let e = c.above.ensures in
    let le = c.if-above-variable.true in
    c.in_ok-copy.ensures ∙ sym (put-beyond (c.args.variable.sort.0, c.args.variable.number) c.args.by.now c.args.term.now (omega (arith, e, le)))

pub put-put_all-requires : goal.put-put_all-requires
put-put_all-requires t c =
    let s = size-con c.args.term.now c.in-Con.con.0 c.in-Con.args (sym c.node.ensures ∙ ap term_of c.in-Con.is) in
    let d = ap sizes c.as_slice.ensures in
    (omega arith, tt)

pub put-returns-in_ok-copy-in-Con : goal.put-returns-in_ok-copy-in-Con
put-returns-in_ok-copy-in-Con t c =
    made_con (put_for (c.args.variable.sort.0, c.args.variable.number) c.args.by.now) c.in-Con.con.0 c.in-Con.args c.in_ok-parts-in-Con.parts.items c.args.term.now c.in_ok-copy-in-Con.copy
    (sym c.node.ensures ∙ ap term_of c.in-Con.is) c.in_ok-copy-in-Con.ensures
    (c.in_ok-parts-in-Con.ensures ∙ ap (map (substitute (put_for (c.args.variable.sort.0, c.args.variable.number) c.args.by.now))) c.as_slice.ensures)

pub put_all-put-requires : goal.put_all-put-requires
put_all-put-requires t c =
    let z = sizes-at c.args.row.now c.loop-i.i c.index-row-i.result c.loop-i-test.true in
    let r = ap size c.index-row-i.is in
    (omega arith, tt)

pub put_all-loop-i-preserved : goal.put_all-loop-i-preserved
put_all-loop-i-preserved t c =
    made_step (put_for (c.args.variable.sort.0, c.args.variable.number) c.args.by.now) c.args.row.now c.loop-i.copies.items c.push.new.self.items c.loop-i.i c.index-row-i.result c.in_ok-copy.copy
    c.loop-i.invariant c.in_ok-copy.ensures c.in_ok-push.ensures.items c.loop-i-test.true c.index-row-i.is
