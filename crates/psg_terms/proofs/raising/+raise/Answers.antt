use Rattle.std.proofs.Common.{sym, ap, subst, ◌≡◌, ◌∙◌, map, arith}
use Rattle.psg_terms.specs.Shapes.{term_of}
use Rattle.psg_terms.specs.Sizes.{size, sizes}
use Rattle.psg_terms.specs.Instances.{substitute}
use Rattle.psg_terms.specs.Renaming.{raised}
use Rattle.psg_terms.proofs.Nodes.{size-con}
use Rattle.psg_terms.proofs.Weights.{sizes-at}
use Rattle.psg_terms.proofs.RaisingLaws.{raised_con, raised_step}
use Rattle.psg_terms.proofs.raising.+raise.Goals as goal

pub raise-returns-then-stays : goal.raise-returns-then-stays
raise-returns-then-stays t c = c.in_ok-copy.ensures ∙ sym (c.stays.ensures c.if-stays.true)

pub raise-raise_all-requires : goal.raise-raise_all-requires
raise-raise_all-requires t c =
    let s = size-con c.args.term.now c.in-Con.con.0 c.in-Con.args (sym c.node.ensures ∙ ap term_of c.in-Con.is) in
    let d = ap sizes c.as_slice.ensures in
    (omega arith, tt)

pub raise-returns-in_ok-copy-in-Con : goal.raise-returns-in_ok-copy-in-Con
raise-returns-in_ok-copy-in-Con t c =
    raised_con c.args.base c.in-Con.con.0 c.in-Con.args c.in_ok-parts-in-Con.parts.items c.args.term.now c.in_ok-copy-in-Con.copy
    (sym c.node.ensures ∙ ap term_of c.in-Con.is)
    c.in_ok-copy-in-Con.ensures
    (subst (λ xs. c.in_ok-parts-in-Con.parts.items ≡ map (substitute (raised c.args.base)) xs) c.as_slice.ensures c.in_ok-parts-in-Con.ensures)

pub raise_all-raise-requires : goal.raise_all-raise-requires
raise_all-raise-requires t c =
    let z = sizes-at c.args.row.now c.loop-i.i c.index-row-i.result c.loop-i-test.true in
    let r = ap size c.index-row-i.is in
    (omega arith, tt)

pub raise_all-loop-i-preserved : goal.raise_all-loop-i-preserved
raise_all-loop-i-preserved t c =
    raised_step c.args.base c.args.row.now c.loop-i.copies.items c.push.new.self.items c.loop-i.i c.index-row-i.result c.in_ok-copy.copy
    c.loop-i.invariant c.in_ok-copy.ensures c.in_ok-push.ensures.items c.loop-i-test.true c.index-row-i.is
