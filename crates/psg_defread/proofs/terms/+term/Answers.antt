use Rattle.std.proofs.Common.{ap, sym, ◌∙◌, arith}
use Rattle.psg_terms.specs.Shapes.{term_of}
use Rattle.psg_terms.specs.Sizes.{size, sizes}
use Rattle.psg_terms.proofs.Nodes.{size-con}
use Rattle.psg_terms.proofs.Weights.{sizes-at}
use Rattle.psg_defread.proofs.WriteLaws.{con-written}
use Rattle.psg_defread.proofs.terms.+term.Goals as goal

pub term_written-terms_written-requires : goal.term_written-terms_written-requires
term_written-terms_written-requires t c =
    let s = size-con c.args.term.now c.in-Con.con.0 c.in-Con.args (sym c.node.ensures ∙ ap term_of c.in-Con.is) in
    let d = ap sizes c.as_slice.ensures in
    omega arith

pub term_written-returns-in_ok-made-in-Con : goal.term_written-returns-in_ok-made-in-Con
term_written-returns-in_ok-made-in-Con t c =
    con-written c.args.definition.now c.args.term.now c.in-Con.con.0 c.in-Con.args c.as_slice.result.now
    c.in_ok-written-in-Con.written.items c.in_ok-made-in-Con.made (sym c.node.ensures ∙ ap term_of c.in-Con.is)
    c.as_slice.ensures c.in_ok-written-in-Con.ensures c.in_ok-made-in-Con.ensures

pub terms_written-term_written-requires : goal.terms_written-term_written-requires
terms_written-term_written-requires t c =
    let z = sizes-at c.args.terms.now c.loop-i.i c.index-terms-i.result c.loop-i-test.true in
    let r = ap size c.index-terms-i.is in
    omega arith
