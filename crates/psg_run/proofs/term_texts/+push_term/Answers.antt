use Rattle.std.proofs.Common.{◌≡◌, ◌++◌, ap, sym, ◌∙◌, slice_get, arith}
use Rattle.std.specs.Prelude.{string_bytes}
use Rattle.psg_terms.specs.Terms.{symbol, applied}
use Rattle.psg_terms.specs.Shapes.{term_of}
use Rattle.psg_terms.specs.Sizes.{size, sizes}
use Rattle.psg_terms.specs.Text.{symbol_name}
use Rattle.psg_terms.proofs.Nodes.{size-con}
use Rattle.psg_terms.proofs.Weights.{sizes-at}
use Rattle.psg_terms.proofs.WritingLaws.{begun-step, begun-end}
use Rattle.psg_run.proofs.term_texts.+push_term.Goals as goal

pub loop-i-init : goal.loop-i-init
loop-i-init t c = λ first k e. e

pub push_term-requires : goal.push_term-requires
push_term-requires t c =
    let e = sym c.node.ensures ∙ ap term_of c.in-Con.is in
    let s = size-con c.args.term.now c.in-Con.con.0 c.in-Con.args e in
    let d = ap sizes c.as_slice-args.ensures in
    let z = sizes-at c.as_slice-args.result.now c.loop-i.i c.index-args-i.result c.loop-i-test.true in
    let r = ap size c.index-args-i.is in
    (omega arith, tt)

pub loop-i-preserved : goal.loop-i-preserved
loop-i-preserved t c = λ first k e.
    begun-step c.args.sig.now k first (string_bytes c.loop-i.text) (string_bytes c.push_before.new.text) (string_bytes c.push_term.new.text) c.as_slice-args.result.now c.loop-i.i c.index-args-i.result
    (c.loop-i.invariant first k e) c.in_ok-push_before-in-Con.ensures c.in_ok-push_term-in-Con.ensures c.loop-i-test.true c.index-args-i.is

pub returns-in_ok-push_after-in-Con : goal.returns-in_ok-push_after-in-Con
returns-in_ok-push_after-in-Con t c =
    begun-end c.args.sig.now c.in-Con.con.0 (string_bytes c.args.text.now) (string_bytes c.loop-i.text) (string_bytes c.push_after.new.text) c.as_slice-args.result.now c.loop-i.i _ c.args.term.now
    (c.loop-i.invariant (string_bytes c.args.text.now) c.in-Con.con.0 (c.in_ok-push_str-in-Con.ensures.bytes ∙ ap (λ n. string_bytes c.args.text.now ++ n) c.name_of.ensures))
    c.in_ok-push_after-in-Con.ensures (omega arith) (omega arith)
    (sym c.node.ensures ∙ ap term_of c.in-Con.is ∙ ap (applied (symbol c.in-Con.con.0)) (sym c.as_slice-args.ensures))
