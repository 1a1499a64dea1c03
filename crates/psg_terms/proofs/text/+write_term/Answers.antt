use Rattle.std.proofs.Common.{◌≡◌, ◌++◌, ap, sym, subst, ◌∙◌, slice_get, arith}
use Rattle.std.specs.Prelude.{string_bytes}
use Rattle.std.proofs.lemmas.Option.{slice_get_within}
use Rattle.psg_terms.specs.Terms.{symbol, applied}
use Rattle.psg_terms.specs.Signature.{HasSort, HaveSorts}
use Rattle.psg_terms.specs.Shapes.{term_of}
use Rattle.psg_terms.specs.Sizes.{size, sizes}
use Rattle.psg_terms.specs.Text.{symbol_name}
use Rattle.psg_terms.proofs.Nodes.{size-con}
use Rattle.psg_terms.proofs.Weights.{symbol_sort, arguments_sorted, sorts-at, sizes-at}
use Rattle.psg_terms.proofs.WritingLaws.{begun-step, begun-end}
use Rattle.psg_terms.proofs.text.+write_term.Goals as goal

pub constructor-requires : goal.constructor-requires
constructor-requires t c =
    let x = symbol_sort c.args.sig.now c.args.term.now c.in-Con.con.0 c.in-Con.args c.requires.0 (sym c.node.ensures ∙ ap term_of c.in-Con.is) c.requires.1 in
    slice_get_within _ _ x.0 x.1

pub loop-i-init : goal.loop-i-init
loop-i-init t c = λ first k e. e

pub write_term-requires : goal.write_term-requires
write_term-requires t c =
    let e = sym c.node.ensures ∙ ap term_of c.in-Con.is in
    let s = size-con c.args.term.now c.in-Con.con.0 c.in-Con.args e in
    let d = ap sizes c.as_slice-args.ensures in
    let z = sizes-at c.as_slice-args.result.now c.loop-i.i c.index-args-i.result c.loop-i-test.true in
    let r = ap size c.index-args-i.is in
    let h = arguments_sorted c.args.sig.now c.args.term.now c.in-Con.con.0 c.in-Con.args c.requires.0 e c.requires.1 in
    let k = sorts-at c.args.sig.now c.as_slice-args.result.now h.0 c.loop-i.i c.index-args-i.result (subst (λ xs. HaveSorts c.args.sig.now xs h.0) (sym c.as_slice-args.ensures) h.1) c.loop-i-test.true in
    (omega arith, (k.0, subst (λ x. HasSort c.args.sig.now x k.0) (sym c.index-args-i.is) k.1))

pub loop-i-preserved : goal.loop-i-preserved
loop-i-preserved t c = λ first k e.
    begun-step c.args.sig.now k first (string_bytes c.loop-i.text) (string_bytes c.write_before.new.text) (string_bytes c.write_term.new.text) c.as_slice-args.result.now c.loop-i.i c.index-args-i.result
    (c.loop-i.invariant first k e) c.in_ok-write_before-in-Con.ensures c.in_ok-write_term-in-Con.ensures c.loop-i-test.true c.index-args-i.is

pub returns-in_ok-write_after-in-Con : goal.returns-in_ok-write_after-in-Con
returns-in_ok-write_after-in-Con t c =
    let name : c.as_str.result.now ≡ symbol_name (slice_get c.args.sig.now.symbols c.in-Con.con.0) = c.as_str.ensures ∙ ap symbol_name (sym c.constructor.ensures.1) in
    begun-end c.args.sig.now c.in-Con.con.0 (string_bytes c.args.text.now) (string_bytes c.loop-i.text) (string_bytes c.write_after.new.text) c.as_slice-args.result.now c.loop-i.i _ c.args.term.now
    (c.loop-i.invariant (string_bytes c.args.text.now) c.in-Con.con.0 (c.in_ok-push_str-in-Con.ensures.bytes ∙ ap (λ n. string_bytes c.args.text.now ++ n) name))
    c.in_ok-write_after-in-Con.ensures (omega arith) (omega arith)
    (sym c.node.ensures ∙ ap term_of c.in-Con.is ∙ ap (applied (symbol c.in-Con.con.0)) (sym c.as_slice-args.ensures))
