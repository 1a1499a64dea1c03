use Rattle.std.proofs.Common.{◌∙◌, Bool, bytes_eq, refl, sym, arith}
use Rattle.psg_terms.specs.Names.{Name}
use Rattle.psg_menu.proofs.Looking.{any_end, any_found, any_passed, among_any}
use Rattle.psg_asking.proofs.named.has_name.Goals as goal

pub loop-place-init : goal.loop-place-init
loop-place-init c = refl

pub returns-then-is_word : goal.returns-then-is_word
returns-then-is_word c =
    let test : Name → Bool = λ (x : Name). bytes_eq x c.args.word.now in
    any_found test c.args.names.now c.loop-place.place c.index-names-place.result c.loop-place-test.true
    c.index-names-place.is (sym c.is_word.ensures ∙ c.if-is_word.true) c.loop-place.invariant
    ∙ among_any c.args.names.now c.args.word.now

pub loop-place-preserved : goal.loop-place-preserved
loop-place-preserved c =
    let test : Name → Bool = λ (x : Name). bytes_eq x c.args.word.now in
    any_passed test c.args.names.now c.loop-place.place c.index-names-place.result c.loop-place-test.true
    c.index-names-place.is (sym c.is_word.ensures ∙ c.if-is_word.false) c.loop-place.invariant

pub returns : goal.returns
returns c =
    let test : Name → Bool = λ (x : Name). bytes_eq x c.args.word.now in
    any_end test c.args.names.now c.loop-place.place
    (omega (arith, c.loop-place-test.false, c.loop-place.auto.place-end)) c.loop-place.invariant
    ∙ among_any c.args.names.now c.args.word.now
