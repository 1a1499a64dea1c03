use Rattle.std.proofs.Common.{◌∙◌, Bool, bytes_eq, refl, ap, arith}
use Rattle.std.specs.List.{list_any}
use Rattle.psg_scope.specs.declared.header.NameCol.{NameCol}
use Rattle.psg_menu.proofs.Looking.{any_end, any_found, any_passed, same_name}
use Rattle.psg_menu.proofs.sharing.has_key.Goals as goal

pub loop-place-init : goal.loop-place-init
loop-place-init c = refl

pub returns-then-same : goal.returns-then-same
returns-then-same c =
    let test : NameCol → Bool = λ (x : NameCol). bytes_eq x.name c.args.name.now in
    any_found test c.as_slice-names.result.now c.loop-place.place c.index-names-place.result c.loop-place-test.true c.index-names-place.is (same_name c.same.result c.index-names-place.result.name c.args.name.now c.same.ensures ∙ c.if-same.true) c.loop-place.invariant ∙ ap (list_any test) c.as_slice-names.ensures

pub loop-place-preserved : goal.loop-place-preserved
loop-place-preserved c =
    let test : NameCol → Bool = λ (x : NameCol). bytes_eq x.name c.args.name.now in
    any_passed test c.as_slice-names.result.now c.loop-place.place c.index-names-place.result c.loop-place-test.true c.index-names-place.is (same_name c.same.result c.index-names-place.result.name c.args.name.now c.same.ensures ∙ c.if-same.false) c.loop-place.invariant

pub returns : goal.returns
returns c =
    let test : NameCol → Bool = λ (x : NameCol). bytes_eq x.name c.args.name.now in
    any_end test c.as_slice-names.result.now c.loop-place.place (omega (arith, c.loop-place-test.false, c.loop-place.auto.place-end)) c.loop-place.invariant ∙ ap (list_any test) c.as_slice-names.ensures
