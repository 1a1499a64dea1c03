use Rattle.std.proofs.Common.{◌-◌, refl, ap, option_copied, sym, ◌∙◌, arith}
use Rattle.psg_uses.proofs.NamesLaws.{enough, found_here, none_at_first, none_at_last, none_passed_by, only_none}
use Rattle.psg_uses.proofs.names.nth_name.Goals as goal

pub loop-place-init : goal.loop-place-init
loop-place-init c = none_at_first c.args.definition.now c.args.path.now c.args.number c.args.op c.args.number refl

pub loop-place-preserved : goal.loop-place-preserved
loop-place-preserved c =
    let none = sym c.name_here.ensures ∙ ap option_copied (only_none c.name_here.result c.in_default.not-Some) in
    let most = enough c.args.definition.now c.args.path.now c.args.number c.index-parts-place.result c.loop-place.left c.names_in-own.result none c.names_in-own.ensures in
    none_passed_by c.args.definition.now c.args.path.now c.args.number c.args.op c.args.parts.now c.loop-place.place
    c.index-parts-place.result c.loop-place.left c.names_in-own.result c.saturating_sub-fewer.result c.loop-place-test.true
    c.index-parts-place.is c.loop-place.invariant none c.names_in-own.ensures (omega (arith, most, c.saturating_sub-fewer.ensures))

pub returns-in-Some : goal.returns-in-Some
returns-in-Some c =
    found_here c.args.definition.now c.args.path.now c.args.number c.args.op c.args.parts.now c.loop-place.place
    c.index-parts-place.result c.in-Some.name.now c.loop-place.left c.item_of-item.result c.in_ok-found.found
    c.loop-place-test.true c.index-parts-place.is c.loop-place.invariant
    (sym c.name_here.ensures ∙ ap option_copied c.in-Some.is) c.item_of-item.ensures c.in_ok-found.ensures

pub returns : goal.returns
returns c =
    none_at_last c.args.definition.now c.args.path.now c.args.number c.args.op c.args.parts.now c.loop-place.place
    c.loop-place.left c.loop-place-test.false c.loop-place.invariant
