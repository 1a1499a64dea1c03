use Rattle.std.proofs.Common.{ap, subst, ◌∙◌}
use Rattle.psg_defcheck.specs.Scopes.{value_place}
use Rattle.psg_defcheck.specs.Meanings.{MayStand}
use Rattle.psg_defcheck.specs.Sorting.{place_told}
use Rattle.psg_defcheck.proofs.TreeSortLaws.{place_standing}
use Rattle.psg_defcheck.proofs.sorted_trees.sorts_place.Goals as goal

pub returns : goal.returns
returns c =
    place_standing c.args.scope.now (place_told c.args.place) (place_told c.value_place-values.result) c.args.own.now.kind c.args.own.now.term c.args.sorts.now c.sorts_term.new.sorts c.in_ok-fits.fits
    (subst (MayStand (place_told c.args.place)) c.as_str-kind.ensures (c.may_stand.ensures.0 c.if-not-may_stand.false)) (c.value_place-values.ensures ∙ ap (value_place c.args.scope.now) c.as_str-kind.ensures) c.in_ok-fits.ensures
