use Rattle.psg_defcheck.specs.Scopes.{value_place, kind_place}
use Rattle.psg_defcheck.specs.Sorting.{place_told}
use Rattle.psg_defcheck.proofs.LineSortLaws.{hole_alone, hole_by}
use Rattle.psg_defcheck.proofs.sorted_lines.sorts_hole.Goals as goal

pub returns-in_ok-fits-in-None : goal.returns-in_ok-fits-in-None
returns-in_ok-fits-in-None c =
    hole_alone c.args.scope.now (place_told c.value_place-values.result) (value_place c.args.scope.now c.args.kind.now) (kind_place c.args.scope.now c.args.kind.now) c.args.term.now c.args.specimen.now c.args.sorts.now c.sorts_term.new.sorts c.in_ok-fits-in-None.fits
    c.in-None.is c.value_place-values.ensures c.in_ok-fits-in-None.ensures

pub returns-in_ok-fits-in-Some : goal.returns-in_ok-fits-in-Some
returns-in_ok-fits-in-Some c =
    hole_by c.args.scope.now (place_told c.value_place-values.result) (value_place c.args.scope.now c.args.kind.now) (place_told c.kind_place-own.result) (kind_place c.args.scope.now c.args.kind.now) c.args.term.now c.args.specimen.now c.in-Some.tree c.args.sorts.now
    c.sorts_by.new.sorts c.in_ok-fits-in-Some.fits c.in-Some.is c.value_place-values.ensures c.kind_place-own.ensures c.in_ok-fits-in-Some.ensures
