use Rattle.std.proofs.Common.{subst, sym}
use Rattle.psg_defcheck.specs.Sorting.{Narrows, EndStands, place_told}
use Rattle.psg_defcheck.proofs.sorted_trees.sorts_end.Goals as goal

pub returns-in_ok-fits-in-Some : goal.returns-in_ok-fits-in-Some
returns-in_ok-fits-in-Some c =
    subst (λ r. Narrows (λ of. EndStands c.args.scope.now of (place_told c.args.place) r) c.args.sorts.now c.sorts_place.new.sorts c.in_ok-fits-in-Some.fits) (sym c.in-Some.is) c.in_ok-fits-in-Some.ensures
