use Rattle.std.proofs.Common.{ap, ◌∙◌}
use Rattle.psg_defcheck.specs.Meanings as meanings
use Rattle.psg_defcheck.specs.Sorting.{place_told}
use Rattle.psg_defcheck.proofs.PlaceLaws.{column_places-append, step-some, step-none}
use Rattle.psg_defcheck.proofs.places.column_places.Goals as goal
use Rattle.psg_defcheck.proofs.places.column_places.Goals.{in-Some+in_ok-push, in_default}

pub loop-item-preserved : goal.loop-item-preserved
loop-item-preserved c = elim c.match-column_place.branch [
  | in-Some+in_ok-push w ↦ step-some place_told (meanings.column_places c.args.scope.now) (column_places-append c.args.scope.now) c.args.items.now c.loop-item.item-index c.item-item.result c.loop-item.places.items c.match-column_place.places.items w.in-Some.place
      c.loop-item-test.true c.item-item.is c.loop-item.invariant (ap (λ v. v.items) w.places-is ∙ w.in_ok-push.ensures.items) w.in-Some.ensures
  | in_default w ↦ step-none place_told (meanings.column_places c.args.scope.now) (column_places-append c.args.scope.now) c.args.items.now c.loop-item.item-index c.item-item.result c.loop-item.places.items c.match-column_place.places.items
      c.loop-item-test.true c.item-item.is c.loop-item.invariant (ap (λ v. v.items) w.places-is) w.in_default.ensures
]
