use Rattle.psg_tui.proofs.NextLaws.{blamed_so, next_at, no_place, nothing_so, place_at}
use Rattle.psg_tui.proofs.turning.next_blamed.Goals as goal

pub unreachable-requires : goal.unreachable-requires
unreachable-requires c =
    no_place c.args.repair.now.places.items c.args.chosen.now c.args.forward c.in-Some.path.now
    (next_at c.args.repair.now.places.items c.as_slice-places.result.now c.in_ok-paths.paths.items c.as_slice.result.now c.args.chosen.now c.args.forward c.as_slice-places.ensures.value c.in_ok-paths.ensures c.as_slice.ensures.value c.next_of.result _ c.next_of.ensures c.in-Some.is)
    (place_at c.args.repair.now.places.items c.as_slice-places.result.now c.in-Some.path.now c.as_slice-places.ensures.value c.place_of.result _ c.place_of.ensures c.in-None-place_of.is)

pub returns-in-Some-place_of : goal.returns-in-Some-place_of
returns-in-Some-place_of c =
    blamed_so c.args.tree.now c.args.repair.now.places.items c.args.chosen.now c.args.forward c.in-Some.path.now
    c.in_ok-path-in-Some-place_of.path c.in-Some-place_of.place.now c.in_ok-why-in-Some-place_of.why
    (next_at c.args.repair.now.places.items c.as_slice-places.result.now c.in_ok-paths.paths.items c.as_slice.result.now c.args.chosen.now c.args.forward c.as_slice-places.ensures.value c.in_ok-paths.ensures c.as_slice.ensures.value c.next_of.result _ c.next_of.ensures c.in-Some.is)
    (place_at c.args.repair.now.places.items c.as_slice-places.result.now c.in-Some.path.now c.as_slice-places.ensures.value c.place_of.result _ c.place_of.ensures c.in-Some-place_of.is) c.in_ok-path-in-Some-place_of.ensures c.in_ok-why-in-Some-place_of.ensures

pub returns : goal.returns
returns c =
    nothing_so c.args.tree.now c.args.repair.now.places.items c.args.chosen.now c.args.forward
    (next_at c.args.repair.now.places.items c.as_slice-places.result.now c.in_ok-paths.paths.items c.as_slice.result.now c.args.chosen.now c.args.forward c.as_slice-places.ensures.value c.in_ok-paths.ensures c.as_slice.ensures.value c.next_of.result _ c.next_of.ensures c.in-None.is)
