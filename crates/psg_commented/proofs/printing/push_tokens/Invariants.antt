use Rattle.std.proofs.Common.{◌≡◌, ◌++◌, drop}
use Rattle.psg_commented.specs.Printing.{printed_from}
use Rattle.psg_commented.specs.Steps.{IsSpot}
use Rattle.psg_commented.proofs.printing.push_tokens.Given as goal

abbrev pub invariant-loop-place : goal.invariant-loop-place
invariant-loop-place l =
    IsSpot l.text l.place l.notes l.spot
    × (l.out.items ++ printed_from l.text l.spot.from l.spot.seen l.spot.level (drop l.place l.tokens)
    (drop l.spot.told l.notes)
    ≡ l.initial.out.items ++ printed_from l.text 0 0 0 l.tokens l.notes)
