use Rattle.std.proofs.Common.{◌≡◌, drop}
use Rattle.std.specs.List.{list_any}
use Rattle.psg_recover.specs.Lost.{is_lost}
use Rattle.psg_recover.proofs.lost.has_lost.Given as goal

abbrev pub invariant-loop-i : goal.invariant-loop-i
invariant-loop-i l =
    list_any (is_lost l.known.definition.now) (drop l.i l.elements) ≡ list_any (is_lost l.known.definition.now) l.elements
