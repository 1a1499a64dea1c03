use Rattle.std.proofs.Common.{◌≡◌, ◌++◌}
use Rattle.std.specs.Prelude.{map, string_bytes}
use Rattle.psg_asking.specs.Told.{filled}
use Rattle.psg_asking.proofs.words.push_parts.Given as goal

abbrev pub invariant-loop-part : goal.invariant-loop-part
invariant-loop-part l =
    map string_bytes l.parts.items ≡ map string_bytes l.initial.parts.items ++ filled (map (λ w. w.now) l.yielded)
