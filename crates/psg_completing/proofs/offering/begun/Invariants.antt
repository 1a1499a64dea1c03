use Rattle.std.proofs.Common.{◌≡◌, ◌++◌, drop}
use Rattle.std.specs.Prelude.{eqb, map, string_bytes}
use Rattle.std.specs.List.{filter, starts_with}
use Rattle.psg_completing.proofs.offering.begun.Given as goal

abbrev pub invariant-loop-name : goal.invariant-loop-name
invariant-loop-name l =
    l.kept.items ++ filter (λ name. starts_with eqb name l.prefix) (map string_bytes (drop l.name-index l.names))
    ≡ filter (λ name. starts_with eqb name l.prefix) (map string_bytes l.names)
