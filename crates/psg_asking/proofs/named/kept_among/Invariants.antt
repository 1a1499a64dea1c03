use Rattle.std.proofs.Common.{◌≡◌, ◌++◌, drop}
use Rattle.std.specs.Prelude.{map, string_bytes}
use Rattle.std.specs.List.{filter}
use Rattle.psg_terms.specs.Names.{is_among}
use Rattle.psg_asking.proofs.named.kept_among.Given as goal

abbrev pub invariant-loop-word : goal.invariant-loop-word
invariant-loop-word l =
    map string_bytes l.kept.items ++ filter (λ w. is_among l.names w) (map string_bytes (drop l.word-index l.words))
    ≡ filter (λ w. is_among l.names w) (map string_bytes l.words)
