use Rattle.std.proofs.Common.{◌≡◌, drop, bytes_eq}
use Rattle.std.specs.List.{list_any}
use Rattle.psg_asking.proofs.named.has_name.Given as goal

abbrev pub invariant-loop-place : goal.invariant-loop-place
invariant-loop-place l =
    list_any (λ m. bytes_eq m l.word) (drop l.place l.names) ≡ list_any (λ m. bytes_eq m l.word) l.names
