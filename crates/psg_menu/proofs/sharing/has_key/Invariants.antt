use Rattle.std.proofs.Common.{◌≡◌, drop, bytes_eq}
use Rattle.std.specs.List.{list_any}
use Rattle.psg_scope.specs.declared.header.NameCol.{NameCol}
use Rattle.psg_menu.proofs.sharing.has_key.Given as goal

abbrev pub invariant-loop-place : goal.invariant-loop-place
invariant-loop-place l =
    list_any (λ (c : NameCol). bytes_eq c.name l.name) (drop l.place l.names) ≡ list_any (λ (c : NameCol). bytes_eq c.name l.name) l.names
