use Rattle.std.proofs.Common.{◌≡◌, ◌==◌, ◌||◌, ℕ, take}
use Rattle.std.specs.List.{list_any}
use Rattle.psg_layout.specs.Looked.{has_group}
use Rattle.psg_layout.proofs.rules.Rules.put_groups.Given as goal

abbrev pub invariant-loop-group : goal.invariant-loop-group
invariant-loop-group l = record {
  groups : (o : ℕ) → has_group l.self o ≡ (has_group l.initial.self o || list_any (λ g. g == o) (take l.group-index l.groups));
  breaks : l.self.breaks ≡ l.initial.self.breaks;
}
