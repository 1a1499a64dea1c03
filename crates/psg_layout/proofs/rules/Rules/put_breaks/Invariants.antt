use Rattle.std.proofs.Common.{◌≡◌, ◌==◌, ◌||◌, ◌&&◌, ℕ, take}
use Rattle.std.specs.List.{list_any}
use Rattle.psg_layout.specs.Looked.{has_break}
use Rattle.psg_layout.proofs.rules.Rules.put_breaks.Given as goal

abbrev pub invariant-loop-place : goal.invariant-loop-place
invariant-loop-place l = record {
  breaks : (o k : ℕ) → has_break l.self o k ≡ (has_break l.initial.self o k || list_any (λ (b : ℕ × ℕ). (b.0 == o) && (b.1 == k)) (take l.place-index l.breaks));
  groups : l.self.groups ≡ l.initial.self.groups;
}
