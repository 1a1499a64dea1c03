use Rattle.std.proofs.Common.{◌≡◌, ◌+◌, ◌≤◌, false, drop}
use Rattle.psg_prompt.specs.Acts.{rub_from}
use Rattle.psg_prompt.proofs.act.rub_count.Given as goal

abbrev pub invariant-loop-place : goal.invariant-loop-place
invariant-loop-place l = record {
  same : rub_from false l.back ≡ l.count + rub_from l.inside (drop l.place l.back);
  within : l.count ≤ l.place;
}
