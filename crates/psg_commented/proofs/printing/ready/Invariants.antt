use Rattle.std.proofs.Common.{◌≡◌, ◌+◌, drop}
use Rattle.std.specs.List.{prefix_len}
use Rattle.psg_commented.specs.Printing.{is_due}
use Rattle.psg_commented.proofs.printing.ready.Given as goal

abbrev pub invariant-loop-place : goal.invariant-loop-place
invariant-loop-place l =
    prefix_len (is_due l.seen) l.notes ≡ l.place + prefix_len (is_due l.seen) (drop l.place l.notes)
