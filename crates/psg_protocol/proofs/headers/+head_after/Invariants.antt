use Rattle.psg_protocol.proofs.headers.+head_after.Given as goal

abbrev pub decreases-head_after : goal.decreases-head_after
decreases-head_after l = l.lines
