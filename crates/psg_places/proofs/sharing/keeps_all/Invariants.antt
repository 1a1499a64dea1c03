use Rattle.psg_places.specs.Blame.{kept_in}
use Rattle.psg_places.specs.Openings.{Keeps}
use Rattle.psg_places.proofs.sharing.keeps_all.Given as goal

abbrev pub invariant-loop-place : goal.invariant-loop-place
invariant-loop-place l = Keeps (kept_in l.keep) l.from l.place
