use Rattle.psg_class.specs.Sources.{Adds, Below, SlotFact, SlotLink}
use Rattle.psg_class.proofs.sources.note_slots.Given as goal

abbrev pub invariant-loop-place : goal.invariant-loop-place
invariant-loop-place l = Adds (Below (SlotFact l.rows l.shape) l.place) (Below (SlotLink l.rows l.shape) l.place) l.initial.draft l.draft
