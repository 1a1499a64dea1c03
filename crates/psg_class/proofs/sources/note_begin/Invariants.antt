use Rattle.psg_class.proofs.BeginLaws.{SoFar}
use Rattle.psg_class.proofs.sources.note_begin.Given as goal

abbrev pub invariant-loop-place : goal.invariant-loop-place
invariant-loop-place l = SoFar l.rows l.to l.parts l.place l.initial.draft l.draft
