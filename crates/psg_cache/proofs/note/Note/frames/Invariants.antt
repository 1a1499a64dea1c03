use Rattle.std.proofs.Common.{◌≡◌, drop, take}
use Rattle.std.specs.Prelude.{reverse}
use Rattle.psg_cache.specs.Annotated.{note_at}
use Rattle.psg_cache.proofs.NoteFraming.{AreGathered}
use Rattle.psg_cache.proofs.note.Note.frames.Given as goal

-- the frames of the steps so far are gathered
abbrev pub invariant-loop-step : goal.invariant-loop-step
invariant-loop-step l =
    record {
      found : note_at l.self l.path ≡ note_at l.node (drop l.step-index l.step-items);
      gathered : AreGathered l.self l.node (take l.step-index l.step-items) (drop l.step-index l.step-items) (reverse l.made.items);
    }
