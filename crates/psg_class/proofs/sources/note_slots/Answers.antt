use Rattle.psg_class.specs.Sources.{SlotFact, SlotLink}
use Rattle.psg_class.proofs.Drafts.{adds_more}
use Rattle.psg_class.proofs.sources.note_slots.Goals as goal

pub loop-place-preserved : goal.loop-place-preserved
loop-place-preserved c =
    adds_more (SlotFact c.args.rows.now c.args.shape.now) (SlotLink c.args.rows.now c.args.shape.now) c.loop-place.place c.args.draft.now c.loop-place.draft c.note_slot.new.draft c.loop-place.invariant c.in_ok-note_slot.ensures
