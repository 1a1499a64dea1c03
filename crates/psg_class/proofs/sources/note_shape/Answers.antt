use Rattle.std.proofs.Common.{length, inl, inr}
use Rattle.psg_class.specs.Sources.{NoLink, Either, Below, LeadFact, SlotFact, ShapeFact, ShapeLink}
use Rattle.psg_class.proofs.Drafts.{adds_as, adds_both}
use Rattle.psg_class.proofs.sources.note_shape.Goals as goal

pub returns : goal.returns
returns c =
    let rows = c.args.rows.now in
    let s = c.args.shape.now in
    adds_as (Either (LeadFact rows s) (Below (SlotFact rows s) (length s.parts))) (Either NoLink (ShapeLink rows s)) (ShapeFact rows s) (ShapeLink rows s) c.args.draft.now c.note_slots.new.draft
    (λ r k f. f) (λ r k f. f) (λ t f l. elim l [ inl x ↦ absurd x | inr x ↦ x ]) (λ t f l. inr l)
    (adds_both (LeadFact rows s) NoLink (Below (SlotFact rows s) (length s.parts)) (ShapeLink rows s) c.args.draft.now c.note_lead.new.draft c.note_slots.new.draft c.note_lead.ensures c.in_ok-note_slots.ensures)
