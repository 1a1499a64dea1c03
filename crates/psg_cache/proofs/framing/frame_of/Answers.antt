use Rattle.std.proofs.Common.{◌∙◌, ap₂, map}
use Rattle.psg_eval.specs.declared.frame.Frame.TheVariants as frames
use Rattle.psg_cache.specs.Annotated.{whole_in}
use Rattle.psg_cache.specs.Walks.{names_in}
use Rattle.psg_cache.proofs.FrameParts.{list_frame_of, no_frame_hole, operator_frame_at}
use Rattle.psg_cache.proofs.framing.frame_of.Goals as goal

pub returns-in_ok-frame-in-Op : goal.returns-in_ok-frame-in-Op
returns-in_ok-frame-in-Op c =
    operator_frame_at c.args.note.now c.args.number c.in-Op.op c.in-Op.parts c.shape.result.now c.in_ok-frame-in-Op.frame c.in-Op.is (c.shape.ensures ∙ c.tree.ensures)
    (c.in_ok-frame-in-Op.ensures
    ∙ ap₂ (λ ps xs. frames.Op c.in-Op.op (names_in ps) (map whole_in xs) c.args.number) c.as_slice-all.ensures c.below-inner.ensures)

pub returns-in_ok-frame-in-List : goal.returns-in_ok-frame-in-List
returns-in_ok-frame-in-List c =
    list_frame_of c.args.note.now c.args.number c.in-List.list c.in-List.elements c.in-List.unfinished c.shape.result.now c.below-inner-in-List.result.now c.rests-rests.result.now
    c.in-List.is (c.shape.ensures ∙ c.tree.ensures) c.below-inner-in-List.ensures c.rests-rests.ensures c.in_ok-frame-in-List.frame c.in_ok-frame-in-List.ensures

pub returns-in-Hole : goal.returns-in-Hole
returns-in-Hole c = no_frame_hole c.args.note.now c.args.number c.in-Hole.phylum c.shape.result.now c.in-Hole.is (c.shape.ensures ∙ c.tree.ensures)
