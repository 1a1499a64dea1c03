use Rattle.std.proofs.Common.{◌∙◌}
use Rattle.psg_cache.proofs.GapFrames.{gap_frame_of, no_place_operator}
use Rattle.psg_cache.proofs.framing.frame_before.Goals as goal

pub returns-in_ok-frame-in-List : goal.returns-in_ok-frame-in-List
returns-in_ok-frame-in-List c =
    gap_frame_of c.args.note.now c.args.place c.in-List.list c.in-List.elements c.in-List.unfinished c.shape.result.now c.in-List.is (c.shape.ensures ∙ c.tree.ensures)
    c.in_ok-frame-in-List.frame c.in_ok-frame-in-List.ensures

pub returns-in-Op : goal.returns-in-Op
returns-in-Op c = no_place_operator c.args.note.now c.args.place c.in-Op.op c.in-Op.parts c.shape.result.now c.in-Op.is (c.shape.ensures ∙ c.tree.ensures)
