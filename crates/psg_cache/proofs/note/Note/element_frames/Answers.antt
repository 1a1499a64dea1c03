use Rattle.std.proofs.Common.{rules, sym}
use Rattle.psg_cache.specs.NoteFrames.{AreFramesAt}
use Rattle.psg_cache.proofs.GapFrames.{element_frames_at, gap_none, gap_some, no_element_in, no_element_there}
use Rattle.psg_cache.proofs.note.Note.element_frames.Goals as goal

pub returns-in_default : goal.returns-in_default
returns-in_default c = no_element_there c.args.self.now c.args.path.now c.args.place (sym c.in_default.ensures)

pub returns-in_default-framed : goal.returns-in_default-framed
returns-in_default-framed c =
    no_element_in c.args.self.now c.in-Some.node.now c.args.path.now c.args.place (sym c.in-Some.ensures)
    (gap_none c.in-Some.node.now c.args.place c.in_ok-framed.framed c.in_default-framed.is c.in_ok-framed.ensures)

pub returns : goal.returns
returns c =
    let above : AreFramesAt c.args.self.now c.args.path.now c.in-Some-found.around.items = search rules in
    element_frames_at c.args.self.now c.in-Some.node.now c.args.path.now c.args.place c.in-Some-framed.frame c.in-Some-found.around.items c.insert.new.self.items (sym c.in-Some.ensures)
    (gap_some c.in-Some.node.now c.args.place c.in_ok-framed.framed c.in-Some-framed.frame c.in-Some-framed.is c.in_ok-framed.ensures) above c.in_ok-insert.ensures.items
