use Rattle.std.proofs.Common.{ap, ◌∙◌}
use Rattle.std.specs.Option.{option_copied}
use Rattle.psg_picture.specs.Scrolling.{scrolled_of}
use Rattle.psg_tui.specs.Showing.{programmed_of, view_of}
use Rattle.psg_tui.specs.Views.{face_of}
use Rattle.psg_tui.proofs.PictureLaws.{programmed_so, scrolled_so}
use Rattle.psg_tui.proofs.picture.programmed.Goals as goal

pub returns-clause-picture : goal.returns-clause-picture
returns-clause-picture c =
    let f = c.args.face.now in
    let v = c.scrolled-view.result in
    let marks = c.args.shown.now.marks in
    programmed_so f c.view_of.result v c.as_str-text.result.now marks c.args.around.now
    (option_copied c.open_line-line.result) c.in_ok-picture.picture c.view_of.ensures c.scrolled-view.ensures.view
    c.open_line-line.ensures c.in_ok-picture.ensures
    ∙ ap (λ t. programmed_of (face_of (record f { top = v.top; left = v.left })) c.args.around.now t marks)
    c.as_str-text.ensures

pub returns-clause-scrolled : goal.returns-clause-scrolled
returns-clause-scrolled c =
    let f = c.args.face.now in
    scrolled_so f c.view_of.result c.scrolled-view.result c.as_str-text.result.now c.args.shown.now.marks.chosen
    c.view_of.ensures c.scrolled-view.ensures.view
    ∙ ap (λ t. scrolled_of (view_of (face_of f)) t c.args.shown.now.marks.chosen) c.as_str-text.ensures
