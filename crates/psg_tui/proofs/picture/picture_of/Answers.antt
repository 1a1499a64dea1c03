use Rattle.std.proofs.Common.{◌≡◌, sym, ap, ◌∙◌, true≢false}
use Rattle.std.proofs.lemmas.Result.{IfOk-weaker}
use Rattle.psg_tui.specs.Showing.{paged_of, view_of}
use Rattle.psg_tui.specs.Views.{face_of}
use Rattle.psg_picture.specs.Scrolling.{scrolled_of}
use Rattle.psg_tui.proofs.PictureLaws.{aim_is, face_is, marked_so, scrolled_face, scrolled_known, shows_page, shows_program}
use Rattle.psg_tui.proofs.picture.picture_of.Goals as goal

pub returns-in_err-mark-clause-left : goal.returns-in_err-mark-clause-left
returns-in_err-mark-clause-left c = scrolled_known _ _ c.mark.ensures.left

pub returns-in_err-mark-clause-aim : goal.returns-in_err-mark-clause-aim
returns-in_err-mark-clause-aim c = aim_is _ _ c.mark.ensures.left

pub returns-in_err-around-clause-left : goal.returns-in_err-around-clause-left
returns-in_err-around-clause-left c = scrolled_known _ _ c.mark.ensures.left

pub returns-in_err-around-clause-aim : goal.returns-in_err-around-clause-aim
returns-in_err-around-clause-aim c = aim_is _ _ c.mark.ensures.left

pub returns-then-page-clause-picture : goal.returns-then-page-clause-picture
returns-then-page-clause-picture c =
    IfOk-weaker c.paged.result (λ p. p ≡ paged_of (face_of c.mark.new.editing.face) c.in_ok-around.around) _
    (λ p is tree at. shows_page c.args.editing.now tree at c.requires.settled c.mark.new.editing.shown.marks
    (marked_so c.args.editing.now c.mark.new.editing tree at (c.in_ok-mark.ensures.chosen tree) c.in_ok-mark.ensures.right)
    (face_of c.mark.new.editing.face) (ap (λ x. x.chosen) (face_is _ _ c.mark.ensures.left)) p c.in_ok-around.around
    (c.is_page-page.ensures.0 c.if-page.true) is) c.paged.ensures

pub returns-then-page-clause-left : goal.returns-then-page-clause-left
returns-then-page-clause-left c = scrolled_known _ _ c.mark.ensures.left

pub returns-then-page-clause-aim : goal.returns-then-page-clause-aim
returns-then-page-clause-aim c = aim_is _ _ c.mark.ensures.left

pub returns-in_err-picture-clause-left : goal.returns-in_err-picture-clause-left
returns-in_err-picture-clause-left c =
    scrolled_face _ _ c.mark.ensures.left c.requires.settled _ c.programmed.ensures.same

pub returns-in_err-picture-clause-aim : goal.returns-in_err-picture-clause-aim
returns-in_err-picture-clause-aim c = aim_is _ _ c.mark.ensures.left

pub returns-clause-picture : goal.returns-clause-picture
returns-clause-picture c = λ tree at.
    let text = c.mark.new.editing.shown.printed.text in
    let bytes = c.mark.new.editing.shown.marks.chosen in
    shows_program c.args.editing.now tree at c.requires.settled c.mark.new.editing.shown.marks
    (marked_so c.args.editing.now c.mark.new.editing tree at (c.in_ok-mark.ensures.chosen tree) c.in_ok-mark.ensures.right)
    (face_of c.programmed.new.face)
    (ap (λ x. x.chosen) c.programmed.ensures.same ∙ ap (λ x. x.chosen) (face_is _ _ c.mark.ensures.left))
    c.in_ok-picture.picture c.in_ok-around.around
    (λ m. true≢false
    (sym (c.is_page-page.ensures.1 (sym (ap (λ x. x.mode) c.programmed.ensures.same) ∙ m)) ∙ c.if-page.false))
    text (ap (λ x. x.text) c.in_ok-mark.ensures.printed) c.in_ok-picture.ensures.picture
    (c.in_ok-picture.ensures.scrolled
    ∙ ap (λ x. scrolled_of (view_of (face_of x)) text bytes) (face_is _ _ c.mark.ensures.left))

pub returns-clause-left : goal.returns-clause-left
returns-clause-left c = scrolled_face _ _ c.mark.ensures.left c.requires.settled _ c.programmed.ensures.same

pub returns-clause-aim : goal.returns-clause-aim
returns-clause-aim c = aim_is _ _ c.mark.ensures.left
