use Rattle.std.proofs.Common.{refl, sym, ap, subst, ◌∙◌}
use Rattle.std.specs.Prelude.{IsNone, option_copied}
use Rattle.psg_session.proofs.Options.{only_none}
use Rattle.psg_session.proofs.Stepping.{undo_moved, undo_nothing, undo_unopened}
use Rattle.psg_session.proofs.versions.undo.Goals as goal

pub returns-in_default : goal.returns-in_default
returns-in_default c =
    undo_unopened c.args.language.now.definition c.args.editor.now
    (only_none c.args.editor.now.opened c.in_default.not-Some)

pub returns-in_default-nearest_earlier : goal.returns-in_default-nearest_earlier
returns-in_default-nearest_earlier c =
    undo_nothing c.args.language.now.definition c.args.editor.now c.in-Some.field-0 c.in-Some.is
    (c.nearest_earlier.ensures.none.0
    (subst IsNone (sym (only_none c.nearest_earlier.result c.in_default-nearest_earlier.not-Some)) refl))

pub returns : goal.returns
returns c =
    undo_moved c.args.language.now.definition c.args.editor.now c.in-Some.field-0 c.in-Some.is c.requires.editor
    c.in-Some-nearest_earlier.note.now c.in_ok-cursor.cursor c.in_ok-cursor.ensures c.in_ok-mark.mark c.in_ok-mark.ensures
    (sym c.nearest_earlier.ensures.value ∙ ap option_copied c.in-Some-nearest_earlier.is)
