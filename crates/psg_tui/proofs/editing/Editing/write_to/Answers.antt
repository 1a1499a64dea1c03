use Rattle.std.proofs.Common.{sym, ap, ◌∙◌, subst}
use Rattle.psg_grammar.specs.Sound.{IsSound}
use Rattle.psg_keymap.specs.Faces.{not_written}
use Rattle.psg_modes.specs.Turning.{saying}
use Rattle.psg_tui.specs.Pressing.{with_face}
use Rattle.psg_tui.specs.Views.{desk}
use Rattle.psg_tui.proofs.EditingLaws.{tree_is}
use Rattle.psg_tui.proofs.SavingLaws.{of_face, written_not, written_so}
use Rattle.psg_tui.proofs.editing.Editing.write_to.Goals as goal

pub formatted-requires : goal.formatted-requires
formatted-requires g c =
    record { sound = subst IsSound (sym c.definition-definition.ensures.same) c.definition-definition.ensures.sound }

pub returns-in-Ok-clause-written : goal.returns-in-Ok-clause-written
returns-in-Ok-clause-written g c = λ tree at.
    written_so c.args.self.now tree c.tree.result.now _ c.definition-definition.result.now c.args.name c.in_ok-own.own
    c.as_bytes-bytes.result.now _ _ _ c.as_str-place.result.now at c.requires.settled
    (c.tree.ensures ∙ tree_is c.args.self.now c.note_of.result.now c.note_of.ensures tree at)
    (c.definition-definition.ensures.same ∙ c.language.ensures.same) c.in_ok-own.ensures
    (c.as_bytes-bytes.ensures.value ∙ c.as_str.ensures.value ∙ c.in_ok-text.ensures) c.take_written.ensures.written
    c.as_str-place.ensures c.in-Ok.ensures.replaces c.in-Ok.ensures.entries

pub returns-in-Failed-clause-written : goal.returns-in-Failed-clause-written
returns-in-Failed-clause-written g c = λ tree at.
    written_not _ _ _ _ (desk c.args.self.now) _ c.args.name c.as_str-place.result.now _ _ c.in-Err.stop
    c.as_str-place.ensures c.in-Err.ensures.keeps c.in-Err.ensures.entries c.in-Failed.is
    (ap (with_face (desk c.args.self.now)) (c.say.ensures ∙ ap (saying not_written) c.enter.ensures))

pub returns-in-Failed-clause-program : goal.returns-in-Failed-clause-program
returns-in-Failed-clause-program g c = of_face _ _
