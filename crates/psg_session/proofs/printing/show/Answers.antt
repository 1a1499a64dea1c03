use Rattle.std.proofs.Common.{ap, ◌∙◌}
use Rattle.std.specs.Option.{option_copied}
use Rattle.psg_unparse.specs.declared.spans.Printed.{Printed}
use Rattle.psg_session.specs.Views.{mark_of}
use Rattle.psg_session.proofs.Options.{only_none}
use Rattle.psg_script.specs.declared.command.Command.TheVariants.{Show}
use Rattle.psg_session.specs.declared.refusal.Refusal.TheVariants.{NothingOpened}
use Rattle.psg_session.specs.declared.replies.Reply.TheVariants.{Refused, Shown}
use Rattle.psg_session.proofs.Asking.{stayed}
use Rattle.psg_session.proofs.Printouts.{is_printed, never_none}
use Rattle.psg_session.proofs.Showing.{show_unopened, show_opened}
use Rattle.psg_session.proofs.printing.show.Goals as goal

pub returns-in_default-clause-outcome : goal.returns-in_default-clause-outcome
returns-in_default-clause-outcome c =
    stayed c.args.language.now.definition c.args.editor.now Show (Refused NothingOpened)
    (show_unopened c.args.language.now.definition c.args.editor.now
    (only_none c.args.editor.now.opened c.in_default.not-Some))

pub unreachable-requires : goal.unreachable-requires
unreachable-requires c =
    never_none c.args.language.now.definition c.args.editor.now c.in-Some.held c.in-Some.is
    (option_copied c.as_ref.result) (c.as_ref.ensures.value ∙ c.in_ok-print_for.ensures.printed) (ap option_copied c.in_default-as_ref.is)

pub returns-clause-outcome : goal.returns-clause-outcome
returns-clause-outcome c =
    let is = is_printed c.args.language.now.definition c.args.editor.now c.in-Some.held c.in-Some.is
    (option_copied c.as_ref.result) (c.as_ref.ensures.value ∙ c.in_ok-print_for.ensures.printed) c.in-Some-as_ref.whole.now
    (ap option_copied c.in-Some-as_ref.is) in
    stayed c.args.language.now.definition c.args.editor.now Show (Shown c.in_ok-text.text c.in_ok-mark.mark)
    (show_opened c.args.language.now.definition c.args.editor.now c.in-Some.held c.in-Some.is c.requires.editor
    c.in_ok-text.text (mark_of c.in_ok-mark.mark)
    (c.in_ok-text.ensures ∙ ap (λ (p : Printed). p.text) is) c.in_ok-mark.ensures)

pub print_for-requires-clause-sound : goal.print_for-requires-clause-sound
print_for-requires-clause-sound c = c.requires.language.sound
