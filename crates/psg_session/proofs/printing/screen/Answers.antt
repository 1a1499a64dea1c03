use Rattle.std.proofs.Common.{ap, ◌∙◌}
use Rattle.std.specs.Option.{option_copied}
use Rattle.psg_unparse.specs.declared.spans.Printed.{Printed}
use Rattle.psg_screen.specs.Window.{window_of}
use Rattle.psg_session.proofs.Printouts.{none_opened, some_opened}
use Rattle.psg_script.specs.declared.command.Command.TheVariants.{Screen}
use Rattle.psg_session.specs.declared.refusal.Refusal.TheVariants.{NothingOpened}
use Rattle.psg_session.specs.declared.replies.Reply.TheVariants.{Refused, Seen}
use Rattle.psg_session.proofs.Asking.{stayed}
use Rattle.psg_session.proofs.Showing.{screen_unopened, screen_opened}
use Rattle.psg_session.proofs.printing.screen.Goals as goal

pub returns-in_default-clause-outcome : goal.returns-in_default-clause-outcome
returns-in_default-clause-outcome c =
    let v = c.args.view in
    stayed c.args.language.now.definition c.args.editor.now (Screen v.top v.left v.rows v.cols) (Refused NothingOpened)
    (screen_unopened c.args.language.now.definition c.args.editor.now
    (none_opened c.args.language.now.definition c.args.editor.now.opened (option_copied c.as_ref.result)
    (c.as_ref.ensures.value ∙ c.in_ok-print_for.ensures.printed) (ap option_copied c.in_default.is)) v.top v.left v.rows v.cols)

pub returns-clause-outcome : goal.returns-clause-outcome
returns-clause-outcome c =
    let v = c.args.view in
    let (held, opened, is) = some_opened c.args.language.now.definition c.args.editor.now.opened
    (option_copied c.as_ref.result) (c.as_ref.ensures.value ∙ c.in_ok-print_for.ensures.printed) c.in-Some.whole.now (ap option_copied c.in-Some.is) in
    stayed c.args.language.now.definition c.args.editor.now (Screen v.top v.left v.rows v.cols) (Seen c.in_ok-lines.lines)
    (screen_opened c.args.language.now.definition c.args.editor.now held opened c.in-Some.whole.now.text v
    (ap (λ (p : Printed). p.text) is) c.in_ok-lines.lines.items
    (c.in_ok-lines.ensures.lines ∙ ap (λ t. window_of t v) c.as_str.ensures))

pub print_for-requires-clause-sound : goal.print_for-requires-clause-sound
print_for-requires-clause-sound c = c.requires.language.sound
