use Rattle.std.proofs.Common.{ap, ◌∙◌}
use Rattle.std.specs.Option.{option_copied}
use Rattle.psg_script.specs.declared.command.Command.TheVariants.{Goto}
use Rattle.psg_session.specs.declared.replies.Reply.TheVariants.{Refused}
use Rattle.psg_session.proofs.Asking.{stayed}
use Rattle.psg_session.proofs.ChangeLaws.{found_formed}
use Rattle.psg_session.proofs.Printouts.{is_printed, never_none}
use Rattle.psg_session.proofs.Showing.{go_found, go_not_found, go_some}
use Rattle.psg_session.specs.Outcomes.{IsOutcome}
use Rattle.psg_session.specs.PlainState.{not_asked}
use Rattle.psg_session.proofs.Stopping.{refused_by}
use Rattle.psg_session.proofs.printing.go.Goals as goal

pub returns-in_err-found-clause-outcome : goal.returns-in_err-found-clause-outcome
returns-in_err-found-clause-outcome c =
    let def = c.args.language.now.definition in
    let place = c.args.place.now in
    refused_by (IsOutcome def c.args.editor.now not_asked (Goto place)) _ c.in_err-found.field-0.0 c.from_residual.ensures.1
    (stayed def c.args.editor.now (Goto place) (Refused c.in_err-found.field-0.0)
    (go_not_found def c.args.editor.now place c.in_err-found.field-0.0 c.in_err-found.ensures.err))

pub unreachable-requires : goal.unreachable-requires
unreachable-requires c =
    never_none c.args.language.now.definition c.args.editor.now c.in_ok-found.found.held.now c.in_ok-found.ensures.ok.held
    (option_copied c.as_ref.result) (c.as_ref.ensures.value ∙ c.in_ok-print_for.ensures.printed) (ap option_copied c.in_default.is)

pub unreachable-requires-in_default-span_at : goal.unreachable-requires-in_default-span_at
unreachable-requires-in_default-span_at c =
    let def = c.args.language.now.definition in
    let is = is_printed def c.args.editor.now c.in_ok-found.found.held.now c.in_ok-found.ensures.ok.held
    (option_copied c.as_ref.result) (c.as_ref.ensures.value ∙ c.in_ok-print_for.ensures.printed) c.in-Some.whole.now (ap option_copied c.in-Some.is) in
    go_some def c.args.editor.now c.args.place.now c.requires.editor c.in_ok-found.found c.in_ok-found.ensures.ok
    c.in-Some.whole.now is c.as_slice.result.now c.steps.result.now c.as_slice.ensures c.steps.ensures
    c.in_default-span_at.ensures

pub goto_line-requires-clause-sound : goal.goto_line-requires-clause-sound
goto_line-requires-clause-sound c = c.requires.language.sound

pub goto_line-requires-clause-formed : goal.goto_line-requires-clause-formed
goto_line-requires-clause-formed c =
    found_formed c.args.language.now.definition c.args.editor.now c.args.place.now c.in_ok-found.found c.requires.editor
    c.in_ok-found.ensures.ok

pub returns-clause-outcome : goal.returns-clause-outcome
returns-clause-outcome c =
    let def = c.args.language.now.definition in
    let is = is_printed def c.args.editor.now c.in_ok-found.found.held.now c.in_ok-found.ensures.ok.held
    (option_copied c.as_ref.result) (c.as_ref.ensures.value ∙ c.in_ok-print_for.ensures.printed) c.in-Some.whole.now (ap option_copied c.in-Some.is) in
    let (k, first) = c.in-Some-span_at.ensures in
    let (kind, name, of_kind, named, told) = c.in_ok-line.ensures in
    go_found def c.args.editor.now c.args.place.now c.requires.editor c.in_ok-found.found c.in_ok-found.ensures.ok
    c.in-Some.whole.now is
    c.as_slice.result.now c.steps.result.now c.as_slice.ensures c.steps.ensures
    c.in-Some-span_at.span.now k first kind name of_kind named c.in_ok-line.line told c.in_ok-lines.lines c.in_ok-lines.ensures
    c.in_ok-cursor.cursor c.in_ok-cursor.ensures

pub print_for-requires-clause-sound : goal.print_for-requires-clause-sound
print_for-requires-clause-sound c = c.requires.language.sound
