use Rattle.std.proofs.Common.{map}
use Rattle.std.specs.Prelude.{string_bytes}
use Rattle.psg_script.specs.declared.command.Command.TheVariants.{Own}
use Rattle.psg_session.specs.declared.replies.Reply.TheVariants.{Answered, Refused}
use Rattle.psg_session.proofs.Asking.{own_not_found, own_found, own_known, own_some, stayed}
use Rattle.psg_session.specs.Outcomes.{IsOutcome}
use Rattle.psg_session.specs.PlainState.{not_asked}
use Rattle.psg_session.proofs.Stopping.{refused_by}
use Rattle.psg_session.proofs.questions.own.Goals as goal

pub returns-in_err-found : goal.returns-in_err-found
returns-in_err-found c =
    let def = c.args.language.now.definition in
    let place = c.args.place.now in
    refused_by (IsOutcome def c.args.editor.now not_asked (Own place)) _ c.in_err-found.field-0.0 c.from_residual.ensures.1
    (stayed def c.args.editor.now (Own place) (Refused c.in_err-found.field-0.0)
    (own_not_found def c.args.editor.now place c.in_err-found.field-0.0 c.in_err-found.ensures.err))

pub unreachable-requires : goal.unreachable-requires
unreachable-requires c = own_some c.args.language.now.definition c.args.editor.now c.args.place.now c.requires.editor
    c.in_ok-found.found c.in_ok-found.ensures.ok c.in_default.ensures.none

pub returns : goal.returns
returns c =
    let def = c.args.language.now.definition in
    let place = c.args.place.now in
    stayed def c.args.editor.now (Own place) (Answered c.in_ok-lines.lines)
    (own_found def c.args.editor.now place c.in_ok-found.found c.in_ok-found.ensures.ok c.in-Some.summary.now
    (own_known def c.args.editor.now place c.requires.editor c.in_ok-found.found c.in_ok-found.ensures.ok c.in-Some.summary.now c.in-Some.ensures.some)
    (map string_bytes c.in_ok-lines.lines.items) c.in_ok-lines.ensures)
