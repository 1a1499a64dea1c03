use Rattle.std.proofs.Common.{sym, subst}
use Rattle.psg_grammar.specs.Paths.{Path}
use Rattle.psg_script.specs.declared.command.Command.TheVariants.{Remove}
use Rattle.psg_session.specs.declared.edits.Edit.TheVariants.{Take}
use Rattle.psg_session.specs.declared.judging.Trial.TheVariants.{Loosens}
use Rattle.psg_session.specs.declared.stop.Stop.TheVariants as stops
use Rattle.psg_session.specs.Outcomes.{IsPlan, IsProposal, proposal_of}
use Rattle.psg_session.proofs.ChangeLaws.{found_formed}
use Rattle.psg_session.proofs.ChangeRemove.{remove_nowhere, remove_no_list, remove_behind, remove_made}
use Rattle.psg_session.proofs.Stopping.{passed}
use Rattle.psg_session.proofs.changes.remove_element.Goals as goal

pub returns-in_err-found : goal.returns-in_err-found
returns-in_err-found c =
    passed (IsPlan c.args.language.now.definition c.args.editor.now (Remove c.args.place.now c.args.number)) _ (stops.Refused c.in_err-found.field-0.0) c.from_residual.ensures.1
    (remove_nowhere c.args.language.now.definition c.args.editor.now c.args.place.now c.args.number c.in_err-found.field-0.0
    c.in_err-found.ensures.err)

pub as_list-requires : goal.as_list-requires
as_list-requires c =
    let formed = found_formed c.args.language.now.definition c.args.editor.now c.args.place.now c.in_ok-found.found
    c.requires.editor c.in_ok-found.ensures.ok in
    record { formed = formed }

pub returns-in_default : goal.returns-in_default
returns-in_default c =
    remove_no_list c.args.language.now.definition c.args.editor.now c.args.place.now c.args.number c.in_ok-found.found
    c.in_ok-found.ensures.ok c.in_default.ensures.none

pub returns-then-list-number : goal.returns-then-list-number
returns-then-list-number c =
    remove_behind c.args.language.now.definition c.args.editor.now c.args.place.now c.args.number c.in_ok-found.found
    c.in_ok-found.ensures.ok c.in-Some.list c.in-Some.ensures.some c.if-list-number.true

pub returns : goal.returns
returns c =
    let def = c.args.language.now.definition in
    let found = c.in_ok-found.found in
    subst (λ (p : Path). IsProposal def c.args.editor.now (Remove c.args.place.now c.args.number)
    (proposal_of Loosens (Take p c.args.number) c.in_ok-cursor.cursor)) (sym c.in_ok-at.ensures)
    (subst (λ (p : Path). IsProposal def c.args.editor.now (Remove c.args.place.now c.args.number)
    (proposal_of Loosens (Take found.path.now c.args.number) p)) (sym c.in_ok-cursor.ensures)
    (remove_made def c.args.editor.now c.args.place.now c.args.number found c.in_ok-found.ensures.ok c.in-Some.list
    c.in-Some.ensures.some c.if-list-number.false))
