use Rattle.std.proofs.Common.{Some, sym, subst, ◌∙◌, true≢false}
use Rattle.psg_grammar.specs.Paths.{Path}
use Rattle.psg_script.specs.declared.command.Command.TheVariants.{Paste}
use Rattle.psg_session.specs.declared.edits.Edit.TheVariants.{Add}
use Rattle.psg_session.specs.declared.judging.Trial.TheVariants.{Grows}
use Rattle.psg_session.specs.declared.stop.Stop.TheVariants as stops
use Rattle.psg_session.specs.Outcomes.{IsPlan, IsProposal, proposal_of}
use Rattle.psg_session.proofs.ChangeLaws.{found_formed}
use Rattle.psg_session.proofs.ChangePaste.{paste_behind, paste_in_made, paste_no_list, paste_nowhere, paste_other_in}
use Rattle.psg_session.proofs.Stopping.{passed}
use Rattle.psg_session.proofs.pasting.paste_element.Goals as goal

pub returns-in_err-source : goal.returns-in_err-source
returns-in_err-source c =
    passed (IsPlan c.args.language.now.definition c.args.editor.now (Paste c.args.place.now (Some c.args.number) c.args.name.now)) _ (stops.Refused c.in_err-source.field-0.0) c.from_residual.ensures.1
    (paste_nowhere c.args.language.now.definition c.args.editor.now c.args.place.now (Some c.args.number)
    c.args.name.now c.in_err-source.field-0.0 c.in_err-source.ensures.err)

pub as_list-requires : goal.as_list-requires
as_list-requires c =
    let formed = found_formed c.args.language.now.definition c.args.editor.now c.args.place.now c.in_ok-source.source.found
    c.requires.editor c.in_ok-source.ensures.ok.found in
    record { formed = formed }

pub returns-in_default : goal.returns-in_default
returns-in_default c =
    paste_no_list c.args.language.now.definition c.args.editor.now c.args.place.now c.args.name.now c.in_ok-source.source
    c.in_ok-source.ensures.ok c.args.number c.in_default.ensures.none

pub returns-then-list-number : goal.returns-then-list-number
returns-then-list-number c =
    paste_behind c.args.language.now.definition c.args.editor.now c.args.place.now c.args.name.now c.in_ok-source.source
    c.in_ok-source.ensures.ok c.args.number c.in-Some.list c.in-Some.ensures.some c.if-list-number.true

pub returns-then-not-is_kind : goal.returns-then-not-is_kind
returns-then-not-is_kind c =
    paste_other_in c.args.language.now.definition c.args.editor.now c.args.place.now c.args.name.now c.in_ok-source.source
    c.in_ok-source.ensures.ok c.args.number c.in-Some.list c.in-Some.ensures.some c.if-list-number.false
    (λ same. true≢false (sym (c.is_kind.ensures.1 same) ∙ c.if-not-is_kind.true))

pub returns : goal.returns
returns c =
    let def = c.args.language.now.definition in
    let source = c.in_ok-source.source in
    let command = Paste c.args.place.now (Some c.args.number) c.args.name.now in
    subst (λ (at : Path). IsProposal def c.args.editor.now command
    (proposal_of Grows (Add at c.args.number c.in_ok-new.new) c.in_ok-cursor.cursor)) (sym c.in_ok-at.ensures)
    (subst (λ (cursor : Path). IsProposal def c.args.editor.now command
    (proposal_of Grows (Add source.found.path.now c.args.number c.in_ok-new.new) cursor)) (sym c.in_ok-cursor.ensures)
    (paste_in_made def c.args.editor.now c.args.place.now c.args.name.now source c.in_ok-source.ensures.ok c.args.number
    c.in-Some.list c.in-Some.ensures.some c.if-list-number.false c.requires.editor
    (c.is_kind.ensures.0 c.if-not-is_kind.false) c.in_ok-new.new c.in_ok-new.ensures))
