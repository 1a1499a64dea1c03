use Rattle.std.proofs.Common.{sym, subst}
use Rattle.psg_grammar.specs.Paths.{Path}
use Rattle.psg_script.specs.declared.command.Command.TheVariants.{Insert}
use Rattle.psg_session.specs.declared.edits.Edit.TheVariants.{Add}
use Rattle.psg_session.specs.declared.judging.Trial.TheVariants.{Grows}
use Rattle.psg_session.specs.declared.stop.Stop.TheVariants as stops
use Rattle.psg_session.specs.Outcomes.{IsPlan, IsProposal, proposal_of}
use Rattle.psg_session.proofs.ChangeLaws.{found_formed}
use Rattle.psg_session.proofs.ChangeInsert.{insert_nowhere, insert_no_list, insert_behind, insert_refused, insert_made}
use Rattle.psg_session.proofs.NewTrees.{quiet_slots}
use Rattle.psg_session.proofs.Stopping.{passed}
use Rattle.psg_session.proofs.changes.insert_element.Goals as goal

pub returns-in_err-found : goal.returns-in_err-found
returns-in_err-found c =
    passed (IsPlan c.args.language.now.definition c.args.editor.now (Insert c.args.place.now c.args.number c.args.name.now c.args.arguments.now)) _ (stops.Refused c.in_err-found.field-0.0) c.from_residual.ensures.1
    (insert_nowhere c.args.language.now.definition c.args.editor.now c.args.place.now c.args.number c.args.name.now
    c.args.arguments.now c.in_err-found.field-0.0 c.in_err-found.ensures.err)

pub as_list-requires : goal.as_list-requires
as_list-requires c =
    let formed = found_formed c.args.language.now.definition c.args.editor.now c.args.place.now c.in_ok-found.found
    c.requires.editor c.in_ok-found.ensures.ok in
    record { formed = formed }

pub returns-in_default : goal.returns-in_default
returns-in_default c =
    insert_no_list c.args.language.now.definition c.args.editor.now c.args.place.now c.args.number c.args.name.now
    c.args.arguments.now c.in_ok-found.found c.in_ok-found.ensures.ok c.in_default.ensures.none

pub returns-then-list-number : goal.returns-then-list-number
returns-then-list-number c =
    insert_behind c.args.language.now.definition c.args.editor.now c.args.place.now c.args.number c.args.name.now
    c.args.arguments.now c.in_ok-found.found c.in_ok-found.ensures.ok
    c.in-Some.list c.in-Some.ensures.some c.if-list-number.true

pub returns-in_err-fresh : goal.returns-in_err-fresh
returns-in_err-fresh c =
    let def = c.args.language.now.definition in
    let p = c.in-Some.list.kind.now.element in
    passed (IsPlan def c.args.editor.now (Insert c.args.place.now c.args.number c.args.name.now c.args.arguments.now)) _ c.in_err-fresh.field-0.0 c.from_residual-in_err-fresh.ensures.1
    (insert_refused def c.args.editor.now c.args.place.now c.args.number c.args.name.now c.args.arguments.now
    c.in_ok-found.found c.in_ok-found.ensures.ok c.in-Some.list c.in-Some.ensures.some
    c.requires.language.sound c.if-list-number.false c.in_err-fresh.field-0.0
    c.in_err-fresh.ensures)

pub returns : goal.returns
returns c =
    let def = c.args.language.now.definition in
    let found = c.in_ok-found.found in
    let p = c.in-Some.list.kind.now.element in
    let command = Insert c.args.place.now c.args.number c.args.name.now c.args.arguments.now in
    let (o, leaves, named, of, gives, is_fresh) =
    c.in_ok-fresh.ensures in
    subst (λ (at : Path). IsProposal def c.args.editor.now command
    (proposal_of Grows (Add at c.args.number c.in_ok-fresh.fresh) c.in_ok-cursor.cursor)) (sym c.in_ok-at.ensures)
    (subst (λ (cursor : Path). IsProposal def c.args.editor.now command
    (proposal_of Grows (Add found.path.now c.args.number c.in_ok-fresh.fresh) cursor)) (sym c.in_ok-cursor.ensures)
    (insert_made def c.args.editor.now c.args.place.now c.args.number c.args.name.now c.args.arguments.now found
    c.in_ok-found.ensures.ok c.in-Some.list c.in-Some.ensures.some c.requires.language.sound c.if-list-number.false
    o leaves named of gives (quiet_slots def c.requires.language.accepted) c.in_ok-fresh.fresh is_fresh))
