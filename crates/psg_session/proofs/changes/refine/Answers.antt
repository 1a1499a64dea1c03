use Rattle.std.proofs.Common.{sym, subst}
use Rattle.psg_script.specs.declared.command.Command.TheVariants.{Refine}
use Rattle.psg_session.specs.declared.stop.Stop.TheVariants as stops
use Rattle.psg_session.specs.Outcomes.{IsPlan, IsProposal}
use Rattle.psg_session.proofs.ChangeRefine.{refine_nowhere, refine_no_hole, refine_refused, refine_made}
use Rattle.psg_session.proofs.NewTrees.{quiet_slots}
use Rattle.psg_session.proofs.Stopping.{passed}
use Rattle.psg_session.proofs.changes.refine.Goals as goal

pub returns-in_err-found : goal.returns-in_err-found
returns-in_err-found c =
    passed (IsPlan c.args.language.now.definition c.args.editor.now (Refine c.args.place.now c.args.name.now c.args.arguments.now)) _ (stops.Refused c.in_err-found.field-0.0) c.from_residual.ensures.1
    (refine_nowhere c.args.language.now.definition c.args.editor.now c.args.place.now c.args.name.now
    c.args.arguments.now c.in_err-found.field-0.0 c.in_err-found.ensures.err)

pub returns-in_default : goal.returns-in_default
returns-in_default c =
    refine_no_hole c.args.language.now.definition c.args.editor.now c.args.place.now c.args.name.now
    c.args.arguments.now c.in_ok-found.found c.in_ok-found.ensures.ok c.in_default.ensures.none

pub returns-in_err-fresh : goal.returns-in_err-fresh
returns-in_err-fresh c =
    let def = c.args.language.now.definition in
    passed (IsPlan def c.args.editor.now (Refine c.args.place.now c.args.name.now c.args.arguments.now)) _ c.in_err-fresh.field-0.0 c.from_residual-in_err-fresh.ensures.1
    (refine_refused def c.args.editor.now c.args.place.now c.args.name.now c.args.arguments.now c.in_ok-found.found
    c.in_ok-found.ensures.ok c.requires.language.sound c.in-Some.phylum c.in-Some.ensures.some
    c.in_err-fresh.field-0.0
    c.in_err-fresh.ensures)

pub returns : goal.returns
returns c =
    let def = c.args.language.now.definition in
    let found = c.in_ok-found.found in
    let (o, leaves, named, of, gives, is_fresh) =
    c.in_ok-fresh.ensures in
    subst (IsProposal def c.args.editor.now (Refine c.args.place.now c.args.name.now c.args.arguments.now))
    (sym c.in_ok-made.ensures)
    (refine_made def c.args.editor.now c.args.place.now c.args.name.now c.args.arguments.now found c.in_ok-found.ensures.ok
    c.requires.language.sound c.in-Some.phylum c.in-Some.ensures.some o leaves named of gives
    (quiet_slots def c.requires.language.accepted) c.requires.editor c.in_ok-fresh.fresh is_fresh)
