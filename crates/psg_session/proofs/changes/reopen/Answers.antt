use Rattle.std.proofs.Common.{false, true≢false, sym, subst, ◌∙◌}
use Rattle.psg_session.specs.declared.stop.Stop.TheVariants as stops
use Rattle.psg_session.specs.Outcomes.{IsPlan, IsProposal}
use Rattle.psg_script.specs.declared.command.Command.TheVariants.{Reopen}
use Rattle.psg_session.proofs.ChangeLaws.{end_is_list, found_formed}
use Rattle.psg_session.proofs.ChangeReopen.{reopen_nowhere, reopen_refused, reopen_made}
use Rattle.psg_session.proofs.Stopping.{passed}
use Rattle.psg_session.proofs.changes.reopen.Goals as goal

pub returns-in_err-found : goal.returns-in_err-found
returns-in_err-found c =
    passed (IsPlan c.args.language.now.definition c.args.editor.now (Reopen c.args.place.now)) _ (stops.Refused c.in_err-found.field-0.0) c.from_residual.ensures.1
    (reopen_nowhere c.args.language.now.definition c.args.editor.now c.args.place.now c.in_err-found.field-0.0
    c.in_err-found.ensures.err)

pub may_reopen-requires : goal.may_reopen-requires
may_reopen-requires c =
    let formed = found_formed c.args.language.now.definition c.args.editor.now c.args.place.now c.in_ok-found.found
    c.requires.editor c.in_ok-found.ensures.ok in
    record { formed = formed }

pub returns-then-not-may_reopen : goal.returns-then-not-may_reopen
returns-then-not-may_reopen c =
    reopen_refused c.args.language.now.definition c.args.editor.now c.args.place.now c.in_ok-found.found c.in_ok-found.ensures.ok
    (λ h. true≢false (sym (c.may_reopen.ensures.1 h) ∙ c.if-not-may_reopen.true))

pub with_end-requires : goal.with_end-requires
with_end-requires c =
    end_is_list c.args.language.now.definition c.in_ok-found.found.node.now false
    (c.may_reopen.ensures.0 c.if-not-may_reopen.false).3

pub returns : goal.returns
returns c =
    let def = c.args.language.now.definition in
    let found = c.in_ok-found.found in
    subst (IsProposal def c.args.editor.now (Reopen c.args.place.now)) (sym c.in_ok-made.ensures)
    (reopen_made def c.args.editor.now c.args.place.now found c.in_ok-found.ensures.ok c.requires.editor
    (c.may_reopen.ensures.0 c.if-not-may_reopen.false) c.in_ok-new.new c.in_ok-new.ensures)
