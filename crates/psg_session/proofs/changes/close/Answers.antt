use Rattle.std.proofs.Common.{true, true≢false, sym, subst, ◌∙◌}
use Rattle.psg_session.specs.declared.stop.Stop.TheVariants as stops
use Rattle.psg_session.specs.Outcomes.{IsPlan, IsProposal}
use Rattle.psg_script.specs.declared.command.Command.TheVariants.{Close}
use Rattle.psg_session.proofs.ChangeLaws.{end_is_list, found_formed}
use Rattle.psg_session.proofs.ChangeClose.{close_nowhere, close_refused, close_made}
use Rattle.psg_session.proofs.Stopping.{passed}
use Rattle.psg_session.proofs.changes.close.Goals as goal

pub returns-in_err-found : goal.returns-in_err-found
returns-in_err-found c =
    passed (IsPlan c.args.language.now.definition c.args.editor.now (Close c.args.place.now)) _ (stops.Refused c.in_err-found.field-0.0) c.from_residual.ensures.1
    (close_nowhere c.args.language.now.definition c.args.editor.now c.args.place.now c.in_err-found.field-0.0
    c.in_err-found.ensures.err)

pub is_unfinished-requires : goal.is_unfinished-requires
is_unfinished-requires c =
    let formed = found_formed c.args.language.now.definition c.args.editor.now c.args.place.now c.in_ok-found.found
    c.requires.editor c.in_ok-found.ensures.ok in
    record { formed = formed }

pub returns-then-not-is_unfinished : goal.returns-then-not-is_unfinished
returns-then-not-is_unfinished c =
    close_refused c.args.language.now.definition c.args.editor.now c.args.place.now c.in_ok-found.found c.in_ok-found.ensures.ok
    (λ h. true≢false (sym (c.is_unfinished.ensures.1 h) ∙ c.if-not-is_unfinished.true))

pub with_end-requires : goal.with_end-requires
with_end-requires c =
    end_is_list c.args.language.now.definition c.in_ok-found.found.node.now true
    (c.is_unfinished.ensures.0 c.if-not-is_unfinished.false)

pub returns : goal.returns
returns c =
    let def = c.args.language.now.definition in
    let found = c.in_ok-found.found in
    subst (IsProposal def c.args.editor.now (Close c.args.place.now)) (sym c.in_ok-made.ensures)
    (close_made def c.args.editor.now c.args.place.now found c.in_ok-found.ensures.ok c.requires.editor
    (c.is_unfinished.ensures.0 c.if-not-is_unfinished.false) c.in_ok-new.new c.in_ok-new.ensures)
