use Rattle.std.proofs.Common.{sym, subst, true≢false, ◌∙◌}
use Rattle.psg_script.specs.declared.command.Command.TheVariants.{Cut}
use Rattle.psg_session.specs.declared.stop.Stop.TheVariants as stops
use Rattle.psg_session.specs.Outcomes.{IsPlan, IsProposal}
use Rattle.psg_session.proofs.ChangeLaws.{found_formed, kind_there}
use Rattle.psg_session.proofs.ChangeCut.{cut_nowhere, cut_declares, cut_made}
use Rattle.psg_session.proofs.Stopping.{passed}
use Rattle.psg_session.proofs.changes.cut.Goals as goal

pub returns-in_err-found : goal.returns-in_err-found
returns-in_err-found c =
    passed (IsPlan c.args.language.now.definition c.args.editor.now (Cut c.args.place.now)) _ (stops.Refused c.in_err-found.field-0.0) c.from_residual.ensures.1
    (cut_nowhere c.args.language.now.definition c.args.editor.now c.args.place.now c.in_err-found.field-0.0 c.in_err-found.ensures.err)

pub kind_of-kind-requires : goal.kind_of-kind-requires
kind_of-kind-requires c =
    let formed = found_formed c.args.language.now.definition c.args.editor.now c.args.place.now c.in_ok-found.found
    c.requires.editor c.in_ok-found.ensures.ok in
    record { formed = formed }

pub is_declaring-requires-clause-kind : goal.is_declaring-requires-clause-kind
is_declaring-requires-clause-kind c =
    kind_there c.args.language.now.definition c.requires.language.sound c.in_ok-found.found.node.now
    c.kind_of-kind.result
    (found_formed c.args.language.now.definition c.args.editor.now c.args.place.now c.in_ok-found.found c.requires.editor
    c.in_ok-found.ensures.ok) c.kind_of-kind.ensures

pub returns-then-is_declaring : goal.returns-then-is_declaring
returns-then-is_declaring c =
    cut_declares c.args.language.now.definition c.args.editor.now c.args.place.now c.in_ok-found.found c.in_ok-found.ensures.ok
    c.kind_of-kind.result c.kind_of-kind.ensures (c.is_declaring.ensures.0 c.if-is_declaring.true)

pub blank-requires : goal.blank-requires
blank-requires c =
    kind_there c.args.language.now.definition c.requires.language.sound c.in_ok-found.found.node.now
    c.kind_of-kind.result
    (found_formed c.args.language.now.definition c.args.editor.now c.args.place.now c.in_ok-found.found c.requires.editor
    c.in_ok-found.ensures.ok) c.kind_of-kind.ensures

pub returns : goal.returns
returns c =
    let def = c.args.language.now.definition in
    let found = c.in_ok-found.found in
    let there = kind_there def c.requires.language.sound found.node.now c.kind_of-kind.result
    (found_formed def c.args.editor.now c.args.place.now found c.requires.editor c.in_ok-found.ensures.ok)
    c.kind_of-kind.ensures in
    subst (IsProposal def c.args.editor.now (Cut c.args.place.now)) (sym c.in_ok-made.ensures)
    (cut_made def c.args.editor.now c.args.place.now found c.in_ok-found.ensures.ok c.kind_of-kind.result
    c.kind_of-kind.ensures c.requires.editor there
    (λ h. true≢false (sym (c.is_declaring.ensures.1 h) ∙ c.if-is_declaring.false)) c.in_ok-new.new c.in_ok-new.ensures)
