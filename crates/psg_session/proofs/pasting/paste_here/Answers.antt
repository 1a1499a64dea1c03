use Rattle.std.proofs.Common.{None, sym, subst, ◌∙◌, true≢false}
use Rattle.psg_grammar.specs.declared.types.Kind.{Kind}
use Rattle.psg_grammar.specs.Kinds.{IsOfKind}
use Rattle.psg_script.specs.declared.command.Command.TheVariants.{Paste}
use Rattle.psg_session.specs.declared.stop.Stop.TheVariants as stops
use Rattle.psg_session.specs.Outcomes.{IsPlan, IsProposal}
use Rattle.psg_session.proofs.ChangeLaws.{found_formed}
use Rattle.psg_session.proofs.ChangePaste.{paste_made, paste_no_hole, paste_nowhere, paste_other}
use Rattle.psg_session.proofs.Stopping.{passed}
use Rattle.psg_session.proofs.pasting.paste_here.Goals as goal

pub returns-in_err-source : goal.returns-in_err-source
returns-in_err-source c =
    passed (IsPlan c.args.language.now.definition c.args.editor.now (Paste c.args.place.now None c.args.name.now)) _ (stops.Refused c.in_err-source.field-0.0) c.from_residual.ensures.1
    (paste_nowhere c.args.language.now.definition c.args.editor.now c.args.place.now None c.args.name.now
    c.in_err-source.field-0.0 c.in_err-source.ensures.err)

pub is_empty_place-requires : goal.is_empty_place-requires
is_empty_place-requires c =
    let formed = found_formed c.args.language.now.definition c.args.editor.now c.args.place.now c.in_ok-source.source.found
    c.requires.editor c.in_ok-source.ensures.ok.found in
    record { formed = formed }

pub returns-then-not-is_empty_place : goal.returns-then-not-is_empty_place
returns-then-not-is_empty_place c =
    paste_no_hole c.args.language.now.definition c.args.editor.now c.args.place.now c.args.name.now c.in_ok-source.source
    c.in_ok-source.ensures.ok (λ empty. true≢false (sym (c.is_empty_place.ensures.1 empty) ∙ c.if-not-is_empty_place.true))

pub kind_of-kind-requires : goal.kind_of-kind-requires
kind_of-kind-requires c =
    let formed = found_formed c.args.language.now.definition c.args.editor.now c.args.place.now c.in_ok-source.source.found
    c.requires.editor c.in_ok-source.ensures.ok.found in
    record { formed = formed }

pub returns-then-not-is_kind : goal.returns-then-not-is_kind
returns-then-not-is_kind c =
    paste_other c.args.language.now.definition c.args.editor.now c.args.place.now c.args.name.now c.in_ok-source.source
    c.in_ok-source.ensures.ok (c.is_empty_place.ensures.0 c.if-not-is_empty_place.false) c.kind_of-kind.result
    c.kind_of-kind.ensures (λ same. true≢false (sym (c.is_kind.ensures.1 same) ∙ c.if-not-is_kind.true))

pub returns : goal.returns
returns c =
    let def = c.args.language.now.definition in
    let source = c.in_ok-source.source in
    subst (IsProposal def c.args.editor.now (Paste c.args.place.now None c.args.name.now)) (sym c.in_ok-made.ensures)
    (paste_made def c.args.editor.now c.args.place.now c.args.name.now source c.in_ok-source.ensures.ok
    (c.is_empty_place.ensures.0 c.if-not-is_empty_place.false) c.requires.editor
    (subst (λ (k : Kind). IsOfKind def source.found.node.now k)
    (sym (c.is_kind.ensures.0 c.if-not-is_kind.false)) c.kind_of-kind.ensures)
    c.in_ok-new.new c.in_ok-new.ensures)
