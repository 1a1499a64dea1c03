use Rattle.std.proofs.Common.{◌∙◌, List, ap, map, sym, subst, true≢false}
use Rattle.std.specs.Prelude.{string_bytes}
use Rattle.psg_terms.specs.Names.{Name}
use Rattle.psg_grammar.specs.Fragments.{Fragment}
use Rattle.psg_library.specs.declared.fragment.SavedFragment.{SavedFragment as Saved}
use Rattle.psg_session.specs.Shelf.{saved_with, IsFull}
use Rattle.psg_session.proofs.ChangeLaws.{found_formed}
use Rattle.psg_session.proofs.Shelving.{save_done, save_full, save_nowhere}
use Rattle.psg_session.specs.Outcomes.{IsOutcome}
use Rattle.psg_session.specs.PlainState.{not_asked}
use Rattle.psg_script.specs.declared.command.Command.TheVariants.{Save}
use Rattle.psg_session.proofs.Stopping.{refused_by}
use Rattle.psg_session.proofs.saved.save.Goals as goal

pub returns-in_err-found : goal.returns-in_err-found
returns-in_err-found c =
    refused_by (IsOutcome c.args.language.now.definition c.args.editor.now not_asked (Save c.args.name.now c.args.place.now)) _ c.in_err-found.field-0.0 c.from_residual.ensures.1
    (save_nowhere c.args.language.now.definition c.args.editor.now c.args.place.now c.args.name.now
    c.in_err-found.field-0.0 c.in_err-found.ensures.err)

pub returns-then-is_full : goal.returns-then-is_full
returns-then-is_full c =
    save_full c.args.language.now.definition c.args.editor.now c.args.place.now c.args.name.now c.in_ok-found.found
    c.in_ok-found.ensures.ok
    (subst (λ (xs : List Saved). IsFull xs c.args.name.now) c.as_slice-shelf.ensures (c.is_full.ensures.0 c.if-is_full.true))

pub kind_of-kind-requires : goal.kind_of-kind-requires
kind_of-kind-requires c =
    let formed = found_formed c.args.language.now.definition c.args.editor.now c.args.place.now c.in_ok-found.found
    c.requires.editor c.in_ok-found.ensures.ok in
    record { formed = formed }

pub returns : goal.returns
returns c =
    let new : Saved = record { name = c.in_ok-own_name.own_name; kind = c.kind_of-kind.result; tree = c.in_ok-tree.tree } in
    let done = save_done c.args.language.now.definition c.args.editor.now c.args.place.now c.args.name.now
    c.in_ok-found.found c.in_ok-found.ensures.ok
    (λ full. true≢false (sym (c.is_full.ensures.1
    (subst (λ (xs : List Saved). IsFull xs c.args.name.now) (sym c.as_slice-shelf.ensures) full)) ∙ c.if-is_full.false))
    c.requires.editor c.kind_of-kind.result c.kind_of-kind.ensures new
    (ap (λ (n : Name). record { name = n; kind = c.kind_of-kind.result; tree = c.in_ok-tree.tree }) c.in_ok-own_name.ensures
    ∙ ap (λ (t : Fragment). record { name = c.args.name.now; kind = c.kind_of-kind.result; tree = t }) c.in_ok-tree.ensures)
    c.in_ok-saved.saved
    (c.in_ok-saved.ensures ∙ ap (λ (xs : List Saved). saved_with xs new) c.as_slice-shelf.ensures)
    (map string_bytes c.in_ok-lines.lines.items) c.in_ok-lines.ensures in
    record { steps = done.0; fit = done.1 }
