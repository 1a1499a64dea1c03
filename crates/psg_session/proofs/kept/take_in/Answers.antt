use Rattle.std.proofs.Common.{◌∙◌, [], ◌∷◌, ◌++◌, List, ap, map, sym, subst, true≢false}
use Rattle.std.specs.Prelude.{codes, string_bytes}
use Rattle.psg_terms.specs.Names.{Name}
use Rattle.psg_library.specs.declared.fragment.SavedFragment.{SavedFragment as Saved}
use Rattle.psg_session.specs.Shelf.{saved_with, IsFull}
use Rattle.psg_session.proofs.KeptLaws.{fetch_done, fetch_full, fetch_refused}
use Rattle.psg_script.specs.declared.command.Command.TheVariants.{Fetch}
use Rattle.psg_session.specs.Outcomes.{IsOutcome}
use Rattle.psg_session.specs.PlainState.{got}
use Rattle.psg_session.proofs.Stopping.{found_by}
use Rattle.psg_session.proofs.kept.take_in.Goals as goal

pub returns-in_err-saved-clause-outcome : goal.returns-in_err-saved-clause-outcome
returns-in_err-saved-clause-outcome g c = λ file.
    let def = c.args.language.now.definition in
    found_by (IsOutcome def c.args.editor.now (got c.args.bytes.now) (Fetch file)) _ c.in_err-saved.field-0.0
    c.from_residual.ensures.1
    (fetch_refused def c.args.editor.now c.args.bytes.now file c.in_err-saved.field-0.0 c.in_err-saved.ensures.fragment)

pub returns-then-is_full-clause-outcome : goal.returns-then-is_full-clause-outcome
returns-then-is_full-clause-outcome g c = λ file.
    let x : Saved = c.in_ok-saved.saved in
    fetch_full c.args.language.now.definition c.args.editor.now c.args.bytes.now file c.requires.language.sound
    c.requires.language.accepted.of_class x
    c.in_ok-saved.ensures.fragment
    (subst (λ (xs : List Saved). IsFull xs x.name) c.as_slice-shelf.ensures (c.is_full.ensures.0 c.if-is_full.true))

pub returns-clause-outcome : goal.returns-clause-outcome
returns-clause-outcome g c = λ file.
    let x : Saved = c.in_ok-saved.saved in
    let done = fetch_done c.args.language.now.definition c.args.editor.now c.args.bytes.now file
    c.requires.language.sound c.requires.language.accepted.of_class x
    c.in_ok-saved.ensures.fragment
    (λ full. true≢false (sym (c.is_full.ensures.1
    (subst (λ (xs : List Saved). IsFull xs x.name) (sym c.as_slice-shelf.ensures) full)) ∙ c.if-is_full.false))
    c.requires.editor c.in_ok-kept.kept
    (c.in_ok-kept.ensures ∙ ap (λ (xs : List Saved). saved_with xs x) c.as_slice-shelf.ensures)
    (map string_bytes c.in_ok-lines.lines.items)
    (c.in_ok-lines.ensures ∙ ap (λ (n : Name). (codes "fetched " ++ n) ∷ []) c.as_str-word.ensures) in
    record { steps = done.0; fit = done.1 }
