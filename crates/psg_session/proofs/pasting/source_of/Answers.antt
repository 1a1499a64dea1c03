use Rattle.std.proofs.Common.{inl, inr, refl, sym, ap, ◌∙◌, List}
use Rattle.std.specs.Prelude.{option_copied}
use Rattle.psg_library.specs.declared.fragment.SavedFragment.{SavedFragment as Saved}
use Rattle.psg_session.specs.Shelf.{saved_at}
use Rattle.psg_session.proofs.Options.{only_none}
use Rattle.psg_session.proofs.ChangePaste.{no_source}
use Rattle.psg_session.proofs.pasting.source_of.Goals as goal

pub returns-in_default-clause-err : goal.returns-in_default-clause-err
returns-in_default-clause-err c = inl (refl, only_none c.args.editor.now.opened c.in_default.not-Some)

pub returns-in_default-saved_named-clause-err : goal.returns-in_default-saved_named-clause-err
returns-in_default-saved_named-clause-err c = inr (
  c.in-Some.field-0,
  c.in-Some.is,
  inl (
    refl,
    ap (λ (xs : List Saved). saved_at xs c.args.name.now) (sym c.as_slice.ensures) ∙ sym c.saved_named.ensures
        ∙ ap option_copied (only_none c.saved_named.result c.in_default-saved_named.not-Some),
  ),
)

pub returns-in-Ok-clause-ok : goal.returns-in-Ok-clause-ok
returns-in-Ok-clause-ok c = record {
  saved = ap (λ (xs : List Saved). saved_at xs c.args.name.now) (sym c.as_slice.ensures) ∙ sym c.saved_named.ensures
      ∙ ap option_copied c.in-Some-saved_named.is;
  found = c.in-Ok.ensures.ok;
}

pub returns-in-Err-clause-err : goal.returns-in-Err-clause-err
returns-in-Err-clause-err c =
    no_source c.args.editor.now c.args.place.now c.args.name.now c.in-Some.field-0 c.in-Some.is
    c.in-Some-saved_named.saved.now
    (ap (λ (xs : List Saved). saved_at xs c.args.name.now) (sym c.as_slice.ensures) ∙ sym c.saved_named.ensures
    ∙ ap option_copied c.in-Some-saved_named.is) c.in-Err.refusal c.in-Err.ensures.err
