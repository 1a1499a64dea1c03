use Rattle.std.proofs.Common.{sym, ap, ◌∙◌}
use Rattle.std.specs.Prelude.{string_bytes}
use Rattle.std.proofs.lemmas.Bool.{eqb-true}
use Rattle.std.proofs.lemmas.List.{nil_from_length}
use Rattle.psg_commented.proofs.Keep.{none_at, some_at}
use Rattle.psg_keeping.proofs.KeepLaws.{kept_none, kept_top, kept_with}
use Rattle.psg_keeping.proofs.writing.kept_in.Goals as goal

pub returns-then-is_empty : goal.returns-then-is_empty
returns-then-is_empty c =
    kept_none c.args.lexis.now c.args.token.now c.args.old.now c.args.new.now c.in_ok-blanked.blanked.comments.items
    c.in_ok-blanked.blanked.bytes.items _ c.in_ok-blanked.ensures
    (sym c.as_slice-comments.ensures.value ∙ nil_from_length c.as_slice-comments.result.now (eqb-true _ 0 (sym c.if-is_empty.ensures)))
    (c.in_ok-bytes.ensures.items ∙ c.as_bytes.ensures.value)

pub returns-in-Some : goal.returns-in-Some
returns-in-Some c =
    kept_with c.args.lexis.now c.args.token.now c.args.old.now c.args.new.now c.in_ok-notes.notes.items c.as_slice.result.now
    (string_bytes c.in-Some.text) _ (c.in_ok-notes.ensures c.args.token.now c.in_ok-blanked.ensures) c.as_slice.ensures.value
    (some_at _ c.in_ok-found.found c.in-Some.text c.in-Some.is c.in_ok-found.ensures.some) (ap (λ v. v.items) c.into_bytes.ensures.value)

pub returns : goal.returns
returns c =
    kept_top c.args.lexis.now c.args.token.now c.args.old.now c.args.new.now c.in_ok-notes.notes.items c.as_slice.result.now
    c.as_slice-in-None.result.now _ (c.in_ok-notes.ensures c.args.token.now c.in_ok-blanked.ensures) c.as_slice.ensures.value
    c.as_slice-in-None.ensures.value (none_at c.in_ok-found.found c.in-None.is c.in_ok-found.ensures.none)
    c.in_ok-top-in-None.ensures
