use Rattle.std.proofs.Common.{◌≡◌, ap, subst, sym, ◌∙◌}
use Rattle.std.specs.Prelude.{string_bytes}
use Rattle.std.proofs.lemmas.Bool.{eqb-true}
use Rattle.std.proofs.lemmas.List.{nil_from_length}
use Rattle.psg_commented.specs.Keeping.{IsCommented, IsLost, IsWithComments, as_it_is, no_comments, with_them}
use Rattle.psg_commented.specs.Noting.{notes_of}
use Rattle.psg_commented.proofs.Keep.{none_at, some_at}
use Rattle.psg_commented.proofs.keeping.with_comments.Goals as goal

pub returns-then-is_empty : goal.returns-then-is_empty
returns-then-is_empty c =
    subst (λ t. IsWithComments c.args.lexis.now c.args.token.now c.args.text.now c.args.tokens.now c.args.comments.now c.args.printed.now t) (sym c.in_ok-new.ensures.ok)
    (no_comments (nil_from_length c.args.comments.now (eqb-true _ 0 (sym c.if-is_empty.ensures))))

pub returns-in-Some : goal.returns-in-Some
returns-in-Some c =
    let same : c.as_slice.result.now ≡ notes_of c.args.text.now c.args.tokens.now c.args.comments.now =
    c.as_slice.ensures.value ∙ c.in_ok-notes.ensures
    ∙ ap (λ t. notes_of t c.args.tokens.now c.args.comments.now) c.as_bytes.ensures.value in
    with_them (string_bytes c.in-Some.new)
    (subst (λ ns. IsCommented c.args.lexis.now c.args.token.now c.args.printed.now ns (string_bytes c.in-Some.new)) same
    (some_at _ c.in_ok-found.found c.in-Some.new c.in-Some.is c.in_ok-found.ensures.some))

pub returns : goal.returns
returns c =
    let same : c.as_slice.result.now ≡ notes_of c.args.text.now c.args.tokens.now c.args.comments.now =
    c.as_slice.ensures.value ∙ c.in_ok-notes.ensures
    ∙ ap (λ t. notes_of t c.args.tokens.now c.args.comments.now) c.as_bytes.ensures.value in
    subst (λ t. IsWithComments c.args.lexis.now c.args.token.now c.args.text.now c.args.tokens.now c.args.comments.now c.args.printed.now t) (sym c.in_ok-from_str-in-None.ensures.ok)
    (as_it_is (subst (λ ns. IsLost c.args.lexis.now c.args.token.now c.args.printed.now ns) same
    (none_at c.in_ok-found.found c.in-None.is c.in_ok-found.ensures.none)))
