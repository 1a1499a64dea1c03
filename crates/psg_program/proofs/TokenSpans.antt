-- The bytes of a token that has those of a token of the text.
use Rattle.std.proofs.Common.{◌≡◌, ℕ, ◌≤◌, List, Option, Some, None, slice_get, refl, subst, arith}
use Rattle.std.specs.Str.{IsCharBoundary, IsUtf8}
use Rattle.psg_grammar.specs.declared.types.Definition.{Definition}
use Rattle.psg_grammar.specs.WellFormed.{fixed_words}
use Rattle.psg_lexis.specs.declared.token.Spanned.{Spanned}
use Rattle.psg_class.specs.Texts.{TextTokens}
use Rattle.psg_program.specs.Messages.{HasSpan}
use Rattle.psg_program.proofs.TokenBytes.{end_between, in_order, start_between}

by_item : (def : Definition) (text : List ℕ) (tokens : List Spanned) → TextTokens def text tokens → (stop : ℕ)
    (item : Option Spanned) → slice_get tokens stop ≡ item → HasSpan text item
by_item def text tokens are stop None e = tt
by_item def text tokens are stop (Some t) e = (def, tokens, are, stop, t, e, refl, refl)

-- each token of a text has the bytes of one
pub has_span : (def : Definition) (text : List ℕ) (tokens : List Spanned) → TextTokens def text tokens → (stop : ℕ)
    → HasSpan text (slice_get tokens stop)
has_span def text tokens are stop = by_item def text tokens are stop (slice_get tokens stop) refl

module _ (text : List ℕ) (utf8 : IsUtf8 text) (t : Spanned) where
  pub spans_order : HasSpan text (Some t) → t.start ≤ t.end
  spans_order (def, ts, are, place, own, there, s, e) =
      let le = in_order text utf8 (fixed_words def) ts are place own there in
      omega (arith, le, s, e)

  pub spans_start : HasSpan text (Some t) → IsCharBoundary text t.start
  spans_start (def, ts, are, place, own, there, s, e) =
      subst (IsCharBoundary text) s (start_between text utf8 (fixed_words def) ts are place own there)

  pub spans_end : HasSpan text (Some t) → IsCharBoundary text t.end
  spans_end (def, ts, are, place, own, there, s, e) =
      subst (IsCharBoundary text) e (end_between text utf8 (fixed_words def) ts are place own there)
