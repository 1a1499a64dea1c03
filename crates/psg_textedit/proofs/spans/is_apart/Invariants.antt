use Rattle.std.proofs.Common.{◌≡◌, ◌<◌, ℕ, Some, slice_get}
use Rattle.psg_lexis.specs.Tokens.{IsBeside}
use Rattle.psg_lexis.specs.declared.token.Spanned.{Spanned}
use Rattle.psg_textedit.proofs.spans.is_apart.Given as goal

abbrev pub invariant-loop-token : goal.invariant-loop-token
invariant-loop-token l = (k : ℕ) (s : Spanned) → k < l.token-index → slice_get l.tokens k ≡ Some s → IsBeside l.border s
