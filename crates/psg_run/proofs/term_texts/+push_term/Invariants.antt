use Rattle.std.proofs.Common.{◌≡◌, ◌++◌, ℕ, List, take, slice_get}
use Rattle.std.specs.Prelude.{string_bytes}
use Rattle.psg_terms.specs.Sizes.{size}
use Rattle.psg_terms.specs.Terms.{symbol, applied}
use Rattle.psg_terms.specs.Text.{symbol_name}
use Rattle.psg_terms.proofs.WritingLaws.{begun}
use Rattle.psg_run.proofs.term_texts.+push_term.Given as goal

abbrev pub decreases-push_term : goal.decreases-push_term
decreases-push_term l = size l.term.now

-- the first arguments are after the constructor's name
abbrev pub invariant-loop-i : goal.invariant-loop-i
invariant-loop-i l =
    (first : List ℕ) (c : ℕ) → string_bytes l.initial.text ≡ first ++ symbol_name (slice_get l.sig.symbols c)
    → string_bytes l.text ≡ first ++ begun l.sig (applied (symbol c) (take l.i l.args))
