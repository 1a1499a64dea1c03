use Rattle.std.proofs.Common.{ℕ, List, ◌+◌, ◌-◌, ◌<◌, ◌≤◌, rules, ap, length, take, drop, false, sym, subst, arith, length-drop}
use Rattle.std.proofs.lemmas.List.{take_rest}
use Rattle.std.proofs.lemmas.Option.{MatchOption-at_some, MatchOption-at_none}
use Rattle.psg_deflines.specs.Only.{IsOnly}
use Rattle.psg_deflines.specs.Quotes.{IsQuoteOf, HasNoQuote}
use Rattle.psg_deflines.proofs.ClosingLaws.{quote-open, quote-bad, quote-first, closing-inside}
use Rattle.psg_deflines.proofs.parts.quoted_len.Goals as goal

pub returns-in_default : goal.returns-in_default
returns-in_default c = quote-open c.args.text.now _ c.requires.long c.requires.quote (take_rest c.args.text.now 1) (sym c.in_default.ensures)

within : (xs : List ℕ) (k : ℕ) → k < length (take (length xs - 1) (drop 1 xs)) → 0 < length xs → k + 2 ≤ length xs
within xs k h long = omega (arith, h, ap length (take_rest xs 1), length-drop 1 xs)

pub overflow_add-inside : goal.overflow_add-inside
overflow_add-inside c =
    let fits : c.in-Some.inside + 2 ≤ length c.args.text.now = within c.args.text.now c.in-Some.inside (closing-inside false _ c.in-Some.inside (sym c.in-Some.ensures)) c.requires.long in
    search (rules, fits)

pub split_at-requires : goal.split_at-requires
split_at-requires c = within c.args.text.now c.in-Some.inside (closing-inside false _ c.in-Some.inside (sym c.in-Some.ensures)) c.requires.long

pub returns-in_default-2 : goal.returns-in_default-2
returns-in_default-2 c =
    quote-bad c.args.text.now _ c.in-Some.inside c.requires.long c.requires.quote (take_rest c.args.text.now 1) (sym c.in-Some.ensures)
    (subst HasNoQuote c.split_at.ensures.front (MatchOption-at_none (HasNoQuote c.split_at.result.0.now) (IsOnly (IsQuoteOf c.split_at.result.0.now)) c.in_default-2.is c.in_ok-_contents.ensures))

pub returns : goal.returns
returns c =
    let only : IsOnly (IsQuoteOf c.split_at.result.0.now) c.in-Some-2._contents =
    MatchOption-at_some (HasNoQuote c.split_at.result.0.now) (IsOnly (IsQuoteOf c.split_at.result.0.now)) c.in-Some-2._contents c.in-Some-2.is c.in_ok-_contents.ensures in
    quote-first c.args.text.now _ c.in-Some.inside c.in-Some-2._contents c.requires.long c.requires.quote (take_rest c.args.text.now 1) (sym c.in-Some.ensures)
    (within c.args.text.now c.in-Some.inside (closing-inside false _ c.in-Some.inside (sym c.in-Some.ensures)) c.requires.long)
    (subst (λ p. IsQuoteOf p c.in-Some-2._contents) c.split_at.ensures.front only.is)
