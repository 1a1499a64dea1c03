use Rattle.psg_deflines.specs.Quotes.{IsQuoteOf, HasNoQuote}
use Rattle.std.proofs.lemmas.Option.{MatchOption-at_some, MatchOption-at_none}
use Rattle.psg_deflines.specs.Only.{IsOnly}
use Rattle.psg_deflines.proofs.ItemKinds.{quote-only}
use Rattle.psg_deflines.proofs.items.quoted_item.Goals as goal

pub returns-in-Some : goal.returns-in-Some
returns-in-Some c =
    let p = c.args.part.now in
    quote-only p c.in-Some.word (MatchOption-at_some (HasNoQuote p) (IsOnly (IsQuoteOf p)) c.in-Some.word c.in-Some.is c.in_ok-word.ensures)

pub returns-in-None : goal.returns-in-None
returns-in-None c = MatchOption-at_none (HasNoQuote c.args.part.now) (IsOnly (IsQuoteOf c.args.part.now)) c.in-None.is c.in_ok-word.ensures
