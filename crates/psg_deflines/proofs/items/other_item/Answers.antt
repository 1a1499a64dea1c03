use Rattle.std.specs.Prelude.{MatchOption}
use Rattle.std.proofs.lemmas.Option.{MatchOption-at_some, MatchOption-at_none}
use Rattle.std.proofs.lemmas.Result.{IfOk-weaker}
use Rattle.psg_grammar.specs.Sound.{IsKindName}
use Rattle.psg_deflines.specs.Quotes.{HasNoQuote}
use Rattle.psg_deflines.specs.FormReads.{IsItemPart, HasNoNameItem}
use Rattle.psg_deflines.specs.Only.{IsOnly}
use Rattle.psg_deflines.proofs.Options.{or-none}
use Rattle.psg_deflines.proofs.items.other_item.Goals as goal

pub returns-in-Some : goal.returns-in-Some
returns-in-Some c =
    let p = c.args.part.now in
    MatchOption-at_some (HasNoNameItem p) (IsOnly (IsItemPart p)) c.in-Some.item c.in-Some.is c.in_ok-item.ensures

pub returns-in-None : goal.returns-in-None
returns-in-None c =
    let p = c.args.part.now in
    let none = MatchOption-at_none (HasNoNameItem p) (IsOnly (IsItemPart p)) c.in-None.is c.in_ok-item.ensures in
    IfOk-weaker c.slot_item.result _ (λ o. MatchOption o (HasNoNameItem p × (IsKindName p → ⊥) × HasNoQuote p) (IsOnly (IsItemPart p))) (λ o r. or-none (IsOnly (IsItemPart p)) o (λ q. (none, q.0, q.1)) r) c.slot_item.ensures
