use Rattle.std.proofs.Common.{◌≡◌}
use Rattle.std.proofs.lemmas.Option.{MatchOption-at_some, MatchOption-at_none}
use Rattle.std.proofs.lemmas.Result.{IfOk-weaker}
use Rattle.std.specs.Prelude.{MatchOption}
use Rattle.psg_terms.specs.Names.{Name}
use Rattle.psg_grammar.specs.Sound.{IsKindName}
use Rattle.psg_deflines.specs.Quotes.{HasNoQuote}
use Rattle.psg_deflines.specs.FormReads.{IsItemPart}
use Rattle.psg_deflines.specs.Only.{IsOnly}
use Rattle.psg_deflines.proofs.Options.{or-none}
use Rattle.psg_deflines.proofs.ItemKinds.{slot-only}
use Rattle.psg_deflines.proofs.items.slot_item.Goals as goal

pub returns-in-Some : goal.returns-in-Some
returns-in-Some c =
    let p = c.args.part.now in
    slot-only p c.in-Some.name (MatchOption-at_some (IsKindName p → ⊥) (λ (t : Name). (t ≡ p) × IsKindName p) c.in-Some.name c.in-Some.is c.in_ok-name.ensures)

pub returns-in-None : goal.returns-in-None
returns-in-None c =
    let p = c.args.part.now in
    let none = MatchOption-at_none (IsKindName p → ⊥) (λ (t : Name). (t ≡ p) × IsKindName p) c.in-None.is c.in_ok-name.ensures in
    IfOk-weaker c.quoted_item.result _ (λ o. MatchOption o ((IsKindName p → ⊥) × HasNoQuote p) (IsOnly (IsItemPart p))) (λ o r. or-none (IsOnly (IsItemPart p)) o (λ q. (none, q)) r) c.quoted_item.ensures
