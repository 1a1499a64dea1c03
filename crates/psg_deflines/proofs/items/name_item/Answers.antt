use Rattle.std.proofs.Common.{◌≡◌, ◌++◌, codes}
use Rattle.std.proofs.lemmas.Option.{MatchOption-at_some, MatchOption-at_none}
use Rattle.std.proofs.lemmas.Result.{IfOk-weaker}
use Rattle.std.specs.Prelude.{MatchOption}
use Rattle.psg_terms.specs.Names.{Name}
use Rattle.psg_deflines.specs.Forms.{IsSpaceName, tag}
use Rattle.psg_deflines.specs.FormReads.{IsItemPart, HasNoNameItem}
use Rattle.psg_deflines.specs.Only.{IsOnly}
use Rattle.psg_deflines.proofs.Options.{or-none}
use Rattle.psg_deflines.proofs.ItemKinds.{refers-only, no-name}
use Rattle.psg_deflines.proofs.items.name_item.Goals as goal

pub returns-in-Some : goal.returns-in-Some
returns-in-Some c =
    let p = c.args.part.now in
    let h = MatchOption-at_some ((n : Name) → IsSpaceName n → p ≡ codes "refers" ++ tag n → ⊥) (λ (n : Name). IsSpaceName n × (p ≡ codes "refers" ++ tag n)) c.in-Some.space c.in-Some.is c.in_ok-space.ensures in
    refers-only p c.in-Some.space h.0 h.1

pub returns-in-None : goal.returns-in-None
returns-in-None c =
    let p = c.args.part.now in
    let none = MatchOption-at_none ((n : Name) → IsSpaceName n → p ≡ codes "refers" ++ tag n → ⊥) (λ (n : Name). IsSpaceName n × (p ≡ codes "refers" ++ tag n)) c.in-None.is c.in_ok-space.ensures in
    IfOk-weaker c.declares_item.result _ (λ o. MatchOption o (HasNoNameItem p) (IsOnly (IsItemPart p))) (λ o r. or-none (IsOnly (IsItemPart p)) o (λ d. no-name p none d) r) c.declares_item.ensures
