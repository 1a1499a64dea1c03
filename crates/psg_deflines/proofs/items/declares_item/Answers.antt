use Rattle.std.proofs.Common.{◌≡◌, ◌++◌, codes}
use Rattle.std.proofs.lemmas.Option.{MatchOption-at_some, MatchOption-at_none}
use Rattle.psg_terms.specs.Names.{Name}
use Rattle.psg_deflines.specs.Forms.{IsSpaceName, tag}
use Rattle.psg_deflines.proofs.ItemKinds.{declares-only}
use Rattle.psg_deflines.proofs.items.declares_item.Goals as goal

pub returns-in-Some : goal.returns-in-Some
returns-in-Some c =
    let p = c.args.part.now in
    let h = MatchOption-at_some ((n : Name) → IsSpaceName n → p ≡ codes "declares" ++ tag n → ⊥) (λ (n : Name). IsSpaceName n × (p ≡ codes "declares" ++ tag n)) c.in-Some.space c.in-Some.is c.in_ok-space.ensures in
    declares-only p c.in-Some.space h.0 h.1

pub returns-in-None : goal.returns-in-None
returns-in-None c =
    let p = c.args.part.now in
    MatchOption-at_none ((n : Name) → IsSpaceName n → p ≡ codes "declares" ++ tag n → ⊥) (λ (n : Name). IsSpaceName n × (p ≡ codes "declares" ++ tag n)) c.in-None.is c.in_ok-space.ensures
