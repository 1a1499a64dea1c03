use Rattle.std.proofs.Common.{◌≡◌, subst}
use Rattle.std.proofs.lemmas.Option.{MatchOption-at_some, MatchOption-at_none}
use Rattle.std.specs.Prelude.{MatchOption}
use Rattle.psg_deflines.specs.Parts.{HasParts, HasNoParts, texts}
use Rattle.psg_deflines.specs.Entries.{head_parts}
use Rattle.psg_deflines.specs.Only.{IsOnly}
use Rattle.psg_deflines.proofs.HeadLaws.{IsNoHead, IsHeadOf, IsNoLineHead, IsLineHead, head-line, head-has}
use Rattle.psg_deflines.proofs.reading.version.Goals as goal

pub returns-in-Some : goal.returns-in-Some
returns-in-Some c =
    let line = c.as_bytes.result.now in
    let only : IsOnly (HasParts line) (texts c.in-Some.parts.items) = MatchOption-at_some (HasNoParts line) (λ v. IsOnly (HasParts line) (texts v.items)) c.in-Some.parts c.in-Some.is c.in_ok-parts.ensures in
    subst (λ l. MatchOption c.head_of.result (IsNoLineHead l) (IsLineHead l)) c.as_bytes.ensures.value
    (head-line line (texts c.in-Some.parts.items) c.head_of.result only
    (subst (λ ps. MatchOption c.head_of.result (IsNoHead (texts ps)) (IsHeadOf (texts ps))) c.as_slice.ensures.value c.head_of.ensures))

pub returns-in-None : goal.returns-in-None
returns-in-None c =
    let line = c.as_bytes.result.now in
    let same : line ≡ c.args.text.now = c.as_bytes.ensures.value in
    let none : HasNoParts line = MatchOption-at_none (HasNoParts line) (λ v. IsOnly (HasParts line) (texts v.items)) c.in-None.is c.in_ok-parts.ensures in
    subst IsNoLineHead same (λ v is w. none (head_parts v) (head-has v line is w))
