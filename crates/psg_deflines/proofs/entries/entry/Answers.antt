use Rattle.std.proofs.Common.{subst, sym, refl}
use Rattle.std.proofs.lemmas.Bool.{false≢true}
use Rattle.std.proofs.lemmas.Option.{MatchOption-at_some, MatchOption-at_none}
use Rattle.psg_deflines.specs.Parts.{HasParts, HasNoParts, texts}
use Rattle.psg_deflines.specs.Only.{IsOnly}
use Rattle.psg_deflines.proofs.EntryLaws.{skipped-only, no-parts, no-form}
use Rattle.psg_deflines.proofs.entries.entry.Goals as goal

pub returns-then-is_skipped : goal.returns-then-is_skipped
returns-then-is_skipped c = λ above rows cases. (skipped-only above c.args.text.now (c.if-is_skipped.ensures.0 refl), tt)

pub returns-in_default : goal.returns-in_default
returns-in_default c = λ above rows cases.
    no-parts c.args.version above c.args.text.now (λ s. false≢true (c.if-is_skipped.ensures.1 s))
    (subst HasNoParts c.as_bytes.ensures.value (MatchOption-at_none (HasNoParts c.as_bytes.result.now) (λ v. IsOnly (HasParts c.as_bytes.result.now) (texts v.items)) c.in_default.is c.in_ok-parts.ensures))

pub returns-then-not-has_place : goal.returns-then-not-has_place
returns-then-not-has_place c = λ above rows cases.
    let only : IsOnly (HasParts c.args.text.now) (texts c.as_slice-parts.result.now) =
    subst (λ xs. IsOnly (HasParts xs) (texts c.as_slice-parts.result.now)) c.as_bytes.ensures.value
    (subst (λ v. IsOnly (HasParts c.as_bytes.result.now) (texts v)) (sym c.as_slice-parts.ensures.value)
    (MatchOption-at_some (HasNoParts c.as_bytes.result.now) (λ v. IsOnly (HasParts c.as_bytes.result.now) (texts v.items)) c.in-Some.parts c.in-Some.is c.in_ok-parts.ensures)) in
    no-form c.args.version above c.args.text.now (texts c.as_slice-parts.result.now) (λ s. false≢true (c.if-is_skipped.ensures.1 s)) only (c.if-not-has_place.ensures above rows cases)

pub returns : goal.returns
returns c = λ above rows cases.
    let only : IsOnly (HasParts c.args.text.now) (texts c.as_slice-parts.result.now) =
    subst (λ xs. IsOnly (HasParts xs) (texts c.as_slice-parts.result.now)) c.as_bytes.ensures.value
    (subst (λ v. IsOnly (HasParts c.as_bytes.result.now) (texts v)) (sym c.as_slice-parts.ensures.value)
    (MatchOption-at_some (HasNoParts c.as_bytes.result.now) (λ v. IsOnly (HasParts c.as_bytes.result.now) (texts v.items)) c.in-Some.parts c.in-Some.is c.in_ok-parts.ensures)) in
    c.in_ok-checked.ensures above c.args.text.now (λ s. false≢true (c.if-is_skipped.ensures.1 s)) only (c.if-not-has_place.ensures above rows cases) c.in_ok-read.ensures
