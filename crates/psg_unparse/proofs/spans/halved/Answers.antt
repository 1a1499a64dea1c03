use Rattle.std.proofs.Common.{◌+◌, ◌-◌, ◌/◌, ◌≤◌, ◌<◌, length, ap, subst, sym, ◌∙◌, arith}
use Rattle.std.proofs.lemmas.Bool.{false≢true}
use Rattle.psg_terms.proofs.Lists.{slice_get_item}
use Rattle.psg_unparse.specs.Listing.{IsEarlier}
use Rattle.psg_unparse.specs.declared.spans.Span.{Span}
use Rattle.psg_unparse.proofs.Earlier.{halved_down, halved_up}
use Rattle.psg_unparse.proofs.spans.halved.Goals as goal

pub returns-then-is_earlier : goal.returns-then-is_earlier
returns-then-is_earlier c =
    let more : c.args.low ≤ c.args.low + (c.args.high - c.args.low) / 2 = omega arith in
    let less : c.args.low + (c.args.high - c.args.low) / 2 < c.args.high = omega (arith, c.requires.some) in
    let within : c.args.low + (c.args.high - c.args.low) / 2 < length c.args.spans.now = omega (arith, less, c.requires.within) in
    halved_up c.args.spans.now c.requires.order c.args.path.now c.args.low c.args.high
    (c.args.low + (c.args.high - c.args.low) / 2) c.index-spans-middle.result
    (slice_get_item c.args.spans.now (c.args.low + (c.args.high - c.args.low) / 2) c.index-spans-middle.result within
    c.index-spans-middle.is)
    more less (subst (λ p. IsEarlier p c.args.path.now) (c.steps.ensures ∙ ap (λ (s : Span). s.path) (sym c.index-spans-middle.is)) (c.is_earlier.ensures.0 c.if-is_earlier.true))

pub returns-else-is_earlier : goal.returns-else-is_earlier
returns-else-is_earlier c =
    let more : c.args.low ≤ c.args.low + (c.args.high - c.args.low) / 2 = omega arith in
    let less : c.args.low + (c.args.high - c.args.low) / 2 < c.args.high = omega (arith, c.requires.some) in
    let within : c.args.low + (c.args.high - c.args.low) / 2 < length c.args.spans.now = omega (arith, less, c.requires.within) in
    halved_down c.args.spans.now c.requires.order c.args.path.now c.args.low c.args.high
    (c.args.low + (c.args.high - c.args.low) / 2) c.index-spans-middle.result
    (slice_get_item c.args.spans.now (c.args.low + (c.args.high - c.args.low) / 2) c.index-spans-middle.result within
    c.index-spans-middle.is)
    more less
    (λ before. false≢true (sym c.if-is_earlier.false
    ∙ c.is_earlier.ensures.1 (subst (λ p. IsEarlier p c.args.path.now) (sym (c.steps.ensures ∙ ap (λ (s : Span). s.path) (sym c.index-spans-middle.is))) before)))
