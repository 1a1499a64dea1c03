use Rattle.std.proofs.Common.{◌≡◌, ◌<◌, ◌+◌, ◌-◌, ◌∙◌, Some, length, sym, ap, arith}
use Rattle.psg_terms.proofs.Lists.{slice_get_item}
use Rattle.psg_terms.specs.Terms.{Term}
use Rattle.psg_relation.proofs.Unsolved.{at_left, at_right}
use Rattle.psg_relation.proofs.beside.column_at.Goals as goal

pub returns-then-place-left : goal.returns-then-place-left
returns-then-place-left c =
    at_left c.args.left.now c.args.right.now c.args.place c.in_ok-term.term c.if-place-left.true
    (slice_get_item c.args.left.now c.args.place c.index-left-place.result c.if-place-left.true c.index-left-place.is ∙ ap (λ (t : Term). Some t) (sym c.in_ok-term.ensures))

pub returns : goal.returns
returns c =
    let left = c.args.left.now in
    let right = c.args.right.now in
    let place = c.args.place in
    let least = c.if-place-left.false in
    let within = c.requires in
    let whole : place ≡ length left + (place - length left) = omega (arith, least) in
    let below : place - length left < length right = omega (arith, least, within) in
    at_right left right (place - length left) place c.in_ok-other.other
    (slice_get_item right (place - length left) c.index-right-rest.result below c.index-right-rest.is ∙ ap (λ (t : Term). Some t) (sym c.in_ok-other.ensures)) whole
