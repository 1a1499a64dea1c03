use Rattle.std.proofs.Common.{◌≡◌, ◌<◌, ◌+◌, ◌-◌, ◌∙◌, length, sym, arith}
use Rattle.psg_terms.proofs.Lists.{slice_get_item}
use Rattle.psg_relation.proofs.Unsolved.{at_left, at_right}
use Rattle.psg_relation.proofs.narrowing.keep_column.Goals as goal

pub returns-then-above-eq0-clause-planned : goal.returns-then-above-eq0-clause-planned
returns-then-above-eq0-clause-planned c = λ lefts rights width count keep h.
    let t = c.index-left-column.result in
    c.in_ok-keep_shared.ensures.planned c.args.left.now c.args.right.now lefts rights width count keep t
    (at_left c.args.left.now c.args.right.now c.args.column t c.if-column-left.true (slice_get_item c.args.left.now c.args.column t c.if-column-left.true c.index-left-column.is))
    (sym c.above.ensures ∙ c.if-above-eq0.true) h

pub returns-then-column-left-clause-planned : goal.returns-then-column-left-clause-planned
returns-then-column-left-clause-planned c = λ lefts rights width count keep h.
    c.in_ok-keep_left.ensures.planned c.args.left.now c.args.right.now lefts rights width count keep
    (slice_get_item c.args.left.now c.args.column c.index-left-column.result c.if-column-left.true c.index-left-column.is) h

pub returns-then-above-eq0-2-clause-planned : goal.returns-then-above-eq0-2-clause-planned
returns-then-above-eq0-2-clause-planned c = λ lefts rights width count keep h.
    let t = c.index-right-place.result in
    let most = c.requires in
    let least = c.if-column-left.false in
    let within : c.args.column - length c.args.left.now < length c.args.right.now = omega (arith, most, least) in
    let place : c.args.column ≡ length c.args.left.now + (c.args.column - length c.args.left.now) = omega (arith, least) in
    c.in_ok-keep_shared-2.ensures.planned c.args.left.now c.args.right.now lefts rights width count keep t
    (at_right c.args.left.now c.args.right.now (c.args.column - length c.args.left.now) c.args.column t (slice_get_item c.args.right.now (c.args.column - length c.args.left.now) t within c.index-right-place.is) place)
    (sym c.above-2.ensures ∙ c.if-above-eq0-2.true) h

pub returns-clause-planned : goal.returns-clause-planned
returns-clause-planned c = λ lefts rights width count keep h.
    let most = c.requires in
    let least = c.if-column-left.false in
    let within : c.args.column - length c.args.left.now < length c.args.right.now = omega (arith, most, least) in
    let place : c.args.column ≡ length c.args.left.now + (c.args.column - length c.args.left.now) = omega (arith, least) in
    c.in_ok-keep_right.ensures.planned c.args.left.now c.args.right.now lefts rights width count keep (c.args.column - length c.args.left.now) place
    (slice_get_item c.args.right.now (c.args.column - length c.args.left.now) c.index-right-place.result within c.index-right-place.is) h
