use Rattle.std.proofs.Common.{◌≡◌, ◌<◌, ◌+◌, ◌-◌, ◌++◌, ◌∙◌, Some, length, slice_get, ap, sym, subst, refl, arith}
use Rattle.psg_terms.proofs.Lists.{slice_get_item}
use Rattle.psg_terms.specs.Terms.{Term}
use Rattle.psg_relation.specs.Narrowing.{IsPlace, spot_of}
use Rattle.psg_relation.proofs.Unsolved.{at_left, at_right}
use Rattle.psg_relation.proofs.narrowing.term_at.Goals as goal

pub returns-in_ok-term-in-Solved : goal.returns-in_ok-term-in-Solved
returns-in_ok-term-in-Solved c =
    let within : c.in-Solved.column < length c.args.solved.now = subst (IsPlace (length c.args.solved.now) (length c.args.left.now + length c.args.right.now)) c.in-Solved.is c.requires in
    ap (slice_get (c.args.solved.now ++ (c.args.left.now ++ c.args.right.now))) (ap (spot_of (length c.args.solved.now)) c.in-Solved.is)
    ∙ at_left c.args.solved.now (c.args.left.now ++ c.args.right.now) c.in-Solved.column c.in_ok-term-in-Solved.term within
    (slice_get_item c.args.solved.now c.in-Solved.column c.index-solved-column.result within c.index-solved-column.is ∙ ap (λ (t : Term). Some t) (sym c.in_ok-term-in-Solved.ensures))

pub returns-then-column-left : goal.returns-then-column-left
returns-then-column-left c =
    ap (slice_get (c.args.solved.now ++ (c.args.left.now ++ c.args.right.now))) (ap (spot_of (length c.args.solved.now)) c.in-Given.is)
    ∙ at_right c.args.solved.now (c.args.left.now ++ c.args.right.now) c.in-Given.column (length c.args.solved.now + c.in-Given.column) c.in_ok-term-in-Given.term
    (at_left c.args.left.now c.args.right.now c.in-Given.column c.in_ok-term-in-Given.term c.if-column-left.true
    (slice_get_item c.args.left.now c.in-Given.column c.index-left-column.result c.if-column-left.true c.index-left-column.is ∙ ap (λ (t : Term). Some t) (sym c.in_ok-term-in-Given.ensures))) refl

pub returns-in_ok-term-in-Given-2 : goal.returns-in_ok-term-in-Given-2
returns-in_ok-term-in-Given-2 c =
    let most : c.in-Given.column < length c.args.left.now + length c.args.right.now = subst (IsPlace (length c.args.solved.now) (length c.args.left.now + length c.args.right.now)) c.in-Given.is c.requires in
    let least = c.if-column-left.false in
    let within : c.in-Given.column - length c.args.left.now < length c.args.right.now = omega (arith, most, least) in
    let place : c.in-Given.column ≡ length c.args.left.now + (c.in-Given.column - length c.args.left.now) = omega (arith, least) in
    ap (slice_get (c.args.solved.now ++ (c.args.left.now ++ c.args.right.now))) (ap (spot_of (length c.args.solved.now)) c.in-Given.is)
    ∙ at_right c.args.solved.now (c.args.left.now ++ c.args.right.now) c.in-Given.column (length c.args.solved.now + c.in-Given.column) c.in_ok-term-in-Given-2.term
    (at_right c.args.left.now c.args.right.now (c.in-Given.column - length c.args.left.now) c.in-Given.column c.in_ok-term-in-Given-2.term
    (slice_get_item c.args.right.now (c.in-Given.column - length c.args.left.now) c.index-right-column.result within c.index-right-column.is ∙ ap (λ (t : Term). Some t) (sym c.in_ok-term-in-Given-2.ensures)) place) refl
