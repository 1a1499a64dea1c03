use Rattle.std.proofs.Common.{◌≡◌, ◌∙◌, arith}
use Rattle.psg_cache.specs.Annotated.{nested}
use Rattle.psg_cache.proofs.MarkLaws.{blamed_all, blamed_more, blames_below, blames_itself, nested_child}
use Rattle.psg_cache.proofs.blaming.+blame.Goals as goal

pub blame-requires : goal.blame-requires
blame-requires t c =
    let h = nested_child c.args.note.now c.below-below.result.now c.loop-i.i c.index-below-i.result
    c.below-below.ensures c.loop-i-test.true c.index-below-i.is in
    let d : nested c.args.note.now ≡ t = c.decreases in
    (omega (arith, h, d), tt)

pub loop-i-preserved : goal.loop-i-preserved
loop-i-preserved t c =
    blamed_more c.args.path.now c.as_slice.result.now c.below-below.result.now c.loop-i.i c.in_ok-step.step
    c.index-below-i.result c.args.found.now.items c.loop-i.found.items c.blame.new.found.items c.loop-i-test.true
    c.index-below-i.is c.in_ok-step.ensures.step (c.as_slice.ensures.value ∙ c.in_ok-place.ensures) c.loop-i.invariant
    c.in_ok-blame.ensures

pub returns-in_ok-push : goal.returns-in_ok-push
returns-in_ok-push t c =
    let below = blamed_all c.args.path.now c.args.note.now c.below-below.result.now c.loop-i.i c.args.found.now.items
    c.loop-i.found.items c.below-below.ensures c.loop-i-test.false c.loop-i.invariant in
    blames_itself c.args.note.now c.args.path.now c.args.found.now.items c.loop-i.found.items c.push.new.self.items
    c.in_ok-itself.itself c.is_good-good.result c.is_good-good.ensures.rows.1 c.if-good.false below
    (omega (arith, c.if-len-before.true, c.len.ensures, c.len-before.ensures)) c.in_ok-push.ensures.items
    c.in_ok-itself.ensures

pub returns-else-len-before : goal.returns-else-len-before
returns-else-len-before t c =
    let below = blamed_all c.args.path.now c.args.note.now c.below-below.result.now c.loop-i.i c.args.found.now.items
    c.loop-i.found.items c.below-below.ensures c.loop-i-test.false c.loop-i.invariant in
    blames_below c.args.note.now c.args.path.now c.args.found.now.items c.loop-i.found.items c.is_good-good.result
    c.is_good-good.ensures.rows.1 c.if-good.false below
    (λ same. omega (arith, same, c.if-len-before.false, c.len.ensures, c.len-before.ensures))
