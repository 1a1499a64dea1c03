use Rattle.std.proofs.Common.{true}
use Rattle.psg_deflines.specs.Entries.{written}
use Rattle.psg_defcheck.specs.Scopes.{sort_names}
use Rattle.psg_defcheck.proofs.GroundLaws.{fewer-smaller, marking-begin, marking-step, marking-end}
use Rattle.psg_defcheck.proofs.ground.inhabited.Goals as goal

pub loop-more-init : goal.loop-more-init
loop-more-init c =
    marking-step c.args.scope.now c.none-marks.result c.mark_in_turn.new.marks c.entries-entries.result.now true true c.entries-entries.ensures (marking-begin c.args.scope.now c.none-marks.result c.none-marks.ensures.none)
    c.in_ok-mark_in_turn.ensures.right tt

pub loop-more-preserved : goal.loop-more-preserved
loop-more-preserved c =
    marking-step c.args.scope.now c.loop-more.marks c.mark_more.new.marks c.entries-entries.result.now c.loop-more.more c.in_ok-more.more c.entries-entries.ensures c.loop-more.invariant c.in_ok-more.ensures.right c.in_ok-more.ensures.keep

pub loop-more-smaller : goal.loop-more-smaller
loop-more-smaller c =
    fewer-smaller c.loop-more.marks c.mark_more.new.marks (sort_names (written c.entries-entries.result.now)) c.loop-more.more c.in_ok-more.more c.loop-more-test.true c.in_ok-more.ensures.fewer c.in_ok-more.ensures.same

pub returns : goal.returns
returns c = marking-end c.args.scope.now c.loop-more.marks c.loop-more.more c.loop-more.invariant c.loop-more-test.false
