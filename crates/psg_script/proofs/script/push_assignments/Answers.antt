use Rattle.std.proofs.Common.{◌≡◌, suc, ◌-◌, arith}
use Rattle.psg_script.specs.Script.{assign_lines}
use Rattle.psg_script.proofs.LineLemmas.{assign_more, none_left}
use Rattle.psg_script.proofs.script.push_assignments.Goals as goal

pub loop-i-preserved : goal.loop-i-preserved
loop-i-preserved c =
    let next : c.loop-i.i-counter ≡ suc (c.loop-i.i-counter - 1) = omega arith in
    assign_more _ _ _ c.loop-i.i-counter (c.loop-i.i-counter - 1) next c.in_ok-write.ensures.bytes c.loop-i.invariant

pub returns : goal.returns
returns c = none_left _ _ assign_lines c.loop-i.i-counter c.loop-i-test.false c.loop-i.invariant
