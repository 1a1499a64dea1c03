use Rattle.std.proofs.Common.{◌+◌, Some, None, arith, refl, subst, sym, take}
use Rattle.std.proofs.lemmas.List.{take_all}
use Rattle.psg_deflines.specs.Entries.{written}
use Rattle.psg_defcheck.specs.Faults.{IsLineFault}
use Rattle.psg_defcheck.specs.Aboves.{IsAbove}
use Rattle.psg_defcheck.proofs.CheckLaws.{memory-passed}
use Rattle.psg_defcheck.proofs.FaultLaws.{HasPassed, fault-at, passed-none, passed-some, passed-all}
use Rattle.psg_defcheck.proofs.checked_lines.CheckedLines.of.Goals as goal
use Rattle.psg_defcheck.proofs.checked_lines.CheckedLines.of.Goals.{in-Some+in_ok-code+in_default-2+in_ok-add, in_default}

pub loop-i-init : goal.loop-i-init
loop-i-init c = record { above = c.nothing-names.ensures; passed = tt }

pub line_fault-requires-clause-ground : goal.line_fault-requires-clause-ground
line_fault-requires-clause-ground c = c.in_ok-marks.ensures

pub line_fault-requires-clause-above : goal.line_fault-requires-clause-above
line_fault-requires-clause-above c = (written (take c.loop-i.i c.args.entries.now), c.loop-i.invariant.above)

pub returns-in-Some-2-clause-err : goal.returns-in-Some-2-clause-err
returns-in-Some-2-clause-err c =
    fault-at c.args.entries.now c.loop-i.i c.index-entries-i.result c.in-Some.line c.loop-i.names c.in-Some-2.code (c.loop-i.i + 2) c.loop-i.invariant c.loop-i-test.true c.index-entries-i.is c.in-Some.is
    (λ ls h. subst (λ f. IsLineFault f ls c.in-Some.line (Some c.in-Some-2.code)) c.in_ok-scope.ensures (subst (IsLineFault c.in_ok-scope.scope ls c.in-Some.line) c.in-Some-2.is (c.in_ok-code.ensures ls h))) refl

pub loop-i-preserved : goal.loop-i-preserved
loop-i-preserved c =
    let file = written c.args.entries.now in
    let front = written (take (c.loop-i.i + 1) c.args.entries.now) in
    elim c.match-entries-i.branch [
      | in-Some+in_ok-code+in_default-2+in_ok-add w ↦ subst (HasPassed file front) (sym w.names-is)
          (passed-some file c.args.entries.now c.loop-i.i c.index-entries-i.result w.in-Some.line c.loop-i.names w.add.new.self c.loop-i.invariant c.loop-i-test.true c.index-entries-i.is w.in-Some.is
          (λ ls h. subst (λ f. IsLineFault f ls w.in-Some.line None) c.in_ok-scope.ensures (subst (IsLineFault c.in_ok-scope.scope ls w.in-Some.line) w.in_default-2.is (w.in_ok-code.ensures ls h))) w.in_ok-add.ensures)
      | in_default w ↦ subst (HasPassed file front) (sym w.names-is)
          (passed-none file c.args.entries.now c.loop-i.i c.index-entries-i.result c.loop-i.names c.loop-i.invariant c.loop-i-test.true c.index-entries-i.is w.in_default.is)
    ]

pub invariant_of-result : goal.invariant_of-result
invariant_of-result c =
    let all = take_all c.loop-i.i c.args.entries.now (let h = c.loop-i-test.false in omega arith) in record {
      few = c.requires.few;
      passed = passed-all c.args.entries.now c.loop-i.i c.loop-i.names c.loop-i.invariant all;
      names = subst (λ es. IsAbove (written es) c.loop-i.names) all c.loop-i.invariant.above;
    }

pub returns-clause-passed : goal.returns-clause-passed
returns-clause-passed c = passed-all c.args.entries.now c.loop-i.i c.loop-i.names c.loop-i.invariant (take_all c.loop-i.i c.args.entries.now (let h = c.loop-i-test.false in omega arith))

pub returns-in_err-code-clause-err : goal.returns-in_err-code-clause-err
returns-in_err-code-clause-err c = memory-passed c.args.entries.now _ c.from_residual-in_err-code.ensures.1

pub returns-in_err-add-clause-err : goal.returns-in_err-add-clause-err
returns-in_err-add-clause-err c = memory-passed c.args.entries.now _ c.from_residual-in_err-add.ensures.1
