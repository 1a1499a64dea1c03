use Rattle.std.proofs.Common.{◌+◌, arith, subst, sym, take}
use Rattle.std.proofs.lemmas.List.{take_all}
use Rattle.psg_defcheck.proofs.GroundLaws.{IsRound, mark-told, round-begin, round-sort, round-other, round-fewer, round-same, round-keeps}
use Rattle.psg_defcheck.proofs.ground.mark_more.Goals as goal
use Rattle.psg_defcheck.proofs.ground.mark_more.Goals.{in-Some+in_ok-marked, in_default}

pub loop-entry-init : goal.loop-entry-init
loop-entry-init c = round-begin c.args.scope.now c.args.marks.now c.args.entries.now

pub loop-entry-preserved : goal.loop-entry-preserved
loop-entry-preserved c =
    let i = c.loop-entry.entry-index in
    let all = c.args.entries.now in
    elim c.match-sort_line.branch [
      | in-Some+in_ok-marked w ↦ subst (λ m. IsRound c.args.scope.now c.args.marks.now m all (take (i + 1) all) c.match-sort_line.more) (sym w.marks-is)
          (round-sort c.args.scope.now c.args.marks.now c.loop-entry.marks w.mark.new.marks all i c.entry-item.result w.in-Some.d.now w.as_str.result.now c.loop-entry.more w.in_ok-marked.marked c.match-sort_line.more
          c.loop-entry.invariant c.loop-entry-test.true c.entry-item.is w.in-Some.ensures w.as_str.ensures w.in_ok-marked.ensures.right
          (mark-told c.args.scope.now c.loop-entry.marks w.mark.new.marks w.as_str.result.now w.in_ok-marked.marked w.in_ok-marked.ensures.fewer w.in_ok-marked.ensures.same w.in_ok-marked.ensures.keeps) w.more-is)
      | in_default w ↦ subst (λ m. IsRound c.args.scope.now c.args.marks.now m all (take (i + 1) all) c.match-sort_line.more) (sym w.marks-is)
          (subst (IsRound c.args.scope.now c.args.marks.now c.loop-entry.marks all (take (i + 1) all)) (sym w.more-is)
          (round-other c.args.scope.now c.args.marks.now c.loop-entry.marks all i c.entry-item.result c.loop-entry.more c.loop-entry.invariant c.loop-entry-test.true c.entry-item.is w.in_default.ensures))
    ]

pub returns-clause-right : goal.returns-clause-right
returns-clause-right c = c.loop-entry.invariant.right

pub returns-clause-fewer : goal.returns-clause-fewer
returns-clause-fewer c = round-fewer _ _ _ _ _ c.loop-entry.more c.loop-entry.invariant

pub returns-clause-same : goal.returns-clause-same
returns-clause-same c = round-same _ _ _ _ _ c.loop-entry.more c.loop-entry.invariant

pub returns-clause-keep : goal.returns-clause-keep
returns-clause-keep c = round-keeps _ _ _ _ _ c.loop-entry.more c.loop-entry.invariant (take_all c.loop-entry.entry-index c.args.entries.now (let h = c.loop-entry-test.false in omega arith))
