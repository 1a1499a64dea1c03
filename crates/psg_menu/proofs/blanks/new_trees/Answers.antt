use Rattle.std.proofs.Common.{rules, ◌≡◌, ◌<◌, length, sym, subst, arith}
use Rattle.std.specs.Prelude.{Err}
use Rattle.psg_menu.specs.Trials.{IsBlanksAnswer}
use Rattle.psg_menu.proofs.BlankLaws.{blank_fault, blank_of, blanks_next, kind_at as has_kind_at, read_kind}
use Rattle.psg_menu.proofs.blanks.new_trees.Goals as goal

pub returns-in_err-summary-clause-blanks : goal.returns-in_err-summary-clause-blanks
returns-in_err-summary-clause-blanks g c =
    let def = c.args.definition.now in
    let within : c.loop-place.place < length c.args.kinds.now = search rules in
    let fault = c.in_err-summary.field-0.0 in
    let d : c.from_residual.result ≡ Err fault = search rules in
    subst (IsBlanksAnswer def c.args.kinds.now) (sym d)
    (blank_fault def c.args.kinds.now c.kind_at-kind.result c.loop-place.place c.new_tree-answer.result fault within (read_kind c.args.kinds.now c.loop-place.place c.kind_at-kind.result c.kind_at-kind.ensures) c.new_tree-answer.ensures.answer c.in_err-summary.ensures)

pub loop-place-preserved : goal.loop-place-preserved
loop-place-preserved g c =
    let within : c.loop-place.place < length c.args.kinds.now = search rules in
    let def = c.args.definition.now in
    record {
      made =
          blanks_next def c.args.kinds.now c.loop-place.place c.kind_at-kind.result c.loop-place.made.items c.push.new.self.items c.in_ok-summary.summary within (read_kind c.args.kinds.now c.loop-place.place c.kind_at-kind.result c.kind_at-kind.ensures)
          c.loop-place.invariant.made c.in_ok-push.ensures.items
          (blank_of def c.kind_at-kind.result c.in_ok-summary.summary c.new_tree-answer.result c.new_tree-answer.ensures.answer c.new_tree-answer.ensures.summary c.in_ok-summary.ensures);
      counted = omega (arith, c.new_tree-answer.ensures.ticks, c.loop-place.invariant.counted);
    }

pub new_tree-answer-requires-clause-kind : goal.new_tree-answer-requires-clause-kind
new_tree-answer-requires-clause-kind g c =
    let within : c.loop-place.place < length c.args.kinds.now = search rules in
    has_kind_at c.args.definition.now c.args.kinds.now c.kind_at-kind.result c.loop-place.place c.requires.kinds within
    (read_kind c.args.kinds.now c.loop-place.place c.kind_at-kind.result c.kind_at-kind.ensures)
