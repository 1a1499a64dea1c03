use Rattle.std.proofs.Common.{◌++◌, [], drop, ap, ◌∙◌, ◌+◌, option_map, arith}
use Rattle.psg_relation.specs.Choices.{pick}
use Rattle.psg_scope.specs.Headers.{key_of, keys}
use Rattle.psg_explain.specs.Given.{beside, key_equations, key_subjects, subject_of}
use Rattle.psg_explain.proofs.GivenLaws.{all_there, equations_next, no_equations, no_subjects, one_more, subjects_next, within_first, within_second}
use Rattle.psg_explain.proofs.given.add_common.Goals as goal

pub loop-i-preserved : goal.loop-i-preserved
loop-i-preserved c =
    let term = beside (keys c.args.others.now) c.args.right.now in
    let ns = c.args.mine.now in
    let ts = c.args.left.now in
    let i = c.loop-i.i in
    let lt = within_first i c.min-count.result _ _ c.min-count.ensures c.loop-i-test.true in
    let lu = within_second i c.min-count.result _ _ c.min-count.ensures c.loop-i-test.true in
    let n = c.index-mine-i.result in
    let t = c.index-left-i.result in
    let ss = c.loop-i.all.subjects.items in
    let es = c.loop-i.all.given.items in (
      one_more ss c.add_right.new.self.subjects.items (c.args.all.now.subjects.items ++ key_subjects term (keys ns) ts) (key_subjects term (keys (drop i ns)) (drop i ts)) (key_subjects term (keys (drop (i + 1) ns)) (drop (i + 1) ts))
          (option_map (λ u. subject_of (key_of n)) (term (key_of n)))
          (c.in_ok-add_right.ensures.subjects ∙ ap (λ o. ss ++ pick (option_map (λ u. subject_of (key_of n)) o) []) c.beside-term.ensures) c.loop-i.invariant.0 (subjects_next term ns ts i n t lt lu c.index-mine-i.is c.index-left-i.is),
      one_more es c.add_right.new.self.given.items (c.args.all.now.given.items ++ key_equations term (keys ns) ts) (key_equations term (keys (drop i ns)) (drop i ts)) (key_equations term (keys (drop (i + 1) ns)) (drop (i + 1) ts))
          (option_map (λ u. (t, u)) (term (key_of n)))
          (c.in_ok-add_right.ensures.given ∙ ap (λ o. es ++ pick (option_map (λ u. (t, u)) o) []) c.beside-term.ensures) c.loop-i.invariant.1 (equations_next term ns ts i n t lt lu c.index-mine-i.is c.index-left-i.is),
    )

pub returns-clause-subjects : goal.returns-clause-subjects
returns-clause-subjects c =
    let term = beside (keys c.args.others.now) c.args.right.now in
    let ns = c.args.mine.now in
    let ts = c.args.left.now in
    let e = c.min-count.ensures in
    let t = c.loop-i-test.false in
    all_there c.loop-i.all.subjects.items (key_subjects term (keys (drop c.loop-i.i ns)) (drop c.loop-i.i ts)) (c.args.all.now.subjects.items ++ key_subjects term (keys ns) ts) c.loop-i.invariant.0
    (no_subjects term ns ts c.loop-i.i (omega (arith, e, t)))

pub returns-clause-given : goal.returns-clause-given
returns-clause-given c =
    let term = beside (keys c.args.others.now) c.args.right.now in
    let ns = c.args.mine.now in
    let ts = c.args.left.now in
    let e = c.min-count.ensures in
    let t = c.loop-i-test.false in
    all_there c.loop-i.all.given.items (key_equations term (keys (drop c.loop-i.i ns)) (drop c.loop-i.i ts)) (c.args.all.now.given.items ++ key_equations term (keys ns) ts) c.loop-i.invariant.1
    (no_equations term ns ts c.loop-i.i (omega (arith, e, t)))
