use Rattle.std.proofs.Common.{◌++◌, [], drop, take, ap, ◌∙◌, ◌+◌, option_map, arith}
use Rattle.psg_relation.specs.Choices.{pick}
use Rattle.psg_scope.specs.Headers.{key_of, keys}
use Rattle.psg_explain.specs.Given.{beside, own_equations, own_subjects, subject_of}
use Rattle.psg_explain.proofs.GivenLaws.{all_there, no_own, no_own_of, one_more, own_next, own_next_of, within_first, within_second}
use Rattle.psg_explain.proofs.own_rows.own_equations.Goals as goal

pub loop-i-preserved : goal.loop-i-preserved
loop-i-preserved c =
    let ns = c.args.positions.now in
    let ts = c.args.own.now in
    let i = c.loop-i.i in
    let lt = within_first i c.min-count.result _ _ c.min-count.ensures c.loop-i-test.true in
    let lu = within_second i c.min-count.result _ _ c.min-count.ensures c.loop-i-test.true in
    let n = c.index-positions-i.result in
    let t = c.index-own-i.result in
    let ss = c.loop-i.all.subjects.items in
    let es = c.loop-i.all.given.items in
    let found = c.beside-term.ensures in (
      one_more ss c.add_left.new.self.subjects.items (own_subjects [] [] (keys ns) ts) (own_subjects (keys (take i ns)) (take i ts) (keys (drop i ns)) (drop i ts))
          (own_subjects (keys (take (i + 1) ns)) (take (i + 1) ts) (keys (drop (i + 1) ns)) (drop (i + 1) ts)) (option_map (λ u. subject_of (key_of n)) (beside (keys (take i ns)) (take i ts) (key_of n)))
          (c.in_ok-add_left.ensures.subjects ∙ ap (λ o. ss ++ pick (option_map (λ u. subject_of (key_of n)) o) []) found) c.loop-i.invariant.0 (own_next_of ns ts i n t lt lu c.index-positions-i.is c.index-own-i.is),
      one_more es c.add_left.new.self.given.items (own_equations [] [] (keys ns) ts) (own_equations (keys (take i ns)) (take i ts) (keys (drop i ns)) (drop i ts))
          (own_equations (keys (take (i + 1) ns)) (take (i + 1) ts) (keys (drop (i + 1) ns)) (drop (i + 1) ts)) (option_map (λ u. (u, t)) (beside (keys (take i ns)) (take i ts) (key_of n)))
          (c.in_ok-add_left.ensures.given ∙ ap (λ o. es ++ pick (option_map (λ u. (u, t)) o) []) found) c.loop-i.invariant.1 (own_next ns ts i n t lt lu c.index-positions-i.is c.index-own-i.is),
    )

pub returns-clause-subjects : goal.returns-clause-subjects
returns-clause-subjects c =
    let ns = c.args.positions.now in
    let ts = c.args.own.now in
    let i = c.loop-i.i in
    let e = c.min-count.ensures in
    let t = c.loop-i-test.false in
    all_there c.loop-i.all.subjects.items (own_subjects (keys (take i ns)) (take i ts) (keys (drop i ns)) (drop i ts)) (own_subjects [] [] (keys ns) ts) c.loop-i.invariant.0
    (no_own_of (keys (take i ns)) (take i ts) ns ts i (omega (arith, e, t)))

pub returns-clause-given : goal.returns-clause-given
returns-clause-given c =
    let ns = c.args.positions.now in
    let ts = c.args.own.now in
    let i = c.loop-i.i in
    let e = c.min-count.ensures in
    let t = c.loop-i-test.false in
    all_there c.loop-i.all.given.items (own_equations (keys (take i ns)) (take i ts) (keys (drop i ns)) (drop i ts)) (own_equations [] [] (keys ns) ts) c.loop-i.invariant.1
    (no_own (keys (take i ns)) (take i ts) ns ts i (omega (arith, e, t)))
