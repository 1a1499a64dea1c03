use Rattle.std.proofs.Common.{◌≤◌, length, arith, rules}
use Rattle.psg_lint.specs.Judged.{def_of, tree_in}
use Rattle.psg_lint.proofs.SuspectLaws.{opens_all, opens_more, opens_none}
use Rattle.psg_lint.proofs.suspects.all_answers.Goals as goal

pub loop-later-init : goal.loop-later-init
loop-later-init c = opens_none (def_of c.args.wrong) (tree_in c.args.wrong) c.args.path.now c.args.number _ c.in_ok-answers.ensures.items

pub loop-later-preserved : goal.loop-later-preserved
loop-later-preserved c =
    opens_more (def_of c.args.wrong) (tree_in c.args.wrong) c.args.path.now c.args.number c.loop-later.later c.loop-later.answers.items
    c.push.new.self.items c.in_ok-content.content c.in_ok-content.ensures c.in_ok-push.ensures.items c.loop-later.invariant

pub returns-clause-each : goal.returns-clause-each
returns-clause-each c =
    let le : length c.args.wrong.places.now ≤ c.loop-later.later = search rules in
    let same = c.loop-later.invariant.0 in omega (arith, le, same)

pub returns-clause-opens : goal.returns-clause-opens
returns-clause-opens c =
    let le : length c.args.wrong.places.now ≤ c.loop-later.later = search rules in
    opens_all (def_of c.args.wrong) (tree_in c.args.wrong) c.args.path.now c.args.number c.loop-later.later c.loop-later.answers.items
    c.args.wrong.places.now c.requires.wrong.places le c.loop-later.invariant
