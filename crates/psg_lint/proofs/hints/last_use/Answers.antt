use Rattle.std.proofs.Common.{◌<◌, ◌≤◌, take, arith, rules}
use Rattle.psg_lint.specs.Judged.{def_of, fresh_of, tree_in}
use Rattle.psg_lint.proofs.HintLaws.{last_other, no_others_all, no_others_first, no_others_more, other_inside}
use Rattle.psg_lint.proofs.hints.last_use.Goals as goal

pub loop-less-init : goal.loop-less-init
loop-less-init g c =
    no_others_first (def_of c.args.wrong) (fresh_of c.args.wrong) (tree_in c.args.wrong) (take c.args.end c.args.wrong.kept.now) c.args.region.now c.args.end

pub returns-in-Some : goal.returns-in-Some
returns-in-Some g c =
    let w = c.args.wrong in
    let lt : c.loop-less.less < c.args.end = search rules in
    last_other (def_of w) (fresh_of w) (tree_in w) (take c.args.end w.kept.now) c.args.region.now c.args.end c.loop-less.less c.in-Some.other
    c.in_ok-found.found _ lt (omega arith) c.in_ok-found.ensures c.in-Some.is
    (other_inside (def_of w) (fresh_of w) (tree_in w) w.kept.now c.args.region.now c.args.end) c.loop-less.invariant

pub loop-less-preserved : goal.loop-less-preserved
loop-less-preserved g c =
    let w = c.args.wrong in
    let lt : c.loop-less.less < c.args.end = search rules in
    no_others_more (def_of w) (fresh_of w) (tree_in w) (take c.args.end w.kept.now) c.args.region.now c.args.end c.loop-less.less _
    c.in_ok-found.found lt (omega arith) c.in_ok-found.ensures c.in-None.is c.loop-less.invariant

pub returns : goal.returns
returns g c =
    let w = c.args.wrong in
    let le : c.args.end ≤ c.loop-less.less = search rules in
    no_others_all (def_of w) (fresh_of w) (tree_in w) (take c.args.end w.kept.now) c.args.region.now c.args.end c.loop-less.less le
    (other_inside (def_of w) (fresh_of w) (tree_in w) w.kept.now c.args.region.now c.args.end) c.loop-less.invariant
