use Rattle.std.proofs.Common.{◌≡◌, ◌<◌, ◌≤◌, ◌-◌, length, true, false, arith, rules}
use Rattle.psg_uses.specs.declared.elements.Member.{Member}
use Rattle.psg_grammar.specs.Paths.{change_at, removed}
use Rattle.psg_terms.proofs.Lists.{each_at, slice_get_item}
use Rattle.psg_lint.specs.Hints.{HasMember, IsGoodWith}
use Rattle.psg_lint.specs.Judged.{def_of, fresh_of, tree_in}
use Rattle.psg_lint.proofs.HintLaws.{last_is, none_at_all, none_first, none_more}
use Rattle.psg_lint.proofs.hints.last_better.Goals as goal

pub loop-less-init : goal.loop-less-init
loop-less-init g c =
    none_first (λ (m : Member). IsGoodWith (def_of c.args.wrong) (fresh_of c.args.wrong) (change_at (removed m.number) m.list (tree_in c.args.wrong)) c.args.answers.now)
    c.args.members.now

pub is_better-requires-clause-member : goal.is_better-requires-clause-member
is_better-requires-clause-member g c =
    let lt : c.loop-less.less < length c.args.members.now = search rules in
    let place = length c.args.members.now - 1 - c.loop-less.less in
    let inside : place < length c.args.members.now = omega (arith, lt) in
    each_at (HasMember (tree_in c.args.wrong)) c.args.members.now c.requires.members place c.index-members-place.result
    (slice_get_item c.args.members.now place c.index-members-place.result inside c.index-members-place.is)

pub loop-less-preserved : goal.loop-less-preserved
loop-less-preserved g c =
    let lt : c.loop-less.less < length c.args.members.now = search rules in
    let no : c.in_ok-better.better ≡ false = search rules in
    none_more (λ (m : Member). IsGoodWith (def_of c.args.wrong) (fresh_of c.args.wrong) (change_at (removed m.number) m.list (tree_in c.args.wrong)) c.args.answers.now)
    c.args.members.now c.loop-less.less _ c.index-members-place.result c.in_ok-better.better lt (omega arith) c.index-members-place.is
    c.in_ok-better.ensures no c.loop-less.invariant

pub returns-in-loop-less : goal.returns-in-loop-less
returns-in-loop-less g c =
    let lt : c.loop-less.less < length c.args.members.now = search rules in
    let so : c.in_ok-better.better ≡ true = search rules in (
      c.index-members-place.result,
      last_is (λ (m : Member). IsGoodWith (def_of c.args.wrong) (fresh_of c.args.wrong) (change_at (removed m.number) m.list (tree_in c.args.wrong)) c.args.answers.now)
          c.args.members.now c.loop-less.less _ c.index-members-place.result c.in_ok-better.better lt (omega arith) c.index-members-place.is
          c.in_ok-better.ensures so c.loop-less.invariant,
      c.in_ok-path.ensures,
    )

pub returns : goal.returns
returns g c =
    let le : length c.args.members.now ≤ c.loop-less.less = search rules in
    none_at_all (λ (m : Member). IsGoodWith (def_of c.args.wrong) (fresh_of c.args.wrong) (change_at (removed m.number) m.list (tree_in c.args.wrong)) c.args.answers.now)
    c.args.members.now c.loop-less.less le c.loop-less.invariant
