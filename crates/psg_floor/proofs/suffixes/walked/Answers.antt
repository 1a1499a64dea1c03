use Rattle.std.proofs.Common.{rules, ◌≡◌, length, subst, sym}
use Rattle.psg_floor.proofs.SuffixLaws.{IsWalked, walked_all, walked_next, walked_none}
use Rattle.psg_floor.proofs.suffixes.walked.Goals as goal

pub loop-element-init : goal.loop-element-init
loop-element-init c =
    let elements = c.args.elements.now in
    subst (IsWalked elements elements c.in_ok-whole.whole) (sym c.in_ok-rests.ensures.items)
    (walked_none elements c.in_ok-whole.whole c.in_ok-whole.ensures.suffix c.in_ok-whole.ensures.ordered)

pub loop-element-preserved : goal.loop-element-preserved
loop-element-preserved c =
    let elements = c.args.elements.now in
    let front = c.in-Some.front.now in
    subst (IsWalked elements front c.in_ok-next.next) (sym c.in_ok-push.ensures.items)
    (walked_next elements c.loop-element.left.now front c.in-Some.element.now c.loop-element.whole c.in_ok-next.next
    c.loop-element.rests.items c.in-Some.ensures.cases.0 c.loop-element.invariant c.in_ok-next.ensures.suffix
    c.in_ok-next.ensures.ordered)

pub returns-clause-whole : goal.returns-clause-whole
returns-clause-whole c =
    let none : length c.loop-element.left.now ≡ 0 = search rules in
    (walked_all c.args.elements.now c.loop-element.left.now c.loop-element.whole c.loop-element.rests.items none c.loop-element.invariant).0

pub returns-clause-count : goal.returns-clause-count
returns-clause-count c =
    let none : length c.loop-element.left.now ≡ 0 = search rules in
    (walked_all c.args.elements.now c.loop-element.left.now c.loop-element.whole c.loop-element.rests.items none c.loop-element.invariant).1

pub returns-clause-rests : goal.returns-clause-rests
returns-clause-rests c = c.loop-element.invariant.all
