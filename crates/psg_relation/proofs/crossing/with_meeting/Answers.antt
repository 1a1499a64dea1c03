use Rattle.std.proofs.Common.{subst}
use Rattle.psg_relation.specs.Choices.{picked}
use Rattle.psg_relation.specs.Heads.{places_at}
use Rattle.psg_relation.specs.Joining.{IsCrossed}
use Rattle.psg_relation.proofs.Indexing.{crossed_by, met, picked-in}
use Rattle.psg_relation.proofs.crossing.with_meeting.Goals as goal

pub returns-in_ok-all-in-Some : goal.returns-in_ok-all-in-Some
returns-in_ok-all-in-Some c =
    let sig = c.args.sig.now in
    let pairs = c.args.pairs.now in
    let keep = c.args.keep.now in
    let one = c.args.one.now in
    let right = c.args.right.now in
    let free = c.args.heads.now.free.items in
    let at = places_at c.args.heads.now.places in
    let head = c.in-Some.head in
    let made = c.args.made.items in
    let more = c.in_ok-more-in-Some.more.items in
    let all = c.in_ok-all-in-Some.all.items in
    crossed_by sig pairs keep one right (picked right free) (picked right (at head)) made more all (picked-in right free) (picked-in right (at head))
    (met sig pairs keep one right c.args.first head free at c.requires.pair c.in-Some.ensures.some c.requires.indexed)
    (subst (λ ps. IsCrossed sig pairs keep one (picked right ps) made more) c.as_slice-free.ensures.value c.in_ok-more-in-Some.ensures)
    (subst (λ ps. IsCrossed sig pairs keep one (picked right ps) more all) c.places_of-own.ensures c.in_ok-all-in-Some.ensures)
