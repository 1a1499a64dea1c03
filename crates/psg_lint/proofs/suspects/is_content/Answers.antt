use Rattle.std.proofs.Common.{◌≡◌, ◌≤◌, get_or, true, false, rules}
use Rattle.psg_lint.specs.Judged.{def_of, tree_in}
use Rattle.psg_lint.proofs.SuspectLaws.{content_is, not_inside, too_early}
use Rattle.psg_lint.proofs.WrongLaws.{got_in}
use Rattle.psg_lint.proofs.suspects.is_content.Goals as goal

pub returns-then-later-number : goal.returns-then-later-number
returns-then-later-number c =
    too_early (def_of c.args.wrong) (tree_in c.args.wrong) c.args.path.now c.args.number c.args.later
    (let le : c.args.later ≤ c.args.number = search rules in le)

pub returns-then-not-is_inside : goal.returns-then-not-is_inside
returns-then-not-is_inside c =
    let w = c.args.wrong in
    not_inside (def_of w) (tree_in w) c.args.path.now c.args.number c.args.later w.places.now
    (get_or w.places.now c.args.later c.index-wrong-later.result) c.is_inside.result
    c.requires.wrong.places (got_in w.places.now c.args.later c.requires.later c.index-wrong-later.result) c.is_inside.ensures
    (let none : c.is_inside.result ≡ false = search rules in none)

pub returns : goal.returns
returns c =
    let w = c.args.wrong in
    let after : c.args.later ≤ c.args.number → ⊥ = search rules in
    content_is (def_of w) (tree_in w) c.args.path.now c.args.number c.args.later w.places.now
    (get_or w.places.now c.args.later c.index-wrong-later.result) c.is_inside.result
    c.in_ok-declared.declared c.requires.wrong.places (got_in w.places.now c.args.later c.requires.later c.index-wrong-later.result)
    after c.is_inside.ensures (let so : c.is_inside.result ≡ true = search rules in so) c.in_ok-declared.ensures
