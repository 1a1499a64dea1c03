use Rattle.std.proofs.Common.{◌≡◌, ◌≤◌, length, true, false, refl, true≢false, sym, rules}
use Rattle.psg_lint.specs.Judged.{def_of, tree_in}
use Rattle.psg_lint.proofs.SuspectLaws.{not_outside, outside_all, outside_more, outside_none}
use Rattle.psg_lint.proofs.suspects.all_outside.Goals as goal

pub loop-number-init : goal.loop-number-init
loop-number-init c = outside_none c.args.wrong.kept.now c.args.wrong.places.now c.args.path.now

pub returns-then-inside : goal.returns-then-inside
returns-then-inside c =
    let yes : c.is_blamed_inside-inside.result ≡ true = search rules in (
      (λ t. absurd (true≢false (sym t))),
      (λ out. absurd (not_outside (def_of c.args.wrong) (tree_in c.args.wrong) c.args.wrong.kept.now c.args.wrong.places.now c.args.path.now
          c.loop-number.number c.requires.wrong.places (c.is_blamed_inside-inside.ensures.0 yes) out)),
    )

pub loop-number-preserved : goal.loop-number-preserved
loop-number-preserved c =
    let no : c.is_blamed_inside-inside.result ≡ false = search rules in
    outside_more c.args.wrong.kept.now c.args.wrong.places.now c.args.path.now c.loop-number.number c.is_blamed_inside-inside.result
    c.is_blamed_inside-inside.ensures no c.loop-number.invariant

pub returns : goal.returns
returns c =
    let le : length c.args.wrong.kept.now ≤ c.loop-number.number = search rules in (
      (λ t. outside_all (def_of c.args.wrong) (tree_in c.args.wrong) c.args.wrong.kept.now c.args.wrong.places.now c.args.path.now
          c.loop-number.number c.requires.wrong.places le c.loop-number.invariant),
      (λ out. refl),
    )
