use Rattle.std.proofs.Common.{◌≡◌, true, false, refl, ◌∙◌, rules}
use Rattle.psg_lint.specs.Judged.{def_of, fresh_of, tree_in}
use Rattle.psg_lint.proofs.HintLaws.{no_loose, not_good, other_is}
use Rattle.psg_lint.proofs.OptionLaws.{option_none, option_some}
use Rattle.psg_lint.proofs.WrongLaws.{beside_itself}
use Rattle.psg_lint.proofs.hints.tried_use.Goals as goal

pub returns-in-None : goal.returns-in-None
returns-in-None g c =
    let w = c.args.wrong in
    no_loose (def_of w) (fresh_of w) (tree_in w) w.kept.now c.args.region.now c.args.end c.args.number c.requires.number
    (option_none _ _ c.in_ok-loose.loose c.in-None.is c.in_ok-loose.ensures)

pub can_be-requires-clause-kinds : goal.can_be-requires-clause-kinds
can_be-requires-clause-kinds g c = beside_itself c.args.wrong c.requires.wrong

pub returns-then-good : goal.returns-then-good
returns-then-good g c =
    let w = c.args.wrong in
    let e = c.as_slice.ensures.value ∙ c.in_ok-answers-in-Some.ensures in (
      refl,
      other_is (def_of w) (fresh_of w) (tree_in w) w.kept.now c.args.region.now c.args.end c.args.number c.requires.number c.in-Some.name
          c.as_slice.result.now c.in_ok-good-in-Some.good (option_some _ _ c.in_ok-loose.loose c.in-Some.name c.in-Some.is c.in_ok-loose.ensures) e
          c.in_ok-good-in-Some.ensures.good (let so : c.in_ok-good-in-Some.good ≡ true = search rules in so),
      c.in_ok-answers-in-Some.ensures,
    )

pub returns-else-good : goal.returns-else-good
returns-else-good g c =
    let w = c.args.wrong in
    let e = c.as_slice.ensures.value ∙ c.in_ok-answers-in-Some.ensures in
    not_good (def_of w) (fresh_of w) (tree_in w) w.kept.now c.args.region.now c.args.end c.args.number c.requires.number c.as_slice.result.now
    c.in_ok-good-in-Some.good e c.in_ok-good-in-Some.ensures.good (let bad : c.in_ok-good-in-Some.good ≡ false = search rules in bad)
