use Rattle.std.proofs.Common.{◌<◌, ◌≤◌, ◌++◌, [], length, append-nil, append_assoc, ap, sym, ◌∙◌, arith, rules}
use Rattle.psg_lint.specs.Judged.{def_of, fresh_of, tree_in}
use Rattle.psg_lint.proofs.TellLaws.{told_all, told_more, told_none}
use Rattle.psg_lint.proofs.WrongLaws.{all_listed}
use Rattle.psg_lint.proofs.blaming.tell_all.Goals as goal

pub loop-number-init : goal.loop-number-init
loop-number-init g c = λ r is. (
  [],
  sym (append-nil c.args.found.now.items),
  told_none (def_of c.args.wrong) c.args.wrong.judged.text.now (tree_in c.args.wrong) r (fresh_of c.args.wrong) c.args.wrong.kept.now c.args.wrong.places.now,
)

pub loop-number-preserved : goal.loop-number-preserved
loop-number-preserved g c = λ r is.
    let (told, e, h) = c.loop-number.invariant r is in
    let (own, q, one) = c.in_ok-tell_place.ensures r is in
    let lt : c.loop-number.number < length c.args.wrong.kept.now = search rules in
    let le = all_listed c.args.wrong c.requires.wrong in (
      told ++ own,
      q ∙ ap (λ xs. xs ++ own) e ∙ append_assoc c.args.found.now.items told own,
      told_more (def_of c.args.wrong) c.args.wrong.judged.text.now (tree_in c.args.wrong) r (fresh_of c.args.wrong) c.args.wrong.kept.now
          c.args.wrong.places.now c.loop-number.number told own (omega (arith, lt, le)) one h,
    )

pub returns : goal.returns
returns g c = λ r is.
    let (told, e, h) = c.loop-number.invariant r is in
    let le : length c.args.wrong.kept.now ≤ c.loop-number.number = search rules in (
      told,
      e,
      told_all (def_of c.args.wrong) c.args.wrong.judged.text.now (tree_in c.args.wrong) r (fresh_of c.args.wrong) c.args.wrong.kept.now
          c.args.wrong.places.now c.loop-number.number told le h,
    )
