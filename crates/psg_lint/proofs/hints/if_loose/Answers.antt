use Rattle.std.proofs.Common.{◌≡◌, true, false, refl, rules}
use Rattle.psg_lint.specs.Judged.{def_of, tree_in}
use Rattle.psg_lint.proofs.HintLaws.{declared_there, not_used, undeclared}
use Rattle.psg_lint.proofs.hints.if_loose.Goals as goal

pub returns-then-own : goal.returns-then-own
returns-then-own c =
    not_used (def_of c.args.wrong) (tree_in c.args.wrong) c.args.region.now c.args.own (let yes : c.args.own.declares ≡ true = search rules in yes)

pub returns-then-inside : goal.returns-then-inside
returns-then-inside c =
    declared_there (def_of c.args.wrong) (tree_in c.args.wrong) c.args.region.now c.args.own c.in_ok-inside.inside c.in_ok-inside.ensures
    (let yes : c.in_ok-inside.inside ≡ true = search rules in yes)

pub returns : goal.returns
returns c = (
  refl,
  undeclared (def_of c.args.wrong) (tree_in c.args.wrong) c.args.region.now c.args.own c.in_ok-inside.inside c.in_ok-inside.ensures
      (let no : c.args.own.declares ≡ false = search rules in no) (let none : c.in_ok-inside.inside ≡ false = search rules in none),
)
