use Rattle.std.proofs.Common.{sym, subst, ◌≡◌, ◌↔◌, true}
use Rattle.psg_places.specs.Answers.{IsBeside}
use Rattle.psg_grammar.specs.Fragments.{Fragment}
use Rattle.psg_lint.specs.Hints.{IsGoodWith}
use Rattle.psg_lint.specs.Judged.{def_of, fresh_of, tree_in}
use Rattle.psg_lint.proofs.WrongLaws.{less_beside}
use Rattle.psg_lint.proofs.hints.is_better.Goals as goal

pub can_be-requires-clause-kinds : goal.can_be-requires-clause-kinds
can_be-requires-clause-kinds g c =
    subst (IsBeside (def_of c.args.wrong) (tree_in c.args.wrong)) (sym c.in_ok-less.ensures)
    (less_beside c.args.wrong c.requires.wrong c.args.member.now c.requires.member)

pub returns : goal.returns
returns g c =
    subst (λ (t : Fragment). (c.in_ok-better.better ≡ true) ↔ IsGoodWith (def_of c.args.wrong) (fresh_of c.args.wrong) t c.args.answers.now)
    c.in_ok-less.ensures c.in_ok-better.ensures.good
