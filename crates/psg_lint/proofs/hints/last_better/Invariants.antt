use Rattle.psg_uses.specs.declared.elements.Member.{Member}
use Rattle.psg_grammar.specs.Paths.{change_at, removed}
use Rattle.psg_lint.specs.Hints.{IsGoodWith}
use Rattle.psg_lint.specs.Judged.{def_of, fresh_of, tree_in}
use Rattle.psg_lint.proofs.HintLaws.{HasNoneAfter}
use Rattle.psg_lint.proofs.hints.last_better.Given as goal

abbrev pub invariant-loop-less : goal.invariant-loop-less
invariant-loop-less g l =
    HasNoneAfter (λ (m : Member). IsGoodWith (def_of l.wrong) (fresh_of l.wrong) (change_at (removed m.number) m.list (tree_in l.wrong)) l.answers)
    l.members l.less
