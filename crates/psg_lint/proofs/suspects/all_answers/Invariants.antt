use Rattle.psg_lint.specs.Judged.{def_of, tree_in}
use Rattle.psg_lint.proofs.SuspectLaws.{OpensTo}
use Rattle.psg_lint.proofs.suspects.all_answers.Given as goal

abbrev pub invariant-loop-later : goal.invariant-loop-later
invariant-loop-later l = OpensTo (def_of l.wrong) (tree_in l.wrong) l.path l.number l.answers.items l.later
