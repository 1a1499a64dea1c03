use Rattle.std.proofs.Common.{sym, subst, ◌∙◌, List, take}
use Rattle.std.specs.List.{AllByRecursion}
use Rattle.psg_uses.specs.declared.elements.Member.{Member}
use Rattle.psg_lint.specs.Hints.{HasMember}
use Rattle.psg_lint.specs.Judged.{def_of, fresh_of, tree_in}
use Rattle.psg_lint.proofs.HintLaws.{members_there, without_told}
use Rattle.psg_lint.proofs.WrongLaws.{below_formed}
use Rattle.psg_lint.proofs.hints.better_without.Goals as goal

pub last_better-requires-clause-members : goal.last_better-requires-clause-members
last_better-requires-clause-members g c =
    subst (λ (ms : List Member). AllByRecursion (HasMember (tree_in c.args.wrong)) ms) (sym (c.as_slice-2.ensures.value ∙ c.in_ok-members.ensures))
    (members_there (def_of c.args.wrong) (tree_in c.args.wrong) c.requires.wrong.judged.formed c.args.path.now
    (λ node at. below_formed c.args.wrong c.requires.wrong c.args.path.now node at))

pub returns : goal.returns
returns g c =
    let w = c.args.wrong in
    without_told (def_of w) (fresh_of w) (tree_in w) (take c.args.number w.kept.now) c.args.path.now _ _ c.in_ok-found.found
    (c.as_slice-2.ensures.value ∙ c.in_ok-members.ensures) (c.as_slice.ensures.value ∙ c.in_ok-answers.ensures) c.in_ok-found.ensures
