use Rattle.std.proofs.Common.{◌≡◌, Some, sym, subst, take}
use Rattle.psg_grammar.specs.Fragments.{Fragment}
use Rattle.psg_grammar.specs.Paths.{node_at}
use Rattle.psg_lint.specs.Judged.{tree_in}
use Rattle.psg_wanted.specs.Fronts.{AreValues}
use Rattle.psg_lint.proofs.MessageLaws.{wrong_sound}
use Rattle.psg_lint.proofs.WrongLaws.{beside_itself, made_beside, note_own, opened_beside}
use Rattle.psg_lint.proofs.messages.wanted_at.Goals as goal

pub values_beside-requires-clause-sound : goal.values_beside-requires-clause-sound
values_beside-requires-clause-sound g c = wrong_sound c.args.wrong c.requires.wrong

pub values_beside-requires-clause-old : goal.values_beside-requires-clause-old
values_beside-requires-clause-old g c = note_own c.args.wrong c.requires.wrong

pub values_beside-requires-clause-kinds : goal.values_beside-requires-clause-kinds
values_beside-requires-clause-kinds g c =
    made_beside c.args.wrong c.requires.wrong _ c.in_ok-tree.tree c.in_ok-tree.ensures
    (opened_beside c.args.wrong c.requires.wrong (take c.args.number c.args.wrong.kept.now) (tree_in c.args.wrong)
    (beside_itself c.args.wrong c.requires.wrong))

pub values_beside-requires-clause-there : goal.values_beside-requires-clause-there
values_beside-requires-clause-there g c =
    subst (λ (t : Fragment). (node : Fragment) × (node_at t c.args.own.now ≡ Some node)) (sym c.in_ok-tree.ensures) c.requires.there

pub returns-clause-values : goal.returns-clause-values
returns-clause-values g c =
    subst (λ (t : Fragment). AreValues c.args.wrong.judged.definition.now t c.args.own.now c.in_ok-values.values.items) c.in_ok-tree.ensures c.in_ok-values.ensures.values
