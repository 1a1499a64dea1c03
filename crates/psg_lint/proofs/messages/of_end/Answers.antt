use Rattle.std.proofs.Common.{◌≡◌, Some, sym, subst, take}
use Rattle.std.specs.Prelude.{string_bytes}
use Rattle.psg_grammar.specs.Fragments.{Fragment}
use Rattle.psg_grammar.specs.Paths.{IsList, node_at}
use Rattle.psg_places.specs.Answers.{IsBeside}
use Rattle.psg_lint.specs.Judged.{def_of, tree_in}
use Rattle.psg_lint.specs.Blamed.{IsEndMessage, of_end}
use Rattle.psg_lint.proofs.MessageLaws.{list_before}
use Rattle.psg_lint.proofs.WrongLaws.{beside_itself, opened_beside}
use Rattle.psg_lint.proofs.messages.of_end.Goals as goal

pub of_list-requires-clause-kinds : goal.of_list-requires-clause-kinds
of_list-requires-clause-kinds g c =
    subst (IsBeside (def_of c.args.wrong) (tree_in c.args.wrong)) (sym c.in_ok-tree.ensures)
    (opened_beside c.args.wrong c.requires.wrong (take c.args.number c.args.wrong.kept.now) (tree_in c.args.wrong)
    (beside_itself c.args.wrong c.requires.wrong))

pub of_list-requires-clause-there : goal.of_list-requires-clause-there
of_list-requires-clause-there g c =
    subst (λ (t : Fragment). (list : Fragment) × (node_at t c.in_ok-own.own ≡ Some list) × IsList list) (sym c.in_ok-tree.ensures)
    (list_before c.args.wrong c.requires.wrong c.args.number c.requires.number c.requires.blamed c.args.path.now c.in_ok-own.own c.requires.place c.in_ok-own.ensures)

pub returns : goal.returns
returns g c = λ r spots.
    of_end c.args.path.now c.in_ok-own.own (string_bytes c.in_ok-message.message) c.in_ok-own.ensures
    (subst (λ (t : Fragment). IsEndMessage c.args.wrong.judged.definition.now t c.in_ok-own.own (string_bytes c.in_ok-message.message)) c.in_ok-tree.ensures c.in_ok-message.ensures)
