use Rattle.std.proofs.Common.{List, ℕ, ◌∷◌, subst}
use Rattle.psg_grammar.specs.Fragments.{Fragment}
use Rattle.psg_places.specs.Blame.{kept_in}
use Rattle.psg_places.specs.Opened.{opened}
use Rattle.psg_wanted.specs.Fronts.{AreKeyValues}
use Rattle.psg_lint.specs.Judged.{fresh_of, tree_in}
use Rattle.psg_lint.proofs.MessageLaws.{wrong_sound}
use Rattle.psg_lint.proofs.WrongLaws.{beside_itself, made_beside, note_own, opened_beside}
use Rattle.psg_lint.proofs.messages.wanted_entities.Goals as goal

pub key_values-requires-clause-sound : goal.key_values-requires-clause-sound
key_values-requires-clause-sound g c = wrong_sound c.args.wrong c.requires.wrong

pub key_values-requires-clause-old : goal.key_values-requires-clause-old
key_values-requires-clause-old g c = note_own c.args.wrong c.requires.wrong

pub key_values-requires-clause-kinds : goal.key_values-requires-clause-kinds
key_values-requires-clause-kinds g c =
    made_beside c.args.wrong c.requires.wrong _ c.in_ok-tree.tree c.in_ok-tree.ensures
    (opened_beside c.args.wrong c.requires.wrong c.args.kept.now (tree_in c.args.wrong)
    (beside_itself c.args.wrong c.requires.wrong))

pub returns-clause-values : goal.returns-clause-values
returns-clause-values g c =
    let w = c.args.wrong in
    let def = w.judged.definition.now in
    subst (λ (n : List ℕ). AreKeyValues def (opened def (kept_in c.args.kept.now) (fresh_of w) w.judged.tree.now) (c.args.space ∷ n) c.in_ok-terms.terms.items) c.in_ok-new.ensures
    (subst (λ (t : Fragment). AreKeyValues def t (c.args.space ∷ c.in_ok-new.new) c.in_ok-terms.terms.items) c.in_ok-tree.ensures c.in_ok-terms.ensures.values)
