use Rattle.std.proofs.Common.{◌≡◌, ◌+◌, ◌∷◌, [], ◌++◌, take, sym, ap, ◌∙◌, subst}
use Rattle.std.proofs.lemmas.List.{take_more}
use Rattle.psg_grammar.specs.WellFormed.{operator_words, words_in}
use Rattle.psg_class.specs.Numbers.{HasWords}
use Rattle.psg_class.proofs.WordLaws.{operators_front, has_more, grown_both}
use Rattle.psg_class.proofs.vocabulary.Vocabulary.add_operators.Goals as goal

pub loop-operator-preserved : goal.loop-operator-preserved
loop-operator-preserved c =
    let os = c.args.operators.now in
    let i = c.loop-operator.operator-index in
    let o = c.operator-item.result in
    let next : take (i + 1) os ≡ take i os ++ o ∷ [] = take_more os i o c.loop-operator-test.true ∙ ap (λ x. take i os ++ x ∷ []) (sym c.operator-item.is) in
    record {
      grown = grown_both c.args.self.now c.loop-operator.self c.add_items.new.self c.loop-operator.invariant.grown c.in_ok-add_items.ensures.grown;
      words = has_more c.loop-operator.self c.add_items.new.self (operator_words (take i os)) (words_in o.items) (operator_words (take (i + 1) os)) (ap operator_words next ∙ operators_front (take i os) o)
          c.loop-operator.invariant.words c.in_ok-add_items.ensures.grown.keeps (subst (λ xs. HasWords c.add_items.new.self (words_in xs)) c.as_slice.ensures c.in_ok-add_items.ensures.words);
    }
