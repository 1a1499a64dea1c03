use Rattle.std.proofs.Common.{◌≡◌, ◌+◌, ℕ, List, ◌∷◌, [], ◌++◌, take, sym, ap, ◌∙◌, subst}
use Rattle.std.proofs.lemmas.List.{take_more}
use Rattle.psg_grammar.specs.declared.types.Item.{Item}
use Rattle.psg_class.specs.declared.vocabulary.Vocabulary.{Vocabulary}
use Rattle.psg_grammar.specs.WellFormed.{words_in}
use Rattle.psg_class.specs.Numbers.{Grown, HasWords}
use Rattle.psg_class.proofs.WordLaws.{words_front, words_none, has_more, has_one, has_none, grown_both}
use Rattle.psg_class.proofs.vocabulary.Vocabulary.add_items.Goals as goal
use Rattle.psg_class.proofs.vocabulary.Vocabulary.add_items.Goals.{in-Word+in_ok-add, in_default}

abbrev Good : Vocabulary → Vocabulary → List Item → ℕ → Type 0
Good old new xs i = record { grown : Grown old new; words : HasWords new (words_in (take (i + 1) xs)) }

pub loop-item-preserved : goal.loop-item-preserved
loop-item-preserved c =
    let xs = c.args.items.now in
    let i = c.loop-item.item-index in
    let x = c.item-item.result in
    let next : words_in (take (i + 1) xs) ≡ words_in (take i xs) ++ words_in (x ∷ []) = ap words_in (take_more xs i x c.loop-item-test.true ∙ ap (λ y. take i xs ++ y ∷ []) (sym c.item-item.is)) ∙ words_front (take i xs) x in
    elim c.match-item.branch [
      | in-Word+in_ok-add w ↦ subst (λ v. Good c.args.self.now v xs i) (sym w.self-is) (record {
        grown = grown_both c.args.self.now c.loop-item.self w.add.new.self c.loop-item.invariant.grown w.in_ok-add.ensures.grown;
        words = has_more c.loop-item.self w.add.new.self (words_in (take i xs)) (words_in (x ∷ [])) (words_in (take (i + 1) xs)) next c.loop-item.invariant.words w.in_ok-add.ensures.grown.keeps
            (subst (λ y. HasWords w.add.new.self (words_in (y ∷ []))) (sym w.in-Word.is) (has_one w.add.new.self w.in-Word.word w.in_ok-add.ensures.word));
      })
      | in_default w ↦ subst (λ v. Good c.args.self.now v xs i) (sym w.self-is) (record {
        grown = c.loop-item.invariant.grown;
        words = has_more c.loop-item.self c.loop-item.self (words_in (take i xs)) (words_in (x ∷ [])) (words_in (take (i + 1) xs)) next c.loop-item.invariant.words (λ v e. e)
            (subst (HasWords c.loop-item.self) (sym (words_none x w.in_default.not-Word)) (has_none c.loop-item.self));
      })
    ]
