use Rattle.std.proofs.Common.{◌≡◌, ◌+◌, ◌∷◌, [], ◌++◌, take, sym, ap, ◌∙◌}
use Rattle.std.proofs.lemmas.List.{take_more}
use Rattle.psg_grammar.specs.WellFormed.{separators}
use Rattle.psg_class.proofs.WordLaws.{separators_front, has_more, has_one, grown_both}
use Rattle.psg_class.proofs.vocabulary.Vocabulary.add_separators.Goals as goal

pub loop-list-preserved : goal.loop-list-preserved
loop-list-preserved c =
    let ls = c.args.lists.now in
    let i = c.loop-list.list-index in
    let l = c.list-item.result in
    let next : take (i + 1) ls ≡ take i ls ++ l ∷ [] = take_more ls i l c.loop-list-test.true ∙ ap (λ x. take i ls ++ x ∷ []) (sym c.list-item.is) in
    record {
      grown = grown_both c.args.self.now c.loop-list.self c.add.new.self c.loop-list.invariant.grown c.in_ok-add.ensures.grown;
      words = has_more c.loop-list.self c.add.new.self (separators (take i ls)) (l.separator ∷ []) (separators (take (i + 1) ls)) (ap separators next ∙ separators_front (take i ls) l)
          c.loop-list.invariant.words c.in_ok-add.ensures.grown.keeps (has_one c.add.new.self l.separator c.in_ok-add.ensures.word);
    }
