use Rattle.std.proofs.Common.{◌≡◌, true, arith, length, ap, subst}
use Rattle.psg_terms.specs.Names.{is_among}
use Rattle.psg_grammar.specs.WellFormed.{operator_words, separators}
use Rattle.psg_class.specs.Numbers.{HasWords}
use Rattle.psg_class.proofs.WordLaws.{whole}
use Rattle.psg_class.proofs.vocabulary.Vocabulary.of.Goals as goal

pub returns : goal.returns
returns c =
    whole c.args.definition.now _ c.add_operators.new.self c.add_separators.new.self c.add-2.new.self c.add-4.new.self (let e = ap length c.as_slice-phyla.ensures in omega arith) c.in_ok-add_operators.ensures.grown
    (subst (λ xs. HasWords c.add_operators.new.self (operator_words xs)) c.as_slice.ensures c.in_ok-add_operators.ensures.words)
    c.in_ok-add_separators.ensures.grown (subst (λ xs. HasWords c.add_separators.new.self (separators xs)) c.as_slice-2.ensures c.in_ok-add_separators.ensures.words)
    c.in_ok-add.ensures.grown (subst (λ w. is_among c.add-2.new.self.words.items w ≡ true) c.in_ok-copy_of.ensures c.in_ok-add.ensures.word)
    c.in_ok-add-2.ensures.grown (subst (λ w. is_among c.add-4.new.self.words.items w ≡ true) c.in_ok-copy_of-2.ensures c.in_ok-add-2.ensures.word)
