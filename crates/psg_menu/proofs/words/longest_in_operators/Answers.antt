use Rattle.std.proofs.Common.{rules, ◌≡◌, List, length, arith, subst}
use Rattle.psg_grammar.specs.declared.types.Item.{Item}
use Rattle.psg_grammar.specs.WellFormed.{operator_words, words_in}
use Rattle.psg_menu.proofs.WordLaws.{AreBounded, bounded_next, bounded_whole, operators_push, one_operator}
use Rattle.psg_menu.proofs.words.longest_in_operators.Goals as goal

pub loop-operator-init : goal.loop-operator-init
loop-operator-init c = record { least = omega arith; so_far = tt }

pub loop-operator-preserved : goal.loop-operator-preserved
loop-operator-preserved c =
    let next = c.longest_word-next.ensures in
    record {
      least = omega (arith, next.least, c.loop-operator.invariant.least);
      so_far =
          bounded_next operator_words operators_push c.args.operators.now c.loop-operator.operator-index c.loop-operator.longest c.longest_word-next.result c.operator-item.result c.loop-operator-test.true c.operator-item.is
          next.least c.loop-operator.invariant.so_far
          (one_operator c.longest_word-next.result c.operator-item.result (subst (λ (is : List Item). AreBounded c.longest_word-next.result (words_in is)) c.as_slice-items.ensures next.words));
    }

pub returns-clause-words : goal.returns-clause-words
returns-clause-words c =
    let end : c.loop-operator.operator-index ≡ length c.args.operators.now = search rules in
    bounded_whole operator_words operators_push c.args.operators.now c.loop-operator.operator-index c.loop-operator.longest end c.loop-operator.invariant.so_far
