use Rattle.std.proofs.Common.{rules, ◌≡◌, length, arith}
use Rattle.psg_grammar.specs.WellFormed.{words_in}
use Rattle.psg_menu.proofs.WordLaws.{bounded_next, bounded_whole, words_push}
use Rattle.psg_menu.proofs.words.longest_word.Goals as goal

pub loop-item-init : goal.loop-item-init
loop-item-init c = record { least = omega arith; so_far = tt }

pub loop-item-preserved : goal.loop-item-preserved
loop-item-preserved c =
    let next = c.longer_item-next.ensures in
    record {
      least = omega (arith, next.least, c.loop-item.invariant.least);
      so_far =
          bounded_next words_in words_push c.args.items.now c.loop-item.item-index c.loop-item.longest c.longer_item-next.result c.item-item.result c.loop-item-test.true c.item-item.is
          next.least c.loop-item.invariant.so_far next.words;
    }

pub returns-clause-words : goal.returns-clause-words
returns-clause-words c =
    let end : c.loop-item.item-index ≡ length c.args.items.now = search rules in
    bounded_whole words_in words_push c.args.items.now c.loop-item.item-index c.loop-item.longest end c.loop-item.invariant.so_far
