use Rattle.std.proofs.Common.{rules, ◌≡◌, length, arith}
use Rattle.psg_grammar.specs.WellFormed.{separators}
use Rattle.psg_menu.proofs.WordLaws.{bounded_next, bounded_whole, separators_push}
use Rattle.psg_menu.proofs.words.longest_separator.Goals as goal

pub loop-list-init : goal.loop-list-init
loop-list-init c = record { least = omega arith; so_far = tt }

pub loop-list-preserved : goal.loop-list-preserved
loop-list-preserved c =
    let next = c.longer-next.ensures in
    record {
      least = omega (arith, next.old, c.loop-list.invariant.least);
      so_far =
          bounded_next separators separators_push c.args.lists.now c.loop-list.list-index c.loop-list.longest c.longer-next.result c.list-item.result c.loop-list-test.true c.list-item.is
          next.old c.loop-list.invariant.so_far (next.text, tt);
    }

pub returns-clause-words : goal.returns-clause-words
returns-clause-words c =
    let end : c.loop-list.list-index ≡ length c.args.lists.now = search rules in
    bounded_whole separators separators_push c.args.lists.now c.loop-list.list-index c.loop-list.longest end c.loop-list.invariant.so_far
