use Rattle.std.proofs.Common.{rules, ◌≡◌, List, length, arith}
use Rattle.psg_terms.specs.Names.{Name}
use Rattle.psg_menu.proofs.WordLaws.{bounded_next, bounded_whole, names_push}
use Rattle.psg_menu.proofs.words.longest_name.Goals as goal

pub loop-name-init : goal.loop-name-init
loop-name-init c = record { least = omega arith; so_far = tt }

pub loop-name-preserved : goal.loop-name-preserved
loop-name-preserved c =
    let next = c.longer-next.ensures in
    record {
      least = omega (arith, next.old, c.loop-name.invariant.least);
      so_far =
          bounded_next (λ (ns : List Name). ns) names_push c.args.names.now c.loop-name.name-index c.loop-name.longest c.longer-next.result c.name-item.result c.loop-name-test.true c.name-item.is
          next.old c.loop-name.invariant.so_far (next.text, tt);
    }

pub returns-clause-names : goal.returns-clause-names
returns-clause-names c =
    let end : c.loop-name.name-index ≡ length c.args.names.now = search rules in
    bounded_whole (λ (ns : List Name). ns) names_push c.args.names.now c.loop-name.name-index c.loop-name.longest end c.loop-name.invariant.so_far
