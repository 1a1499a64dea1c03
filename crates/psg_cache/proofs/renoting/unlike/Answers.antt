use Rattle.std.proofs.Common.{ap, length, arith}
use Rattle.psg_cache.specs.Annotated.{tree_in}
use Rattle.psg_cache.proofs.RealTrees.{real}
use Rattle.psg_cache.proofs.RenoteLaws.{unlike_most}
use Rattle.psg_cache.proofs.SpreadLaws.{told_alike, unlike_kept_slices, unlike_remade_slices}
use Rattle.psg_cache.proofs.renoting.unlike.Goals as goal

pub returns-in_err-whole-clause-bounded : goal.returns-in_err-whole-clause-bounded
returns-in_err-whole-clause-bounded g c =
    let def = c.args.language.definition.now in
    let cost = unlike_most (tree_in c.args.old.now) c.args.new.now (real def c.args.new.now c.requires.formed) c.requires.paired
    c.requires.apart in
    omega (arith, cost, c.topped.ensures.bounded)

pub returns-then-not-tops-clause-bounded : goal.returns-then-not-tops-clause-bounded
returns-then-not-tops-clause-bounded g c =
    let def = c.args.language.definition.now in
    let cost = unlike_most (tree_in c.args.old.now) c.args.new.now (real def c.args.new.now c.requires.formed) c.requires.paired
    c.requires.apart in
    omega (arith, cost, c.topped.ensures.bounded)

pub remade-requires-clause-kept : goal.remade-requires-clause-kept
remade-requires-clause-kept g c =
    unlike_kept_slices c.args.language.definition.now c.args.old.now c.args.new.now c.args.below.items
    c.below-olds.result.now c.as_slice-news.result.now c.args.first c.args.last c.args.back c.below-olds.ensures
    c.as_slice-news.ensures.value c.requires.noted c.requires.formed_old c.requires.formed
    (told_alike c.args.tops (tree_in c.args.old.now) c.args.new.now c.requires.told c.if-not-tops.false)
    (c.requires.counts c.if-not-tops.false) c.requires.below c.requires.spread

pub returns-in_err-note-clause-bounded : goal.returns-in_err-note-clause-bounded
returns-in_err-note-clause-bounded g c =
    let cost = unlike_remade_slices c.args.language.definition.now (tree_in c.args.old.now) c.args.new.now
    c.args.below.items c.as_slice-news.result.now c.args.back c.as_slice-news.ensures.value c.requires.below
    c.requires.paired c.requires.apart in
    omega (arith, cost, c.remade.ensures.bounded)

pub returns-clause-bounded : goal.returns-clause-bounded
returns-clause-bounded g c =
    let cost = unlike_remade_slices c.args.language.definition.now (tree_in c.args.old.now) c.args.new.now
    c.args.below.items c.as_slice-news.result.now c.args.back c.as_slice-news.ensures.value c.requires.below
    c.requires.paired c.requires.apart in
    omega (arith, cost, c.remade.ensures.bounded)

pub overflow_sub-behind : goal.overflow_sub-behind
overflow_sub-behind g c =
    let few = c.requires.spread.old_few in
    let many = ap length c.below-olds.ensures in
    omega (arith, few, many)

pub overflow_sub-front : goal.overflow_sub-front
overflow_sub-front g c =
    let few = c.requires.spread.new_few in
    let many = ap length c.as_slice-news.ensures.value in
    omega (arith, few, many)
