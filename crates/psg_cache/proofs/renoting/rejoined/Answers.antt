use Rattle.std.proofs.Common.{arith}
use Rattle.psg_cache.proofs.JoinLaws.{joined_apart, joined_behind, joined_differ, joined_equal, joined_kept, joined_long, joined_most, joined_unlike, joined_within, told_old}
use Rattle.psg_cache.proofs.renoting.rejoined.Goals as goal

pub returns-then-not-alike-clause-ok : goal.returns-then-not-alike-clause-ok
returns-then-not-alike-clause-ok g c =
    let def = c.args.language.definition.now in (
      (joined_unlike def c.args.old.now c.args.new.now c.below-olds.result.now c.as_slice-news.result.now c.args.below.items
          c.args.first c.args.last c.args.back c.tree.result.now c.tops_alike-tops.result c.as_many-many.result c.both-alike.result c.requires.noted
          c.requires.formed_old c.requires.formed c.requires.paired c.requires.below c.requires.spread c.below-olds.ensures
          c.as_slice-news.ensures.value c.tree.ensures c.tops_alike-tops.ensures c.as_many-many.ensures c.both-alike.ensures c.if-not-alike.true).differ,
      c.in_ok-note.ensures.ok,
    )

pub unlike-requires-clause-told : goal.unlike-requires-clause-told
unlike-requires-clause-told g c =
    let def = c.args.language.definition.now in
    told_old def c.args.old.now c.args.new.now c.below-olds.result.now c.as_slice-news.result.now c.args.below.items
    c.args.first c.args.last c.args.back c.tree.result.now c.tops_alike-tops.result c.as_many-many.result c.both-alike.result c.requires.noted
    c.requires.formed_old c.requires.formed c.requires.paired c.requires.below c.requires.spread c.below-olds.ensures
    c.as_slice-news.ensures.value c.tree.ensures c.tops_alike-tops.ensures c.as_many-many.ensures c.both-alike.ensures

pub unlike-requires-clause-apart : goal.unlike-requires-clause-apart
unlike-requires-clause-apart g c =
    let def = c.args.language.definition.now in
    joined_unlike def c.args.old.now c.args.new.now c.below-olds.result.now c.as_slice-news.result.now c.args.below.items
    c.args.first c.args.last c.args.back c.tree.result.now c.tops_alike-tops.result c.as_many-many.result c.both-alike.result c.requires.noted
    c.requires.formed_old c.requires.formed c.requires.paired c.requires.below c.requires.spread c.below-olds.ensures
    c.as_slice-news.ensures.value c.tree.ensures c.tops_alike-tops.ensures c.as_many-many.ensures c.both-alike.ensures c.if-not-alike.true

pub unlike-requires-clause-counts : goal.unlike-requires-clause-counts
unlike-requires-clause-counts g c =
    let def = c.args.language.definition.now in
    joined_apart def c.args.old.now c.args.new.now c.below-olds.result.now c.as_slice-news.result.now c.args.below.items
    c.args.first c.args.last c.args.back c.tree.result.now c.tops_alike-tops.result c.as_many-many.result c.both-alike.result c.requires.noted
    c.requires.formed_old c.requires.formed c.requires.paired c.requires.below c.requires.spread c.below-olds.ensures
    c.as_slice-news.ensures.value c.tree.ensures c.tops_alike-tops.ensures c.as_many-many.ensures c.both-alike.ensures c.if-not-alike.true

pub returns-then-last-eq0-clause-ok : goal.returns-then-last-eq0-clause-ok
returns-then-last-eq0-clause-ok g c =
    let def = c.args.language.definition.now in
    joined_equal def c.args.old.now c.args.new.now c.below-olds.result.now c.as_slice-news.result.now c.args.below.items
    c.args.first c.args.last c.args.back c.tree.result.now c.tops_alike-tops.result c.as_many-many.result c.both-alike.result c.requires.noted
    c.requires.formed_old c.requires.formed c.requires.paired c.requires.below c.requires.spread c.below-olds.ensures
    c.as_slice-news.ensures.value c.tree.ensures c.tops_alike-tops.ensures c.as_many-many.ensures c.both-alike.ensures c.if-not-alike.false c.if-last-eq0.true

pub settled-front-requires-clause-long : goal.settled-front-requires-clause-long
settled-front-requires-clause-long g c =
    let def = c.args.language.definition.now in
    joined_long def c.args.old.now c.args.new.now c.below-olds.result.now c.as_slice-news.result.now c.args.below.items
    c.args.first c.args.last c.args.back c.tree.result.now c.tops_alike-tops.result c.as_many-many.result c.both-alike.result c.requires.noted
    c.requires.formed_old c.requires.formed c.requires.paired c.requires.below c.requires.spread c.below-olds.ensures
    c.as_slice-news.ensures.value c.tree.ensures c.tops_alike-tops.ensures c.as_many-many.ensures c.both-alike.ensures c.if-not-alike.false

pub settled-front-requires-clause-within : goal.settled-front-requires-clause-within
settled-front-requires-clause-within g c =
    let def = c.args.language.definition.now in
    joined_within def c.args.old.now c.args.new.now c.below-olds.result.now c.as_slice-news.result.now c.args.below.items
    c.args.first c.args.last c.args.back c.tree.result.now c.tops_alike-tops.result c.as_many-many.result c.both-alike.result c.requires.noted
    c.requires.formed_old c.requires.formed c.requires.paired c.requires.below c.requires.spread c.below-olds.ensures
    c.as_slice-news.ensures.value c.tree.ensures c.tops_alike-tops.ensures c.as_many-many.ensures c.both-alike.ensures

pub settled-front-requires-clause-behind : goal.settled-front-requires-clause-behind
settled-front-requires-clause-behind g c =
    let def = c.args.language.definition.now in
    joined_behind def c.args.old.now c.args.new.now c.below-olds.result.now c.as_slice-news.result.now c.args.below.items
    c.args.first c.args.last c.args.back c.tree.result.now c.tops_alike-tops.result c.as_many-many.result c.both-alike.result c.requires.noted
    c.requires.formed_old c.requires.formed c.requires.paired c.requires.below c.requires.spread c.below-olds.ensures
    c.as_slice-news.ensures.value c.tree.ensures c.tops_alike-tops.ensures c.as_many-many.ensures c.both-alike.ensures c.if-not-alike.false

pub remade-requires-clause-kept : goal.remade-requires-clause-kept
remade-requires-clause-kept g c =
    let def = c.args.language.definition.now in
    joined_kept def c.args.old.now c.args.new.now c.below-olds.result.now c.as_slice-news.result.now c.args.below.items
    c.args.first c.args.last c.args.back c.tree.result.now c.tops_alike-tops.result c.as_many-many.result c.both-alike.result c.requires.noted
    c.requires.formed_old c.requires.formed c.requires.paired c.requires.below c.requires.spread c.below-olds.ensures
    c.as_slice-news.ensures.value c.tree.ensures c.tops_alike-tops.ensures c.as_many-many.ensures c.both-alike.ensures c.if-not-alike.false c.lesser-same.result c.settled-front.result c.lesser-same.ensures.within.0 c.lesser-same.ensures.within.1 c.settled-front.ensures.within c.settled-front.ensures.same

pub returns-in_err-all-clause-bounded : goal.returns-in_err-all-clause-bounded
returns-in_err-all-clause-bounded g c =
    let def = c.args.language.definition.now in
    let cost = joined_most def c.args.old.now c.args.new.now c.below-olds.result.now c.as_slice-news.result.now c.args.below.items
    c.args.first c.args.last c.args.back c.tree.result.now c.tops_alike-tops.result c.as_many-many.result c.both-alike.result c.requires.noted
    c.requires.formed_old c.requires.formed c.requires.paired c.requires.below c.requires.spread c.below-olds.ensures
    c.as_slice-news.ensures.value c.tree.ensures c.tops_alike-tops.ensures c.as_many-many.ensures c.both-alike.ensures c.if-not-alike.false (omega (arith, c.if-last-eq0.false)) c.settled-front.result c.settled-front.ensures.within in
    omega (arith, cost, c.remade.ensures.bounded)

pub returns-clause-ok : goal.returns-clause-ok
returns-clause-ok g c =
    let def = c.args.language.definition.now in (
      joined_differ def c.args.old.now c.args.new.now c.below-olds.result.now c.as_slice-news.result.now c.args.below.items
          c.args.first c.args.last c.args.back c.tree.result.now c.tops_alike-tops.result c.as_many-many.result c.both-alike.result c.requires.noted
          c.requires.formed_old c.requires.formed c.requires.paired c.requires.below c.requires.spread c.below-olds.ensures
          c.as_slice-news.ensures.value c.tree.ensures c.tops_alike-tops.ensures c.as_many-many.ensures c.both-alike.ensures (omega (arith, c.if-last-eq0.false)),
      c.in_ok-all.ensures.ok,
    )

pub returns-clause-bounded : goal.returns-clause-bounded
returns-clause-bounded g c =
    let def = c.args.language.definition.now in
    let cost = joined_most def c.args.old.now c.args.new.now c.below-olds.result.now c.as_slice-news.result.now c.args.below.items
    c.args.first c.args.last c.args.back c.tree.result.now c.tops_alike-tops.result c.as_many-many.result c.both-alike.result c.requires.noted
    c.requires.formed_old c.requires.formed c.requires.paired c.requires.below c.requires.spread c.below-olds.ensures
    c.as_slice-news.ensures.value c.tree.ensures c.tops_alike-tops.ensures c.as_many-many.ensures c.both-alike.ensures c.if-not-alike.false (omega (arith, c.if-last-eq0.false)) c.settled-front.result c.settled-front.ensures.within in
    omega (arith, cost, c.remade.ensures.bounded)
