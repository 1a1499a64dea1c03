use Rattle.std.proofs.Common.{◌<◌, ◌∙◌, get_or, length, refl, set, subst, sym, arith}
use Rattle.std.proofs.lemmas.List.{get_or_default, length-set}
use Rattle.psg_class.specs.declared.grid.Link.{Link}
use Rattle.psg_class.proofs.ChainLaws.{chain_round}
use Rattle.psg_class.proofs.grid.chained.Goals as goal

pub loop-place-preserved : goal.loop-place-preserved
loop-place-preserved c =
    let links = c.args.links.now in
    let n = c.loop-place.place in
    let first = c.loop-place.first.items in
    let link : Link = get_or links n (record { to = 0; from = 0 }) in
    let inside : link.from < length first = subst (λ k. link.from < k) (sym c.loop-place.invariant.one_each) (c.requires n c.loop-place-test.true) in
    record {
      one_each = length-set first link.from n ∙ c.loop-place.invariant.one_each;
      each_next = (let e = c.in_ok-push.ensures.len in let f = c.loop-place.invariant.each_next in omega (arith, e, f));
      ways = chain_round links (length links) n first c.loop-place.next.items (set first link.from n) c.push.new.self.items link c.index.result.now
          c.loop-place-test.true refl c.loop-place.invariant.each_next inside (c.index.ensures ∙ get_or_default first link.from c.index.result.now 0 inside) refl c.in_ok-push.ensures.items c.loop-place.invariant.ways;
    }
