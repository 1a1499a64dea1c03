use Rattle.std.proofs.Common.{◌<◌, get_or, subst, sym}
use Rattle.std.proofs.lemmas.List.Elements.{Contains-get_or}
use Rattle.psg_class.proofs.Closing.{joined, followed_link, all_followed}
use Rattle.psg_class.proofs.grid.follow_all.Goals as goal

pub follow-more-requires-clause-to : goal.follow-more-requires-clause-to
follow-more-requires-clause-to c = subst (λ h. (get_or c.args.links.now c.loop-link.link-index (record { to = 0; from = 0 })).to < h) (sym c.loop-link.invariant.step.size.height)
    (c.requires.links _ (Contains-get_or c.args.links.now c.loop-link.link-index (record { to = 0; from = 0 }) c.loop-link-test.true)).0

pub follow-more-requires-clause-from : goal.follow-more-requires-clause-from
follow-more-requires-clause-from c = subst (λ h. (get_or c.args.links.now c.loop-link.link-index (record { to = 0; from = 0 })).from < h) (sym c.loop-link.invariant.step.size.height)
    (c.requires.links _ (Contains-get_or c.args.links.now c.loop-link.link-index (record { to = 0; from = 0 }) c.loop-link-test.true)).1

pub loop-link-preserved : goal.loop-link-preserved
loop-link-preserved c = record {
  step = joined c.args.links.now c.args.grid.now c.loop-link.grid c.follow-more.new.grid c.loop-link.more c.follow-more.result c.loop-link.invariant.step
      (c.follow-more.ensures.step c.args.links.now (Contains-get_or c.args.links.now c.loop-link.link-index (record { to = 0; from = 0 }) c.loop-link-test.true));
  done = followed_link c.args.links.now (record { to = 0; from = 0 }) c.args.grid.now c.loop-link.grid c.loop-link.link-index c.loop-link.more c.follow-more.result c.loop-link.invariant.step c.loop-link.invariant.done c.follow-more.ensures.followed;
}

pub returns-clause-followed : goal.returns-clause-followed
returns-clause-followed c = all_followed c.args.links.now (record { to = 0; from = 0 }) c.args.grid.now c.loop-link.link-index c.loop-link.more c.loop-link-test.false c.loop-link.invariant.done
