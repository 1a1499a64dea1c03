use Rattle.std.proofs.Common.{◌<◌, subst, sym}
use Rattle.std.proofs.lemmas.List.Elements.{Contains-get_or}
use Rattle.psg_class.proofs.Closing.{joined}
use Rattle.psg_class.proofs.grid.spread.Goals as goal

pub chained-requires : goal.chained-requires
chained-requires c = λ place lt. (c.requires.links _ (Contains-get_or c.args.links.now place (record { to = 0; from = 0 }) lt)).1

pub pass_on-requires-clause-links : goal.pass_on-requires-clause-links
pass_on-requires-clause-links c = λ l among.
    let inside = c.requires.links l among in
    (subst (λ h. l.to < h) (sym c.loop.invariant.size.height) inside.0, subst (λ h. l.from < h) (sym c.loop.invariant.size.height) inside.1)

pub loop-preserved : goal.loop-preserved
loop-preserved c = joined c.args.links.now c.args.grid.now c.loop.grid c.pass_on.new.grid c.loop.more c.in_ok-more.field-0 c.loop.invariant c.in_ok-more.ensures
