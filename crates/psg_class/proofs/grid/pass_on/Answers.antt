use Rattle.std.proofs.Common.{◌||◌, ◌<◌, ap, subst, sym, ◌∙◌}
use Rattle.psg_class.specs.Grids.{IsStep}
use Rattle.psg_class.proofs.Closing.{contains_got, joined}
use Rattle.psg_class.proofs.grid.pass_on.Goals.{then-copy+in_ok-push, else-copy}
use Rattle.psg_class.proofs.grid.pass_on.Goals as goal

pub copy-requires-clause-grid : goal.copy-requires-clause-grid
copy-requires-clause-grid c = c.loop.invariant.size.grid

pub copy-requires-clause-to : goal.copy-requires-clause-to
copy-requires-clause-to c =
    subst (λ h. c.in-Some.link.now.to < h) (sym c.loop.invariant.size.height)
    (c.requires.links c.in-Some.link.now (contains_got c.args.links.now c.loop.place c.get.result c.in-Some.link c.get.ensures.lookup c.in-Some.is)).0

pub copy-requires-clause-from : goal.copy-requires-clause-from
copy-requires-clause-from c =
    subst (λ h. c.in-Some.link.now.from < h) (sym c.loop.invariant.size.height)
    (c.requires.links c.in-Some.link.now (contains_got c.args.links.now c.loop.place c.get.result c.in-Some.link c.get.ensures.lookup c.in-Some.is)).1

pub loop-preserved : goal.loop-preserved
loop-preserved c =
    let links = c.args.links.now in
    let among = contains_got links c.loop.place c.get.result c.in-Some.link c.get.ensures.lookup c.in-Some.is in
    let both = joined links c.args.grid.now c.loop.grid c.copy.new.grid c.loop.more c.copy.result c.loop.invariant (c.copy.ensures.step links among) in
    elim c.if-copy.branch [
      | then-copy+in_ok-push w ↦ subst (IsStep links c.args.grid.now c.copy.new.grid) (ap (λ b. b || c.loop.more) w.if-copy.true ∙ sym w.more-is) both
      | else-copy w ↦ subst (IsStep links c.args.grid.now c.copy.new.grid) (ap (λ b. b || c.loop.more) w.if-copy.false ∙ sym w.more-is) both
    ]
