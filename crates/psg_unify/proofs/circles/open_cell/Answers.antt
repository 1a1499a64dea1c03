use Rattle.std.proofs.Common.{refl, reverse, subst, arith}
use Rattle.psg_unify.specs.declared.circles.Progress.TheVariants.{Open}
use Rattle.psg_unify.specs.declared.walking.Item.TheVariants.{Visit, Leave}
use Rattle.psg_unify.specs.Circles.{HasNext}
use Rattle.psg_unify.proofs.Rounds.{opens_cell, on_top, top_within, set_at, unseen_opened}
use Rattle.psg_unify.proofs.circles.open_cell.Goals as goal

pub set_progress-requires : goal.set_progress-requires
set_progress-requires c =
    let own = top_within c.args.pool.now c.args.base c.args.marks.now.items (Visit c.args.id) (reverse c.args.stack.now.items) c.requires.walking in
    record { from = own.0; within = own.1 }

pub push_next-requires : goal.push_next-requires
push_next-requires c =
    let own = top_within c.args.pool.now c.args.base c.args.marks.now.items (Visit c.args.id) (reverse c.args.stack.now.items) c.requires.walking in
    (let n = c.requires.walking.count in omega (arith, own.1, n))

pub returns-clause-walking : goal.returns-clause-walking
returns-clause-walking c =
    let own = top_within c.args.pool.now c.args.base c.args.marks.now.items (Visit c.args.id) (reverse c.args.stack.now.items) c.requires.walking in
    opens_cell c.args.pool.now c.mark-mark.ensures.sound c.args.base c.args.marks.now.items c.set_progress.new.marks.items c.args.id (reverse c.args.stack.now.items) (reverse c.push_next.new.stack.items)
    c.requires.unseen (set_at c.args.base c.args.marks.now.items c.set_progress.new.marks.items c.args.id Open own.0 own.1 c.set_progress.ensures)
    (subst (λ l. HasNext c.args.pool.now c.args.id l (reverse c.push_next.new.stack.items))
    (on_top c.args.stack.now.items c.push.new.self.items (Leave c.args.id) c.in_ok-push.ensures.items) c.in_ok-push_next.ensures) c.requires.walking

pub returns-clause-fewer : goal.returns-clause-fewer
returns-clause-fewer c = unseen_opened c.args.base c.args.marks.now.items c.set_progress.new.marks.items c.args.id Open c.requires.unseen refl c.set_progress.ensures
