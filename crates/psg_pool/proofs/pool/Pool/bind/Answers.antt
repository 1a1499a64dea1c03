-- One more binding keeps the fields in order, and changes no cell that was put.
use Rattle.std.proofs.Common.{◌≡◌, length, ap, sym, ◌∙◌, subst, arith}
use Rattle.psg_pool.specs.Cells.{IsAmong}
use Rattle.psg_pool.specs.Bindings.{Kept, IsFree, Leads}
use Rattle.psg_pool.specs.Layout.{puts, shown}
use Rattle.psg_pool.proofs.Changes.{order_bind, puts_bind}
use Rattle.psg_pool.proofs.pool.Pool.bind.Goals as goal

pub invariant_of-self-2 : goal.invariant_of-self-2
invariant_of-self-2 c =
    let is_free : IsFree (shown c.self.inside.slots.items c.self.inside.arguments.items c.self.inside.bindings.items) c.args.free =
    subst (λ (kept : Kept). IsFree kept c.args.free) (sym c.self.view_is) c.requires.is_free in
    let among : IsAmong (puts c.self.inside.arguments.items c.self.inside.slots.items) c.args.to =
    subst (λ (kept : Kept). IsAmong kept.cells c.args.to) (sym c.self.view_is) c.requires.among in
    let apart : Leads c.self.inside.bindings.items c.args.to c.args.free → ⊥ =
    subst (λ (kept : Kept). Leads kept.bindings c.args.to c.args.free → ⊥) (sym c.self.view_is) c.requires.apart in
    let place : c.len-place.result ≡ length c.self.inside.bindings.items = omega arith in
    rw (c.in_ok-push.ensures.items, c.bound_at-slot.ensures)
    (order_bind c.self.inside.slots.items c.self.inside.arguments.items c.self.inside.bindings.items c.args.free c.args.to c.index_mut-slot.result.now
    c.len-place.result c.self.invariant is_free among apart c.index_mut-slot.ensures.value place)

pub returns-clause-keeps : goal.returns-clause-keeps
returns-clause-keeps c =
    rw c.bound_at-slot.ensures
    (puts_bind c.self.inside.slots.items c.self.inside.arguments.items c.args.free.0 c.len-place.result c.index_mut-slot.result.now
    c.index_mut-slot.ensures.value
    ∙ ap (λ (kept : Kept). kept.cells) c.self.view_is)

pub returns-clause-sound : goal.returns-clause-sound
returns-clause-sound c = (invariant_of-self-2 c).sound
