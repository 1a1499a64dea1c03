-- One more free cell keeps the fields in order.
use Rattle.std.proofs.Common.{◌≡◌, List, length, sym, subst, arith}
use Rattle.psg_pool.specs.declared.pool.Slot.{Slot}
use Rattle.psg_pool.specs.Layout.{IsInOrder}
use Rattle.psg_pool.proofs.Changes.{order_put_free}
use Rattle.psg_pool.proofs.pool.Pool.put_free.Goals as goal

pub invariant_of-self-2 : goal.invariant_of-self-2
invariant_of-self-2 c =
    let start : c.len-2.result ≡ length c.self.inside.arguments.items = omega arith in
    subst (λ (slots : List Slot). IsInOrder slots c.self.inside.arguments.items c.self.inside.bindings.items) (sym c.in_ok-push.ensures.items)
    (order_put_free c.self.inside.slots.items c.self.inside.arguments.items c.self.inside.bindings.items c.len-2.result c.args.sort 0
    c.self.invariant start)

pub returns-clause-sound : goal.returns-clause-sound
returns-clause-sound c = (invariant_of-self-2 c).sound
