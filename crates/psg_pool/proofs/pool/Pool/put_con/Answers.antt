-- One more constructor cell keeps the fields in order, and shows as one.
use Rattle.std.proofs.Common.{◌≡◌, length, All, refl, sym, subst, arith}
use Rattle.psg_pool.specs.Cells.{IsAmong}
use Rattle.psg_pool.specs.Bindings.{Kept}
use Rattle.psg_pool.specs.Layout.{puts}
use Rattle.psg_pool.proofs.Changes.{order_put_con, puts_put_con}
use Rattle.psg_pool.proofs.pool.Pool.put_con.Goals as goal

pub invariant_of-self-2 : goal.invariant_of-self-2
invariant_of-self-2 c =
    let start : c.len-start.result ≡ length c.self.inside.arguments.items = omega arith in
    let among : All (IsAmong (puts c.self.inside.arguments.items c.self.inside.slots.items)) c.args.args.now =
    subst (λ (kept : Kept). All (IsAmong kept.cells) c.args.args.now) (sym c.self.view_is) c.requires in
    rw (c.push_reserved.ensures.items, c.reserve.ensures.items, c.in_ok-extend_from_slice.ensures.items)
    (order_put_con c.self.inside.slots.items c.self.inside.arguments.items c.args.args.now c.self.inside.bindings.items c.len-start.result c.args.con
    (length c.args.args.now) c.self.invariant start refl among)

pub returns-clause-ok : goal.returns-clause-ok
returns-clause-ok c =
    let start : c.len-start.result ≡ length c.self.inside.arguments.items = omega arith in
    rw (c.push_reserved.ensures.items, c.reserve.ensures.items, c.in_ok-extend_from_slice.ensures.items, ← c.self.view_is)
    (puts_put_con c.self.inside.slots.items c.self.inside.arguments.items c.args.args.now c.len-start.result c.args.con (length c.args.args.now)
    c.self.invariant.laid start refl)

pub returns-clause-sound : goal.returns-clause-sound
returns-clause-sound c = (invariant_of-self-2 c).sound
