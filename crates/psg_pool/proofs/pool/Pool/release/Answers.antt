-- Cut buffers are in order, and show as the two lists cut.
use Rattle.std.proofs.Common.{◌≡◌, List, length, ap, sym, ◌∙◌, subst, arith}
use Rattle.psg_pool.specs.declared.pool.Slot.{Slot}
use Rattle.psg_pool.specs.Marks.{Lengths, IsReleasable}
use Rattle.psg_pool.specs.Bindings.{Kept}
use Rattle.psg_pool.specs.Layout.{shown, end_of}
use Rattle.psg_pool.proofs.Changes.{order_release, puts_release}
use Rattle.psg_pool.proofs.pool.Pool.release.Goals as goal

pub invariant_of-self : goal.invariant_of-self
invariant_of-self c =
    let mark : Lengths = record { cells = c.mark.inside.cells; bindings = c.mark.inside.bindings } in
    let now : Kept = shown c.self.inside.slots.items c.self.inside.arguments.items c.self.inside.bindings.items in
    let can : IsReleasable now mark =
    subst (λ (m : Lengths). IsReleasable now m) (sym c.mark.view_is) (subst (λ (kept : Kept). IsReleasable kept c.args.mark) (sym c.self.view_is) c.requires) in
    let whole : c.len.result ≡ length c.self.inside.arguments.items = omega arith in
    let end : c.end_of-end.result ≡ end_of c.self.inside.slots.items c.mark.inside.cells (length c.self.inside.arguments.items) =
    c.end_of-end.ensures ∙ ap (λ (slots : List Slot). end_of slots c.mark.inside.cells c.len.result) c.deref.ensures.value
    ∙ ap (end_of c.self.inside.slots.items c.mark.inside.cells) whole in
    rw (c.truncate.ensures.items, c.truncate-2.ensures.items, c.truncate-3.ensures.items, end)
    (order_release c.self.inside.slots.items c.self.inside.arguments.items c.self.inside.bindings.items mark c.self.invariant can)

pub returns-clause-cells : goal.returns-clause-cells
returns-clause-cells c =
    let whole : c.len.result ≡ length c.self.inside.arguments.items = omega arith in
    let end : c.end_of-end.result ≡ end_of c.self.inside.slots.items c.mark.inside.cells (length c.self.inside.arguments.items) =
    c.end_of-end.ensures ∙ ap (λ (slots : List Slot). end_of slots c.mark.inside.cells c.len.result) c.deref.ensures.value
    ∙ ap (end_of c.self.inside.slots.items c.mark.inside.cells) whole in
    rw (c.truncate.ensures.items, c.truncate-2.ensures.items, end, ← c.self.view_is, ← c.mark.view_is)
    (puts_release c.self.inside.slots.items c.self.inside.arguments.items c.mark.inside.cells c.self.invariant.laid)

pub returns-clause-sound : goal.returns-clause-sound
returns-clause-sound c = (invariant_of-self c).sound
