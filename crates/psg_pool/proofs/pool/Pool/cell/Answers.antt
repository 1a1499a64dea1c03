-- A cell holds what its slot says.
use Rattle.std.proofs.Common.{◌≡◌, ◌<◌, ◌≤◌, List, Some, length, slice_get, refl, ap, sym, ◌∙◌, subst, arith}
use Rattle.std.proofs.lemmas.Option.{slice_get_read, slice_get_within, MatchOption-at_none}
use Rattle.psg_pool.specs.declared.cells.Cell.TheVariants as cell
use Rattle.psg_pool.specs.declared.cells.Binding.{Binding}
use Rattle.psg_pool.specs.Bindings.{Kept, Holds}
use Rattle.psg_pool.specs.Layout.{puts}
use Rattle.psg_pool.proofs.Changes.{slot_at}
use Rattle.psg_pool.proofs.Held.{reads_bound, reads_free, reads_con}
use Rattle.psg_pool.proofs.pool.Pool.cell.Goals as goal

pub returns-in-Some-clause-holds : goal.returns-in-Some-clause-holds
returns-in-Some-clause-holds c =
    let among : c.args.id.0 < length (puts c.self.inside.arguments.items c.self.inside.slots.items) =
    subst (λ (kept : Kept). c.args.id.0 < length kept.cells) (sym c.self.view_is) c.requires in
    let slot : slice_get c.self.inside.slots.items c.args.id.0 ≡ Some c.index.result.now =
    slot_at c.self.inside.slots.items c.self.inside.arguments.items c.args.id.0 c.index.result.now among c.index.ensures in
    let got : slice_get c.self.inside.bindings.items c.in-Free.place ≡ Some c.in-Some.binding.now =
    subst (λ (l : List Binding). slice_get l c.in-Free.place ≡ Some c.in-Some.binding.now) c.deref.ensures.value
    (slice_get_read c.deref.result.now (length c.deref.result.now) c.in-Free.place c.in-Some.binding.now refl c.in-Some.ensures.lookup.3.0
    c.in-Some.ensures.lookup.1) in
    subst (λ (kept : Kept). Holds kept c.args.id (cell.Bound c.in-Some.binding.now.target)) c.self.view_is
    (reads_bound c.self.inside.slots.items c.self.inside.arguments.items c.self.inside.bindings.items c.args.id c.index.result.now c.in-Free.sort
    c.in-Free.place c.in-Some.binding.now c.self.invariant slot c.in-Free.is got c.if-binding-id.true)

pub returns-in_default-clause-holds : goal.returns-in_default-clause-holds
returns-in_default-clause-holds c =
    let among : c.args.id.0 < length (puts c.self.inside.arguments.items c.self.inside.slots.items) =
    subst (λ (kept : Kept). c.args.id.0 < length kept.cells) (sym c.self.view_is) c.requires in
    let slot : slice_get c.self.inside.slots.items c.args.id.0 ≡ Some c.index.result.now =
    slot_at c.self.inside.slots.items c.self.inside.arguments.items c.args.id.0 c.index.result.now among c.index.ensures in
    let got : slice_get c.self.inside.bindings.items c.in-Free.place ≡ Some c.in-Some.binding.now =
    subst (λ (l : List Binding). slice_get l c.in-Free.place ≡ Some c.in-Some.binding.now) c.deref.ensures.value
    (slice_get_read c.deref.result.now (length c.deref.result.now) c.in-Free.place c.in-Some.binding.now refl c.in-Some.ensures.lookup.3.0
    c.in-Some.ensures.lookup.1) in
    subst (λ (kept : Kept). Holds kept c.args.id (cell.Free c.in-Free.sort)) c.self.view_is
    (reads_free c.self.inside.slots.items c.self.inside.arguments.items c.self.inside.bindings.items c.args.id c.index.result.now c.in-Free.sort
    c.in-Free.place c.self.invariant slot c.in-Free.is
    (λ b at same.
    let one : Some c.in-Some.binding.now ≡ Some b = sym got ∙ at in
    let it : c.in-Some.binding.now ≡ b = cc in
    c.if-binding-id.false (ap (λ (x : Binding). x.bound.0) it ∙ same)))

pub returns-in_default-2-clause-holds : goal.returns-in_default-2-clause-holds
returns-in_default-2-clause-holds c =
    let among : c.args.id.0 < length (puts c.self.inside.arguments.items c.self.inside.slots.items) =
    subst (λ (kept : Kept). c.args.id.0 < length kept.cells) (sym c.self.view_is) c.requires in
    let slot : slice_get c.self.inside.slots.items c.args.id.0 ≡ Some c.index.result.now =
    slot_at c.self.inside.slots.items c.self.inside.arguments.items c.args.id.0 c.index.result.now among c.index.ensures in
    let past : length c.deref.result.now ≤ c.in-Free.place = MatchOption-at_none _ _ c.in_default.is c.get.ensures.lookup.3 in
    subst (λ (kept : Kept). Holds kept c.args.id (cell.Free c.in-Free.sort)) c.self.view_is
    (reads_free c.self.inside.slots.items c.self.inside.arguments.items c.self.inside.bindings.items c.args.id c.index.result.now c.in-Free.sort
    c.in-Free.place c.self.invariant slot c.in-Free.is
    (λ b at same.
    absurd (omega (
      arith,
      past,
      ap (λ (l : List Binding). length l) c.deref.ensures.value,
      slice_get_within c.self.inside.bindings.items c.in-Free.place b at,
    ))))

pub returns-in-Con-clause-holds : goal.returns-in-Con-clause-holds
returns-in-Con-clause-holds c =
    let among : c.args.id.0 < length (puts c.self.inside.arguments.items c.self.inside.slots.items) =
    subst (λ (kept : Kept). c.args.id.0 < length kept.cells) (sym c.self.view_is) c.requires in
    let slot : slice_get c.self.inside.slots.items c.args.id.0 ≡ Some c.index.result.now =
    slot_at c.self.inside.slots.items c.self.inside.arguments.items c.args.id.0 c.index.result.now among c.index.ensures in
    subst (λ (kept : Kept). Holds kept c.args.id (cell.Con c.in-Con.con c.in-Con.count)) c.self.view_is
    (reads_con c.self.inside.slots.items c.self.inside.arguments.items c.self.inside.bindings.items c.args.id c.index.result.now c.in-Con.con
    c.in-Con.count c.self.invariant slot c.in-Con.is)
