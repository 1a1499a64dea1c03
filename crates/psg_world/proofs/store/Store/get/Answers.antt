use Rattle.std.proofs.Common.{Some, sym, ◌∙◌, ap}
use Rattle.psg_world.proofs.PlaceLaws.{get-place, get-absent}
use Rattle.psg_world.proofs.store.Store.get.Goals as goal

pub returns-in-Some : goal.returns-in-Some
returns-in-Some c =
    let place = rw c.deref.ensures.value at c.in-Some.ensures.found in
    rw (c.as_slice.ensures.value, ← c.self.view_is)
    (ap (λ file. Some file.1.items) c.index.ensures ∙ sym (get-place _ _ _ c.index.result.now place))

pub returns-in-None : goal.returns-in-None
returns-in-None c =
    rw (← c.self.view_is) (sym (get-absent _ _ (rw c.deref.ensures.value at c.in-None.ensures.absent)))
