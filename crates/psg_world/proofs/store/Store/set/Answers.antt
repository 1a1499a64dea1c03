use Rattle.std.proofs.Common.{◌∙◌, ap}
use Rattle.std.specs.String.{string_bytes}
use Rattle.psg_world.proofs.PlaceLaws.{held-set, held-push, insert-others}
use Rattle.psg_world.proofs.store.Store.set.Goals as goal

changed : goal.returns-in-Some-clause-ok
changed c =
    let place = rw c.deref.ensures.value at c.in-Some.ensures.found in
    let named = ap (λ file. string_bytes file.0) c.index_mut.ensures.value ∙ place.same c.index_mut.result.now in
    rw (← c.self.view_is, ← c.in_ok-bytes.ensures.items)
    (held-set _ _ _ (c.index_mut.result.now.0, c.in_ok-bytes.bytes) place named)

added : goal.returns-in_ok-push-in-None-clause-ok
added c =
    rw (c.in_ok-push-in-None.ensures.items, ← c.self.view_is, ← c.in_ok-bytes.ensures.items)
    (held-push _ _ (c.in_ok-from_str-in-None.field-0, c.in_ok-bytes.bytes)
    (rw c.deref.ensures.value at c.in-None.ensures.absent)
    c.in_ok-from_str-in-None.ensures.ok)

pub returns-in-Some-clause-ok : goal.returns-in-Some-clause-ok
returns-in-Some-clause-ok c = changed c

pub returns-in-Some-clause-others : goal.returns-in-Some-clause-others
returns-in-Some-clause-others c = rw (changed c) (insert-others _ _ _)

pub returns-in_ok-push-in-None-clause-ok : goal.returns-in_ok-push-in-None-clause-ok
returns-in_ok-push-in-None-clause-ok c = added c

pub returns-in_ok-push-in-None-clause-others : goal.returns-in_ok-push-in-None-clause-others
returns-in_ok-push-in-None-clause-others c = rw (added c) (insert-others _ _ _)
