use Rattle.std.proofs.Common.{◌<◌, ℕ, length, slice_index_or}
use Rattle.std.proofs.lemmas.Option.{slice_get-get_or}
use Rattle.std.proofs.lemmas.List.Elements.{All-get_or}
use Rattle.std.proofs.lemmas.List.{get_or_default}
use Rattle.psg_unify.proofs.Picking.{picked-more}
use Rattle.psg_unify.proofs.join.picked_cells.Goals as goal

pub loop-i-preserved : goal.loop-i-preserved
loop-i-preserved c =
    let cells = c.args.cells.now in
    let keep = c.args.keep.now in
    let i = c.loop-i.i in
    let k : ℕ = slice_index_or keep i 0 in
    let within = All-get_or (λ (m : ℕ). m < length cells) keep i 0 c.loop-i-test.true c.requires in
    picked-more cells keep i k (slice_index_or cells k (record { 0 = 0 })) c.loop-i.some.items c.push.new.self.items c.loop-i-test.true (get_or_default keep i 0 k c.loop-i-test.true)
    (slice_get-get_or cells k (record { 0 = 0 }) within) c.loop-i.invariant c.in_ok-push.ensures.items
