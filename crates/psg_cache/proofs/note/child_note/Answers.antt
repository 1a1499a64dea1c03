use Rattle.std.proofs.Common.{◌∙◌, ap, slice_get}
use Rattle.psg_cache.proofs.AllNoted.{got_note}
use Rattle.psg_cache.proofs.note.child_note.Goals as goal

pub returns : goal.returns
returns c =
    got_note c.below.result.now c.args.number c.get.result c.get.ensures.lookup
    ∙ ap (λ l. slice_get l c.args.number) c.below.ensures
