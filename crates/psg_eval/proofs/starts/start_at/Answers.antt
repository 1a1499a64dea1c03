use Rattle.std.proofs.Common.{rules, ◌<◌, length}
use Rattle.psg_terms.proofs.Lists.{slice_get_item}
use Rattle.psg_eval.proofs.starts.start_at.Goals as goal

pub returns : goal.returns
returns c =
    let within : c.args.number < length c.args.entries.now = search rules in
    slice_get_item c.args.entries.now c.args.number c.index-entries-place.result within c.index-entries-place.is
