use Rattle.std.proofs.Common.{rules, ◌≡◌, ◌<◌, List, Some, length, slice_get, subst}
use Rattle.psg_terms.proofs.Lists.{slice_get_item}
use Rattle.psg_eval.specs.declared.starts.ListStart.{ListStart}
use Rattle.psg_eval.proofs.starts.Starts.list.Goals as goal

pub returns : goal.returns
returns c = λ def are.
    let read = c.index-lists-place.result in
    let within : c.args.list < length c.as_slice-lists.result.now = search rules in
    are.lists c.args.list read
    (subst (λ (xs : List ListStart). slice_get xs c.args.list ≡ Some read) c.as_slice-lists.ensures.value (slice_get_item c.as_slice-lists.result.now c.args.list read within c.index-lists-place.is))
