use Rattle.std.proofs.lemmas.Option.{slice_get_within}
use Rattle.psg_textedit.proofs.Best.{span_placed}
use Rattle.psg_textedit.proofs.spans.span_at.Goals as goal

pub bounds-spans-place : goal.bounds-spans-place
bounds-spans-place c =
    slice_get_within c.args.spans.now c.place_of-place.result c.place_of-place.ensures.span c.place_of-place.ensures.found

pub returns : goal.returns
returns c =
    span_placed c.args.spans.now c.args.path.now c.place_of-place.result c.place_of-place.ensures c.index-spans-place.result
    c.index-spans-place.is
