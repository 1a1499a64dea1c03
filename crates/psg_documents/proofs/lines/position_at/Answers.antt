use Rattle.std.proofs.lemmas.Str.{IsCharBoundary-start}
use Rattle.psg_documents.proofs.StartLaws.{position_at_is}
use Rattle.psg_documents.proofs.lines.position_at.Goals as goal

pub last_stop-place-requires : goal.last_stop-place-requires
last_stop-place-requires c = IsCharBoundary-start c.as_bytes-bytes.result.now c.as_bytes-bytes.ensures.utf8

pub returns : goal.returns
returns c =
    position_at_is c.args.encoding c.args.text.now c.as_bytes-bytes.result.now c.args.starts.now c.args.byte c.last_stop-place.result
    c.line_at-line.result c.units_between-column.result c.as_bytes-bytes.ensures.value c.requires c.last_stop-place.ensures
    c.line_at-line.ensures.line c.line_at-line.ensures.from c.line_at-line.ensures.to c.units_between-column.ensures
