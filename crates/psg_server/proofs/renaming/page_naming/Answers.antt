use Rattle.std.proofs.Common.{map}
use Rattle.serde_json.specs.View.{view}
use Rattle.psg_server.specs.Told.{naming_of}
use Rattle.psg_server.proofs.LinkingLaws.{named_is, unnamed_is}
use Rattle.psg_server.proofs.renaming.page_naming.Goals as goal

pub returns-in_ok-value-in-Ok : goal.returns-in_ok-value-in-Ok
returns-in_ok-value-in-Ok g c =
    named_is c.args.language.now c.args.kind c.args.sheet.now.encoding c.args.sheet.now.text.now c.args.own.now.bytes.items c.args.page.now
    c.byte_at-byte.result c.requires.page c.args.address.now c.as_slice-bytes.result.now (naming_of c.args.naming)
    c.in_ok-answer.answer c.in-Ok.spots c.as_slice.result.now (map view c.in_ok-edits-in-Ok.edits.items)
    (view c.in_ok-value-in-Ok.value) c.byte_at-byte.ensures c.as_slice-bytes.ensures.value c.in-Ok.is c.in_ok-answer.ensures
    c.as_slice.ensures.value c.in_ok-edits-in-Ok.ensures c.in_ok-value-in-Ok.ensures

pub returns-in-Err : goal.returns-in-Err
returns-in-Err g c =
    unnamed_is c.args.language.now c.args.kind c.args.sheet.now.encoding c.args.sheet.now.text.now c.args.own.now.bytes.items c.args.page.now
    c.byte_at-byte.result c.requires.page c.args.address.now c.as_slice-bytes.result.now (naming_of c.args.naming)
    c.in_ok-answer.answer c.in-Err.why c.byte_at-byte.ensures c.as_slice-bytes.ensures.value c.in-Err.is c.in_ok-answer.ensures
