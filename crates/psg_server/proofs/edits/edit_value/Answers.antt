use Rattle.std.proofs.Common.{◌-◌, length}
use Rattle.serde_json.specs.View.{view}
use Rattle.psg_server.proofs.EditLaws.{between_is_text, edit_as}
use Rattle.psg_server.proofs.edits.edit_value.Goals as goal

pub text_between-new-requires-clause-text : goal.text_between-new-requires-clause-text
text_between-new-requires-clause-text c =
    between_is_text c.as_bytes-text.result.now c.as_bytes-bytes.result.now c.same_front-from.result
    (length c.as_bytes-text.result.now - c.same_back-size.result) (length c.as_bytes-bytes.result.now - c.same_back-size.result)
    c.as_bytes-bytes.ensures.utf8 c.same_front-from.ensures c.same_back-size.ensures.tail

pub returns : goal.returns
returns c =
    edit_as c.args.page.now.encoding c.args.page.now.text.now c.as_bytes-text.result.now c.args.wanted.now
    c.as_bytes-bytes.result.now c.text_between-new.result.now c.same_front-from.result
    (length c.as_bytes-text.result.now - c.same_back-size.result) (length c.as_bytes-bytes.result.now - c.same_back-size.result)
    (view c.in_ok-range.range) (view c.in_ok-edit.edit) c.as_bytes-text.ensures.value c.as_bytes-bytes.ensures.value
    c.as_bytes-text.ensures.utf8 c.same_front-from.ensures c.same_back-size.ensures.tail c.text_between-new.ensures
    c.in_ok-range.ensures c.in_ok-edit.ensures
