use Rattle.std.proofs.Common.{sym, true≢false, ◌∙◌}
use Rattle.serde_json.specs.View.{view}
use Rattle.psg_server.proofs.EditLaws.{as_is, one_is, wanted_as}
use Rattle.psg_server.proofs.edits.edits.Goals as goal

pub returns-then-same_text : goal.returns-then-same_text
returns-then-same_text c = λ kind judged program tokens.
    let def = c.args.defined.now in
    as_is def kind c.args.encoding c.args.text.now c.args.comments.now judged c.as_str-own.result.now c.args.program.now.tree _
    (wanted_as def kind c.args.encoding c.args.text.now c.args.comments.now judged _ c.as_str-own.result.now
    c.args.program.now.tree c.as_str-own.ensures.value (c.in_ok-wanted.ensures judged tokens))
    (c.same_text.ensures.0 c.if-same_text.true) c.none_of.ensures program

pub returns : goal.returns
returns c = λ kind judged program tokens.
    let def = c.args.defined.now in
    one_is def kind c.args.encoding c.args.text.now c.args.comments.now judged c.as_str-own.result.now
    c.args.program.now.tree (view c.in_ok-edit.edit) _
    (wanted_as def kind c.args.encoding c.args.text.now c.args.comments.now judged _ c.as_str-own.result.now
    c.args.program.now.tree c.as_str-own.ensures.value (c.in_ok-wanted.ensures judged tokens))
    (λ same. true≢false (sym (c.same_text.ensures.1 same) ∙ c.if-same_text.false)) c.in_ok-edit.ensures c.in_ok-one.ensures program
