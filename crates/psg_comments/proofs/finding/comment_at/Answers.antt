use Rattle.std.proofs.Common.{sym, ◌∙◌}
use Rattle.psg_comments.proofs.Cuts.{none_there, first_there}
use Rattle.psg_comments.proofs.finding.comment_at.Goals as goal

pub returns-then-not-begins_with : goal.returns-then-not-begins_with
returns-then-not-begins_with c =
    λ fixed fit h. none_there fixed c.args.token.now fit c.args.text.now c.utf8.text c.args.at h c.split_at.result.1.now c.split_at.ensures.back
    (sym c.begins_with.ensures ∙ c.if-not-begins_with.true)

pub returns : goal.returns
returns c =
    λ fixed fit h. first_there fixed c.args.token.now fit c.args.text.now c.utf8.text c.args.at h c.split_at.result.1.now c.line_size.result
    c.split_at.ensures.back (sym c.begins_with.ensures ∙ c.if-not-begins_with.false) c.line_size.ensures.size
