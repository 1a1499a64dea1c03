use Rattle.std.specs.Prelude.{chars}
use Rattle.psg_comments.proofs.Cuts.{fault_boundary, fault_is, none_with_fault}
use Rattle.psg_comments.proofs.Walks.{none_in_tokens}
use Rattle.psg_comments.proofs.finding.first_comment.Goals as goal

pub returns-in-Ok : goal.returns-in-Ok
returns-in-Ok c =
    λ at. none_in_tokens c.args.lexis.now c.args.token.now c.requires.fit (chars c.args.text.now) 0 c.in-Ok.field-0.items c.in-Ok.ensures.ok at

pub comment_at-requires : goal.comment_at-requires
comment_at-requires c = record {
  boundary = fault_boundary c.args.lexis.now c.args.token.now c.requires.fit c.args.text.now c.utf8.text c.in-BadRun.at
      (fault_is c.args.lexis.now (chars c.args.text.now) c.in-Err.fault c.in-BadRun.at c.in-Err.ensures.err c.in-BadRun.is);
}

pub returns-in_default : goal.returns-in_default
returns-in_default c =
    none_with_fault c.args.lexis.now c.args.token.now c.requires.fit c.args.text.now c.in-Err.fault c.in-Err.ensures.err
    c.in_default.not-Memory c.in_default.not-BadRun
