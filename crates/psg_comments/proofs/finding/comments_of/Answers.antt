use Rattle.std.proofs.Common.{◌-◌, length, subst}
use Rattle.std.specs.Prelude.{chars}
use Rattle.psg_comments.specs.Steps.{IsFirstOrNone}
use Rattle.psg_comments.proofs.Cuts.{all_walked}
use Rattle.psg_comments.proofs.finding.comments_of.Goals as goal

pub returns : goal.returns
returns c =
    all_walked c.args.lexis.now c.args.token.now c.args.text.now c.loop-found.found.items (length c.args.text.now - length c.loop-found.rest.now) c.loop-found.rest.now
    c.loop-found.invariant.2
    (λ n. (subst (IsFirstOrNone c.args.lexis.now (chars c.args.token.now) c.loop-found.rest.now) c.in_default.is c.in_ok-comment.ensures) n)
