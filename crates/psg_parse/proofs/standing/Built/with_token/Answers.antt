use Rattle.std.proofs.Common.{sym, ap, ◌∙◌, min}
use Rattle.psg_parse.proofs.Kept.{depth_taken, kept_token}
use Rattle.psg_parse.proofs.standing.Built.with_token.Goals as goal

pub returns : goal.returns
returns c f d x = record {
  depth = x.depth ∙ ap (λ n. min n 201) (sym (depth_taken c.args.item.now c.args.token.now f));
  brackets = x.brackets;
  kept = kept_token c.args.self.op f d c.args.item.now c.args.token.now c.args.self.parts c.in-Some.parts c.push.new.self c.in_ok-part.field-0 c.in-Some-2.part c.in-Some.is c.in-Some-2.is x.kept c.in_ok-part.ensures c.in_ok-push.ensures.ok;
}
