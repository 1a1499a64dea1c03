use Rattle.std.proofs.Common.{sym, ap, ◌∙◌, min}
use Rattle.psg_parse.proofs.Kept.{depth_all, kept_list, past_list}
use Rattle.psg_parse.proofs.standing.Listed.finish.Goals as goal

pub returns-in_default : goal.returns-in_default
returns-in_default c before d x = record {
  depth = x.depth ∙ ap (λ n. min n 201) (sym (depth_all c.args.list before c.args.unfinished));
  brackets = x.brackets;
  kept = past_list c.args.list c.args.unfinished before d c.args.self.elements c.in_default.not-Some x.kept;
}

pub returns : goal.returns
returns c before d x = record {
  depth = x.depth ∙ ap (λ n. min n 201) (sym (depth_all c.args.list before c.args.unfinished));
  brackets = x.brackets;
  kept = kept_list c.args.list c.args.unfinished before d c.args.self.elements c.in-Some.elements c.in_ok-new.field-0 c.in-Some.is x.kept c.in_ok-new.ensures;
}
