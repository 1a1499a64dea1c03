use Rattle.std.proofs.Common.{◌++◌, ap₂, ◌∙◌}
use Rattle.psg_session.specs.Views.{mark_of}
use Rattle.psg_run.proofs.Summing.{whole_lines}
use Rattle.psg_run.proofs.generating.five_lines.Goals as goal

pub returns : goal.returns
returns c =
    c.in_ok-push_str.ensures.bytes
    ∙ ap₂ (λ x y. x ++ y) c.in_ok-text.ensures.ok (c.as_str.ensures.value ∙ c.in_ok-marked.ensures)
    ∙ whole_lines c.args.nodes c.args.bytes c.args.weight c.args.menu (mark_of c.args.mark)
