use Rattle.std.proofs.Common.{◌+◌, ap, ◌∙◌}
use Rattle.psg_layout.proofs.LineLaws.{mark_put}
use Rattle.psg_layout.proofs.line_end.LineEnd.put_mark.Goals as goal

pub returns : goal.returns
returns c =
    mark_put c.args.self.now c.in_ok-self.field-0 c.spaces.result c.args.c (c.in_ok-self.ensures ∙ ap (λ w. c.args.self.now.columns + w) c.width.ensures)
    c.requires.feed c.requires.space c.spaces.ensures
