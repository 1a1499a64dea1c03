use Rattle.std.proofs.Common.{◌+◌, sym, ap, ◌∙◌}
use Rattle.psg_layout.proofs.LineLaws.{text_put}
use Rattle.psg_layout.proofs.line_end.LineEnd.put_flat.Goals as goal

pub returns : goal.returns
returns c = λ d ds f s w.
    text_put c.args.self.now c.in_ok-self.field-0 c.spaces.result d ds (c.in_ok-self.ensures ∙ ap (λ z. c.args.self.now.columns + z) (sym w)) f s
    c.spaces.ensures
