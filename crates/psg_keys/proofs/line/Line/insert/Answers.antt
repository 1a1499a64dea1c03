use Rattle.std.proofs.Common.{◌≡◌, ap, ◌∙◌}
use Rattle.psg_keys.specs.Lines.{with_char}
use Rattle.psg_keys.proofs.LineLaws.{typed, typed_insert}
use Rattle.psg_keys.proofs.line.Line.insert.Goals as goal

pub returns-clause-inserted : goal.returns-clause-inserted
returns-clause-inserted c =
    let same : typed c.self.inside.text.items c.self.inside.place ≡ c.args.self.now = c.self.view_is in
    typed_insert c.self.inside.text.items c.self.inside.place c.self.invariant c.args.c c.insert.new.self.items
    c.in_ok-insert.ensures.items
    ∙ ap (with_char c.args.c) same
