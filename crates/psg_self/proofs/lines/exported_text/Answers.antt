use Rattle.std.proofs.Common.{◌∙◌, ◌++◌, ap, codes, string_bytes}
use Rattle.psg_self.proofs.LineWrites.{whole-text}
use Rattle.psg_self.proofs.lines.exported_text.Goals as goal

pub returns : goal.returns
returns c =
    whole-text c.args.tree.now c.elements_of.result.now (string_bytes c.push_str.new.self) (string_bytes c.write_all.new.out)
    (c.in_ok-push_str.ensures.bytes ∙ ap (λ x. x ++ codes "psg 1\n") c.new-out.ensures.bytes) c.in_ok-write_all.ensures
    c.elements_of.ensures
