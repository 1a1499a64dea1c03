use Rattle.std.proofs.Common.{string_bytes}
use Rattle.psg_self.specs.SelfLines.{term_in, specimen_in}
use Rattle.psg_self.specs.Export.{term_text, specimen_text}
use Rattle.psg_self.proofs.Writes.{on-written}
use Rattle.psg_self.proofs.LineWrites.{hole-line, moved}
use Rattle.psg_self.proofs.lines.write_hole.Goals as goal

pub returns : goal.returns
returns c =
    on-written c.push_str-2.result (string_bytes c.push_str-2.new.self) _ _ _ c.push_str-2.ensures.bytes (λ h.
    hole-line c.args.line.now (string_bytes c.args.out.now) (string_bytes c.write_hole_head.new.out) (string_bytes c.write_term_of.new.out) (string_bytes c.push_str.new.self)
    (string_bytes c.write_specimen_of.new.out) (string_bytes c.push_str-2.new.self) c.in_ok-write_hole_head.ensures
    (moved (λ t. term_text (term_in t)) _ _ (string_bytes c.write_hole_head.new.out) (string_bytes c.write_term_of.new.out) c.tree_at.ensures c.in_ok-write_term_of.ensures)
    c.in_ok-push_str.ensures.bytes
    (moved (λ t. specimen_text (specimen_in t)) _ _ (string_bytes c.push_str.new.self) (string_bytes c.write_specimen_of.new.out) c.tree_at-2.ensures
    c.in_ok-write_specimen_of.ensures) h)
