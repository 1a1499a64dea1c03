use Rattle.std.proofs.Common.{◌∷◌, string_bytes}
use Rattle.std.specs.List.{flat_map}
use Rattle.psg_deflines.specs.Forms.{item_part}
use Rattle.psg_self.specs.SelfLines.{item_of, level_in}
use Rattle.psg_self.specs.Export.{level_words}
use Rattle.psg_self.proofs.Writes.{on-written}
use Rattle.psg_self.proofs.LineWrites.{operator-line, moved}
use Rattle.psg_self.proofs.lines.write_operator.Goals as goal

pub returns : goal.returns
returns c =
    on-written c.push_str-2.result (string_bytes c.push_str-2.new.self) _ _ _ c.push_str-2.ensures.bytes (λ h.
    operator-line c.args.line.now (string_bytes c.args.out.now) (string_bytes c.write_operator_head.new.out) (string_bytes c.write_level_of.new.out) (string_bytes c.push_str.new.self)
    (string_bytes c.write_items.new.out) (string_bytes c.push_str-2.new.self) c.in_ok-write_operator_head.ensures
    (moved (λ t. flat_map (λ v. 32 ∷ v) (level_words (level_in t))) _ _ (string_bytes c.write_operator_head.new.out) (string_bytes c.write_level_of.new.out) c.tree_at.ensures
    c.in_ok-write_level_of.ensures) c.in_ok-push_str.ensures.bytes
    (moved (flat_map (λ x. 32 ∷ item_part (item_of x))) _ _ (string_bytes c.push_str.new.self) (string_bytes c.write_items.new.out) c.elements_at.ensures
    c.in_ok-write_items.ensures) h)
