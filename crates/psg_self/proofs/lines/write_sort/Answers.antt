use Rattle.std.proofs.Common.{◌∷◌, string_bytes}
use Rattle.std.specs.List.{flat_map}
use Rattle.psg_self.specs.SelfLines.{constructor_of}
use Rattle.psg_self.specs.Export.{constructor_text}
use Rattle.psg_self.proofs.Writes.{on-written}
use Rattle.psg_self.proofs.LineWrites.{sort-line, moved}
use Rattle.psg_self.proofs.lines.write_sort.Goals as goal

pub returns : goal.returns
returns c =
    on-written c.push_str.result (string_bytes c.push_str.new.self) _ _ _ c.push_str.ensures.bytes (λ h.
    sort-line c.args.line.now (string_bytes c.args.out.now) (string_bytes c.write_sort_head.new.out) (string_bytes c.write_constructors.new.out) (string_bytes c.push_str.new.self)
    c.in_ok-write_sort_head.ensures
    (moved (flat_map (λ x. 32 ∷ constructor_text (constructor_of x))) _ _ (string_bytes c.write_sort_head.new.out) (string_bytes c.write_constructors.new.out)
    c.elements_at.ensures c.in_ok-write_constructors.ensures) h)
