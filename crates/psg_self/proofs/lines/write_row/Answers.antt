use Rattle.std.proofs.Common.{◌++◌, ◌∷◌, ◌==◌, [], cond, codes, length, string_bytes}
use Rattle.std.specs.List.{flat_map}
use Rattle.psg_self.specs.SelfLines.{term_in, term_of}
use Rattle.psg_self.specs.Export.{term_text}
use Rattle.psg_self.proofs.Writes.{on-written}
use Rattle.psg_self.proofs.LineWrites.{row-line, moved}
use Rattle.psg_self.proofs.lines.write_row.Goals as goal

pub returns : goal.returns
returns c =
    on-written c.push_str-2.result (string_bytes c.push_str-2.new.self) _ _ _ c.push_str-2.ensures.bytes (λ h.
    row-line c.args.row.now (string_bytes c.args.out.now) (string_bytes c.push_str.new.self) (string_bytes c.write_term_of.new.out) (string_bytes c.write_columns.new.out)
    (string_bytes c.push_str-2.new.self) c.in_ok-push_str.ensures.bytes
    (moved (λ t. term_text (term_in t)) _ _ (string_bytes c.push_str.new.self) (string_bytes c.write_term_of.new.out) c.tree_at.ensures c.in_ok-write_term_of.ensures)
    (moved (λ ts. cond (length ts == 0) [] (codes " :") ++ flat_map (λ t. 32 ∷ term_text (term_of t)) ts) _ _ (string_bytes c.write_term_of.new.out) (string_bytes c.write_columns.new.out) c.elements_at.ensures c.in_ok-write_columns.ensures) h)
