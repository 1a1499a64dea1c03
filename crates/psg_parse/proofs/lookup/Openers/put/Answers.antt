use Rattle.std.proofs.Common.{◌≡◌, Some, refl, ap, ◌∙◌}
use Rattle.std.specs.Prelude.{string_bytes, bytes_eq}
use Rattle.std.specs.HashMap.{get_by_text}
use Rattle.std.specs.Map.{update}
use Rattle.std.proofs.lemmas.Map.Text.{hash_map_updates_text}
use Rattle.psg_parse.proofs.Puts.{puts_word}
use Rattle.psg_parse.proofs.lookup.Openers.put.Goals as goal

pub returns-in_ok-insert-in-Word : goal.returns-in_ok-insert-in-Word
returns-in_ok-insert-in-Word c =
    let bytes : string_bytes c.in_ok-key-in-Word.key ≡ c.in-Word.word = c.in_ok-key-in-Word.ensures.ok ∙ c.as_str.ensures in
    puts_word c.args.self.now (record { words = c.insert.new.self; name = c.args.self.now.name; number = c.args.self.now.number; text = c.args.self.now.text }) c.in-Word.word c.args.op c.args.item.now c.in-Word.is
    (λ v. hash_map_updates_text (string_bytes c.in_ok-key-in-Word.key) c.args.self.now.words c.insert.new.self (Some c.args.op) c.in_ok-insert-in-Word.ensures.updates v
    ∙ ap (λ b. update bytes_eq (get_by_text c.args.self.now.words) b (Some c.args.op) v) bytes) refl refl refl
