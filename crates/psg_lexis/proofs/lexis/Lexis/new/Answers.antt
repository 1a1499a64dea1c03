use Rattle.std.specs.Prelude.{bytes_eq, string_bytes, true, cond}
use Rattle.std.specs.HashSet.{contains_text}
use Rattle.std.proofs.Common.{◌≡◌, ◌+◌, [], ◌∷◌, ◌++◌, ◌∙◌, sym, ap, arith, take}
use Rattle.std.proofs.lemmas.Grind.{common_steps}
use Rattle.std.proofs.lemmas.List.{take_more}
use Rattle.std.proofs.lemmas.Map.Text.{hash_set_updates_text}
use Rattle.psg_terms.specs.Names.{is_among}
use Rattle.psg_lexis.proofs.Reserved.{among_more}
use Rattle.psg_lexis.proofs.lexis.Lexis.new.Goals as goal

pub loop-word-preserved : goal.loop-word-preserved
loop-word-preserved c = record {
  shared = grind (arith, common_steps);
  table = λ w.
      let same : take (c.loop-word.word-index + 1) c.args.words.now ≡ take c.loop-word.word-index c.args.words.now ++ c.word-item.result ∷ [] = take_more _ _ c.word-item.result (omega arith) ∙ ap (λ m. take c.loop-word.word-index c.args.words.now ++ m ∷ []) (sym c.word-item.is) in
      let bytes : string_bytes c.in_ok-from_str.field-0 ≡ c.word-item.result = c.in_ok-from_str.ensures.ok
      ∙ c.as_str.ensures in
      hash_set_updates_text (string_bytes c.in_ok-from_str.field-0) c.loop-word.table c.insert.new.self true c.in_ok-insert.ensures.updates w
      ∙ ap (λ b. cond (bytes_eq b w) true (contains_text c.loop-word.table w)) bytes
      ∙ ap (λ b. cond (bytes_eq c.word-item.result w) true b) (c.loop-word.invariant.table w)
      ∙ sym (among_more (take c.loop-word.word-index c.args.words.now) c.word-item.result w)
      ∙ ap (λ ws. is_among ws w) (sym same);
}
