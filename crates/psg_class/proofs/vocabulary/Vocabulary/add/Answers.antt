use Rattle.std.proofs.Common.{◌≡◌, ◌+◌, ◌++◌, [], ◌∷◌, ℕ, List, Some, refl, arith, length, false, ap, sym, ◌∙◌}
use Rattle.std.specs.Prelude.{is_some, string_bytes, bytes_eq}
use Rattle.std.specs.HashMap.{get_by_text}
use Rattle.std.specs.Map.{update}
use Rattle.std.proofs.lemmas.Map.Text.{hash_map_updates_text}
use Rattle.psg_terms.specs.Names.{is_among}
use Rattle.psg_class.specs.Numbers.{word_number}
use Rattle.psg_class.proofs.WordLaws.{number_found, consistent_push, among_front, among_new}
use Rattle.psg_class.proofs.vocabulary.Vocabulary.add.Goals as goal

pub returns-then-contains_key-clause-word : goal.returns-then-contains_key-clause-word
returns-then-contains_key-clause-word c =
    sym (number_found c.args.self.now.base c.args.self.now.words.items c.args.word.now) ∙ ap is_some (sym (c.requires c.args.word.now))
    ∙ ap (λ b. is_some (get_by_text c.args.self.now.numbers b)) (sym c.as_str.ensures) ∙ sym c.contains_key.ensures ∙ c.if-contains_key.true

absent : (c : goal.In_ok-push) → is_among c.args.self.now.words.items c.args.word.now ≡ false
absent c =
    sym (number_found c.args.self.now.base c.args.self.now.words.items c.args.word.now) ∙ ap is_some (sym (c.requires c.args.word.now))
    ∙ ap (λ b. is_some (get_by_text c.args.self.now.numbers b)) (sym c.as_str.ensures) ∙ sym c.contains_key.ensures ∙ c.if-contains_key.false

items : (c : goal.In_ok-push) → c.push.new.self.items ≡ c.args.self.now.words.items ++ c.args.word.now ∷ []
items c = c.in_ok-push.ensures.items ∙ ap (λ w. c.args.self.now.words.items ++ w ∷ []) c.in_ok-share.ensures

pub returns-clause-grown : goal.returns-clause-grown
returns-clause-grown c = record {
  base = refl;
  consistent = λ v.
      let bytes : string_bytes c.in_ok-key.key ≡ c.args.word.now = c.in_ok-key.ensures.ok ∙ c.as_str-2.ensures in
      let count : c.in-Some.number ≡ c.args.self.now.base + length c.args.self.now.words.items = (let e = ap (length {A = List ℕ}) c.as_slice-count.ensures.value in omega arith) in
      hash_map_updates_text (string_bytes c.in_ok-key.key) c.args.self.now.numbers c.insert.new.self (Some c.in-Some.number) c.in_ok-insert.ensures.updates v
      ∙ ap (λ b. update bytes_eq (get_by_text c.args.self.now.numbers) b (Some c.in-Some.number) v) bytes
      ∙ ap (λ n. update bytes_eq (get_by_text c.args.self.now.numbers) c.args.word.now (Some n) v) count
      ∙ consistent_push c.args.self.now.base (get_by_text c.args.self.now.numbers) c.args.self.now.words.items c.args.word.now (absent c) c.requires v
      ∙ ap (λ ws. word_number c.args.self.now.base ws v) (sym (items c));
  keeps = λ w h. ap (λ ws. is_among ws w) (items c) ∙ among_front c.args.self.now.words.items c.args.word.now w h;
}

pub returns-clause-word : goal.returns-clause-word
returns-clause-word c = ap (λ ws. is_among ws c.args.word.now) (items c) ∙ among_new c.args.self.now.words.items c.args.word.now
