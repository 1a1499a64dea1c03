-- The words and marks of an operator on a sheet.
use Rattle.std.proofs.Common.{◌≡◌, ℕ, ◌+◌, true, false, cond, List, [], ◌∷◌, length, Option, refl, sym, ap, subst, ◌∙◌, arith}
use Rattle.std.proofs.lemmas.Bool.{true≢false, false≢true}
use Rattle.std.proofs.lemmas.List.{nil_from_length}
use Rattle.psg_grammar.specs.declared.types.Item.{Item}
use Rattle.psg_grammar.specs.declared.types.Item.TheVariants as items
use Rattle.psg_grammar.specs.Lookups.{is_part}
use Rattle.psg_unparse.specs.Rows.{from_part}
use Rattle.psg_layout.specs.declared.layout.Layout.{Layout}
use Rattle.psg_layout.specs.declared.rules.Rules.{Rules}
use Rattle.psg_layout.specs.declared.sheet.Sheet.{Sheet}
use Rattle.psg_layout.specs.Sheets.{Ink, ink_mark, ink_token, IsInk}
use Rattle.psg_layout.specs.Arranged.{Mode, words_in}
use Rattle.psg_layout.specs.Looked.{AreRulesOf}
use Rattle.psg_layout.specs.Walking.{ink_at, ink_words, InksBy}

-- an item that is neither a part nor a word is a mark
pub other_ink : (layout : Layout) (mode : Mode) (o : Option ℕ) (n : ℕ) (i : Item) (k : Ink) → is_part i ≡ false → ((w : List ℕ) → i ≡ items.Word w → ⊥)
    → ink_words layout mode o n (i ∷ []) k ≡ ink_mark k i
other_ink layout mode o n (items.Word w) k h a = absurd (a w refl)
other_ink layout mode o n (items.Slot s) k h a = absurd (true≢false h)
other_ink layout mode o n (items.Refers s) k h a = absurd (true≢false h)
other_ink layout mode o n (items.Declares s) k h a = absurd (true≢false h)
other_ink layout mode o n items.Number k h a = absurd (true≢false h)
other_ink layout mode o n items.Text k h a = absurd (true≢false h)
other_ink layout mode o n items.Space k h a = refl
other_ink layout mode o n items.Tight k h a = refl
other_ink layout mode o n items.Line k h a = refl
other_ink layout mode o n items.In k h a = refl
other_ink layout mode o n items.Out k h a = refl

pub other_count : (n : ℕ) (i : Item) → is_part i ≡ false → ((w : List ℕ) → i ≡ items.Word w → ⊥) → n ≡ n + words_in (i ∷ [])
other_count n (items.Word w) h a = absurd (a w refl)
other_count n (items.Slot s) h a = omega arith
other_count n (items.Refers s) h a = omega arith
other_count n (items.Declares s) h a = omega arith
other_count n items.Number h a = omega arith
other_count n items.Text h a = omega arith
other_count n items.Space h a = omega arith
other_count n items.Tight h a = omega arith
other_count n items.Line h a = omega arith
other_count n items.In h a = omega arith
other_count n items.Out h a = omega arith

module _ (layout : Layout) (mode : Mode) (o : Option ℕ) where
  same_number : (n m : ℕ) (xs : List Item) (k : Ink) → n ≡ m → ink_words layout mode o n xs k ≡ ink_words layout mode o m xs k
  same_number n m xs k e = ap (λ x. ink_words layout mode o x xs k) e

  item_first : (n : ℕ) (i : Item) (behind : List Item) (k : Ink) → is_part i ≡ false
      → ink_words layout mode o n (i ∷ behind) k ≡ ink_words layout mode o (n + words_in (i ∷ [])) behind (ink_words layout mode o n (i ∷ []) k)
  item_first n (items.Word w) behind k h = same_number (n + 1) (n + (0 + 1)) behind (ink_token (ink_at layout mode o n k) w) (omega arith)
  item_first n (items.Slot s) behind k h = absurd (true≢false h)
  item_first n (items.Refers s) behind k h = absurd (true≢false h)
  item_first n (items.Declares s) behind k h = absurd (true≢false h)
  item_first n items.Number behind k h = absurd (true≢false h)
  item_first n items.Text behind k h = absurd (true≢false h)
  item_first n items.Space behind k h = same_number n (n + 0) behind (ink_mark k items.Space) (omega arith)
  item_first n items.Tight behind k h = same_number n (n + 0) behind (ink_mark k items.Tight) (omega arith)
  item_first n items.Line behind k h = same_number n (n + 0) behind (ink_mark k items.Line) (omega arith)
  item_first n items.In behind k h = same_number n (n + 0) behind (ink_mark k items.In) (omega arith)
  item_first n items.Out behind k h = same_number n (n + 0) behind (ink_mark k items.Out) (omega arith)

  part_first : (n : ℕ) (i : Item) (behind : List Item) (k : Ink) → is_part i ≡ true → ink_words layout mode o n (i ∷ behind) k ≡ k
  part_first n (items.Slot s) behind k h = refl
  part_first n (items.Refers s) behind k h = refl
  part_first n (items.Declares s) behind k h = refl
  part_first n items.Number behind k h = refl
  part_first n items.Text behind k h = refl
  part_first n (items.Word w) behind k h = absurd (false≢true h)
  part_first n items.Space behind k h = absurd (false≢true h)
  part_first n items.Tight behind k h = absurd (false≢true h)
  part_first n items.Line behind k h = absurd (false≢true h)
  part_first n items.In behind k h = absurd (false≢true h)
  part_first n items.Out behind k h = absurd (false≢true h)

count_first : (i : Item) (behind : List Item) → is_part i ≡ false → words_in (i ∷ behind) ≡ words_in (i ∷ []) + words_in behind
count_first (items.Word w) behind h = omega arith
count_first (items.Slot s) behind h = absurd (true≢false h)
count_first (items.Refers s) behind h = absurd (true≢false h)
count_first (items.Declares s) behind h = absurd (true≢false h)
count_first items.Number behind h = absurd (true≢false h)
count_first items.Text behind h = absurd (true≢false h)
count_first items.Space behind h = omega arith
count_first items.Tight behind h = omega arith
count_first items.Line behind h = omega arith
count_first items.In behind h = omega arith
count_first items.Out behind h = omega arith

count_part : (i : Item) (behind : List Item) → is_part i ≡ true → words_in (i ∷ behind) ≡ 0
count_part (items.Slot s) behind h = refl
count_part (items.Refers s) behind h = refl
count_part (items.Declares s) behind h = refl
count_part items.Number behind h = refl
count_part items.Text behind h = refl
count_part (items.Word w) behind h = absurd (false≢true h)
count_part items.Space behind h = absurd (false≢true h)
count_part items.Tight behind h = absurd (false≢true h)
count_part items.Line behind h = absurd (false≢true h)
count_part items.In behind h = absurd (false≢true h)
count_part items.Out behind h = absurd (false≢true h)

-- What is left to be written of the words: writing it writes them all.
pub record AreWordsLeft (rules : Rules) (mode : Mode) (o : Option ℕ) (number : ℕ) (all more : List Item) (next : ℕ) (start now : Sheet) : Type 0 where
  pub ink : (layout : Layout) → AreRulesOf layout rules → (k : Ink) → IsInk start k
      → (m : Ink) × IsInk now m × (ink_words layout mode o number all k ≡ ink_words layout mode o next more m)
  pub rest : from_part more ≡ from_part all
  pub count : next + words_in more ≡ number + words_in all

module _ (rules : Rules) (mode : Mode) (o : Option ℕ) (number : ℕ) (all : List Item) where
  pub left-all : (s : Sheet) → AreWordsLeft rules mode o number all all number s s
  left-all s = record { ink = λ layout r k h. (k, h, refl); rest = refl; count = refl }

  pub left-item : (more : List Item) (i : Item) (behind : List Item) (next after : ℕ) (start now new : Sheet) → AreWordsLeft rules mode o number all more next start now
      → more ≡ i ∷ behind → is_part i ≡ false → InksBy rules (λ layout k. ink_words layout mode o next (i ∷ []) k) now new → after ≡ next + words_in (i ∷ [])
      → AreWordsLeft rules mode o number all behind after start new
  left-item more i behind next after start now new h e p s a = record {
    ink = λ layout r k w.
        let x = h.ink layout r k w in (
          ink_words layout mode o next (i ∷ []) x.0,
          s layout r x.0 x.1,
          x.2 ∙ ap (λ xs. ink_words layout mode o next xs x.0) e ∙ item_first layout mode o next i behind x.0 p
              ∙ ap (λ n. ink_words layout mode o n behind (ink_words layout mode o next (i ∷ []) x.0)) (sym a),
        );
    rest = sym (ap from_part e ∙ ap (λ b. cond b (i ∷ behind) (from_part behind)) p) ∙ h.rest;
    count =
        let c = h.count in let f = ap words_in e in let g = count_first i behind p in
        omega (arith, a, c, f, g);
  }

  pub left-part-ink : (more : List Item) (i : Item) (behind : List Item) (next : ℕ) (start now : Sheet) → AreWordsLeft rules mode o number all more next start now
      → more ≡ i ∷ behind → is_part i ≡ true → InksBy rules (λ layout k. ink_words layout mode o number all k) start now
  left-part-ink more i behind next start now h e p layout r k w =
      let x = h.ink layout r k w in
      subst (IsInk now) (sym (x.2 ∙ ap (λ xs. ink_words layout mode o next xs x.0) e ∙ part_first layout mode o next i behind x.0 p)) x.1

  pub left-part-rest : (more : List Item) (i : Item) (behind : List Item) (next : ℕ) (start now : Sheet) → AreWordsLeft rules mode o number all more next start now
      → more ≡ i ∷ behind → is_part i ≡ true → more ≡ from_part all
  left-part-rest more i behind next start now h e p =
      e ∙ sym (ap from_part e ∙ ap (λ b. cond b (i ∷ behind) (from_part behind)) p) ∙ h.rest

  pub left-part-count : (more : List Item) (i : Item) (behind : List Item) (next : ℕ) (start now : Sheet) → AreWordsLeft rules mode o number all more next start now
      → more ≡ i ∷ behind → is_part i ≡ true → next ≡ number + words_in all
  left-part-count more i behind next start now h e p =
      let c = h.count in let f = ap words_in e in let g = count_part i behind p in omega (arith, c, f, g)

  pub left-end-ink : (more : List Item) (next : ℕ) (start now : Sheet) → AreWordsLeft rules mode o number all more next start now → length more ≡ 0
      → InksBy rules (λ layout k. ink_words layout mode o number all k) start now
  left-end-ink more next start now h e layout r k w =
      let x = h.ink layout r k w in
      subst (IsInk now) (sym (x.2 ∙ ap (λ xs. ink_words layout mode o next xs x.0) (nil_from_length more e))) x.1

  pub left-end-rest : (more : List Item) (next : ℕ) (start now : Sheet) → AreWordsLeft rules mode o number all more next start now → length more ≡ 0 → more ≡ from_part all
  left-end-rest more next start now h e = nil_from_length more e ∙ sym (ap from_part (nil_from_length more e)) ∙ h.rest

  pub left-end-count : (more : List Item) (next : ℕ) (start now : Sheet) → AreWordsLeft rules mode o number all more next start now → length more ≡ 0 → next ≡ number + words_in all
  left-end-count more next start now h e =
      let c = h.count in let f = ap words_in (nil_from_length more e) in omega (arith, c, f)
