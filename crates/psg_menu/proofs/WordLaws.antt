-- Runs of a letter as new names.
use Rattle.std.proofs.Common.{◌≡◌, inl, inr, ℕ, zero, suc, ◌+◌, ◌<◌, ◌≤◌, Bool, true, false, ◌||◌, List, [], ◌∷◌, ◌++◌, take, get_or, length, bytes_eq, refl, ap, sym, ◌∙◌, subst, arith, true≢false, length-append}
use Rattle.std.specs.Prelude.{encode_utf8_all, IsTrue}
use Rattle.std.specs.List.{AllByRecursion}
use Rattle.std.proofs.lemmas.Str.{encode_ascii}
use Rattle.std.proofs.lemmas.Bool.{cases_Bool}
use Rattle.psg_terms.proofs.Lists.{take_item}
use Rattle.psg_terms.proofs.DeclareLaws.{bytes_eq-same}
use Rattle.unicode_ident.proofs.IdentLemmas.{is_xid_start-ascii, is_xid_continue-ascii}
use Rattle.psg_grammar.specs.declared.types.Definition.{Definition}
use Rattle.psg_grammar.specs.declared.types.Item.{Item}
use Rattle.psg_grammar.specs.declared.types.Item.TheVariants as items
use Rattle.psg_grammar.specs.declared.types.Operator.{Operator}
use Rattle.psg_grammar.specs.declared.types.ListKind.{ListKind}
use Rattle.psg_grammar.specs.WellFormed.{IsName, fixed_words, operator_words, separators, words_in}
use Rattle.psg_terms.specs.Names.{Name, is_among, has_twice}
use Rattle.psg_terms.specs.Words.{starts_word, goes_on_word}
use Rattle.psg_menu.specs.Trials.{AreNewWords, run}

abbrev pub AreBounded : ℕ → List Name → Type 0
AreBounded m ns = AllByRecursion (λ n. length n ≤ m) ns

pub bounded_up : (a b : ℕ) (ns : List Name) → a ≤ b → AreBounded a ns → AreBounded b ns
bounded_up a b [] l h = tt
bounded_up a b (n ∷ ns) l h = (omega (arith, l, h.0), bounded_up a b ns l h.1)

pub bounded_both : (m : ℕ) (xs ys : List Name) → AreBounded m xs → AreBounded m ys → AreBounded m (xs ++ ys)
bounded_both m [] ys h k = k
bounded_both m (x ∷ xs) ys h k = (h.0, bounded_both m xs ys h.1 k)

take_all : {X : Type 0} (xs : List X) (i : ℕ) → i ≡ length xs → take i xs ≡ xs
take_all [] zero e = refl
take_all [] (suc i) e = absurd (omega (arith, e))
take_all (x ∷ xs) zero e = absurd (omega (arith, e))
take_all (x ∷ xs) (suc i) e = ap (λ ys. x ∷ ys) (take_all xs i (omega (arith, e)))

-- ---- loops: what is bounded up to a place

-- the words of a list's items, by a function that gives those of one after the other
module _ {X : Type 0} (words : List X → List Name) (push : (xs : List X) (x : X) → words (xs ++ x ∷ []) ≡ words xs ++ words (x ∷ [])) where
  pub bounded_next : (all : List X) (i a b : ℕ) (x : X) → i < length all → x ≡ get_or all i x → a ≤ b → AreBounded a (words (take i all)) → AreBounded b (words (x ∷ []))
      → AreBounded b (words (take (i + 1) all))
  bounded_next all i a b x l at up h one =
      subst (λ ns. AreBounded b ns) (sym (ap words (take_item all i x l at) ∙ push (take i all) x))
      (bounded_both b (words (take i all)) (words (x ∷ [])) (bounded_up a b (words (take i all)) up h) one)

  pub bounded_whole : (all : List X) (i m : ℕ) → i ≡ length all → AreBounded m (words (take i all)) → AreBounded m (words all)
  bounded_whole all i m e h = subst (λ xs. AreBounded m (words xs)) (take_all all i e) h

pub names_push : (xs : List Name) (x : Name) → xs ++ x ∷ [] ≡ xs ++ x ∷ []
names_push xs x = refl

pub words_push : (xs : List Item) (x : Item) → words_in (xs ++ x ∷ []) ≡ words_in xs ++ words_in (x ∷ [])
words_push [] x = refl
words_push (items.Word w ∷ xs) x = ap (λ ns. w ∷ ns) (words_push xs x)
words_push (items.Slot k ∷ xs) x = words_push xs x
words_push (items.Refers s ∷ xs) x = words_push xs x
words_push (items.Declares s ∷ xs) x = words_push xs x
words_push (items.Number ∷ xs) x = words_push xs x
words_push (items.Text ∷ xs) x = words_push xs x
words_push (items.Space ∷ xs) x = words_push xs x
words_push (items.Tight ∷ xs) x = words_push xs x
words_push (items.Line ∷ xs) x = words_push xs x
words_push (items.In ∷ xs) x = words_push xs x
words_push (items.Out ∷ xs) x = words_push xs x

append_three : (xs ys zs : List Name) → xs ++ (ys ++ zs) ≡ (xs ++ ys) ++ zs
append_three [] ys zs = refl
append_three (x ∷ xs) ys zs = ap (λ l. x ∷ l) (append_three xs ys zs)

pub operators_push : (xs : List Operator) (x : Operator) → operator_words (xs ++ x ∷ []) ≡ operator_words xs ++ operator_words (x ∷ [])
operators_push [] x = refl
operators_push (o ∷ xs) x = ap (λ ns. words_in o.items ++ ns) (operators_push xs x) ∙ append_three (words_in o.items) (operator_words xs) (operator_words (x ∷ []))

pub separators_push : (xs : List ListKind) (x : ListKind) → separators (xs ++ x ∷ []) ≡ separators xs ++ separators (x ∷ [])
separators_push [] x = refl
separators_push (l ∷ xs) x = ap (λ ns. l.separator ∷ ns) (separators_push xs x)

-- the words of one operator are those of its items
pub one_operator : (m : ℕ) (o : Operator) → AreBounded m (words_in o.items) → AreBounded m (operator_words (o ∷ []))
one_operator m o h = bounded_both m (words_in o.items) [] h tt

-- ---- runs

run_length : (n : ℕ) → length (run n) ≡ n
run_length zero = refl
run_length (suc n) = ap suc (run_length n)

run_bytes : (n : ℕ) → run n ≡ encode_utf8_all (run n)
run_bytes zero = refl
run_bytes (suc n) =
    ap (λ xs. 97 ∷ xs) (run_bytes n) ∙ ap (λ xs. xs ++ encode_utf8_all (run n)) (sym (encode_ascii 97 (omega arith)))

pub run_push : (n : ℕ) → run n ++ 97 ∷ [] ≡ run (n + 1)
run_push zero = refl
run_push (suc n) =
    let e : suc n + 1 ≡ suc (n + 1) = omega arith in
    ap (λ xs. 97 ∷ xs) (run_push n) ∙ ap run (sym e)

starts : IsTrue (starts_word 97)
starts = ap (λ b. b || false) (is_xid_start-ascii 97 (omega arith))

goes : IsTrue (goes_on_word 97)
goes = ap (λ b. b || false) (is_xid_continue-ascii 97 (omega arith))

run_goes : (n : ℕ) → AllByRecursion (λ d. IsTrue (goes_on_word d)) (run n)
run_goes zero = tt
run_goes (suc n) = (goes, run_goes n)

-- a name that is longer than all of these is none of them
too_long : (m : ℕ) (ns : List Name) (x : Name) → AreBounded m ns → m < length x → is_among ns x ≡ false
too_long m [] x h l = refl
too_long m (n ∷ ns) x h l =
    let here : bytes_eq n x ≡ false = elim (cases_Bool (bytes_eq n x)) [
      | inl t ↦ let e : length n ≡ length x = ap length (bytes_eq-same n x t) in absurd (omega (arith, e, h.0, l))
      | inr f ↦ f
    ] in
    ap (λ b. b || is_among ns x) here ∙ too_long m ns x h.1 l

-- the words so far, which are new and no longer than the number
pub record AreRuns (def : Definition) (used : List Name) (longest : ℕ) (words : List Name) (many : ℕ) : Type 0 where
  pub once : has_twice words ≡ false
  pub each : AllByRecursion (λ n. IsName def n × (is_among used n ≡ false)) words
  pub most : AreBounded (longest + many) words
  pub count : length words ≡ many

module _ (def : Definition) (used : List Name) (longest : ℕ) (all_used : AreBounded longest used) (all_fixed : AreBounded longest (fixed_words def)) where
  abbrev IsNew : Name → Type 0
  IsNew n = IsName def n × (is_among used n ≡ false)

  run_new : (n : ℕ) → longest < n → IsNew (run n)
  run_new zero l = absurd (omega (arith, l))
  run_new (suc n) l =
      let many : longest < length (run (suc n)) = omega (arith, l, run_length (suc n)) in (
        (run (suc n), run_bytes (suc n), (starts, run_goes n), too_long longest (fixed_words def) (run (suc n)) all_fixed many),
        too_long longest used (run (suc n)) all_used many,
      )

  pub runs_none : (words : List Name) → words ≡ [] → AreRuns def used longest words 0
  runs_none words e = subst (λ ws. AreRuns def used longest ws 0) (sym e) (record { once = refl; each = tt; most = tt; count = refl })

  symmetric : (a b : Name) → bytes_eq a b ≡ true → bytes_eq b a ≡ true
  symmetric a b e = let same : a ≡ b = bytes_eq-same a b e in subst (λ z. bytes_eq z a ≡ true) same (subst (λ z. bytes_eq a z ≡ true) (sym same) e)

  parts : (a b : Bool) → (a || b) ≡ false → (a ≡ false) × (b ≡ false)
  parts true b e = absurd (true≢false e)
  parts false b e = (refl, e)

  among_push : (xs : List Name) (x y : Name) → is_among xs x ≡ false → bytes_eq y x ≡ false → is_among (xs ++ y ∷ []) x ≡ false
  among_push [] x y h e = ap (λ b. b || false) e
  among_push (z ∷ xs) x y h e = let (a, b) = parts (bytes_eq z x) (is_among xs x) h in ap (λ c. c || is_among (xs ++ y ∷ []) x) a ∙ among_push xs x y b e

  twice_push : (xs : List Name) (y : Name) → has_twice xs ≡ false → is_among xs y ≡ false → has_twice (xs ++ y ∷ []) ≡ false
  twice_push [] y h n = refl
  twice_push (x ∷ xs) y h n =
      let (a, b) = parts (is_among xs x) (has_twice xs) h in
      let (c, d) = parts (bytes_eq x y) (is_among xs y) n in
      let e : bytes_eq y x ≡ false = elim (cases_Bool (bytes_eq y x)) [ inl t ↦ absurd (true≢false (sym (symmetric y x t) ∙ c)) | inr f ↦ f ] in
      ap (λ p. p || has_twice (xs ++ y ∷ [])) (among_push xs x y a e) ∙ twice_push xs y b d

  each_push : (xs : List Name) (y : Name) → AllByRecursion (λ n. IsName def n × (is_among used n ≡ false)) xs → IsName def y × (is_among used y ≡ false)
      → AllByRecursion (λ n. IsName def n × (is_among used n ≡ false)) (xs ++ y ∷ [])
  each_push [] y h one = (one, tt)
  each_push (x ∷ xs) y h one = (h.0, each_push xs y h.1 one)

  pub runs_next : (words new : List Name) (i : ℕ) (word : Name) → AreRuns def used longest words i → word ≡ run (longest + i + 1) → new ≡ words ++ word ∷ [] → AreRuns def used longest new (i + 1)
  runs_next words new i word h is grown =
      let n = longest + i + 1 in
      let long : longest + i < length (run n) = omega (arith, run_length n) in
      let far : longest < n = omega arith in
      subst (λ ws. AreRuns def used longest ws (i + 1)) (sym (grown ∙ ap (λ w. words ++ w ∷ []) is)) (record {
        once = twice_push words (run n) h.once (too_long (longest + i) words (run n) h.most long);
        each = each_push words (run n) h.each (run_new n far);
        most =
            bounded_both (longest + (i + 1)) words (run n ∷ []) (bounded_up (longest + i) (longest + (i + 1)) words (omega arith) h.most)
            (omega (arith, run_length n), tt);
        count = omega (arith, length-append words (run n ∷ []), h.count);
      })

  pub runs_new : (words : List Name) (many : ℕ) → AreRuns def used longest words many → AreNewWords def used words
  runs_new words many h = record { once = h.once; each = h.each }
