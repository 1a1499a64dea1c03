-- Names, placeholders, fixed words, brackets and `...` as tokens, with their terminals.
use Rattle.std.proofs.Common.{◌≡◌, ◌≢◌, ℕ, ◌<◌, ◌≤◌, true, false, not, eqb, ltb, List, [], ◌∷◌, ◌++◌, length, inl, inr, refl, ap, ap₂, sym, ◌∙◌, subst, append-nil, lit<}
use Rattle.std.specs.Prelude.{codes, encode_utf8_all, bytes_eq, IsTrue}
use Rattle.std.specs.Str.{chars, IsUtf8}
use Rattle.std.specs.List.{AllByRecursion, list_any, list_all}
use Rattle.std.proofs.lemmas.Bool.{or_cases, eqb-true, ltb-true, and_parts, false≢true, and_from, false_from_ne_true, not_from_false}
use Rattle.std.proofs.lemmas.Slice.Eq.{bytes_eq-Decides}
use Rattle.std.proofs.lemmas.Str.{encodes-chars, encode_ascii, chars_from_encodes, chars-encodes}
use lib.Utf8.{scalars}
use Rattle.psg_terms.specs.Names.{Name, is_among}
use Rattle.psg_terms.specs.Words.{starts_word, goes_on_word, IsWord}
use Rattle.psg_lexis.specs.Classes.{is_solo, is_symbol, All, BeginsBy}
use Rattle.psg_lexis.specs.Tokens.{bytes_of, dots as dots_run, IsToken, word as a_word, solo as a_solo, symbol as a_symbol, hole as a_hole, more as a_more, IsFixedWord}
use Rattle.psg_grammar.specs.declared.types.Definition.{Definition}
use Rattle.psg_grammar.specs.WellFormed.{fixed_words}
use Rattle.psg_class.specs.Terminals.{Token, word, solo, symbols, placeholder, dots, fixed, a_name, fixed_if, are_word, is_word, is_run, word_terminal, terminal_of}
use Rattle.psg_unparse.proofs.Lexing.{IsTextOf}
use Rattle.psg_unparse.proofs.Scalars.{word_scalars}

-- ---- ASCII

-- a character among some has what all of them have
among-all : (P : ℕ → Type 0) (c : ℕ) (xs : List ℕ) → list_any (λ d. eqb c d) xs ≡ true → AllByRecursion P xs → P c
among-all P c [] h k = absurd (false≢true h)
among-all P c (x ∷ xs) h k = elim (or_cases (eqb c x) (list_any (λ d. eqb c d) xs) h) [
  | inl e ↦ subst P (sym (eqb-true c x e)) k.0
  | inr e ↦ among-all P c xs e k.1
]

all_small : (xs : List ℕ) → list_all (λ d. ltb d 128) xs ≡ true → AllByRecursion (λ d. d < 128) xs
all_small [] h = tt
all_small (x ∷ xs) h = let e =
    and_parts (ltb x 128) (list_all (λ d. ltb d 128) xs) h in (ltb-true x 128 e.0, all_small xs e.1)

solo-ascii : (c : ℕ) → is_solo c ≡ true → c < 128
solo-ascii c h = among-all (λ d. d < 128) c (codes "()[]{},;") h (all_small (codes "()[]{},;") refl)

symbol-ascii : (c : ℕ) → is_symbol c ≡ true → c < 128
symbol-ascii c h = among-all (λ d. d < 128) c (codes "+-*/%<>=!&|^~:.@#$") h
    (all_small (codes "+-*/%<>=!&|^~:.@#$") refl)

one-encoded : (c : ℕ) → c < 128 → encode_utf8_all (c ∷ []) ≡ c ∷ []
one-encoded c h = append-nil _ ∙ encode_ascii c h

symbols-encoded : (cs : List ℕ) → All is_symbol cs → encode_utf8_all cs ≡ cs
symbols-encoded [] h = refl
symbols-encoded (c ∷ cs) h = ap₂ (λ x y. x ++ y) (encode_ascii c (symbol-ascii c h.0)) (symbols-encoded cs h.1)

-- ---- words by the test

goes_on_tested : (cs : List ℕ) → AllByRecursion (λ d. IsTrue (goes_on_word d)) cs → list_all goes_on_word cs ≡ true
goes_on_tested [] h = refl
goes_on_tested (c ∷ cs) h = and_from (goes_on_word c) (list_all goes_on_word cs) h.0 (goes_on_tested cs h.1)

word_tested : (cs : List ℕ) → IsWord cs → are_word cs ≡ true
word_tested [] h = absurd h
word_tested (c ∷ cs) h = and_from (starts_word c) (list_all goes_on_word cs) h.0 (goes_on_tested cs h.1)

word_passes : (w : Name) → IsUtf8 w → IsWord (chars w) → is_word w ≡ true
word_passes w u k = and_from (are_word (chars w)) (bytes_eq (encode_utf8_all (chars w)) w) (word_tested (chars w) k)
    ((bytes_eq-Decides (encode_utf8_all (chars w)) w).1 (encodes-chars w u))

symbols_tested : (cs : List ℕ) → All is_symbol cs → list_all is_symbol cs ≡ true
symbols_tested [] h = refl
symbols_tested (c ∷ cs) h = and_from (is_symbol c) (list_all is_symbol cs) h.0 (symbols_tested cs h.1)

run_passes : (w : Name) → BeginsBy is_symbol w → All is_symbol w → w ≢ dots_run → is_run w ≡ true
run_passes [] b a n = absurd (false≢true b)
run_passes (c ∷ cs) b a n =
    and_from (list_all is_symbol (c ∷ cs)) (not (bytes_eq (c ∷ cs) dots_run)) (symbols_tested (c ∷ cs) a)
    (not_from_false (bytes_eq (c ∷ cs) dots_run)
    (false_from_ne_true (bytes_eq (c ∷ cs) dots_run) (λ e. n ((bytes_eq-Decides (c ∷ cs) dots_run).0 e))))

-- ---- names and placeholders

module _ (known : List Name) where
  word_text : (cs : List ℕ) → IsWord cs → bytes_of cs ≤ 255
      → IsTextOf known (encode_utf8_all cs) (word (encode_utf8_all cs))
  word_text cs k short = record {
    utf8 = (cs, (word_scalars cs k, refl));
    alone = subst (λ ds. IsToken known ds [] (word (encode_utf8_all cs))) (sym (chars-encodes cs (word_scalars cs k)))
        (a_word cs [] k refl short);
  }

  pub name_text : (n : Name) (cs : List ℕ) → n ≡ encode_utf8_all cs → IsWord cs → length n ≤ 255
      → IsTextOf known n (word n)
  name_text n cs e k short =
      subst (λ x. IsTextOf known x (word x)) (sym e) (word_text cs k (subst (λ x. length x ≤ 255) e short))

  hole_alone : (cs : List ℕ) → IsWord cs → bytes_of cs ≤ 255
      → IsTextOf known (encode_utf8_all (63 ∷ cs)) (placeholder (encode_utf8_all cs))
  hole_alone cs k short =
      let s : scalars (63 ∷ cs) ≡ true = word_scalars cs k in
      record {
        utf8 = (63 ∷ cs, (s, refl));
        alone = subst (λ ds. IsToken known ds [] (placeholder (encode_utf8_all cs))) (sym (chars-encodes (63 ∷ cs) s))
            (a_hole cs [] k refl short);
      }

  pub hole_text : (n : Name) (cs : List ℕ) → n ≡ encode_utf8_all cs → IsWord cs → length n ≤ 255
      → IsTextOf known (63 ∷ n) (placeholder n)
  hole_text n cs e k short =
      let whole : encode_utf8_all (63 ∷ cs) ≡ 63 ∷ n = ap (λ x. x ++ encode_utf8_all cs) (encode_ascii 63 (lit< tt))
      ∙ ap (λ x. 63 ∷ x) (sym e) in
      subst (λ x. IsTextOf known x (placeholder n)) whole
      (subst (λ x. IsTextOf known (encode_utf8_all (63 ∷ cs)) (placeholder x)) (sym e)
      (hole_alone cs k (subst (λ x. length x ≤ 255) e short)))

  encodes-dots : encode_utf8_all dots_run ≡ dots_run
  encodes-dots = rw (encode_ascii 46 (lit< tt)) refl

  pub dots_text : IsTextOf known (codes "...") dots
  unfolding chars
  dots_text = record { utf8 = (dots_run, (refl, encodes-dots)); alone = a_more [] refl }

  solo_text : (c : ℕ) (w : List ℕ) → IsUtf8 w → w ≡ c ∷ [] → is_solo c ≡ true → IsTextOf known w (solo c)
  solo_text c w u e s =
      let same : c ∷ [] ≡ chars w = chars_from_encodes (c ∷ []) w u (one-encoded c (solo-ascii c s) ∙ sym e) in
      record { utf8 = u; alone = subst (λ cs. IsToken known cs [] (solo c)) same (a_solo c [] s) }

  pub open_text : IsTextOf known (codes "(") (solo 40)
  open_text = solo_text 40 (codes "(") (40 ∷ [], (refl, one-encoded 40 (lit< tt))) refl refl

  pub close_text : IsTextOf known (codes ")") (solo 41)
  close_text = solo_text 41 (codes ")") (41 ∷ [], (refl, one-encoded 41 (lit< tt))) refl refl

-- a word that is none of the fixed ones
pub name_terminal : (def : Definition) (n : Name) (cs : List ℕ) → n ≡ encode_utf8_all cs → IsWord cs
    → is_among (fixed_words def) n ≡ false → terminal_of def (word n) ≡ a_name
name_terminal def n cs e k free =
    let u : IsUtf8 n = (cs, (word_scalars cs k, sym e)) in
    let same : cs ≡ chars n = chars_from_encodes cs n u (sym e) in
    ap₂ (λ a b. word_terminal n a b) (word_passes n u (subst IsWord same k)) free

-- ---- fixed words

-- a token of the bytes of a fixed word
pub record FixedToken (def : Definition) (w : Name) : Type 0 where
  pub token : Token
  pub text : IsTextOf (fixed_words def) w token
  pub terminal : terminal_of def token ≡ fixed w

module _ (def : Definition) where
  fixed_word : (w : Name) → IsUtf8 w → is_among (fixed_words def) w ≡ true → IsWord (chars w) → length w ≤ 255
      → FixedToken def w
  fixed_word w u among k short =
      let back : encode_utf8_all (chars w) ≡ w = encodes-chars w u in
      record {
        token = word w;
        text = name_text (fixed_words def) w (chars w) (sym back) k short;
        terminal = ap₂ (λ a b. word_terminal w a b) (word_passes w u k) among;
      }

  fixed_solo : (w : Name) → IsUtf8 w → (c : ℕ) → w ≡ c ∷ [] → is_solo c ≡ true → FixedToken def w
  fixed_solo w u c e s = record {
    token = solo c;
    text = solo_text (fixed_words def) c w u e s;
    terminal = ap (λ b. fixed_if b (c ∷ [])) s ∙ ap fixed (sym e);
  }

  fixed_run : (w : Name) → IsUtf8 w → is_among (fixed_words def) w ≡ true → BeginsBy is_symbol (chars w)
      → All is_symbol (chars w) → chars w ≢ dots_run → FixedToken def w
  fixed_run w u among begins all apart =
      let back : encode_utf8_all (chars w) ≡ w = encodes-chars w u in
      let same : chars w ≡ w = sym (symbols-encoded (chars w) all) ∙ back in
      record {
        token = symbols w;
        text = record {
          utf8 = u;
          alone = subst (λ x. IsToken (fixed_words def) (chars w) [] (symbols x)) back
              (a_symbol (chars w) [] (record { begins = begins; all = all; ends = refl })
              (subst (λ x. is_among (fixed_words def) x ≡ true) (sym back) among) apart);
        };
        terminal = ap (λ b. fixed_if b w)
            (run_passes w (subst (BeginsBy is_symbol) same begins) (subst (All is_symbol) same all)
            (λ e. apart (same ∙ e)));
      }

  pub fixed_token : (w : Name) → is_among (fixed_words def) w ≡ true → IsFixedWord w → FixedToken def w
  fixed_token w among (u, inl (k, short)) = fixed_word w u among k short
  fixed_token w among (u, inr (inl (c, e, s))) = fixed_solo w u c e s
  fixed_token w among (u, inr (inr (begins, all, apart))) = fixed_run w u among begins all apart
