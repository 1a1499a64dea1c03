-- No character is of two classes.
use Rattle.std.proofs.Common.{◌≡◌, ℕ, ◌<◌, Bool, true, false, List, [], ◌∷◌, ap, ◌∙◌, subst, refl, arith}
use Rattle.std.specs.Prelude.{codes, not, nat_lt, ◌||◌, ◌&&◌, ◌==◌}
use Rattle.std.specs.Char.{is_ascii_alphabetic}
use Rattle.std.specs.List.{list_any, list_all}
use Rattle.std.proofs.lemmas.Bool.{eqb-true, false≢true, ltb-true, not-true}
use Rattle.std.proofs.lemmas.Bool.Decides.{nat_tests}
use Rattle.std.specs.Cmp.{first_so, second_so}
use Rattle.unicode_ident.proofs.IdentLemmas.{is_xid_start-ascii}
use Rattle.psg_terms.specs.Words.{starts_word}
use Rattle.psg_lexis.specs.Classes.{is_blank, is_digit, is_solo, is_symbol}

-- what holds of each of some characters holds of one that is among them
among : (p : ℕ → Bool) (c : ℕ) (cs : List ℕ) → list_any (λ d. c == d) cs ≡ true → list_all p cs ≡ true → p c ≡ true
among p c [] h a = absurd (false≢true h)
among p c (d ∷ cs) h a = by (c == d) refl (λ k. among p c cs k (second_so (p d) (list_all p cs) a))
  where
    by : (b : Bool) → (c == d) ≡ b → (list_any (λ x. c == x) cs ≡ true → p c ≡ true) → p c ≡ true
    by true e later = ap p (eqb-true c d e) ∙ first_so (p d) (list_all p cs) a
    by false e later = later (subst (λ b. (b || list_any (λ x. c == x) cs) ≡ true) e h)

-- an ASCII character that begins no word
abbrev no_start : ℕ → Bool
no_start c = nat_lt c 128 && not (is_ascii_alphabetic c || (c == 95))

pub no_word : (c : ℕ) → no_start c ≡ true → starts_word c ≡ false
no_word c h =
    let small : c < 128 = ltb-true c 128 (first_so (nat_lt c 128) (not (is_ascii_alphabetic c || (c == 95))) h) in
    ap (λ b. b || (c == 95)) (is_xid_start-ascii c small)
    ∙ not-true (is_ascii_alphabetic c || (c == 95)) (second_so (nat_lt c 128) (not (is_ascii_alphabetic c || (c == 95))) h)

pub digit_no_word : (c : ℕ) → is_digit c ≡ true → starts_word c ≡ false
digit_no_word c h = no_word c (by h)
  where
    by : is_digit c ≡ true → no_start c ≡ true
    by h = grind (arith, nat_tests)

abbrev symbol_test : ℕ → Bool
symbol_test c = no_start c && not (is_digit c)

abbrev solo_test : ℕ → Bool
solo_test c = symbol_test c && not (is_symbol c)

abbrev quote_test : ℕ → Bool
quote_test c = solo_test c && not (is_solo c)

pub symbol_parts : (c : ℕ) → symbol_test c ≡ true → (starts_word c ≡ false) × (is_digit c ≡ false)
symbol_parts c h = (
  no_word c (first_so (no_start c) (not (is_digit c)) h),
  not-true (is_digit c) (second_so (no_start c) (not (is_digit c)) h),
)

pub symbol_apart : (c : ℕ) → is_symbol c ≡ true → (starts_word c ≡ false) × (is_digit c ≡ false)
symbol_apart c h = symbol_parts c (among symbol_test c (codes "+-*/%<>=!&|^~:.@#$") h refl)

pub solo_parts : (c : ℕ) → solo_test c ≡ true → (starts_word c ≡ false) × (is_digit c ≡ false) × (is_symbol c ≡ false)
solo_parts c h =
    let p = symbol_parts c (first_so (symbol_test c) (not (is_symbol c)) h) in
    (p.0, p.1, not-true (is_symbol c) (second_so (symbol_test c) (not (is_symbol c)) h))

pub solo_apart : (c : ℕ) → is_solo c ≡ true → (starts_word c ≡ false) × (is_digit c ≡ false) × (is_symbol c ≡ false)
solo_apart c h = solo_parts c (among solo_test c (codes "()[]{},;") h refl)

pub record IsOther (c : ℕ) : Type 0 where
  pub word : starts_word c ≡ false
  pub digit : is_digit c ≡ false
  pub symbol : is_symbol c ≡ false
  pub solo : is_solo c ≡ false

other_parts : (c : ℕ) → quote_test c ≡ true → IsOther c
other_parts c h =
    let p = solo_parts c (first_so (solo_test c) (not (is_solo c)) h) in
    record {
      word = p.0;
      digit = p.1;
      symbol = p.2;
      solo =
          not-true (is_solo c) (second_so (solo_test c) (not (is_solo c)) h);
    }

pub quote_apart : IsOther 34
quote_apart = other_parts 34 refl

pub question_apart : IsOther 63
question_apart = other_parts 63 refl

blank_among : (a b d e : Bool) → (a || b || d || e) ≡ true → (a || (b || (d || (e || false)))) ≡ true
blank_among true b d e h = refl
blank_among false true d e h = refl
blank_among false false true e h = refl
blank_among false false false true h = refl
blank_among false false false false h = h

abbrev blank_test : ℕ → Bool
blank_test c = quote_test c && (not (c == 34) && not (c == 63))

pub blank_apart : (c : ℕ) → is_blank c ≡ true → IsOther c × ((c == 34) ≡ false) × ((c == 63) ≡ false)
blank_apart c h =
    let t = among blank_test c (32 ∷ 9 ∷ 10 ∷ 13 ∷ []) (blank_among (c == 32) (c == 9) (c == 10) (c == 13) h) refl in
    let u = second_so (quote_test c) (not (c == 34) && not (c == 63)) t in (
      other_parts c (first_so (quote_test c) (not (c == 34) && not (c == 63)) t),
      not-true (c == 34) (first_so (not (c == 34)) (not (c == 63)) u),
      not-true (c == 63) (second_so (not (c == 34)) (not (c == 63)) u),
    )
