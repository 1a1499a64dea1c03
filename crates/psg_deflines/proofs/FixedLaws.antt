-- A word is one token where a text of it alone has one.
use Rattle.std.proofs.Common.{◌≡◌, ℕ, ◌+◌, ◌<◌, ◌≤◌, true, false, List, [], ◌∷◌, ◌++◌, length, length-append, eqb, inl, inr, refl, ap, sym, ◌∙◌, subst, append-nil, arith}
use Rattle.std.specs.Prelude.{chars, codes, encode_utf8_all, bytes_eq, ◌||◌, IsUtf8}
use Rattle.std.proofs.lemmas.Slice.Eq.{bytes_eq-Decides}
use Rattle.std.specs.List.{AllByRecursion, list_any}
use Rattle.std.proofs.lemmas.Bool.{or_cases, eqb-true, false≢true}
use Rattle.std.proofs.lemmas.Str.{encodes-chars, encodes-append, encode_ascii, length-le-encodes, chars_from_encodes}
use Rattle.std.proofs.lemmas.List.{nil_from_length}
use Rattle.psg_terms.specs.Names.{Name, is_among}
use Rattle.psg_terms.specs.Words.{IsWord}
use Rattle.psg_lexis.specs.Classes.{Chars, is_solo, is_symbol, All, BeginsBy}
use Rattle.psg_lexis.specs.Tokens.{bytes_of, IsToken, word, number, text, solo, symbol, hole, more, HasTokens, nothing, blank, next, IsFixedWord}
use Rattle.psg_lexis.specs.declared.token.Token.{Token}
use Rattle.psg_lexis.specs.declared.token.Token.TheVariants as tokens
use Rattle.psg_lexis.specs.declared.token.Spanned.{Spanned}
use Rattle.psg_deflines.specs.FixedTokens.{IsFixedToken, IsOneToken}

-- a character among some has what all of them have
among-all : (P : ℕ → Type 0) (c : ℕ) (xs : List ℕ) → list_any (λ d. eqb c d) xs ≡ true → AllByRecursion P xs → P c
among-all P c [] h k = absurd (false≢true h)
among-all P c (x ∷ xs) h k = elim (or_cases (eqb c x) (list_any (λ d. eqb c d) xs) h) [
  | inl e ↦ subst P (sym (eqb-true c x e)) k.0
  | inr e ↦ among-all P c xs e k.1
]

solo-ascii : (c : ℕ) → is_solo c ≡ true → c < 128
solo-ascii c h = among-all (λ d. d < 128) c (codes "()[]{},;") h
    (omega arith, (omega arith, (omega arith, (omega arith, (omega arith, (omega arith, (omega arith, (omega arith, tt))))))))

solo-encoded : (c : ℕ) → c < 128 → encode_utf8_all (c ∷ []) ≡ c ∷ []
solo-encoded c h = append-nil _ ∙ encode_ascii c h

-- tokens stand behind the place from which they are looked for
starts-behind : (fixed : List Name) (cs : Chars) (at : ℕ) (ts : List Spanned) → HasTokens fixed cs at ts
    → (s : Spanned) (rest : List Spanned) → ts ≡ s ∷ rest → at ≤ s.start
starts-behind fixed cs at ts (nothing p) s rest e = absurd (cc)
starts-behind fixed cs at ts (blank c ds p us b tail) s rest e = omega (arith, starts-behind fixed ds (p + 1) us tail s rest e)
starts-behind fixed cs at ts (next all p t us begins tail) s rest e =
    let same : t ≡ s = cc in
    omega (arith, begins.starts, ap (λ x. x.start) same)

bytes_of-append : (front rest : Chars) → bytes_of (front ++ rest) ≡ bytes_of front + bytes_of rest
bytes_of-append front rest = ap length (encodes-append front rest) ∙ length-append (encode_utf8_all front) (encode_utf8_all rest)

-- a token on all bytes of a text is made of all its characters
pub whole-token : (fixed : List Name) (cs : Chars) (at : ℕ) (ts : List Spanned) → HasTokens fixed cs at ts
    → (w : List ℕ) → IsUtf8 w → cs ≡ chars w → at ≡ 0
    → (s : Spanned) → ts ≡ s ∷ [] → s.start ≡ 0 → s.end ≡ length w → IsToken fixed (chars w) [] s.token
whole-token fixed cs at ts (nothing p) w u e z s one starts ends = absurd (cc)
whole-token fixed cs at ts (blank c ds p us b tail) w u e z s one starts ends =
    absurd (omega (arith, starts-behind fixed ds (p + 1) us tail s [] one, starts))
whole-token fixed cs at ts (next all p t us begins tail) w u e z s one starts ends =
    let same : t ≡ s = cc in
    let total : length w ≡ bytes_of begins.front + bytes_of begins.rest =
    sym (ap length (encodes-chars w u)) ∙ ap bytes_of (sym e ∙ begins.whole) ∙ bytes_of-append begins.front begins.rest in
    let none : begins.rest ≡ [] = nil_from_length begins.rest (omega (arith, length-le-encodes begins.rest, total, ends, ap (λ x. x.end) same, begins.ends, z)) in
    let front : begins.front ≡ chars w = sym (append-nil begins.front) ∙ ap (λ r. begins.front ++ r) (sym none) ∙ sym begins.whole ∙ e in
    subst (λ x. IsToken fixed (chars w) [] x.token) same
    (subst (λ f. IsToken fixed f [] t.token) front (subst (λ r. IsToken fixed begins.front r t.token) none begins.token))

-- such a token is a fixed word's
fixed-token : (fixed : List Name) (cs rest : Chars) (t : Token) → IsToken fixed cs rest t → (w : List ℕ) → IsUtf8 w → cs ≡ chars w → IsFixedToken t → IsFixedWord w
fixed-token fixed cs rest t (word ds r k ends size) w u e kind =
    (u, inl (subst IsWord e k, omega (arith, size, ap bytes_of e, ap length (encodes-chars w u))))
fixed-token fixed cs rest t (number ds r run ends size) w u e kind = absurd kind
fixed-token fixed cs rest t (text ds written r spelled contents size) w u e kind = absurd kind
fixed-token fixed cs rest t (solo c r s) w u e kind =
    (u, inr (inl (c, sym (encodes-chars w u) ∙ ap encode_utf8_all (sym e) ∙ solo-encoded c (solo-ascii c s), s)))
fixed-token fixed cs rest t (symbol ds r run among apart) w u e kind =
    (u, inr (inr (subst (BeginsBy is_symbol) e run.begins, subst (All is_symbol) e run.all, λ same. apart (e ∙ same))))
fixed-token fixed cs rest t (hole ds r k ends size) w u e kind = absurd kind
fixed-token fixed cs rest t (more r ends) w u e kind = absurd kind

pub word-from-token : (fixed : List Name) (w : List ℕ) (ts : List Spanned) → IsUtf8 w → HasTokens fixed (chars w) 0 ts → IsOneToken ts (length w) → IsFixedWord w
word-from-token fixed w ts u h one =
    fixed-token fixed (chars w) [] one.token.token (whole-token fixed (chars w) 0 ts h w u refl refl one.token one.only one.starts one.ends) w u refl one.kind

same-bytes : (w v : List ℕ) → w ≡ v → bytes_eq w v ≡ true
same-bytes w v e = (bytes_eq-Decides w v).1 e

among-one : (w v : List ℕ) → w ≡ v → is_among (w ∷ []) v ≡ true
among-one w v e = ap (λ b. b || false) (same-bytes w v e)

pub record IsOneOf (fixed : List Name) (w : List ℕ) : Type 0 where
  pub found : List Spanned
  pub tokens : HasTokens fixed (chars w) 0 found
  pub one : IsOneToken found (length w)

made : (fixed : List Name) (w : List ℕ) → IsUtf8 w → (t : Token) → IsToken fixed (chars w) [] t → IsFixedToken t → IsOneOf fixed w
made fixed w u t k kind =
    let len : bytes_of (chars w) ≡ length w = ap length (encodes-chars w u) in
    let s : Spanned = record { token = t; start = 0; end = 0 + bytes_of (chars w) } in
    record {
      found = s ∷ [];
      tokens = next (chars w) 0 s [] (record { front = chars w; rest = []; whole = sym (append-nil (chars w)); token = k; starts = refl; ends = refl }) (nothing (0 + bytes_of (chars w)));
      one = record { token = s; only = refl; starts = refl; ends = omega (arith, len); kind = kind };
    }

-- a fixed word is one token where it is among the fixed words
pub token-from-word : (w : List ℕ) → IsUtf8 w → IsFixedWord w → IsOneOf (w ∷ []) w
token-from-word w u (utf8, inl (k, size)) =
    made (w ∷ []) w u (tokens.Word (encode_utf8_all (chars w)))
    (word (chars w) [] k refl (omega (arith, size, ap length (encodes-chars w u)))) tt
token-from-word w u (utf8, inr (inl (c, e, s))) =
    let same : c ∷ [] ≡ chars w = chars_from_encodes (c ∷ []) w u (solo-encoded c (solo-ascii c s) ∙ sym e) in
    made (w ∷ []) w u (tokens.Solo c) (subst (λ cs. IsToken (w ∷ []) cs [] (tokens.Solo c)) same (solo c [] s)) tt
token-from-word w u (utf8, inr (inr (begins, all, apart))) =
    made (w ∷ []) w u (tokens.Symbol (encode_utf8_all (chars w)))
    (symbol (chars w) [] (record { begins = begins; all = all; ends = refl }) (among-one w (encode_utf8_all (chars w)) (sym (encodes-chars w u))) apart) tt
