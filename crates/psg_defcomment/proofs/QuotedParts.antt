-- Quoted texts by the tokens of a part.
use Rattle.std.proofs.Common.{◌≡◌, ℕ, ◌+◌, ◌≤◌, Bool, true, false, List, [], ◌∷◌, ◌++◌, length, take, drop, codes, append-nil, sym, ap, ◌∙◌, subst, refl, arith, length-append}
use Rattle.std.specs.Prelude.{◌==◌, bytes_eq, chars, encode_utf8_all, nat_le, cond, Option, Some, None}
use Rattle.std.specs.Str.{IsUtf8, is_utf8}
use Rattle.std.proofs.lemmas.Bool.{eqb-true, le-leb, leb-true}
use Rattle.std.proofs.lemmas.Str.{encodes-chars, encodes-append, length-le-encodes, IsUtf8-from_is_utf8, is_utf8-from_IsUtf8}
use Rattle.psg_terms.specs.Names.{Name}
use Rattle.psg_lexis.specs.Classes.{Chars, All}
use Rattle.psg_lexis.specs.Tokens.{bytes_of, is_content, quoted, IsToken, word, number, text, solo, symbol, hole, more, HasTokens, nothing, blank, next}
use Rattle.psg_lexis.specs.declared.token.Token.{Token}
use Rattle.psg_lexis.specs.declared.token.Token.TheVariants as tokens
use Rattle.psg_lexis.specs.declared.token.Spanned.{Spanned}
use Rattle.psg_deflines.specs.Quotes.{IsTextAlone, HasNoTextAlone}
use Rattle.psg_defcomment.specs.Naming.{contents, past_spaces, quoted_by, quoted_in, short, token_of}
use Rattle.psg_defcomment.proofs.Contents.{contents_written, contents_read}

-- ---- one token that takes all

no_bytes : (cs : Chars) → bytes_of cs ≡ 0 → cs ≡ []
no_bytes [] e = refl
no_bytes (c ∷ cs) e = absurd (omega (arith, e, length-le-encodes (c ∷ cs)))

starts_later : (fixed : List Name) (cs : Chars) (at : ℕ) (s : Spanned) (ts : List Spanned) → HasTokens fixed cs at (s ∷ ts)
    → at ≤ s.start
starts_later fixed _ _ s ts (blank c cs at _ h k) = omega (arith, starts_later fixed cs (at + 1) s ts k)
starts_later fixed _ _ s ts (next all at _ _ b k) = omega (arith, b.starts)

whole_token : (fixed : List Name) (cs : Chars) (at : ℕ) (s : Spanned) → HasTokens fixed cs at (s ∷ []) → s.start ≡ at
    → s.end ≡ at + bytes_of cs → IsToken fixed cs [] s.token
whole_token fixed _ _ s (blank c cs at _ h k) e f = absurd (omega (arith, e, starts_later fixed cs (at + 1) s [] k))
whole_token fixed _ _ s (next all at _ _ b k) e f =
    let size : bytes_of all ≡ bytes_of b.front + bytes_of b.rest =
    ap bytes_of b.whole ∙ ap length (encodes-append b.front b.rest) ∙ length-append (encode_utf8_all b.front) (encode_utf8_all b.rest) in
    let none : b.rest ≡ [] = no_bytes b.rest (omega (arith, b.ends, f, size)) in
    let all_is : b.front ≡ all = sym (b.whole ∙ ap (λ r. b.front ++ r) none ∙ append-nil b.front) in
    subst (λ xs. IsToken fixed xs [] s.token) all_is (subst (λ r. IsToken fixed b.front r s.token) none b.token)

short_there : (w : Chars) → bytes_of w ≤ 4096 → short (Some w) ≡ Some (encode_utf8_all w)
short_there w l = ap (λ b. cond b (Some (encode_utf8_all w)) None) (le-leb (bytes_of w) 4096 l)

by_token : (fixed : List Name) (cs : Chars) (t : Token) (w : Name) → IsToken fixed cs [] t → t ≡ tokens.Text w
    → quoted_by cs ≡ Some w
by_token fixed _ _ w (word cs rest k e l) q = absurd (cc)
by_token fixed _ _ w (number cs rest r e l) q = absurd (cc)
by_token fixed _ _ w (text cs written rest e a l) q =
    let same : encode_utf8_all cs ≡ w = cc in
    ap (λ xs. short (contents false xs)) e ∙ ap short (contents_written cs a) ∙ short_there cs l ∙ ap Some same
by_token fixed _ _ w (solo c rest s) q = absurd (cc)
by_token fixed _ _ w (symbol cs rest r i d) q = absurd (cc)
by_token fixed _ _ w (hole cs rest k e l) q = absurd (cc)
by_token fixed _ _ w (more rest e) q = absurd (cc)

-- ---- a quoted text is one token

pub record HasTextToken (part w : List ℕ) : Type 0 where
  pub token : Spanned
  pub tokens : (fixed : List Name) → HasTokens fixed (chars part) 0 (token ∷ [])
  pub alone : IsTextAlone (token ∷ []) (length part) w

token_by : (cs : Chars) (o : Option Chars) (w : Name) → contents false cs ≡ o → short o ≡ Some w
    → (v : Chars) × ((cs ≡ quoted v ++ 34 ∷ []) × All is_content v × (bytes_of v ≤ 4096) × (encode_utf8_all v ≡ w))
token_by cs None w e h = absurd (cc)
token_by cs (Some v) w e h = by (nat_le (bytes_of v) 4096) refl h
  where
    by : (b : Bool) → nat_le (bytes_of v) 4096 ≡ b → cond b (Some (encode_utf8_all v)) None ≡ Some w
        → (v : Chars) × ((cs ≡ quoted v ++ 34 ∷ []) × All is_content v × (bytes_of v ≤ 4096) × (encode_utf8_all v ≡ w))
    by true i k = let r = contents_read false cs v e in (v, (r.text_is, r.contents, leb-true (bytes_of v) 4096 i, cc))
    by false i k = absurd (cc)

has_token : (part : List ℕ) (cs : Chars) (w : Name) → IsUtf8 part → chars part ≡ cs → quoted_by cs ≡ Some w → HasTextToken part w
has_token part [] w u e h = absurd (cc)
has_token part (c ∷ cs) w u e h = by (c == 34) refl h
  where
    by : (b : Bool) → (c == 34) ≡ b → cond b (short (contents false cs)) None ≡ Some w → HasTextToken part w
    by true i k =
        let r = token_by cs (contents false cs) w refl k in
        let t : Token = tokens.Text w in
        let s : Spanned = record { token = t; start = 0; end = 0 + bytes_of (chars part) } in
        let all_is : 34 ∷ cs ≡ chars part = ap (λ d. d ∷ cs) (sym (eqb-true c 34 i)) ∙ sym e in
        record {
          token = s;
          tokens = λ fixed. next (chars part) 0 s [] (record {
            front = chars part;
            rest = [];
            whole = sym (append-nil (chars part));
            token = subst (λ ds. IsToken fixed ds [] t) all_is
                (subst (λ v. IsToken fixed (34 ∷ cs) [] (tokens.Text v)) r.1.3 (text r.0 cs [] r.1.0 r.1.1 r.1.2));
            starts = refl;
            ends = refl;
          }) (nothing (0 + bytes_of (chars part)));
          alone = record { token = s; only = refl; starts = refl; ends = omega (arith, ap length (encodes-chars part u)); kind = refl };
        }
    by false i k = absurd (cc)

-- ---- what the tokens of the part tell

utf8_false : (part : List ℕ) → (IsUtf8 part → ⊥) → is_utf8 part ≡ false
utf8_false part never = by (is_utf8 part) refl
  where
    by : (b : Bool) → is_utf8 part ≡ b → b ≡ false
    by true e = absurd (never (IsUtf8-from_is_utf8 part e))
    by false e = refl

pub none_of_bytes : (part : List ℕ) → (IsUtf8 part → ⊥) → quoted_in part ≡ None
none_of_bytes part never = ap (λ b. cond b (quoted_by (chars part)) None) (utf8_false part never)

of_text : (part : List ℕ) → IsUtf8 part → quoted_in part ≡ quoted_by (chars part)
of_text part u = ap (λ b. cond b (quoted_by (chars part)) None) (is_utf8-from_IsUtf8 part u)

none_unless : (part : List ℕ) → IsUtf8 part → ((w : Name) → HasTextToken part w → ⊥) → quoted_in part ≡ None
none_unless part u never = of_text part u ∙ by (quoted_by (chars part)) refl
  where
    by : (o : Option Name) → quoted_by (chars part) ≡ o → o ≡ None
    by None e = refl
    by (Some w) e = absurd (never w (has_token part (chars part) w u refl e))

pub quoted_is : (part : List ℕ) (fixed : List Name) (found : List Spanned) (w : Name) → IsUtf8 part
    → HasTokens fixed (chars part) 0 found → IsTextAlone found (length part) w → quoted_in part ≡ Some w
quoted_is part fixed found w u h one =
    let t = subst (HasTokens fixed (chars part) 0) one.only h in
    let size : one.token.end ≡ 0 + bytes_of (chars part) = omega (arith, one.ends, ap length (encodes-chars part u)) in
    of_text part u ∙ by_token fixed (chars part) one.token.token w (whole_token fixed (chars part) 0 one.token t one.starts size) one.kind

pub none_of_tokens : (part : List ℕ) (fixed : List Name) (found : List Spanned) → IsUtf8 part
    → ((ts : List Spanned) → HasTokens fixed (chars part) 0 ts → found ≡ ts) → HasNoTextAlone found (length part)
    → quoted_in part ≡ None
none_of_tokens part fixed found u whole none =
    none_unless part u (λ w t. none w (subst (λ ts. IsTextAlone ts (length part) w) (sym (whole (t.token ∷ []) (t.tokens fixed))) t.alone))

pub none_of_fault : (part : List ℕ) (fixed : List Name) (P : Type 0) → IsUtf8 part → P
    → ((ts : List Spanned) → HasTokens fixed (chars part) 0 ts → P → ⊥) → quoted_in part ≡ None
none_of_fault part fixed P u p whole = none_unless part u (λ w t. whole (t.token ∷ []) (t.tokens fixed) p)

-- ---- the line

pub token_none : (line : List ℕ) → bytes_eq (take 7 line) (codes "comment") ≡ false → token_of line ≡ None
token_none line e = ap (λ b. cond b (quoted_in (past_spaces (drop 7 line))) None) e

pub token_is : (line behind part : List ℕ) → bytes_eq (take 7 line) (codes "comment") ≡ true → behind ≡ drop 7 line
    → part ≡ past_spaces behind → quoted_in part ≡ token_of line
token_is line behind part e b p =
    ap quoted_in (p ∙ ap past_spaces b) ∙ ap (λ c. cond c (quoted_in (past_spaces (drop 7 line))) None) (sym e)
