-- A text has one reading: where it has tokens, it has no others and no fault, and a fault is the only one.
use Rattle.std.proofs.Common.{inl, inr, ◌≡◌, ◌≢◌, ℕ, ◌+◌, ◌^◌, Bool, true, false, cond, List, [], ◌∷◌, ◌++◌, length, None, sym, ap, ◌∙◌, subst, refl, append_assoc, ne_eqb}
use Rattle.std.specs.Prelude.{encode_utf8_all, nat_lt, nat_le, ◌==◌, bytes_eq}
use Rattle.std.proofs.lemmas.Bool.{false≢true, le-leb, lt-leb, lt-ltb, le-ltb}
use Rattle.std.proofs.lemmas.Slice.Eq.{bytes_eq-Decides}
use Rattle.psg_terms.specs.Names.{Name, is_among}
use Rattle.psg_terms.specs.Words.{starts_word, goes_on_word, IsWord}
use Rattle.psg_lexis.specs.Classes.{Chars, is_blank, is_digit, is_solo, is_symbol, begins_by, EndsBy, All, IsLongest}
use Rattle.psg_lexis.specs.Tokens as spec
use Rattle.psg_lexis.specs.Tokens.{bytes_of, dots, value_of, is_content, quoted, IsToken, Begins, HasTokens}
use Rattle.psg_lexis.specs.Faults as broken
use Rattle.psg_lexis.specs.Faults.{is_closed, IsFault, HasFault}
use Rattle.psg_lexis.specs.declared.token.Token.{Token}
use Rattle.psg_lexis.specs.declared.token.Token.TheVariants as tokens
use Rattle.psg_lexis.specs.declared.token.Spanned.{Spanned}
use Rattle.psg_lexis.specs.declared.token.LexFault.{LexFault}
use Rattle.psg_lexis.specs.declared.token.LexFault.TheVariants as faults
use Rattle.psg_lexis.proofs.Starts.{start_goes_on}
use Rattle.psg_lexis.proofs.Closing.{closed_contents}
use Rattle.psg_lexis.proofs.Disjoint.{IsOther, digit_no_word, symbol_apart, solo_apart, quote_apart, question_apart, blank_apart}
use Rattle.psg_lexis.proofs.Unquoting.{take_content, contents_of, contents_of-quoted, contents_small, stops-quote, stops-backslash, stops-no_width, no_width_no_quote, no_width_no_backslash}

-- what some characters begin with
data Start : Type 0 where
  nothing : Start
  a_blank : Start
  a_token : (token : Spanned) (rest : Chars) → Start
  a_fault : (fault : LexFault) → Start

run_of : (ℕ → Bool) → Chars → Chars
run_of test [] = []
run_of test (c ∷ cs) = cond (test c) (c ∷ run_of test cs) []

past : (ℕ → Bool) → Chars → Chars
past test [] = []
past test (c ∷ cs) = cond (test c) (past test cs) (c ∷ cs)

run_of-run : (test : ℕ → Bool) (front rest : Chars) → All test front → EndsBy test rest
    → run_of test (front ++ rest) ≡ front
unfolding run_of
run_of-run test [] [] a e = refl
run_of-run test [] (c ∷ cs) a e = rw e refl
run_of-run test (c ∷ front) rest a e = let h = a.0 in rw h (ap (λ cs. c ∷ cs) (run_of-run test front rest a.1 e))

past-run : (test : ℕ → Bool) (front rest : Chars) → All test front → EndsBy test rest
    → past test (front ++ rest) ≡ rest
unfolding past
past-run test [] [] a e = refl
past-run test [] (c ∷ cs) a e = rw e refl
past-run test (c ∷ front) rest a e = let h = a.0 in rw h (past-run test front rest a.1 e)

span : Token → ℕ → Chars → Spanned
span t at front = record { token = t; start = at; end = at + bytes_of front }

word_start : Chars → Chars → ℕ → Start
word_start front rest at =
    cond (nat_le (bytes_of front) 255) (a_token (span (tokens.Word (encode_utf8_all front)) at front) rest) (a_fault (faults.TooLarge at))

hole_start : Chars → Chars → Chars → ℕ → Start
hole_start all front rest at =
    cond (begins_by starts_word all)
    (cond (nat_le (bytes_of front) 255) (a_token (span (tokens.Hole (encode_utf8_all front)) at (63 ∷ front)) rest) (a_fault (faults.TooLarge (at + 1))))
    (a_fault (faults.BadChar at))

number_start : Chars → Chars → ℕ → Start
number_start front rest at =
    cond (begins_by goes_on_word rest) (a_fault (faults.BadRun at))
    (cond (nat_lt (value_of front) (2 ^ 128)) (a_token (span (tokens.Number (value_of front)) at front) rest) (a_fault (faults.TooLarge at)))

symbol_start : List Name → Chars → Chars → ℕ → Start
symbol_start fixed front rest at =
    cond (bytes_eq front dots) (a_token (span tokens.More at front) rest)
    (cond (is_among fixed (encode_utf8_all front)) (a_token (span (tokens.Symbol (encode_utf8_all front)) at front) rest) (a_fault (faults.BadRun at)))

-- behind the contents of a quoted text that is closed
text_end : Chars → Chars → ℕ → Start
text_end xs [] at = nothing
text_end xs (c ∷ cs) at =
    cond (c == 34)
    (cond (nat_le (bytes_of xs) 4096) (a_token (span (tokens.Text (encode_utf8_all xs)) at (34 ∷ (quoted xs ++ 34 ∷ []))) cs) (a_fault (faults.TooLarge at)))
    (cond (c == 92) (a_fault (faults.BadRun (at + bytes_of (34 ∷ quoted xs)))) (a_fault (faults.BadChar (at + bytes_of (34 ∷ quoted xs)))))

text_start : Chars → ℕ → Start
text_start all at =
    cond (is_closed false all) (text_end (contents_of (length all) all).0 (contents_of (length all) all).1 at) (a_fault (faults.Unended at))

other_start : ℕ → Chars → ℕ → Start
other_start c cs at =
    cond (c == 34) (text_start cs at)
    (cond (c == 63) (hole_start cs (run_of goes_on_word cs) (past goes_on_word cs) at) (cond (is_blank c) a_blank (a_fault (faults.BadChar at))))

start : List Name → Chars → ℕ → Start
start fixed [] at = nothing
start fixed (c ∷ cs) at =
    cond (starts_word c) (word_start (run_of goes_on_word (c ∷ cs)) (past goes_on_word (c ∷ cs)) at)
    (cond (is_digit c) (number_start (run_of is_digit (c ∷ cs)) (past is_digit (c ∷ cs)) at)
    (cond (is_symbol c) (symbol_start fixed (run_of is_symbol (c ∷ cs)) (past is_symbol (c ∷ cs)) at)
    (cond (is_solo c) (a_token (span (tokens.Solo c) at (c ∷ [])) cs) (other_start c cs at))))

-- ---- the beginning of each token and each fault

not_dots : (cs : Chars) → cs ≢ dots → bytes_eq cs dots ≡ false
not_dots cs d = by (bytes_eq cs dots) refl
  where
    by : (b : Bool) → bytes_eq cs dots ≡ b → bytes_eq cs dots ≡ false
    by true e = absurd (d ((bytes_eq-Decides cs dots).0 e))
    by false e = e

module _ (fixed : List Name) where
  word_starts : (cs rest : Chars) (at : ℕ) → IsWord cs → EndsBy goes_on_word rest
      → start fixed (cs ++ rest) at ≡ word_start cs rest at
  unfolding start
  word_starts [] rest at w e = absurd w
  word_starts (c ∷ cs) rest at w e =
      let h : starts_word c ≡ true = w.0 in
      let all : All goes_on_word (c ∷ cs) = (start_goes_on c h, w.1) in
      rw h (λ i. word_start (run_of-run goes_on_word (c ∷ cs) rest all e i) (past-run goes_on_word (c ∷ cs) rest all e i) at)

  number_starts : (cs rest : Chars) (at : ℕ) → IsLongest is_digit cs rest
      → start fixed (cs ++ rest) at ≡ number_start cs rest at
  unfolding start
  number_starts [] rest at r = absurd (false≢true r.begins)
  number_starts (c ∷ cs) rest at r =
      let h : is_digit c ≡ true = r.begins in
      rw (digit_no_word c h) (rw h (λ i. number_start (run_of-run is_digit (c ∷ cs) rest r.all r.ends i) (past-run is_digit (c ∷ cs) rest r.all r.ends i) at))

  symbol_starts : (cs rest : Chars) (at : ℕ) → IsLongest is_symbol cs rest
      → start fixed (cs ++ rest) at ≡ symbol_start fixed cs rest at
  unfolding start
  symbol_starts [] rest at r = absurd (false≢true r.begins)
  symbol_starts (c ∷ cs) rest at r =
      let h : is_symbol c ≡ true = r.begins in
      let p = symbol_apart c h in
      rw (p.0, p.1) (rw h (λ i. symbol_start fixed (run_of-run is_symbol (c ∷ cs) rest r.all r.ends i) (past-run is_symbol (c ∷ cs) rest r.all r.ends i) at))

  other_starts : (c : ℕ) (cs : Chars) (at : ℕ) → IsOther c → start fixed (c ∷ cs) at ≡ other_start c cs at
  unfolding start
  other_starts c cs at o = rw (o.word, o.digit, o.symbol, o.solo) refl

  quote_starts : (cs : Chars) (at : ℕ) → start fixed (34 ∷ cs) at ≡ text_start cs at
  unfolding other_start
  quote_starts cs at = other_starts 34 cs at quote_apart ∙ refl

  hole_starts : (cs : Chars) (at : ℕ)
      → start fixed (63 ∷ cs) at ≡ hole_start cs (run_of goes_on_word cs) (past goes_on_word cs) at
  unfolding other_start
  hole_starts cs at = other_starts 63 cs at question_apart ∙ refl

  solo_starts : (c : ℕ) (cs : Chars) (at : ℕ) → is_solo c ≡ true
      → start fixed (c ∷ cs) at ≡ a_token (span (tokens.Solo c) at (c ∷ [])) cs
  unfolding start
  solo_starts c cs at h = let p = solo_apart c h in rw (p.0, p.1, p.2) (rw h refl)

  blank_starts : (c : ℕ) (cs : Chars) (at : ℕ) → is_blank c ≡ true → start fixed (c ∷ cs) at ≡ a_blank
  unfolding other_start
  blank_starts c cs at h = let p = blank_apart c h in other_starts c cs at p.0 ∙ rw (p.1, p.2, h) refl

  -- contents up to something that isn't one
  text_starts : (xs follow : Chars) (at : ℕ) → is_closed false (quoted xs ++ follow) ≡ true → All is_content xs
      → take_content follow ≡ None
      → text_start (quoted xs ++ follow) at ≡ text_end xs follow at
  unfolding text_start
  text_starts xs follow at k a s =
      let e : contents_of (length (quoted xs ++ follow)) (quoted xs ++ follow) ≡ (xs, follow) =
      contents_of-quoted (length (quoted xs ++ follow)) xs follow (contents_small xs follow) a s in
      rw k (λ i. text_end (e i).0 (e i).1 at)

  quoted_starts : (xs all follow : Chars) (at : ℕ) → all ≡ quoted xs ++ follow
      → is_closed false (quoted xs ++ follow) ≡ true → All is_content xs → take_content follow ≡ None
      → start fixed (34 ∷ all) at ≡ text_end xs follow at
  quoted_starts xs all follow at e k a s =
      quote_starts all at ∙ ap (λ cs. text_start cs at) e ∙ text_starts xs follow at k a s

  word_hole : (cs rest : Chars) (at : ℕ) → IsWord cs → EndsBy goes_on_word rest
      → start fixed (63 ∷ (cs ++ rest)) at ≡ cond (nat_le (bytes_of cs) 255) (a_token (span (tokens.Hole (encode_utf8_all cs)) at (63 ∷ cs)) rest) (a_fault (faults.TooLarge (at + 1)))
  unfolding hole_start
  word_hole [] rest at w e = absurd w
  word_hole (c ∷ cs) rest at w e =
      let h : starts_word c ≡ true = w.0 in
      let all : All goes_on_word (c ∷ cs) = (start_goes_on c h, w.1) in
      hole_starts ((c ∷ cs) ++ rest) at
      ∙ (λ i. hole_start ((c ∷ cs) ++ rest) (run_of-run goes_on_word (c ∷ cs) rest all e i) (past-run goes_on_word (c ∷ cs) rest all e i) at)
      ∙ rw h refl

  token_starts : {front rest : Chars} {t : Token} (at : ℕ) → IsToken fixed front rest t
      → start fixed (front ++ rest) at ≡ a_token (span t at front) rest
  unfolding word_start number_start symbol_start text_end
  token_starts at (spec.word cs rest w e l) = word_starts cs rest at w e ∙ rw (le-leb (bytes_of cs) 255 l) refl
  token_starts at (spec.number cs rest r e l) = number_starts cs rest at r
      ∙ rw (e, lt-ltb (value_of cs) (2 ^ 128) l) refl
  token_starts at (spec.text cs written rest e a l) =
      quoted_starts cs (written ++ rest) (34 ∷ rest) at (ap (λ w. w ++ rest) e
      ∙ append_assoc (quoted cs) (34 ∷ []) rest) (closed_contents cs (34 ∷ rest)) a (stops-quote rest)
      ∙ rw (le-leb (bytes_of cs) 4096 l) (ap (λ w. a_token (span (tokens.Text (encode_utf8_all cs)) at (34 ∷ w)) rest) (sym e))
  token_starts at (spec.solo c rest s) = solo_starts c rest at s
  token_starts at (spec.symbol cs rest r i d) = symbol_starts cs rest at r ∙ rw (not_dots cs d, i) refl
  token_starts at (spec.hole cs rest w e l) = word_hole cs rest at w e ∙ rw (le-leb (bytes_of cs) 255 l) refl
  token_starts at (spec.more rest e) =
      symbol_starts dots rest at (record { begins = refl; all = (refl, (refl, (refl, tt))); ends = e }) ∙ refl

  begins_starts : (all : Chars) (at : ℕ) (s : Spanned) (b : Begins fixed all at s)
      → start fixed all at ≡ a_token s b.rest
  unfolding span
  begins_starts all at s b =
      ap (λ cs. start fixed cs at) b.whole ∙ token_starts at b.token
      ∙ (λ i. a_token (record { token = s.token; start = sym b.starts i; end = sym b.ends i }) b.rest)

  fault_starts : {all : Chars} {at : ℕ} {f : LexFault} → IsFault fixed all at f → start fixed all at ≡ a_fault f
  unfolding word_start number_start symbol_start text_start text_end hole_start other_start
  fault_starts (broken.no_token c cs at n) =
      other_starts c cs at (record { word = n.word; digit = n.digit; symbol = n.symbol; solo = n.solo })
      ∙ rw (ne_eqb c 34 n.quote, ne_eqb c 63 n.question, n.blank) refl
  fault_starts (broken.no_hole cs at e) = hole_starts cs at ∙ rw e refl
  fault_starts (broken.no_width before all c cs at e i w) =
      quoted_starts before all (c ∷ cs) at e i.closed i.contents (stops-no_width c cs w)
      ∙ rw (no_width_no_quote c w, no_width_no_backslash c w) refl
  fault_starts (broken.no_escape before all cs at e i n) =
      quoted_starts before all (92 ∷ cs) at e i.closed i.contents (stops-backslash cs n) ∙ refl
  fault_starts (broken.no_symbol cs all rest at e r i d) =
      ap (λ ds. start fixed ds at) e ∙ symbol_starts cs rest at r ∙ rw (not_dots cs d, i) refl
  fault_starts (broken.no_number cs all rest at e r g) =
      ap (λ ds. start fixed ds at) e ∙ number_starts cs rest at r ∙ rw g refl
  fault_starts (broken.unended cs at o) = quote_starts cs at ∙ rw o refl
  fault_starts (broken.large_word cs all rest at e w n l) =
      ap (λ ds. start fixed ds at) e ∙ word_starts cs rest at w n ∙ rw (lt-leb (bytes_of cs) 255 l) refl
  fault_starts (broken.large_hole cs all rest at e w n l) =
      ap (λ ds. start fixed (63 ∷ ds) at) e ∙ word_hole cs rest at w n ∙ rw (lt-leb (bytes_of cs) 255 l) refl
  fault_starts (broken.large_number cs all rest at e r n l) =
      ap (λ ds. start fixed ds at) e ∙ number_starts cs rest at r ∙ rw (n, le-ltb (value_of cs) (2 ^ 128) l) refl
  fault_starts (broken.large_text before all rest at e a l) =
      quoted_starts before all (34 ∷ rest) at e (closed_contents before (34 ∷ rest)) a (stops-quote rest)
      ∙ rw (lt-leb (bytes_of before) 4096 l) refl

  -- ---- the laws

  pub blank_token : (c : ℕ) (cs : Chars) (at : ℕ) (s : Spanned) → is_blank c ≡ true → Begins fixed (c ∷ cs) at s → ⊥
  blank_token c cs at s h b = let e = blank_starts c cs at h in let k = begins_starts (c ∷ cs) at s b in cc

  pub blank_fault : (c : ℕ) (cs : Chars) (at : ℕ) (f : LexFault) → is_blank c ≡ true → IsFault fixed (c ∷ cs) at f → ⊥
  blank_fault c cs at f h i = let e = blank_starts c cs at h in let k = fault_starts i in cc

  pub token_fault : (all : Chars) (at : ℕ) (s : Spanned) (f : LexFault) → Begins fixed all at s → IsFault fixed all at f
      → ⊥
  token_fault all at s f b i = let e = begins_starts all at s b in let k = fault_starts i in cc

  pub no_token_at_end : (at : ℕ) (s : Spanned) → Begins fixed [] at s → ⊥
  unfolding start
  no_token_at_end at s b = let k = begins_starts [] at s b in cc

  pub no_fault_at_end : (at : ℕ) (f : LexFault) → IsFault fixed [] at f → ⊥
  unfolding start
  no_fault_at_end at f i = let k = fault_starts i in cc

  pub same_start : (all : Chars) (at : ℕ) (s t : Spanned) (b : Begins fixed all at s) (d : Begins fixed all at t)
      → (s ≡ t) × (b.rest ≡ d.rest)
  same_start all at s t b d =
      let e : a_token s b.rest ≡ a_token t d.rest = sym (begins_starts all at s b) ∙ begins_starts all at t d in
      ((cc), (cc))

  pub only_tokens : (cs : Chars) (at : ℕ) (ts us : List Spanned) → HasTokens fixed cs at ts
      → HasTokens fixed cs at us → ts ≡ us
  only_tokens _ _ _ _ (spec.nothing at) (spec.nothing _) = refl
  only_tokens _ _ _ _ (spec.nothing at) (spec.next _ _ s us b k) = absurd (no_token_at_end at s b)
  only_tokens _ _ _ _ (spec.blank c cs at ts h k) (spec.blank _ _ _ us i l) = only_tokens cs (at + 1) ts us k l
  only_tokens _ _ _ _ (spec.blank c cs at ts h k) (spec.next _ _ s us b l) = absurd (blank_token c cs at s h b)
  only_tokens _ _ _ _ (spec.next _ at s ts b k) (spec.nothing _) = absurd (no_token_at_end at s b)
  only_tokens _ _ _ _ (spec.next _ at s ts b k) (spec.blank c cs _ us h l) = absurd (blank_token c cs at s h b)
  only_tokens _ _ _ _ (spec.next all at s ts b k) (spec.next _ _ t us d l) =
      let e = same_start all at s t b d in
      let tail : ts ≡ us = only_tokens b.rest s.end ts us k
      (subst (λ n. HasTokens fixed b.rest n us) (ap (λ (r : Spanned). r.end) (sym e.0)) (subst (λ r. HasTokens fixed r t.end us) (sym e.1) l)) in
      λ i. e.0 i ∷ tail i

  pub no_fault_with_tokens : (cs : Chars) (at : ℕ) (ts : List Spanned) (f : LexFault) → HasTokens fixed cs at ts
      → HasFault fixed cs at f → ⊥
  no_fault_with_tokens _ _ _ _ (spec.nothing at) (broken.here _ _ f i) = no_fault_at_end at f i
  no_fault_with_tokens _ _ _ _ (spec.nothing at) (broken.later _ _ s f b k) = no_token_at_end at s b
  no_fault_with_tokens _ _ _ _ (spec.blank c cs at ts h k) (broken.here _ _ f i) = blank_fault c cs at f h i
  no_fault_with_tokens _ _ _ _ (spec.blank c cs at ts h k) (broken.blank _ _ _ f i l) =
      no_fault_with_tokens cs (at + 1) ts f k l
  no_fault_with_tokens _ _ _ _ (spec.blank c cs at ts h k) (broken.later _ _ s f b l) = blank_token c cs at s h b
  no_fault_with_tokens _ _ _ _ (spec.next all at s ts b k) (broken.here _ _ f i) = token_fault all at s f b i
  no_fault_with_tokens _ _ _ _ (spec.next _ at s ts b k) (broken.blank c cs _ f h l) = blank_token c cs at s h b
  no_fault_with_tokens _ _ _ _ (spec.next all at s ts b k) (broken.later _ _ t f d l) =
      let e = same_start all at s t b d in
      no_fault_with_tokens b.rest s.end ts f k
      (subst (λ n. HasFault fixed b.rest n f) (ap (λ (r : Spanned). r.end) (sym e.0)) (subst (λ r. HasFault fixed r t.end f) (sym e.1) l))

  pub only_fault : (cs : Chars) (at : ℕ) (f g : LexFault) → HasFault fixed cs at f → HasFault fixed cs at g → f ≡ g
  only_fault _ _ _ _ (broken.here all at f i) (broken.here _ _ g j) =
      let e : a_fault f ≡ a_fault g = sym (fault_starts i) ∙ fault_starts j in cc
  only_fault _ _ _ _ (broken.here _ at f i) (broken.blank c cs _ g h l) = absurd (blank_fault c cs at f h i)
  only_fault _ _ _ _ (broken.here all at f i) (broken.later _ _ s g b l) = absurd (token_fault all at s f b i)
  only_fault _ _ _ _ (broken.blank c cs at f h k) (broken.here _ _ g j) = absurd (blank_fault c cs at g h j)
  only_fault _ _ _ _ (broken.blank c cs at f h k) (broken.blank _ _ _ g j l) = only_fault cs (at + 1) f g k l
  only_fault _ _ _ _ (broken.blank c cs at f h k) (broken.later _ _ s g b l) = absurd (blank_token c cs at s h b)
  only_fault _ _ _ _ (broken.later all at s f b k) (broken.here _ _ g j) = absurd (token_fault all at s g b j)
  only_fault _ _ _ _ (broken.later _ at s f b k) (broken.blank c cs _ g h l) = absurd (blank_token c cs at s h b)
  only_fault _ _ _ _ (broken.later all at s f b k) (broken.later _ _ t g d l) =
      let e = same_start all at s t b d in
      only_fault b.rest s.end f g k
      (subst (λ n. HasFault fixed b.rest n g) (ap (λ (r : Spanned). r.end) (sym e.0)) (subst (λ r. HasFault fixed r t.end g) (sym e.1) l))

  -- what a call may answer that gives tokens or a fault

  pub fault_with_tokens : (cs : Chars) (at : ℕ) (ts : List Spanned) (f : LexFault) → HasTokens fixed cs at ts
      → broken.OrMemory (HasFault fixed cs at) f → f ≡ faults.Memory
  fault_with_tokens cs at ts f t (inl e) = e
  fault_with_tokens cs at ts f t (inr h) = absurd (no_fault_with_tokens cs at ts f t h)

  pub fault_with_fault : (cs : Chars) (at : ℕ) (f g : LexFault) → HasFault fixed cs at g
      → broken.OrMemory (HasFault fixed cs at) f → broken.OrMemory (λ h. h ≡ g) f
  fault_with_fault cs at f g k (inl e) = inl e
  fault_with_fault cs at f g k (inr h) = inr (only_fault cs at f g h k)
