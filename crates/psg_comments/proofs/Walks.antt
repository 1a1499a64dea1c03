-- The comments of a text by the first fault of its lexis.
use Rattle.std.proofs.Common.{◌≡◌, ℕ, ◌+◌, true, false, List, [], ◌∷◌, ◌++◌, length, sym, ap, ◌∙◌, subst, refl, append_assoc, arith, length-append}
use Rattle.std.specs.Prelude.{chars, encode_utf8_all}
use Rattle.std.proofs.lemmas.Bool.{false≢true, true≢false}
use Rattle.std.proofs.lemmas.Str.{encodes-append, encode_ascii}
use Rattle.psg_terms.specs.Names.{Name}
use Rattle.psg_lexis.specs.Classes.{Chars, is_blank}
use Rattle.psg_lexis.specs.Tokens as spec
use Rattle.psg_lexis.specs.Tokens.{bytes_of, quoted, HasTokens}
use Rattle.psg_lexis.specs.Faults as broken
use Rattle.psg_lexis.specs.Faults.{IsFault, HasFault}
use Rattle.psg_lexis.specs.declared.token.Spanned.{Spanned}
use Rattle.psg_lexis.specs.declared.token.LexFault.{LexFault}
use Rattle.psg_lexis.specs.declared.token.LexFault.TheVariants as faults
use Rattle.psg_lexis.proofs.Walk.{blank-small}
use Rattle.psg_comments.specs.Fitting.{begins_with, IsFit}
use Rattle.psg_comments.specs.Finding.{HasComments, nothing, blank, token_there, no_token}
use Rattle.psg_comments.specs.declared.finding.Comment.{Comment}
use Rattle.psg_comments.proofs.Fronts.{untrue, begins_head}
use Rattle.psg_comments.proofs.Meetings.{no_comment_at_token, fault_is_there}

pub bytes-append : (xs ys : Chars) → bytes_of (xs ++ ys) ≡ bytes_of xs + bytes_of ys
bytes-append xs ys = ap length (encodes-append xs ys) ∙ length-append (encode_utf8_all xs) (encode_utf8_all ys)

bytes-blank : (c : ℕ) (cs : Chars) → is_blank c ≡ true → bytes_of (c ∷ cs) ≡ 1 + bytes_of cs
bytes-blank c cs h =
    ap (λ bs. length (bs ++ encode_utf8_all cs)) (encode_ascii c (blank-small c h))
    ∙ length-append (c ∷ []) (encode_utf8_all cs)

module _ (fixed : List Name) (token : List ℕ) (fit : IsFit fixed token) where
  abbrev ts : Chars
  ts = chars token

  -- ---- a text with tokens alone

  pub none_in_tokens : (cs : Chars) (at : ℕ) (found : List Spanned) → HasTokens fixed cs at found → (base : ℕ)
      → HasComments fixed ts cs base []
  none_in_tokens _ _ _ (spec.nothing at) base = nothing base
  none_in_tokens _ _ _ (spec.blank c cs at found h k) base =
      blank c cs base [] h (none_in_tokens cs (at + 1) found k (base + 1))
  none_in_tokens _ _ _ (spec.next all at s found b k) base =
      token_there all b.front b.rest base s.token []
      (subst (λ cs. begins_with cs ts ≡ false) (sym b.whole) (no_comment_at_token fixed token fit b.front b.rest s.token b.token))
      b.whole b.token (none_in_tokens b.rest s.end found k (base + bytes_of b.front))

  -- ---- a fault at which no comment begins

  -- no comment begins where the fault is one of a run
  abbrev NoneAt : Chars → ℕ → LexFault → Type 0
  NoneAt cs at f = (front back : Chars) → cs ≡ front ++ back → f ≡ faults.BadRun (at + bytes_of front)
      → begins_with back ts ≡ false

  pub none_before_fault : (cs : Chars) (at : ℕ) (f : LexFault) → HasFault fixed cs at f → NoneAt cs at f → (base : ℕ)
      → HasComments fixed ts cs base []
  none_before_fault _ _ _ (broken.here all at f i) none base =
      no_token all base at f (untrue _ (λ h.
      true≢false (sym h ∙ none [] all refl (fault_is_there fixed token fit all at f h i ∙ ap faults.BadRun (plus_none at))))) i
    where
      plus_none : (n : ℕ) → n ≡ n + 0
      plus_none n = omega arith
  none_before_fault _ _ _ (broken.blank c cs at f h k) none base =
      blank c cs base [] h (none_before_fault cs (at + 1) f k
      (λ front back e g. none (c ∷ front) back (ap (λ xs. c ∷ xs) e) (g ∙ ap faults.BadRun (one at (bytes_of front) (bytes_of (c ∷ front)) (bytes-blank c front h)))) (base + 1))
    where
      one : (n m k : ℕ) → k ≡ 1 + m → n + 1 + m ≡ n + k
      one n m k e = omega (arith, e)
  none_before_fault _ _ _ (broken.later all at s f b k) none base =
      token_there all b.front b.rest base s.token []
      (subst (λ cs. begins_with cs ts ≡ false) (sym b.whole) (no_comment_at_token fixed token fit b.front b.rest s.token b.token))
      b.whole b.token
      (none_before_fault b.rest s.end f k
      (λ front back e g. none (b.front ++ front) back (b.whole ∙ ap (λ xs. b.front ++ xs) e ∙ sym (append_assoc b.front front back))
      (g ∙ ap faults.BadRun (more at (bytes_of b.front) (bytes_of front) s.end (bytes_of (b.front ++ front)) b.ends (bytes-append b.front front)))) (base + bytes_of b.front))
    where
      more : (n m l e w : ℕ) → e ≡ n + m → w ≡ m + l → e + l ≡ n + w
      more n m l e w p q = omega (arith, p, q)

  -- ---- a fault at which a comment may begin

  -- the fault is at this place among the characters, and if a comment begins there, the comments are those from there on
  pub record IsPlace (cs : Chars) (at q : ℕ) : Type 0 where
    pub front : Chars
    pub back : Chars
    pub split : cs ≡ front ++ back
    pub place : q ≡ at + bytes_of front
    pub goes : begins_with back ts ≡ true → (base : ℕ) (found : List Comment)
        → HasComments fixed ts back (base + bytes_of front) found → HasComments fixed ts cs base found

  place_here : (cs : Chars) (at q : ℕ) → q ≡ at → IsPlace cs at q
  place_here cs at q e = record {
    front = [];
    back = cs;
    split = refl;
    place = e ∙ plus at;
    goes = λ h base found k. subst (λ n. HasComments fixed ts cs n found) (sym (plus base)) k;
  }
    where
      plus : (n : ℕ) → n ≡ n + 0
      plus n = omega arith

  same_run : (p q : ℕ) → faults.BadRun p ≡ faults.BadRun q → q ≡ p
  same_run p q e = cc

  place_of_fault : (cs : Chars) (at q : ℕ) (f : LexFault) → IsFault fixed cs at f → f ≡ faults.BadRun q → IsPlace cs at q
  place_of_fault _ at q _ (broken.no_token c cs _ b) e = absurd (cc)
  place_of_fault _ at q _ (broken.no_hole cs _ b) e = absurd (cc)
  place_of_fault _ at q _ (broken.no_width before all c cs _ w i n) e = absurd (cc)
  place_of_fault _ at q _ (broken.no_escape before all cs _ w i n) e = record {
    front = 34 ∷ quoted before;
    back = 92 ∷ cs;
    split = ap (λ xs. 34 ∷ xs) w;
    place = same_run (at + bytes_of (34 ∷ quoted before)) q e;
    goes = λ h. absurd (false≢true (begins_head (92 ∷ cs) ts fit.begins h));
  }
  place_of_fault _ at q _ (broken.no_symbol cs all rest _ w l a d) e = place_here all at q (same_run at q e)
  place_of_fault _ at q _ (broken.no_number cs all rest _ w l b) e = place_here all at q (same_run at q e)
  place_of_fault _ at q _ (broken.unended cs _ c) e = absurd (cc)
  place_of_fault _ at q _ (broken.large_word cs all rest _ w i n l) e = absurd (cc)
  place_of_fault _ at q _ (broken.large_hole cs all rest _ w i n l) e = absurd (cc)
  place_of_fault _ at q _ (broken.large_number cs all rest _ w l n m) e = absurd (cc)
  place_of_fault _ at q _ (broken.large_text before all rest _ w a l) e = absurd (cc)

  pub place_of : (cs : Chars) (at q : ℕ) (f : LexFault) → HasFault fixed cs at f → f ≡ faults.BadRun q → IsPlace cs at q
  place_of _ _ q _ (broken.here all at f i) e = place_of_fault all at q f i e
  place_of _ _ q _ (broken.blank c cs at f h k) e =
      let p = place_of cs (at + 1) q f k e in
      let size : bytes_of (c ∷ p.front) ≡ 1 + bytes_of p.front = bytes-blank c p.front h in
      record {
        front = c ∷ p.front;
        back = p.back;
        split = ap (λ xs. c ∷ xs) p.split;
        place = omega (arith, p.place, size);
        goes = λ b base found k. blank c cs base found h (p.goes b (base + 1) found
            (subst (λ n. HasComments fixed ts p.back n found) (omega (arith, size)) k));
      }
  place_of _ _ q _ (broken.later all at s f b k) e =
      let p = place_of b.rest s.end q f k e in
      let size : bytes_of (b.front ++ p.front) ≡ bytes_of b.front + bytes_of p.front = bytes-append b.front p.front in
      record {
        front = b.front ++ p.front;
        back = p.back;
        split = b.whole ∙ ap (λ xs. b.front ++ xs) p.split ∙ sym (append_assoc b.front p.front p.back);
        place = omega (arith, p.place, b.ends, size);
        goes = λ h base found k. token_there all b.front b.rest base s.token found
            (subst (λ cs. begins_with cs ts ≡ false) (sym b.whole) (no_comment_at_token fixed token fit b.front b.rest s.token b.token))
            b.whole b.token
            (p.goes h (base + bytes_of b.front) found (subst (λ n. HasComments fixed ts p.back n found) (omega (arith, size)) k));
      }
