-- A text cut between its characters, and the end of a line.
use Rattle.std.proofs.Common.{◌≡◌, inl, inr, ℕ, ◌+◌, ◌<◌, ◌≤◌, Bool, true, false, List, [], ◌∷◌, ◌++◌, length, drop, sym, ap, ◌∙◌, subst, refl, append_assoc, append-nil, arith, length-append}
use Rattle.std.specs.Prelude.{None, cond, chars, encode_utf8_all, ◌==◌, ◌&&◌, ◌||◌}
use Rattle.std.specs.Str.{IsUtf8, IsCharBoundary, all_scalars}
use Rattle.std.proofs.Math.Seq.{drop-append_seam}
use Rattle.std.proofs.lemmas.Bool.{and_parts, eqb-true, false≢true}
use Rattle.std.proofs.lemmas.Str.{encodes-append, encodes-chars, scalars-chars, chars-encodes, IsCharBoundary-at_seam, length-le-encodes}
use lib.Utf8.{scalar}
use Rattle.psg_terms.specs.Names.{Name}
use Rattle.psg_lexis.specs.Classes.{Chars, is_symbol, BeginsBy}
use Rattle.psg_lexis.specs.Tokens.{bytes_of}
use Rattle.psg_lexis.specs.Faults.{HasFault, OrMemory}
use Rattle.psg_lexis.specs.declared.token.LexFault.{LexFault}
use Rattle.psg_lexis.specs.declared.token.LexFault.TheVariants as faults
use Rattle.psg_comments.specs.Fitting.{begins_with, IsFit}
use Rattle.psg_comments.specs.Finding.{is_end, line_of, after_line, HasComments, comment}
use Rattle.psg_comments.specs.Steps.{IsFirst, IsFirstOrNone}
use Rattle.psg_comments.specs.declared.finding.Comment.{Comment}
use Rattle.psg_comments.proofs.Fronts.{untrue, begins_head}
use Rattle.psg_comments.proofs.Walks.{bytes-append, IsPlace, place_of, none_before_fault}

scalars_behind : (xs ys : Chars) → all_scalars (xs ++ ys) ≡ true → all_scalars ys ≡ true
scalars_behind [] ys h = h
scalars_behind (x ∷ xs) ys h = scalars_behind xs ys (and_parts (scalar x) (all_scalars (xs ++ ys)) h).1

-- a text whose characters are some and then others
pub record IsCut (text : List ℕ) (front back : Chars) : Type 0 where
  pub boundary : IsCharBoundary text (bytes_of front)
  pub within : bytes_of front ≤ length text
  pub rest : chars (drop (bytes_of front) text) ≡ back
  pub utf8 : IsUtf8 (drop (bytes_of front) text)

pub cut_at : (text : List ℕ) (front back : Chars) → IsUtf8 text → chars text ≡ front ++ back → IsCut text front back
cut_at text front back u e =
    let whole : text ≡ encode_utf8_all front ++ encode_utf8_all back = sym (encodes-chars text u) ∙ ap encode_utf8_all e ∙ encodes-append front back in
    let ok : all_scalars back ≡ true = scalars_behind front back (ap all_scalars (sym e) ∙ scalars-chars text u) in
    let left : drop (bytes_of front) text ≡ encode_utf8_all back = ap (drop (bytes_of front)) whole ∙ drop-append_seam (encode_utf8_all front) (encode_utf8_all back) in
    record {
      boundary = IsCharBoundary-at_seam text (encode_utf8_all front) (encode_utf8_all back) whole (back, (ok, refl));
      within = omega (arith, ap length whole, length-append (encode_utf8_all front) (encode_utf8_all back));
      rest = ap chars left ∙ chars-encodes back ok;
      utf8 = subst IsUtf8 (sym left) (back, (ok, refl));
    }

-- ---- lines

pub line_whole : (cs : Chars) → cs ≡ line_of cs ++ after_line cs
line_whole [] = refl
line_whole (c ∷ cs) = by (is_end (c ∷ cs)) (line_whole cs)
  where
    by : (b : Bool) → cs ≡ line_of cs ++ after_line cs
        → c ∷ cs ≡ cond b [] (c ∷ line_of cs) ++ cond b (c ∷ cs) (after_line cs)
    by true e = refl
    by false e = ap (λ xs. c ∷ xs) e

pub line_here : (c : ℕ) (cs : Chars) → is_end (c ∷ cs) ≡ true → line_of (c ∷ cs) ≡ []
line_here c cs e = rw e refl

pub line_on : (c : ℕ) (cs : Chars) → is_end (c ∷ cs) ≡ false → line_of (c ∷ cs) ≡ c ∷ line_of cs
line_on c cs e = rw e refl

no_end : (c : ℕ) (cs : Chars) → is_symbol c ≡ true → is_end (c ∷ cs) ≡ false
no_end c cs h = by cs
  where
    ten : (c == 10) ≡ false
    ten = untrue _ (λ e. false≢true (sym (ap is_symbol (eqb-true c 10 e)) ∙ h))

    thirteen : (c == 13) ≡ false
    thirteen = untrue _ (λ e. false≢true (sym (ap is_symbol (eqb-true c 13 e)) ∙ h))

    by : (ds : Chars) → is_end (c ∷ ds) ≡ false
    by [] = ten
    by (d ∷ ds) = ap (λ b. b || ((c == 13) && (d == 10))) ten ∙ ap (λ b. b && (d == 10)) thirteen

-- a line that begins with a symbol has a byte
symbol_line : (cs : Chars) → BeginsBy is_symbol cs → 0 < bytes_of (line_of cs)
symbol_line [] b = absurd (false≢true b)
symbol_line (c ∷ cs) b =
    let no : is_end (c ∷ cs) ≡ false = no_end c cs b in
    omega (arith, ap (λ xs. bytes_of xs) (line_on c cs no), length-le-encodes (c ∷ line_of cs))

-- ---- the walk from comment to comment

-- the comments found before the rest, which begins at the byte `at`, go on with those of the rest
pub record HasWalked (fixed : List Name) (token text : List ℕ) (found : List Comment) (at : ℕ) (rest : List ℕ) : Type 0 where
  pub goes : (more : List Comment) → HasComments fixed (chars token) (chars rest) at more
      → HasComments fixed (chars token) (chars text) 0 (found ++ more)

pub not_walked : (fixed : List Name) (token text : List ℕ) → HasWalked fixed token text [] 0 text
not_walked fixed token text = record { goes = λ more h. h }

pub walk_comment : (fixed : List Name) (token text : List ℕ) (found : List Comment) (at : ℕ) (rest left : List ℕ) (c : Comment)
    → HasWalked fixed token text found at rest → IsFirst fixed (chars token) rest c → left ≡ drop c.end rest
    → HasWalked fixed token text (found ++ record { start = at + c.start; end = at + c.end } ∷ []) (at + c.end) left
walk_comment fixed token text found at rest left c w f e = record {
  goes = λ more h. subst (HasComments fixed (chars token) (chars text) 0)
      (sym (append_assoc found (record { start = at + c.start; end = at + c.end } ∷ []) more))
      (w.goes (record { start = at + c.start; end = at + c.end } ∷ more)
      (f.goes at more (subst (λ bs. HasComments fixed (chars token) (chars bs) (at + c.end) more) e h)));
}

pub all_walked : (fixed : List Name) (token text : List ℕ) (found : List Comment) (at : ℕ) (rest : List ℕ)
    → HasWalked fixed token text found at rest → ((n : ℕ) → HasComments fixed (chars token) (chars rest) n [])
    → HasComments fixed (chars token) (chars text) 0 found
all_walked fixed token text found at rest w none =
    subst (HasComments fixed (chars token) (chars text) 0) (append-nil found) (w.goes [] (none at))

-- ---- the first comment, at the place of a fault

same_run : (p q : ℕ) → faults.BadRun p ≡ faults.BadRun q → p ≡ q
same_run p q e = cc

pub fault_is : (fixed : List Name) (cs : Chars) (f : LexFault) (q : ℕ) → OrMemory (HasFault fixed cs 0) f
    → f ≡ faults.BadRun q → HasFault fixed cs 0 (faults.BadRun q)
fault_is fixed cs f q (inl m) e = absurd (cc)
fault_is fixed cs f q (inr h) e = subst (HasFault fixed cs 0) e h

-- a fault that is not one of a run
pub none_with_fault : (fixed : List Name) (token : List ℕ) → IsFit fixed token → (text : List ℕ) (f : LexFault)
    → OrMemory (HasFault fixed (chars text) 0) f → (f ≡ faults.Memory → ⊥) → ((q : ℕ) → f ≡ faults.BadRun q → ⊥)
    → IsFirstOrNone fixed (chars token) text None
none_with_fault fixed token fit text f (inl m) never other at = absurd (never m)
none_with_fault fixed token fit text f (inr h) never other at =
    none_before_fault fixed token fit (chars text) 0 f h (λ front back e g. absurd (other (0 + bytes_of front) g)) at

module _ (fixed : List Name) (token : List ℕ) (fit : IsFit fixed token) (text : List ℕ) (u : IsUtf8 text) (q : ℕ)
    (h : HasFault fixed (chars text) 0 (faults.BadRun q)) where
  place : IsPlace fixed token fit (chars text) 0 q
  place = place_of fixed token fit (chars text) 0 q (faults.BadRun q) h refl

  size : bytes_of place.front ≡ q
  size = omega (arith, place.place)

  cut : IsCut text place.front place.back
  cut = cut_at text place.front place.back u place.split

  pub fault_boundary : IsCharBoundary text q
  fault_boundary = subst (IsCharBoundary text) size cut.boundary

  tail_chars : (tail : List ℕ) → tail ≡ drop q text → chars tail ≡ place.back
  tail_chars tail e = ap chars (e ∙ ap (λ n. drop n text) (sym size)) ∙ cut.rest

  -- no comment begins there
  pub none_there : (tail : List ℕ) → tail ≡ drop q text → begins_with (chars tail) (chars token) ≡ false
      → IsFirstOrNone fixed (chars token) text None
  none_there tail e b at = none_before_fault fixed token fit (chars text) 0 (faults.BadRun q) h same at
    where
      same : (front back : Chars) → chars text ≡ front ++ back → faults.BadRun q ≡ faults.BadRun (0 + bytes_of front)
          → begins_with back (chars token) ≡ false
      same front back s g =
          let other = cut_at text front back u s in
          let zero : 0 + bytes_of front ≡ bytes_of front = omega arith in
          let n : bytes_of front ≡ q = sym (same_run q (0 + bytes_of front) g ∙ zero) in
          subst (λ cs. begins_with cs (chars token) ≡ false)
          (ap chars (e ∙ ap (λ n. drop n text) (sym n)) ∙ other.rest) b

  -- a comment begins there
  pub first_there : (tail : List ℕ) (n : ℕ) → tail ≡ drop q text → begins_with (chars tail) (chars token) ≡ true
      → n ≡ bytes_of (line_of (chars tail)) → IsFirst fixed (chars token) text (record { start = q; end = q + n })
  first_there tail n e b k =
      let back = place.back in
      let same : chars tail ≡ back = tail_chars tail e in
      let begun : begins_with back (chars token) ≡ true = subst (λ cs. begins_with cs (chars token) ≡ true) same b in
      let len : n ≡ bytes_of (line_of back) = k ∙ ap (λ cs. bytes_of (line_of cs)) same in
      let split : chars text ≡ (place.front ++ line_of back) ++ after_line back = place.split
      ∙ ap (λ xs. place.front ++ xs) (line_whole back) ∙ sym (append_assoc place.front (line_of back) (after_line back)) in
      let far = cut_at text (place.front ++ line_of back) (after_line back) u split in
      let sum : bytes_of (place.front ++ line_of back) ≡ q + n = omega (arith, bytes-append place.front (line_of back), size, len) in
      let rest : chars (drop (q + n) text) ≡ after_line back = ap (λ m. chars (drop m text)) (sym sum) ∙ far.rest in
      record {
        some = omega (arith, len, line_some back begun);
        within = omega (arith, sum, far.within);
        boundary = subst (IsCharBoundary text) sum far.boundary;
        utf8 = subst (λ m. IsUtf8 (drop m text)) sum far.utf8;
        goes = λ at more g. subst (λ (d : Comment). HasComments fixed (chars token) (chars text) at (d ∷ more))
            (λ i. record { start = at_start at i; end = at_end at n len i })
            (place.goes begun at (record { start = at + bytes_of place.front; end = at + bytes_of place.front + bytes_of (line_of back) } ∷ more)
            (comment back (at + bytes_of place.front) more begun
            (subst (λ m. HasComments fixed (chars token) (after_line back) m more) (sym (at_end at n len))
            (subst (λ cs. HasComments fixed (chars token) cs (at + (q + n)) more) rest g))));
      }
    where
      at_start : (at : ℕ) → at + bytes_of place.front ≡ at + q
      at_start at = ap (λ m. at + m) size

      at_end : (at n : ℕ) → n ≡ bytes_of (line_of place.back) → at + bytes_of place.front + bytes_of (line_of place.back) ≡ at + (q + n)
      at_end at n len = omega (arith, size, len)

      line_some : (back : Chars) → begins_with back (chars token) ≡ true → 0 < bytes_of (line_of back)
      line_some back b = symbol_line back (begins_head back (chars token) fit.begins b)
