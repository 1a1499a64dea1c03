-- A text that is made of blanks, tokens and comments has these tokens and these comments.
use Rattle.std.proofs.Common.{◌≡◌, ◌⊎◌, inl, inr, ℕ, zero, suc, ◌+◌, ◌-◌, ◌<◌, ◌≤◌, ◌==◌, Bool, true, false, cond, List, [], ◌∷◌, ◌++◌, length, take, drop, get_or, map, replicate, sym, ap, ◌∙◌, subst, refl, append_assoc, arith, length-append}
use Rattle.std.specs.Prelude.{chars, encode_utf8_all, count_by, nat_le, nat_lt, ◌&&◌, ◌||◌, IsTrue, IsUtf8}
use Rattle.std.specs.Str.{all_scalars}
use Rattle.std.proofs.Math.Seq.{drop-append_seam}
use Rattle.std.proofs.lemmas.Bool.{and_parts, eqb-true, false≢true, true≢false, cases_lt, lt-ltb, le-leb, le-ltb, lt-leb}
use Rattle.std.proofs.lemmas.List.{take_at, get_or_append_left, get_or-append-add, get_or-replicate, length-replicate}
use Rattle.std.proofs.lemmas.List.Sums.{sum_by-cons}
use Rattle.std.proofs.lemmas.Str.{encodes-append, encodes-chars, chars-encodes, scalars-chars, encode_ascii}
use lib.Utf8.{scalar}
use Rattle.psg_terms.specs.Names.{Name}
use Rattle.psg_lexis.specs.Classes.{Chars, is_blank}
use Rattle.psg_lexis.specs.Tokens as spec
use Rattle.psg_lexis.specs.Tokens.{bytes_of, IsToken, HasTokens}
use Rattle.psg_lexis.specs.declared.token.Token.{Token}
use Rattle.psg_lexis.specs.declared.token.Spanned.{Spanned}
use Rattle.psg_lexis.proofs.Walk.{blank-small}
use Rattle.psg_comments.specs.Fitting.{begins_with, IsFit}
use Rattle.psg_comments.specs.Blanking.{is_inside, AreSpaces, IsBlanked}
use Rattle.psg_comments.specs.Finding.{line_of, after_line, HasComments, nothing, blank, comment, token_there}
use Rattle.psg_comments.specs.declared.finding.Comment.{Comment}
use Rattle.psg_comments.proofs.Meetings.{no_comment_at_token}
use Rattle.psg_commented.specs.Noting.{has_feed, counts, is_counted, ended_by, bytes_between, trimmed, notes_of}
use Rattle.psg_commented.specs.Keeping.{token_of, place_of, words_of, Keeps}
use Rattle.psg_commented.specs.declared.noting.Note.{Note}
use Rattle.psg_comment_laws.proofs.Once.{from_to}

pub data Piece : Type 0 where
  a_blank : ℕ → Piece
  a_token : Chars → Token → Piece
  a_comment : List ℕ → Piece

-- ---- what a text has

abbrev pub chars_in : List Piece → Chars
chars_in [] = []
chars_in (a_blank c ∷ ps) = c ∷ chars_in ps
chars_in (a_token cs t ∷ ps) = cs ++ chars_in ps
chars_in (a_comment b ∷ ps) = chars b ++ chars_in ps

abbrev pub bytes_in : List Piece → List ℕ
bytes_in [] = []
bytes_in (a_blank c ∷ ps) = c ∷ bytes_in ps
bytes_in (a_token cs t ∷ ps) = encode_utf8_all cs ++ bytes_in ps
bytes_in (a_comment b ∷ ps) = b ++ bytes_in ps

-- the same with spaces for the comments
abbrev pub blank_chars : List Piece → Chars
blank_chars [] = []
blank_chars (a_blank c ∷ ps) = c ∷ blank_chars ps
blank_chars (a_token cs t ∷ ps) = cs ++ blank_chars ps
blank_chars (a_comment b ∷ ps) = replicate (length b) 32 ++ blank_chars ps

abbrev pub blank_bytes : List Piece → List ℕ
blank_bytes [] = []
blank_bytes (a_blank c ∷ ps) = c ∷ blank_bytes ps
blank_bytes (a_token cs t ∷ ps) = encode_utf8_all cs ++ blank_bytes ps
blank_bytes (a_comment b ∷ ps) = replicate (length b) 32 ++ blank_bytes ps

abbrev pub comments_in : ℕ → List Piece → List Comment
comments_in at [] = []
comments_in at (a_blank c ∷ ps) = comments_in (at + 1) ps
comments_in at (a_token cs t ∷ ps) = comments_in (at + bytes_of cs) ps
comments_in at (a_comment b ∷ ps) = from_to at (length b) ∷ comments_in (at + length b) ps

abbrev pub span : ℕ → Chars → Token → Spanned
span at cs t = record { token = t; start = at; end = at + bytes_of cs }

abbrev pub own_in : ℕ → List Piece → List Spanned
own_in at [] = []
own_in at (a_blank c ∷ ps) = own_in (at + 1) ps
own_in at (a_token cs t ∷ ps) = span at cs t ∷ own_in (at + bytes_of cs) ps
own_in at (a_comment b ∷ ps) = own_in (at + length b) ps

abbrev pub tokens_in : List Piece → List Token
tokens_in [] = []
tokens_in (a_blank c ∷ ps) = tokens_in ps
tokens_in (a_token cs t ∷ ps) = t ∷ tokens_in ps
tokens_in (a_comment b ∷ ps) = tokens_in ps

-- what the comments say, and how many tokens that are counted are before each
abbrev pub says_in : List Piece → List (List ℕ)
says_in [] = []
says_in (a_blank c ∷ ps) = says_in ps
says_in (a_token cs t ∷ ps) = says_in ps
says_in (a_comment b ∷ ps) = b ∷ says_in ps

abbrev pub places_in : ℕ → List Piece → List ℕ
places_in seen [] = []
places_in seen (a_blank c ∷ ps) = places_in seen ps
places_in seen (a_token cs t ∷ ps) = places_in (seen + cond (is_counted t) 1 0) ps
places_in seen (a_comment b ∷ ps) = seen ∷ places_in seen ps

-- ---- small facts

pub begins_more : (cs ds rest : Chars) → begins_with cs ds ≡ true → begins_with (cs ++ rest) ds ≡ true
begins_more [] [] [] h = refl
begins_more [] [] (c ∷ cs) h = refl
begins_more [] (d ∷ ds) rest h = absurd (false≢true h)
begins_more (c ∷ cs) [] rest h = refl
begins_more (c ∷ cs) (d ∷ ds) rest h =
    let p = and_parts (c == d) (begins_with cs ds) h in
    ap (λ b. b && begins_with (cs ++ rest) ds) p.0 ∙ begins_more cs ds rest p.1

or_either : (a b : Bool) → (a || b) ≡ true → (a ≡ true) ⊎ (b ≡ true)
or_either true b h = inl refl
or_either false b h = inr h

pub blank_scalar : (c : ℕ) → is_blank c ≡ true → scalar c ≡ true
blank_scalar c h = elim (or_either ((c == 32) || (c == 9) || (c == 10)) (c == 13) h) [
  | inr e ↦ ap scalar (eqb-true c 13 e)
  | inl g ↦ elim (or_either ((c == 32) || (c == 9)) (c == 10) g) [
    | inr e ↦ ap scalar (eqb-true c 10 e)
    | inl k ↦ elim (or_either (c == 32) (c == 9) k) [
      | inr e ↦ ap scalar (eqb-true c 9 e)
      | inl e ↦ ap scalar (eqb-true c 32 e)
    ]
  ]
]

pub scalars-append : (xs ys : Chars) → all_scalars xs ≡ true → all_scalars ys ≡ true → all_scalars (xs ++ ys) ≡ true
scalars-append [] ys h k = k
scalars-append (x ∷ xs) ys h k =
    let p = and_parts (scalar x) (all_scalars xs) h in
    ap (λ b. b && all_scalars (xs ++ ys)) p.0 ∙ scalars-append xs ys p.1 k

space_scalars : (n : ℕ) → all_scalars (replicate n 32) ≡ true
space_scalars zero = refl
space_scalars (suc n) = space_scalars n

space_bytes : (n : ℕ) → encode_utf8_all (replicate n 32) ≡ replicate n 32
space_bytes zero = refl
space_bytes (suc n) = ap (λ bs. bs ++ encode_utf8_all (replicate n 32)) (encode_ascii 32 (omega arith)) ∙ ap (λ bs. 32 ∷ bs) (space_bytes n)

-- ---- which pieces make a text

module _ (fixed : List Name) (token : List ℕ) where
  -- what a comment says that is followed by a line feed
  pub record IsSaid (b : List ℕ) : Type 0 where
    pub utf8 : IsUtf8 b
    pub begins : begins_with (chars b) (chars token) ≡ true
    pub some : 0 < length b
    pub line : (rest : Chars) → line_of (chars b ++ 10 ∷ rest) ≡ chars b
    pub after : (rest : Chars) → after_line (chars b ++ 10 ∷ rest) ≡ 10 ∷ rest
    pub no_blanks : trimmed b ≡ b
    pub no_feed : has_feed b ≡ false

  abbrev pub BeginsFeed : Chars → Type 0
  BeginsFeed cs = (rest : Chars) × (cs ≡ 10 ∷ rest)

  -- a token is one in the text, and in the text without comments
  pub record IsThere (cs rest own : Chars) (t : Token) : Type 0 where
    pub scalars : all_scalars cs ≡ true
    pub with_comments : IsToken fixed cs rest t
    pub without : IsToken fixed cs own t

  abbrev pub AreGood : List Piece → Type 0
  AreGood [] = Unit {0}
  AreGood (a_blank c ∷ ps) = IsTrue (is_blank c) × AreGood ps
  AreGood (a_token cs t ∷ ps) = IsThere cs (chars_in ps) (blank_chars ps) t × AreGood ps
  AreGood (a_comment b ∷ ps) = (IsSaid b × BeginsFeed (chars_in ps)) × AreGood ps

module _ (fixed : List Name) (token : List ℕ) (fit : IsFit fixed token) where
  abbrev ts : Chars
  ts = chars token

  pub has_comments : (ps : List Piece) → AreGood fixed token ps → (at : ℕ)
      → HasComments fixed ts (chars_in ps) at (comments_in at ps)
  has_comments [] g at = nothing at
  has_comments (a_blank c ∷ ps) g at =
      blank c (chars_in ps) at (comments_in (at + 1) ps) g.0 (has_comments ps g.1 (at + 1))
  has_comments (a_token cs t ∷ ps) g at =
      token_there (cs ++ chars_in ps) cs (chars_in ps) at t (comments_in (at + bytes_of cs) ps)
      (no_comment_at_token fixed token fit cs (chars_in ps) t g.0.with_comments) refl g.0.with_comments
      (has_comments ps g.1 (at + bytes_of cs))
  has_comments (a_comment b ∷ ps) g at =
      let said : IsSaid fixed token b = g.0.0 in
      let whole : Chars = chars b ++ chars_in ps in
      let more : List Comment = comments_in (at + length b) ps in
      let line : line_of whole ≡ chars b = ap (λ r. line_of (chars b ++ r)) g.0.1.1 ∙ said.line g.0.1.0 in
      let after : after_line whole ≡ chars_in ps = ap (λ r. after_line (chars b ++ r)) g.0.1.1 ∙ said.after g.0.1.0 ∙ sym g.0.1.1 in
      let n : bytes_of (line_of whole) ≡ length b = ap bytes_of line ∙ ap length (encodes-chars b said.utf8) in
      subst (λ m. HasComments fixed ts whole at (from_to at m ∷ more)) n
      (comment whole at more (begins_more (chars b) ts (chars_in ps) said.begins)
      (subst (λ cs. HasComments fixed ts cs (at + bytes_of (line_of whole)) more) (sym after)
      (subst (λ m. HasComments fixed ts (chars_in ps) (at + m) more) (sym n) (has_comments ps g.1 (at + length b)))))

module _ (fixed : List Name) where
  skip_spaces : (n : ℕ) (cs : Chars) (at : ℕ) (us : List Spanned) → HasTokens fixed cs (at + n) us
      → HasTokens fixed (replicate n 32 ++ cs) at us
  skip_spaces zero cs at us h = subst (λ m. HasTokens fixed cs m us) (plus at) h
    where
      plus : (m : ℕ) → m + 0 ≡ m
      plus m = omega arith
  skip_spaces (suc n) cs at us h =
      spec.blank 32 (replicate n 32 ++ cs) at us refl
      (skip_spaces n cs (at + 1) us (subst (λ m. HasTokens fixed cs m us) (plus at n) h))
    where
      plus : (m k : ℕ) → m + suc k ≡ m + 1 + k
      plus m k = omega arith

  pub has_tokens : (token : List ℕ) (ps : List Piece) → AreGood fixed token ps → (at : ℕ)
      → HasTokens fixed (blank_chars ps) at (own_in at ps)
  has_tokens token [] g at = spec.nothing at
  has_tokens token (a_blank c ∷ ps) g at =
      spec.blank c (blank_chars ps) at (own_in (at + 1) ps) g.0 (has_tokens token ps g.1 (at + 1))
  has_tokens token (a_token cs t ∷ ps) g at =
      spec.next (cs ++ blank_chars ps) at (span at cs t) (own_in (at + bytes_of cs) ps)
      (record { front = cs; rest = blank_chars ps; whole = refl; token = g.0.without; starts = refl; ends = refl })
      (has_tokens token ps g.1 (at + bytes_of cs))
  has_tokens token (a_comment b ∷ ps) g at =
      skip_spaces (length b) (blank_chars ps) at (own_in (at + length b) ps) (has_tokens token ps g.1 (at + length b))

  -- ---- their bytes

  pub record AreEncoded (cs : Chars) (bytes : List ℕ) : Type 0 where
    pub scalars : all_scalars cs ≡ true
    pub encoded : encode_utf8_all cs ≡ bytes

  encoded_first : (c : ℕ) (cs : Chars) (bytes : List ℕ) → is_blank c ≡ true → AreEncoded cs bytes
      → AreEncoded (c ∷ cs) (c ∷ bytes)
  encoded_first c cs bytes h e = record {
    scalars = ap (λ b. b && all_scalars cs) (blank_scalar c h) ∙ e.scalars;
    encoded = ap (λ bs. bs ++ encode_utf8_all cs) (encode_ascii c (blank-small c h)) ∙ ap (λ bs. c ∷ bs) e.encoded;
  }

  encoded_front : (front cs : Chars) (own bytes : List ℕ) → AreEncoded front own → AreEncoded cs bytes
      → AreEncoded (front ++ cs) (own ++ bytes)
  encoded_front front cs own bytes d e = record {
    scalars = scalars-append front cs d.scalars e.scalars;
    encoded = encodes-append front cs ∙ ap (λ bs. bs ++ encode_utf8_all cs) d.encoded ∙ ap (λ bs. own ++ bs) e.encoded;
  }

  pub are_encoded : (token : List ℕ) (ps : List Piece) → AreGood fixed token ps → AreEncoded (chars_in ps) (bytes_in ps)
  are_encoded token [] g = record { scalars = refl; encoded = refl }
  are_encoded token (a_blank c ∷ ps) g = encoded_first c (chars_in ps) (bytes_in ps) g.0 (are_encoded token ps g.1)
  are_encoded token (a_token cs t ∷ ps) g =
      encoded_front cs (chars_in ps) (encode_utf8_all cs) (bytes_in ps) (record { scalars = g.0.scalars; encoded = refl }) (are_encoded token ps g.1)
  are_encoded token (a_comment b ∷ ps) g =
      encoded_front (chars b) (chars_in ps) b (bytes_in ps)
      (record { scalars = scalars-chars b g.0.0.utf8; encoded = encodes-chars b g.0.0.utf8 }) (are_encoded token ps g.1)

  pub blank_encoded : (token : List ℕ) (ps : List Piece) → AreGood fixed token ps
      → AreEncoded (blank_chars ps) (blank_bytes ps)
  blank_encoded token [] g = record { scalars = refl; encoded = refl }
  blank_encoded token (a_blank c ∷ ps) g =
      encoded_first c (blank_chars ps) (blank_bytes ps) g.0 (blank_encoded token ps g.1)
  blank_encoded token (a_token cs t ∷ ps) g =
      encoded_front cs (blank_chars ps) (encode_utf8_all cs) (blank_bytes ps) (record { scalars = g.0.scalars; encoded = refl }) (blank_encoded token ps g.1)
  blank_encoded token (a_comment b ∷ ps) g =
      encoded_front (replicate (length b) 32) (blank_chars ps) (replicate (length b) 32) (blank_bytes ps)
      (record { scalars = space_scalars (length b); encoded = space_bytes (length b) }) (blank_encoded token ps g.1)

  pub utf8_of : (cs : Chars) (bytes : List ℕ) → AreEncoded cs bytes → IsUtf8 bytes
  utf8_of cs bytes e = (cs, (e.scalars, e.encoded))

  pub chars_of : (cs : Chars) (bytes : List ℕ) → AreEncoded cs bytes → chars bytes ≡ cs
  chars_of cs bytes e = ap chars (sym e.encoded) ∙ chars-encodes cs e.scalars

-- ---- spaces for comments

-- no comment of pieces that begin at a byte has a byte before it
none_before : (ps : List Piece) (at place : ℕ) → place < at → is_inside (comments_in at ps) place ≡ false
none_before [] at place l = refl
none_before (a_blank c ∷ ps) at place l = none_before ps (at + 1) place (omega (arith, l))
none_before (a_token cs t ∷ ps) at place l = none_before ps (at + bytes_of cs) place (omega (arith, l))
none_before (a_comment b ∷ ps) at place l =
    ap (λ q. (q && nat_lt place (at + length b)) || is_inside (comments_in (at + length b) ps) place) (lt-leb at place l)
    ∙ none_before ps (at + length b) place (omega (arith, l))

record AreFilled (at : ℕ) (comments : List Comment) (text bytes : List ℕ) : Type 0 where
  size : length bytes ≡ length text
  inside : (k : ℕ) → k < length text → is_inside comments (at + k) ≡ true → get_or bytes k 0 ≡ 32
  outside : (k : ℕ) → k < length text → is_inside comments (at + k) ≡ false → get_or bytes k 0 ≡ get_or text k 0

-- what is before the pieces and is no comment
filled_front : (front : List ℕ) (ps : List Piece) (at : ℕ)
    → AreFilled (at + length front) (comments_in (at + length front) ps) (bytes_in ps) (blank_bytes ps)
    → AreFilled at (comments_in (at + length front) ps) (front ++ bytes_in ps) (front ++ blank_bytes ps)
filled_front front ps at f =
    let sizes : length (front ++ blank_bytes ps) ≡ length (front ++ bytes_in ps) =
    length-append front (blank_bytes ps) ∙ ap (λ n. length front + n) f.size ∙ sym (length-append front (bytes_in ps)) in
    record { size = sizes; inside = inside; outside = outside }
  where
    later : (k : ℕ) → length front ≤ k → k < length (front ++ bytes_in ps) → k - length front < length (bytes_in ps)
    later k m l = omega (arith, m, l, length-append front (bytes_in ps))

    there : (k : ℕ) → length front ≤ k → at + k ≡ at + length front + (k - length front)
    there k m = omega (arith, m)

    at_rest : (k : ℕ) (rest : List ℕ) → length front ≤ k → get_or (front ++ rest) k 0 ≡ get_or rest (k - length front) 0
    at_rest k rest m = let e : k ≡ length front + (k - length front) = omega (arith, m) in
        ap (λ n. get_or (front ++ rest) n 0) e ∙ get_or-append-add front rest (k - length front) 0

    inside : (k : ℕ) → k < length (front ++ bytes_in ps) → is_inside (comments_in (at + length front) ps) (at + k) ≡ true
        → get_or (front ++ blank_bytes ps) k 0 ≡ 32
    inside k l h = elim (cases_lt k (length front)) [
      | inl m ↦ absurd (false≢true (sym (none_before ps (at + length front) (at + k) (omega (arith, m))) ∙ h))
      | inr m ↦ at_rest k (blank_bytes ps) m ∙ f.inside (k - length front) (later k m l)
          (ap (is_inside (comments_in (at + length front) ps)) (sym (there k m)) ∙ h)
    ]

    outside : (k : ℕ) → k < length (front ++ bytes_in ps) → is_inside (comments_in (at + length front) ps) (at + k) ≡ false
        → get_or (front ++ blank_bytes ps) k 0 ≡ get_or (front ++ bytes_in ps) k 0
    outside k l h = elim (cases_lt k (length front)) [
      | inl m ↦ get_or_append_left front (blank_bytes ps) 0 k m ∙ sym (get_or_append_left front (bytes_in ps) 0 k m)
      | inr m ↦ at_rest k (blank_bytes ps) m ∙ f.outside (k - length front) (later k m l)
          (ap (is_inside (comments_in (at + length front) ps)) (sym (there k m)) ∙ h)
          ∙ sym (at_rest k (bytes_in ps) m)
    ]

abbrev rest_in : ℕ → List ℕ → List Piece → List Comment
rest_in at b ps = comments_in (at + length b) ps

-- a comment before the pieces
filled_comment : (b : List ℕ) (ps : List Piece) (at : ℕ)
    → AreFilled (at + length b) (comments_in (at + length b) ps) (bytes_in ps) (blank_bytes ps)
    → AreFilled at (from_to at (length b) ∷ comments_in (at + length b) ps) (b ++ bytes_in ps) (replicate (length b) 32 ++ blank_bytes ps)
filled_comment b ps at f =
    let spaces : length (replicate (length b) 32) ≡ length b = length-replicate (length b) 32 in
    let sizes : length (replicate (length b) 32 ++ blank_bytes ps) ≡ length (b ++ bytes_in ps) =
    length-append (replicate (length b) 32) (blank_bytes ps) ∙ ap (λ n. n + length (blank_bytes ps)) spaces
    ∙ ap (λ n. length b + n) f.size ∙ sym (length-append b (bytes_in ps)) in
    record { size = sizes; inside = inside; outside = outside }
  where
    later : (k : ℕ) → length b ≤ k → k < length (b ++ bytes_in ps) → k - length b < length (bytes_in ps)
    later k m l = omega (arith, m, l, length-append b (bytes_in ps))

    there : (k : ℕ) → length b ≤ k → at + k ≡ at + length b + (k - length b)
    there k m = omega (arith, m)

    at_rest : (k : ℕ) (front rest : List ℕ) → length front ≡ length b → length b ≤ k
        → get_or (front ++ rest) k 0 ≡ get_or rest (k - length b) 0
    at_rest k front rest s m = let e : k ≡ length front + (k - length b) = omega (arith, m, s) in
        ap (λ n. get_or (front ++ rest) n 0) e ∙ get_or-append-add front rest (k - length b) 0

    -- a byte is one of the comment, or of the pieces
    own : (k : ℕ) → k < length b → is_inside (from_to at (length b) ∷ rest_in at b ps) (at + k) ≡ true
    own k m = ap (λ q. (q && nat_lt (at + k) (at + length b)) || is_inside (rest_in at b ps) (at + k)) (le-leb at (at + k) (omega arith))
        ∙ ap (λ q. q || is_inside (rest_in at b ps) (at + k)) (lt-ltb (at + k) (at + length b) (omega (arith, m)))

    and_false : (q : Bool) → (q && false) ≡ false
    and_false true = refl
    and_false false = refl

    other : (k : ℕ) → length b ≤ k → is_inside (from_to at (length b) ∷ rest_in at b ps) (at + k) ≡ is_inside (rest_in at b ps) (at + k)
    other k m = ap (λ q. (nat_le at (at + k) && q) || is_inside (rest_in at b ps) (at + k)) (le-ltb (at + k) (at + length b) (omega (arith, m)))
        ∙ ap (λ q. q || is_inside (rest_in at b ps) (at + k)) (and_false (nat_le at (at + k)))

    inside : (k : ℕ) → k < length (b ++ bytes_in ps) → is_inside (from_to at (length b) ∷ rest_in at b ps) (at + k) ≡ true
        → get_or (replicate (length b) 32 ++ blank_bytes ps) k 0 ≡ 32
    inside k l h = elim (cases_lt k (length b)) [
      | inl m ↦ get_or_append_left (replicate (length b) 32) (blank_bytes ps) 0 k (omega (arith, m, length-replicate {A = ℕ} (length b) 32))
          ∙ get_or-replicate (length b) k 32 0 m
      | inr m ↦ at_rest k (replicate (length b) 32) (blank_bytes ps) (length-replicate (length b) 32) m
          ∙ f.inside (k - length b) (later k m l) (ap (is_inside (rest_in at b ps)) (sym (there k m)) ∙ sym (other k m) ∙ h)
    ]

    outside : (k : ℕ) → k < length (b ++ bytes_in ps) → is_inside (from_to at (length b) ∷ rest_in at b ps) (at + k) ≡ false
        → get_or (replicate (length b) 32 ++ blank_bytes ps) k 0 ≡ get_or (b ++ bytes_in ps) k 0
    outside k l h = elim (cases_lt k (length b)) [
      | inl m ↦ absurd (true≢false (sym (own k m) ∙ h))
      | inr m ↦ at_rest k (replicate (length b) 32) (blank_bytes ps) (length-replicate (length b) 32) m
          ∙ f.outside (k - length b) (later k m l) (ap (is_inside (rest_in at b ps)) (sym (there k m)) ∙ sym (other k m) ∙ h)
          ∙ sym (at_rest k b (bytes_in ps) refl m)
    ]

are_filled : (ps : List Piece) (at : ℕ) → AreFilled at (comments_in at ps) (bytes_in ps) (blank_bytes ps)
are_filled [] at = record {
  size = refl;
  inside = λ k l h. absurd (omega (arith, l));
  outside = λ k l h. refl;
}
are_filled (a_blank c ∷ ps) at = filled_front (c ∷ []) ps at (are_filled ps (at + 1))
are_filled (a_token cs t ∷ ps) at = filled_front (encode_utf8_all cs) ps at (are_filled ps (at + bytes_of cs))
are_filled (a_comment b ∷ ps) at = filled_comment b ps at (are_filled ps (at + length b))

pub are_spaces : (ps : List Piece) → AreSpaces (bytes_in ps) (comments_in 0 ps) (blank_bytes ps)
are_spaces ps = let f = are_filled ps 0 in record {
  size = f.size;
  inside = λ place l h. f.inside place l (ap (is_inside (comments_in 0 ps)) (none place) ∙ h);
  outside = λ place l h. f.outside place l (ap (is_inside (comments_in 0 ps)) (none place) ∙ h);
}
  where
    none : (n : ℕ) → 0 + n ≡ n
    none n = omega arith

-- ---- the comments beside the tokens

pub between_seam : (front b rest : List ℕ) (at : ℕ) → at ≡ length front
    → bytes_between (front ++ (b ++ rest)) at (at + length b) ≡ b
between_seam front b rest at e =
    let n : (at + length b) - at ≡ length b = omega arith in
    ap (λ m. take m (drop at (front ++ (b ++ rest)))) n
    ∙ ap (λ m. take (length b) (drop m (front ++ (b ++ rest)))) e
    ∙ ap (take (length b)) (drop-append_seam front (b ++ rest))
    ∙ take_at b rest (length b) refl

pub are_said : (fixed : List Name) (token : List ℕ) (ps : List Piece) → AreGood fixed token ps → (front text : List ℕ) (at : ℕ) (own : List Spanned)
    → text ≡ front ++ bytes_in ps → at ≡ length front
    → map words_of (notes_of text own (comments_in at ps)) ≡ says_in ps
are_said fixed token [] g front text at own e n = refl
are_said fixed token (a_blank c ∷ ps) g front text at own e n =
    are_said fixed token ps g.1 (front ++ c ∷ []) text (at + 1) own
    (e ∙ sym (append_assoc front (c ∷ []) (bytes_in ps)))
    (omega (arith, n, length-append front (c ∷ [])))
are_said fixed token (a_token cs t ∷ ps) g front text at own e n =
    are_said fixed token ps g.1 (front ++ encode_utf8_all cs) text (at + bytes_of cs) own
    (e ∙ sym (append_assoc front (encode_utf8_all cs) (bytes_in ps)))
    (omega (arith, n, length-append front (encode_utf8_all cs)))
are_said fixed token (a_comment b ∷ ps) g front text at own e n =
    let first : trimmed (bytes_between text at (at + length b)) ≡ b =
    ap (λ bs. trimmed (bytes_between bs at (at + length b))) e ∙ ap trimmed (between_seam front b (bytes_in ps) at n) ∙ g.0.0.no_blanks in
    let rest : map words_of (notes_of text own (comments_in (at + length b) ps)) ≡ says_in ps =
    are_said fixed token ps g.1 (front ++ b) text (at + length b) own
    (e ∙ sym (append_assoc front b (bytes_in ps)))
    (omega (arith, n, length-append front b)) in
    λ i. first i ∷ rest i

-- how many tokens that are counted end before the place
abbrev pub seen_by : List Spanned → ℕ → ℕ
seen_by us place = count_by counts (take (ended_by us place) us)

pub none_ended : (ps : List Piece) (at place : ℕ) → place < at → ended_by (own_in at ps) place ≡ 0
none_ended [] at place l = refl
none_ended (a_blank c ∷ ps) at place l = none_ended ps (at + 1) place (omega (arith, l))
none_ended (a_token cs t ∷ ps) at place l =
    ap (λ q. cond q (1 + ended_by (own_in (at + bytes_of cs) ps) place) 0) (lt-leb (at + bytes_of cs) place (omega (arith, l)))
none_ended (a_comment b ∷ ps) at place l = none_ended ps (at + length b) place (omega (arith, l))

-- after a token that ends before the place
seen_more : (s : Spanned) (us : List Spanned) (place : ℕ) → s.end ≤ place
    → seen_by (s ∷ us) place ≡ cond (counts s) 1 0 + seen_by us place
seen_more s us place l =
    let n : ended_by (s ∷ us) place ≡ suc (ended_by us place) =
    ap (λ q. cond q (1 + ended_by us place) 0) (le-leb s.end place l) ∙ one (ended_by us place) in
    ap (λ m. count_by counts (take m (s ∷ us))) n
    ∙ sum_by-cons (λ t. cond (counts t) 1 0) s (take (ended_by us place) us)
  where
    one : (m : ℕ) → 1 + m ≡ suc m
    one m = omega arith

pub are_placed : (fixed : List Name) (token : List ℕ) (ps : List Piece) → AreGood fixed token ps → (text : List ℕ) (at seen : ℕ) (us : List Spanned)
    → ((place : ℕ) → at ≤ place → seen_by us place ≡ seen + seen_by (own_in at ps) place)
    → map place_of (notes_of text us (comments_in at ps)) ≡ places_in seen ps
are_placed fixed token [] g text at seen us h = refl
are_placed fixed token (a_blank c ∷ ps) g text at seen us h =
    are_placed fixed token ps g.1 text (at + 1) seen us (λ place l. h place (omega (arith, l)))
are_placed fixed token (a_token cs t ∷ ps) g text at seen us h =
    are_placed fixed token ps g.1 text (at + bytes_of cs) (seen + cond (is_counted t) 1 0) us (λ place l.
    let k : seen_by us place ≡ seen + seen_by (span at cs t ∷ own_in (at + bytes_of cs) ps) place = h place (omega (arith, l)) in
    let m : seen_by (span at cs t ∷ own_in (at + bytes_of cs) ps) place ≡ cond (is_counted t) 1 0 + seen_by (own_in (at + bytes_of cs) ps) place =
    seen_more (span at cs t) (own_in (at + bytes_of cs) ps) place l in
    omega (arith, k, m))
are_placed fixed token (a_comment b ∷ ps) g text at seen us h =
    let some = g.0.0.some in
    let none : ended_by (own_in (at + length b) ps) at ≡ 0 = none_ended ps (at + length b) at (omega (arith, some)) in
    let zero_seen : seen_by (own_in (at + length b) ps) at ≡ 0 = ap (λ m. count_by counts (take m (own_in (at + length b) ps))) none in
    let k : seen_by us at ≡ seen + seen_by (own_in (at + length b) ps) at = h at (omega arith) in
    let first : seen_by us at ≡ seen = omega (arith, k, zero_seen) in
    let rest : map place_of (notes_of text us (comments_in (at + length b) ps)) ≡ places_in seen ps =
    are_placed fixed token ps g.1 text (at + length b) seen us (λ place l. h place (omega (arith, l))) in
    λ i. first i ∷ rest i

own_tokens : (ps : List Piece) (at : ℕ) → map token_of (own_in at ps) ≡ tokens_in ps
own_tokens [] at = refl
own_tokens (a_blank c ∷ ps) at = own_tokens ps (at + 1)
own_tokens (a_token cs t ∷ ps) at = ap (λ us. t ∷ us) (own_tokens ps (at + bytes_of cs))
own_tokens (a_comment b ∷ ps) at = own_tokens ps (at + length b)

-- ---- a text of such pieces keeps its comments

pub own_seen : (ps : List Piece) (place : ℕ) → 0 ≤ place → seen_by (own_in 0 ps) place ≡ 0 + seen_by (own_in 0 ps) place
own_seen ps place l = omega arith

module _ (fixed : List Name) (token : List ℕ) (fit : IsFit fixed token) where
  pub pieces_blanked : (ps : List Piece) → AreGood fixed token ps
      → IsBlanked fixed token (bytes_in ps) (comments_in 0 ps) (blank_bytes ps)
  pieces_blanked ps g = record {
    found =
        subst (λ cs. HasComments fixed (chars token) cs 0 (comments_in 0 ps))
        (sym (chars_of fixed (chars_in ps) (bytes_in ps) (are_encoded fixed token ps g))) (has_comments fixed token fit ps g 0);
    spaces = are_spaces ps;
  }

  pub pieces_tokens : (ps : List Piece) → AreGood fixed token ps
      → HasTokens fixed (chars (blank_bytes ps)) 0 (own_in 0 ps)
  pieces_tokens ps g =
      subst (λ cs. HasTokens fixed cs 0 (own_in 0 ps))
      (sym (chars_of fixed (blank_chars ps) (blank_bytes ps) (blank_encoded fixed token ps g))) (has_tokens fixed token ps g 0)

  pub pieces_keep : (ps : List Piece) → AreGood fixed token ps → (shown : List Spanned) (notes : List Note)
      → tokens_in ps ≡ map token_of shown → places_in 0 ps ≡ map place_of notes → says_in ps ≡ map words_of notes
      → Keeps fixed token shown notes (bytes_in ps)
  pieces_keep ps g shown notes tokens places words = record {
    utf8 = utf8_of fixed (chars_in ps) (bytes_in ps) (are_encoded fixed token ps g);
    comments = comments_in 0 ps;
    blanked = blank_bytes ps;
    found = pieces_blanked ps g;
    by = record {
      utf8 = utf8_of fixed (blank_chars ps) (blank_bytes ps) (blank_encoded fixed token ps g);
      own = own_in 0 ps;
      are = pieces_tokens ps g;
      same = own_tokens ps 0 ∙ tokens;
      kept = record {
        places = are_placed fixed token ps g (bytes_in ps) 0 0 (own_in 0 ps) (own_seen ps) ∙ places;
        words = are_said fixed token ps g [] (bytes_in ps) 0 (own_in 0 ps) refl refl ∙ words;
      };
    };
  }
