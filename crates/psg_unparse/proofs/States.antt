-- What the text of a row depends on of the row before it.
use Rattle.std.proofs.Common.{◌≡◌, ℕ, ◌+◌, ◌*◌, Bool, true, false, cond, ◌||◌, ◌&&◌, not, List, [], ◌∷◌, ◌++◌, length, replicate, Option, Some, None, slice_get, refl, ap, ap₂, sym, subst, ◌∙◌, append_assoc, append-nil, length-append, arith}
use Rattle.std.proofs.lemmas.Bool.{false≢true, and_parts, or_from}
use Rattle.std.proofs.lemmas.List.Folds.{list_any-append}
use Rattle.std.proofs.Math.Bool.{or-false}
use Rattle.std.specs.Str.{chars}
use Rattle.std.specs.List.{list_any}
use Rattle.psg_terms.specs.Words.{goes_on_word}
use Rattle.psg_lexis.specs.Classes.{is_symbol}
use Rattle.psg_grammar.specs.declared.types.Item.{Item}
use Rattle.psg_grammar.specs.declared.types.Item.TheVariants as items
use Rattle.psg_unparse.specs.Rows.{Piece, token, mark}
use Rattle.psg_unparse.specs.Layout.{is_line, is_tight, is_space, glues_first, last_char, last_in, marks_behind, open_behind, gap_after, laid, lead}
use Rattle.psg_unparse.proofs.Rows.{last_in-append}
use Rattle.psg_unparse.specs.Writing.{glues_with}
use Rattle.psg_unparse.specs.Plain.{keeps_plain, plain_in, head_in, AreAlike}
use Rattle.psg_unparse.proofs.Adding.{marks_behind-append, open_behind-append, plain_in-append, glues_with-first}

abbrev pub Pieces : Type 0
Pieces = List Piece

pub record State : Type 0 where
  pub last : Option ℕ
  pub levels : ℕ
  pub line : Bool
  pub tight : Bool
  pub space : Bool

abbrev pub state_of : Pieces → State
state_of b = record {
  last = last_in None b;
  levels = open_behind 0 b;
  line = list_any is_line (marks_behind [] b);
  tight = list_any is_tight (marks_behind [] b);
  space = list_any is_space (marks_behind [] b);
}

abbrev pub start : State
start = record { last = None; levels = 0; line = false; tight = false; space = false }

abbrev pub after : State → Piece → State
after s (token t) = record { last = Some (last_char 0 (chars t)); levels = s.levels; line = false; tight = false; space = false }
after s (mark i) = record {
  last = s.last;
  levels = open_behind s.levels (mark i ∷ []);
  line = s.line || is_line i;
  tight = s.tight || is_tight i;
  space = s.space || is_space i;
}

abbrev pub run : State → Pieces → State
run s [] = s
run s (p ∷ r) = run (after s p) r

-- the gap in front of a token, by whether it would run together with the last one
abbrev pub gap_by : State → Bool → List ℕ
gap_by s glued =
    cond {A = List ℕ} s.line (10 ∷ replicate (2 * s.levels) 32)
    (cond {A = List ℕ} (s.tight && not s.space) (cond {A = List ℕ} glued (32 ∷ []) []) (32 ∷ []))

abbrev pub gap_from : State → Option ℕ → List ℕ → List ℕ
gap_from s None cs = []
gap_from s (Some c) cs = gap_by s (glues_first c cs)

abbrev pub lay : State → Pieces → List ℕ
lay s [] = []
lay s (token t ∷ r) = gap_from s s.last (chars t) ++ (t ++ lay (after s (token t)) r)
lay s (mark i ∷ r) = lay (after s (mark i)) r

abbrev pub front : State → Pieces → List ℕ
front s [] = []
front s (token t ∷ r) = gap_from s s.last (chars t)
front s (mark i ∷ r) = front (after s (mark i)) r

-- ---- the state of a row

same_state : {l l' : Option ℕ} {n n' : ℕ} {a a' b b' c c' : Bool} → l ≡ l' → n ≡ n' → a ≡ a' → b ≡ b' → c ≡ c'
    → ◌≡◌ {A = State} (record { last = l; levels = n; line = a; tight = b; space = c }) (record { last = l'; levels = n'; line = a'; tight = b'; space = c' })
same_state e f g h k = cc

any_mark : (test : Item → Bool) (b : Pieces) (i : Item) → list_any test (marks_behind [] (b ++ mark i ∷ [])) ≡ (list_any test (marks_behind [] b) || test i)
any_mark test b i =
    ap (list_any test) (marks_behind-append [] b (mark i ∷ [])) ∙ list_any-append test (marks_behind [] b) (i ∷ [])
    ∙ ap (λ x. list_any test (marks_behind [] b) || x) (or-false (test i))

step : (b : Pieces) (p : Piece) → state_of (b ++ p ∷ []) ≡ after (state_of b) p
step b (token t) =
    same_state (last_in-append None b (token t ∷ [])) (open_behind-append 0 b (token t ∷ [])) (ap (list_any is_line) (marks_behind-append [] b (token t ∷ [])))
    (ap (list_any is_tight) (marks_behind-append [] b (token t ∷ []))) (ap (list_any is_space) (marks_behind-append [] b (token t ∷ [])))
step b (mark i) =
    same_state (last_in-append None b (mark i ∷ [])) (open_behind-append 0 b (mark i ∷ [])) (any_mark is_line b i) (any_mark is_tight b i) (any_mark is_space b i)

pub runs : (b r : Pieces) → state_of (b ++ r) ≡ run (state_of b) r
runs b [] = ap state_of (append-nil b)
runs b (p ∷ r) = ap state_of (sym (append_assoc b (p ∷ []) r)) ∙ runs (b ++ p ∷ []) r ∙ ap (λ s. run s r) (step b p)

gap_is : (l : Option ℕ) (b : Pieces) (cs : List ℕ) → gap_after l b cs ≡ gap_from (state_of b) l cs
gap_is None b cs = refl
gap_is (Some c) b cs = refl

pub laid_is : (b r : Pieces) → laid b r ≡ lay (state_of b) r
laid_is b [] = refl
laid_is b (token t ∷ r) =
    ap₂ (λ x y. x ++ (t ++ y)) (gap_is (last_in None b) b (chars t)) (laid_is (b ++ token t ∷ []) r ∙ ap (λ s. lay s r) (step b (token t)))
laid_is b (mark i ∷ r) = laid_is (b ++ mark i ∷ []) r ∙ ap (λ s. lay s r) (step b (mark i))

pub lead_is : (b r : Pieces) → lead b r ≡ front (state_of b) r
lead_is b [] = refl
lead_is b (token t ∷ r) = gap_is (last_in None b) b (chars t)
lead_is b (mark i ∷ r) = lead_is (b ++ mark i ∷ []) r ∙ ap (λ s. front s r) (step b (mark i))

-- ---- states with the same texts after them

abbrev pub IsLike : Option ℕ → Option ℕ → Type 0
IsLike None None = Unit {0}
IsLike (Some a) (Some b) = (cs : List ℕ) → glues_first a cs ≡ glues_first b cs
IsLike _ _ = ⊥

pub record Like (s t : State) : Type 0 where
  pub last : IsLike s.last t.last
  pub levels : s.levels ≡ t.levels
  pub line : s.line ≡ t.line
  pub tight : s.tight ≡ t.tight
  pub space : s.space ≡ t.space

like_same : (s t : State) (g h : Bool) → s.levels ≡ t.levels → s.line ≡ t.line → s.tight ≡ t.tight → s.space ≡ t.space → g ≡ h → gap_by s g ≡ gap_by t h
like_same s t g h e f k l m = cc

like_gap : (s t : State) (x y : Option ℕ) (cs : List ℕ) → IsLike x y → s.levels ≡ t.levels → s.line ≡ t.line → s.tight ≡ t.tight → s.space ≡ t.space
    → gap_from s x cs ≡ gap_from t y cs
like_gap s t None None cs h e f k l = refl
like_gap s t (Some a) (Some b) cs h e f k l = like_same s t (glues_first a cs) (glues_first b cs) e f k l (h cs)
like_gap s t None (Some b) cs h e f k l = absurd h
like_gap s t (Some a) None cs h e f k l = absurd h

like_after : (s t : State) (p : Piece) → Like s t → Like (after s p) (after t p)
like_after s t (token x) h = record { last = λ cs. refl; levels = h.levels; line = refl; tight = refl; space = refl }
like_after s t (mark i) h = record {
  last = h.last;
  levels = ap (λ n. open_behind n (mark i ∷ [])) h.levels;
  line = ap (λ b. b || is_line i) h.line;
  tight = ap (λ b. b || is_tight i) h.tight;
  space = ap (λ b. b || is_space i) h.space;
}

pub like_run : (s t : State) (r : Pieces) → Like s t → Like (run s r) (run t r)
like_run s t [] h = h
like_run s t (p ∷ r) h = like_run (after s p) (after t p) r (like_after s t p h)

pub like_lay : (s t : State) (r : Pieces) → Like s t → lay s r ≡ lay t r
like_lay s t [] h = refl
like_lay s t (token x ∷ r) h =
    ap₂ (λ a b. a ++ (x ++ b)) (like_gap s t s.last t.last (chars x) h.last h.levels h.line h.tight h.space)
    (like_lay (after s (token x)) (after t (token x)) r (like_after s t (token x) h))
like_lay s t (mark i ∷ r) h = like_lay (after s (mark i)) (after t (mark i)) r (like_after s t (mark i) h)

pub like_front : (s t : State) (r : Pieces) → Like s t → front s r ≡ front t r
like_front s t [] h = refl
like_front s t (token x ∷ r) h = like_gap s t s.last t.last (chars x) h.last h.levels h.line h.tight h.space
like_front s t (mark i ∷ r) h = like_front (after s (mark i)) (after t (mark i)) r (like_after s t (mark i) h)

-- ---- rows without lines and levels

-- a mark in front of all tokens that keeps a row plain is one that nobody reads
unread : (s : State) (i : Item) → keeps_plain None i ≡ true → after s (mark i) ≡ s
unread s items.Tight h = absurd (false≢true h)
unread s items.Space h = absurd (false≢true h)
unread s items.Line h = absurd (false≢true h)
unread s items.In h = absurd (false≢true h)
unread s items.Out h = absurd (false≢true h)
unread s (items.Word w) h = same_state refl refl (or-false s.line) (or-false s.tight) (or-false s.space)
unread s (items.Slot k) h = same_state refl refl (or-false s.line) (or-false s.tight) (or-false s.space)
unread s (items.Refers k) h = same_state refl refl (or-false s.line) (or-false s.tight) (or-false s.space)
unread s (items.Declares k) h = same_state refl refl (or-false s.line) (or-false s.tight) (or-false s.space)
unread s items.Number h = same_state refl refl (or-false s.line) (or-false s.tight) (or-false s.space)
unread s items.Text h = same_state refl refl (or-false s.line) (or-false s.tight) (or-false s.space)

no_line : (o : Option ℕ) (i : Item) → keeps_plain o i ≡ true → is_line i ≡ false
no_line o items.Tight h = refl
no_line o items.Space h = refl
no_line o items.Line h = absurd (false≢true h)
no_line o items.In h = refl
no_line o items.Out h = refl
no_line o (items.Word w) h = refl
no_line o (items.Slot k) h = refl
no_line o (items.Refers k) h = refl
no_line o (items.Declares k) h = refl
no_line o items.Number h = refl
no_line o items.Text h = refl

no_level : (o : Option ℕ) (i : Item) (n : ℕ) → keeps_plain o i ≡ true → open_behind n (mark i ∷ []) ≡ n
no_level o items.Tight n h = refl
no_level o items.Space n h = refl
no_level o items.Line n h = refl
no_level o items.In n h = absurd (false≢true h)
no_level o items.Out n h = absurd (false≢true h)
no_level o (items.Word w) n h = refl
no_level o (items.Slot k) n h = refl
no_level o (items.Refers k) n h = refl
no_level o (items.Declares k) n h = refl
no_level o items.Number n h = refl
no_level o items.Text n h = refl

pub marked : (o : Option ℕ) (i : Item) (r : Pieces) → plain_in o (mark i ∷ r) ≡ true → (keeps_plain o i ≡ true) × (plain_in o r ≡ true)
marked o i r h = and_parts (keeps_plain o i) (plain_in o r) h

pub level_run : (s : State) (o : Option ℕ) (r : Pieces) → plain_in o r ≡ true → (run s r).levels ≡ s.levels
level_run s o [] h = refl
level_run s o (token t ∷ r) h = level_run (after s (token t)) (Some (last_char 0 (chars t))) r h
level_run s o (mark i ∷ r) h =
    let p = marked o i r h in level_run (after s (mark i)) o r p.1 ∙ no_level o i s.levels p.0

-- states behind a token that ends with the character, on one line
record Flat (char : ℕ) (s t : State) : Type 0 where
  last : s.last ≡ Some char
  last' : t.last ≡ Some char
  line : s.line ≡ false
  line' : t.line ≡ false
  tight : s.tight ≡ t.tight
  space : s.space ≡ t.space

abbrev ending_of : List ℕ → ℕ
ending_of x = last_char 0 (chars x)

flat_after : (s t : State) (x : List ℕ) → Flat (ending_of x) (after s (token x)) (after t (token x))
flat_after s t x = record { last = refl; last' = refl; line = refl; line' = refl; tight = refl; space = refl }

flat_mark : (c : ℕ) (s t : State) (i : Item) → Flat c s t → keeps_plain (Some c) i ≡ true → Flat c (after s (mark i)) (after t (mark i))
flat_mark c s t i h k = record {
  last = h.last;
  last' = h.last';
  line = or_from s.line (is_line i) h.line (no_line (Some c) i k);
  line' = or_from t.line (is_line i) h.line' (no_line (Some c) i k);
  tight = ap (λ b. b || is_tight i) h.tight;
  space = ap (λ b. b || is_space i) h.space;
}

gap_same : (g : Bool) (a b : Bool) (m n : ℕ) (x y : Bool) → a ≡ false → b ≡ false → x ≡ y
    → cond {A = List ℕ} a (10 ∷ replicate (2 * m) 32) (cond {A = List ℕ} x (cond {A = List ℕ} g (32 ∷ []) []) (32 ∷ []))
    ≡ cond {A = List ℕ} b (10 ∷ replicate (2 * n) 32) (cond {A = List ℕ} y (cond {A = List ℕ} g (32 ∷ []) []) (32 ∷ []))
gap_same g true b m n x y e f k = absurd (false≢true (sym e))
gap_same g false true m n x y e f k = absurd (false≢true (sym f))
gap_same g false false m n x y e f k = ap (λ z. cond {A = List ℕ} z (cond {A = List ℕ} g (32 ∷ []) []) (32 ∷ [])) k

flat_gap : (c : ℕ) (s t : State) (cs : List ℕ) → Flat c s t → gap_from s s.last cs ≡ gap_from t t.last cs
flat_gap c s t cs h =
    ap (λ l. gap_from s l cs) h.last
    ∙ gap_same (glues_first c cs) s.line t.line s.levels t.levels (s.tight && not s.space) (t.tight && not t.space) h.line h.line' (ap₂ (λ x y. x && not y) h.tight h.space)
    ∙ ap (λ l. gap_from t l cs) (sym h.last')

flat_lay : (c : ℕ) (s t : State) (r : Pieces) → Flat c s t → plain_in (Some c) r ≡ true → lay s r ≡ lay t r
flat_lay c s t [] h p = refl
flat_lay c s t (token x ∷ r) h p =
    ap₂ (λ a b. a ++ (x ++ b)) (flat_gap c s t (chars x) h) (flat_lay (ending_of x) (after s (token x)) (after t (token x)) r (flat_after s t x) p)
flat_lay c s t (mark i ∷ r) h p =
    let q = marked (Some c) i r p in flat_lay c (after s (mark i)) (after t (mark i)) r (flat_mark c s t i h q.0) q.1

flat_front : (c : ℕ) (s t : State) (r : Pieces) → Flat c s t → plain_in (Some c) r ≡ true → front s r ≡ front t r
flat_front c s t [] h p = refl
flat_front c s t (token x ∷ r) h p = flat_gap c s t (chars x) h
flat_front c s t (mark i ∷ r) h p =
    let q = marked (Some c) i r p in flat_front c (after s (mark i)) (after t (mark i)) r (flat_mark c s t i h q.0) q.1

-- the states after a row, and what may follow it
record FlatThen (s t : State) (r : Pieces) : Type 0 where
  char : ℕ
  flat : Flat char s t
  plain : plain_in (Some char) r ≡ true

flat_run : (c : ℕ) (s t : State) (r x : Pieces) → Flat c s t → plain_in (Some c) (r ++ x) ≡ true → FlatThen (run s r) (run t r) x
flat_run c s t [] x h p = record { char = c; flat = h; plain = p }
flat_run c s t (token y ∷ r) x h p = flat_run (ending_of y) (after s (token y)) (after t (token y)) r x (flat_after s t y) p
flat_run c s t (mark i ∷ r) x h p =
    let q = marked (Some c) i (r ++ x) p in flat_run c (after s (mark i)) (after t (mark i)) r x (flat_mark c s t i h q.0) q.1

-- ---- plain rows

-- a row has the same text after whatever row, but for the gap in front
pub plain_lay : (s : State) (r : Pieces) → plain_in None r ≡ true → lay s r ≡ front s r ++ lay start r
plain_lay s [] p = refl
plain_lay s (token t ∷ r) p =
    ap (λ y. gap_from s s.last (chars t) ++ (t ++ y)) (flat_lay (ending_of t) (after s (token t)) (after start (token t)) r (flat_after s start t) p)
plain_lay s (mark i ∷ r) p =
    let q = marked None i r p in
    ap (λ z. lay z r) (unread s i q.0) ∙ plain_lay s r q.1
    ∙ ap₂ (λ x y. front x r ++ lay y r) (sym (unread s i q.0)) (sym (unread start i q.0))

-- nothing is in front of the first token of all
pub no_front : (r : Pieces) → plain_in None r ≡ true → front start r ≡ []
no_front [] p = refl
no_front (token t ∷ r) p = refl
no_front (mark i ∷ r) p = let q = marked None i r p in ap (λ z. front z r) (unread start i q.0) ∙ no_front r q.1

-- where a row is after the row in front, as against where it is from the start
pub offset : (s : State) (x r : Pieces) → plain_in None (x ++ r) ≡ true
    → length (lay s x) + length (front (run s x) r) ≡ length (front s (x ++ r)) + (length (lay start x) + length (front (run start x) r))
offset s [] r p = omega (arith, ap length (no_front r p))
offset s (token t ∷ x) r p =
    let f : FlatThen (run (after s (token t)) x) (run (after start (token t)) x) r =
    flat_run (ending_of t) (after s (token t)) (after start (token t)) x r (flat_after s start t) p in
    let inner : plain_in (Some (last_char 0 (chars t))) x ≡ true =
    (and_parts (plain_in (Some (last_char 0 (chars t))) x) (plain_in (last_in (Some (last_char 0 (chars t))) x) r) (sym (plain_in-append (Some (last_char 0 (chars t))) x r) ∙ p)).0 in
    let same : lay (after s (token t)) x ≡ lay (after start (token t)) x =
    flat_lay (ending_of t) (after s (token t)) (after start (token t)) x (flat_after s start t) inner in
    let e : length (front (run (after s (token t)) x) r) ≡ length (front (run (after start (token t)) x) r) =
    ap length (flat_front f.char (run (after s (token t)) x) (run (after start (token t)) x) r f.flat f.plain) in
    let g : length (gap_from s s.last (chars t) ++ (t ++ lay (after s (token t)) x)) ≡ length (gap_from s s.last (chars t)) + length (t ++ lay (after s (token t)) x) =
    length-append (gap_from s s.last (chars t)) (t ++ lay (after s (token t)) x) in
    let k : length (t ++ lay (after s (token t)) x) ≡ length (t ++ lay (after start (token t)) x) = ap (λ y. length (t ++ y)) same in
    omega (arith, e, g, k)
offset s (mark i ∷ x) r p =
    let q = marked None i (x ++ r) p in
    let e : after s (mark i) ≡ s = unread s i q.0 in
    let f : after start (mark i) ≡ start = unread start i q.0 in
    subst (λ z. length (lay z x) + length (front (run z x) r) ≡ length (front z (x ++ r)) + (length (lay (after start (mark i)) x) + length (front (run (after start (mark i)) x) r))) (sym e)
    (subst (λ z. length (lay s x) + length (front (run s x) r) ≡ length (front s (x ++ r)) + (length (lay z x) + length (front (run z x) r))) (sym f) (offset s x r q.1))

-- the gap in front of a row with a token is that of the token
pub front_more : (s : State) (r x : Pieces) (c : ℕ) → last_in None r ≡ Some c → front s (r ++ x) ≡ front s r
front_more s [] x c h = absurd (cc)
front_more s (token t ∷ r) x c h = refl
front_more s (mark i ∷ r) x c h = front_more (after s (mark i)) r x c h

-- a row without tokens has no text
pub no_text : (s : State) (r : Pieces) → last_in None r ≡ None → lay s r ≡ []
no_text s [] h = refl
no_text s (token t ∷ r) h = absurd (some_last (last_char 0 (chars t)) r h) where
  some_last : (c : ℕ) (r : Pieces) → last_in (Some c) r ≡ None → ⊥
  some_last c [] h = cc
  some_last c (token t ∷ r) h = some_last (last_char 0 (chars t)) r h
  some_last c (mark i ∷ r) h = some_last c r h
no_text s (mark i ∷ r) h = no_text (after s (mark i)) r h

-- the gap in front of a plain row, by its first character
abbrev pub gap_to : State → Option ℕ → Option ℕ → List ℕ
gap_to s None h = []
gap_to s (Some c) h = gap_by s (glues_with c h)

gap_first : (s : State) (l : Option ℕ) (cs : List ℕ) → gap_from s l cs ≡ gap_to s l (slice_get cs 0)
gap_first s None cs = refl
gap_first s (Some c) cs = ap (gap_by s) (sym (glues_with-first c cs))

front_head : (s : State) (r : Pieces) (c : ℕ) → plain_in None r ≡ true → last_in None r ≡ Some c → front s r ≡ gap_to s s.last (head_in r)
front_head s [] c p h = absurd (cc)
front_head s (token t ∷ r) c p h = gap_first s s.last (chars t)
front_head s (mark i ∷ r) c p h =
    let q = marked None i r p in
    ap (λ z. front z r) (unread s i q.0) ∙ front_head s r c q.1 h

same_glue : (c : ℕ) (a b : Option ℕ) → AreAlike a b → glues_with c a ≡ glues_with c b
same_glue c None None h = refl
same_glue c (Some a) (Some b) h = ap₂ (λ x y. (goes_on_word c && x) || (is_symbol c && y)) h.0 h.1
same_glue c None (Some b) h = absurd h
same_glue c (Some a) None h = absurd h

same_gap : (s : State) (l a b : Option ℕ) → AreAlike a b → gap_to s l a ≡ gap_to s l b
same_gap s None a b h = refl
same_gap s (Some c) a b h = ap (gap_by s) (same_glue c a b h)

pub heads_alike : (s : State) (r q : Pieces) (c d : ℕ) → plain_in None r ≡ true → last_in None r ≡ Some c → plain_in None q ≡ true → last_in None q ≡ Some d
    → AreAlike (head_in r) (head_in q) → front s r ≡ front s q
heads_alike s r q c d p h p' h' a =
    front_head s r c p h ∙ same_gap s s.last (head_in r) (head_in q) a ∙ sym (front_head s q d p' h')

last_glue : (a b : ℕ) (cs : List ℕ) → AreAlike (Some a) (Some b) → glues_first a cs ≡ glues_first b cs
last_glue a b [] h = refl
last_glue a b (c ∷ cs) h = ap₂ (λ x y. (x && goes_on_word c) || (y && is_symbol c)) h.0 h.1

pub lasts_like : (a b : Option ℕ) → AreAlike a b → IsLike a b
lasts_like None None h = tt
lasts_like (Some a) (Some b) h = λ cs. last_glue a b cs h
lasts_like None (Some b) h = absurd h
lasts_like (Some a) None h = absurd h

-- what is known of the state after a plain row
pub record IsAfter (s : State) (r : Pieces) : Type 0 where
  pub last : (run s r).last ≡ last_in None r
  pub levels : (run s r).levels ≡ s.levels
  pub line : (run s r).line ≡ list_any is_line (marks_behind [] r)
  pub tight : (run s r).tight ≡ list_any is_tight (marks_behind [] r)
  pub space : (run s r).space ≡ list_any is_space (marks_behind [] r)

after_token : (s : State) (r : Pieces) (c : ℕ) → plain_in None r ≡ true → last_in None r ≡ Some c → FlatThen (run s r) (run start r) []
after_token s [] c p h = absurd (cc)
after_token s (token t ∷ r) c p h =
    flat_run (ending_of t) (after s (token t)) (after start (token t)) r [] (flat_after s start t) (ap (plain_in (Some (last_char 0 (chars t)))) (append-nil r) ∙ p)
after_token s (mark i ∷ r) c p h =
    let q = marked None i r p in
    subst (λ z. FlatThen (run z r) (run (after start (mark i)) r) []) (sym (unread s i q.0))
    (subst (λ z. FlatThen (run s r) (run z r) []) (sym (unread start i q.0)) (after_token s r c q.1 h))

pub after_plain : (s : State) (r : Pieces) (c : ℕ) → plain_in None r ≡ true → last_in None r ≡ Some c → IsAfter s r
after_plain s r c p h =
    let k : FlatThen (run s r) (run start r) [] = after_token s r c p h in
    let f : Flat k.char (run s r) (run start r) = k.flat in
    let own : run start r ≡ state_of r = sym (runs [] r) in
    record {
      last = f.last ∙ sym f.last' ∙ ap (λ (z : State). z.last) own;
      levels = level_run s None r p;
      line = f.line ∙ sym f.line' ∙ ap (λ (z : State). z.line) own;
      tight = f.tight ∙ ap (λ (z : State). z.tight) own;
      space = f.space ∙ ap (λ (z : State). z.space) own;
    }
