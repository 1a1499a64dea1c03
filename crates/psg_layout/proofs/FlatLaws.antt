-- What a node is in one line, read off the plain text of the whole tree.
use Rattle.std.proofs.Common.{◌≡◌, inl, inr, ℕ, ◌+◌, ◌-◌, ◌*◌, ◌==◌, ◌||◌, ◌&&◌, not, Bool, true, false, cond, List, [], ◌∷◌, ◌++◌, replicate, Option, Some, None, refl, ap, ap₂, sym, subst, ◌∙◌, append_assoc, arith}
use Rattle.std.specs.Prelude.{nat_le, slice_get}
use Rattle.std.specs.Str.{chars}
use Rattle.std.specs.List.{list_any}
use Rattle.std.proofs.lemmas.Bool.{true≢false, false≢true}
use Rattle.std.proofs.lemmas.Bool.Decides.{eqb_tells}
use Rattle.std.proofs.lemmas.List.Sums.{sum_by-append, sum_by-cons}
use Rattle.std.proofs.lemmas.List.Folds.{list_any-append}
use Rattle.psg_unparse.specs.Rows.{Piece, token, mark}
use Rattle.psg_unparse.specs.Layout.{is_line, is_tight, is_space, gap, gap_after, glues_first, last_in, lead, marks_behind, open_behind}
use Rattle.psg_unparse.specs.Spaced.{Put}
use Rattle.psg_unparse.proofs.Rows.{last_in-append}
use Rattle.psg_unparse.proofs.States.{State, state_of, after, runs, gap_by, gap_from, lead_is}
use Rattle.psg_layout.specs.Pages.{width_of, chars_in, columns, has_feed, has_tokens, last_line, plain_chars}
use Rattle.psg_layout.specs.Sheets.{feeds_in, gap_bytes, gap_of, own_chars}
use Rattle.psg_layout.specs.Walking.{fits_in, is_own}
use Rattle.psg_layout.proofs.LineLaws.{feeds-append, feeds-none, last_line-more, other_is_false}
use Rattle.psg_layout.proofs.NodeLaws.{flat_of_puts}
use Rattle.psg_layout.proofs.PlainLaws.{plain_puts}
use Rattle.psg_layout.proofs.SheetLaws.{chars-append, gap_of-bytes}

abbrev Pieces : Type 0
Pieces = List Piece

-- ---- texts that are the same, if they have no line feed

pub record AreAlike (x y : List ℕ) : Type 0 where
  pub feeds : has_feed x ≡ has_feed y
  pub same : has_feed x ≡ false → x ≡ y

alike_same : (x y : List ℕ) → x ≡ y → AreAlike x y
alike_same x y e = record { feeds = ap has_feed e; same = λ h. e }

or_none : (a b : Bool) → (a || b) ≡ false → (a ≡ false) × (b ≡ false)
or_none true b e = absurd (true≢false e)
or_none false b e = (refl, e)

alike_append : (a b x y : List ℕ) → AreAlike a x → AreAlike b y → AreAlike (a ++ b) (x ++ y)
alike_append a b x y f g = record {
  feeds = list_any-append (λ c. c == 10) a b ∙ ap₂ (λ p q. p || q) f.feeds g.feeds ∙ sym (list_any-append (λ c. c == 10) x y);
  same = λ h.
      let n = or_none (has_feed a) (has_feed b) (sym (list_any-append (λ c. c == 10) a b) ∙ h) in
      ap₂ (λ p q. p ++ q) (f.same n.0) (g.same n.1);
}

-- ---- the characters of a row after a state

abbrev clay : State → Pieces → List ℕ
clay s [] = []
clay s (token t ∷ r) = gap_from s s.last (chars t) ++ (chars t ++ clay (after s (token t)) r)
clay s (mark i ∷ r) = clay (after s (mark i)) r

step : (b : Pieces) (p : Piece) → state_of (b ++ p ∷ []) ≡ after (state_of b) p
step b p = runs b (p ∷ [])

clay_is : (b r : Pieces) → plain_chars b r ≡ clay (state_of b) r
clay_is b [] = refl
clay_is b (token t ∷ r) =
    ap₂ (λ x y. x ++ (chars t ++ y)) (lead_is b (token t ∷ [])) (clay_is (b ++ token t ∷ []) r ∙ ap (λ s. clay s r) (step b (token t)))
clay_is b (mark i ∷ r) = clay_is (b ++ mark i ∷ []) r ∙ ap (λ s. clay s r) (step b (mark i))

pub chars_plain : (b r : Pieces) → chars_in (plain_puts b r) ≡ plain_chars b r
chars_plain b [] = refl
chars_plain b (token t ∷ r) = ap (λ z. gap b t ++ (chars t ++ z)) (chars_plain (b ++ token t ∷ []) r)
chars_plain b (mark i ∷ r) = chars_plain (b ++ mark i ∷ []) r

-- states that differ at most in the levels
record AreNear (s t : State) : Type 0 where
  last : s.last ≡ t.last
  line : s.line ≡ t.line
  tight : s.tight ≡ t.tight
  space : s.space ≡ t.space

near_after : (s t : State) (p : Piece) → AreNear s t → AreNear (after s p) (after t p)
near_after s t (token x) h = record { last = refl; line = refl; tight = refl; space = refl }
near_after s t (mark i) h =
    record { last = h.last; line = ap (λ b. b || is_line i) h.line; tight = ap (λ b. b || is_tight i) h.tight; space = ap (λ b. b || is_space i) h.space }

abbrev flags_gap : Bool → ℕ → Bool → Bool → List ℕ
flags_gap line n tight glued = cond {A = List ℕ} line (10 ∷ replicate n 32) (cond {A = List ℕ} tight (cond {A = List ℕ} glued (32 ∷ []) []) (32 ∷ []))

near_flags : (line tight glued : Bool) (n m : ℕ) → AreAlike (flags_gap line n tight glued) (flags_gap line m tight glued)
near_flags true tight glued n m = record { feeds = refl; same = λ h. absurd (true≢false h) }
near_flags false tight glued n m = alike_same (flags_gap false n tight glued) (flags_gap false m tight glued) refl

near_gap : (s t : State) (l : Option ℕ) (cs : List ℕ) → AreNear s t → AreAlike (gap_from s l cs) (gap_from t l cs)
near_gap s t None cs h = alike_same [] [] refl
near_gap s t (Some c) cs h =
    subst (λ x. AreAlike (gap_by s (glues_first c cs)) x)
    (ap₂ (λ a b. flags_gap a (2 * t.levels) (b && not s.space) (glues_first c cs)) h.line h.tight ∙ ap (λ b. flags_gap t.line (2 * t.levels) (t.tight && not b) (glues_first c cs)) h.space)
    (near_flags s.line (s.tight && not s.space) (glues_first c cs) (2 * s.levels) (2 * t.levels))

near_clay : (s t : State) (r : Pieces) → AreNear s t → AreAlike (clay s r) (clay t r)
near_clay s t [] h = alike_same [] [] refl
near_clay s t (token x ∷ r) h =
    alike_append (gap_from s s.last (chars x)) (chars x ++ clay (after s (token x)) r) (gap_from t t.last (chars x)) (chars x ++ clay (after t (token x)) r)
    (subst (λ l. AreAlike (gap_from s s.last (chars x)) (gap_from t l (chars x))) h.last (near_gap s t s.last (chars x) h))
    (alike_append (chars x) (clay (after s (token x)) r) (chars x) (clay (after t (token x)) r) (alike_same (chars x) (chars x) refl)
    (near_clay (after s (token x)) (after t (token x)) r (near_after s t (token x) h)))
near_clay s t (mark i ∷ r) h = near_clay (after s (mark i)) (after t (mark i)) r (near_after s t (mark i) h)

-- the characters of tokens without the gap in front of them
abbrev tail_chars : List Put → List ℕ
tail_chars [] = []
tail_chars (x ∷ xs) = chars x.text ++ chars_in xs

-- a node within the text, and by itself after marks alone
alike_tail : (b m r : Pieces) → last_in None m ≡ None → AreAlike (tail_chars (plain_puts b r)) (plain_chars m r)
alike_tail b m [] h = alike_same [] [] refl
alike_tail b m (token t ∷ r) h =
    let first : gap m t ≡ [] = ap (λ l. gap_after l m (chars t)) h in
    let own : chars_in (plain_puts (b ++ token t ∷ []) r) ≡ clay (after (state_of b) (token t)) r =
    chars_plain (b ++ token t ∷ []) r ∙ clay_is (b ++ token t ∷ []) r ∙ ap (λ s. clay s r) (step b (token t)) in
    let alone : plain_chars (m ++ token t ∷ []) r ≡ clay (after (state_of m) (token t)) r = clay_is (m ++ token t ∷ []) r ∙ ap (λ s. clay s r) (step m (token t)) in
    let near : AreAlike (clay (after (state_of b) (token t)) r) (clay (after (state_of m) (token t)) r) =
    near_clay (after (state_of b) (token t)) (after (state_of m) (token t)) r (record { last = refl; line = refl; tight = refl; space = refl }) in
    let both : AreAlike (chars t ++ clay (after (state_of b) (token t)) r) (chars t ++ clay (after (state_of m) (token t)) r) =
    alike_append (chars t) (clay (after (state_of b) (token t)) r) (chars t) (clay (after (state_of m) (token t)) r) (alike_same (chars t) (chars t) refl) near in
    subst (λ x. AreAlike x (gap m t ++ (chars t ++ plain_chars (m ++ token t ∷ []) r))) (ap (λ z. chars t ++ z) (sym own))
    (subst (λ y. AreAlike (chars t ++ clay (after (state_of b) (token t)) r) y)
    (ap₂ (λ g z. g ++ (chars t ++ z)) (sym first) (sym alone)) both)
alike_tail b m (mark i ∷ r) h = alike_tail (b ++ mark i ∷ []) (m ++ mark i ∷ []) r (last_in-append None m (mark i ∷ []) ∙ h)

-- ---- what is kept of a node

pub some_is : (ps : List Put) (b r : Pieces) → (flat_of_puts ps (plain_puts b r)).some ≡ has_tokens r
some_is ps b [] = refl
some_is ps b (token t ∷ r) = refl
some_is ps b (mark i ∷ r) = some_is ps (b ++ mark i ∷ []) r

-- a plain gap is what its form says
flags_form : (line tight glued : Bool) (n : ℕ) → gap_bytes (gap_of (flags_gap line n tight glued)) ≡ flags_gap line n tight glued
flags_form true tight glued n = ap gap_bytes (gap_of-bytes (record { feed = true; spaces = n }))
flags_form false true true n = refl
flags_form false true false n = refl
flags_form false false glued n = refl

gap_form : (l : Option ℕ) (b : Pieces) (cs : List ℕ) → gap_bytes (gap_of (gap_after l b cs)) ≡ gap_after l b cs
gap_form None b cs = refl
gap_form (Some c) b cs =
    flags_form (list_any is_line (marks_behind [] b)) (list_any is_tight (marks_behind [] b) && not (list_any is_space (marks_behind [] b))) (glues_first c cs) (2 * open_behind 0 b)

pub lead_kept : (ps : List Put) (b r : Pieces) → gap_bytes (flat_of_puts ps (plain_puts b r)).lead ≡ lead b r
lead_kept ps b [] = refl
lead_kept ps b (token t ∷ r) = gap_form (last_in None b) b (chars t)
lead_kept ps b (mark i ∷ r) = lead_kept ps (b ++ mark i ∷ []) r

-- ---- widths

feed_counts : (x : Bool) (n m : ℕ) (rest : Bool) → (x || rest) ≡ true → m ≡ cond {A = ℕ} x 1 0 + n → (rest ≡ true → (n ≡ 0 → ⊥)) → m ≡ 0 → ⊥
feed_counts true n m rest h e k z = omega (arith, e, z)
feed_counts false n m rest h e k z = k h (omega (arith, e, z))

feeds-some : (cs : List ℕ) → has_feed cs ≡ true → feeds_in cs ≡ 0 → ⊥
feeds-some [] h z = false≢true h
feeds-some (c ∷ cs) h z = feed_counts (c == 10) (feeds_in cs) (feeds_in (c ∷ cs)) (has_feed cs) h (sum_by-cons (λ d. cond {A = ℕ} (d == 10) 1 0) c cs) (λ e. feeds-some cs e) z

same_feeds : (n m k : ℕ) → m ≡ n + k → k ≡ 0 → (n == m) ≡ true
same_feeds n m k e z = elim (eqb_tells n m) [ inl h ↦ h.0 | inr h ↦ absurd (h.1 (omega (arith, e, z))) ]

other_feeds : (n m k : ℕ) → m ≡ n + k → (k ≡ 0 → ⊥) → (n == m) ≡ false
other_feeds n m k e z = other_is_false n m (λ h. z (omega (arith, e, h)))

-- the width of what follows a text, if it has no line feed
width_by : (hf : Bool) (a body : List ℕ) → has_feed body ≡ hf
    → cond {A = Option ℕ} (feeds_in a == feeds_in (a ++ body)) (Some (columns (last_line (a ++ body)) - columns (last_line a))) None ≡ cond {A = Option ℕ} hf None (Some (columns body))
width_by true a body h =
    ap (λ b. cond {A = Option ℕ} b (Some (columns (last_line (a ++ body)) - columns (last_line a))) None)
    (other_feeds (feeds_in a) (feeds_in (a ++ body)) (feeds_in body) (feeds-append a body) (feeds-some body h))
width_by false a body h =
    ap (λ b. cond {A = Option ℕ} b (Some (columns (last_line (a ++ body)) - columns (last_line a))) None)
    (same_feeds (feeds_in a) (feeds_in (a ++ body)) (feeds_in body) (feeds-append a body) (feeds-none body h))
    ∙ ap Some wide
  where
    wide : columns (last_line (a ++ body)) - columns (last_line a) ≡ columns body
    wide =
        let e = ap columns (last_line-more a body h) ∙ sum_by-append width_of (last_line a) body in
        omega (arith, e)

fits_cond : (cols : ℕ) (line : List ℕ) (hf : Bool) (w : ℕ) → fits_in cols line (cond {A = Option ℕ} hf None (Some w)) ≡ (not hf && nat_le (columns line + w) cols)
fits_cond cols line true w = refl
fits_cond cols line false w = refl

-- both fit or none does
fits_alike : (cols : ℕ) (line x y : List ℕ) → AreAlike x y → (not (has_feed x) && nat_le (columns line + columns x) cols) ≡ (not (has_feed y) && nat_le (columns line + columns y) cols)
fits_alike cols line x y h = by (has_feed x) refl
  where
    by : (hf : Bool) → has_feed x ≡ hf → (not (has_feed x) && nat_le (columns line + columns x) cols) ≡ (not (has_feed y) && nat_le (columns line + columns y) cols)
    by true e =
        ap (λ b. not b && nat_le (columns line + columns x) cols) e
        ∙ sym (ap (λ b. not b && nat_le (columns line + columns y) cols) (sym h.feeds ∙ e))
    by false e = ap₂ (λ b z. not b && nat_le (columns line + columns z) cols) h.feeds (h.same e)

flat_width : (ps : List Put) (x : Put) (xs : List Put) → (flat_of_puts ps (x ∷ xs)).width ≡ cond {A = Option ℕ} (has_feed (tail_chars (x ∷ xs))) None (Some (columns (tail_chars (x ∷ xs))))
flat_width ps x xs =
    let whole : chars_in (ps ++ x ∷ xs) ≡ (chars_in ps ++ x.gap) ++ tail_chars (x ∷ xs) =
    chars-append ps (x ∷ xs) ∙ sym (append_assoc (chars_in ps) x.gap (chars x.text ++ chars_in xs)) in
    ap (λ z. cond {A = Option ℕ} (feeds_in (chars_in ps ++ x.gap) == feeds_in z) (Some (columns (last_line z) - columns (last_line (chars_in ps ++ x.gap)))) None) whole
    ∙ width_by (has_feed (tail_chars (x ∷ xs))) (chars_in ps ++ x.gap) (tail_chars (x ∷ xs)) refl

fits_puts : (cols : ℕ) (line : List ℕ) (ps own : List Put) → fits_in cols line (flat_of_puts ps own).width ≡ (not (has_feed (tail_chars own)) && nat_le (columns line + columns (tail_chars own)) cols)
fits_puts cols line ps [] = refl
fits_puts cols line ps (x ∷ xs) = ap (fits_in cols line) (flat_width ps x xs) ∙ fits_cond cols line (has_feed (tail_chars (x ∷ xs))) (columns (tail_chars (x ∷ xs)))

-- a node fits by what is kept of it, where it fits by itself
pub fits_kept : (cols : ℕ) (line : List ℕ) (ps : List Put) (b r : Pieces)
    → fits_in cols line (flat_of_puts ps (plain_puts b r)).width ≡ (not (has_feed (plain_chars [] r)) && nat_le (columns line + columns (plain_chars [] r)) cols)
fits_kept cols line ps b r =
    fits_puts cols line ps (plain_puts b r) ∙ fits_alike cols line (tail_chars (plain_puts b r)) (plain_chars [] r) (alike_tail b [] r refl)

-- ---- nodes that may be copied

own_some : (ps own : List Put) → is_own (flat_of_puts ps own) ≡ true → (flat_of_puts ps own).some ≡ true
own_some ps [] e = absurd (false≢true e)
own_some ps (x ∷ xs) e = refl

pub own_kept : (ps : List Put) (b r : Pieces) → is_own (flat_of_puts ps (plain_puts b r)) ≡ true → has_tokens r ≡ true
own_kept ps b r e = sym (some_is ps b r) ∙ own_some ps (plain_puts b r) e

some_width : (hf : Bool) (c w : ℕ) → cond {A = Option ℕ} hf None (Some c) ≡ Some w → (hf ≡ false) × (c ≡ w)
some_width true c w e = absurd (let f : None ≡ Some w = e in cc)
some_width false c w e = (refl, (let f : Some c ≡ Some w = e in cc))

pub width_kept : (ps own : List Put) (w : ℕ) → (flat_of_puts ps own).width ≡ Some w → (has_feed (own_chars own) ≡ false) × (columns (own_chars own) ≡ w)
width_kept ps [] w e = (refl, (let f : Some 0 ≡ Some w = e in cc))
width_kept ps (x ∷ xs) w e = some_width (has_feed (tail_chars (x ∷ xs))) (columns (tail_chars (x ∷ xs))) w (sym (flat_width ps x xs) ∙ e)

front_char : (cs more : List ℕ) (h : ℕ) → slice_get cs 0 ≡ Some h → (rest : List ℕ) × (cs ++ more ≡ h ∷ rest)
front_char [] more h e = absurd (let f : None ≡ Some h = e in cc)
front_char (c ∷ cs) more h e = (cs ++ more, ap (λ z. z ∷ (cs ++ more)) (let f : Some c ≡ Some h = e in let g : c ≡ h = cc in g))

pub head_kept : (ps own : List Put) (h : ℕ) → (flat_of_puts ps own).head ≡ Some h → (rest : List ℕ) × (own_chars own ≡ h ∷ rest)
head_kept ps [] h e = absurd (let f : None ≡ Some h = e in cc)
head_kept ps (x ∷ xs) h e = front_char (chars x.text) (chars_in xs) h e
