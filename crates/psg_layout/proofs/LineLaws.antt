-- Characters that are put at the end of a text.
use Rattle.std.proofs.Common.{◌≡◌, inl, inr, ℕ, zero, suc, ◌+◌, ◌*◌, ◌<◌, ◌==◌, ◌||◌, Bool, true, false, cond, List, [], ◌∷◌, ◌++◌, length, replicate, Option, Some, None, refl, sym, ap, subst, ◌∙◌, append-nil, append_assoc, arith}
use Rattle.std.proofs.lemmas.Bool.{true≢false, and_parts}
use Rattle.std.proofs.lemmas.Bool.Decides.{eqb_tells, nat_tests}
use Rattle.std.proofs.lemmas.List.{replicate-append-replicate}
use Rattle.std.proofs.lemmas.List.Sums.{sum_by-append, sum_by-cons}
use Rattle.std.proofs.lemmas.List.Folds.{sum_by-replicate, list_any-append}
use Rattle.std.proofs.Math.Bool.{or-false, or-true}
use Rattle.std.specs.Int.{is_in_range}
use Rattle.std.specs.List.{list_all}
use Rattle.std.specs.Str.{IsAscii, chars}
use Rattle.std.proofs.lemmas.Str.{chars-IsAscii}
use Rattle.std.proofs.lemmas.Str.Ascii.{IsAscii-nil, IsAscii-cons}
use Rattle.unicode_width.specs.Width.{char_width}
use Rattle.psg_layout.specs.declared.gap.Gap.{Gap}
use Rattle.psg_layout.specs.declared.line_end.LineEnd.{LineEnd}
use Rattle.psg_layout.specs.Pages.{width_of, columns, has_feed, last_line, spaces_before}
use Rattle.psg_layout.specs.Sheets.{feeds_in, gap_bytes, IsEnd, PutsChars}

pub feeds-append : (a b : List ℕ) → feeds_in (a ++ b) ≡ feeds_in a + feeds_in b
feeds-append a b = sum_by-append (λ c. cond {A = ℕ} (c == 10) 1 0) a b

-- ---- lines

no_feed-all : (cs : List ℕ) → has_feed cs ≡ false → last_line cs ≡ cs
no_feed-all [] h = refl
no_feed-all (c ∷ cs) h =
    let p = or_both (c == 10) (has_feed cs) h in
    ap (λ b. cond {A = List ℕ} b (last_line cs) (cond {A = List ℕ} (c == 10) cs (c ∷ cs))) p.1
    ∙ ap (λ b. cond {A = List ℕ} b cs (c ∷ cs)) p.0
  where
    or_both : (x y : Bool) → (x || y) ≡ false → (x ≡ false) × (y ≡ false)
    or_both true y e = absurd (true≢false e)
    or_both false y e = (refl, e)

line_choice : (x y : Bool) (l l' cs b : List ℕ) (c : ℕ) → l' ≡ l ++ b
    → cond {A = List ℕ} x l' (cond {A = List ℕ} y (cs ++ b) (c ∷ (cs ++ b))) ≡ cond {A = List ℕ} x l (cond {A = List ℕ} y cs (c ∷ cs)) ++ b
line_choice true y l l' cs b c e = e
line_choice false true l l' cs b c e = refl
line_choice false false l l' cs b c e = refl

-- what has no line feed is put after the last line
pub last_line-more : (a b : List ℕ) → has_feed b ≡ false → last_line (a ++ b) ≡ last_line a ++ b
last_line-more [] b h = no_feed-all b h
last_line-more (c ∷ a) b h =
    let e : has_feed (a ++ b) ≡ has_feed a = list_any-append (λ d. d == 10) a b ∙ ap (λ x. has_feed a || x) h ∙ or-false (has_feed a) in
    ap (λ x. cond {A = List ℕ} x (last_line (a ++ b)) (cond {A = List ℕ} (c == 10) (a ++ b) (c ∷ (a ++ b)))) e
    ∙ line_choice (has_feed a) (c == 10) (last_line a) (last_line (a ++ b)) a b c (last_line-more a b h)

-- after a line feed there is nothing
pub last_line-feed : (a : List ℕ) → last_line (a ++ 10 ∷ []) ≡ []
last_line-feed [] = refl
last_line-feed (c ∷ a) =
    let e : has_feed (a ++ 10 ∷ []) ≡ true = list_any-append (λ d. d == 10) a (10 ∷ []) ∙ or-true (has_feed a) in
    ap (λ x. cond {A = List ℕ} x (last_line (a ++ 10 ∷ [])) (cond {A = List ℕ} (c == 10) (a ++ 10 ∷ []) (c ∷ (a ++ 10 ∷ [])))) e
    ∙ last_line-feed a

pub no_feed-spaces : (n : ℕ) → has_feed (replicate n 32) ≡ false
no_feed-spaces zero = refl
no_feed-spaces (suc n) = no_feed-spaces n

-- characters without a line feed are counted as none
none_more : (x : Bool) (n m : ℕ) (rest : Bool) → (x || rest) ≡ false → m ≡ cond {A = ℕ} x 1 0 + n → (rest ≡ false → n ≡ 0) → m ≡ 0
none_more true n m rest h e k = absurd (true≢false h)
none_more false n m rest h e k = let z : n ≡ 0 = k h in omega (arith, e, z)

pub feeds-none : (cs : List ℕ) → has_feed cs ≡ false → feeds_in cs ≡ 0
feeds-none [] h = refl
feeds-none (c ∷ cs) h =
    none_more (c == 10) (feeds_in cs) (feeds_in (c ∷ cs)) (has_feed cs) h (sum_by-cons (λ d. cond {A = ℕ} (d == 10) 1 0) c cs) (λ e. feeds-none cs e)

space_width : width_of 32 ≡ 1
unfolding char_width
space_width = refl

pub columns-spaces : (n : ℕ) → columns (replicate n 32) ≡ n
columns-spaces n = let e = sum_by-replicate width_of n 32 in e ∙ ap (λ w. n * w) space_width ∙ omega arith

pub spaces-of : (n : ℕ) → spaces_before (replicate n 32) ≡ n
spaces-of zero = refl
spaces-of (suc n) = let h = spaces-of n in omega (arith, h)

not_space : (b : Bool) (n : ℕ) → b ≡ false → cond b (1 + n) 0 ≡ 0
not_space true n e = absurd (true≢false e)
not_space false n e = refl

pub other_is_false : (c d : ℕ) → (c ≡ d → ⊥) → (c == d) ≡ false
other_is_false c d h = elim (eqb_tells c d) [ inl e ↦ absurd (h e.1) | inr e ↦ e.0 ]

pub spaces-then : (n c : ℕ) (more : List ℕ) → (c ≡ 32 → ⊥) → spaces_before (replicate n 32 ++ c ∷ more) ≡ n
spaces-then zero c more h = not_space (c == 32) (spaces_before more) (other_is_false c 32 h)
spaces-then (suc n) c more h = let e = spaces-then n c more h in omega (arith, e)

-- ---- the steps

pub new_end : IsEnd (record { feeds = 0; columns = 0; front = None }) []
new_end = record { feeds = refl; columns = refl; blank = λ e. refl; known = λ n e more. absurd (cc) }

pub spaces_known : (end : LineEnd) (n : ℕ) (cs : List ℕ) → end.front ≡ Some n → IsEnd end cs → n ≡ spaces_before (last_line cs)
spaces_known end n cs e h = sym (h.known n e []) ∙ ap spaces_before (append-nil (last_line cs))

pub spaces_blank : (end : LineEnd) (cs : List ℕ) → end.front ≡ None → IsEnd end cs → end.columns ≡ spaces_before (last_line cs)
spaces_blank end cs e h = sym (ap spaces_before (h.blank e) ∙ spaces-of end.columns)

pub feed_put : (old : LineEnd) (n : ℕ) → n ≡ old.feeds + 1 → PutsChars (10 ∷ []) old (record { feeds = n; columns = 0; front = None })
feed_put old n e cs h = record {
  feeds = e ∙ ap (λ k. k + 1) h.feeds ∙ sym (feeds-append cs (10 ∷ []));
  columns = ap columns (sym (last_line-feed cs));
  blank = λ f. last_line-feed cs;
  known = λ k f more. absurd (cc);
}

pub spaces_put : (old : LineEnd) (n k : ℕ) → n ≡ old.columns + k → PutsChars (replicate k 32) old (record { feeds = old.feeds; columns = n; front = old.front })
spaces_put old n k e cs h =
    let line : List ℕ = last_line cs in
    let ends : last_line (cs ++ replicate k 32) ≡ line ++ replicate k 32 =
    last_line-more cs (replicate k 32) (no_feed-spaces k) in
    let none : feeds_in (replicate k 32) ≡ 0 = feeds-none (replicate k 32) (no_feed-spaces k) in
    let more : feeds_in (cs ++ replicate k 32) ≡ feeds_in cs + feeds_in (replicate k 32) = feeds-append cs (replicate k 32) in
    let wide : columns (line ++ replicate k 32) ≡ columns line + columns (replicate k 32) = sum_by-append width_of line (replicate k 32) in
    let one : columns (replicate k 32) ≡ k = columns-spaces k in
    let was : old.columns ≡ columns line = h.columns in
    record {
      feeds = h.feeds ∙ omega (arith, none, more);
      columns = omega (arith, e, wide, one, was) ∙ ap columns (sym ends);
      blank = λ f. ends ∙ ap (λ l. l ++ replicate k 32) (h.blank f) ∙ replicate-append-replicate old.columns k 32 ∙ ap (λ m. replicate m 32) (sym e);
      known = λ m f x. ap (λ l. spaces_before (l ++ x)) ends ∙ ap spaces_before (append_assoc line (replicate k 32) x) ∙ h.known m f (replicate k 32 ++ x);
    }

-- what is in front, once the character follows
front_known : (old : LineEnd) (front : Option ℕ) (c : ℕ) (cs : List ℕ) → front ≡ old.front → IsEnd old cs → (c ≡ 32 → ⊥) → (more : List ℕ)
    → spaces_before (last_line cs ++ c ∷ more) ≡ spaces_before (last_line cs)
front_known old None c cs e h n more =
    ap (λ l. spaces_before (l ++ c ∷ more)) (h.blank (sym e)) ∙ spaces-then old.columns c more n ∙ spaces_blank old cs (sym e) h
front_known old (Some k) c cs e h n more = h.known k (sym e) (c ∷ more) ∙ spaces_known old k cs (sym e) h

pub mark_put : (old : LineEnd) (n k c : ℕ) → n ≡ old.columns + width_of c → (c ≡ 10 → ⊥) → (c ≡ 32 → ⊥)
    → ((cs : List ℕ) → IsEnd old cs → k ≡ spaces_before (last_line cs))
    → PutsChars (c ∷ []) old (record { feeds = old.feeds; columns = n; front = Some k })
mark_put old n k c e feed space known cs h =
    let line : List ℕ = last_line cs in
    let other : (c == 10) ≡ false = other_is_false c 10 feed in
    let single : has_feed (c ∷ []) ≡ false = or-false (c == 10) ∙ other in
    let ends : last_line (cs ++ c ∷ []) ≡ line ++ c ∷ [] = last_line-more cs (c ∷ []) single in
    let none : feeds_in (c ∷ []) ≡ 0 = feeds-none (c ∷ []) single in
    let more : feeds_in (cs ++ c ∷ []) ≡ feeds_in cs + feeds_in (c ∷ []) = feeds-append cs (c ∷ []) in
    let wide : columns (line ++ c ∷ []) ≡ columns line + columns (c ∷ []) = sum_by-append width_of line (c ∷ []) in
    let was : old.columns ≡ columns line = h.columns in
    record {
      feeds = h.feeds ∙ omega (arith, none, more);
      columns = omega (arith, e, wide, was) ∙ ap columns (sym ends);
      blank = λ f. absurd (cc);
      known = λ m f x.
          ap (λ l. spaces_before (l ++ x)) ends ∙ ap spaces_before (append_assoc line (c ∷ []) x)
          ∙ front_known old old.front c cs refl h space x ∙ sym (known cs h) ∙ cc;
    }

-- ---- printable ASCII without spaces

abbrev are_narrow : List ℕ → Bool
are_narrow t = list_all (is_in_range 33 126) t

narrow_width : (c : ℕ) → is_in_range 33 126 c ≡ true → width_of c ≡ 1
unfolding char_width
narrow_width c h = grind (arith, nat_tests)

narrow_other : (c d : ℕ) → is_in_range 33 126 c ≡ true → d < 33 → c ≡ d → ⊥
narrow_other c d h l e = grind (arith, nat_tests)

narrow_ascii : (t : List ℕ) → are_narrow t ≡ true → IsAscii t
narrow_ascii [] h = IsAscii-nil
narrow_ascii (c ∷ t) h =
    let p = and_parts (is_in_range 33 126 c) (are_narrow t) h in
    let own = p.0 in
    let small : c < 128 = grind (arith, nat_tests) in
    IsAscii-cons c t small (narrow_ascii t p.1)

narrow_columns : (t : List ℕ) → are_narrow t ≡ true → columns t ≡ length t
narrow_columns [] h = refl
narrow_columns (c ∷ t) h =
    let p = and_parts (is_in_range 33 126 c) (are_narrow t) h in
    let a = sum_by-cons width_of c t in let b = narrow_width c p.0 in let d = narrow_columns t p.1 in
    omega (arith, a, b, d)

narrow_feed : (t : List ℕ) → are_narrow t ≡ true → has_feed t ≡ false
narrow_feed [] h = refl
narrow_feed (c ∷ t) h =
    let p = and_parts (is_in_range 33 126 c) (are_narrow t) h in
    ap (λ b. b || has_feed t) (other_is_false c 10 (narrow_other c 10 p.0 (omega arith))) ∙ narrow_feed t p.1

pub text_put : (old : LineEnd) (n k c : ℕ) (r : List ℕ) → n ≡ old.columns + columns (c ∷ r) → has_feed (c ∷ r) ≡ false → (c ≡ 32 → ⊥)
    → ((cs : List ℕ) → IsEnd old cs → k ≡ spaces_before (last_line cs))
    → PutsChars (c ∷ r) old (record { feeds = old.feeds; columns = n; front = Some k })
text_put old n k c r e single space known cs h =
    let line : List ℕ = last_line cs in
    let ends : last_line (cs ++ c ∷ r) ≡ line ++ c ∷ r = last_line-more cs (c ∷ r) single in
    let none : feeds_in (c ∷ r) ≡ 0 = feeds-none (c ∷ r) single in
    let more : feeds_in (cs ++ c ∷ r) ≡ feeds_in cs + feeds_in (c ∷ r) = feeds-append cs (c ∷ r) in
    let wide : columns (line ++ c ∷ r) ≡ columns line + columns (c ∷ r) = sum_by-append width_of line (c ∷ r) in
    let was : old.columns ≡ columns line = h.columns in
    record {
      feeds = h.feeds ∙ omega (arith, none, more);
      columns = omega (arith, e, wide, was) ∙ ap columns (sym ends);
      blank = λ f. absurd (cc);
      known = λ m f x.
          ap (λ l. spaces_before (l ++ x)) ends ∙ ap spaces_before (append_assoc line (c ∷ r) x)
          ∙ front_known old old.front c cs refl h space (r ++ x) ∙ sym (known cs h) ∙ cc;
    }

pub narrow_put : (old : LineEnd) (n k : ℕ) (t : List ℕ) → are_narrow t ≡ true → (length t ≡ 0 → ⊥) → n ≡ old.columns + length t
    → ((cs : List ℕ) → IsEnd old cs → k ≡ spaces_before (last_line cs))
    → PutsChars (chars t) old (record { feeds = old.feeds; columns = n; front = Some k })
narrow_put old n k [] h some e known = absurd (some refl)
narrow_put old n k (c ∷ r) h some e known =
    let p = and_parts (is_in_range 33 126 c) (are_narrow r) h in
    let w = narrow_columns (c ∷ r) h in
    let sum : n ≡ old.columns + columns (c ∷ r) = omega (arith, e, w) in
    subst (λ x. PutsChars x old (record { feeds = old.feeds; columns = n; front = Some k })) (sym (chars-IsAscii (c ∷ r) (narrow_ascii (c ∷ r) h)))
    (text_put old n k c r sum (narrow_feed (c ∷ r) h) (narrow_other c 32 p.0 (omega arith)) known)

pub puts-then : (a b : List ℕ) (x y z : LineEnd) → PutsChars a x y → PutsChars b y z → PutsChars (a ++ b) x z
puts-then a b x y z f g cs h = subst (IsEnd z) (append_assoc cs a b) (g (cs ++ a) (f cs h))

pub puts-nothing : (x : LineEnd) → PutsChars [] x x
puts-nothing x cs h = subst (IsEnd x) (sym (append-nil cs)) h

pub no_chars : (t : List ℕ) (x : LineEnd) → length t ≡ 0 → PutsChars (chars t) x x
no_chars [] x e = subst (λ cs. PutsChars cs x x) (sym (chars-IsAscii [] IsAscii-nil)) (puts-nothing x)
no_chars (c ∷ t) x e = absurd (omega (arith, e))

pub gap_feed : (g : Gap) (x y z : LineEnd) → g.feed ≡ true → PutsChars (10 ∷ []) x y → PutsChars (replicate g.spaces 32) y z → PutsChars (gap_bytes g) x z
gap_feed g x y z e f s =
    subst (λ b. PutsChars (cond b (10 ∷ replicate g.spaces 32) (replicate g.spaces 32)) x z) (sym e)
    (puts-then (10 ∷ []) (replicate g.spaces 32) x y z f s)

pub gap_beside : (g : Gap) (x z : LineEnd) → g.feed ≡ false → PutsChars (replicate g.spaces 32) x z → PutsChars (gap_bytes g) x z
gap_beside g x z e s = subst (λ b. PutsChars (cond b (10 ∷ replicate g.spaces 32) (replicate g.spaces 32)) x z) (sym e) s
