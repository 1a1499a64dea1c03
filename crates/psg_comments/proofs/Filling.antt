-- Comments that become spaces one after the other.
use Rattle.std.proofs.Common.{◌≡◌, ◌⊎◌, inl, inr, ℕ, ◌+◌, ◌<◌, ◌≤◌, Bool, true, false, List, [], ◌∷◌, ◌++◌, length, take, get_or, set, sym, ap, ◌∙◌, subst, refl, arith}
use Rattle.std.specs.Prelude.{nat_le, nat_lt, ◌&&◌, ◌||◌}
use Rattle.std.proofs.lemmas.Bool.{and_parts, false≢true, true≢false, cases_lt, lt-ltb, le-leb}
use Rattle.std.proofs.lemmas.Bool.Decides.{nat_tests}
use Rattle.std.proofs.lemmas.List.{get_or-set_same, get_or-set_other, length-set, take_more, take_all}
use Rattle.std.proofs.lemmas.List.Folds.{list_any-append}
use Rattle.psg_comments.specs.Blanking.{is_inside, AreSpaces}
use Rattle.psg_comments.specs.Steps.{IsFilled}
use Rattle.psg_comments.specs.declared.finding.Comment.{Comment}

abbrev covers : Comment → ℕ → Bool
covers c place = nat_le c.start place && nat_lt place c.end

inside_more : (cs : List Comment) (c : Comment) (place : ℕ) → is_inside (cs ++ c ∷ []) place ≡ (is_inside cs place || (covers c place || false))
inside_more cs c place = list_any-append (λ d. covers d place) cs (c ∷ [])

or_false : (a b : Bool) → (a || (b || false)) ≡ false → (a ≡ false) × (b ≡ false)
or_false true b h = absurd (true≢false h)
or_false false true h = absurd (true≢false h)
or_false false false h = (refl, refl)

or_true : (a b : Bool) → (a || (b || false)) ≡ true → (b ≡ true) ⊎ ((b ≡ false) × (a ≡ true))
or_true a true h = inl refl
or_true true false h = inr (refl, refl)
or_true false false h = absurd (false≢true h)

-- what a comment covers, and what not
covered : (c : Comment) (place : ℕ) → covers c place ≡ true → (c.start ≤ place) × (place < c.end)
covered c place h = let p = and_parts (nat_le c.start place) (nat_lt place c.end) h in (grind (arith, nat_tests, p), grind (arith, nat_tests, p))

uncovered : (c : Comment) (place : ℕ) → covers c place ≡ false → (place < c.start) ⊎ (c.end ≤ place)
uncovered c place h =
    elim (cases_lt place c.start) [
      | inl l ↦ inl l
      | inr l ↦ elim (cases_lt place c.end) [
        | inl m ↦ absurd (false≢true (sym h ∙ both l m))
        | inr m ↦ inr m
      ]
    ]
  where
    both : c.start ≤ place → place < c.end → covers c place ≡ true
    both l m = ap (λ b. b && nat_lt place c.end) (le-leb c.start place l) ∙ lt-ltb place c.end m

pub outside_of : (c : Comment) (old new : List ℕ) (place : ℕ) → IsFilled c old new → covers c place ≡ false
    → get_or new place 0 ≡ get_or old place 0
outside_of c old new place f h =
    elim (uncovered c place h) [
      | inl l ↦ f.before place l
      | inr l ↦ f.after place l
    ]

pub fill_more : (text : List ℕ) (cs : List Comment) (c : Comment) (old new : List ℕ) → AreSpaces text cs old
    → IsFilled c old new → AreSpaces text (cs ++ c ∷ []) new
fill_more text cs c old new a f = record {
  size = f.size ∙ a.size;
  inside = λ place l h.
      let own : place < length old = omega (arith, a.size, l) in
      elim (or_true (is_inside cs place) (covers c place) (sym (inside_more cs c place) ∙ h)) [
        | inl b ↦ let p = covered c place b in f.inside place own p.0 p.1
        | inr b ↦ outside_of c old new place f b.0 ∙ a.inside place l b.1
      ];
  outside = λ place l h.
      let b = or_false (is_inside cs place) (covers c place) (sym (inside_more cs c place) ∙ h) in
      outside_of c old new place f b.1 ∙ a.outside place l b.0;
}

pub none_filled : (text old : List ℕ) → old ≡ text → AreSpaces text [] old
none_filled text old e = record {
  size = ap length e;
  inside = λ place l h. absurd (false≢true h);
  outside = λ place l h. ap (λ bs. get_or bs place 0) e;
}

-- the comment's bytes before the place became spaces
pub record IsFilledTo (c : Comment) (to : ℕ) (old new : List ℕ) : Type 0 where
  pub size : length new ≡ length old
  pub from : c.start ≤ to
  pub near : (to ≤ c.end) ⊎ (to ≡ c.start)
  pub inside : (place : ℕ) → place < length old → c.start ≤ place → place < to → get_or new place 0 ≡ 32
  pub before : (place : ℕ) → place < c.start → get_or new place 0 ≡ get_or old place 0
  pub after : (place : ℕ) → to ≤ place → get_or new place 0 ≡ get_or old place 0

pub not_filled : (c : Comment) (old : List ℕ) → IsFilledTo c c.start old old
not_filled c old = record {
  size = refl;
  from = omega arith;
  near = inr refl;
  inside = λ place l a b. absurd (omega (arith, a, b));
  before = λ place l. refl;
  after = λ place l. refl;
}

pub filled_more : (c : Comment) (at : ℕ) (old new : List ℕ) → IsFilledTo c at old new → at < c.end → at < length new
    → IsFilledTo c (at + 1) old (set new at 32)
filled_more c at old new f l m = record {
  size = length-set new at 32 ∙ f.size;
  from = omega (arith, f.from);
  near = inl (omega (arith, l));
  inside = λ place in_old a b.
      elim (cases_lt place at) [
        | inl k ↦ get_or-set_other new at place 32 0 (λ e. no (omega (arith, k, e))) ∙ f.inside place in_old a k
        | inr k ↦ let same : place ≡ at = omega (arith, k, b) in
            ap (λ n. get_or (set new at 32) n 0) same ∙ get_or-set_same new at 32 0 m
      ];
  before = λ place k. get_or-set_other new at place 32 0 (λ e. no (omega (arith, k, e, f.from))) ∙ f.before place k;
  after = λ place k. get_or-set_other new at place 32 0 (λ e. no (omega (arith, k, e))) ∙ f.after place (omega (arith, k));
}
  where
    no : ⊥ → ⊥
    no h = h

pub filled_all : (c : Comment) (at : ℕ) (old new : List ℕ) → IsFilledTo c at old new
    → (c.end ≤ at) ⊎ (length new ≤ at) → IsFilled c old new
filled_all c at old new f h = record {
  size = f.size;
  inside = λ place l a b. f.inside place l a (reaches place l a b h f.near);
  before = f.before;
  after = λ place k. past place k f.near h;
}
  where
    reaches : (place : ℕ) → place < length old → c.start ≤ place → place < c.end → (c.end ≤ at) ⊎ (length new ≤ at)
        → (at ≤ c.end) ⊎ (at ≡ c.start) → place < at
    reaches place l a b (inl e) n = omega (arith, b, e)
    reaches place l a b (inr e) n = omega (arith, l, e, f.size)

    past : (place : ℕ) → c.end ≤ place → (at ≤ c.end) ⊎ (at ≡ c.start) → (c.end ≤ at) ⊎ (length new ≤ at)
        → get_or new place 0 ≡ get_or old place 0
    past place k (inl e) q = f.after place (omega (arith, e, k))
    past place k (inr e) q = elim (cases_lt place c.start) [
      | inl b ↦ f.before place b
      | inr b ↦ f.after place (omega (arith, e, b))
    ]

-- a comment more of those that are there
pub fill_next : (text : List ℕ) (cs : List Comment) (i : ℕ) (d : Comment) (old new : List ℕ) → i < length cs
    → AreSpaces text (take i cs) old → IsFilled (get_or cs i d) old new → AreSpaces text (take (i + 1) cs) new
fill_next text cs i d old new l a f =
    subst (λ ds. AreSpaces text ds new) (sym (take_more cs i d l)) (fill_more text (take i cs) (get_or cs i d) old new a f)

pub fill_all : (text : List ℕ) (cs : List Comment) (i : ℕ) (new : List ℕ) → length cs ≤ i → AreSpaces text (take i cs) new
    → AreSpaces text cs new
fill_all text cs i new l a = subst (λ ds. AreSpaces text ds new) (take_all i cs l) a
