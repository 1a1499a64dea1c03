-- Laws of pairings of two lists.
use Rattle.std.proofs.Common.{◌≡◌, ◌≢◌, ℕ, zero, suc, ◌+◌, ◌≤◌, List, [], ◌∷◌, ◌++◌, length, refl, sym, ap, ◌∙◌, subst, append_assoc, append-nil, arith}
use Rattle.std.specs.Prelude.{replicate}
use Rattle.psg_lexis.specs.declared.token.Token.{Token}
use Rattle.psg_keeping.specs.declared.pairing.Step.{Step}
use Rattle.psg_keeping.specs.declared.pairing.Step.TheVariants as steps
use Rattle.psg_keeping.specs.Pairing.{ArePairs, ends, both, old_alone, new_alone, pairs, IsMost}
use Rattle.psg_keeping.specs.Rows.{IsBest}

tail_is : {X : Type 0} (x y : X) (xs ys : List X) → x ∷ xs ≡ y ∷ ys → xs ≡ ys
tail_is x y xs ys e = cc

head_is : {X : Type 0} (x y : X) (xs ys : List X) → x ∷ xs ≡ y ∷ ys → x ≡ y
head_is x y xs ys e = cc

no_cons : {X : Type 0} (y : X) (ys : List X) → [] ≡ y ∷ ys → ⊥
no_cons y ys e = absurd (cc)

no_last : {X : Type 0} (xs : List X) (t : X) → [] ≡ xs ++ t ∷ [] → ⊥
no_last [] t e = no_cons t [] e
no_last (x ∷ xs) t e = no_cons x (xs ++ t ∷ []) e

-- ---- how many tokens can be paired at most

pub within_old : (old new : List Token) (s : List Step) → ArePairs old new s → pairs s ≤ length old
within_old _ _ _ ends = omega arith
within_old _ _ _ (both t old new more h) = omega (arith, within_old old new more h)
within_old _ _ _ (old_alone t old new more h) = omega (arith, within_old old new more h)
within_old _ _ _ (new_alone t old new more h) = within_old old new more h

pub within_new : (old new : List Token) (s : List Step) → ArePairs old new s → pairs s ≤ length new
within_new _ _ _ ends = omega arith
within_new _ _ _ (both t old new more h) = omega (arith, within_new old new more h)
within_new _ _ _ (old_alone t old new more h) = within_new old new more h
within_new _ _ _ (new_alone t old new more h) = omega (arith, within_new old new more h)

-- without its first token one less can be paired at most
without_new : (old new : List Token) (s : List Step) → ArePairs old new s → (u : Token) (ys : List Token) → new ≡ u ∷ ys
    → (s' : List Step) × ArePairs old ys s' × (pairs s ≤ pairs s' + 1)
without_new _ _ _ ends u ys e = absurd (no_cons u ys e)
without_new _ _ _ (both t old new more h) u ys e = (
  steps.Old ∷ more,
  subst (λ zs. ArePairs (t ∷ old) zs (steps.Old ∷ more)) (tail_is t u new ys e) (old_alone t old new more h),
  omega arith,
)
without_new _ _ _ (old_alone t old new more h) u ys e =
    let r = without_new old new more h u ys e in
    (steps.Old ∷ r.0, old_alone t old ys r.0 r.1, r.2)
without_new _ _ _ (new_alone t old new more h) u ys e =
    (more, subst (λ zs. ArePairs old zs more) (tail_is t u new ys e) h, omega arith)

without_old : (old new : List Token) (s : List Step) → ArePairs old new s → (u : Token) (xs : List Token) → old ≡ u ∷ xs
    → (s' : List Step) × ArePairs xs new s' × (pairs s ≤ pairs s' + 1)
without_old _ _ _ ends u xs e = absurd (no_cons u xs e)
without_old _ _ _ (both t old new more h) u xs e = (
  steps.New ∷ more,
  subst (λ zs. ArePairs zs (t ∷ new) (steps.New ∷ more)) (tail_is t u old xs e) (new_alone t old new more h),
  omega arith,
)
without_old _ _ _ (old_alone t old new more h) u xs e =
    (more, subst (λ zs. ArePairs zs new more) (tail_is t u old xs e) h, omega arith)
without_old _ _ _ (new_alone t old new more h) u xs e =
    let r = without_old old new more h u xs e in
    (steps.New ∷ r.0, new_alone t xs new r.0 r.1, r.2)

-- ---- nothing paired

pub olds_alone : (xs : List Token) → ArePairs xs [] (replicate (length xs) steps.Old)
olds_alone [] = ends
olds_alone (x ∷ xs) = old_alone x xs [] (replicate (length xs) steps.Old) (olds_alone xs)

pub news_alone : (ys : List Token) → ArePairs [] ys (replicate (length ys) steps.New)
news_alone [] = ends
news_alone (y ∷ ys) = new_alone y [] ys (replicate (length ys) steps.New) (news_alone ys)

pub all_alone : (xs ys : List Token) → ArePairs xs ys (replicate (length xs) steps.Old ++ replicate (length ys) steps.New)
all_alone [] ys = news_alone ys
all_alone (x ∷ xs) ys =
    old_alone x xs ys (replicate (length xs) steps.Old ++ replicate (length ys) steps.New) (all_alone xs ys)

pub pairs-append : (a b : List Step) → pairs (a ++ b) ≡ pairs a + pairs b
pairs-append [] b = omega arith
pairs-append (steps.Both ∷ a) b = omega (arith, pairs-append a b)
pairs-append (steps.Old ∷ a) b = pairs-append a b
pairs-append (steps.New ∷ a) b = pairs-append a b

pub pairs-olds : (n : ℕ) → pairs (replicate n steps.Old) ≡ 0
pairs-olds zero = refl
pairs-olds (suc n) = pairs-olds n

pub pairs-news : (n : ℕ) → pairs (replicate n steps.New) ≡ 0
pairs-news zero = refl
pairs-news (suc n) = pairs-news n

pub pairs-boths : (n : ℕ) → pairs (replicate n steps.Both) ≡ n
pairs-boths zero = refl
pairs-boths (suc n) = omega (arith, pairs-boths n)

-- ---- the best that can be done

pub best_of : (old new : List Token) (s : List Step) → ArePairs old new s → IsMost old new s → IsBest old new (pairs s)
best_of old new s h most = record { steps = s; are = h; counted = refl; most = most }

pub most_of : (old new : List Token) (s : List Step) (n : ℕ) → IsBest old new n → n ≤ pairs s → IsMost old new s
most_of old new s n b l other h = omega (arith, b.most other h, l)

pub one_best : (old new : List Token) (m n : ℕ) → IsBest old new m → IsBest old new n → m ≡ n
one_best old new m n a b = omega (arith, a.counted, b.counted, a.most b.steps b.are, b.most a.steps a.are)

pub best_within : (old new : List Token) (n : ℕ) → IsBest old new n → n ≤ length new
best_within old new n b = omega (arith, b.counted, within_new old new b.steps b.are)

pub best_left : (ys : List Token) → IsBest [] ys 0
best_left ys = record {
  steps = replicate (length ys) steps.New;
  are = news_alone ys;
  counted = pairs-news (length ys);
  most = λ other h. within_old [] ys other h;
}

pub best_right : (xs : List Token) → IsBest xs [] 0
best_right xs = record {
  steps = replicate (length xs) steps.Old;
  are = olds_alone xs;
  counted = pairs-olds (length xs);
  most = λ other h. within_new xs [] other h;
}

module _ (t : Token) (xs ys : List Token) (n : ℕ) (b : IsBest xs ys n) where
  most_both : (old new : List Token) (s : List Step) → ArePairs old new s → old ≡ t ∷ xs → new ≡ t ∷ ys → pairs s ≤ n + 1
  most_both _ _ _ ends e f = absurd (no_cons t xs e)
  most_both _ _ _ (both a old new more h) e f =
      omega (
        arith,
        b.most more (subst (λ zs. ArePairs xs zs more) (tail_is a t new ys f)
            (subst (λ zs. ArePairs zs new more) (tail_is a t old xs e) h)),
      )
  most_both _ _ _ (old_alone a old new more h) e f =
      let r = without_new xs new more (subst (λ zs. ArePairs zs new more) (tail_is a t old xs e) h) t ys f in
      omega (arith, r.2, b.most r.0 r.1)
  most_both _ _ _ (new_alone a old new more h) e f =
      let r = without_old old ys more (subst (λ zs. ArePairs old zs more) (tail_is a t new ys f) h) t xs e in
      omega (arith, r.2, b.most r.0 r.1)

pub best_both : (t : Token) (xs ys : List Token) (n : ℕ) → IsBest xs ys n → IsBest (t ∷ xs) (t ∷ ys) (n + 1)
best_both t xs ys n b = record {
  steps = steps.Both ∷ b.steps;
  are = both t xs ys b.steps b.are;
  counted = omega (arith, b.counted);
  most = λ other h. most_both t xs ys n b (t ∷ xs) (t ∷ ys) other h refl refl;
}

module _ (t u : Token) (xs ys : List Token) (m n : ℕ) (other : t ≢ u) (a : IsBest xs (u ∷ ys) m) (b : IsBest (t ∷ xs) ys n) where
  most_other : (k : ℕ) → m ≤ k → n ≤ k → (old new : List Token) (s : List Step) → ArePairs old new s → old ≡ t ∷ xs
      → new ≡ u ∷ ys → pairs s ≤ k
  most_other k l r _ _ _ ends e f = absurd (no_cons t xs e)
  most_other k l r _ _ _ (both z old new more h) e f =
      absurd (other (sym (head_is z t old xs e) ∙ head_is z u new ys f))
  most_other k l r _ _ _ (old_alone z old new more h) e f =
      omega (arith, l, a.most more (subst (λ zs. ArePairs xs zs more) f (subst (λ zs. ArePairs zs new more) (tail_is z t old xs e) h)))
  most_other k l r _ _ _ (new_alone z old new more h) e f =
      omega (arith, r, b.most more (subst (λ zs. ArePairs zs ys more) e (subst (λ zs. ArePairs old zs more) (tail_is z u new ys f) h)))

  pub best_old : n ≤ m → IsBest (t ∷ xs) (u ∷ ys) m
  best_old l = record {
    steps = steps.Old ∷ a.steps;
    are = old_alone t xs (u ∷ ys) a.steps a.are;
    counted = a.counted;
    most = λ s h. most_other m (omega arith) l (t ∷ xs) (u ∷ ys) s h refl refl;
  }

  pub best_new : m ≤ n → IsBest (t ∷ xs) (u ∷ ys) n
  best_new l = record {
    steps = steps.New ∷ b.steps;
    are = new_alone u (t ∷ xs) ys b.steps b.are;
    counted = b.counted;
    most = λ s h. most_other n l (omega arith) (t ∷ xs) (u ∷ ys) s h refl refl;
  }

-- ---- a token more at the end of both lists

without_last : (t : Token) (xs ys old new : List Token) (s : List Step) → ArePairs old new s → old ≡ xs ++ t ∷ []
    → new ≡ ys ++ t ∷ [] → (s' : List Step) × ArePairs xs ys s' × (pairs s ≤ pairs s' + 1)
without_last t xs ys _ _ _ ends e f = absurd (no_last xs t e)
without_last t [] ys _ _ _ (both a old new more h) e f =
    let none : length old ≡ 0 = ap length (tail_is a t old [] e) in
    (replicate (length ys) steps.New, news_alone ys, omega (arith, none, within_old old new more h))
without_last t (x ∷ xs) [] _ _ _ (both a old new more h) e f =
    let none : length new ≡ 0 = ap length (tail_is a t new [] f) in
    (replicate (length (x ∷ xs)) steps.Old, olds_alone (x ∷ xs), omega (arith, none, within_new old new more h))
without_last t (x ∷ xs) (y ∷ ys) _ _ _ (both a old new more h) e f =
    let r = without_last t xs ys old new more h (tail_is a x old (xs ++ t ∷ []) e) (tail_is a y new (ys ++ t ∷ []) f) in (
      steps.Both ∷ r.0,
      subst (λ z. ArePairs (x ∷ xs) (z ∷ ys) (steps.Both ∷ r.0))
          (sym (head_is a x old (xs ++ t ∷ []) e) ∙ head_is a y new (ys ++ t ∷ []) f) (both x xs ys r.0 r.1),
      omega (arith, r.2),
    )
without_last t [] ys _ _ _ (old_alone a old new more h) e f =
    let none : length old ≡ 0 = ap length (tail_is a t old [] e) in
    (replicate (length ys) steps.New, news_alone ys, omega (arith, none, within_old old new more h))
without_last t (x ∷ xs) ys _ _ _ (old_alone a old new more h) e f =
    let r = without_last t xs ys old new more h (tail_is a x old (xs ++ t ∷ []) e) f in
    (steps.Old ∷ r.0, old_alone x xs ys r.0 r.1, r.2)
without_last t xs [] _ _ _ (new_alone a old new more h) e f =
    let none : length new ≡ 0 = ap length (tail_is a t new [] f) in
    (replicate (length xs) steps.Old, olds_alone xs, omega (arith, none, within_new old new more h))
without_last t xs (y ∷ ys) _ _ _ (new_alone a old new more h) e f =
    let r = without_last t xs ys old new more h e (tail_is a y new (ys ++ t ∷ []) f) in
    (steps.New ∷ r.0, new_alone y xs ys r.0 r.1, r.2)

-- ---- the same tokens at the beginning and at the end

pub pairs_back : (old new : List Token) (s : List Step) (back : List Token) → ArePairs old new s
    → ArePairs (old ++ back) (new ++ back) (s ++ replicate (length back) steps.Both)
pairs_back _ _ _ back ends = all back where
  all : (back : List Token) → ArePairs back back (replicate (length back) steps.Both)
  all [] = ends
  all (t ∷ back) = both t back back (replicate (length back) steps.Both) (all back)
pairs_back _ _ _ back (both t old new more h) =
    both t (old ++ back) (new ++ back) (more ++ replicate (length back) steps.Both) (pairs_back old new more back h)
pairs_back _ _ _ back (old_alone t old new more h) =
    old_alone t (old ++ back) (new ++ back) (more ++ replicate (length back) steps.Both) (pairs_back old new more back h)
pairs_back _ _ _ back (new_alone t old new more h) =
    new_alone t (old ++ back) (new ++ back) (more ++ replicate (length back) steps.Both) (pairs_back old new more back h)

pub pairs_front : (front old new : List Token) (s : List Step) → ArePairs old new s
    → ArePairs (front ++ old) (front ++ new) (replicate (length front) steps.Both ++ s)
pairs_front [] old new s h = h
pairs_front (t ∷ front) old new s h =
    both t (front ++ old) (front ++ new) (replicate (length front) steps.Both ++ s) (pairs_front front old new s h)

best_last : (t : Token) (xs ys : List Token) (n : ℕ) → IsBest xs ys n → IsBest (xs ++ t ∷ []) (ys ++ t ∷ []) (n + 1)
best_last t xs ys n b = record {
  steps = b.steps ++ steps.Both ∷ [];
  are = pairs_back xs ys b.steps (t ∷ []) b.are;
  counted = omega (arith, pairs-append b.steps (steps.Both ∷ []), b.counted);
  most = λ s h. let r = without_last t xs ys (xs ++ t ∷ []) (ys ++ t ∷ []) s h refl refl in omega (arith, r.2, b.most r.0 r.1);
}

pub best_back : (xs ys back : List Token) (n : ℕ) → IsBest xs ys n → IsBest (xs ++ back) (ys ++ back) (n + length back)
best_back xs ys [] n b =
    let none : n ≡ n + 0 = omega arith in
    subst (λ k. IsBest (xs ++ []) (ys ++ []) k) none
    (subst (λ zs. IsBest (xs ++ []) zs n) (sym (append-nil ys)) (subst (λ zs. IsBest zs ys n) (sym (append-nil xs)) b))
best_back xs ys (t ∷ back) n b =
    let r : IsBest (xs ++ t ∷ [] ++ back) (ys ++ t ∷ [] ++ back) (n + 1 + length back) =
    best_back (xs ++ t ∷ []) (ys ++ t ∷ []) back (n + 1) (best_last t xs ys n b) in
    let more : n + 1 + length back ≡ n + length (t ∷ back) = omega arith in
    subst (λ k. IsBest (xs ++ t ∷ back) (ys ++ t ∷ back) k) more
    (subst (λ zs. IsBest (xs ++ t ∷ back) zs (n + 1 + length back)) (append_assoc ys (t ∷ []) back)
    (subst (λ zs. IsBest zs (ys ++ t ∷ [] ++ back) (n + 1 + length back)) (append_assoc xs (t ∷ []) back) r))

pub best_front : (front old new : List Token) (n : ℕ) → IsBest old new n → IsBest (front ++ old) (front ++ new) (length front + n)
best_front [] old new n b = let none : n ≡ 0 + n = omega arith in subst (λ k. IsBest old new k) none b
best_front (t ∷ front) old new n b =
    let more : length front + n + 1 ≡ length (t ∷ front) + n = omega arith in
    subst (λ k. IsBest (t ∷ front ++ old) (t ∷ front ++ new) k) more
    (best_both t (front ++ old) (front ++ new) (length front + n) (best_front front old new n b))

-- the steps of both lists as they are put together
abbrev pub whole_steps : List Token → List Token → List Step → List Step
whole_steps front back middle =
    replicate (length front) steps.Both ++ (middle ++ replicate (length back) steps.Both)

pub whole_pairs : (front own other back : List Token) (middle : List Step) → ArePairs own other middle
    → ArePairs (front ++ (own ++ back)) (front ++ (other ++ back)) (whole_steps front back middle)
whole_pairs front own other back middle h =
    pairs_front front (own ++ back) (other ++ back) (middle ++ replicate (length back) steps.Both)
    (pairs_back own other middle back h)

pub whole_most : (front own other back : List Token) (middle : List Step) → ArePairs own other middle → IsMost own other middle
    → IsMost (front ++ (own ++ back)) (front ++ (other ++ back)) (whole_steps front back middle)
whole_most front own other back middle h most =
    most_of (front ++ (own ++ back)) (front ++ (other ++ back)) (whole_steps front back middle)
    (length front + (pairs middle + length back))
    (best_front front (own ++ back) (other ++ back) (pairs middle + length back)
    (best_back own other back (pairs middle) (best_of own other middle h most)))
    (omega (
      arith,
      pairs-append (replicate (length front) steps.Both) (middle ++ replicate (length back) steps.Both),
      pairs-append middle (replicate (length back) steps.Both),
      pairs-boths (length front),
      pairs-boths (length back),
    ))
