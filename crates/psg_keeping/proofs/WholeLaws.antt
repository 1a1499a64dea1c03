-- Lists that begin and end alike.
use Rattle.std.proofs.Common.{◌≡◌, inl, inr, arith, ℕ, ◌+◌, ◌-◌, ◌<◌, ◌≤◌, ◌*◌, ◌⊎◌, List, [], ◌∷◌, ◌++◌, length, take, drop, get_or, sym, ap, ◌∙◌, subst, append_assoc}
use Rattle.std.specs.Prelude.{replicate, reverse}
use Rattle.std.proofs.lemmas.List.{drop_all, drop_more, length-take-le, reverse-append, take-append-drop, take_more}
use Rattle.psg_lexis.specs.declared.token.Token.{Token}
use Rattle.psg_keeping.specs.declared.pairing.Step.{Step}
use Rattle.psg_keeping.specs.declared.pairing.Step.TheVariants as steps
use Rattle.psg_keeping.specs.Pairing.{ArePairs, BeginApart, EndApart, IsFar, IsMost, alone, most_cells}
use Rattle.psg_keeping.specs.Rows.{end_of}
use Rattle.psg_keeping.proofs.PairLaws.{whole_most, whole_pairs, whole_steps}
use Rattle.psg_keeping.proofs.RowLaws.{end_more, length-end}

pub front_more : (old new : List Token) (n : ℕ) (t u : Token) → take n old ≡ take n new → n < length old → n < length new
    → t ≡ get_or old n t → u ≡ get_or new n u → t ≡ u → take (n + 1) old ≡ take (n + 1) new
front_more old new n t u same lo ln et eu e =
    take_more old n t lo ∙ ap (λ l. l ++ get_or old n t ∷ []) same
    ∙ ap (λ z. take n new ++ z ∷ []) (sym et ∙ e ∙ eu) ∙ sym (take_more new n u ln)

pub front_apart : (old new : List Token) (n : ℕ) (t u : Token) → n < length old → n < length new → t ≡ get_or old n t
    → u ≡ get_or new n u → (t ≡ u → ⊥) → BeginApart (drop n old) (drop n new)
front_apart old new n t u lo ln et eu other =
    subst (λ l. BeginApart l (drop n new)) (sym (drop_more old n t lo))
    (subst (λ l. BeginApart (get_or old n t ∷ drop (n + 1) old) l) (sym (drop_more new n u ln))
    (λ e. other (et ∙ e ∙ sym eu)))

pub front_over : (old new : List Token) (n : ℕ) → (length old ≤ n) ⊎ (length new ≤ n) → BeginApart (drop n old) (drop n new)
front_over old new n (inl l) = subst (λ z. BeginApart z (drop n new)) (sym (drop_all n old l)) tt
front_over old new n (inr l) = subst (λ z. BeginApart (drop n old) z) (sym (drop_all n new l)) (none (drop n old)) where
  none : (xs : List Token) → BeginApart xs []
  none [] = tt
  none (x ∷ xs) = tt

pub back_more : (old new : List Token) (n : ℕ) (t u : Token) → end_of n old ≡ end_of n new → n < length old → n < length new
    → t ≡ get_or old (length old - 1 - n) t → u ≡ get_or new (length new - 1 - n) u → t ≡ u
    → end_of (n + 1) old ≡ end_of (n + 1) new
back_more old new n t u same lo ln et eu e =
    end_more old n t lo ∙ ap (λ z. z ∷ end_of n old) (sym et ∙ e ∙ eu)
    ∙ ap (λ l. get_or new (length new - 1 - n) u ∷ l) same ∙ sym (end_more new n u ln)

last_same : (xs ys : List Token) (a b : Token) → xs ++ a ∷ [] ≡ ys ++ b ∷ [] → a ≡ b
last_same xs ys a b e =
    let p : a ∷ reverse xs ≡ b ∷ reverse ys = sym (reverse-append xs (a ∷ [])) ∙ ap reverse e ∙ reverse-append ys (b ∷ []) in
    cc

no_last : (xs : List Token) (t : Token) → [] ≡ xs ++ t ∷ [] → ⊥
no_last [] t e = absurd (cc)
no_last (x ∷ xs) t e = absurd (cc)

last_is : (xs before : List Token) (n : ℕ) (t s : Token) → n < length xs → t ≡ get_or xs (length xs - 1 - n) t
    → take (length xs - n) xs ≡ before ++ s ∷ [] → t ≡ s
last_is xs before n t s l et e =
    et ∙ last_same (take (length xs - 1 - n) xs) before (get_or xs (length xs - 1 - n) t) s
    (sym (take_more xs (length xs - 1 - n) t (omega (arith, l)))
    ∙ ap (λ k. take k xs) (omega (arith, l)) ∙ e)

pub back_apart : (old new : List Token) (n : ℕ) (t u : Token) → n < length old → n < length new
    → t ≡ get_or old (length old - 1 - n) t → u ≡ get_or new (length new - 1 - n) u → (t ≡ u → ⊥)
    → EndApart (take (length old - n) old) (take (length new - n) new)
back_apart old new n t u lo ln et eu other before rest s e d =
    other (last_is old before n t s lo et e ∙ sym (last_is new rest n u s ln eu d))

over : (xs before : List Token) (n : ℕ) (s : Token) → length xs ≤ n → take (length xs - n) xs ≡ before ++ s ∷ [] → ⊥
over xs before n s l e = let z : 0 ≡ length xs - n = omega (arith, l) in no_last before s (ap (λ k. take k xs) z ∙ e)

pub back_over : (old new : List Token) (n : ℕ) → (length old ≤ n) ⊎ (length new ≤ n)
    → EndApart (take (length old - n) old) (take (length new - n) new)
back_over old new n (inl l) before rest s e d = over old before n s l e
back_over old new n (inr l) before rest s e d = over new rest n s l d

-- the lists as they are cut: a front that is the same, what is left of each, and a back that is the same
pub record IsCutUp (old new own other : List Token) (f b : ℕ) : Type 0 where
  pub front : take f old ≡ take f new
  pub back : end_of b (drop f old) ≡ end_of b (drop f new)
  pub front_old : f ≤ length old
  pub back_old : b ≤ length (drop f old)
  pub own_is : own ≡ take (length (drop f old) - b) (drop f old)
  pub other_is : other ≡ take (length (drop f new) - b) (drop f new)
  pub apart : BeginApart (drop f old) (drop f new)
  pub apart_at_end : EndApart (take (length (drop f old) - b) (drop f old)) (take (length (drop f new) - b) (drop f new))

begin_apart : (own other back : List Token) → BeginApart (own ++ back) (other ++ back) → BeginApart own other
begin_apart [] other back a = tt
begin_apart (t ∷ own) [] back a = tt
begin_apart (t ∷ own) (u ∷ other) back a = a

module _ (old new own other : List Token) (f b : ℕ) (c : IsCutUp old new own other f b) where
  abbrev front : List Token
  front = take f old

  abbrev back : List Token
  back = end_of b (drop f old)

  olds : own ++ back ≡ drop f old
  olds = ap (λ l. l ++ back) c.own_is ∙ take-append-drop (length (drop f old) - b) (drop f old)

  news : other ++ back ≡ drop f new
  news = ap (λ l. l ++ back) c.other_is ∙ ap (λ l. take (length (drop f new) - b) (drop f new) ++ l) c.back
      ∙ take-append-drop (length (drop f new) - b) (drop f new)

  pub old_is : old ≡ front ++ (own ++ back)
  old_is = sym (ap (λ l. front ++ l) olds ∙ take-append-drop f old)

  pub new_is : new ≡ front ++ (other ++ back)
  new_is = sym (ap (λ l. front ++ l) news ∙ ap (λ l. l ++ drop f new) c.front ∙ take-append-drop f new)

  module _ (middle result : List Step) (h : ArePairs own other middle)
      (is : result ≡ replicate f steps.Both ++ middle ++ replicate b steps.Both) where
    same : whole_steps front back middle ≡ result
    same =
        ap (λ n. replicate n steps.Both ++ (middle ++ replicate (length back) steps.Both)) (length-take-le f old c.front_old)
        ∙ ap (λ n. replicate f steps.Both ++ (middle ++ replicate n steps.Both)) (length-end (drop f old) b c.back_old)
        ∙ sym (append_assoc (replicate f steps.Both) middle (replicate b steps.Both)) ∙ sym is

    pub cut_pairs : ArePairs old new result
    cut_pairs =
        subst (λ l. ArePairs l new result) (sym old_is)
        (subst (λ l. ArePairs (front ++ (own ++ back)) l result) (sym new_is)
        (subst (λ s. ArePairs (front ++ (own ++ back)) (front ++ (other ++ back)) s) same
        (whole_pairs front own other back middle h)))

    pub cut_most : ((most_cells < length own * length other) × (middle ≡ alone (length own) (length other)))
        ⊎ IsMost own other middle → IsFar old new result ⊎ IsMost old new result
    cut_most (inl far) = inl (record {
      front = front;
      own = own;
      other = other;
      back = back;
      old_is = old_is;
      new_is = new_is;
      apart = begin_apart own other back
          (subst (λ l. BeginApart l (other ++ back)) (sym olds) (subst (λ l. BeginApart (drop f old) l) (sym news) c.apart));
      apart_at_end = subst (λ l. EndApart l other) (sym c.own_is)
          (subst (λ l. EndApart (take (length (drop f old) - b) (drop f old)) l) (sym c.other_is) c.apart_at_end);
      far = far.0;
      taken_are = sym same ∙ ap (λ m. whole_steps front back m) far.1;
    })
    cut_most (inr most) = inr
        (subst (λ l. IsMost l new result) (sym old_is)
        (subst (λ l. IsMost (front ++ (own ++ back)) l result) (sym new_is)
        (subst (λ s. IsMost (front ++ (own ++ back)) (front ++ (other ++ back)) s) same
        (whole_most front own other back middle h most))))

pub cut_by : (old new r1 r2 own other : List Token) (f b : ℕ) → r1 ≡ drop f old → r2 ≡ drop f new
    → own ≡ take (length r1 - b) r1 → other ≡ take (length r2 - b) r2 → take f old ≡ take f new → end_of b r1 ≡ end_of b r2
    → f ≤ length old → b ≤ length r1 → BeginApart (drop f old) (drop f new)
    → EndApart (take (length r1 - b) r1) (take (length r2 - b) r2) → IsCutUp old new own other f b
cut_by old new r1 r2 own other f b e1 e2 o1 o2 front back lo lb apart apart_at_end = record {
  front = front;
  back = ap (λ r. end_of b r) (sym e1) ∙ back ∙ ap (λ r. end_of b r) e2;
  front_old = lo;
  back_old = subst (λ r. b ≤ length r) e1 lb;
  own_is = o1 ∙ ap (λ r. take (length r - b) r) e1;
  other_is = o2 ∙ ap (λ r. take (length r - b) r) e2;
  apart = apart;
  apart_at_end = subst (λ r. EndApart (take (length r - b) r) (take (length (drop f new) - b) (drop f new))) e1
      (subst (λ r. EndApart (take (length r1 - b) r1) (take (length r - b) r)) e2 apart_at_end);
}
