-- The answers of the search, one after the other.
use Rattle.std.proofs.Common.{◌≡◌, ◌⊎◌, ◌↔◌, inl, inr, ℕ, zero, suc, ◌+◌, ◌<◌, ◌≤◌, ◌==◌, ◌&&◌, not, Bool, true, false, cond, List, [], ◌∷◌, ◌++◌, length, take, ◌^◌, refl, ap, sym, ◌∙◌, subst, arith, true≢false, length-append}
use Rattle.std.proofs.lemmas.Bool.{cases_lt, cases_eq, lt-ltb, le-ltb, eq-eqb, ne_eqb}
use Rattle.std.specs.Prelude.{Result, IfErr, IsErrAnd}
use Rattle.std.proofs.lemmas.Result.{err_from_is_err_and}
use Rattle.std.proofs.lemmas.List.{take_all}
use Rattle.psg_terms.specs.Names.{Name}
use Rattle.psg_terms.proofs.Lists.{slice_get_some, slice_get-front, slice_get-end}
use Rattle.psg_grammar.specs.declared.types.Definition.{Definition}
use Rattle.psg_grammar.specs.Fragments.{Fragment}
use Rattle.psg_cache.specs.Notes.{IsNoteFault}
use Rattle.psg_cache.specs.declared.note.NoteFault.{NoteFault}
use Rattle.psg_places.specs.declared.fault.BlameFault.{BlameFault}
use Rattle.psg_places.specs.declared.fault.BlameFault.TheVariants.{Limit, Memory}
use Rattle.psg_places.specs.Answers.{IsBlameFault, IsLimitOf, IsNext, IsTrialFault}
use Rattle.psg_places.specs.Blame.{AreAllAnswers, AreAnswers, IsBlameUpTo, IsForAllNames, blamed_in, front, is_some_true}
use Rattle.psg_places.specs.Blame.{kept_in, kept_of_first, most_blamed, none_kept, up_to}
use Rattle.psg_places.specs.NewNames.{AreNew, IsFront, new_name}
use Rattle.psg_places.specs.Opened.{opened}
use Rattle.psg_places.specs.Places.{place_count}
use Rattle.psg_places.proofs.NewNameLaws.{all_new}
use Rattle.psg_places.proofs.OfPlacesLaws.{of_places}
use Rattle.psg_places.proofs.Whole.{whole}
use Rattle.psg_places.proofs.BlameLaws.{grown, same_up_to}

-- ---- what is kept by a list of answers

pub past : (xs : List Bool) (n : ℕ) → length xs ≤ n → kept_in xs n ≡ false
past [] zero le = refl
past [] (suc n) le = refl
past (x ∷ xs) zero le = absurd (omega (arith, le))
past (x ∷ xs) (suc n) le = past xs n (omega (arith, le))

pub kept_front : (xs ys : List Bool) (n : ℕ) → n < length xs → kept_in (xs ++ ys) n ≡ kept_in xs n
kept_front xs ys n lt =
    let (b, at) = slice_get_some xs n lt in
    ap is_some_true (slice_get-front xs ys n b at) ∙ sym (ap is_some_true at)

pub kept_end : (xs : List Bool) (b : Bool) → kept_in (xs ++ b ∷ []) (length xs) ≡ b
kept_end xs b = ap is_some_true (slice_get-end xs b)

next_at : (xs : List Bool) (m : ℕ) → kept_in (xs ++ true ∷ []) m ≡ up_to (kept_in xs) (length xs) m
next_at xs m = elim (cases_lt m (length xs)) [
  | inl below ↦
      subst (λ b. kept_in (xs ++ true ∷ []) m ≡ cond b (kept_in xs m) (m == length xs)) (sym (lt-ltb m (length xs) below))
      (kept_front xs (true ∷ []) m below)
  | inr above ↦
      subst (λ b. kept_in (xs ++ true ∷ []) m ≡ cond b (kept_in xs m) (m == length xs)) (sym (le-ltb m (length xs) above))
      (elim (cases_eq m (length xs)) [
        | inl same ↦
            subst (λ b. kept_in (xs ++ true ∷ []) m ≡ b) (sym (eq-eqb m (length xs) same))
            (subst (λ k. kept_in (xs ++ true ∷ []) k ≡ true) (sym same) (kept_end xs true))
        | inr other ↦
            subst (λ b. kept_in (xs ++ true ∷ []) m ≡ b) (sym (ne_eqb m (length xs) other))
            (past (xs ++ true ∷ []) m (omega (arith, above, other, length-append xs (true ∷ []))))
      ])
]

-- with the next place kept, the tree is its front
pub next_kept : (xs : List Bool) → kept_in (xs ++ true ∷ []) ≡ up_to (kept_in xs) (length xs)
next_kept xs = λ i m. next_at xs m i

first_at : (xs : List Bool) (m : ℕ) → kept_of_first (kept_in xs) (length xs) m ≡ kept_in xs m
first_at xs m = elim (cases_lt m (length xs)) [
  | inl below ↦ ap (λ b. b && kept_in xs m) (lt-ltb m (length xs) below)
  | inr above ↦ ap (λ b. b && kept_in xs m) (le-ltb m (length xs) above) ∙ sym (past xs m above)
]

-- only the answers' places are kept
first_kept : (xs : List Bool) → kept_of_first (kept_in xs) (length xs) ≡ kept_in xs
first_kept xs = λ i m. first_at xs m i

none_at : (m : ℕ) → none_kept m ≡ kept_in [] m
none_at m = sym (past [] m (omega arith))

pub none_is : none_kept ≡ kept_in []
none_is = λ i m. none_at m i

blamed_push : (xs : List Bool) (b : Bool) → blamed_in (xs ++ b ∷ []) ≡ blamed_in xs + cond b 0 1
blamed_push [] b = omega arith
blamed_push (x ∷ xs) b = let e = blamed_push xs b in omega (arith, e)

take_front : (xs : List Bool) (b : Bool) (n : ℕ) → n ≤ length xs → take n (xs ++ b ∷ []) ≡ take n xs
take_front xs b zero le = refl
take_front [] b (suc n) le = absurd (omega (arith, le))
take_front (x ∷ xs) b (suc n) le = ap (λ ys. x ∷ ys) (take_front xs b n (omega (arith, le)))

all_true : (xs : List Bool) (n : ℕ) → blamed_in xs ≡ 0 → n < length xs → kept_in xs n ≡ true
all_true [] n e lt = absurd (omega (arith, lt))
all_true (true ∷ xs) zero e lt = refl
all_true (true ∷ xs) (suc n) e lt = all_true xs n (omega (arith, e)) (omega (arith, lt))
all_true (false ∷ xs) n e lt = absurd (omega (arith, e))

at_most : (c : Bool) → cond c 0 1 ≤ 1
at_most true = omega arith
at_most false = omega arith

module _ (IsGood : Fragment → Type 0) (def : Definition) (fresh : ℕ → Name) (f : Fragment) where
  -- the answers so far
  pub record SoFar (kept : List Bool) (blamed : ℕ) : Type 0 where
    pub answers : AreAnswers IsGood def fresh f kept
    pub count : blamed ≡ blamed_in kept
    pub most : blamed ≤ most_blamed

  pub none_yet : (kept : List Bool) → kept ≡ [] → IsGood (opened def none_kept fresh f) → SoFar kept 0
  none_yet kept e start = subst (λ xs. SoFar xs 0) (sym e) (record {
    answers = record {
      nothing = start;
      blame = λ n lt. absurd (omega (arith, lt));
      inside = omega arith;
      fewer = λ n lt. absurd (omega (arith, lt));
    };
    count = refl;
    most = omega arith;
  })

  old_front : (xs : List Bool) (b : Bool) (n : ℕ) → n ≤ length xs
      → up_to (kept_in (xs ++ b ∷ [])) n ≡ up_to (kept_in xs) n
  old_front xs b n le =
      same_up_to (kept_in (xs ++ b ∷ [])) (kept_in xs) n (λ m lt. kept_front xs (b ∷ []) m (omega (arith, le, lt)))

  next_blame : (xs : List Bool) (b : Bool) → IsBlameUpTo IsGood def fresh f (length xs) (kept_in xs)
      → (b ≡ true) ↔ IsGood (front IsGood def fresh f (kept_in xs) (length xs))
      → IsBlameUpTo IsGood def fresh f (length (xs ++ b ∷ [])) (kept_in (xs ++ b ∷ []))
  next_blame xs b blame good n l =
      let long : length (xs ++ b ∷ []) ≡ length xs + 1 = length-append xs (b ∷ []) in
      let fronts : front IsGood def fresh f (kept_in (xs ++ b ∷ [])) n ≡ front IsGood def fresh f (kept_in xs) n =
      ap (λ k. opened def k fresh f) (old_front xs b n (omega (arith, l, long))) in
      elim (cases_lt n (length xs)) [
        | inl below ↦
            subst (λ t. (kept_in (xs ++ b ∷ []) n ≡ true) ↔ IsGood t) (sym fronts)
            (subst (λ c. (c ≡ true) ↔ IsGood (front IsGood def fresh f (kept_in xs) n))
            (sym (kept_front xs (b ∷ []) n below)) (blame n below))
        | inr above ↦
            let same : length xs ≡ n = omega (arith, l, long, above) in
            subst (λ t. (kept_in (xs ++ b ∷ []) n ≡ true) ↔ IsGood t) (sym fronts)
            (subst (λ k. (kept_in (xs ++ b ∷ []) k ≡ true) ↔ IsGood (front IsGood def fresh f (kept_in xs) k)) same
            (subst (λ c. (c ≡ true) ↔ IsGood (front IsGood def fresh f (kept_in xs) (length xs)))
            (sym (kept_end xs b)) good))
      ]

  next_fewer : (xs : List Bool) (b : Bool) → ((n : ℕ) → n < length xs → blamed_in (take n xs) < most_blamed)
      → blamed_in xs < most_blamed → (n : ℕ) → n < length (xs ++ b ∷ [])
      → blamed_in (take n (xs ++ b ∷ [])) < most_blamed
  next_fewer xs b fewer few n l =
      let long : length (xs ++ b ∷ []) ≡ length xs + 1 = length-append xs (b ∷ []) in
      let inside : n ≤ length xs = omega (arith, l, long) in
      subst (λ ys. blamed_in ys < most_blamed) (sym (take_front xs b n inside)) (elim (cases_lt n (length xs)) [
        | inl below ↦ fewer n below
        | inr above ↦ subst (λ ys. blamed_in ys < most_blamed) (sym (take_all n xs above)) few
      ])

  pub one_more : (xs ys zs : List Bool) (b : Bool) (blamed next : ℕ) → SoFar xs blamed → length xs < place_count def f
      → blamed < most_blamed → ys ≡ xs ++ true ∷ [] → (b ≡ true) ↔ IsGood (opened def (kept_in ys) fresh f)
      → zs ≡ xs ++ b ∷ [] → next ≡ blamed + cond b 0 1 → SoFar zs next
  one_more xs ys zs b blamed next h lt few same_next good is count =
      let long : length (xs ++ b ∷ []) ≡ length xs + 1 = length-append xs (b ∷ []) in
      let here : opened def (kept_in ys) fresh f ≡ front IsGood def fresh f (kept_in xs) (length xs) =
      ap (λ ws. opened def (kept_in ws) fresh f) same_next ∙ ap (λ k. opened def k fresh f) (next_kept xs) in
      let one : cond b 0 1 ≤ 1 = at_most b in
      let more = blamed_push xs b in
      subst (λ ws. SoFar ws next) (sym is) (record {
        answers = record {
          nothing = h.answers.nothing;
          blame = next_blame xs b h.answers.blame (subst (λ t. (b ≡ true) ↔ IsGood t) here good);
          inside = omega (arith, lt, long);
          fewer = next_fewer xs b h.answers.fewer (omega (arith, few, h.count));
        };
        count = omega (arith, count, h.count, more);
        most = omega (arith, few, count, one);
      })

  -- where the search stops
  pub all_answers : (xs : List Bool) (blamed : ℕ) → SoFar xs blamed
      → (length xs ≡ place_count def f) ⊎ (blamed ≡ most_blamed) → AreAllAnswers IsGood def fresh f xs
  all_answers xs blamed h stop = record {
    answers = h.answers;
    all = elim stop [ inl e ↦ inl e | inr e ↦ inr (sym h.count ∙ e) ];
  }

  -- the tree of the kept places is good
  pub repaired_good : (xs : List Bool) → AreAllAnswers IsGood def fresh f xs → IsGood (opened def (kept_in xs) fresh f)
  repaired_good xs h =
      subst (λ k. IsGood (opened def k fresh f)) (first_kept xs)
      (grown def fresh f IsGood (length xs) (kept_in xs) h.answers.blame h.answers.nothing (length xs) (omega arith))

  -- if nothing is blamed it is the whole tree
  pub nothing_blamed : (xs : List Bool) → AreAllAnswers IsGood def fresh f xs → blamed_in xs ≡ 0
      → opened def (kept_in xs) fresh f ≡ f
  nothing_blamed xs h none = elim h.all [
    | inl e ↦
        of_places def f (kept_in xs) (λ n. true) fresh fresh (λ n lt. all_true xs n none (omega (arith, lt, e))) (λ n lt. refl)
        ∙ whole def fresh f
    | inr e ↦ absurd (omega (arith, none, e))
  ]

  -- nothing kept, as the search says it
  pub start_good : (b : Bool) → b ≡ true → (b ≡ true) ↔ IsGood (opened def (kept_in []) fresh f)
      → IsGood (opened def none_kept fresh f)
  start_good b e h = subst (λ k. IsGood (opened def k fresh f)) (sym none_is) (h.0 e)

  pub hopeless : IsForAllNames IsGood def f → AreNew def f fresh → (b : Bool) → b ≡ false
      → (b ≡ true) ↔ IsGood (opened def (kept_in []) fresh f)
      → (other : ℕ → Name) → AreNew def f other → IsGood (opened def none_kept other f) → ⊥
  hopeless all new b e h other as_new good =
      true≢false (sym (h.1 (subst (λ k. IsGood (opened def k fresh f)) none_is (all other fresh as_new new none_kept good))) ∙ e)

-- ---- faults

-- A fault that `?` hands on.
pub passed : {T : Type 0} (P : BlameFault → Type 0) (r : Result T BlameFault) (fault : BlameFault)
    → IsErrAnd r (λ e. e ≡ fault) → P fault → IfErr r P
passed P r fault h p = let q = err_from_is_err_and r h in rw q.1 (subst P (sym q.2) p)

module _ (def : Definition) (front : Name) (keep : List Bool) (f : Fragment) where
  pub tried_fault : (r : BlameFault) (fault : NoteFault) (t : Fragment) → IsLimitOf keep fault r
      → place_count def f < 2 ^ 64 → t ≡ opened def (kept_in keep) (new_name front) f → IsNoteFault def t fault
      → IsTrialFault def front keep f r
  tried_fault (Limit kept own) fault t (a, (b, real)) small e h =
      (a, (small, (subst (λ g. IsNoteFault def g own) e (subst (IsNoteFault def t) (sym b) h), real)))
  tried_fault Memory fault t a small e h = tt

  pub limit_fault : IsFront def f front → ((keep ≡ []) ⊎ IsNext def (new_name front) f keep) → (r : BlameFault)
      → IsTrialFault def front keep f r → IsBlameFault def f r
  limit_fault free tried (Limit kept own) (e, (small, (h, real))) = record {
    fresh = new_name front;
    new = all_new def f front free small;
    tried = subst (λ ks. (ks ≡ []) ⊎ IsNext def (new_name front) f ks) (sym e) tried;
    fault = subst (λ ks. IsNoteFault def (opened def (kept_in ks) (new_name front) f) own) (sym e) h;
    real = real;
  }
  limit_fault free tried Memory h = tt

-- ---- ends

pub stopped : (len all lost most : ℕ) (b : Bool) → (b ≡ true) ↔ ((len < all) × (lost < most)) → b ≡ false
    → len ≤ all → lost ≤ most → (len ≡ all) ⊎ (lost ≡ most)
stopped len all lost most b h e inside few = elim (cases_lt len all) [
  | inl less ↦ elim (cases_lt lost most) [
    | inl fewer ↦ absurd (true≢false (sym (h.1 (less, fewer)) ∙ e))
    | inr enough ↦ inr (omega (arith, few, enough))
  ]
  | inr past ↦ inl (omega (arith, inside, past))
]

pub was_true : (b : Bool) → not b ≡ false → b ≡ true
was_true true e = refl
was_true false e = absurd (true≢false e)

pub was_false : (b : Bool) → not b ≡ true → b ≡ false
was_false true e = absurd (true≢false (sym e))
was_false false e = refl
