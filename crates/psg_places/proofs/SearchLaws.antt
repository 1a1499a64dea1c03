-- The search by halving: what it knows between two steps, and how many trials it makes.
use Rattle.std.proofs.Common.{◌≡◌, ◌⊎◌, ◌↔◌, inl, inr, ℕ, zero, suc, ◌+◌, ◌*◌, ◌<◌, ◌≤◌, ◌&&◌, Bool, true, false, cond, List, [], ◌∷◌, ◌++◌, length, replicate, ◌^◌, refl, ap, sym, ◌∙◌, subst, arith, true≢false, append_assoc, append-nil, length-append}
use Rattle.std.proofs.Math.Nat.{mul-le-mul_right, suc-mul, two-pow-succ}
use Rattle.std.proofs.lemmas.Bool.{cases_lt, cases_eq, lt-ltb, le-ltb}
use Rattle.std.proofs.lemmas.List.{length-replicate, replicate_more}
use Rattle.psg_terms.specs.Names.{Name}
use Rattle.psg_grammar.specs.declared.types.Definition.{Definition}
use Rattle.psg_grammar.specs.Fragments.{Fragment}
use Rattle.psg_grammar.specs.Open.{IsOpen}
use Rattle.psg_completions.specs.Conditions.{HasTrueRows}
use Rattle.psg_places.specs.declared.halving.Found.{Found}
use Rattle.std.specs.List.{AllByRecursion}
use Rattle.psg_cache.specs.Diff.{diff_of}
use Rattle.psg_places.specs.Answers.{HasMore, IsMost, IsNextFound, beside_work, next_tree, trials_work, with_found}
use Rattle.psg_places.specs.Blame.{AreAllAnswers, IsFalling, IsNoneWhereGood, blamed_in, kept_in, kept_of_first, most_blamed, none_kept}
use Rattle.psg_places.specs.NewNames.{new_name}
use Rattle.psg_places.specs.Opened.{opened}
use Rattle.psg_places.specs.Places.{place_count}
use Rattle.psg_places.proofs.AnswerLaws.{SoFar, kept_end, kept_front, none_is, none_yet, nothing_blamed, one_more, past, repaired_good}
use Rattle.psg_places.proofs.BlameLaws.{kept_before}
use Rattle.psg_places.proofs.WorkLaws.{more_trials, one_trial}

-- ---- lists of answers

more_end : (xs : List Bool) (k : ℕ) → xs ++ replicate (k + 1) true ≡ (xs ++ replicate k true) ++ true ∷ []
more_end xs k = ap (λ ys. xs ++ ys) (sym (replicate_more k true)) ∙ sym (append_assoc xs (replicate k true) (true ∷ []))

more_suc : (xs : List Bool) (k : ℕ) → xs ++ replicate (suc k) true ≡ (xs ++ replicate k true) ++ true ∷ []
more_suc xs k = let s : suc k ≡ k + 1 = omega arith in ap (λ n. xs ++ replicate n true) s ∙ more_end xs k

more_length : (xs : List Bool) (k : ℕ) → length (xs ++ replicate k true) ≡ length xs + k
more_length xs k = length-append xs (replicate k true) ∙ ap (λ n. length xs + n) (length-replicate k true)

blamed_both : (xs ys : List Bool) → blamed_in (xs ++ ys) ≡ blamed_in xs + blamed_in ys
blamed_both [] ys = omega arith
blamed_both (x ∷ xs) ys = let e = blamed_both xs ys in omega (arith, e)

none_blamed : (k : ℕ) → blamed_in (replicate k true) ≡ 0
none_blamed zero = refl
none_blamed (suc k) = let e : blamed_in (replicate k true) ≡ 0 = none_blamed k in omega (arith, e)

more_blamed : (xs : List Bool) (k : ℕ) → blamed_in (xs ++ replicate k true) ≡ blamed_in xs
more_blamed xs k =
    let a = blamed_both xs (replicate k true) in
    let b = none_blamed k in
    omega (arith, a, b)

found_blamed : (xs : List Bool) (found : Found) → blamed_in (with_found xs found) ≡ blamed_in xs + cond found.blamed 1 0
found_blamed xs found =
    let last : List Bool = cond found.blamed (false ∷ []) [] in
    let a : blamed_in ((xs ++ replicate found.more true) ++ last) ≡ blamed_in (xs ++ replicate found.more true) + blamed_in last =
    blamed_both (xs ++ replicate found.more true) last in
    let b = more_blamed xs found.more in
    let c : blamed_in last ≡ cond found.blamed 1 0 = pick found.blamed in
    omega (arith, a, b, c) where
      pick : (b : Bool) → blamed_in (cond b (false ∷ []) []) ≡ cond b 1 0
      pick true = refl
      pick false = refl

found_length : (xs : List Bool) (found : Found) → length (with_found xs found) ≡ length xs + found.more + cond found.blamed 1 0
found_length xs found =
    let last : List Bool = cond found.blamed (false ∷ []) [] in
    let a : length ((xs ++ replicate found.more true) ++ last) ≡ length (xs ++ replicate found.more true) + length last =
    length-append (xs ++ replicate found.more true) last in
    let b = more_length xs found.more in
    let c : length last ≡ cond found.blamed 1 0 = pick found.blamed in
    omega (arith, a, b, c) where
      pick : (b : Bool) → length {A = Bool} (cond b (false ∷ []) []) ≡ cond b 1 0
      pick true = refl
      pick false = refl

-- the first ones are kept as before
front_at : (xs ys : List Bool) (m : ℕ) → kept_of_first (kept_in (xs ++ ys)) (length xs) m ≡ kept_in xs m
front_at xs ys m = elim (cases_lt m (length xs)) [
  | inl below ↦ ap (λ b. b && kept_in (xs ++ ys) m) (lt-ltb m (length xs) below) ∙ kept_front xs ys m below
  | inr above ↦ ap (λ b. b && kept_in (xs ++ ys) m) (le-ltb m (length xs) above) ∙ sym (past xs m above)
]

-- an answer that does not keep its place changes nothing
off_at : (xs : List Bool) (m : ℕ) → kept_in (xs ++ false ∷ []) m ≡ kept_in xs m
off_at xs m = elim (cases_lt m (length xs)) [
  | inl below ↦ kept_front xs (false ∷ []) m below
  | inr above ↦ elim (cases_eq m (length xs)) [
    | inl same ↦ ap (kept_in (xs ++ false ∷ [])) same ∙ kept_end xs false ∙ sym (past xs m above)
    | inr other ↦ past (xs ++ false ∷ []) m (omega (arith, above, other, length-append xs (false ∷ []))) ∙ sym (past xs m above)
  ]
]

found_kept : (xs : List Bool) (found : Found) (m : ℕ) → kept_in (with_found xs found) m ≡ kept_in (xs ++ replicate found.more true) m
found_kept xs found m = pick found.blamed where
  pick : (b : Bool) → kept_in ((xs ++ replicate found.more true) ++ cond b (false ∷ []) []) m ≡ kept_in (xs ++ replicate found.more true) m
  pick true = off_at (xs ++ replicate found.more true) m
  pick false = ap (λ ys. kept_in ys m) (append-nil (xs ++ replicate found.more true))

-- ---- answers

module _ (IsGood : Fragment → Type 0) (def : Definition) (fresh : ℕ → Name) (f : Fragment) where
  fewer_good : IsFalling IsGood def f fresh → (xs ys : List Bool) → IsGood (opened def (kept_in (xs ++ ys)) fresh f)
      → IsGood (opened def (kept_in xs) fresh f)
  fewer_good falls xs ys good =
      subst (λ k. IsGood (opened def k fresh f)) (λ i m. front_at xs ys m i) (falls (kept_in (xs ++ ys)) (length xs) good)

  many_more : IsFalling IsGood def f fresh → (k : ℕ) (xs : List Bool) (blamed : ℕ) → SoFar IsGood def fresh f xs blamed
      → length xs + k ≤ place_count def f → blamed < most_blamed → IsGood (opened def (kept_in (xs ++ replicate k true)) fresh f)
      → SoFar IsGood def fresh f (xs ++ replicate k true) blamed
  many_more falls zero xs blamed h inside few good =
      subst (λ ys. SoFar IsGood def fresh f ys blamed) (sym (append-nil xs)) h
  many_more falls (suc k) xs blamed h inside few good =
      let ys = xs ++ replicate k true in
      let last : IsGood (opened def (kept_in (ys ++ true ∷ [])) fresh f) =
      subst (λ zs. IsGood (opened def (kept_in zs) fresh f)) (more_suc xs k) good in
      let before = many_more falls k xs blamed h (omega (arith, inside)) few (fewer_good falls ys (true ∷ []) last) in
      let long = more_length xs k in
      one_more IsGood def fresh f ys (ys ++ true ∷ []) (xs ++ replicate (suc k) true) true blamed blamed before (omega (arith, long, inside))
      few refl ((λ e. last), (λ g. refl)) (more_suc xs k) (omega arith)

  round : IsFalling IsGood def f fresh → (xs : List Bool) (blamed more next : ℕ) (b : Bool) → SoFar IsGood def fresh f xs blamed
      → blamed < most_blamed → length xs + more ≤ place_count def f → IsGood (opened def (kept_in (xs ++ replicate more true)) fresh f)
      → (b ≡ true → (length xs + more < place_count def f) × (IsGood (opened def (kept_in (xs ++ replicate (more + 1) true)) fresh f) → ⊥))
      → next ≡ blamed + cond b 1 0 → SoFar IsGood def fresh f ((xs ++ replicate more true) ++ cond b (false ∷ []) []) next
  round falls xs blamed more next true h few inside good bad is =
      let ys = xs ++ replicate more true in
      let (lt, wrong) = bad refl in
      let long = more_length xs more in
      one_more IsGood def fresh f ys (ys ++ true ∷ []) (ys ++ false ∷ []) false blamed next
      (many_more falls more xs blamed h inside few good) (omega (arith, long, lt)) few refl (
        (λ e. absurd (true≢false (sym e))),
        (λ g. absurd (wrong (subst (λ zs. IsGood (opened def (kept_in zs) fresh f)) (sym (more_end xs more)) g))),
      ) refl (omega (arith, is))
  round falls xs blamed more next false h few inside good bad is =
      let same : blamed ≡ next = omega (arith, is) in
      subst (λ n. SoFar IsGood def fresh f ((xs ++ replicate more true) ++ []) n) same
      (subst (λ ys. SoFar IsGood def fresh f ys blamed) (sym (append-nil (xs ++ replicate more true)))
      (many_more falls more xs blamed h inside few good))

-- ---- trials

trials_both : (m n w : ℕ) → trials_work (m + n) w ≡ trials_work m w + trials_work n w
trials_both zero n w = let z : 0 + n ≡ n = omega arith in let e : trials_work (0 + n) w ≡ trials_work n w = ap (λ k. trials_work k w) z in omega (arith, e)
trials_both (suc m) n w =
    let e : trials_work (suc m + n) w ≡ w + trials_work (m + n) w = one_trial (m + n) (suc m + n) w (omega arith) in
    let d : trials_work (suc m) w ≡ w + trials_work m w = refl in
    let h = trials_both m n w in
    omega (arith, e, d, h)

one_round : (b h w : ℕ) → trials_work ((b + 1) * (1 + h)) w ≡ trials_work (b * (1 + h)) w + trials_work (1 + h) w
one_round b h w =
    let s : b + 1 ≡ suc b = omega arith in
    ap (λ k. trials_work (k * (1 + h)) w) s ∙ ap (λ k. trials_work k w) (suc-mul b (1 + h)) ∙ trials_both (b * (1 + h)) (1 + h) w

pub first_trial : (n w start now : ℕ) → now ≤ start + w → now ≤ start + trials_work (2 + n) w
first_trial n w start now h =
    let e = one_trial (1 + n) (2 + n) w (omega arith) in
    omega (arith, h, e)

pub and_more : (n w start mid now : ℕ) → mid ≤ start + w → now ≤ mid + trials_work (1 + n) w → now ≤ start + trials_work (2 + n) w
and_more n w start mid now h more =
    let e = one_trial (1 + n) (2 + n) w (omega arith) in
    omega (arith, h, more, e)

-- So much is done after some rounds, of which each blames a place but for the last one.
abbrev pub IsSpent : ℕ → ℕ → ℕ → ℕ → ℕ → ℕ → ℕ → Type 0
IsSpent h len places blamed start now w = (now ≤ start + trials_work (blamed * (1 + h)) w)
    ⊎ ((len ≡ places) × (now ≤ start + trials_work (1 + blamed * (1 + h)) w))

pub spent_first : (h places start w : ℕ) → IsSpent h 0 places 0 start start w
spent_first h places start w = inl (omega arith)

pub spent_round : (h len places blamed start now w next_len next later : ℕ) (b : Bool) → IsSpent h len places blamed start now w
    → len < places → (b ≡ false → (next_len ≡ places) × (later ≤ now + w)) → later ≤ now + trials_work (1 + h) w
    → next ≡ blamed + cond b 1 0 → IsSpent h next_len places next start later w
spent_round h len places blamed start now w next_len next later b (inr (all, spent)) lt last more is = absurd (omega (arith, all, lt))
spent_round h len places blamed start now w next_len next later true (inl spent) lt last more is =
    let s : next ≡ blamed + 1 = omega (arith, is) in
    let e = one_round blamed h w in
    let d : trials_work (next * (1 + h)) w ≡ trials_work ((blamed + 1) * (1 + h)) w = ap (λ k. trials_work (k * (1 + h)) w) s in
    inl (omega (arith, spent, more, e, d))
spent_round h len places blamed start now w next_len next later false (inl spent) lt last more is =
    let (all, less) = last refl in
    let s : next ≡ blamed = omega (arith, is) in
    let e : trials_work (1 + blamed * (1 + h)) w ≡ w + trials_work (blamed * (1 + h)) w = one_trial (blamed * (1 + h)) (1 + blamed * (1 + h)) w (omega arith) in
    let d : trials_work (1 + next * (1 + h)) w ≡ trials_work (1 + blamed * (1 + h)) w = ap (λ k. trials_work (1 + k * (1 + h)) w) s in
    inr (all, omega (arith, spent, less, e, d))

-- at the end
pub spent_end : (h len places blamed start now w : ℕ) → IsSpent h len places blamed start now w
    → now ≤ start + trials_work (1 + blamed * (1 + h)) w
spent_end h len places blamed start now w (inl spent) =
    let e = one_trial (blamed * (1 + h)) (1 + blamed * (1 + h)) w (omega arith) in omega (arith, spent, e)
spent_end h len places blamed start now w (inr (all, spent)) = spent

most_rounds : (blamed h w : ℕ) → blamed ≤ most_blamed → trials_work (1 + blamed * (1 + h)) w ≤ trials_work (1 + most_blamed * (1 + h)) w
most_rounds blamed h w le =
    let m : blamed * (1 + h) ≤ most_blamed * (1 + h) = mul-le-mul_right (1 + h) le in
    more_trials (1 + blamed * (1 + h)) (1 + most_blamed * (1 + h)) w (omega (arith, m))

pub spent_most : (h len places blamed start now w : ℕ) → IsSpent h len places blamed start now w → blamed ≤ most_blamed
    → now ≤ start + trials_work (1 + most_blamed * (1 + h)) w
spent_most h len places blamed start now w s le =
    let a = spent_end h len places blamed start now w s in
    let b = most_rounds blamed h w le in
    omega (arith, a, b)

-- and if a round fails
pub spent_fault : (h len places blamed start now w later : ℕ) → IsSpent h len places blamed start now w → len < places
    → blamed < most_blamed → later ≤ now + trials_work (1 + h) w → later ≤ start + trials_work (1 + most_blamed * (1 + h)) w
spent_fault h len places blamed start now w later (inr (all, spent)) lt few more = absurd (omega (arith, all, lt))
spent_fault h len places blamed start now w later (inl spent) lt few more =
    let e = one_round blamed h w in
    let one = one_trial ((blamed + 1) * (1 + h)) (1 + (blamed + 1) * (1 + h)) w (omega arith) in
    let b = most_rounds (blamed + 1) h w (omega (arith, few)) in
    omega (arith, spent, more, e, one, b)

-- ---- halving

-- after some of h trials beside a tree, when the most is at least `low` and less than `high`
pub record IsHalved (IsTree : Fragment → Type 0) (o : Fragment) (h low high start now w : ℕ) : Type 0 where
  pub made : ℕ
  pub left : ℕ
  pub all : made + left ≡ h
  pub spent : now ≤ start + trials_work made w
  pub near : high ≤ low + 2 ^ left
  pub trees : List Fragment
  pub many : length trees ≤ made
  pub each : AllByRecursion IsTree trees
  pub taken : now ≤ start + beside_work o trees

taken_more : (a b start now later : ℕ) → now ≤ start + b → later ≤ now + a → later ≤ start + (a + b)
taken_more a b start now later h k = omega (arith, h, k)

pub halved_first : (IsTree : Fragment → Type 0) (o : Fragment) (h high start w : ℕ) → high ≤ 2 ^ h
    → IsHalved IsTree o h 0 high start start w
halved_first IsTree o h high start w le = record {
  made = 0;
  left = h;
  all = omega arith;
  spent = omega arith;
  near = omega (arith, le);
  trees = [];
  many = omega arith;
  each = tt;
  taken = omega arith;
}

-- the trees that were tried
pub halved_trees : (IsTree : Fragment → Type 0) (o : Fragment) (h low high start now w : ℕ)
    → IsHalved IsTree o h low high start now w
    → (trees : List Fragment) × (length trees ≤ h) × AllByRecursion IsTree trees
    × (now ≤ start + beside_work o trees)
halved_trees IsTree o h low high start now w s = (s.trees, omega (arith, s.many, s.all), s.each, s.taken)

pub halved_end : (IsTree : Fragment → Type 0) (o : Fragment) (h low high start now w : ℕ)
    → IsHalved IsTree o h low high start now w → now ≤ start + trials_work h w
halved_end IsTree o h low high start now w s =
    let m = more_trials s.made h w (omega (arith, s.all)) in omega (arith, m, s.spent)

-- the left number of trials is not 0 as long as there is a number between
some_left : (left low high : ℕ) → low + 1 < high → high ≤ low + 2 ^ left → (j : ℕ) × (left ≡ suc j) × (high ≤ low + (2 ^ j + 2 ^ j))
some_left zero low high wide near = absurd (let one : 2 ^ 0 ≡ 1 = refl in omega (arith, wide, near, one))
some_left (suc j) low high wide near = let e : 2 ^ suc j ≡ 2 ^ j + 2 ^ j = two-pow-succ j in (j, refl, omega (arith, near, e))

pub halved_more : (IsTree : Fragment → Type 0) (o t : Fragment) (h low high middle start now later w : ℕ) (b : Bool)
    → IsHalved IsTree o h low high start now w → low + 1 < high
    → ((v : ℕ) → high ≤ low + (v + v) → (middle ≤ low + v) × (high ≤ middle + v)) → later ≤ now + w → IsTree t
    → later ≤ now + diff_of o t → IsHalved IsTree o h (cond b middle low) (cond b high middle) start later w
halved_more IsTree o t h low high middle start now later w b s wide half more tree climb =
    let (j, is, near) = some_left s.left low high wide s.near in
    let (lower, upper) = half (2 ^ j) near in
    let e : trials_work (suc s.made) w ≡ w + trials_work s.made w = one_trial s.made (suc s.made) w (omega arith) in
    record {
      made = suc s.made;
      left = j;
      all = omega (arith, s.all, is);
      spent = omega (arith, s.spent, more, e);
      near = pick b lower upper;
      trees = t ∷ s.trees;
      many = omega (arith, s.many);
      each = (tree, s.each);
      taken = taken_more (diff_of o t) (beside_work o s.trees) start now later s.taken climb;
    } where
      pick : (b : Bool) → middle ≤ low + 2 ^ (some_left s.left low high wide s.near).0 → high ≤ middle + 2 ^ (some_left s.left low high wide s.near).0
          → cond b high middle ≤ cond b middle low + 2 ^ (some_left s.left low high wide s.near).0
      pick true lower upper = upper
      pick false lower upper = lower

pub halved_fault : (IsTree : Fragment → Type 0) (o : Fragment) (h low high start now later w : ℕ)
    → IsHalved IsTree o h low high start now w → low + 1 < high → later ≤ now + w → later ≤ start + trials_work h w
halved_fault IsTree o h low high start now later w s wide more =
    let (j, is, near) = some_left s.left low high wide s.near in
    let e : trials_work (suc s.made) w ≡ w + trials_work s.made w = one_trial s.made (suc s.made) w (omega arith) in
    let m = more_trials (suc s.made) h w (omega (arith, s.all, is)) in
    omega (arith, s.spent, more, e, m)

pub narrowed : (b : Bool) (low high middle : ℕ) → low < middle → middle < high
    → (cond b middle low < cond b high middle) × (cond b high middle ≤ high)
narrowed true low high middle above below = (below, omega arith)
narrowed false low high middle above below = (above, omega (arith, below))

pub not_wide : (low high : ℕ) (b : Bool) → (b ≡ true) ↔ (low + 1 < high) → b ≡ false → high ≤ low + 1
not_wide low high b h e = elim (cases_lt (low + 1) high) [
  | inl wide ↦ absurd (true≢false (sym (h.1 wide) ∙ e))
  | inr near ↦ near
]

pub one_at_most : (h w start now : ℕ) → now ≤ start + w → now ≤ start + trials_work (1 + h) w
one_at_most h w start now le = let e = one_trial h (1 + h) w (omega arith) in omega (arith, le, e)

pub one_and_more : (h w start mid now : ℕ) → mid ≤ start + w → now ≤ mid + trials_work h w → now ≤ start + trials_work (1 + h) w
one_and_more h w start mid now one more = let e = one_trial h (1 + h) w (omega arith) in omega (arith, one, more, e)

-- ---- what the search knows

module _ (def : Definition) (front : Name) (f : Fragment) where
  abbrev fresh : ℕ → Name
  fresh = new_name front

  -- the answers so far
  pub record IsKnown (places start now w : ℕ) (kept : List Bool) (blamed : ℕ) : Type 0 where
    pub inside : length kept ≤ place_count def f
    pub count : blamed ≡ blamed_in kept
    pub most : blamed ≤ most_blamed
    pub good : IsOpen def (opened def (kept_in kept) fresh f)
    pub spent : (h : ℕ) → places ≤ 2 ^ h → IsSpent h (length kept) places blamed start now w
    pub answers : HasTrueRows def → SoFar (IsOpen def) def fresh f kept blamed

  pub known_first : (places start w : ℕ) (kept : List Bool) → kept ≡ [] → IsOpen def (opened def none_kept fresh f)
      → IsKnown places start start w kept 0
  known_first places start w kept e first_good = subst (λ ks. IsKnown places start start w ks 0) (sym e) (record {
    inside = omega arith;
    count = refl;
    most = omega arith;
    good = subst (λ k. IsOpen def (opened def k fresh f)) none_is first_good;
    spent = λ h le. spent_first h places start w;
    answers = λ rows. none_yet (IsOpen def) def fresh f [] refl first_good;
  })

  pub due_more : (places start now w : ℕ) (kept : List Bool) (blamed : ℕ) → IsKnown places start now w kept blamed
      → length kept < place_count def f → blamed < most_blamed → HasMore def fresh f kept 1
  due_more places start now w kept blamed k lt few = record {
    some = omega arith;
    inside = omega (arith, lt);
    few = omega (arith, few, k.count);
    answers = λ rows. (k.answers rows).answers;
  }

  pub known_good : (kept : List Bool) → IsOpen def (opened def (kept_in kept) fresh f) → IsOpen def (next_tree def front kept 0 f)
  known_good kept good = subst (λ ks. IsOpen def (opened def (kept_in ks) fresh f)) (sym (append-nil kept)) good

  pub known_round : (places start now later w : ℕ) (kept next : List Bool) (blamed : ℕ) (found : Found) → (HasTrueRows def → IsFalling (IsOpen def) def f fresh)
      → IsKnown places start now w kept blamed → places ≡ place_count def f → length kept < place_count def f → blamed < most_blamed
      → IsNextFound def front f kept found → next ≡ with_found kept found
      → (found.blamed ≡ false → later ≤ now + w) → ((h : ℕ) → places ≤ 2 ^ h → later ≤ now + trials_work (1 + h) w)
      → IsKnown places start later w next (blamed + cond found.blamed 1 0)
  known_round places start now later w kept next blamed found falls k all lt few n is less more =
      let long : length next ≡ length kept + found.more + cond found.blamed 1 0 = ap length is ∙ found_length kept found in
      let count : blamed_in next ≡ blamed_in kept + cond found.blamed 1 0 = ap blamed_in is ∙ found_blamed kept found in
      let one : cond found.blamed 1 0 ≤ 1 = at_most found.blamed in
      record {
        inside = fits found.blamed refl long;
        count = omega (arith, count, k.count);
        most = omega (arith, few, one);
        good = subst (λ g. IsOpen def (opened def g fresh f)) (λ i m. sym (ap (λ ks. kept_in ks m) is ∙ found_kept kept found m) i) n.good;
        spent = λ h le. spent_round h (length kept) places blamed start now w (length next) (blamed + cond found.blamed 1 0) later found.blamed
            (k.spent h le) (omega (arith, lt, all)) (λ e. (ends e long, less e)) (more h le) refl;
        answers = λ rows. subst (λ ks. SoFar (IsOpen def) def fresh f ks (blamed + cond found.blamed 1 0)) (sym is)
            (round (IsOpen def) def fresh f (falls rows) kept blamed found.more (blamed + cond found.blamed 1 0) found.blamed (k.answers rows) few
            n.inside n.good (λ e. n.one e) refl);
      } where
        at_most : (b : Bool) → cond b 1 0 ≤ 1
        at_most true = omega arith
        at_most false = omega arith

        fits : (b : Bool) → found.blamed ≡ b → length next ≡ length kept + found.more + cond found.blamed 1 0 → length next ≤ place_count def f
        fits true e long =
            let o : ◌≡◌ {A = ℕ} (cond found.blamed 1 0) 1 = ap (λ c. cond c 1 0) e in
            let l = (n.one e).0 in
            omega (arith, long, o, l)
        fits false e long =
            let o : ◌≡◌ {A = ℕ} (cond found.blamed 1 0) 0 = ap (λ c. cond c 1 0) e in
            omega (arith, long, o, n.inside)

        ends : found.blamed ≡ false → length next ≡ length kept + found.more + cond found.blamed 1 0 → length next ≡ places
        ends e long =
            let o : ◌≡◌ {A = ℕ} (cond found.blamed 1 0) 0 = ap (λ c. cond c 1 0) e in
            let l = n.none e in
            omega (arith, long, o, l, all)

  -- more of the next places, but not all of them
  pub fewer_more : (kept : List Bool) (left more : ℕ) → HasMore def fresh f kept left → 0 < more → more ≤ left → HasMore def fresh f kept more
  fewer_more kept left more h some le = record {
    some = some;
    inside = omega (arith, h.inside, le);
    few = h.few;
    answers = h.answers;
  }

  -- all that are left
  pub left_more : (kept : List Bool) (left : ℕ) → HasMore def fresh f kept 1 → length kept + left ≡ place_count def f
      → HasMore def fresh f kept left
  left_more kept left h all = record {
    some = omega (arith, h.inside, all);
    inside = omega (arith, all);
    few = h.few;
    answers = h.answers;
  }

  pub all_found : (kept : List Bool) (left : ℕ) (found : Found) → length kept + left ≡ place_count def f
      → IsOpen def (next_tree def front kept left f) → found.more ≡ left → found.blamed ≡ false → IsNextFound def front f kept found
  all_found kept left found all good more blamed = record {
    inside = omega (arith, all, more);
    good = subst (λ n. IsOpen def (next_tree def front kept n f)) (sym more) good;
    none = λ e. omega (arith, all, more);
    one = λ e. absurd (true≢false (sym e ∙ blamed));
  }

  pub one_found : (kept : List Bool) (left most : ℕ) (found : Found) → length kept + left ≡ place_count def f
      → IsMost def front f kept left most → found.more ≡ most → found.blamed ≡ true → IsNextFound def front f kept found
  one_found kept left most found all h more blamed = record {
    inside = omega (arith, all, more, h.below);
    good = subst (λ n. IsOpen def (next_tree def front kept n f)) (sym more) h.good;
    none = λ e. absurd (true≢false (sym blamed ∙ e));
    one = λ e. (omega (arith, all, more, h.below), subst (λ n. IsOpen def (next_tree def front kept (n + 1) f) → ⊥) (sym more) h.bad);
  }

  -- where nothing is blamed they are all
  pub found_ends : (kept next : List Bool) (found : Found) → IsNextFound def front f kept found
      → next ≡ with_found kept found → found.blamed ≡ false → length next ≡ place_count def f
  found_ends kept next found n is e =
      let long : length next ≡ length kept + found.more + cond found.blamed 1 0 = ap length is ∙ found_length kept found in
      let o : ◌≡◌ {A = ℕ} (cond found.blamed 1 0) 0 = ap (λ c. cond c 1 0) e in
      let l = n.none e in
      omega (arith, long, o, l)

  -- the answers become longer
  pub found_grows : (kept next : List Bool) (found : Found) → length kept < place_count def f → IsNextFound def front f kept found
      → next ≡ with_found kept found → length kept < length next
  found_grows kept next found lt n is =
      let long : length next ≡ length kept + found.more + cond found.blamed 1 0 = ap length is ∙ found_length kept found in
      pick found.blamed refl long where
        pick : (b : Bool) → found.blamed ≡ b → length next ≡ length kept + found.more + cond found.blamed 1 0 → length kept < length next
        pick true e long =
            let o : ◌≡◌ {A = ℕ} (cond found.blamed 1 0) 1 = ap (λ c. cond c 1 0) e in
            omega (arith, long, o)
        pick false e long =
            let o : ◌≡◌ {A = ℕ} (cond found.blamed 1 0) 0 = ap (λ c. cond c 1 0) e in
            let l = n.none e in
            omega (arith, long, o, l, lt)

  -- one of the two is the new bound
  pub good_at : (b : Bool) (kept : List Bool) (low middle : ℕ) → (b ≡ true) ↔ IsOpen def (next_tree def front kept middle f)
      → IsOpen def (next_tree def front kept low f) → IsOpen def (next_tree def front kept (cond b middle low) f)
  good_at true kept low middle h good = h.0 refl
  good_at false kept low middle h good = good

  pub bad_at : (b : Bool) (kept : List Bool) (high middle : ℕ) → (b ≡ true) ↔ IsOpen def (next_tree def front kept middle f)
      → (IsOpen def (next_tree def front kept high f) → ⊥) → IsOpen def (next_tree def front kept (cond b high middle) f) → ⊥
  bad_at true kept high middle h bad good = bad good
  bad_at false kept high middle h bad good = true≢false (sym (h.1 good))

  pub most_at : (kept : List Bool) (left low high : ℕ) → low < high → high ≤ left → high ≤ low + 1 → IsOpen def (next_tree def front kept low f)
      → (IsOpen def (next_tree def front kept high f) → ⊥) → IsMost def front f kept left low
  most_at kept left low high lt le last good bad =
      let same : high ≡ low + 1 = omega (arith, lt, last) in
      record {
        below = omega (arith, lt, le);
        good = good;
        bad = subst (λ n. IsOpen def (next_tree def front kept n f) → ⊥) same bad;
      }

-- ---- the answers for completions, from those for hole rows

pub same_answers : (P Q : Fragment → Type 0) (def : Definition) (fresh : ℕ → Name) (f : Fragment) (kept : List Bool)
    → ((k : ℕ → Bool) → P (opened def k fresh f) ↔ Q (opened def k fresh f)) → AreAllAnswers P def fresh f kept
    → AreAllAnswers Q def fresh f kept
same_answers P Q def fresh f kept same a = record {
  answers = record {
    nothing = (same none_kept).0 a.answers.nothing;
    blame = λ n lt. (
      (λ e. (same _).0 ((a.answers.blame n lt).0 e)),
      (λ g. (a.answers.blame n lt).1 ((same _).1 g)),
    );
    inside = a.answers.inside;
    fewer = a.answers.fewer;
  };
  all = a.all;
}

-- ---- where nothing is blamed

all_kept : (xs : List Bool) → ((n : ℕ) → n < length xs → kept_in xs n ≡ true) → blamed_in xs ≡ 0
all_kept [] h = refl
all_kept (true ∷ xs) h = let e : blamed_in xs ≡ 0 = all_kept xs (λ n lt. h (suc n) (omega (arith, lt))) in omega (arith, e)
all_kept (false ∷ xs) h = absurd (true≢false (sym (h 0 (omega arith))))

pub none_if_good : (IsGood : Fragment → Type 0) (def : Definition) (fresh : ℕ → Name) (f : Fragment) → IsFalling IsGood def f fresh
    → IsNoneWhereGood IsGood def f fresh
none_if_good IsGood def fresh f falls kept a = (
  (λ none. subst IsGood (nothing_blamed IsGood def fresh f kept a none) (repaired_good IsGood def fresh f kept a)),
  (λ good. all_kept kept (λ n lt.
      kept_before def fresh f IsGood falls good (length kept) (kept_in kept) a.answers.blame (length kept) (omega arith) n lt)),
)
