-- New names for the names of a tree.
use Rattle.std.proofs.Common.{◌≡◌, ◌⊎◌, inl, inr, ℕ, true, false, cond, ◌||◌, List, [], ◌∷◌, ◌++◌, map, bytes_eq, refl, ap, sym, ◌∙◌, subst, true≢false}
use Rattle.std.proofs.lemmas.Bool.{cases_Bool, or_right}
use Rattle.psg_terms.proofs.DeclareLaws.{bytes_eq-same, bytes_eq-refl}
use Rattle.psg_grammar.specs.Keys.{Key, space_of, name_in}
use Rattle.psg_terms.specs.Names.{is_among}
use Rattle.psg_grammar.specs.declared.types.Definition.{Definition}
use Rattle.psg_grammar.specs.Lookups.{key_at}
use Rattle.psg_grammar.specs.Fragments.{Fragment, hole, ending, cell, operator, with_child, with_name, with_number, with_text, anything, observed}
use Rattle.psg_grammar.specs.WellFormed.{IsName}
use Rattle.psg_completions.proofs.LongNames.{fresh}
use Rattle.psg_completions.proofs.NameLaws.{none_left, none_right, among_right}

-- the keys of all name positions
abbrev pub all_names : Definition → Fragment → List Key
all_names def (hole p) = []
all_names def (ending l u) = []
all_names def (cell l e r) = all_names def e ++ all_names def r
all_names def (operator o) = []
all_names def (with_child f t) = all_names def f ++ all_names def t
all_names def (with_name f n) = all_names def f ++ key_at def f n ∷ []
all_names def (with_number f n) = all_names def f
all_names def (with_text f n) = all_names def f
all_names def anything = []
all_names def (observed f) = all_names def f

-- a key that may stand for the other one: of its space, with a name
abbrev pub IsKeyFor : Definition → Key → Key → Type 0
IsKeyFor def x y = (y ≡ space_of x ∷ name_in y) × IsName def (name_in y)

others : (s : ℕ) (n : Key) (avoid : List Key) → is_among (map name_in avoid) n ≡ false → is_among avoid (s ∷ n) ≡ false
others s n [] e = refl
others s n (x ∷ avoid) e = elim (cases_Bool (bytes_eq (name_in x) n)) [
  | inl t ↦ absurd (true≢false (sym (ap (λ b. b || is_among (map name_in avoid) n) t) ∙ e))
  | inr f ↦
      let rest : is_among (map name_in avoid) n ≡ false = sym (ap (λ b. b || is_among (map name_in avoid) n) f) ∙ e in
      let here : bytes_eq x (s ∷ n) ≡ false = elim (cases_Bool (bytes_eq x (s ∷ n))) [
        | inl y ↦ absurd
            (true≢false (sym (bytes_eq-refl n) ∙ subst (λ z. bytes_eq (name_in z) n ≡ false) (bytes_eq-same x (s ∷ n) y) f))
        | inr y ↦ y
      ] in
      ap (λ a. a || is_among avoid (s ∷ n)) here ∙ others s n avoid rest
]

pub key_space : (def : Definition) (x y : Key) → IsKeyFor def x y → space_of y ≡ space_of x
key_space def x y (e, good) = ap space_of e

-- new keys from new names
pub fresh_key : (def : Definition) (x : Key) (avoid : List Key)
    → (y : Key) × IsKeyFor def x y × (is_among avoid y ≡ false)
fresh_key def x avoid = let (n, good, free) = fresh def (map name_in avoid) in
    (space_of x ∷ n, (refl, good), others (space_of x) n avoid free)

-- Good x y: the key y may stand for x
module _ (Good : Key → Key → Type 0) (alike : (x y : Key) → Good x y → space_of y ≡ space_of x) (fresh : (x : Key) (avoid : List Key) → (y : Key) × Good x y × (is_among avoid y ≡ false)) where
  -- New names for those of xs, one for one. The names in keep needn't be new.
  pub record NewNames (xs avoid keep : List Key) : Type 0 where
    pub rho : Key → Key
    pub back : Key → Key
    pub targets : List Key
    pub space : (m : Key) → space_of (back m) ≡ space_of m
    pub into : (n : Key) → is_among xs n ≡ true → is_among targets (rho n) ≡ true
    pub backs : (n : Key) → is_among xs n ≡ true → back (rho n) ≡ n
    pub over : (m : Key) → is_among targets m ≡ true → (rho (back m) ≡ m) × (is_among xs (back m) ≡ true)
    pub good : (n : Key) → is_among xs n ≡ true → Good n (rho n)
    pub apart : (m : Key) → is_among targets m ≡ true → (is_among avoid m ≡ false) ⊎ (is_among keep m ≡ true)

  pub no_names : (avoid keep : List Key) → NewNames [] avoid keep
  no_names avoid keep = record {
    rho = λ n. n;
    back = λ n. n;
    targets = [];
    space = λ m. refl;
    into = λ n e. absurd (true≢false (sym e));
    backs = λ n e. absurd (true≢false (sym e));
    over = λ n e. absurd (true≢false (sym e));
    good = λ n e. absurd (true≢false (sym e));
    apart = λ n e. absurd (true≢false (sym e));
  }

  -- one more name, with a target that isn't yet one
  pub one_name : (x y : Key) (xs avoid keep : List Key) (r : NewNames xs avoid keep) → Good x y → is_among xs x ≡ false
      → is_among r.targets y ≡ false → (is_among avoid y ≡ false) ⊎ (is_among keep y ≡ true)
      → NewNames (x ∷ xs) avoid keep
  one_name x y xs avoid keep r good other free ap_y = record {
    rho = λ n. cond (bytes_eq x n) y (r.rho n);
    back = λ m. cond (bytes_eq y m) x (r.back m);
    targets = y ∷ r.targets;
    space = λ m. elim (cases_Bool (bytes_eq y m)) [
      | inl t ↦ subst (λ b. space_of (cond b x (r.back m)) ≡ space_of m) (sym t)
          (sym (alike x y good) ∙ ap space_of (bytes_eq-same y m t))
      | inr f ↦ subst (λ b. space_of (cond b x (r.back m)) ≡ space_of m) (sym f) (r.space m)
    ];
    into = λ n e. elim (cases_Bool (bytes_eq x n)) [
      | inl t ↦ subst (λ b. is_among (y ∷ r.targets) (cond b y (r.rho n)) ≡ true) (sym t)
          (ap (λ b. b || is_among r.targets y) (bytes_eq-refl y))
      | inr f ↦ subst (λ b. is_among (y ∷ r.targets) (cond b y (r.rho n)) ≡ true) (sym f)
          (or_right (bytes_eq y (r.rho n)) (is_among r.targets (r.rho n)) (r.into n (rest n e f)))
    ];
    backs = λ n e. elim (cases_Bool (bytes_eq x n)) [
      | inl t ↦ subst (λ b. cond (bytes_eq y (cond b y (r.rho n))) x (r.back (cond b y (r.rho n))) ≡ n) (sym t)
          (ap (λ b. cond b x (r.back y)) (bytes_eq-refl y) ∙ bytes_eq-same x n t)
      | inr f ↦ subst (λ b. cond (bytes_eq y (cond b y (r.rho n))) x (r.back (cond b y (r.rho n))) ≡ n) (sym f)
          (ap (λ b. cond b x (r.back (r.rho n))) (apart_y (r.rho n) (r.into n (rest n e f))) ∙ r.backs n (rest n e f))
    ];
    over = λ m e. elim (cases_Bool (bytes_eq y m)) [
      | inl t ↦ (
        subst (λ b. cond (bytes_eq x (cond b x (r.back m))) y (r.rho (cond b x (r.back m))) ≡ m) (sym t)
            (ap (λ b. cond b y (r.rho x)) (bytes_eq-refl x) ∙ bytes_eq-same y m t),
        subst (λ b. is_among (x ∷ xs) (cond b x (r.back m)) ≡ true) (sym t)
            (ap (λ b. b || is_among xs x) (bytes_eq-refl x)),
      )
      | inr f ↦ let (a, b) = r.over m (rest_y m e f) in (
        subst (λ b. cond (bytes_eq x (cond b x (r.back m))) y (r.rho (cond b x (r.back m))) ≡ m) (sym f)
            (ap (λ b. cond b y (r.rho (r.back m))) (apart_x (r.back m) b) ∙ a),
        subst (λ c. is_among (x ∷ xs) (cond c x (r.back m)) ≡ true) (sym f)
            (or_right (bytes_eq x (r.back m)) (is_among xs (r.back m)) b),
      )
    ];
    good = λ n e. elim (cases_Bool (bytes_eq x n)) [
      | inl t ↦ subst (λ b. Good n (cond b y (r.rho n))) (sym t) (subst (λ k. Good k y) (bytes_eq-same x n t) good)
      | inr f ↦ subst (λ b. Good n (cond b y (r.rho n))) (sym f) (r.good n (rest n e f))
    ];
    apart = λ m e. elim (cases_Bool (bytes_eq y m)) [
      | inl t ↦ subst (λ k. (is_among avoid k ≡ false) ⊎ (is_among keep k ≡ true)) (bytes_eq-same y m t) ap_y
      | inr f ↦ r.apart m (rest_y m e f)
    ];
  } where
    rest : (n : Key) → is_among (x ∷ xs) n ≡ true → bytes_eq x n ≡ false → is_among xs n ≡ true
    rest n e f = sym (ap (λ b. b || is_among xs n) f) ∙ e

    rest_y : (m : Key) → is_among (y ∷ r.targets) m ≡ true → bytes_eq y m ≡ false → is_among r.targets m ≡ true
    rest_y m e f = sym (ap (λ b. b || is_among r.targets m) f) ∙ e

    apart_y : (m : Key) → is_among r.targets m ≡ true → bytes_eq y m ≡ false
    apart_y m e = elim (cases_Bool (bytes_eq y m)) [
      | inl t ↦ absurd (true≢false (sym e ∙ subst (λ k. is_among r.targets k ≡ false) (bytes_eq-same y m t) free))
      | inr f ↦ f
    ]

    apart_x : (n : Key) → is_among xs n ≡ true → bytes_eq x n ≡ false
    apart_x n e = elim (cases_Bool (bytes_eq x n)) [
      | inl t ↦ absurd (true≢false (sym e ∙ subst (λ k. is_among xs k ≡ false) (bytes_eq-same x n t) other))
      | inr f ↦ f
    ]

  -- the same names in another list
  relist : (xs ys avoid keep : List Key) → ((n : Key) → is_among ys n ≡ is_among xs n) → NewNames xs avoid keep
      → NewNames ys avoid keep
  relist xs ys avoid keep same r = record {
    rho = r.rho;
    back = r.back;
    targets = r.targets;
    space = r.space;
    into = λ n e. r.into n (sym (same n) ∙ e);
    backs = λ n e. r.backs n (sym (same n) ∙ e);
    over = λ m e. ((r.over m e).0, same (r.back m) ∙ (r.over m e).1);
    good = λ n e. r.good n (sym (same n) ∙ e);
    apart = r.apart;
  }

  -- new names for xs besides; those that were there stay
  pub record Extended (xs ys avoid keep : List Key) (r : NewNames ys avoid keep) : Type 0 where
    pub names : NewNames (xs ++ ys) avoid keep
    pub same : (n : Key) → is_among ys n ≡ true → names.rho n ≡ r.rho n

  pub more_names : (xs ys avoid keep : List Key) (r : NewNames ys avoid keep) → Extended xs ys avoid keep r
  unfolding relist one_name
  more_names [] ys avoid keep r = record { names = r; same = λ n e. refl }
  more_names (x ∷ xs) ys avoid keep r =
      let s = more_names xs ys avoid keep r in
      elim (cases_Bool (is_among (xs ++ ys) x)) [
        | inl t ↦ record { names = relist (xs ++ ys) (x ∷ (xs ++ ys)) avoid keep (there t) s.names; same = s.same }
        | inr f ↦ let (y, good, free) = fresh x (avoid ++ s.names.targets) in record {
          names =
              one_name x y (xs ++ ys) avoid keep s.names good f (none_right avoid s.names.targets y free)
              (inl (none_left avoid s.names.targets y free));
          same = λ n e. ap (λ b. cond b y (s.names.rho n)) (other f n e) ∙ s.same n e;
        }
      ] where
        there : is_among (xs ++ ys) x ≡ true → (n : Key) → is_among (x ∷ (xs ++ ys)) n ≡ is_among (xs ++ ys) n
        there t n = elim (cases_Bool (bytes_eq x n)) [
          | inl e ↦ ap (λ b. b || is_among (xs ++ ys) n) e
              ∙ sym (subst (λ k. is_among (xs ++ ys) k ≡ true) (bytes_eq-same x n e) t)
          | inr e ↦ ap (λ b. b || is_among (xs ++ ys) n) e
        ]

        other : is_among (xs ++ ys) x ≡ false → (n : Key) → is_among ys n ≡ true → bytes_eq x n ≡ false
        other f n e = elim (cases_Bool (bytes_eq x n)) [
          | inl t ↦ absurd
              (true≢false (sym (among_right xs ys n e)
              ∙ subst (λ k. is_among (xs ++ ys) k ≡ false) (bytes_eq-same x n t) f))
          | inr t ↦ t
        ]

  -- a given name for one name
  pub single_name : (x y : Key) (avoid : List Key) → Good x y → (r : NewNames (x ∷ []) avoid (y ∷ [])) × (r.rho x ≡ y)
  unfolding one_name no_names
  single_name x y avoid good = (
    one_name x y [] avoid (y ∷ []) (no_names avoid (y ∷ [])) good refl refl
        (inr (ap (λ b. b || false) (bytes_eq-refl y))),
    ap (λ b. cond b y x) (bytes_eq-refl x),
  )
