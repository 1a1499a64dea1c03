-- The values of a row's variables, found one after the other.
use Rattle.std.proofs.Common.{◌≡◌, ◌⊎◌, inl, inr, ℕ, zero, suc, ◌+◌, ◌-◌, ◌<◌, ◌≤◌, ◌||◌, Bool, true, false, if◌then◌else◌, List, [], ◌∷◌, ◌++◌, map, take, get_or, length, Some, None, slice_get, refl, ap, ap₂, sym, ◌∙◌, subst, append_assoc, append-nil, arith}
use Rattle.std.proofs.lemmas.Bool.{cases_Bool}
use Rattle.std.proofs.lemmas.List.{length-map, map-append, take_all}
use Rattle.std.specs.List.{AllByRecursion}
use Rattle.psg_terms.specs.Terms.{Term, variable, symbol, applied}
use Rattle.psg_terms.specs.Instances.{IsInstance, Substitution, substitute}
use Rattle.psg_terms.specs.Canonical.{Variable, variables, variables_of, is_noted, noted, noted_all, IsNumberedFrom}
use Rattle.psg_terms.proofs.Applied.{applied-substitute}
use Rattle.psg_terms.proofs.Lists.{take_item, slice_get-map_some}
use Rattle.psg_terms.proofs.RenamingLaws.{among-noted_all, noted_all-append, variables-applied, variables_of-append}
use Rattle.psg_terms.proofs.Renumbering.{AgreeAt, agree_in}
use Rattle.psg_terms.proofs.Unique.{Each}
use Rattle.psg_terms.proofs.Variables.{true_false, variable_cases}
use Rattle.psg_relation.specs.Heads.{head_of}
use Rattle.psg_terms.specs.Signature.{Signature}
use Rattle.psg_terms.specs.Canonical.{IsCanonical}
use Rattle.psg_explain.specs.declared.derived.Derived.{Derived}
use Rattle.psg_explain.specs.declared.fitting.Fitting.{Fitting}
use Rattle.psg_explain.specs.declared.refutation.Rule.{Rule}
use Rattle.psg_explain.specs.declared.refutation.Verdict.TheVariants as verdicts
use Rattle.psg_explain.specs.declared.solver.Solution.{Solution}
use Rattle.psg_explain.specs.Equations.{Derives, Equation, put_for, term_of}
use Rattle.psg_explain.specs.Fitted.{IsCoverable, IsFitting, IsSolved, IsUnfitting, IsValued, put_all}
use Rattle.psg_explain.specs.Solutions.{AreBindings, Binding, IsSolution, Solving, reason_of}
use Rattle.psg_explain.specs.Verdicts.{AreMade, HasValue, IsRight, IsUnder, Rewrites, valued}
use Rattle.psg_explain.proofs.ApplyingLaws.{same_number, some_is}
use Rattle.psg_explain.proofs.RightLaws.{canonical_under}
use Rattle.psg_explain.proofs.SolvingLaws.{arguments_con, head_con}

-- ---- numbers

numbered_front : (n : ℕ) (xs ys : List Variable) → IsNumberedFrom n (xs ++ ys) → IsNumberedFrom n xs
numbered_front n [] ys h = tt
numbered_front n (x ∷ xs) ys (e, h) = (e, numbered_front (n + 1) xs ys h)

numbered_end : (n : ℕ) (xs : List Variable) (x : Variable) → IsNumberedFrom n (xs ++ x ∷ []) → x.1 ≡ n + length xs
numbered_end n [] x (e, h) = omega (arith, e)
numbered_end n (y ∷ xs) x (e, h) = let k = numbered_end (n + 1) xs x h in omega (arith, k)

-- a noted variable is at the place of its number
numbered_at : (n : ℕ) (xs : List Variable) (x : Variable) → IsNumberedFrom n xs → is_noted x xs ≡ true → (j : ℕ) × (slice_get xs j ≡ Some x) × (x.1 ≡ n + j)
numbered_at n [] x h e = absurd (true_false (sym e))
numbered_at n (y ∷ xs) x (k, h) e = elim (variable_cases x y) [
  | inl d ↦ (let at : x.1 ≡ n = ap (λ (z : Variable). z.1) d ∙ k in (0, ap Some (sym d), omega (arith, at)))
  | inr d ↦ (let (j, at, is) = numbered_at (n + 1) xs x h (sym (ap (λ b. b || is_noted x xs) d) ∙ e) in (suc j, at, omega (arith, is)))
]

noted_there : (known : List Variable) (x : Variable) → is_noted x known ≡ true → noted known x ≡ known
noted_there known x e = ap (λ b. if b then known else known ++ x ∷ []) e

noted_new : (known : List Variable) (x : Variable) → is_noted x known ≡ false → noted known x ≡ known ++ x ∷ []
noted_new known x e = ap (λ b. if b then known else known ++ x ∷ []) e

noted_all_more : (xs ys : List Variable) → (more : List Variable) × (noted_all xs ys ≡ xs ++ more)
noted_all_more xs [] = ([], sym (append-nil xs))
noted_all_more xs (y ∷ ys) = elim (cases_Bool (is_noted y xs)) [
  | inl e ↦ (let (more, is) = noted_all_more xs ys in (more, ap (λ l. noted_all l ys) (noted_there xs y e) ∙ is))
  | inr e ↦ (let (more, is) = noted_all_more (xs ++ y ∷ []) ys in
      (y ∷ more, ap (λ l. noted_all l ys) (noted_new xs y e) ∙ is ∙ append_assoc xs (y ∷ []) more))
]

pub known_numbered : (known xs : List Variable) → IsNumberedFrom 1 (noted_all known xs) → IsNumberedFrom 1 known
known_numbered known xs h =
    let (more, is) = noted_all_more known xs in
    numbered_front 1 known more (subst (IsNumberedFrom 1) is h)

-- ---- one variable

module _ (f : Substitution) (known : List Variable) (values : List Term) (v : IsValued f known values) (s n : ℕ) where
  abbrev now : Variable
  now = (s, n)

  value_count : length values ≡ length known
  value_count = ap length v.are ∙ length-map known (λ (x : Variable). f x.0 x.1)

  module _ (h : IsNumberedFrom 1 (noted known (s, n))) where
    -- it is known by its number, or the next one
    known_or_next : ((is_noted now known ≡ true) × (j : ℕ) × (slice_get known j ≡ Some now) × (n ≡ 1 + j)) ⊎ ((is_noted now known ≡ false) × (n ≡ 1 + length known))
    known_or_next = elim (cases_Bool (is_noted now known)) [
      | inl e ↦ (let (j, at, is) = numbered_at 1 known now v.numbered e in inl (e, j, at, is))
      | inr e ↦ inr (e, numbered_end 1 known now (subst (IsNumberedFrom 1) (noted_new known now e) h))
    ]

    pub next_valued : (special : Term) (new : List Term) → special ≡ f s n → n ≡ length values + 1 → new ≡ values ++ special ∷ [] → IsValued f (noted known (s, n)) new
    next_valued special new is at made = elim known_or_next [
      | inl (e, j, there, k) ↦ (let lt = within known j now there in let m = value_count in absurd (omega (arith, at, k, lt, m)))
      | inr (e, k) ↦ record {
        numbered = h;
        are = made ∙ ap₂ (λ l t. l ++ t ∷ []) v.are is ∙ sym (map-append (λ (x : Variable). f x.0 x.1) known (now ∷ [])) ∙ ap (map (λ (x : Variable). f x.0 x.1)) (sym (noted_new known now e));
      }
    ]
      where
        within : (xs : List Variable) (j : ℕ) (x : Variable) → slice_get xs j ≡ Some x → j < length xs
        within [] j x e = absurd (cc)
        within (y ∷ xs) zero x e = omega arith
        within (y ∷ xs) (suc j) x e = let k = within xs j x e in omega (arith, k)

    pub known_valued : (value : Term) → slice_get values (n - 1) ≡ Some value → (value ≡ f s n) × IsValued f (noted known (s, n)) values
    known_valued value at = elim known_or_next [
      | inl (e, j, there, k) ↦ (
          let place : n - 1 ≡ j = omega (arith, k) in
          let read : slice_get values j ≡ Some (f s n) = ap (λ l. slice_get l j) v.are ∙ slice_get-map_some (λ (x : Variable). f x.0 x.1) known j now there in
          (some_is (sym at ∙ ap (slice_get values) place ∙ read), subst (λ l. IsValued f l values) (sym (noted_there known now e)) v)
          )
      | inr (e, k) ↦ (let lt = within values (n - 1) value at in let m = value_count in absurd (omega (arith, lt, k, m)))
    ]
      where
        within : (xs : List Term) (j : ℕ) (x : Term) → slice_get xs j ≡ Some x → j < length xs
        within [] j x e = absurd (cc)
        within (y ∷ xs) zero x e = omega arith
        within (y ∷ xs) (suc j) x e = let k = within xs j x e in omega (arith, k)

    -- the number is 0, or beyond the next one
    pub no_number : (n ≡ 0) ⊎ ((slice_get values (n - 1) ≡ None) × (n - 1 ≡ length values → ⊥)) → ⊥
    no_number (inl none) = elim known_or_next [
      | inl (e, j, there, k) ↦ omega (arith, none, k)
      | inr (e, k) ↦ omega (arith, none, k)
    ]
    no_number (inr (none, beyond)) = elim known_or_next [
      | inl (e, j, there, k) ↦ (
          let place : n - 1 ≡ j = omega (arith, k) in
          let read : slice_get values j ≡ Some (f s n) = ap (λ l. slice_get l j) v.are ∙ slice_get-map_some (λ (x : Variable). f x.0 x.1) known j now there in
          let d : None ≡ Some (f s n) = sym none ∙ ap (slice_get values) place ∙ read in
          absurd (cc)
          )
      | inr (e, k) ↦ (let m = value_count in beyond (omega (arith, k, m)))
    ]

-- ---- the values make the row

agree_each : (f : Substitution) (known : List Variable) (values : List Term) → IsValued f known values → (xs : List Variable) → Each (λ x. is_noted x known ≡ true) xs
    → Each (AgreeAt f (valued values)) xs × AllByRecursion (HasValue values) xs
agree_each f known values v [] h = (tt, tt)
agree_each f known values v (x ∷ xs) (e, h) =
    let (one, two) = agree_each f known values v xs h in
    let (j, there, k) = numbered_at 1 known x v.numbered e in
    let read : slice_get values j ≡ Some (f x.0 x.1) = ap (λ l. slice_get l j) v.are ∙ slice_get-map_some (λ (x : Variable). f x.0 x.1) known j x there in
    let place : x.1 - 1 ≡ j = omega (arith, k) in
    let lt = within values j (f x.0 x.1) read in (
      (sym (got values j (f x.0 x.1) (variable x.0 x.1) read) ∙ ap (λ i. get_or values i (variable x.0 x.1)) (sym place), one),
      ((omega (arith, k), omega (arith, k, lt)), two),
    )
  where
    within : (xs : List Term) (j : ℕ) (x : Term) → slice_get xs j ≡ Some x → j < length xs
    within [] j x e = absurd (cc)
    within (y ∷ xs) zero x e = omega arith
    within (y ∷ xs) (suc j) x e = let k = within xs j x e in omega (arith, k)

    got : (xs : List Term) (i : ℕ) (x d : Term) → slice_get xs i ≡ Some x → get_or xs i d ≡ x
    got [] i x d h = absurd (cc)
    got (y ∷ xs) zero x d h = some_is h
    got (y ∷ xs) (suc i) x d h = got xs i x d h

pub valued_made : (f : Substitution) (row columns values : List Term) → IsValued f (noted_all [] (variables_of row)) values → columns ≡ map (substitute f) row → AreMade values row columns
valued_made f row columns values v is =
    let (same, all) = agree_each f (noted_all [] (variables_of row)) values v (variables_of row) (among-noted_all [] (variables_of row)) in
    (all, is ∙ agree_in f (valued values) row same)

pub none_valued : (f : Substitution) → IsValued f [] []
none_valued f = record { numbered = tt; are = refl }

-- ---- place by place

pub taken_variables : (row : List Term) (i : ℕ) (t : Term) (known : List Variable) → i < length row → t ≡ get_or row i t
    → noted_all known (variables_of (take (i + 1) row)) ≡ noted_all (noted_all known (variables_of (take i row))) (variables t)
taken_variables row i t known lt at =
    ap (noted_all known) (ap variables_of (take_item row i t lt at) ∙ variables_of-append (take i row) (t ∷ []) ∙ ap (λ l. variables_of (take i row) ++ l) (append-nil (variables t)))
    ∙ noted_all-append known (variables_of (take i row)) (variables t)

-- the front of a row is numbered where the row is
pub front_numbered : (row : List Term) (i : ℕ) (known : List Variable) → IsNumberedFrom 1 (noted_all known (variables_of row)) → IsNumberedFrom 1 (noted_all known (variables_of (take i row)))
front_numbered row i known h =
    let (rest, e) = parted row i in
    known_numbered (noted_all known (variables_of (take i row))) (variables_of rest)
    (subst (IsNumberedFrom 1) (ap (λ l. noted_all known (variables_of l)) e ∙ ap (noted_all known) (variables_of-append (take i row) rest) ∙ noted_all-append known (variables_of (take i row)) (variables_of rest)) h)
  where
    parted : (xs : List Term) (i : ℕ) → (rest : List Term) × (xs ≡ take i xs ++ rest)
    parted [] zero = ([], refl)
    parted [] (suc i) = ([], refl)
    parted (x ∷ xs) zero = (x ∷ xs, refl)
    parted (x ∷ xs) (suc i) = let (rest, e) = parted xs i in (rest, ap (λ l. x ∷ l) e)

-- ---- terms that are fitted

-- where the substitution makes the special term of the general one, the answer is yes, and the new values are its terms
abbrev pub Fits : List Term → List Term → Bool → Term → Term → Type 0
Fits old new b general special =
    (f : Substitution) (known : List Variable) → IsValued f known old → IsNumberedFrom 1 (noted_all known (variables general)) → special ≡ substitute f general
    → (b ≡ true) × IsValued f (noted_all known (variables general)) new

abbrev pub FitsAll : List Term → List Term → Bool → List Term → List Term → Type 0
FitsAll old new b general special =
    (f : Substitution) (known : List Variable) → IsValued f known old → IsNumberedFrom 1 (noted_all known (variables_of general)) → special ≡ map (substitute f) general
    → (b ≡ true) × IsValued f (noted_all known (variables_of general)) new

module _ (old new : List Term) (b : Bool) (general special : Term) where
  pub fits_variable : (s n : ℕ) → general ≡ variable s n
      → ((f : Substitution) (known : List Variable) (t : ℕ) → IsValued f known old → IsNumberedFrom 1 (noted known (t, n)) → special ≡ f t n → (b ≡ true) × IsValued f (noted known (t, n)) new)
      → Fits old new b general special
  fits_variable s n e h = subst (λ (t : Term). Fits old new b t special) (sym e) (λ f known v k is. h f known s v k is)

  module _ (c : ℕ) (args : List Term) (p : general ≡ applied (symbol c) args) where
    made_of : (f : Substitution) → special ≡ substitute f general → special ≡ applied (symbol c) (map (substitute f) args)
    made_of f is = is ∙ ap (substitute f) p ∙ applied-substitute f (symbol c) args

    pub no_fit_variable : (s n : ℕ) → special ≡ variable s n → Fits old new b general special
    no_fit_variable s n q f known v k is =
        let d : None ≡ Some c = sym (ap head_of q) ∙ head_con special c (map (substitute f) args) (made_of f is) in
        absurd (cc)

    module _ (d : ℕ) (parts : List Term) (q : special ≡ applied (symbol d) parts) where
      pub no_fit_other : (c ≡ d → ⊥) → Fits old new b general special
      no_fit_other differ f known v k is = absurd (differ (some_is (sym (head_con special c (map (substitute f) args) (made_of f is)) ∙ head_con special d parts q)))

      pub fits_con : FitsAll old new b args parts → Fits old new b general special
      fits_con h f known v k is =
          let same : variables general ≡ variables_of args = ap variables p ∙ variables-applied (symbol c) args in
          let made : parts ≡ map (substitute f) args = sym (arguments_con special d parts q) ∙ arguments_con special c (map (substitute f) args) (made_of f is) in
          let (yes_it, values) = h f known v (subst (λ l. IsNumberedFrom 1 (noted_all known l)) same k) made in
          (yes_it, subst (λ l. IsValued f (noted_all known l) new) (sym same) values)

module _ (general special : List Term) where
  -- the values found so far
  abbrev pub FitsUpTo : List Term → ℕ → List Term → Type 0
  FitsUpTo old i now =
      (f : Substitution) (known : List Variable) → IsValued f known old → IsNumberedFrom 1 (noted_all known (variables_of general)) → special ≡ map (substitute f) general
      → IsValued f (noted_all known (variables_of (take i general))) now

  place_made : (f : Substitution) (i : ℕ) (t u : Term) → i < length general → i < length special → t ≡ get_or general i t → u ≡ get_or special i u → special ≡ map (substitute f) general → u ≡ substitute f t
  place_made f i t u lt lu at there is = made general special i lt lu at there is
    where
      made : (gs ss : List Term) (i : ℕ) → i < length gs → i < length ss → t ≡ get_or gs i t → u ≡ get_or ss i u → ss ≡ map (substitute f) gs → u ≡ substitute f t
      made [] ss i lt lu at there is = absurd (omega (arith, lt))
      made (g ∷ gs) [] i lt lu at there is = absurd (omega (arith, lu))
      made (g ∷ gs) (s ∷ ss) zero lt lu at there is = let h : s ≡ substitute f g = cc in there ∙ h ∙ ap (substitute f) (sym at)
      made (g ∷ gs) (s ∷ ss) (suc i) lt lu at there is = let h : ss ≡ map (substitute f) gs = cc in made gs ss i (omega (arith, lt)) (omega (arith, lu)) at there h

  pub fit_next : (old now new : List Term) (b : Bool) (i : ℕ) (t u : Term) → i < length general → i < length special → t ≡ get_or general i t → u ≡ get_or special i u
      → FitsUpTo old i now → Fits now new b t u
      → (f : Substitution) (known : List Variable) → IsValued f known old → IsNumberedFrom 1 (noted_all known (variables_of general)) → special ≡ map (substitute f) general
      → (b ≡ true) × IsValued f (noted_all known (variables_of (take (i + 1) general))) new
  fit_next old mid new b i t u lt lu at there sofar fits f known v k is =
      let seen = noted_all known (variables_of (take i general)) in
      let e = taken_variables general i t known lt at in
      let (yes_it, values) = fits f seen (sofar f known v k is) (subst (IsNumberedFrom 1) e (front_numbered general (i + 1) known k)) (place_made f i t u lt lu at there is) in
      (yes_it, subst (λ l. IsValued f l new) (sym e) values)

  pub fit_lengths : (f : Substitution) → special ≡ map (substitute f) general → length general ≡ length special
  fit_lengths f is = sym (ap length is ∙ length-map general (substitute f))

  pub fit_end : (old now : List Term) (i : ℕ) → length general ≤ i → FitsUpTo old i now → FitsAll old now true general special
  fit_end old now i le sofar f known v k is =
      (refl, subst (λ l. IsValued f (noted_all known (variables_of l)) now) (take_all i general le) (sofar f known v k is))

  pub fit_start : (old : List Term) → FitsUpTo old 0 old
  fit_start old f known v k is = v

-- ---- one row

pub values_none : (row columns new : List Term) (b : Bool) → IsNumberedFrom 1 (noted_all [] (variables_of row)) → FitsAll [] new b row columns → b ≡ false → IsInstance columns row → ⊥
values_none row columns new b numbered fits no_it (f, is) =
    let (yes_it, values) = fits f [] (none_valued f) numbered is in
    true_false (sym yes_it ∙ no_it)

pub values_wrong : (row columns new : List Term) (b : Bool) → IsNumberedFrom 1 (noted_all [] (variables_of row)) → FitsAll [] new b row columns → (AreMade new row columns → ⊥) → IsInstance columns row → ⊥
values_wrong row columns new b numbered fits wrong (f, is) =
    let (yes_it, values) = fits f [] (none_valued f) numbered is in
    wrong (valued_made f row columns new values is)

-- ---- all rows

pub none_fits : (rows : List (List Term)) (columns : List Term) (n : ℕ) → length rows ≤ n
    → ((k : ℕ) (row : List Term) → k < n → slice_get rows k ≡ Some row → IsInstance columns row → ⊥) → IsUnfitting rows columns
none_fits rows columns n le h i row at = h i row (let k = within rows i row at in omega (arith, k, le)) at
  where
    within : (xs : List (List Term)) (i : ℕ) (x : List Term) → slice_get xs i ≡ Some x → i < length xs
    within [] i x e = absurd (cc)
    within (y ∷ xs) zero x e = omega arith
    within (y ∷ xs) (suc i) x e = let k = within xs i x e in omega (arith, k)

pub one_fits : (rows : List (List Term)) (row columns values : List Term) (to : ℕ) → slice_get rows to ≡ Some row → (sig : Signature) × IsCanonical sig row → AreMade values row columns
    → (row : List Term) × (slice_get rows to ≡ Some row) × IsUnder values row columns
one_fits rows row columns values to at (sig, canonical) made = (row, at, (canonical_under sig values row columns canonical).0 made)

-- the rows that were looked at are one more
pub one_more_looked : (rows : List (List Term)) (columns row : List Term) (n : ℕ) → slice_get rows n ≡ Some row → (IsInstance columns row → ⊥)
    → ((k : ℕ) (row : List Term) → k < n → slice_get rows k ≡ Some row → IsInstance columns row → ⊥)
    → (k : ℕ) (row : List Term) → k < n + 1 → slice_get rows k ≡ Some row → IsInstance columns row → ⊥
one_more_looked rows columns row n at no_instance h k other lt there = elim (less_cases k n lt) [
  | inl less ↦ h k other less there
  | inr same ↦ (let e : row ≡ other = some_is (sym at ∙ ap (slice_get rows) (sym same) ∙ there) in λ is. no_instance (subst (IsInstance columns) (sym e) is))
]
  where
    less_cases : (k n : ℕ) → k < n + 1 → (k < n) ⊎ (k ≡ n)
    less_cases zero zero h = inr refl
    less_cases zero (suc n) h = inl (omega arith)
    less_cases (suc k) zero h = absurd (omega (arith, h))
    less_cases (suc k) (suc n) h = elim (less_cases k n (omega (arith, h))) [ inl l ↦ inl (omega (arith, l)) | inr e ↦ inr (ap suc e) ]

-- ---- bindings

-- the columns are rewritten by the bindings
pub bindings_rewrite : (all : List Equation) (numbers : List ℕ) (bs : List Binding) (columns : List Term) → AreBindings all numbers bs → Rewrites all numbers columns (put_all bs columns)
bindings_rewrite all [] bs columns e = ap (λ (l : List Binding). put_all l columns) e
bindings_rewrite all (n ∷ numbers) [] columns h = absurd h
bindings_rewrite all (n ∷ numbers) (b ∷ bs) columns (binding, h) = (b.0, b.1, binding, bindings_rewrite all numbers bs (map (substitute (put_for b.0 b.1)) columns) h)

-- and in no other way
pub rewritten_is : (all : List Equation) (numbers : List ℕ) (bs : List Binding) (columns made : List Term) → AreBindings all numbers bs → Rewrites all numbers columns made → made ≡ put_all bs columns
rewritten_is all [] bs columns made e is = is ∙ ap (λ (l : List Binding). put_all l columns) (sym e)
rewritten_is all (n ∷ numbers) [] columns made h is = absurd h
rewritten_is all (n ∷ numbers) (b ∷ bs) columns made (binding, h) (x, t, at, is) =
    let both : ◌≡◌ {A = Equation} (term_of x, t) (term_of b.0, b.1) = some_is (sym at ∙ binding) in
    let same : x ≡ b.0 = same_number x b.0 (ap (λ (e : Equation). e.0) both) in
    let terms : t ≡ b.1 = ap (λ (e : Equation). e.1) both in
    let put : Rewrites all numbers (map (substitute (put_for b.0 b.1)) columns) made =
    subst (λ y. Rewrites all numbers (map (substitute (put_for y b.1)) columns) made) same (subst (λ u. Rewrites all numbers (map (substitute (put_for x u)) columns) made) terms is) in
    rewritten_is all numbers bs (map (substitute (put_for b.0 b.1)) columns) made h put

-- ---- a verdict on a case without a failure

pub solved_case : (given same : List Equation) (s : Solution) → same ≡ given → IsSolution same s → s.failure ≡ None → IsSolved given s.derived s.bindings.items
solved_case given same s e is none = record {
  derives = subst (λ (g : List Equation). Derives g s.derived.rules.items s.derived.all.items) e is.derives;
  bindings = is.bindings;
  solving = subst (λ (g : List Equation). Solving g is.bindings None) e (subst (Solving same is.bindings) (ap reason_of none) is.solving);
  bound = is.bound;
}

module _ (rows : List (List Term)) (given : List Equation) (columns : List Term) (derived : Derived) (numbers : List ℕ) (is : IsSolved given derived numbers) where
  pub not_rewritten : ((made : List Term) → Rewrites derived.all.items numbers columns made → ⊥) → ⊥
  not_rewritten h = h (put_all is.bindings columns) (bindings_rewrite derived.all.items numbers is.bindings columns is.bound)

  pub not_covered : (made : List Term) → IsCoverable rows given columns → Rewrites derived.all.items numbers columns made → IsUnfitting rows made → ⊥
  not_covered made covers is_made unfit =
      let (i, row, at, instance_of) = covers is.bindings is.solving in
      unfit i row at (subst (λ (l : List Term). IsInstance l row) (sym (rewritten_is derived.all.items numbers is.bindings columns made is.bound is_made)) instance_of)

  pub covered : (made : List Term) (fitting : Fitting) (to : ℕ) → Rewrites derived.all.items numbers columns made → IsFitting rows made fitting → to ≡ fitting.to
      → IsRight rows given columns (verdicts.Covered to derived.rules.items numbers fitting.values.items)
  covered made fitting to is_made (row, at, under) e = (derived.all.items, is.derives, made, is_made, row, ap (slice_get rows) e ∙ at, under)

  pub covered_as : (made : List Term) (fitting : Fitting) (to : ℕ) (rules : List Rule) (shared : List ℕ) (values : List Term) → Rewrites derived.all.items numbers columns made → IsFitting rows made fitting → to ≡ fitting.to
      → rules ≡ derived.rules.items → shared ≡ numbers → values ≡ fitting.values.items → IsRight rows given columns (verdicts.Covered to rules shared values)
  covered_as made fitting to rules shared values is_made fits e er en ev =
      subst (λ r. IsRight rows given columns (verdicts.Covered to r shared values)) (sym er)
      (subst (λ n. IsRight rows given columns (verdicts.Covered to derived.rules.items n values)) (sym en)
      (subst (λ v. IsRight rows given columns (verdicts.Covered to derived.rules.items numbers v)) (sym ev) (covered made fitting to is_made fits e)))

-- the terms of a slice in place of those of a row
pub fits_from : (old start new : List Term) (b : Bool) (general special : List Term) → start ≡ old → FitsAll start new b general special → FitsAll old new b general special
fits_from old start new b general special e h = subst (λ l. FitsAll l new b general special) e h

pub rewrites_from : (all there : List Equation) (numbers given_numbers : List ℕ) (columns own made items : List Term) → all ≡ there → numbers ≡ given_numbers → columns ≡ own → made ≡ items
    → Rewrites all numbers columns items → Rewrites there given_numbers own made
rewrites_from all there numbers given_numbers columns own made items ea en ec em h =
    subst (Rewrites there given_numbers own) (sym em)
    (subst (λ (l : List Term). Rewrites there given_numbers l items) ec (subst (λ (l : List ℕ). Rewrites there l columns items) en (subst (λ (l : List Equation). Rewrites l numbers columns items) ea h)))

pub rewrites_back : (all there : List Equation) (numbers given_numbers : List ℕ) (columns own made : List Term) → all ≡ there → numbers ≡ given_numbers → columns ≡ own
    → Rewrites there given_numbers own made → Rewrites all numbers columns made
rewrites_back all there numbers given_numbers columns own made ea en ec h =
    subst (λ (l : List Equation). Rewrites l numbers columns made) (sym ea) (subst (λ (l : List ℕ). Rewrites there l columns made) (sym en) (subst (λ (l : List Term). Rewrites there given_numbers l made) (sym ec) h))
