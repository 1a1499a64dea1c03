-- A term as it is written has the form and the depth that it has in the file. A number is one or more digits.
use Rattle.std.proofs.Common.{◌≡◌, ℕ, zero, suc, ◌+◌, ◌<◌, ◌/◌, ◌%◌, ◌==◌, ◌||◌, Bool, true, false, cond, if◌then◌else◌, List, [], ◌∷◌, length, refl, ap, ◌∙◌, arith, lt-ltb, inl, inr, ◌≤◌, max, map, Some, slice_get, ap₂, sym, subst}
use Rattle.std.specs.Prelude.{decimal}
use Rattle.std.specs.List.{list_all, AllByRecursion}
use Rattle.std.proofs.lemmas.Bool.{and_from, or_right, false≢true}
use Rattle.std.proofs.lemmas.Bool.Decides.{nat_tests}
use Rattle.psg_terms.proofs.Lists.{each_at}
use Rattle.std.specs.Fmt.{digit_glyph, digits_onto, digits}
use Rattle.psg_grammar.specs.Sound.{is_upper, is_lower, is_digit, IsOwnName}
use Rattle.psg_deflines.specs.WrittenTerms.{is_plain, is_variable_name, WrittenTerm, variable, named, apply, is_head, HasTermForm, term_depth, most_nested, IsShallowTerm}
use Rattle.psg_deflines.specs.WrittenTrees.{is_digits}
use Rattle.psg_terms.specs.Names.{Name}
use Rattle.psg_terms.specs.Terms.{Term}
use Rattle.psg_terms.specs.Terms as terms
use Rattle.psg_terms.specs.Signature.{Symbol, constructors_of, only_constructor}
use Rattle.psg_terms.proofs.SoundChoices.{listed}
use Rattle.psg_grammar.specs.declared.types.Definition.{Definition}
use Rattle.psg_defnumber.specs.Numbers.{IsTerm, AreTerms}
use Rattle.psg_defread.specs.WrittenLines.{term_written, term_at, constructor_name}
use Rattle.psg_defread.proofs.NumberNames.{name-found}
use Rattle.psg_defread.proofs.NumberTerms.{sole-listed}

either-all : (test : ℕ → Bool) (b : Bool) (xs ys : List ℕ) → list_all test xs ≡ true → list_all test ys ≡ true
    → list_all test (cond b xs ys) ≡ true
either-all test true xs ys p q = p
either-all test false xs ys p q = q

either-some : (b : Bool) (xs ys : List ℕ) → 0 < length xs → 0 < length ys → 0 < length (cond b xs ys)
either-some true xs ys p q = p
either-some false xs ys p q = q

module _ (test : ℕ → Bool) (of_digit : (d : ℕ) → d < 10 → test (48 + d) ≡ true) where
  glyph-all : (n : ℕ) → test (digit_glyph false (n % 10)) ≡ true
  glyph-all n =
      let small : n % 10 < 10 = omega arith in
      let is : digit_glyph false (n % 10) ≡ 48 + n % 10 =
      ap (λ b. if b then 48 + n % 10 else 87 + n % 10) (lt-ltb (n % 10) 10 small) in
      ap test is ∙ of_digit (n % 10) small

  onto-all : (k n : ℕ) (acc : List ℕ) → list_all test acc ≡ true → list_all test (digits_onto k 10 false n acc) ≡ true
  onto-all zero n acc h = h
  onto-all (suc k) n acc h =
      let one = digit_glyph false (n % 10) in
      let more : list_all test (one ∷ acc) ≡ true = and_from (test one) (list_all test acc) (glyph-all n) h in
      either-all test (n / 10 == 0) (one ∷ acc) (digits_onto k 10 false (n / 10) (one ∷ acc)) more
      (onto-all k (n / 10) (one ∷ acc) more)

  decimal-all : (n : ℕ) → list_all test (decimal n) ≡ true
  unfolding digits
  decimal-all n = onto-all 64 n [] refl

onto-some : (k n x : ℕ) (xs : List ℕ) → 0 < length (digits_onto k 10 false n (x ∷ xs))
onto-some zero n x xs = omega arith
onto-some (suc k) n x xs =
    let one = digit_glyph false (n % 10) in
    either-some (n / 10 == 0) (one ∷ x ∷ xs) (digits_onto k 10 false (n / 10) (one ∷ x ∷ xs)) (omega arith)
    (onto-some k (n / 10) one (x ∷ xs))

decimal-some : (n : ℕ) → 0 < length (decimal n)
unfolding digits
decimal-some n =
    let one = digit_glyph false (n % 10) in
    either-some (n / 10 == 0) (one ∷ []) (digits_onto 63 10 false (n / 10) (one ∷ [])) (omega arith)
    (onto-some 63 (n / 10) one [])

-- ---- names and numbers

digit-is : (d : ℕ) → d < 10 → is_digit (48 + d) ≡ true
digit-is d h = grind (arith, nat_tests)

digit-plain : (d : ℕ) → d < 10 → is_plain (48 + d) ≡ true
digit-plain d h =
    let c = 48 + d in or_right (is_upper c || is_lower c) (is_digit c) (digit-is d h)

some-plain : (ds : List ℕ) → 0 < length ds → list_all is_plain ds ≡ true → is_variable_name ds ≡ true
some-plain [] h k = absurd (omega arith)
some-plain (c ∷ cs) h k = k

some-digits : (ds : List ℕ) → 0 < length ds → list_all is_digit ds ≡ true → is_digits ds ≡ true
some-digits [] h k = absurd (omega arith)
some-digits (c ∷ cs) h k = k

pub number-named : (n : ℕ) → is_variable_name (decimal n) ≡ true
number-named n = some-plain (decimal n) (decimal-some n) (decimal-all is_plain digit-plain n)

pub number-spelled : (n : ℕ) → is_digits (decimal n) ≡ true
number-spelled n = some-digits (decimal n) (decimal-some n) (decimal-all is_digit digit-is n)

-- ---- terms

-- the second term keeps what is said of the first
pub record IsKeptTerm (w v : WrittenTerm) : Type 0 where
  pub form : HasTermForm w → HasTermForm v
  pub depth : term_depth v ≡ term_depth w
  pub head : is_head w ≡ true → is_head v ≡ true

pub form-kept : (w v : WrittenTerm) → IsKeptTerm w v → HasTermForm w → HasTermForm v
form-kept w v k h = k.form h

pub shallow-kept : (w v : WrittenTerm) → IsKeptTerm w v → IsShallowTerm w → IsShallowTerm v
shallow-kept w v k h = subst (λ n. n ≤ most_nested) (sym k.depth) h

abbrev pub IsNamedSymbol : Symbol → Type 0
IsNamedSymbol s = IsOwnName s.name

module _ (def : Definition) (own : AllByRecursion IsNamedSymbol def.signature.symbols) where
  constant-named : (sort c : ℕ) → only_constructor def.signature sort ≡ Some c → IsOwnName (constructor_name def c)
  constant-named sort c e =
      let symbols = def.signature.symbols in
      let l = sole-listed sort 0 c (constructors_of def.signature sort) symbols (listed 0 sort symbols) e in
      let number = l.number in
      let same : l.place ≡ c = omega (arith, number) in
      let at : slice_get symbols c ≡ Some l.found = subst (λ k. slice_get symbols k ≡ Some l.found) same l.at in
      subst IsOwnName (sym (name-found (λ (s : Symbol). s.name) symbols c l.found at))
      (each_at IsNamedSymbol symbols own c l.found at)

  module _ (names : List Name) where
    abbrev IsKept : WrittenTerm → Term → Type 0
    IsKept w t = IsKeptTerm w (term_written def t)

    apply-kept : (f a : WrittenTerm) (g b : Term) → IsKept f g → IsKept a b → IsKept (apply f a) (terms.apply g b)
    apply-kept f a g b kf ka = record {
      form = λ h. (kf.head h.0, kf.form h.1, ka.form h.2);
      depth = ap₂ (λ m n. max m (n + 1)) kf.depth ka.depth;
      head = λ h. refl;
    }

    pub term-kept : (w : WrittenTerm) (arguments : List ℕ) (sort : ℕ) (t : Term)
        → IsTerm def.signature names arguments sort w t → IsKeptTerm w (term_written def t)
    term-kept (variable n) arguments sort t (none, inl (c, only, is)) =
        subst (IsKept (variable n)) (sym is) (record {
          form = λ h. constant-named sort c only;
          depth = refl;
          head = λ h. absurd (false≢true h);
        })
    term-kept (variable n) arguments sort t (none, inr (k, many, at, is)) =
        subst (IsKept (variable n)) (sym is) (record {
          form = λ h. number-named (k + 1);
          depth = refl;
          head = λ h. absurd (false≢true h);
        })
    term-kept (named n) arguments sort t (c, s, at, name, takes, of, is) =
        let same = name-found (λ (x : Symbol). x.name) def.signature.symbols c s at ∙ name in
        subst (IsKept (named n)) (sym is) (record {
          form = λ h. subst IsOwnName (sym same) h;
          depth = refl;
          head = λ h. refl;
        })
    term-kept (apply f a) arguments sort t (first, g, b, hf, ha, is) =
        subst (IsKept (apply f a)) (sym is)
        (apply-kept f a g b (term-kept f (first ∷ arguments) sort g hf) (term-kept a [] first b ha))

    -- what is kept of one term is kept of several
    module _ (P : WrittenTerm → Type 0) (keeps : (w v : WrittenTerm) → IsKeptTerm w v → P w → P v) where
      pub term-keeps : (w : WrittenTerm) (sort : ℕ) (t : Term) → IsTerm def.signature names [] sort w t → P w
          → P (term_written def t)
      term-keeps w sort t h p = keeps w (term_written def t) (term-kept w [] sort t h) p

      pub terms-keep : (sorts : List ℕ) (ws : List WrittenTerm) (ts : List Term)
          → AreTerms def.signature names sorts ws ts → AllByRecursion P ws
          → AllByRecursion P (map (term_written def) ts)
      terms-keep [] [] ts e p = subst (λ r. AllByRecursion P (map (term_written def) r)) (sym e) tt
      terms-keep [] (w ∷ ws) ts h p = absurd h
      terms-keep (s ∷ sorts) [] ts h p = absurd h
      terms-keep (s ∷ sorts) (w ∷ ws) ts (t, rest, h, hs, e) p =
          subst (λ r. AllByRecursion P (map (term_written def) r)) (sym e) (
            term-keeps w s t h p.0,
            terms-keep sorts ws rest hs p.1,
          )

      pub columns-keep : (first second : ℕ) (v w : WrittenTerm) (ts : List Term)
          → AreTerms def.signature names (first ∷ second ∷ []) (v ∷ w ∷ []) ts → P v → P w
          → P (term_written def (term_at ts 0)) × P (term_written def (term_at ts 1))
      columns-keep first second v w ts (t, rest, h, (u, more, k, last, f), e) p q =
          subst (λ r. P (term_written def (term_at r 0)) × P (term_written def (term_at r 1))) (sym e)
          (subst (λ r. P (term_written def t) × P (term_written def (term_at (t ∷ r) 1))) (sym f)
          (term-keeps v first t h p, term-keeps w second u k q))
