-- The text of a row tells the row, where names are clear and the numbers of variables are written whole.
use Rattle.std.proofs.Common.{◌≡◌, ◌≢◌, ◌⊎◌, inl, inr, ℕ, zero, suc, ◌+◌, ◌<◌, ◌^◌, ◌%◌, ◌/◌, ◌==◌, Bool, true, false, cond, ◌||◌, nat_lt, List, [], ◌∷◌, ◌++◌, length, map, slice_get, Option, Some, None, refl, sym, ap, ap₂, ◌∙◌, subst, arith, append_assoc, append-nil, length-append, true≢false, ◌≤◌, if◌then◌else◌}
use Rattle.std.specs.Prelude.{decimal, bytes_eq, sum_by}
use Rattle.std.specs.Fmt.{digits, digits_onto, digit_glyph}
use Rattle.std.specs.List.{AllByRecursion}
use Rattle.std.proofs.lemmas.Bool.{or_parts, or_right, cases_Bool}
use Rattle.std.proofs.lemmas.Fmt.{decimal_injective}
use Rattle.std.proofs.lemmas.List.Sums.{sum_by-cons}
use Rattle.psg_terms.specs.Terms.{Term, variable, symbol, apply}
use Rattle.psg_terms.specs.Names.{Name, is_among, has_twice}
use Rattle.psg_terms.specs.Signature.{Signature, Symbol, Takes, HasSort, HaveSorts}
use Rattle.psg_terms.specs.Text.{symbol_name, term_text, opened, row_text}
use Rattle.psg_terms.specs.Canonical.{Variable, same_variable, variables, variables_of, is_noted, noted, noted_all, IsNumberedFrom, IsCanonical}
use Rattle.psg_terms.specs.Relations.{IsIn, first, later}
use Rattle.psg_terms.specs.Weight.{symbols_of, weight_of}
use Rattle.psg_terms.specs.Clear.{IsClear, HasClearNames}
use Rattle.psg_terms.proofs.DeclareLaws.{bytes_eq-refl}
use Rattle.psg_terms.proofs.OneRelation.{takes_once}
use Rattle.psg_terms.proofs.RenamingLaws.{IsAmong, among-noted_all}
use Rattle.psg_terms.proofs.Unique.{Each, each-front, each-map}
use Rattle.psg_terms.proofs.Variables.{same_variable-true}

-- ---- texts of clear characters

abbrev AreClear : List ℕ → Type 0
AreClear text = AllByRecursion IsClear text

-- nothing, or a character that is not clear at first
abbrev Stops : List ℕ → Type 0
Stops [] = Unit {0}
Stops (c ∷ rest) = IsClear c → ⊥

abbrev head_of : List ℕ → ℕ
head_of [] = 0
head_of (c ∷ rest) = c

abbrev rest_of : List ℕ → List ℕ
rest_of [] = []
rest_of (c ∷ rest) = rest

-- clear characters up to the first that is not
cut : (a b c d : List ℕ) → AreClear a → AreClear c → Stops b → Stops d → a ++ b ≡ c ++ d → (a ≡ c) × (b ≡ d)
cut [] b [] d h g s t e = (refl, e)
cut [] [] (y ∷ c) d h g s t e = absurd (cc)
cut [] (x ∷ b) (y ∷ c) d h g s t e = absurd (s (subst IsClear (sym (ap head_of e)) g.0))
cut (x ∷ a) b [] [] h g s t e = absurd (cc)
cut (x ∷ a) b [] (y ∷ d) h g s t e = absurd (t (subst IsClear (ap head_of e) h.0))
cut (x ∷ a) b (y ∷ c) d h g s t e =
    let both = cut a b c d h.1 g.1 s t (ap rest_of e) in
    (ap₂ (λ (z : ℕ) (l : List ℕ). z ∷ l) (ap head_of e) both.0, both.1)

clear_digit : (n : ℕ) → IsClear (digit_glyph false (n % 10))
clear_digit n = go (nat_lt (n % 10) 10) (n % 10) (omega arith) where
  go : (b : Bool) (d : ℕ) → d < 10 → IsClear (cond b (48 + d) (87 + d))
  go true d h = ((λ e. omega (arith, e)), (λ e. omega (arith, e)), (λ e. omega (arith, e)), (λ e. omega (arith, e)), (λ e. omega (arith, h, e)))
  go false d h = ((λ e. omega (arith, e)), (λ e. omega (arith, e)), (λ e. omega (arith, e)), (λ e. omega (arith, e)), (λ e. omega (arith, e)))

clear_choice : (b : Bool) (here there : List ℕ) → AreClear here → AreClear there → AreClear (cond b here there)
clear_choice true here there h g = h
clear_choice false here there h g = g

clear_digits : (k n : ℕ) (rest : List ℕ) → AreClear rest → AreClear (digits_onto k 10 false n rest)
clear_digits zero n rest h = h
clear_digits (suc k) n rest h =
    let next : List ℕ = digit_glyph false (n % 10) ∷ rest in
    clear_choice (n / 10 == 0) next (digits_onto k 10 false (n / 10) next) (clear_digit n, h)
    (clear_digits k (n / 10) next (clear_digit n, h))

clear_decimal : (n : ℕ) → AreClear (decimal n)
unfolding digits
clear_decimal n = clear_digits 64 n [] tt

-- the numbers of its variables have at most 64 bits
abbrev pub IsNarrow : Term → Type 0
IsNarrow (variable s n) = n < 2 ^ 64
IsNarrow (symbol c) = Unit {0}
IsNarrow (apply f a) = IsNarrow f × IsNarrow a

-- ---- names

among_same : (n : ℕ) (x : Symbol) (symbols : List Symbol) → slice_get symbols n ≡ Some x → is_among (map (λ (s : Symbol). s.name) symbols) x.name ≡ true
among_same n x [] e = absurd (cc)
among_same zero x (s ∷ symbols) e =
    let d : s ≡ x = let i : Some s ≡ Some x = e in cc in
    ap (λ b. b || is_among (map (λ (s : Symbol). s.name) symbols) x.name) (ap (λ (z : Symbol). bytes_eq z.name x.name) d ∙ bytes_eq-refl x.name)
among_same (suc n) x (s ∷ symbols) e = or_right (bytes_eq s.name x.name) (is_among (map (λ (z : Symbol). z.name) symbols) x.name) (among_same n x symbols e)

-- the name of the first is at no later place
not_later : (s x : Symbol) (symbols : List Symbol) (n : ℕ) → (is_among (map (λ (z : Symbol). z.name) symbols) s.name || has_twice (map (λ (z : Symbol). z.name) symbols)) ≡ false
    → slice_get symbols n ≡ Some x → s.name ≡ x.name → ⊥
not_later s x symbols n once e same =
    true≢false (sym (ap (λ (l : Name). is_among (map (λ (z : Symbol). z.name) symbols) l) same ∙ among_same n x symbols e) ∙ (or_parts (is_among (map (λ (z : Symbol). z.name) symbols) s.name) (has_twice (map (λ (z : Symbol). z.name) symbols)) once).0)

names_apart : (symbols : List Symbol) → has_twice (map (λ (s : Symbol). s.name) symbols) ≡ false → (c d : ℕ) (p q : Symbol) → slice_get symbols c ≡ Some p → slice_get symbols d ≡ Some q → p.name ≡ q.name → c ≡ d
names_apart [] once c d p q fp fq e = absurd (cc)
names_apart (s ∷ symbols) once zero zero p q fp fq e = refl
names_apart (s ∷ symbols) once zero (suc d) p q fp fq e =
    let i : s ≡ p = let j : Some s ≡ Some p = fp in cc in
    absurd (not_later s q symbols d once fq (ap (λ (z : Symbol). z.name) i ∙ e))
names_apart (s ∷ symbols) once (suc c) zero p q fp fq e =
    let i : s ≡ q = let j : Some s ≡ Some q = fq in cc in
    absurd (not_later s p symbols c once fp (ap (λ (z : Symbol). z.name) i ∙ sym e))
names_apart (s ∷ symbols) once (suc c) (suc d) p q fp fq e =
    ap (λ n. suc n) (names_apart symbols (or_parts (is_among (map (λ (z : Symbol). z.name) symbols) s.name) (has_twice (map (λ (z : Symbol). z.name) symbols)) once).1 c d p q fp fq e)

-- one constructor does not want both so many arguments and more
fewer : (symbols : List Symbol) (p q : Symbol) (c d n m k : ℕ) → c ≡ d → slice_get symbols c ≡ Some p → slice_get symbols d ≡ Some q
    → length p.arguments ≡ suc n → length q.arguments ≡ k + suc (suc m) → n ≡ m → ⊥
fewer symbols p q c d n m k e fp fq a b w =
    let i : ◌≡◌ {A = Option Symbol} (Some p) (Some q) = sym fp ∙ ap (slice_get symbols) e ∙ fq in
    let j : p ≡ q = cc in
    let same : length p.arguments ≡ length q.arguments = ap (λ (z : Symbol). length z.arguments) j in
    omega (arith, same, a, b, w)

module _ (sig : Signature) (clear : HasClearNames sig) (once : has_twice (map (λ (s : Symbol). s.name) sig.symbols) ≡ false) where
  abbrev name_of : ℕ → List ℕ
  name_of c = symbol_name (slice_get sig.symbols c)

  clear_name : (c : ℕ) → AreClear (name_of c)
  clear_name c = go sig.symbols clear c where
    go : (symbols : List Symbol) → AllByRecursion (λ (s : Symbol). AreClear s.name) symbols → (c : ℕ) → AreClear (symbol_name (slice_get symbols c))
    go [] h c = tt
    go (s ∷ symbols) h zero = h.0
    go (s ∷ symbols) h (suc c) = go symbols h.1 c

  -- no two constructors have one name
  same_name : (c d : ℕ) (p q : Symbol) → slice_get sig.symbols c ≡ Some p → slice_get sig.symbols d ≡ Some q → p.name ≡ q.name → c ≡ d
  same_name c d p q = names_apart sig.symbols once c d p q

  -- ---- terms

  -- what may follow a term in a row's text: nothing, a space, a closing bracket or a comma
  abbrev Ends : List ℕ → Type 0
  Ends [] = Unit {0}
  Ends (c ∷ rest) = (c ≡ 32) ⊎ ((c ≡ 41) ⊎ (c ≡ 44))

  ends_stop : (x : List ℕ) → Ends x → Stops x
  ends_stop [] h = tt
  ends_stop (c ∷ rest) (inl e) = λ k. k.0 e
  ends_stop (c ∷ rest) (inr (inl e)) = λ k. k.2 e
  ends_stop (c ∷ rest) (inr (inr e)) = λ k. k.3 e

  opens_stop : (x : List ℕ) → Stops (40 ∷ x)
  opens_stop x k = k.1 refl

  ends_no_bracket : (x y : List ℕ) → Ends x → x ≡ 40 ∷ y → ⊥
  ends_no_bracket [] y h e = absurd (cc)
  ends_no_bracket (c ∷ rest) y (inl h) e = let d : c ≡ 40 = ap head_of e in omega (arith, h, d)
  ends_no_bracket (c ∷ rest) y (inr (inl h)) e = let d : c ≡ 40 = ap head_of e in omega (arith, h, d)
  ends_no_bracket (c ∷ rest) y (inr (inr h)) e = let d : c ≡ 40 = ap head_of e in omega (arith, h, d)

  ends_no_mark : (x y : List ℕ) → Ends x → x ≡ 63 ∷ y → ⊥
  ends_no_mark [] y h e = absurd (cc)
  ends_no_mark (c ∷ rest) y (inl h) e = let d : c ≡ 63 = ap head_of e in omega (arith, h, d)
  ends_no_mark (c ∷ rest) y (inr (inl h)) e = let d : c ≡ 63 = ap head_of e in omega (arith, h, d)
  ends_no_mark (c ∷ rest) y (inr (inr h)) e = let d : c ≡ 63 = ap head_of e in omega (arith, h, d)

  -- a clear text and what follows it do not begin with a question mark
  no_mark : (a x y : List ℕ) → AreClear a → (x ≡ 63 ∷ y → ⊥) → a ++ x ≡ 63 ∷ y → ⊥
  no_mark [] x y h k e = k e
  no_mark (c ∷ a) x y h k e = h.0.4 (ap head_of e)

  -- the three pieces of a term with an argument, and what follows it
  pieces : (front argument : List ℕ) (c : ℕ) (x : List ℕ) → ((front ++ argument) ++ c ∷ []) ++ x ≡ front ++ (argument ++ c ∷ x)
  pieces front argument c x = append_assoc (front ++ argument) (c ∷ []) x ∙ append_assoc front argument (c ∷ x)

  -- how many arguments there are
  abbrev arguments_count : Term → ℕ
  arguments_count (variable s n) = 0
  arguments_count (symbol c) = 0
  arguments_count (apply f a) = arguments_count f + 1

  -- what is opened begins with its constructor's name and a bracket
  pub record HasHead (f : Term) (wanted : ℕ) : Type 0 where
    pub number : ℕ
    pub made : Symbol
    pub found : slice_get sig.symbols number ≡ Some made
    pub arity : length made.arguments ≡ arguments_count f + wanted
    pub after : List ℕ
    pub text : opened sig f ≡ name_of number ++ 40 ∷ after

  head : (f : Term) (one : ℕ) (more : List ℕ) (s : ℕ) → Takes sig f (one ∷ more) s → HasHead f (length (one ∷ more))
  head (variable v n) one more s h = absurd (cc)
  head (symbol c) one more s (x, found, arguments, sort) = record {
    number = c;
    made = x;
    found = found;
    arity = ap length arguments ∙ omega arith;
    after = [];
    text = refl;
  }
  head (apply f a) one more s (before, takes, argument) =
      let h = head f before (one ∷ more) s takes in
      let e : length (before ∷ one ∷ more) ≡ length (one ∷ more) + 1 = omega arith in
      record {
        number = h.number;
        made = h.made;
        found = h.found;
        arity = h.arity ∙ omega (arith, e);
        after = h.after ++ (term_text sig a ++ 44 ∷ []);
        text =
            append_assoc (opened sig f) (term_text sig a) (44 ∷ [])
            ∙ ap (λ l. l ++ (term_text sig a ++ 44 ∷ [])) h.text
            ∙ append_assoc (name_of h.number) (40 ∷ h.after) (term_text sig a ++ 44 ∷ []);
      }

  -- an opened term with what follows begins so, too
  head_text : (f : Term) (n : ℕ) (h : HasHead f n) (z : List ℕ) → opened sig f ++ z ≡ name_of h.number ++ 40 ∷ (h.after ++ z)
  head_text f n h z = ap (λ l. l ++ z) h.text ∙ append_assoc (name_of h.number) (40 ∷ h.after) z

  name_is : (c : ℕ) (x : Symbol) → slice_get sig.symbols c ≡ Some x → name_of c ≡ x.name
  name_is c x e = ap symbol_name e

  mutual
    -- a term's text and what ends it tell both
    term_tells : (t u : Term) (s : ℕ) (x y : List ℕ) → HasSort sig t s → HasSort sig u s → IsNarrow t → IsNarrow u → Ends x → Ends y
        → term_text sig t ++ x ≡ term_text sig u ++ y → (t ≡ u) × (x ≡ y)
    term_tells (variable p n) (variable q m) s x y ht hu nt nu ex ey e =
        let both = cut (decimal n) x (decimal m) y (clear_decimal n) (clear_decimal m) (ends_stop x ex) (ends_stop y ey) (ap rest_of e) in
        (ap₂ variable (ht.2 ∙ sym hu.2) (decimal_injective n m nt nu both.0), both.1)
    term_tells (variable p n) (symbol d) s x y ht hu nt nu ex ey e =
        absurd (no_mark (name_of d) y (decimal n ++ x) (clear_name d) (ends_no_mark y (decimal n ++ x) ey) (sym e))
    term_tells (variable p n) (apply g b) s x y ht (one, takes, argument) nt nu ex ey e =
        let h = head g one [] s takes in
        absurd (no_mark (name_of h.number) (40 ∷ (h.after ++ (term_text sig b ++ 41 ∷ y))) (decimal n ++ x) (clear_name h.number) (λ i. omega (arith, ap head_of i))
        (sym (head_text g 1 h (term_text sig b ++ 41 ∷ y)) ∙ sym (pieces (opened sig g) (term_text sig b) 41 y) ∙ sym e))
    term_tells (symbol c) (variable q m) s x y ht hu nt nu ex ey e =
        absurd (no_mark (name_of c) x (decimal m ++ y) (clear_name c) (ends_no_mark x (decimal m ++ y) ex) e)
    term_tells (symbol c) (symbol d) s x y (p, fp, vp, sp) (q, fq, aq, sq) nt nu ex ey e =
        let both = cut (name_of c) x (name_of d) y (clear_name c) (clear_name d) (ends_stop x ex) (ends_stop y ey) e in
        (ap symbol (same_name c d p q fp fq (sym (name_is c p fp) ∙ both.0 ∙ name_is d q fq)), both.1)
    term_tells (symbol c) (apply g b) s x y ht (one, takes, argument) nt nu ex ey e =
        let h = head g one [] s takes in
        let z : List ℕ = h.after ++ (term_text sig b ++ 41 ∷ y) in
        let both = cut (name_of c) x (name_of h.number) (40 ∷ z) (clear_name c) (clear_name h.number) (ends_stop x ex) (opens_stop z)
        (e ∙ pieces (opened sig g) (term_text sig b) 41 y ∙ head_text g 1 h (term_text sig b ++ 41 ∷ y)) in
        absurd (ends_no_bracket x z ex both.1)
    term_tells (apply f a) (variable q m) s x y (one, takes, argument) hu nt nu ex ey e =
        let h = head f one [] s takes in
        absurd (no_mark (name_of h.number) (40 ∷ (h.after ++ (term_text sig a ++ 41 ∷ x))) (decimal m ++ y) (clear_name h.number) (λ i. omega (arith, ap head_of i))
        (sym (head_text f 1 h (term_text sig a ++ 41 ∷ x)) ∙ sym (pieces (opened sig f) (term_text sig a) 41 x) ∙ e))
    term_tells (apply f a) (symbol d) s x y (one, takes, argument) hu nt nu ex ey e =
        let h = head f one [] s takes in
        let z : List ℕ = h.after ++ (term_text sig a ++ 41 ∷ x) in
        let both = cut (name_of d) y (name_of h.number) (40 ∷ z) (clear_name d) (clear_name h.number) (ends_stop y ey) (opens_stop z)
        (sym e ∙ pieces (opened sig f) (term_text sig a) 41 x ∙ head_text f 1 h (term_text sig a ++ 41 ∷ x)) in
        absurd (ends_no_bracket y z ey both.1)
    term_tells (apply f a) (apply g b) s x y (one, tf, ta) (other, tg, tb) nt nu ex ey e =
        let both = open_tells f g one other [] [] s s (term_text sig a ++ 41 ∷ x) (term_text sig b ++ 41 ∷ y) tf tg refl nt.0 nu.0
        (sym (pieces (opened sig f) (term_text sig a) 41 x) ∙ e ∙ pieces (opened sig g) (term_text sig b) 41 y) in
        let same : one ≡ other = ap head_of (takes_once sig g (one ∷ []) (other ∷ []) s s (subst (λ k. Takes sig k (one ∷ []) s) both.0 tf) tg).0 in
        let inner = term_tells a b other (41 ∷ x) (41 ∷ y) (subst (HasSort sig a) same ta) tb nt.1 nu.1 (inr (inl refl)) (inr (inl refl))
        both.1 in
        (ap₂ apply both.0 inner.0, ap rest_of inner.1)

    -- what is opened for as many arguments more is told, too
    open_tells : (f g : Term) (one other : ℕ) (vs ws : List ℕ) (r s : ℕ) (x y : List ℕ) → Takes sig f (one ∷ vs) r → Takes sig g (other ∷ ws) s
        → length vs ≡ length ws → IsNarrow f → IsNarrow g → opened sig f ++ x ≡ opened sig g ++ y → (f ≡ g) × (x ≡ y)
    open_tells (variable p n) g one other vs ws r s x y hf hg w nf ng e = absurd (cc)
    open_tells (symbol c) (variable q m) one other vs ws r s x y hf hg w nf ng e = absurd (cc)
    open_tells (apply f a) (variable q m) one other vs ws r s x y hf hg w nf ng e = absurd (cc)
    open_tells (symbol c) (symbol d) one other vs ws r s x y (p, fp, vp, sp) (q, fq, aq, sq) w nf ng e =
        let both = cut (name_of c) (40 ∷ x) (name_of d) (40 ∷ y) (clear_name c) (clear_name d) (opens_stop x) (opens_stop y)
        (sym (append_assoc (name_of c) (40 ∷ []) x) ∙ e ∙ append_assoc (name_of d) (40 ∷ []) y) in
        (ap symbol (same_name c d p q fp fq (sym (name_is c p fp) ∙ both.0 ∙ name_is d q fq)), ap rest_of both.1)
    open_tells (symbol c) (apply g b) one other vs ws r s x y (p, fp, vp, sp) (before, tg, tb) w nf ng e =
        let h = head g before (other ∷ ws) s tg in
        let z : List ℕ = h.after ++ (term_text sig b ++ 44 ∷ y) in
        let both = cut (name_of c) (40 ∷ x) (name_of h.number) (40 ∷ z) (clear_name c) (clear_name h.number) (opens_stop x) (opens_stop z)
        (sym (append_assoc (name_of c) (40 ∷ []) x) ∙ e ∙ pieces (opened sig g) (term_text sig b) 44 y ∙ head_text g _ h (term_text sig b ++ 44 ∷ y)) in
        let d : c ≡ h.number = same_name c h.number p h.made fp h.found (sym (name_is c p fp) ∙ both.0 ∙ name_is h.number h.made h.found) in
        absurd (fewer sig.symbols p h.made c h.number (length vs) (length ws) (arguments_count g) d fp h.found (ap length vp) h.arity w)
    open_tells (apply f a) (symbol d) one other vs ws r s x y (before, tf, ta) (q, fq, aq, sq) w nf ng e =
        let h = head f before (one ∷ vs) r tf in
        let z : List ℕ = h.after ++ (term_text sig a ++ 44 ∷ x) in
        let both = cut (name_of d) (40 ∷ y) (name_of h.number) (40 ∷ z) (clear_name d) (clear_name h.number) (opens_stop y) (opens_stop z)
        (sym (append_assoc (name_of d) (40 ∷ []) y) ∙ sym e ∙ pieces (opened sig f) (term_text sig a) 44 x ∙ head_text f _ h (term_text sig a ++ 44 ∷ x)) in
        let k : d ≡ h.number = same_name d h.number q h.made fq h.found (sym (name_is d q fq) ∙ both.0 ∙ name_is h.number h.made h.found) in
        absurd (fewer sig.symbols q h.made d h.number (length ws) (length vs) (arguments_count f) k fq h.found (ap length aq) h.arity (sym w))
    open_tells (apply f a) (apply g b) one other vs ws r s x y (before, tf, ta) (earlier, tg, tb) w nf ng e =
        let both = open_tells f g before earlier (one ∷ vs) (other ∷ ws) r s (term_text sig a ++ 44 ∷ x) (term_text sig b ++ 44 ∷ y) tf tg (ap (λ n. suc n) w) nf.0 ng.0
        (sym (pieces (opened sig f) (term_text sig a) 44 x) ∙ e ∙ pieces (opened sig g) (term_text sig b) 44 y) in
        let same : before ≡ earlier = ap head_of (takes_once sig g (before ∷ one ∷ vs) (earlier ∷ other ∷ ws) r s (subst (λ k. Takes sig k (before ∷ one ∷ vs) r) both.0 tf) tg).0 in
        let inner = term_tells a b earlier (44 ∷ x) (44 ∷ y) (subst (HasSort sig a) same ta) tb nf.1 ng.1 (inr (inr refl)) (inr (inr refl))
        both.1 in
        (ap₂ apply both.0 inner.0, ap rest_of inner.1)

  -- ---- rows

  abbrev AreNarrow : List Term → Type 0
  AreNarrow row = AllByRecursion IsNarrow row

  pub row_tells : (row other : List Term) (ss : List ℕ) → HaveSorts sig row ss → HaveSorts sig other ss → AreNarrow row → AreNarrow other
      → row_text sig row ≡ row_text sig other → row ≡ other
  row_tells [] [] [] h k n m e = refl
  row_tells [] [] (s ∷ ss) h k n m e = absurd h
  row_tells [] (u ∷ other) [] h k n m e = absurd k
  row_tells [] (u ∷ other) (s ∷ ss) h k n m e = absurd h
  row_tells (t ∷ row) other [] h k n m e = absurd h
  row_tells (t ∷ row) [] (s ∷ ss) h k n m e = absurd k
  row_tells (t ∷ []) (u ∷ []) (s ∷ ss) h k n m e =
      ap (λ x. x ∷ []) (term_tells t u s [] [] h.0 k.0 n.0 m.0 tt tt (append-nil (term_text sig t) ∙ e ∙ sym (append-nil (term_text sig u)))).0
  row_tells (t ∷ []) (u ∷ v ∷ other) (s ∷ []) h k n m e = absurd k.1
  row_tells (t ∷ []) (u ∷ v ∷ other) (s ∷ r ∷ ss) h k n m e = absurd h.1
  row_tells (t ∷ w ∷ row) (u ∷ []) (s ∷ []) h k n m e = absurd h.1
  row_tells (t ∷ w ∷ row) (u ∷ []) (s ∷ r ∷ ss) h k n m e = absurd k.1
  row_tells (t ∷ w ∷ row) (u ∷ v ∷ other) (s ∷ ss) h k n m e =
      let both = term_tells t u s (32 ∷ row_text sig (w ∷ row)) (32 ∷ row_text sig (v ∷ other)) h.0 k.0 n.0 m.0 (inl refl) (inl refl) e in
      ap₂ (λ (x : Term) (l : List Term). x ∷ l) both.0 (row_tells (w ∷ row) (v ∷ other) ss h.1 k.1 n.1 m.1 (ap rest_of both.1))

-- ---- how large the numbers of a canonical row's variables are

abbrev IsBelow : ℕ → Variable → Type 0
IsBelow n x = x.1 < n

numbered-below : (n : ℕ) (xs : List Variable) → IsNumberedFrom n xs → (x : Variable) → is_noted x xs ≡ true → x.1 < n + length xs
numbered-below n [] h x e = absurd (true≢false (sym e))
numbered-below n (y ∷ xs) h x e =
    elim (cases_Bool (same_variable x y)) [
      | inl d ↦ (let i : x.1 ≡ y.1 = ap (λ (z : Variable). z.1) (same_variable-true x y d) in omega (arith, i, h.0))
      | inr d ↦ (let l = numbered-below (n + 1) xs h.1 x (ap (λ b. b || is_noted x xs) (sym d) ∙ e) in omega (arith, l))
    ]

noted-length : (seen : List Variable) (x : Variable) → length (noted seen x) ≤ length seen + 1
noted-length seen x = go (is_noted x seen) where
  go : (b : Bool) → length (if b then seen else seen ++ x ∷ []) ≤ length seen + 1
  go true = omega arith
  go false = omega (arith, length-append seen (x ∷ []))

noted_all-length : (seen xs : List Variable) → length (noted_all seen xs) ≤ length seen + length xs
noted_all-length seen [] = omega arith
noted_all-length seen (x ∷ xs) = omega (arith, noted_all-length (noted seen x) xs, noted-length seen x)

variables-length : (t : Term) → length (variables t) ≤ symbols_of t
variables-length (variable s n) = omega arith
variables-length (symbol c) = omega arith
variables-length (apply f a) = omega (arith, length-append (variables f) (variables a), variables-length f, variables-length a)

variables_of-length : (row : List Term) → length (variables_of row) ≤ sum_by symbols_of row
variables_of-length [] = omega arith
variables_of-length (t ∷ row) = omega (arith, length-append (variables t) (variables_of row), variables-length t, variables_of-length row, sum_by-cons symbols_of t row)

narrow_by : (n : ℕ) → n ≤ 2 ^ 64 → (t : Term) → Each (IsBelow n) (variables t) → IsNarrow t
narrow_by n h (variable s k) e = omega (arith, h, e.0)
narrow_by n h (symbol c) e = tt
narrow_by n h (apply f a) e =
    let both = each-front (IsBelow n) (variables f) (variables a) e in
    (narrow_by n h f both.0, narrow_by n h a both.1)

narrow_row : (n : ℕ) → n ≤ 2 ^ 64 → (row : List Term) → Each (IsBelow n) (variables_of row) → AllByRecursion IsNarrow row
narrow_row n h [] e = tt
narrow_row n h (t ∷ row) e =
    let both = each-front (IsBelow n) (variables t) (variables_of row) e in
    (narrow_by n h t both.0, narrow_row n h row both.1)

-- a canonical row has no number above that of its symbols
pub canonical-narrow : (sig : Signature) (row : List Term) → IsCanonical sig row → sum_by symbols_of row < 2 ^ 64 → AllByRecursion IsNarrow row
canonical-narrow sig row canonical small =
    let vs : List Variable = variables_of row in
    let known : List Variable = noted_all [] vs in
    let n : ℕ = sum_by symbols_of row + 1 in
    let most : length known ≤ sum_by symbols_of row = omega (arith, noted_all-length [] vs, variables_of-length row) in
    narrow_row n (omega (arith, small)) row
    (each-map (IsAmong known) (IsBelow n) (λ x e. let l = numbered-below 1 known canonical.numbered x e in omega (arith, l, most)) vs (among-noted_all [] vs))

in_sum : (row : List Term) (rows : List (List Term)) → IsIn row rows → sum_by symbols_of row ≤ weight_of rows
in_sum row [] h = elim h [ ]
in_sum row (r ∷ rows) first = omega (arith, sum_by-cons (sum_by symbols_of) row rows)
in_sum row (r ∷ rows) (later h) = omega (arith, in_sum row rows h, sum_by-cons (sum_by symbols_of) r rows)

pub member-narrow : (sig : Signature) (rows : List (List Term)) (row : List Term) → IsIn row rows → IsCanonical sig row → weight_of rows < 2 ^ 64 → AllByRecursion IsNarrow row
member-narrow sig rows row h canonical small = canonical-narrow sig row canonical (omega (arith, in_sum row rows h, small))
