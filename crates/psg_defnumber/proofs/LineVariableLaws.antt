-- A variable that is met, for the first time or again.
use Rattle.std.proofs.Common.{◌≡◌, ℕ, ◌+◌, ◌≤◌, ◌==◌, ◌&&◌, ◌||◌, false, true, cond, if◌then◌else◌, zero, suc, List, [], ◌∷◌, ◌++◌, length, refl, ap, ap₂, sym, ◌∙◌, inl, inr, Option, Some, None, slice_get, arith, append-nil}
use Rattle.std.specs.Str.{bytes_eq}
use Rattle.std.specs.Borrow.{Bor}
use Rattle.std.specs.Map.{lookup, lookup_key}
use Rattle.std.proofs.lemmas.Bool.Decides.{nat_tests}
use Rattle.std.proofs.lemmas.Bool.{or_right, or_left, cases_Bool}
use Rattle.std.proofs.Math.Bool.{and-false}
use Rattle.std.proofs.lemmas.List.{map-append}
use Rattle.psg_terms.proofs.Lists.{slice_get-end, slice_get-map_some}
use Rattle.psg_terms.specs.Names.{Name, is_among, has_twice}
use Rattle.psg_terms.specs.Canonical.{same_variable, is_noted}
use Rattle.psg_terms.proofs.Variables.{same_variable-refl}
use Rattle.psg_terms.proofs.RenamingLaws.{noted-new}
use Rattle.psg_terms.proofs.DeclareLaws.{has_twice-push, bytes_eq-sym, bytes_eq-same}
use Rattle.psg_defnumber.specs.Naming.{LineVariable, names_of, numbered_from, IsMet}

noted-at : (m : ℕ) (known : List LineVariable) (k : ℕ) (own : LineVariable) → slice_get known k ≡ Some own → is_noted (own.1.0, m + k) (numbered_from m known) ≡ true
noted-at m [] k own e = absurd (cc)
noted-at m (x ∷ known) zero own e =
    let same : x ≡ own = cc in
    let first : same_variable (own.1.0, m + 0) (x.1.0, m) ≡ true =
    ap₂ (λ (y : LineVariable) n. same_variable (own.1.0, n) (y.1.0, m)) same (plus-zero m) ∙ same_variable-refl (own.1.0, m) in
    or_left (same_variable (own.1.0, m + 0) (x.1.0, m)) (is_noted (own.1.0, m + 0) (numbered_from (m + 1) known)) first
  where
    plus-zero : (n : ℕ) → n + 0 ≡ n
    plus-zero n = omega arith
noted-at m (x ∷ known) (suc k) own e =
    or_right (same_variable (own.1.0, m + suc k) (x.1.0, m)) (is_noted (own.1.0, m + suc k) (numbered_from (m + 1) known))
    (ap (λ n. is_noted (own.1.0, n) (numbered_from (m + 1) known)) (plus-suc m k) ∙ noted-at (m + 1) known k own e)
  where
    plus-suc : (n j : ℕ) → n + suc j ≡ n + 1 + j
    plus-suc n j = omega arith

unnoted : (s n m : ℕ) (known : List LineVariable) → m + length known ≤ n → is_noted (s, n) (numbered_from m known) ≡ false
unnoted s n m [] h = refl
unnoted s n m (x ∷ known) h =
    let test : (n == m) ≡ false = grind (arith, nat_tests) in
    ap (λ b. ((s == x.1.0) && b) || is_noted (s, n) (numbered_from (m + 1) known)) test
    ∙ ap (λ b. b || is_noted (s, n) (numbered_from (m + 1) known)) (and-false (s == x.1.0)) ∙ unnoted s n (m + 1) known (omega arith)

numbered-snoc : (m : ℕ) (known : List LineVariable) (x : LineVariable) → numbered_from m (known ++ x ∷ []) ≡ numbered_from m known ++ (x.1.0, m + length known) ∷ []
numbered-snoc m [] x = ap (λ n. (x.1.0, n) ∷ []) (plus-zero m)
  where
    plus-zero : (n : ℕ) → n ≡ n + 0
    plus-zero n = omega arith
numbered-snoc m (y ∷ known) x = ap (λ l. (y.1.0, m) ∷ l) (numbered-snoc (m + 1) known x ∙ ap (λ n. numbered_from (m + 1) known ++ (x.1.0, n) ∷ []) (omega arith))

pub met-again : (known : List LineVariable) (k : ℕ) (own : LineVariable) (name : Name) (sort n : ℕ) → slice_get known k ≡ Some own → own.0.now ≡ name → own.1.0 ≡ sort → n ≡ 0 + k + 1 → IsMet known known name sort n
met-again known k own name sort n at same of_sort e =
    let number : n ≡ 1 + k = omega arith in
    let there : is_noted (sort, n) (numbered_from 1 known) ≡ true = ap₂ (λ s j. is_noted (s, j) (numbered_from 1 known)) (sym of_sort) number ∙ noted-at 1 known k own at in
    record {
      place = k;
      number = omega arith;
      named = slice_get-map_some (λ (x : LineVariable). x.0.now) known k own at ∙ ap Some same;
      meets = record {
        more = [];
        grown = sym (append-nil known);
        noted = ap (λ b. if b then numbered_from 1 known else numbered_from 1 known ++ (sort, n) ∷ []) there;
        once = λ h. h;
      };
    }

pub met-first : (known new : List LineVariable) (own : LineVariable) (n : ℕ) → new ≡ known ++ own ∷ [] → is_among (names_of known) own.0.now ≡ false → n ≡ 0 + length known + 1 → IsMet known new own.0.now own.1.0 n
met-first known new own n grown fresh e =
    let number : n ≡ 1 + length known = omega arith in
    let names : names_of new ≡ names_of known ++ own.0.now ∷ [] = ap names_of grown ∙ map-append (λ (x : LineVariable). x.0.now) known (own ∷ []) in
    record {
      place = length known;
      number = omega arith;
      named = ap (λ l. slice_get l (length known)) names ∙ ap (slice_get (names_of known ++ own.0.now ∷ [])) (sym (names-count known)) ∙ slice_get-end (names_of known) own.0.now;
      meets = record {
        more = own ∷ [];
        grown = grown;
        noted = noted-new (numbered_from 1 known) (own.1.0, n) (unnoted own.1.0 n 1 known (omega arith)) ∙ ap (λ j. numbered_from 1 known ++ (own.1.0, j) ∷ []) number ∙ sym (numbered-snoc 1 known own) ∙ ap (numbered_from 1) (sym grown);
        once = λ h. ap has_twice names ∙ has_twice-push (names_of known) own.0.now h fresh;
      };
    }
  where
    names-count : (known : List LineVariable) → length (names_of known) ≡ length known
    names-count [] = refl
    names-count (x ∷ known) = ap suc (names-count known)

-- a name without a value is new
pub unplaced : (known : List LineVariable) (name : Name) → lookup (λ (k : Bor (List ℕ)). bytes_eq name k.now) known ≡ None → is_among (names_of known) name ≡ false
unplaced [] name h = refl
unplaced (x ∷ known) name h =
    elim (cases_Bool (bytes_eq name x.0.now)) [
      | inl e ↦ absurd (some_none x.1 (sym (ap (λ b. cond b (Some x.1) (lookup (λ (k : Bor (List ℕ)). bytes_eq name k.now) known)) e) ∙ h))
      | inr e ↦ ap (λ b. b || is_among (names_of known) name) (bytes_eq-sym name x.0.now e)
          ∙ unplaced known name (sym (ap (λ b. cond b (Some x.1) (lookup (λ (k : Bor (List ℕ)). bytes_eq name k.now) known)) e) ∙ h)
    ]
  where
    some_none : {X : Type 0} (x : X) → ◌≡◌ {A = Option X} (Some x) None → ⊥
    some_none x e = cc

-- the key that is found is the name
pub keyed : (known : List LineVariable) (name : Name) (k : Bor (List ℕ)) → lookup_key (λ (k : Bor (List ℕ)). bytes_eq name k.now) known ≡ Some k → k.now ≡ name
keyed [] name k h = absurd (cc)
keyed (x ∷ known) name k h =
    elim (cases_Bool (bytes_eq name x.0.now)) [
      | inl e ↦
          let same : x.0 ≡ k = same-some x.0 k (sym (ap (λ b. cond b (Some x.0) (lookup_key (λ (k : Bor (List ℕ)). bytes_eq name k.now) known)) e) ∙ h) in
          sym (bytes_eq-same name k.now (ap (λ (y : Bor (List ℕ)). bytes_eq name y.now) (sym same) ∙ e))
      | inr e ↦ keyed known name k (sym (ap (λ b. cond b (Some x.0) (lookup_key (λ (k : Bor (List ℕ)). bytes_eq name k.now) known)) e) ∙ h)
    ]
  where
    same-some : {X : Type 0} (x y : X) → ◌≡◌ {A = Option X} (Some x) (Some y) → x ≡ y
    same-some x y e = cc
