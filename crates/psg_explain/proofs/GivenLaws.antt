-- Terms by their keys, and equations of common keys, one after the other.
use Rattle.std.proofs.Common.{◌≡◌, ◌+◌, ◌-◌, ◌<◌, ◌≤◌, ℕ, zero, suc, min, true, false, cond, bytes_eq, List, [], ◌∷◌, ◌++◌, take, drop, get_or, length, Option, Some, None, option_map, refl, ap, ap₂, sym, ◌∙◌, subst, append_assoc, append-nil, arith}
use Rattle.psg_terms.specs.Terms.{Term}
use Rattle.psg_terms.proofs.Lists.{drop_item, drop_there, slice_get_some, take_item}
use Rattle.psg_grammar.specs.Keys.{Key}
use Rattle.psg_relation.specs.Choices.{pick}
use Rattle.psg_scope.specs.declared.header.NameCol.{NameCol}
use Rattle.psg_scope.specs.Headers.{key_of, keys}
use Rattle.std.specs.Option.{option_or}
use Rattle.psg_explain.specs.declared.refutation.Subject.TheVariants as subjects
use Rattle.psg_explain.specs.Given.{beside, entities_of, key_equations, key_subjects, key_terms, own_equations, own_subjects, pair_columns, pair_equations, pair_subjects, subject_of, wanted_of}

-- ---- the term of a key

beside_drop : (ns : List NameCol) (ts : List Term) (k : Key) (i : ℕ) (n : NameCol) (t : Term) → i < length ns → i < length ts → n ≡ get_or ns i n → t ≡ get_or ts i t
    → beside (keys (drop i ns)) (drop i ts) k ≡ cond (bytes_eq (key_of n) k) (Some t) (beside (keys (drop (i + 1) ns)) (drop (i + 1) ts) k)
beside_drop ns ts k i n t lt lu at there = ap₂ (λ (a : List NameCol) (b : List Term). beside (keys a) b k) (drop_item ns i n lt at) (drop_item ts i t lu there)

pub beside_here : (ns : List NameCol) (ts : List Term) (k : Key) (i : ℕ) (n : NameCol) (t : Term) → i < length ns → i < length ts → n ≡ get_or ns i n → t ≡ get_or ts i t
    → bytes_eq (key_of n) k ≡ true → beside (keys (drop i ns)) (drop i ts) k ≡ Some t
beside_here ns ts k i n t lt lu at there e =
    beside_drop ns ts k i n t lt lu at there ∙ ap (λ b. cond b (Some t) (beside (keys (drop (i + 1) ns)) (drop (i + 1) ts) k)) e

pub beside_next : (ns : List NameCol) (ts : List Term) (k : Key) (i : ℕ) (n : NameCol) (t : Term) → i < length ns → i < length ts → n ≡ get_or ns i n → t ≡ get_or ts i t
    → bytes_eq (key_of n) k ≡ false → beside (keys (drop (i + 1) ns)) (drop (i + 1) ts) k ≡ beside (keys (drop i ns)) (drop i ts) k
beside_next ns ts k i n t lt lu at there e =
    sym (beside_drop ns ts k i n t lt lu at there ∙ ap (λ b. cond b (Some t) (beside (keys (drop (i + 1) ns)) (drop (i + 1) ts) k)) e)

pub beside_end : (ns : List NameCol) (ts : List Term) (k : Key) (i : ℕ) → min (length ns) (length ts) ≤ i → beside (keys (drop i ns)) (drop i ts) k ≡ None
beside_end [] ts k zero h = refl
beside_end (n ∷ ns) [] k zero h = refl
beside_end (n ∷ ns) (t ∷ ts) k zero h = absurd (omega (arith, h))
beside_end [] ts k (suc i) h = refl
beside_end (n ∷ ns) [] k (suc i) h = none (drop i ns)
  where
    none : (xs : List NameCol) → beside (keys xs) [] k ≡ None
    none [] = refl
    none (x ∷ xs) = refl
beside_end (n ∷ ns) (t ∷ ts) k (suc i) h = beside_end ns ts k i (omega (arith, h))

-- ---- one after the other

pub pick_more : {X : Type 0} (o : Option X) (rest : List X) → pick o rest ≡ pick o [] ++ rest
pick_more None rest = refl
pick_more (Some x) rest = refl

-- what was there, one more, and what is still to come
pub one_more : {X : Type 0} (old new whole back rest : List X) (o : Option X) → new ≡ old ++ pick o [] → old ++ back ≡ whole → back ≡ pick o rest → new ++ rest ≡ whole
one_more old new whole back rest o made now next =
    ap (λ l. l ++ rest) made ∙ append_assoc old (pick o []) rest ∙ ap (λ l. old ++ l) (sym (next ∙ pick_more o rest)) ∙ now

pub key_terms_next : (term : Key → Option Term) (ns : List NameCol) (i : ℕ) (n : NameCol) → i < length ns → n ≡ get_or ns i n
    → key_terms term (keys (drop i ns)) ≡ pick (term (key_of n)) (key_terms term (keys (drop (i + 1) ns)))
key_terms_next term ns i n lt at = ap (λ (a : List NameCol). key_terms term (keys a)) (drop_item ns i n lt at)

pub no_key_terms : (term : Key → Option Term) (ns : List NameCol) (i : ℕ) → length ns ≤ i → key_terms term (keys (drop i ns)) ≡ []
no_key_terms term [] zero h = refl
no_key_terms term (n ∷ ns) zero h = absurd (omega (arith, h))
no_key_terms term [] (suc i) h = refl
no_key_terms term (n ∷ ns) (suc i) h = no_key_terms term ns i (omega (arith, h))

pub equations_next : (term : Key → Option Term) (ns : List NameCol) (ts : List Term) (i : ℕ) (n : NameCol) (t : Term) → i < length ns → i < length ts → n ≡ get_or ns i n → t ≡ get_or ts i t
    → key_equations term (keys (drop i ns)) (drop i ts) ≡ pick (option_map (λ u. (t, u)) (term (key_of n))) (key_equations term (keys (drop (i + 1) ns)) (drop (i + 1) ts))
equations_next term ns ts i n t lt lu at there =
    ap₂ (λ (a : List NameCol) (b : List Term). key_equations term (keys a) b) (drop_item ns i n lt at) (drop_item ts i t lu there)

pub no_equations : (term : Key → Option Term) (ns : List NameCol) (ts : List Term) (i : ℕ) → min (length ns) (length ts) ≤ i → key_equations term (keys (drop i ns)) (drop i ts) ≡ []
no_equations term [] ts zero h = refl
no_equations term (n ∷ ns) [] zero h = refl
no_equations term (n ∷ ns) (t ∷ ts) zero h = absurd (omega (arith, h))
no_equations term [] ts (suc i) h = refl
no_equations term (n ∷ ns) [] (suc i) h = none (drop i ns)
  where
    none : (xs : List NameCol) → key_equations term (keys xs) [] ≡ []
    none [] = refl
    none (x ∷ xs) = refl
no_equations term (n ∷ ns) (t ∷ ts) (suc i) h = no_equations term ns ts i (omega (arith, h))

pub subjects_next : (term : Key → Option Term) (ns : List NameCol) (ts : List Term) (i : ℕ) (n : NameCol) (t : Term) → i < length ns → i < length ts → n ≡ get_or ns i n → t ≡ get_or ts i t
    → key_subjects term (keys (drop i ns)) (drop i ts) ≡ pick (option_map (λ u. subject_of (key_of n)) (term (key_of n))) (key_subjects term (keys (drop (i + 1) ns)) (drop (i + 1) ts))
subjects_next term ns ts i n t lt lu at there =
    ap₂ (λ (a : List NameCol) (b : List Term). key_subjects term (keys a) b) (drop_item ns i n lt at) (drop_item ts i t lu there)

pub no_subjects : (term : Key → Option Term) (ns : List NameCol) (ts : List Term) (i : ℕ) → min (length ns) (length ts) ≤ i → key_subjects term (keys (drop i ns)) (drop i ts) ≡ []
no_subjects term [] ts zero h = refl
no_subjects term (n ∷ ns) [] zero h = refl
no_subjects term (n ∷ ns) (t ∷ ts) zero h = absurd (omega (arith, h))
no_subjects term [] ts (suc i) h = refl
no_subjects term (n ∷ ns) [] (suc i) h = none (drop i ns)
  where
    none : (xs : List NameCol) → key_subjects term (keys xs) [] ≡ []
    none [] = refl
    none (x ∷ xs) = refl
no_subjects term (n ∷ ns) (t ∷ ts) (suc i) h = no_subjects term ns ts i (omega (arith, h))

-- ---- the equations of an operator's own positions

keys_take : (ns : List NameCol) (i : ℕ) (n : NameCol) → i < length ns → n ≡ get_or ns i n → keys (take (i + 1) ns) ≡ keys (take i ns) ++ key_of n ∷ []
keys_take ns i n lt at = ap keys (take_item ns i n lt at) ∙ map-append (take i ns) (n ∷ [])
  where
    map-append : (xs ys : List NameCol) → keys (xs ++ ys) ≡ keys xs ++ keys ys
    map-append [] ys = refl
    map-append (x ∷ xs) ys = ap (λ l. key_of x ∷ l) (map-append xs ys)

module _ (ns : List NameCol) (ts : List Term) (i : ℕ) (n : NameCol) (t : Term) (lt : i < length ns) (lu : i < length ts) (at : n ≡ get_or ns i n) (there : t ≡ get_or ts i t) where
  pub own_next : own_equations (keys (take i ns)) (take i ts) (keys (drop i ns)) (drop i ts)
      ≡ pick (option_map (λ u. (u, t)) (beside (keys (take i ns)) (take i ts) (key_of n))) (own_equations (keys (take (i + 1) ns)) (take (i + 1) ts) (keys (drop (i + 1) ns)) (drop (i + 1) ts))
  own_next =
      ap₂ (λ (a : List NameCol) (b : List Term). own_equations (keys (take i ns)) (take i ts) (keys a) b) (drop_item ns i n lt at) (drop_item ts i t lu there)
      ∙ ap₂ (λ (a : List Key) (b : List Term). pick (option_map (λ u. (u, t)) (beside (keys (take i ns)) (take i ts) (key_of n))) (own_equations a b (keys (drop (i + 1) ns)) (drop (i + 1) ts)))
      (sym (keys_take ns i n lt at)) (sym (take_item ts i t lu there))

  pub own_next_of : own_subjects (keys (take i ns)) (take i ts) (keys (drop i ns)) (drop i ts)
      ≡ pick (option_map (λ u. subject_of (key_of n)) (beside (keys (take i ns)) (take i ts) (key_of n))) (own_subjects (keys (take (i + 1) ns)) (take (i + 1) ts) (keys (drop (i + 1) ns)) (drop (i + 1) ts))
  own_next_of =
      ap₂ (λ (a : List NameCol) (b : List Term). own_subjects (keys (take i ns)) (take i ts) (keys a) b) (drop_item ns i n lt at) (drop_item ts i t lu there)
      ∙ ap₂ (λ (a : List Key) (b : List Term). pick (option_map (λ u. subject_of (key_of n)) (beside (keys (take i ns)) (take i ts) (key_of n))) (own_subjects a b (keys (drop (i + 1) ns)) (drop (i + 1) ts)))
      (sym (keys_take ns i n lt at)) (sym (take_item ts i t lu there))

pub no_own : (ks : List Key) (us : List Term) (ns : List NameCol) (ts : List Term) (i : ℕ) → min (length ns) (length ts) ≤ i → own_equations ks us (keys (drop i ns)) (drop i ts) ≡ []
no_own ks us [] ts zero h = refl
no_own ks us (n ∷ ns) [] zero h = refl
no_own ks us (n ∷ ns) (t ∷ ts) zero h = absurd (omega (arith, h))
no_own ks us [] ts (suc i) h = refl
no_own ks us (n ∷ ns) [] (suc i) h = none (drop i ns)
  where
    none : (xs : List NameCol) → own_equations ks us (keys xs) [] ≡ []
    none [] = refl
    none (x ∷ xs) = refl
no_own ks us (n ∷ ns) (t ∷ ts) (suc i) h = no_own ks us ns ts i (omega (arith, h))

pub no_own_of : (ks : List Key) (us : List Term) (ns : List NameCol) (ts : List Term) (i : ℕ) → min (length ns) (length ts) ≤ i → own_subjects ks us (keys (drop i ns)) (drop i ts) ≡ []
no_own_of ks us [] ts zero h = refl
no_own_of ks us (n ∷ ns) [] zero h = refl
no_own_of ks us (n ∷ ns) (t ∷ ts) zero h = absurd (omega (arith, h))
no_own_of ks us [] ts (suc i) h = refl
no_own_of ks us (n ∷ ns) [] (suc i) h = none (drop i ns)
  where
    none : (xs : List NameCol) → own_subjects ks us (keys xs) [] ≡ []
    none [] = refl
    none (x ∷ xs) = refl
no_own_of ks us (n ∷ ns) (t ∷ ts) (suc i) h = no_own_of ks us ns ts i (omega (arith, h))

-- ---- at the end of a loop

pub all_there : {X : Type 0} (now back whole : List X) → now ++ back ≡ whole → back ≡ [] → now ≡ whole
all_there now back whole h e = sym (append-nil now) ∙ ap (λ l. now ++ l) (sym e) ∙ h

-- the test of an index below two lengths
pub within_first : (i m a b : ℕ) → m ≡ min a b → i < m → i < a
within_first i m a b e h = omega (arith, e, h)

pub within_second : (i m a b : ℕ) → m ≡ min a b → i < m → i < b
within_second i m a b e h = omega (arith, e, h)

-- the terms are as many as the keys looked at
pub beside_next_on : (ns : List NameCol) (ts : List Term) (k : Key) (i : ℕ) (n : NameCol) → i < length ns → i < length ts → n ≡ get_or ns i n
    → bytes_eq (key_of n) k ≡ false → beside (keys (drop (i + 1) ns)) (drop (i + 1) ts) k ≡ beside (keys (drop i ns)) (drop i ts) k
beside_next_on ns ts k i n lt lu at e = let (t, there) = slice_get_some ts i lu in beside_on ns ts k i n t lt at (drop_there ts i t there) e
  where
    beside_on : (ns : List NameCol) (ts : List Term) (k : Key) (i : ℕ) (n : NameCol) (t : Term) → i < length ns → n ≡ get_or ns i n → drop i ts ≡ t ∷ drop (i + 1) ts
        → bytes_eq (key_of n) k ≡ false → beside (keys (drop (i + 1) ns)) (drop (i + 1) ts) k ≡ beside (keys (drop i ns)) (drop i ts) k
    beside_on ns ts k i n t lt at there e =
        sym (ap₂ (λ (a : List NameCol) (b : List Term). beside (keys a) b k) (drop_item ns i n lt at) there ∙ ap (λ b. cond b (Some t) (beside (keys (drop (i + 1) ns)) (drop (i + 1) ts) k)) e)

-- the value of a slice from the start
pub take_from_start : {X : Type 0} (i : ℕ) (xs : List X) → take (i - 0) xs ≡ take i xs
take_from_start i xs = let e : i - 0 ≡ i = omega arith in ap (λ n. take n xs) e

-- ---- the two rows of a pair, column by column

module _ (K L M : List Key) where
  pub no_left : (left right : List Term) → left ≡ [] → ([] ≡ pair_subjects K L M left right) × ([] ≡ pair_equations K L M left right) × ([] ≡ pair_columns K L M left right)
  no_left [] right e = (refl, refl, refl)
  no_left (x ∷ left) right e = absurd (cc)

  pub no_wanted : (left right rest : List Term) (value : Term) → left ≡ value ∷ rest → rest ≡ [] → ([] ≡ pair_subjects K L M left right) × ([] ≡ pair_equations K L M left right) × ([] ≡ pair_columns K L M left right)
  no_wanted left right rest value e none =
      subst (λ l. ([] ≡ pair_subjects K L M l right) × ([] ≡ pair_equations K L M l right) × ([] ≡ pair_columns K L M l right)) (sym (e ∙ ap (λ l. value ∷ l) none)) (refl, refl, refl)

  pub no_right : (left right : List Term) → right ≡ [] → ([] ≡ pair_subjects K L M left right) × ([] ≡ pair_equations K L M left right) × ([] ≡ pair_columns K L M left right)
  no_right left right e =
      subst (λ r. ([] ≡ pair_subjects K L M left r) × ([] ≡ pair_equations K L M left r) × ([] ≡ pair_columns K L M left r)) (sym e) (none left)
    where
      none : (l : List Term) → ([] ≡ pair_subjects K L M l []) × ([] ≡ pair_equations K L M l []) × ([] ≡ pair_columns K L M l [])
      none [] = (refl, refl, refl)
      none (x ∷ []) = (refl, refl, refl)
      none (x ∷ y ∷ l) = (refl, refl, refl)

  module _ (left right rest more entities : List Term) (value wanted own : Term) (el : left ≡ value ∷ rest) (er : rest ≡ wanted ∷ more) (eo : right ≡ own ∷ entities) where
    left_is : left ≡ value ∷ wanted ∷ more
    left_is = el ∙ ap (λ l. value ∷ l) er

    pub pair_subjects_are : subjects.Value ∷ key_subjects (beside L entities) K (entities_of K more) ≡ pair_subjects K L M left right
    pair_subjects_are = ap₂ (pair_subjects K L M) (sym left_is) (sym eo)

    pub pair_equations_are : (wanted, own) ∷ key_equations (beside L entities) K (entities_of K more) ≡ pair_equations K L M left right
    pair_equations_are = ap₂ (pair_equations K L M) (sym left_is) (sym eo)

    pub pair_columns_are : (value ∷ wanted_of K more) ++ key_terms (λ k. option_or (beside K (entities_of K more) k) (beside L entities k)) M ≡ pair_columns K L M left right
    pair_columns_are = ap₂ (pair_columns K L M) (sym left_is) (sym eo)
