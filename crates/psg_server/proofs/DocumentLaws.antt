-- What becomes of the documents that are open.
use Rattle.std.proofs.Common.{◌≡◌, ◌<◌, ◌≤◌, ◌+◌, ℕ, zero, suc, Bool, true, false, cond, List, [], ◌∷◌, ◌++◌, length, get_or, set, Option, Some, None, refl, inl, inr, sym, ◌∙◌, ap, subst, arith}
use Rattle.std.specs.Prelude.{nat_lt}
use Rattle.std.specs.List.{find, position, position_or_len, remove}
use Rattle.std.specs.Option.{option_or, unwrap_or}
use Rattle.std.specs.Prelude.{IfSome}
use Rattle.std.proofs.lemmas.Bool.{cases_lt, false≢true, lt-ltb}
use Rattle.std.proofs.lemmas.Grind.{common_steps}
use Rattle.std.proofs.lemmas.List.Edits.{length-remove}
use Rattle.std.proofs.lemmas.List.Folds.{find-append, find-set, find_at, find_past}
use Rattle.std.proofs.lemmas.List.Quantifiers.{position-Some}
use Rattle.std.proofs.lemmas.List.Sums.{position_or_len_is}
use Rattle.std.proofs.lemmas.Option.{none-some, slice_get-get_or, slice_get_past}
use Rattle.std.proofs.lemmas.Slice.Eq.{bytes_eq-Decides}
use Rattle.std.specs.List.{slice_get}
use Rattle.psg_server.specs.declared.documents.Document.{Document}
use Rattle.psg_server.specs.Documents.{AreApart, Becomes, document_at, is_at}

false_if : (b : Bool) → (b ≡ true → ⊥) → b ≡ false
false_if true wrong = absurd (wrong refl)
false_if false wrong = refl

pub has_address : (a : List ℕ) (d : Document) → is_at a d ≡ true → d.address ≡ a
has_address a d t = (bytes_eq-Decides d.address a).0 t

at_address : (a : List ℕ) (d : Document) → d.address ≡ a → is_at a d ≡ true
at_address a d e = (bytes_eq-Decides d.address a).1 e

-- a document with another address
elsewhere : (a other : List ℕ) (d : Document) → d.address ≡ a → (other ≡ a → ⊥) → is_at other d ≡ false
elsewhere a other d e apart = false_if (is_at other d) (λ t. apart (sym (has_address other d t) ∙ e))

first_place : (p : Document → Bool) (xs : List Document) (i : ℕ) (d : Document) → position p xs ≡ Some i
    → i ≡ position_or_len p xs
first_place p xs i d e =
    let found = position-Some p xs i d e in
    sym (position_or_len_is p xs i d (omega (arith, found.0)) found.2 (λ _. found.1))

past_all : (n size : ℕ) → None ≡ cond (nat_lt n size) (Some n) None → size ≤ n
past_all n size e = elim (cases_lt n size) [
  | inl lt ↦ absurd (none-some n (e ∙ ap (λ b. cond b (Some n) None) (lt-ltb n size lt)))
  | inr ge ↦ ge
]

none_found : (p : Document → Bool) (xs : List Document) → None ≡ position p xs → find p xs ≡ None
none_found p xs e =
    find_at p xs ∙ slice_get_past xs (position_or_len p xs) (past_all (position_or_len p xs) (length xs) e)

pub within_is : {X : Type 0} (p : X → Bool) (xs : List X) (o : Option ℕ) → o ≡ position p xs
    → IfSome o (λ i. i < length xs)
within_is p xs None e = tt
within_is p xs (Some i) e = let back : position p xs ≡ Some i = sym e in grind (arith, common_steps)

-- ---- where no document has the address

none_first : (p : Document → Bool) (x : Document) (xs : List Document) → find p (x ∷ xs) ≡ None → p x ≡ false
none_first p x xs e = false_if (p x) (λ t. none-some x (sym e ∙ ap (λ b. cond b (Some x) (find p xs)) t))

none_rest : (p : Document → Bool) (x : Document) (xs : List Document) → find p (x ∷ xs) ≡ None → find p xs ≡ None
none_rest p x xs e = sym (ap (λ b. cond b (Some x) (find p xs)) (none_first p x xs e)) ∙ e

none_at : (p : Document → Bool) (xs : List Document) (i : ℕ) (d : Document) → i < length xs → find p xs ≡ None
    → p (get_or xs i d) ≡ false
none_at p [] i d lt e = absurd (omega (arith, lt))
none_at p (x ∷ xs) zero d lt e = none_first p x xs e
none_at p (x ∷ xs) (suc i) d lt e = none_at p xs i d (omega (arith, lt)) (none_rest p x xs e)

none_removed : (p : Document → Bool) (xs : List Document) (i : ℕ) → i < length xs → find p xs ≡ None
    → find p (remove xs i) ≡ None
none_removed p [] i lt e = absurd (omega (arith, lt))
none_removed p (x ∷ xs) zero lt e = none_rest p x xs e
none_removed p (x ∷ xs) (suc i) lt e =
    ap (λ b. cond b (Some x) (find p (remove xs i))) (none_first p x xs e)
    ∙ none_removed p xs i (omega (arith, lt)) (none_rest p x xs e)

pub found_is : (p : Document → Bool) (xs : List Document) (d : Document) → find p xs ≡ Some d → p d ≡ true
found_is p [] d e = absurd (none-some d e)
found_is p (x ∷ xs) d e = by (p x) refl (λ rest. found_is p xs d rest) where
  by : (b : Bool) → p x ≡ b → (find p xs ≡ Some d → p d ≡ true) → p d ≡ true
  by true t next = ap (λ (o : Option Document). p (unwrap_or o d)) (sym e ∙ ap (λ b. cond b (Some x) (find p xs)) t) ∙ t
  by false f next = next (sym (ap (λ b. cond b (Some x) (find p xs)) f) ∙ e)

-- ---- no two documents have one address

apart_set : (a : List ℕ) (xs : List Document) (i : ℕ) (d : Document) → d.address ≡ a → i < length xs
    → is_at a (get_or xs i d) ≡ true → AreApart xs → AreApart (set xs i d)
apart_set a [] i d e lt at ok = absurd (omega (arith, lt))
apart_set a (x ∷ xs) zero d e lt at ok = (ap (λ b. document_at b xs) (e ∙ sym (has_address a x at)) ∙ ok.0, ok.1)
apart_set a (x ∷ xs) (suc i) d e lt at ok = (
  find_past (is_at x.address) xs i d d
      (elsewhere a x.address (get_or xs i d) (has_address a (get_or xs i d) at) other) (elsewhere a x.address d e other)
      ∙ ok.0,
  apart_set a xs i d e (omega (arith, lt)) at ok.1,
) where
  inside : i < length xs
  inside = omega (arith, lt)

  other : x.address ≡ a → ⊥
  other same =
      let none : document_at a xs ≡ None = ap (λ b. document_at b xs) (sym same) ∙ ok.0 in
      false≢true (sym (none_at (is_at a) xs i d inside none) ∙ at)

apart_behind : (a : List ℕ) (xs : List Document) (d : Document) → d.address ≡ a → document_at a xs ≡ None → AreApart xs
    → AreApart (xs ++ d ∷ [])
apart_behind a [] d e none ok = (refl, tt)
apart_behind a (x ∷ xs) d e none ok = (
  find-append (is_at x.address) xs (d ∷ [])
      ∙ ap (λ (o : Option Document). option_or o (cond (is_at x.address d) (Some d) None)) ok.0
      ∙ ap (λ b. cond b (Some d) None) (elsewhere a x.address d e other),
  apart_behind a xs d e (none_rest (is_at a) x xs none) ok.1,
) where
  other : x.address ≡ a → ⊥
  other same = false≢true (sym (none_first (is_at a) x xs none) ∙ at_address a x same)

apart_remove : (xs : List Document) (i : ℕ) → i < length xs → AreApart xs → AreApart (remove xs i)
apart_remove [] i lt ok = absurd (omega (arith, lt))
apart_remove (x ∷ xs) zero lt ok = ok.1
apart_remove (x ∷ xs) (suc i) lt ok = (
  none_removed (is_at x.address) xs i (omega (arith, lt)) ok.0,
  apart_remove xs i (omega (arith, lt)) ok.1,
)

-- ---- a document is looked up

pub found_at : (a : List ℕ) (xs : List Document) (i : ℕ) (d : Document) → Some i ≡ position (is_at a) xs
    → Some (get_or xs i d) ≡ document_at a xs
found_at a xs i d is =
    let found = position-Some (is_at a) xs i d (sym is) in
    sym (find_at (is_at a) xs ∙ ap (λ n. slice_get xs n) (sym (first_place (is_at a) xs i d (sym is)))
    ∙ slice_get-get_or xs i d found.0)

pub found_none : (a : List ℕ) (xs : List Document) → None ≡ position (is_at a) xs → None ≡ document_at a xs
found_none a xs is = sym (none_found (is_at a) xs is)

-- ---- a document is put

pub put_at : (a : List ℕ) (xs : List Document) (i : ℕ) (d : Document) → d.address ≡ a
    → Some i ≡ position (is_at a) xs → Becomes a (Some d) xs (set xs i d)
put_at a xs i d e is =
    let found = position-Some (is_at a) xs i d (sym is) in
    record {
      here = find-set (is_at a) xs i d (first_place (is_at a) xs i d (sym is)) found.0 (at_address a d e);
      others = λ other apart.
          find_past (is_at other) xs i d d
          (elsewhere a other (get_or xs i d) (has_address a (get_or xs i d) found.1) apart)
          (elsewhere a other d e apart);
      apart = apart_set a xs i d e found.0 found.1;
    }

or_none : (o : Option Document) → option_or o None ≡ o
or_none None = refl
or_none (Some d) = refl

pub put_behind : (a : List ℕ) (xs : List Document) (d : Document) → d.address ≡ a → None ≡ position (is_at a) xs
    → Becomes a (Some d) xs (xs ++ d ∷ [])
put_behind a xs d e is = record {
  here =
      find-append (is_at a) xs (d ∷ [])
      ∙ ap (λ o. option_or o (find (is_at a) (d ∷ []))) (none_found (is_at a) xs is)
      ∙ ap (λ b. cond b (Some d) None) (at_address a d e);
  others = λ other apart.
      find-append (is_at other) xs (d ∷ [])
      ∙ ap (λ b. option_or (find (is_at other) xs) (cond b (Some d) None)) (elsewhere a other d e apart)
      ∙ or_none (find (is_at other) xs);
  apart = apart_behind a xs d e (none_found (is_at a) xs is);
}

-- ---- a document is closed

find_removed : (p : Document → Bool) (xs : List Document) (i : ℕ) (d : Document) → i < length xs
    → p (get_or xs i d) ≡ false → find p (remove xs i) ≡ find p xs
find_removed p [] i d lt f = absurd (omega (arith, lt))
find_removed p (x ∷ xs) zero d lt f = sym (ap (λ b. cond b (Some x) (find p xs)) f)
find_removed p (x ∷ xs) (suc i) d lt f = ap (cond (p x) (Some x)) (find_removed p xs i d (omega (arith, lt)) f)

-- at all other addresses is what was there before, and no two documents have one address where none had it
pub record AreOthers (a : List ℕ) (old new : List Document) : Type 0 where
  pub others : (other : List ℕ) → (other ≡ a → ⊥) → document_at other new ≡ document_at other old
  pub apart : AreApart old → AreApart new

pub close_start : (a : List ℕ) (old new : List Document) → new ≡ old → AreOthers a old new
close_start a old new e = record {
  others = λ other apart. ap (document_at other) e;
  apart = λ ok. subst AreApart (sym e) ok;
}

pub close_step : (a : List ℕ) (old xs new : List Document) (i : ℕ) (d : Document) → AreOthers a old xs
    → Some i ≡ position (is_at a) xs → new ≡ remove xs i → AreOthers a old new
close_step a old xs new i d so is e =
    let found = position-Some (is_at a) xs i d (sym is) in
    record {
      others = λ other apart.
          ap (document_at other) e
          ∙ find_removed (is_at other) xs i d found.0
          (elsewhere a other (get_or xs i d) (has_address a (get_or xs i d) found.1) apart)
          ∙ so.others other apart;
      apart = λ ok. subst AreApart (sym e) (apart_remove xs i found.0 (so.apart ok));
    }

pub close_end : (a : List ℕ) (old xs : List Document) → AreOthers a old xs → None ≡ position (is_at a) xs
    → Becomes a None old xs
close_end a old xs so is = record {
  here = none_found (is_at a) xs is;
  others = so.others;
  apart = so.apart;
}

-- ---- as the program has them

pub put_at_as : (b : List ℕ) (xs ys : List Document) (i : ℕ) (d : Document) → b ≡ d.address → ys ≡ xs
    → Some i ≡ position (is_at b) ys → Becomes d.address (Some d) xs (set xs i d)
put_at_as b xs ys i d named same is =
    put_at d.address xs i d refl (is ∙ ap (λ (zs : List Document). position (is_at b) zs) same
    ∙ ap (λ (a : List ℕ). position (is_at a) xs) named)

pub put_behind_as : (b : List ℕ) (xs ys new : List Document) (d : Document) → b ≡ d.address → ys ≡ xs
    → None ≡ position (is_at b) ys → new ≡ xs ++ d ∷ [] → Becomes d.address (Some d) xs new
put_behind_as b xs ys new d named same is e =
    subst (λ (zs : List Document). Becomes d.address (Some d) xs zs) (sym e)
    (put_behind d.address xs d refl (is ∙ ap (λ (zs : List Document). position (is_at b) zs) same
    ∙ ap (λ (a : List ℕ). position (is_at a) xs) named))

pub one_less : (p : Document → Bool) (xs ys new : List Document) (i : ℕ) (d : Document) → ys ≡ xs → Some i ≡ position p ys
    → new ≡ remove xs i → length new < length xs
one_less p xs ys new i d same is e =
    let at : position p xs ≡ Some i = sym (is ∙ ap (λ (zs : List Document). position p zs) same) in
    let inside = (position-Some p xs i d at).0 in
    let long = length-remove xs i inside in
    let size : length new ≡ length (remove xs i) = ap (λ (zs : List Document). length zs) e in
    omega (arith, long, size, inside)
