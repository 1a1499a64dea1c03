-- Fronts of names: how many names begin with them, and that each letter more leaves at most half.
use Rattle.std.proofs.Common.{◌≡◌, inl, inr, ℕ, zero, suc, ◌+◌, ◌*◌, ◌^◌, ◌<◌, ◌≤◌, ◌&&◌, Bool, true, false, cond, List, [], ◌∷◌, ◌++◌, take, length, get_or, refl, ap, ap₂, sym, ◌∙◌, subst, arith, length-append}
use Rattle.std.specs.Prelude.{nat_eq}
use Rattle.std.specs.List.{AllByRecursion}
use Rattle.std.proofs.Math.Nat.{pow-suc}
use Rattle.std.proofs.lemmas.Bool.{eqb-true}
use Rattle.std.proofs.lemmas.List.{take_all}
use Rattle.psg_terms.specs.Names.{Name}
use Rattle.psg_terms.proofs.Lists.{take_item, each_push}
use Rattle.psg_places.specs.NewNames.{IsFree, IsLetter, IsLonger, beginning, begins_with}

abbrev one_or_none : Bool → ℕ
one_or_none b = cond b 1 0

at_most_one : (b : Bool) → one_or_none b ≤ 1
at_most_one true = omega arith
at_most_one false = omega arith

-- ---- one name

both_false : (a b : Bool) → (a ≡ true → b ≡ true → ⊥) → one_or_none (a && true) + one_or_none (b && true) ≤ 1
both_false true true h = absurd (h refl refl)
both_false true false h = omega arith
both_false false true h = omega arith
both_false false false h = omega arith

letters_apart : (d : ℕ) → nat_eq 97 d ≡ true → nat_eq 98 d ≡ true → ⊥
letters_apart d a b = let e : 97 ≡ d = eqb-true 97 d a in let f : 98 ≡ d = eqb-true 98 d b in absurd (omega (arith, e, f))

under : (s a b c : Bool) → one_or_none a + one_or_none b ≤ one_or_none c
    → one_or_none (s && a) + one_or_none (s && b) ≤ one_or_none (s && c)
under true a b c h = h
under false a b c h = omega arith

split_one : (front name : Name) → one_or_none (begins_with (front ++ 97 ∷ []) name)
    + one_or_none (begins_with (front ++ 98 ∷ []) name) ≤ one_or_none (begins_with front name)
split_one [] [] = omega arith
split_one [] (d ∷ name) = both_false (nat_eq 97 d) (nat_eq 98 d) (letters_apart d)
split_one (c ∷ front) [] = omega arith
split_one (c ∷ front) (d ∷ name) =
    under (nat_eq c d) (begins_with (front ++ 97 ∷ []) name) (begins_with (front ++ 98 ∷ []) name) (begins_with front name)
    (split_one front name)

-- ---- all names

split_all : (front : Name) (names : List Name)
    → beginning (front ++ 97 ∷ []) names + beginning (front ++ 98 ∷ []) names ≤ beginning front names
split_all front [] = omega arith
split_all front (n ∷ ns) =
    let here = split_one front n in
    let more = split_all front ns in
    omega (arith, here, more)

beginning_push : (front : Name) (xs : List Name) (x : Name)
    → beginning front (xs ++ x ∷ []) ≡ beginning front xs + one_or_none (begins_with front x)
beginning_push front [] x = omega arith
beginning_push front (n ∷ ns) x = let e = beginning_push front ns x in omega (arith, e)

-- one more name is counted
pub counted_name : (front : Name) (all : List Name) (i : ℕ) (x : Name) (so : Bool) (total more : ℕ) → i < length all
    → x ≡ get_or all i x → total ≡ beginning front (take i all) → so ≡ begins_with front x → more ≡ cond so 1 0
    → total + more ≡ beginning front (take (i + 1) all)
counted_name front all i x so total more lt at h s m =
    ap₂ (λ a b. a + b) h (m ∙ ap one_or_none s)
    ∙ sym (beginning_push front (take i all) x) ∙ ap (beginning front) (sym (take_item all i x lt at))

pub counted_all : (front : Name) (all : List Name) (i total : ℕ) → length all ≤ i → total ≡ beginning front (take i all)
    → total ≡ beginning front all
counted_all front all i total le h = h ∙ ap (beginning front) (take_all i all le)

beginning_nothing : (names : List Name) → beginning [] names ≡ length names
beginning_nothing [] = refl
beginning_nothing (n ∷ ns) = let e = beginning_nothing ns in omega (arith, e)

-- the letter with which fewer names go on
pub by_a : (names : List Name) (front made other : Name) (left more : ℕ) → made ≡ front ++ 97 ∷ []
    → other ≡ front ++ 98 ∷ [] → left ≡ beginning made names → more ≡ beginning other names → left ≤ more
    → IsLonger names front made left
by_a names front made other left more e f l m le = record {
  letter = 97;
  is = inl refl;
  more = e;
  count = l;
  half =
      let s = split_all front names in
      let a : left ≡ beginning (front ++ 97 ∷ []) names = l ∙ ap (λ n. beginning n names) e in
      let b : more ≡ beginning (front ++ 98 ∷ []) names = m ∙ ap (λ n. beginning n names) f in
      omega (arith, s, a, b, le);
}

pub by_b : (names : List Name) (front made other : Name) (left more : ℕ) → made ≡ front ++ 98 ∷ []
    → other ≡ front ++ 97 ∷ [] → left ≡ beginning made names → more ≡ beginning other names → left ≤ more
    → IsLonger names front made left
by_b names front made other left more e f l m le = record {
  letter = 98;
  is = inr refl;
  more = e;
  count = l;
  half =
      let s = split_all front names in
      let a : left ≡ beginning (front ++ 98 ∷ []) names = l ∙ ap (λ n. beginning n names) e in
      let b : more ≡ beginning (front ++ 97 ∷ []) names = m ∙ ap (λ n. beginning n names) f in
      omega (arith, s, a, b, le);
}

-- ---- letter by letter

-- so many names still begin with the letters, and so many letters may follow
pub record IsSoFar (names : List Name) (front : Name) (left : ℕ) : Type 0 where
  pub rest : ℕ
  pub sum : length front + rest ≡ 64
  pub few : left < 2 ^ rest
  pub count : left ≡ beginning front names
  pub letters : AllByRecursion IsLetter front

pub none_yet : (names : List Name) (front : Name) (left : ℕ) → front ≡ [] → left ≡ length names → left < 2 ^ 64
    → IsSoFar names front left
none_yet names front left e l lt = record {
  rest = 64;
  sum = let z : length front ≡ 0 = ap length e in omega (arith, z);
  few = lt;
  count = l ∙ sym (beginning_nothing names) ∙ ap (λ n. beginning n names) (sym e);
  letters = subst (AllByRecursion IsLetter) (sym e) tt;
}

pub one_more : (names : List Name) (front longer : Name) (left next : ℕ) → IsSoFar names front left → 0 < left
    → IsLonger names front longer next → IsSoFar names longer next
one_more names front longer left next h some m = step h.rest h.sum h.few where
  step : (rest : ℕ) → length front + rest ≡ 64 → left < 2 ^ rest → IsSoFar names longer next
  step zero s lt = absurd (let p : 2 ^ 0 ≡ 1 = refl in omega (arith, some, lt, p))
  step (suc r) s lt = record {
    rest = r;
    sum = let e : length longer ≡ length front + 1 = ap length m.more ∙ length-append front (m.letter ∷ []) in omega (arith, e, s);
    few =
        let p : 2 ^ suc r ≡ 2 ^ r * 2 = pow-suc 2 r in
        let half : next + next ≤ left = omega (arith, m.half, h.count) in
        omega (arith, p, lt, half);
    count = m.count;
    letters = subst (AllByRecursion IsLetter) (sym m.more) (each_push IsLetter front m.letter h.letters m.is);
  }

pub fewer : (names : List Name) (front longer : Name) (left next : ℕ) → IsSoFar names front left → 0 < left
    → IsLonger names front longer next → next < left
fewer names front longer left next h some m = omega (arith, m.half, h.count, some)

pub all_free : (names : List Name) (front : Name) (left : ℕ) → IsSoFar names front left → left ≤ 0 → IsFree names front
all_free names front left h le = record {
  none = omega (arith, h.count, le);
  letters = h.letters;
  short = omega (arith, h.sum);
}
