-- What the stop of tokens with one more says of that one.
use Rattle.std.proofs.Common.{◌≡◌, ◌⊎◌, inl, inr, ◌<◌, ◌≤◌, ◌+◌, ℕ, zero, suc, List, [], ◌∷◌, ◌++◌, Some, None, length, take, slice_get, refl, sym, ap, ◌∙◌, subst, arith, append_assoc}
use Rattle.psg_grammar.specs.declared.types.Kind.{Kind}
use Rattle.psg_grammar.specs.declared.types.Definition.{Definition}
use Rattle.psg_class.specs.Terminals.{Token, terminal_of}
use Rattle.psg_class.specs.Yields.{Yields}
use Rattle.psg_parse.specs.Stops.{Begins, IsStop}
use Rattle.psg_stop.specs.Wanted.{GoesWith}

-- up to a token that is there, and what comes after it
split_at : (xs : List Token) (j : ℕ) (t : Token) → slice_get xs j ≡ Some t → (rest : List Token) × (xs ≡ (take j xs ++ t ∷ []) ++ rest)
split_at [] j t e = absurd (let x : None ≡ Some t = e in cc)
split_at (x ∷ xs) zero t e = (xs, (let y : Some x ≡ Some t = e in let z : x ≡ t = cc in ap (λ w. w ∷ xs) z))
split_at (x ∷ xs) (suc j) t e = let (rest, is) = split_at xs j t e in (rest, ap (λ w. x ∷ w) is)

there_or_end : (xs : List Token) (c : Token) (j : ℕ) → j < length xs → (t : Token) × (slice_get xs j ≡ Some t) × (slice_get (xs ++ c ∷ []) j ≡ Some t) × (take j (xs ++ c ∷ []) ≡ take j xs)
there_or_end [] c j h = absurd (omega (arith, h))
there_or_end (x ∷ xs) c zero h = (x, refl, refl, refl)
there_or_end (x ∷ xs) c (suc j) h = let (t, a, b, d) = there_or_end xs c j (omega (arith, h)) in (t, a, b, ap (λ w. x ∷ w) d)

last_there : (xs : List Token) (c : Token) → slice_get (xs ++ c ∷ []) (length xs) ≡ Some c
last_there [] c = refl
last_there (x ∷ xs) c = last_there xs c

front_there : (xs : List Token) (c : Token) → take (length xs) (xs ++ c ∷ []) ≡ xs
front_there [] c = refl
front_there (x ∷ xs) c = ap (λ w. x ∷ w) (front_there xs c)

all_there : (xs : List Token) → take (length xs) xs ≡ xs
all_there [] = refl
all_there (x ∷ xs) = ap (λ w. x ∷ w) (all_there xs)

one_longer : (xs : List Token) (c : Token) → length (xs ++ c ∷ []) ≡ length xs + 1
one_longer [] c = omega arith
one_longer (x ∷ xs) c = let e : length (xs ++ c ∷ []) ≡ length xs + 1 = one_longer xs c in omega (arith, e)

module _ (def : Definition) (kind : Kind) (level : ℕ) where
  begins_front : (xs ys : List Token) → Begins def kind level (xs ++ ys) → Begins def kind level xs
  begins_front xs ys b = record { more = ys ++ b.more; tree = b.tree; nesting = b.nesting; yields = subst (Yields def b.tree kind level b.nesting) (append_assoc xs ys b.more) b.yields }

  module _ (ts : List Token) (c : Token) (k : ℕ) (s : IsStop def kind level (ts ++ c ∷ []) k) where
    pub asked_yes : k ≡ length (ts ++ c ∷ []) → GoesWith def kind level ts (terminal_of def c)
    asked_yes e = record { token = c; is = refl; begins = subst (Begins def kind level) (ap (λ n. take n (ts ++ c ∷ [])) e ∙ all_there (ts ++ c ∷ [])) s.front }

    at_end : k ≡ length ts → GoesWith def kind level ts (terminal_of def c) → ⊥
    at_end e g = s.stops c g.token (ap (slice_get (ts ++ c ∷ [])) e ∙ last_there ts c) g.is (subst (λ w. Begins def kind level (w ++ g.token ∷ [])) (sym (ap (λ n. take n (ts ++ c ∷ [])) e ∙ front_there ts c)) g.begins)

    before_end : Begins def kind level ts → k < length ts → ⊥
    before_end b lt =
        let (t, there, all, front) = there_or_end ts c k lt in
        let (rest, is) = split_at ts k t there in
        s.stops t t all refl (subst (λ w. Begins def kind level (w ++ t ∷ [])) (sym front) (begins_front (take k ts ++ t ∷ []) rest (subst (Begins def kind level) is b)))

    pub asked_no : Begins def kind level ts → (k ≡ length (ts ++ c ∷ []) → ⊥) → GoesWith def kind level ts (terminal_of def c) → ⊥
    asked_no b other g = elim (cases k (length ts)) [
      | inl lt ↦ before_end b lt
      | inr ge ↦ at_end (let n : length (ts ++ c ∷ []) ≡ length ts + 1 = one_longer ts c in place ge n) g
    ] where
      cases : (a b : ℕ) → (a < b) ⊎ (b ≤ a)
      cases a zero = inr (omega arith)
      cases zero (suc b) = inl (omega arith)
      cases (suc a) (suc b) = elim (cases a b) [ inl h ↦ inl (omega (arith, h)) | inr h ↦ inr (omega (arith, h)) ]

      place : length ts ≤ k → length (ts ++ c ∷ []) ≡ length ts + 1 → k ≡ length ts
      place ge n = elim (cases (length ts) k) [
        | inl lt ↦ absurd (other (let i = s.inside in omega (arith, i, lt, n)))
        | inr le ↦ omega (arith, ge, le)
      ]

  -- the stop of the tokens and one more says whether that one goes on
  module _ (ts row : List Token) (t : Token) (k : ℕ) (are : row ≡ ts ++ t ∷ []) (s : IsStop def kind level row k) where
    own : IsStop def kind level (ts ++ t ∷ []) k
    own = subst (λ r. IsStop def kind level r k) are s

    pub goes_yes : length ts < k → GoesWith def kind level ts (terminal_of def t)
    goes_yes lt = asked_yes ts t k own (let n : length (ts ++ t ∷ []) ≡ length ts + 1 = one_longer ts t in let i = own.inside in omega (arith, lt, n, i))

    pub goes_no : Begins def kind level ts → (length ts < k → ⊥) → GoesWith def kind level ts (terminal_of def t) → ⊥
    goes_no b never g = asked_no ts t k own b (λ e. never (let n : length (ts ++ t ∷ []) ≡ length ts + 1 = one_longer ts t in omega (arith, e, n))) g

  pub from_nothing : (ts : List Token) → Begins def kind level ts → Begins def kind level []
  from_nothing ts b = begins_front [] ts b
