-- A row whose ground instances are all among another row's is an instance of it.
use Rattle.std.proofs.Common.{◌≡◌, ℕ, ◌<◌, ◌⊎◌, ◌||◌, true, false, cond, List, [], ◌∷◌, ◌++◌, map, refl, ap, ap₂, sym, ◌∙◌, length, subst, inl, inr, Option, Some, None, unwrap_or}
use Rattle.std.proofs.Math.Bool.{or-true}
use Rattle.psg_terms.specs.Terms.{Term, variable, symbol, apply}
use Rattle.psg_terms.specs.Signature.{Signature, Symbol, HasSort, HaveSorts, Takes, only_constructor}
use Rattle.psg_terms.specs.Instances.{Substitution, substitute, IsGround, IsSorted, IsGrounding, AllGroundInstancesIn}
use Rattle.psg_terms.specs.Canonical.{Variable, same_variable, variables, variables_of, is_noted, IsWrittenOut, AreWrittenOut}
use Rattle.psg_terms.proofs.InstanceLaws.{Takes-substitute}
use Rattle.psg_terms.proofs.Variables.{variable_cases, same_variable-refl, same_variable-sym, true_false}
use Rattle.psg_terms.proofs.Separate.{Choices, separated, grounding, grounding-at, at, at-here, head, head-substitute, function_of, argument_of}

-- the first of two that is there
abbrev pub or_else : Option Term → Option Term → Option Term
or_else None o = o
or_else (Some t) o = Some t

-- what stands in a term where a pattern first has a variable
abbrev pub found : Term → Term → Variable → Option Term
found (variable s n) a x = cond (same_variable (s, n) x) (Some a) None
found (symbol c) a x = None
found (apply f p) (apply g a) x = or_else (found f g x) (found p a x)
found (apply f p) (symbol c) x = None
found (apply f p) (variable s n) x = None

abbrev pub found_in : List Term → List Term → Variable → Option Term
found_in (p ∷ ps) (a ∷ rest) x = or_else (found p a x) (found_in ps rest x)
found_in _ _ x = None

-- the substitution that a pattern and a term suggest
abbrev pub suggested : (Variable → Option Term) → Substitution
suggested m s n = unwrap_or (m (s, n)) (variable s n)

abbrev tail_of : List ℕ → List ℕ
tail_of [] = []
tail_of (x ∷ xs) = xs

-- a term of some sort, with arguments or without
pub record IsFine (sig : Signature) (t : Term) : Type 0 where
  pub wanted : List ℕ
  pub sort : ℕ
  pub takes : Takes sig t wanted sort
  pub written : IsWrittenOut sig t

abbrev pub Has : List Variable → Variable → Type 0
Has xs x = is_noted x xs ≡ true

pub among-append : (x : Variable) (xs ys : List Variable) → is_noted x (xs ++ ys) ≡ (is_noted x xs || is_noted x ys)
among-append x [] ys = refl
among-append x (y ∷ xs) ys = elim (same_variable x y) as (λ b. (b || is_noted x (xs ++ ys)) ≡ ((b || is_noted x xs) || is_noted x ys)) [ true ↦ refl | false ↦ among-append x xs ys ]

pub among-left : (x : Variable) (xs ys : List Variable) → Has xs x → Has (xs ++ ys) x
among-left x xs ys h = among-append x xs ys ∙ ap (λ b. b || is_noted x ys) h

pub among-right : (x : Variable) (xs ys : List Variable) → Has ys x → Has (xs ++ ys) x
among-right x xs ys h = among-append x xs ys ∙ ap (λ b. is_noted x xs || b) h ∙ or-true (is_noted x xs)

-- ground terms have one sort
pub one_sort : (sig : Signature) (t : Term) (v w : List ℕ) (r s : ℕ) → IsGround t → Takes sig t v r → Takes sig t w s → (v ≡ w) × (r ≡ s)
one_sort sig (variable p n) v w r s g _ _ = absurd g
one_sort sig (symbol c) v w r s _ (a, p, q, x) (b, p', q', x') = let e : a ≡ b = cc in (sym q ∙ ap (λ (y : Symbol). y.arguments) e ∙ q', sym x ∙ ap (λ (y : Symbol). y.sort) e ∙ x')
one_sort sig (apply f a) v w r s (g, _) (x, p, _) (y, p', _) = let both = one_sort sig f (x ∷ v) (y ∷ w) r s g p p' in (ap tail_of both.0, both.1)

module _ (sig : Signature) (k : Choices sig) (pick : (g : Substitution) → IsGrounding sig g → Substitution) (picked : (g : Substitution) (h : IsGrounding sig g) → IsGrounding sig (pick g h)) where
  -- under each grounding, the term is what the picked substitution makes of the pattern
  abbrev pub Follows : Term → Term → Type 0
  Follows p a = (g : Substitution) (h : IsGrounding sig g) → substitute g a ≡ substitute (pick g h) p

  -- a term that follows a variable is the only one that does
  pub follower : (s n : ℕ) (a b : Term) → IsFine sig a → IsFine sig b → Follows (variable s n) a → Follows (variable s n) b → a ≡ b
  follower s n a b fa fb ha hb =
      elim (separated sig k a b fa.wanted fb.wanted fa.sort fb.sort fa.takes fb.takes fa.written fb.written) [
        | inl e ↦ e
        | inr (g, h, ne) ↦ absurd (ne (ha g h ∙ sym (hb g h)))
      ]

  -- a pattern that is no variable keeps its constructor: a term that follows it is no variable
  pub no_variable : (s n : ℕ) (p : Term) → s < length sig.sorts → only_constructor sig s ≡ None → ((g : Substitution) → head (substitute g p) ≡ head p) → Follows p (variable s n) → ⊥
  no_variable s n p lt o stays h =
      let choice = k.other s (head p) lt o in
      let g : Substitution = at (s, n) choice.0 k.some in
      let hg : IsGrounding sig g = grounding-at sig k s n choice.0 choice.1 choice.2 in
      choice.3 (ap head (sym (at-here sig k s n choice.0)) ∙ ap head (h g hg) ∙ stays (pick g hg))

  some_grounding : IsGrounding sig (λ s n. k.some s)
  some_grounding = grounding sig k

  function_follows : (f p g a : Term) → Follows (apply f p) (apply g a) → Follows f g
  function_follows f p g a h v hv = ap (function_of sig k (symbol 0)) (h v hv)

  argument_follows : (f p g a : Term) → Follows (apply f p) (apply g a) → Follows p a
  argument_follows f p g a h v hv = ap (argument_of sig k (symbol 0)) (h v hv)

  -- a variable's term by a table
  pub record IsTold (m : Variable → Option Term) (x : Variable) : Type 0 where
    pub term : Term
    pub is : m x ≡ Some term
    pub follows : Follows (variable x.0 x.1) term
    pub fine : IsFine sig term

  abbrev pub Told : List Variable → (Variable → Option Term) → Variable → Type 0
  Told xs m x = ((is_noted x xs ≡ false) × (m x ≡ None)) ⊎ IsTold m x

  told_first : (m n : Variable → Option Term) (x : Variable) → IsTold m x → IsTold (λ y. or_else (m y) (n y)) x
  told_first m n x t = record { term = t.term; is = ap (λ o. or_else o (n x)) t.is; follows = t.follows; fine = t.fine }

  told_second : (m n : Variable → Option Term) (x : Variable) → m x ≡ None → IsTold n x → IsTold (λ y. or_else (m y) (n y)) x
  told_second m n x e t = record { term = t.term; is = ap (λ o. or_else o (n x)) e ∙ t.is; follows = t.follows; fine = t.fine }

  told_both : (xs ys : List Variable) (m n : Variable → Option Term) (x : Variable) → Told xs m x → Told ys n x → Told (xs ++ ys) (λ y. or_else (m y) (n y)) x
  told_both xs ys m n x (inr t) _ = inr (told_first m n x t)
  told_both xs ys m n x (inl (out, none)) (inr t) = inr (told_second m n x none t)
  told_both xs ys m n x (inl (out, none)) (inl (out', none')) = inl (among-append x xs ys ∙ ap₂ (λ a b. a || b) out out', ap₂ or_else none none')

  told : (p a : Term) (v : List ℕ) (r : ℕ) → Takes sig p v r → IsFine sig a → Follows p a → (x : Variable) → Told (variables p) (found p a) x
  told (variable s n) a v r _ fa h x = elim (variable_cases (s, n) x) [
    | inl e ↦ inr (record {
      term = a;
      is = ap (λ b. cond b (Some a) None) (ap (same_variable (s, n)) (sym e) ∙ same_variable-refl (s, n));
      follows = subst (λ (y : Variable). Follows (variable y.0 y.1) a) e h;
      fine = fa;
    })
    | inr e ↦ inl (ap (λ b. b || false) (same_variable-sym (s, n) x e), ap (λ b. cond b (Some a) None) e)
  ]
  told (symbol c) a v r _ fa h x = inl (refl, refl)
  told (apply f p) (variable s n) v r (y, q, _) fa h x = absurd (no_variable s n (apply f p) fa.takes.0 fa.written (λ g. head-substitute sig g f y r v q) h)
  told (apply f p) (symbol c) v r _ fa h x = let e = h (λ s n. k.some s) some_grounding in absurd (cc)
  told (apply f p) (apply g a) v r (y, q, q') fa h x =
      told_both (variables f) (variables p) (found f g) (found p a) x
      (told f g (y ∷ v) r q (record { wanted = fa.takes.0 ∷ fa.wanted; sort = fa.sort; takes = fa.takes.1; written = fa.written.0 }) (function_follows f p g a h) x)
      (told p a [] y q' (record { wanted = []; sort = fa.takes.0; takes = fa.takes.2; written = fa.written.1 }) (argument_follows f p g a h) x)

  covered : (p a : Term) (v : List ℕ) (r : ℕ) (m : Variable → Option Term) → Takes sig p v r → IsFine sig a → Follows p a → ((x : Variable) → Has (variables p) x → IsTold m x) → substitute (suggested m) p ≡ a
  covered (variable s n) a v r m _ fa h t =
      let w = t (s, n) (ap (λ b. b || false) (same_variable-refl (s, n))) in
      ap (λ o. unwrap_or o (variable s n)) w.is ∙ follower s n w.term a w.fine fa w.follows h
  covered (symbol c) (variable s n) v r m _ fa h t = absurd (no_variable s n (symbol c) fa.takes.0 fa.written (λ g. refl) h)
  covered (symbol c) (symbol d) v r m _ fa h t = sym (h (λ s n. k.some s) some_grounding)
  covered (symbol c) (apply g a) v r m _ fa h t = let e = h (λ s n. k.some s) some_grounding in absurd (cc)
  covered (apply f p) (variable s n) v r m (y, q, _) fa h t = absurd (no_variable s n (apply f p) fa.takes.0 fa.written (λ g. head-substitute sig g f y r v q) h)
  covered (apply f p) (symbol c) v r m _ fa h t = let e = h (λ s n. k.some s) some_grounding in absurd (cc)
  covered (apply f p) (apply g a) v r m (y, q, q') fa h t =
      ap₂ apply
      (covered f g (y ∷ v) r m q (record { wanted = fa.takes.0 ∷ fa.wanted; sort = fa.sort; takes = fa.takes.1; written = fa.written.0 }) (function_follows f p g a h) (λ x i. t x (among-left x (variables f) (variables p) i)))
      (covered p a [] y m q' (record { wanted = []; sort = fa.takes.0; takes = fa.takes.2; written = fa.written.1 }) (argument_follows f p g a h) (λ x i. t x (among-right x (variables f) (variables p) i)))

  -- the same of rows
  abbrev pub RowFollows : List Term → List Term → Type 0
  RowFollows ps row = (g : Substitution) (h : IsGrounding sig g) → map (substitute g) row ≡ map (substitute (pick g h)) ps

  abbrev first_of : List Term → Term
  first_of [] = symbol 0
  first_of (t ∷ ts) = t

  abbrev rest_of : List Term → List Term
  rest_of [] = []
  rest_of (t ∷ ts) = ts

  told_in : (ps row : List Term) (ss : List ℕ) → HaveSorts sig ps ss → HaveSorts sig row ss → AreWrittenOut sig row → RowFollows ps row → (x : Variable) → Told (variables_of ps) (found_in ps row) x
  told_in [] row ss _ _ _ h x = inl (refl, refl)
  told_in (p ∷ ps) [] [] hp _ _ h x = absurd hp
  told_in (p ∷ ps) [] (s ∷ ss) _ hr _ h x = absurd hr
  told_in (p ∷ ps) (a ∷ row) [] hp _ _ h x = absurd hp
  told_in (p ∷ ps) (a ∷ row) (s ∷ ss) (hp, hps) (ha, has) (wa, ws) h x =
      told_both (variables p) (variables_of ps) (found p a) (found_in ps row) x
      (told p a [] s hp (record { wanted = []; sort = s; takes = ha; written = wa }) (λ g hg. ap first_of (h g hg)) x)
      (told_in ps row ss hps has ws (λ g hg. ap rest_of (h g hg)) x)

  covered_in : (ps row : List Term) (ss : List ℕ) (m : Variable → Option Term) → HaveSorts sig ps ss → HaveSorts sig row ss → AreWrittenOut sig row → RowFollows ps row → ((x : Variable) → Has (variables_of ps) x → IsTold m x) → row ≡ map (substitute (suggested m)) ps
  covered_in [] [] ss m _ _ _ h t = refl
  covered_in [] (a ∷ row) [] m _ hr _ h t = absurd hr
  covered_in [] (a ∷ row) (s ∷ ss) m hp _ _ h t = absurd hp
  covered_in (p ∷ ps) [] [] m hp _ _ h t = absurd hp
  covered_in (p ∷ ps) [] (s ∷ ss) m _ hr _ h t = absurd hr
  covered_in (p ∷ ps) (a ∷ row) [] m hp _ _ h t = absurd hp
  covered_in (p ∷ ps) (a ∷ row) (s ∷ ss) m (hp, hps) (ha, has) (wa, ws) h t =
      ap₂ (λ y ys. y ∷ ys)
      (sym (covered p a [] s m hp (record { wanted = []; sort = s; takes = ha; written = wa }) (λ g hg. ap first_of (h g hg)) (λ x i. t x (among-left x (variables p) (variables_of ps) i))))
      (covered_in ps row ss m hps has ws (λ g hg. ap rest_of (h g hg)) (λ x i. t x (among-right x (variables p) (variables_of ps) i)))

  told_sure : (xs : List Variable) (m : Variable → Option Term) (x : Variable) → Told xs m x → Has xs x → IsTold m x
  told_sure xs m x (inl (out, _)) i = absurd (true_false (sym i ∙ out))
  told_sure xs m x (inr t) i = t

  told_sorted : (xs : List Variable) (m : Variable → Option Term) (s n : ℕ) → s < length sig.sorts → Told xs m (s, n) → HasSort sig (suggested m s n) s
  told_sorted xs m s n lt (inl (_, none)) = subst (λ o. HasSort sig (unwrap_or o (variable s n)) s) (sym none) (lt, refl, refl)
  told_sorted xs m s n lt (inr t) =
      let g : Substitution = λ p q. k.some p in
      let u = pick g some_grounding in
      let hu = picked g some_grounding in
      let made : Takes sig (u s n) t.fine.wanted t.fine.sort = subst (λ y. Takes sig y t.fine.wanted t.fine.sort) (t.follows g some_grounding) (Takes-substitute sig g some_grounding.sorted t.term t.fine.wanted t.fine.sort t.fine.takes) in
      let both = one_sort sig (u s n) t.fine.wanted [] t.fine.sort s (hu.variable_free s n lt) made (hu.sorted s n lt) in
      subst (λ o. HasSort sig (unwrap_or o (variable s n)) s) (sym t.is) (subst (λ w. Takes sig t.term w s) both.0 (subst (λ r. Takes sig t.term t.fine.wanted r) both.1 t.fine.takes))

  -- a row that follows a pattern row is an instance of it
  pub instance_from_follows : (ps row : List Term) (ss : List ℕ) → HaveSorts sig ps ss → HaveSorts sig row ss → AreWrittenOut sig row → RowFollows ps row → (f : Substitution) × IsSorted sig f × (row ≡ map (substitute f) ps)
  instance_from_follows ps row ss hp hr w h =
      let m = found_in ps row in
      let all = told_in ps row ss hp hr w h in
      (suggested m, λ s n lt. told_sorted (variables_of ps) m s n lt (all (s, n)), covered_in ps row ss m hp hr w h (λ x i. told_sure (variables_of ps) m x (all x) i))

-- a row whose ground instances are all among a pattern row's is an instance of it
pub instance_from_ground : (sig : Signature) → Choices sig → (general special : List Term) (ss : List ℕ) → HaveSorts sig general ss → HaveSorts sig special ss → AreWrittenOut sig special → AllGroundInstancesIn sig special general → (f : Substitution) × IsSorted sig f × (special ≡ map (substitute f) general)
instance_from_ground sig k general special ss hg hs w all =
    let choice = λ (g : Substitution) (h : IsGrounding sig g). all (map (substitute g) special) (g, h, refl) in
    instance_from_follows sig k (λ g h. (choice g h).0) (λ g h. (choice g h).1) general special ss hg hs w (λ g h. (choice g h).2)
