-- Terms without variables are instances of their constructor over different variables.
use Rattle.std.proofs.Common.{◌≡◌, inl, inr, ℕ, zero, suc, ◌+◌, ◌<◌, length, ◌==◌, Bool, true, false, cond, List, [], ◌∷◌, ◌++◌, map, slice_get, Some, refl, ap, ap₂, sym, ◌∙◌, subst, arith, append_assoc, append-nil, eq-eqb}
use Rattle.std.specs.List.{AllByRecursion}
use Rattle.std.proofs.lemmas.Option.{none-some}
use Rattle.psg_terms.proofs.SortTests.{have-push}
use Rattle.psg_terms.proofs.Applied.{applied-substitute}
use Rattle.psg_terms.specs.Terms.{Term, variable, symbol, apply, applied}
use Rattle.psg_terms.specs.Signature.{Signature, Symbol, HasSort, HaveSorts, Takes, constructors_from, constructors_of}
use Rattle.psg_terms.specs.Instances.{Substitution, substitute, IsGround, IsGrounding}
use Rattle.psg_terms.specs.Sound.{IsSound}
use Rattle.psg_terms.proofs.Separate.{grounding}
use Rattle.psg_terms.proofs.SoundChoices.{choices}
use Rattle.psg_terms.proofs.OneConstant.{one_constant}
use Rattle.psg_terms.specs.Relations.{IsIn, first, later}
use Rattle.psg_completions.proofs.Override.{made_in, override, override_same, override_cases, override_grounding}
use Rattle.psg_grammar.specs.declared.types.Case.{Case}
use Rattle.psg_grammar.specs.declared.types.HoleRow.{HoleRow}
use Rattle.psg_completions.specs.Cases.{AreDifferent, IsOver, CasesFor, AreCases}
use Rattle.psg_grammar.specs.Legal.{IsOfTerm}

-- a term without variables as a constructor with arguments
record Spelled (sig : Signature) (v : Term) (wanted : List ℕ) (sort : ℕ) : Type 0 where
  number : ℕ
  made : Symbol
  found : slice_get sig.symbols number ≡ Some made
  makes : made.sort ≡ sort
  arguments : List Term
  is : v ≡ applied (symbol number) arguments
  sorts : List ℕ
  sorted : HaveSorts sig arguments sorts
  ground : AllByRecursion IsGround arguments
  takes : made.arguments ≡ sorts ++ wanted

applied_more : (t : Term) (xs : List Term) (a : Term) → apply (applied t xs) a ≡ applied t (xs ++ a ∷ [])
applied_more t [] a = refl
applied_more t (x ∷ xs) a = applied_more (apply t x) xs a

ground_more : (xs : List Term) (a : Term) → AllByRecursion IsGround xs → IsGround a
    → AllByRecursion IsGround (xs ++ a ∷ [])
ground_more [] a h p = (p, tt)
ground_more (x ∷ xs) a (q, h) p = (q, ground_more xs a h p)

spelled : (sig : Signature) (v : Term) (wanted : List ℕ) (sort : ℕ) → IsGround v → Takes sig v wanted sort
    → Spelled sig v wanted sort
spelled sig (variable s n) wanted sort g t = absurd g
spelled sig (symbol c) wanted sort g (k, found, takes, makes) =
    record {
      number = c;
      made = k;
      found = found;
      makes = makes;
      arguments = [];
      is = refl;
      sorts = [];
      sorted = tt;
      ground = tt;
      takes = takes;
    }
spelled sig (apply f a) wanted sort (gf, ga) (s, tf, ta) =
    let r = spelled sig f (s ∷ wanted) sort gf tf in
    record {
      number = r.number;
      made = r.made;
      found = r.found;
      makes = r.makes;
      arguments = r.arguments ++ a ∷ [];
      is = ap (λ t. apply t a) r.is ∙ applied_more (symbol r.number) r.arguments a;
      sorts = r.sorts ++ s ∷ [];
      sorted = have-push sig r.arguments r.sorts a s r.sorted ta;
      ground = ground_more r.arguments a r.ground ga;
      takes = r.takes ∙ sym (append_assoc r.sorts (s ∷ []) wanted);
    }

number_among : (n c sort : ℕ) (xs : List Symbol) (k : Symbol) → slice_get xs c ≡ Some k → k.sort ≡ sort
    → IsIn (n + c) (constructors_from n sort xs)
number_among n c sort [] k e s = absurd (none-some k e)
number_among n zero sort (x ∷ xs) k e s =
    let is : x ≡ k = (let q : Some x ≡ Some k = e in cc) in
    let t : (x.sort == sort) ≡ true = eq-eqb x.sort sort (ap (λ (y : Symbol). y.sort) is ∙ s) in
    let z : n ≡ n + 0 = omega arith in
    subst (λ b. IsIn (n + 0) (cond b (n ∷ constructors_from (n + 1) sort xs) (constructors_from (n + 1) sort xs)))
    (sym t) (subst (λ m. IsIn m (n ∷ constructors_from (n + 1) sort xs)) z first)
number_among n (suc c) sort (x ∷ xs) k e s =
    let rest : IsIn (n + 1 + c) (constructors_from (n + 1) sort xs) = number_among (n + 1) c sort xs k e s in
    let z : n + 1 + c ≡ n + suc c = omega arith in
    go (subst (λ m. IsIn m (constructors_from (n + 1) sort xs)) z rest) (x.sort == sort) where
      go : IsIn (n + suc c) (constructors_from (n + 1) sort xs) → (b : Bool)
          → IsIn (n + suc c) (cond b (n ∷ constructors_from (n + 1) sort xs) (constructors_from (n + 1) sort xs))
      go h true = later h
      go h false = h

number_here : (c sort : ℕ) (sig : Signature) (k : Symbol) → slice_get sig.symbols c ≡ Some k → k.sort ≡ sort
    → IsIn c (constructors_of sig sort)
number_here c sort sig k e s = let z : 0 + c ≡ c = omega arith in
    subst (λ m. IsIn m (constructors_of sig sort)) z (number_among 0 c sort sig.symbols k e s)

case_for : (sig : Signature) (c : ℕ) (cases : List Case) (cs : List ℕ) → IsIn c cs → CasesFor sig cases cs
    → (i : ℕ) × (one : Case) × (slice_get cases i ≡ Some one) × IsOver sig c one.term
case_for sig c [] (d ∷ cs) h k = absurd k
case_for sig c cases [] h k = elim h [ ]
case_for sig c (one ∷ cases) (d ∷ cs) first (o, k) = (0, one, refl, o)
case_for sig c (one ∷ cases) (d ∷ cs) (later h) (o, k) = let (i, r, at, over) = case_for sig c cases cs h k in
    (suc i, r, at, over)

-- a sort with a ground term is there
pub sort_in : (sig : Signature) → IsSound sig → (u : Term) (s : ℕ) → IsGround u → HasSort sig u s → s < length sig.sorts
sort_in sig sound u s g h = let r = spelled sig u [] s g h in
    subst (λ x. x < length sig.sorts) r.makes (made_in sig sig.symbols r.number r.made sound.closed r.found)

-- a constructor over terms is the instance of the constructor over what they are instances of
spelled_value : (f : Substitution) (n c : ℕ) (xs vs : List Term) (v term : Term) → v ≡ applied (symbol n) vs → n ≡ c
    → map (substitute f) xs ≡ vs → term ≡ applied (symbol c) xs → v ≡ substitute f term
spelled_value f n c xs vs v term is same made over =
    is ∙ ap₂ (λ k ys. applied (symbol k) ys) same (sym made) ∙ sym (applied-substitute f (symbol c) xs)
    ∙ ap (substitute f) (sym over)

module _ (sig : Signature) (sound : IsSound sig) where
  record Matched (args vs : List Term) : Type 0 where
    terms : Substitution
    ground : IsGrounding sig terms
    same : map (substitute terms) args ≡ vs

  untouched : (f : Substitution) (s n : ℕ) (u : Term) (args : List Term) (sorts : List ℕ) → AreDifferent sig args sorts
      → AllByRecursion (λ b. b ≡ variable s n → ⊥) args
      → map (substitute (override f s n u)) args ≡ map (substitute f) args
  untouched f s n u [] sorts d h = refl
  untouched f s n u (a ∷ args) [] d h = absurd d
  untouched f s n u (a ∷ args) (r ∷ sorts) (inl (c, only, is), d) (h, hs) =
      ap₂ (λ x xs. x ∷ xs) (ap (substitute (override f s n u)) is ∙ sym (ap (substitute f) is))
      (untouched f s n u args sorts d hs)
  untouched f s n u (a ∷ args) (r ∷ sorts) (inr (k, only, is, other), d) (h, hs) =
      ap₂ (λ x xs. x ∷ xs)
      (elim (override_cases f s n u r k) [
        | inl e ↦ absurd (h (is ∙ ap₂ variable (sym e.0) (sym e.1)))
        | inr e ↦ ap (substitute (override f s n u)) is ∙ e ∙ sym (ap (substitute f) is)
      ])
      (untouched f s n u args sorts d hs)

  matched : (args : List Term) (sorts : List ℕ) (vs : List Term) → AreDifferent sig args sorts → HaveSorts sig vs sorts
      → AllByRecursion IsGround vs → Matched args vs
  matched [] [] [] d h g =
      record { terms = λ s n. (choices sig sound).some s; ground = grounding sig (choices sig sound); same = refl }
  matched [] [] (v ∷ vs) d h g = absurd h
  matched [] (s ∷ sorts) vs d h g = absurd d
  matched (a ∷ args) [] vs d h g = absurd d
  matched (a ∷ args) (s ∷ sorts) [] d h g = absurd h
  matched (a ∷ args) (s ∷ sorts) (v ∷ vs) (inl (c, only, is), d) (p, h) (q, g) =
      let r = matched args sorts vs d h g in
      record {
        terms = r.terms;
        ground = r.ground;
        same =
            ap₂ (λ x xs. x ∷ xs) (ap (substitute r.terms) is
            ∙ sym (one_constant sig sound s c v (sort_in sig sound v s q p) only q p)) r.same;
      }
  matched (a ∷ args) (s ∷ sorts) (v ∷ vs) (inr (n, only, is, other), d) (p, h) (q, g) =
      let r = matched args sorts vs d h g in
      record {
        terms = override r.terms s n v;
        ground = override_grounding sig r.terms s n v r.ground q p;
        same =
            ap₂ (λ x xs. x ∷ xs) (ap (substitute (override r.terms s n v)) is ∙ override_same r.terms s n v)
            (untouched r.terms s n v args sorts d other ∙ r.same);
      }

  -- a term without variables is an instance of its constructor over different variables
  over_instance : (v : Term) (s : ℕ) (c : ℕ) (term : Term) (r : Spelled sig v [] s) → r.number ≡ c → IsOver sig c term
      → IsOfTerm sig term v
  over_instance v s c term r same over =
      let is : r.made ≡ over.made =
      (let q : Some r.made ≡ Some over.made = sym r.found ∙ ap (slice_get sig.symbols) same ∙ over.found in cc) in
      let sorts_are : over.made.arguments ≡ r.sorts = ap (λ (x : Symbol). x.arguments) (sym is) ∙ r.takes
      ∙ append-nil r.sorts in
      let m =
      matched over.arguments r.sorts r.arguments (subst (AreDifferent sig over.arguments) sorts_are over.different)
      r.sorted r.ground in (
        m.terms,
        m.ground,
        spelled_value m.terms r.number c over.arguments r.arguments v term r.is same m.same over.term_is,
      )

  -- the cases of a hole row miss no value of it
  pub split_of : (row : HoleRow) (v : Term) (sort : ℕ) → AreCases sig row → HasSort sig row.term sort
      → IsOfTerm sig row.term v → (c : ℕ) × (one : Case) × (slice_get row.cases c ≡ Some one) × IsOfTerm sig one.term v
  split_of row v sort (inl (one, cases, is)) h (f, ground, e) =
      (0, one, ap (λ xs. slice_get xs 0) cases, (f, ground, e ∙ ap (substitute f) (sym is)))
  split_of row v sort (inr (s, n, is, cases)) h (f, ground, e) =
      let (lt, none, same) = subst (λ t. HasSort sig t sort) is h in
      let v_is : v ≡ f s n = e ∙ ap (substitute f) is in
      let r =
      spelled sig v [] s (subst IsGround (sym v_is) (ground.variable_free s n lt))
      (subst (λ t. HasSort sig t s) (sym v_is) (ground.sorted s n lt)) in
      let (i, one, at, over) =
      case_for sig r.number row.cases (constructors_of sig s) (number_here r.number s sig r.made r.found r.makes)
      cases in
      (i, one, at, over_instance v s r.number one.term r refl over)

  -- a term of the sort is an instance of one of these terms, where each constructor has one
  pub some_over : (v : Term) (s : ℕ) → IsGround v → HasSort sig v s → (Chosen : Term → Type 0)
      → ((c : ℕ) → IsIn c (constructors_of sig s) → (t : Term) × Chosen t × IsOver sig c t)
      → (t : Term) × Chosen t × IsOfTerm sig t v
  some_over v s g h Chosen each =
      let r = spelled sig v [] s g h in
      let (t, chosen, over) = each r.number (number_here r.number s sig r.made r.found r.makes) in
      (t, chosen, over_instance v s r.number t r refl over)
