-- Equations without a reason have a common solution, so a right verdict without rows is on equations that have none.
use Rattle.std.proofs.Common.{◌≡◌, inl, inr, ℕ, suc, Bool, true, false, cond, List, [], ◌∷◌, ◌++◌, map, length, Option, Some, None, slice_get, refl, ap, ap₂, sym, ◌∙◌, subst, append_assoc, append-nil, arith}
use Rattle.std.specs.List.{AllByRecursion}
use Rattle.psg_terms.specs.Terms.{Term, variable, symbol, apply, applied}
use Rattle.psg_terms.specs.Signature.{HasSort, HaveSorts, Signature, Symbol, Takes}
use Rattle.psg_terms.specs.Instances.{IsSorted, Substitution, substitute}
use Rattle.psg_terms.specs.Canonical.{IsWrittenOut, Variable, variables, is_noted, same_variable}
use Rattle.psg_terms.proofs.Applied.{applied-substitute}
use Rattle.psg_terms.proofs.InstanceLaws.{Takes-substitute, after, map-substitute-after, substitute-after}
use Rattle.psg_terms.proofs.Lists.{each_append, each_push}
use Rattle.psg_terms.proofs.SortTests.{have-push}
use Rattle.psg_terms.proofs.Variables.{same_variable-refl, variable_cases}
use Rattle.psg_relation.specs.Heads.{head_of}
use Rattle.psg_explain.specs.declared.given.Case.{Case}
use Rattle.psg_explain.specs.declared.refutation.Reason.{Reason}
use Rattle.psg_explain.specs.declared.refutation.Verdict.{Verdict}
use Rattle.psg_explain.specs.Equations.{arguments_of, Equation, put_for, rewritten, term_of}
use Rattle.psg_explain.specs.Reached.{IsUnsolved}
use Rattle.psg_explain.specs.Fitted.{put_all}
use Rattle.psg_explain.specs.Solutions.{Binding, Solving}
use Rattle.psg_explain.specs.Solutions.{solved as by_solved, equal as by_equal, parts as by_parts, clash as by_clash, circle_left as by_circle_left, circle_right as by_circle_right, bound_left as by_bound_left, bound_right as by_bound_right}
use Rattle.psg_explain.specs.Reasons.{IsReason, solved, equal, parts, clash, circle_left, circle_right, bound_left, bound_right, paired}
use Rattle.psg_explain.specs.Refutations.{AreRight}
use Rattle.psg_explain.specs.Verdicts.{IsRight}
use Rattle.psg_explain.proofs.PuttingLaws.{put-none}
use Rattle.psg_explain.proofs.Rewriting.{IsOfClaimed, Solves, SolvesAll, right_verdict}

-- ---- after a binding

itself : (x : Variable) (t : Term) → substitute (put_for x t) (term_of x) ≡ t
itself x t = ap (λ (b : Bool). cond b t (variable x.0 x.1)) (same_variable-refl x)

-- what solves the others with the variable replaced solves them, and the binding
module _ (g : Substitution) (x : Variable) (t : Term) where
  through : (u : Term) → substitute (after g (put_for x t)) u ≡ substitute g (substitute (put_for x t) u)
  through u = substitute-after g (put_for x t) u

  others : (es : List Equation) → SolvesAll g (map (rewritten x t) es) → SolvesAll (after g (put_for x t)) es
  others [] h = tt
  others (e ∷ es) (one, h) = (through e.0 ∙ one ∙ sym (through e.1), others es h)

  bound : is_noted x (variables t) ≡ false → substitute (after g (put_for x t)) (term_of x) ≡ substitute (after g (put_for x t)) t
  bound none = through (term_of x) ∙ ap (substitute g) (itself x t ∙ sym (put-none x t t none)) ∙ sym (through t)

-- ---- equal constructors

-- terms of one constructor whose arguments are equal
all_paired : (f : Substitution) (xs ys : List Term) → length xs ≡ length ys → SolvesAll f (paired xs ys) → map (substitute f) xs ≡ map (substitute f) ys
all_paired f [] [] e h = refl
all_paired f [] (y ∷ ys) e h = absurd (omega (arith, e))
all_paired f (x ∷ xs) [] e h = absurd (omega (arith, e))
all_paired f (x ∷ xs) (y ∷ ys) e (one, h) = ap₂ (λ (a : Term) (l : List Term). a ∷ l) one (all_paired f xs ys (omega (arith, e)) h)

front_solved : (f : Substitution) (xs ys : List Equation) → SolvesAll f (xs ++ ys) → SolvesAll f xs × SolvesAll f ys
front_solved f [] ys h = (tt, h)
front_solved f (x ∷ xs) ys (one, h) = let (a, b) = front_solved f xs ys h in ((one, a), b)

-- ---- sorts

append_same : (front : List ℕ) (s : ℕ) (ss : List ℕ) → front ++ s ∷ ss ≡ (front ++ s ∷ []) ++ ss
append_same front s ss = sym (append_assoc front (s ∷ []) ss)

snoc_same : (t : Term) (xs : List Term) (a : Term) → applied t (xs ++ a ∷ []) ≡ apply (applied t xs) a
snoc_same t [] a = refl
snoc_same t (x ∷ xs) a = snoc_same (apply t x) xs a

-- a term is its constructor with its arguments
rebuilt : (t : Term) (c : ℕ) → head_of t ≡ Some c → t ≡ applied (symbol c) (arguments_of t)
rebuilt (variable s n) c e = absurd (cc)
rebuilt (symbol d) c e = let same : d ≡ c = cc in ap symbol same
rebuilt (apply g a) c e = ap (λ (h : Term). apply h a) (rebuilt g c e) ∙ sym (snoc_same (symbol c) (arguments_of g) a)

module _ (sig : Signature) where
  -- both sides are of one sort
  abbrev pub IsEven : Equation → Type 0
  IsEven e = (s : ℕ) × HasSort sig e.0 s × HasSort sig e.1 s

  abbrev pub AreEven : List Equation → Type 0
  AreEven es = AllByRecursion IsEven es

  -- the arguments are of the sorts that the constructor takes first
  record HasFirst (t : Term) (c : ℕ) (ss : List ℕ) : Type 0 where
    known : Symbol
    at : slice_get sig.symbols c ≡ Some known
    front : List ℕ
    all : known.arguments ≡ front ++ ss
    sorted : HaveSorts sig (arguments_of t) front

  first_of_term : (t : Term) (c : ℕ) (ss : List ℕ) (s : ℕ) → head_of t ≡ Some c → Takes sig t ss s → HasFirst t c ss
  first_of_term (variable p n) c ss s e h = absurd (cc)
  first_of_term (symbol d) c ss s e (y, at, f, g) =
      let same : d ≡ c = cc in
      record { known = y; at = subst (λ (m : ℕ). slice_get sig.symbols m ≡ Some y) same at; front = []; all = f; sorted = tt }
  first_of_term (apply g a) c ss s e (first, tf, ta) =
      let h = first_of_term g c (first ∷ ss) s e tf in
      record { known = h.known; at = h.at; front = h.front ++ first ∷ []; all = h.all ∙ append_same h.front first ss; sorted = have-push sig (arguments_of g) h.front a first h.sorted ta }

  same_known : (a b : Symbol) → Some a ≡ Some b → a ≡ b
  same_known a b e = cc

  pairs_even : (xs ys : List Term) (ss : List ℕ) → HaveSorts sig xs ss → HaveSorts sig ys ss → AreEven (paired xs ys) × (length xs ≡ length ys)
  pairs_even [] [] [] h k = (tt, refl)
  pairs_even [] [] (s ∷ ss) h k = absurd h
  pairs_even [] (y ∷ ys) [] h k = absurd k
  pairs_even [] (y ∷ ys) (s ∷ ss) h k = absurd h
  pairs_even (x ∷ xs) ys [] h k = absurd h
  pairs_even (x ∷ xs) [] (s ∷ ss) h k = absurd k
  pairs_even (x ∷ xs) (y ∷ ys) (s ∷ ss) (p, h) (q, k) = let (a, b) = pairs_even xs ys ss h k in (((s, p, q), a), ap suc b)

  -- the arguments of terms of one sort and constructor are as many, of the same sorts
  arguments_even : (a b : Term) (c s : ℕ) → head_of a ≡ Some c → head_of b ≡ Some c → HasSort sig a s → HasSort sig b s → AreEven (paired (arguments_of a) (arguments_of b)) × (length (arguments_of a) ≡ length (arguments_of b))
  arguments_even a b c s h k p q =
      let one = first_of_term a c [] s h p in
      let two = first_of_term b c [] s k q in
      let same : one.known ≡ two.known = same_known one.known two.known (sym one.at ∙ two.at) in
      let fronts : one.front ≡ two.front = sym (append-nil one.front) ∙ sym one.all ∙ ap (λ (y : Symbol). y.arguments) same ∙ two.all ∙ append-nil two.front in
      pairs_even (arguments_of a) (arguments_of b) two.front (subst (HaveSorts sig (arguments_of a)) fronts one.sorted) two.sorted

  -- a term of the variable's sort put for the variable
  pub put_takes : (x : Variable) (t u : Term) (ss : List ℕ) (s : ℕ) → HasSort sig t x.0 → Takes sig u ss s → Takes sig (substitute (put_for x t) u) ss s
  put_takes x t (variable p n) ss s h (lt, none, same) = elim (variable_cases x (p, n)) [
    | inl d ↦ (
        let test : same_variable x (p, n) ≡ true = ap (λ (y : Variable). same_variable x y) (sym d) ∙ same_variable-refl x in
        let sort : x.0 ≡ s = ap (λ (y : Variable). y.0) d ∙ same in
        subst (λ (b : Bool). Takes sig (cond b t (variable p n)) ss s) (sym test) (subst (λ (l : List ℕ). Takes sig t l s) (sym none) (subst (HasSort sig t) sort h))
        )
    | inr d ↦ subst (λ (b : Bool). Takes sig (cond b t (variable p n)) ss s) (sym d) (lt, none, same)
  ]
  put_takes x t (symbol c) ss s h k = k
  put_takes x t (apply f a) ss s h (first, p, q) = (first, put_takes x t f (first ∷ ss) s h p, put_takes x t a [] first h q)

  put_even : (x : Variable) (t : Term) (es : List Equation) → HasSort sig t x.0 → AreEven es → AreEven (map (rewritten x t) es)
  put_even x t [] h k = tt
  put_even x t (e ∷ es) h ((s, p, q), k) = ((s, put_takes x t e.0 [] s h p, put_takes x t e.1 [] s h q), put_even x t es h k)

  -- ---- a common solution

  abbrev HasSolution : List Equation → Type 0
  HasSolution es = (f : Substitution) × SolvesAll f es

  one_term : (f : Substitution) (a b : Term) (c s : ℕ) → head_of a ≡ Some c → head_of b ≡ Some c → HasSort sig a s → HasSort sig b s → SolvesAll f (paired (arguments_of a) (arguments_of b)) → substitute f a ≡ substitute f b
  one_term f a b c s h k p q solves =
      let (even, many) = arguments_even a b c s h k p q in
      let whole = λ (t : Term) (e : head_of t ≡ Some c). ap (substitute f) (rebuilt t c e) ∙ applied-substitute f (symbol c) (arguments_of t) in
      whole a h ∙ ap (applied (symbol c)) (all_paired f (arguments_of a) (arguments_of b) many solves) ∙ sym (whole b k)

  pub solvable : (es : List Equation) (r : Option Reason) → r ≡ None → IsReason es r → AreEven es → HasSolution es
  solvable es r none solved even = (variable, tt)
  solvable es r none (equal {a} {rest} p) (one, even) = let (f, h) = solvable rest r none p even in (f, (refl, h))
  solvable es r none (parts {a} {b} {rest} c differ (h, k) p) ((s, ha, hb), even) =
      let (pairs, many) = arguments_even a b c s h k ha hb in
      let (f, all) = solvable (paired (arguments_of a) (arguments_of b) ++ rest) r none p (each_append IsEven (paired (arguments_of a) (arguments_of b)) rest pairs even) in
      let (front, back) = front_solved f (paired (arguments_of a) (arguments_of b)) rest all in
      (f, (one_term f a b c s h k ha hb front, back))
  solvable es r none (clash h) even = absurd (cc)
  solvable es r none (circle_left x h) even = absurd (cc)
  solvable es r none (circle_right x h) even = absurd (cc)
  solvable es r none (bound_left {b} {rest} x out p) ((s, (lt, args, same), hb), even) =
      let sorted : HasSort sig b x.0 = subst (HasSort sig b) (sym same) hb in
      let (g, h) = solvable (map (rewritten x b) rest) r none p (put_even x b rest sorted even) in
      (after g (put_for x b), (bound g x b out, others g x b rest h))
  solvable es r none (bound_right {a} {rest} x c k out p) ((s, ha, (lt, args, same)), even) =
      let sorted : HasSort sig a x.0 = subst (HasSort sig a) (sym same) ha in
      let (g, h) = solvable (map (rewritten x a) rest) r none p (put_even x a rest sorted even) in
      (after g (put_for x a), (sym (bound g x a out), others g x a rest h))

  -- ---- verdicts without rows

  none_claimed : (columns : List Term) → IsOfClaimed [] columns → ⊥
  none_claimed columns h = elim h.there [ ]

  pub unsolved : (given : List Equation) (columns : List Term) (v : Verdict) → IsRight [] given columns v → AreEven given → IsReason given None → ⊥
  unsolved given columns v right even reason =
      let (f, h) = solvable given None refl reason even in
      none_claimed (map (substitute f) columns) (right_verdict f [] given columns v right h)

  -- the equations of each case are of one sort, and each has a subject
  abbrev pub IsFair : Case → Type 0
  IsFair c = AreEven c.given × (length c.subjects ≡ length c.given)

  pub all_unsolved : (cases : List Case) (verdicts : List Verdict) → AreRight [] cases verdicts → AllByRecursion IsFair cases → AllByRecursion IsUnsolved cases
  all_unsolved [] verdicts right fair = tt
  all_unsolved (c ∷ cases) [] right fair = absurd right
  all_unsolved (c ∷ cases) (v ∷ verdicts) (is, right) ((even, told), fair) =
      (record { unsolved = unsolved c.given c.columns v is even; told = told }, all_unsolved cases verdicts right fair)

-- ---- the bindings as a substitution

-- the terms of the bindings for their variables, one after the other
abbrev pub by_all : List Binding → Substitution
by_all [] = variable
by_all (b ∷ bs) = after (by_all bs) (put_for b.0 b.1)

nothing_put : (t : Term) → substitute variable t ≡ t
nothing_put (variable s n) = refl
nothing_put (symbol c) = refl
nothing_put (apply f a) = ap₂ apply (nothing_put f) (nothing_put a)

nothing_put_all : (ts : List Term) → map (substitute variable) ts ≡ ts
nothing_put_all [] = refl
nothing_put_all (t ∷ ts) = ap₂ (λ (x : Term) (l : List Term). x ∷ l) (nothing_put t) (nothing_put_all ts)

pub put_all_by : (bs : List Binding) (columns : List Term) → put_all bs columns ≡ map (substitute (by_all bs)) columns
put_all_by [] columns = sym (nothing_put_all columns)
put_all_by (b ∷ bs) columns = put_all_by bs (map (substitute (put_for b.0 b.1)) columns) ∙ sym (map-substitute-after (by_all bs) (put_for b.0 b.1) columns)

module _ (sig : Signature) where
  -- of one sort, and with one-constant sorts written out
  abbrev pub IsEvenly : Equation → Type 0
  IsEvenly e = IsEven sig e × IsWrittenOut sig e.0 × IsWrittenOut sig e.1

  abbrev pub AreEvenly : List Equation → Type 0
  AreEvenly es = AllByRecursion IsEvenly es

  just_even : (es : List Equation) → AreEvenly es → AreEven sig es
  just_even [] h = tt
  just_even (e ∷ es) (one, h) = (one.0, just_even es h)

  put_written : (x : Variable) (t u : Term) → IsWrittenOut sig t → IsWrittenOut sig u → IsWrittenOut sig (substitute (put_for x t) u)
  put_written x t (variable s n) h k = elim (same_variable x (s, n)) as (λ b. IsWrittenOut sig (cond b t (variable s n))) [ true ↦ h | false ↦ k ]
  put_written x t (symbol c) h k = tt
  put_written x t (apply f a) h (p, q) = (put_written x t f h p, put_written x t a h q)

  put_evenly : (x : Variable) (t : Term) (es : List Equation) → HasSort sig t x.0 → IsWrittenOut sig t → AreEvenly es → AreEvenly (map (rewritten x t) es)
  put_evenly x t [] h w k = tt
  put_evenly x t (e ∷ es) h w (((s, p, q), a, b), k) =
      (((s, put_takes sig x t e.0 [] s h p, put_takes sig x t e.1 [] s h q), put_written x t e.0 w a, put_written x t e.1 w b), put_evenly x t es h w k)

  written_arguments : (t : Term) → IsWrittenOut sig t → AllByRecursion (IsWrittenOut sig) (arguments_of t)
  written_arguments (variable s n) h = tt
  written_arguments (symbol c) h = tt
  written_arguments (apply f a) (p, q) = each_push (IsWrittenOut sig) (arguments_of f) a (written_arguments f p) q

  pairs_evenly : (xs ys : List Term) → AreEven sig (paired xs ys) → AllByRecursion (IsWrittenOut sig) xs → AllByRecursion (IsWrittenOut sig) ys → AreEvenly (paired xs ys)
  pairs_evenly [] ys h p q = tt
  pairs_evenly (x ∷ xs) [] h p q = tt
  pairs_evenly (x ∷ xs) (y ∷ ys) (one, h) (a, p) (b, q) = ((one, a, b), pairs_evenly xs ys h p q)

  -- what the bindings of solved equations do
  pub record IsSolver (es : List Equation) (bs : List Binding) : Type 0 where
    pub solves : SolvesAll (by_all bs) es
    pub sorted : IsSorted sig (by_all bs)
    pub written : (t : Term) → IsWrittenOut sig t → IsWrittenOut sig (substitute (by_all bs) t)

  none_sorted : IsSorted sig variable
  none_sorted s n lt = (lt, refl, refl)

  put_sorted : (x : Variable) (t : Term) → HasSort sig t x.0 → IsSorted sig (put_for x t)
  put_sorted x t h s n lt = put_takes sig x t (variable s n) [] s h (lt, refl, refl)

  solver_more : (x : Variable) (t : Term) (bs : List Binding) (e : Equation) (es : List Equation) → HasSort sig t x.0 → IsWrittenOut sig t → is_noted x (variables t) ≡ false → IsSolver (map (rewritten x t) es) bs
      → (substitute (by_all ((x, t) ∷ bs)) (term_of x) ≡ substitute (by_all ((x, t) ∷ bs)) t → Solves (by_all ((x, t) ∷ bs)) e) → IsSolver (e ∷ es) ((x, t) ∷ bs)
  solver_more x t bs e es h w out k one = record {
    solves = (one (bound (by_all bs) x t out), others (by_all bs) x t es k.solves);
    sorted = λ s n lt. Takes-substitute sig (by_all bs) k.sorted (put_for x t s n) [] s (put_sorted x t h s n lt);
    written = λ u v. subst (IsWrittenOut sig) (sym (through (by_all bs) x t u)) (k.written (substitute (put_for x t) u) (put_written x t u w v));
  }

  pub solver : (es : List Equation) (bs : List Binding) (r : Option Reason) → r ≡ None → Solving es bs r → AreEvenly es → IsSolver es bs
  solver es bs r none by_solved even = record { solves = tt; sorted = none_sorted; written = λ t h. subst (IsWrittenOut sig) (sym (nothing_put t)) h }
  solver es bs r none (by_equal {a} {rest} p) (one, even) = let k = solver rest bs r none p even in record { solves = (refl, k.solves); sorted = k.sorted; written = k.written }
  solver es bs r none (by_parts {a} {b} {rest} c differ (h, k) p) (((s, ha, hb), wa, wb), even) =
      let (pairs, many) = arguments_even sig a b c s h k ha hb in
      let evenly = pairs_evenly (arguments_of a) (arguments_of b) pairs (written_arguments a wa) (written_arguments b wb) in
      let q = solver (paired (arguments_of a) (arguments_of b) ++ rest) bs r none p (each_append IsEvenly (paired (arguments_of a) (arguments_of b)) rest evenly even) in
      let (front, back) = front_solved (by_all bs) (paired (arguments_of a) (arguments_of b)) rest q.solves in
      record { solves = (one_term sig (by_all bs) a b c s h k ha hb front, back); sorted = q.sorted; written = q.written }
  solver es bs r none (by_clash h) even = absurd (cc)
  solver es bs r none (by_circle_left x h) even = absurd (cc)
  solver es bs r none (by_circle_right x h) even = absurd (cc)
  solver es bs r none (by_bound_left {b} {rest} {bs = cs} x out p) (((s, (lt, args, same), hb), wa, wb), even) =
      let sorted : HasSort sig b x.0 = subst (HasSort sig b) (sym same) hb in
      solver_more x b cs (term_of x, b) rest sorted wb out (solver (map (rewritten x b) rest) cs r none p (put_evenly x b rest sorted wb even)) (λ e. e)
  solver es bs r none (by_bound_right {a} {rest} {bs = cs} x c k out p) (((s, ha, (lt, args, same)), wa, wb), even) =
      let sorted : HasSort sig a x.0 = subst (HasSort sig a) (sym same) ha in
      solver_more x a cs (a, term_of x) rest sorted wa out (solver (map (rewritten x a) rest) cs r none p (put_evenly x a rest sorted wa even)) (λ e. sym e)
