-- A rule gives one equation, or none, and so do rules one after the other.
use Rattle.std.proofs.Common.{◌≡◌, ◌↔◌, inl, inr, ℕ, zero, suc, ◌+◌, ◌≤◌, true, false, List, [], ◌∷◌, ◌++◌, map, take, drop, length, Option, Some, None, MatchOption, refl, ap, ap₂, sym, ◌∙◌, subst, slice_get, nat_eq, not, arith}
use Rattle.std.proofs.lemmas.Bool.Decides.{eqb_tells}
use Rattle.std.proofs.lemmas.List.{take_all}
use Rattle.psg_terms.specs.Terms.{Term, variable, symbol, apply, applied}
use Rattle.psg_terms.specs.Instances.{substitute}
use Rattle.psg_terms.specs.Canonical.{Variable, variables, is_noted}
use Rattle.psg_terms.proofs.Lists.{drop_there, eqb-refl}
use Rattle.psg_relation.specs.Heads.{head_of}
use Rattle.psg_explain.specs.declared.refutation.Rule.{Rule}
use Rattle.psg_explain.specs.declared.refutation.Rule.TheVariants as rules
use Rattle.psg_explain.specs.Equations.{arguments_of, Derives, Equation, GiveAll, Gives, IsClash, IsPart, put_for, rewritten, StandsInside, term_of}
use Rattle.psg_explain.specs.Verdicts.{Rewrites}
use Rattle.psg_explain.proofs.SolvingLaws.{arguments_con, gives_more, head_con, stands}

pub some_is : {X : Type 0} {a b : X} → Some a ≡ Some b → a ≡ b
some_is e = cc

once_at : (all : List Equation) (n : ℕ) (a b : Equation) → slice_get all n ≡ Some a → slice_get all n ≡ Some b → a ≡ b
once_at all n a b p q = some_is (sym p ∙ q)

sides : (a b : Equation) → a.0 ≡ b.0 → a.1 ≡ b.1 → a ≡ b
sides a b p q = ap₂ made p q
  where
    made : Term → Term → Equation
    made u v = (u, v)

turned_once : (a b : Equation) → ◌≡◌ {A = Equation} (a.1, a.0) (b.1, b.0) → a ≡ b
turned_once a b e = sides a b (ap (λ (p : Equation). p.1) e) (ap (λ (p : Equation). p.0) e)

pub same_number : (x y : Variable) → term_of x ≡ term_of y → x ≡ y
same_number (s, n) (p, q) d = let a : s ≡ p = cc in let b : n ≡ q = cc in ap₂ pair a b
  where
    pair : ℕ → ℕ → Variable
    pair u v = (u, v)

same_binding : (x y : Variable) (t u : Term) → ◌≡◌ {A = Equation} (term_of x, t) (term_of y, u) → (whole : Equation) → rewritten x t whole ≡ rewritten y u whole
same_binding x y t u e whole = ap₂ (λ (z : Variable) (w : Term). rewritten z w whole) (same_number x y (ap (λ (p : Equation). p.0) e)) (ap (λ (p : Equation). p.1) e)

part_once : (whole other : Equation) (k : ℕ) (e f : Equation) → whole ≡ other → slice_get (arguments_of whole.0) k ≡ Some e.0 → slice_get (arguments_of whole.1) k ≡ Some e.1
    → slice_get (arguments_of other.0) k ≡ Some f.0 → slice_get (arguments_of other.1) k ≡ Some f.1 → e ≡ f
part_once whole other k e f same a b c d =
    sides e f (some_is (sym a ∙ ap (λ (w : Equation). slice_get (arguments_of w.0) k) same ∙ c)) (some_is (sym b ∙ ap (λ (w : Equation). slice_get (arguments_of w.1) k) same ∙ d))

pub gives_once : (given before : List Equation) (r : Rule) (e f : Equation) → Gives given before r e → Gives given before r f → e ≡ f
gives_once given before (rules.Given i) e f p q = once_at given i e f p q
gives_once given before (rules.Part n k) e f (w, at, (c, head, a, b)) (v, there, (d, other, g, h)) = part_once w v k e f (once_at before n w v at there) a b g h
gives_once given before (rules.Flip n) e f p q = turned_once e f (once_at before n (e.1, e.0) (f.1, f.0) p q)
gives_once given before (rules.Replace n m) e f (w, x, t, at, differ, b, is) (v, y, u, there, other, c, are) =
    is ∙ ap (rewritten x t) (once_at before n w v at there) ∙ same_binding x y t u (once_at before m (term_of x, t) (term_of y, u) b c) v ∙ sym are

pub give_once : (given before : List Equation) (rs : List Rule) (a b : List Equation) → GiveAll given before rs a → GiveAll given before rs b → a ≡ b
give_once given before [] a b p q = p ∙ sym q
give_once given before (r ∷ rs) a b (e, g, more) (f, h, other) =
    give_once given (before ++ e ∷ []) rs a b more (subst (λ z. GiveAll given (before ++ z ∷ []) rs b) (sym (gives_once given before r e f g h)) other)

-- the rules up to one, it, and those behind
pub record GivesUpTo (given before : List Equation) (rs : List Rule) (r : Rule) (more : List Rule) (all : List Equation) : Type 0 where
  pub mid : List Equation
  pub front : GiveAll given before rs mid
  pub equation : Equation
  pub gives : Gives given mid r equation
  pub back : GiveAll given (mid ++ equation ∷ []) more all

pub give_split : (given before : List Equation) (rs : List Rule) (r : Rule) (more : List Rule) (all : List Equation) → GiveAll given before (rs ++ r ∷ more) all → GivesUpTo given before rs r more all
give_split given before [] r more all (e, g, h) = record { mid = before; front = refl; equation = e; gives = g; back = h }
give_split given before (x ∷ rs) r more all (e, g, h) =
    let s = give_split given (before ++ e ∷ []) rs r more all h in
    record { mid = s.mid; front = (e, g, s.front); equation = s.equation; gives = s.gives; back = s.back }

take_split : (rs : List Rule) (i : ℕ) (r : Rule) → slice_get rs i ≡ Some r → rs ≡ take i rs ++ r ∷ drop (i + 1) rs
take_split rs i r at = sym (take_drop i rs) ∙ ap (λ l. take i rs ++ l) (drop_there rs i r at)
  where
    take_drop : (n : ℕ) (xs : List Rule) → take n xs ++ drop n xs ≡ xs
    take_drop zero xs = refl
    take_drop (suc n) [] = refl
    take_drop (suc n) (x ∷ xs) = ap (λ l. x ∷ l) (take_drop n xs)

-- where a rule gives nothing, the rules give nothing
pub none_given : (given : List Equation) (rs : List Rule) (i : ℕ) (r : Rule) (now all : List Equation) → slice_get rs i ≡ Some r → Derives given (take i rs) now → ((e : Equation) → Gives given now r e → ⊥)
    → Derives given rs all → ⊥
none_given given rs i r now all at front none whole =
    let s = give_split given [] (take i rs) r (drop (i + 1) rs) all (subst (λ l. Derives given l all) (take_split rs i r at) whole) in
    none s.equation (subst (λ l. Gives given l r s.equation) (give_once given [] (take i rs) s.mid now s.front front) s.gives)

-- one rule more gives one equation more
pub derives_next : (given : List Equation) (rs : List Rule) (i : ℕ) (r : Rule) (now new : List Equation) (e : Equation) → slice_get rs i ≡ Some r → Derives given (take i rs) now → Gives given now r e
    → new ≡ now ++ e ∷ [] → Derives given (take (i + 1) rs) new
derives_next given rs i r now new e at front g is =
    subst (λ l. Derives given l new) (sym (ap (λ m. take m rs) one_more ∙ take_one rs i at)) (subst (Derives given (take i rs ++ r ∷ [])) (sym is) (gives_more given [] (take i rs) now r e front g))
  where
    one_more : i + 1 ≡ suc i
    one_more = omega arith

    take_one : (xs : List Rule) (n : ℕ) → slice_get xs n ≡ Some r → take (suc n) xs ≡ take n xs ++ r ∷ []
    take_one [] n h = absurd (cc)
    take_one (x ∷ xs) zero h = ap (λ y. y ∷ []) (some_is h)
    take_one (x ∷ xs) (suc n) h = ap (λ l. x ∷ l) (take_one xs n h)

pub derives_end : (given : List Equation) (rs : List Rule) (i : ℕ) (now : List Equation) → length rs ≤ i → Derives given (take i rs) now → Derives given rs now
derives_end given rs i now h d = subst (λ l. Derives given l now) (take_all i rs h) d

-- ---- one rule

pub gives_of : (given before now : List Equation) (r : Rule) (o : Option Equation) (e : Equation) → before ≡ now → o ≡ Some e
    → MatchOption o ((f : Equation) → Gives given before r f → ⊥) (λ f. Gives given before r f) → Gives given now r e
gives_of given before now r o e same is h =
    subst (λ l. Gives given l r e) same (subst (λ (q : Option Equation). MatchOption q ((f : Equation) → Gives given before r f → ⊥) (λ f. Gives given before r f)) is h)

pub none_of : (given before now : List Equation) (r : Rule) (o : Option Equation) → before ≡ now → o ≡ None
    → MatchOption o ((f : Equation) → Gives given before r f → ⊥) (λ f. Gives given before r f) → (e : Equation) → Gives given now r e → ⊥
none_of given before now r o same is h e g =
    subst (λ (q : Option Equation). MatchOption q ((f : Equation) → Gives given before r f → ⊥) (λ f. Gives given before r f)) is h e (subst (λ l. Gives given l r e) (sym same) g)

pub con_no_variable : (t : Term) (c : ℕ) (row : List Term) → t ≡ applied (symbol c) row → (s n : ℕ) → t ≡ variable s n → ⊥
con_no_variable t c row e s n d = let h : None ≡ Some c = sym (ap head_of d) ∙ head_con t c row e in absurd (cc)

pub part_heads : (w : Equation) (c d : ℕ) (xs ys : List Term) → w.0 ≡ applied (symbol c) xs → w.1 ≡ applied (symbol d) ys → (k : ℕ) (e : Equation) → IsPart w k e → c ≡ d
part_heads w c d xs ys p q k e (h, (left, right), a, b) = some_is (sym (head_con w.0 c xs p) ∙ left ∙ sym right ∙ head_con w.1 d ys q)

pub no_left_part : (w : Equation) (c : ℕ) (xs : List Term) → w.0 ≡ applied (symbol c) xs → (k : ℕ) → slice_get xs k ≡ None → (e : Equation) → IsPart w k e → ⊥
no_left_part w c xs p k none e (h, heads, a, b) = let d : None ≡ Some e.0 = sym none ∙ ap (λ l. slice_get l k) (sym (arguments_con w.0 c xs p)) ∙ a in absurd (cc)

pub no_right_part : (w : Equation) (c : ℕ) (xs : List Term) → w.1 ≡ applied (symbol c) xs → (k : ℕ) → slice_get xs k ≡ None → (e : Equation) → IsPart w k e → ⊥
no_right_part w c xs p k none e (h, heads, a, b) = let d : None ≡ Some e.1 = sym none ∙ ap (λ l. slice_get l k) (sym (arguments_con w.1 c xs p)) ∙ b in absurd (cc)

pub is_part : (w : Equation) (c d : ℕ) (xs ys : List Term) → w.0 ≡ applied (symbol c) xs → w.1 ≡ applied (symbol d) ys → c ≡ d → (k : ℕ) (one two : Term)
    → slice_get xs k ≡ Some one → slice_get ys k ≡ Some two → IsPart w k (one, two)
is_part w c d xs ys p q same k one two a b = (
  c,
  (head_con w.0 c xs p, head_con w.1 d ys q ∙ ap Some (sym same)),
  ap (λ l. slice_get l k) (arguments_con w.0 c xs p) ∙ a,
  ap (λ l. slice_get l k) (arguments_con w.1 d ys q) ∙ b,
)

module _ (given before : List Equation) (r : Rule) where
  pub found_part : (n k : ℕ) → r ≡ rules.Part n k → (w : Equation) → slice_get before n ≡ Some w → (o : Option Equation)
      → MatchOption o ((e : Equation) → IsPart w k e → ⊥) (λ e. IsPart w k e) → MatchOption o ((e : Equation) → Gives given before r e → ⊥) (λ e. Gives given before r e)
  found_part n k is w at None h = λ e g. h e (of e (subst (λ q. Gives given before q e) is g))
    where
      of : (e : Equation) → Gives given before (rules.Part n k) e → IsPart w k e
      of e (v, there, part) = subst (λ (z : Equation). IsPart z k e) (once_at before n v w there at) part
  found_part n k is w at (Some e) h = subst (λ q. Gives given before q e) (sym is) (w, at, h)

  pub no_part : (n k : ℕ) → r ≡ rules.Part n k → slice_get before n ≡ None → (e : Equation) → Gives given before r e → ⊥
  no_part n k is none e g = of (subst (λ q. Gives given before q e) is g)
    where
      of : Gives given before (rules.Part n k) e → ⊥
      of (v, there, part) = let d : None ≡ Some v = sym none ∙ there in absurd (cc)

  pub found_flip : (n : ℕ) → r ≡ rules.Flip n → (w : Equation) → slice_get before n ≡ Some w → (one two : Term) → one ≡ w.1 → two ≡ w.0 → Gives given before r (one, two)
  found_flip n is w at one two p q = subst (λ z. Gives given before z (one, two)) (sym is) (at ∙ ap Some (sides w (two, one) (sym q) (sym p)))

  pub no_flip : (n : ℕ) → r ≡ rules.Flip n → slice_get before n ≡ None → (e : Equation) → Gives given before r e → ⊥
  no_flip n is none e g =
      let h : slice_get before n ≡ Some (e.1, e.0) = subst (λ q. Gives given before q e) is g in
      let turned : Equation = (e.1, e.0) in
      let d : None ≡ Some turned = sym none ∙ h in
      absurd (cc)

  pub found_put : (n m : ℕ) → r ≡ rules.Replace n m → (n ≡ m → ⊥) → (w b : Equation) → slice_get before n ≡ Some w → slice_get before m ≡ Some b → (x : Variable) → b.0 ≡ term_of x
      → (e : Equation) → e ≡ rewritten x b.1 w → Gives given before r e
  found_put n m is differ w b at there x of e made =
      subst (λ z. Gives given before z e) (sym is) (w, x, b.1, at, differ, there ∙ ap Some (sides b (term_of x, b.1) of refl), made)

-- ---- clashes and circles

pub nat_differ : (c d : ℕ) → not (nat_eq c d) ≡ true → c ≡ d → ⊥
nat_differ c d h e =
    let same : nat_eq c d ≡ true = ap (λ n. nat_eq c n) (sym e) ∙ eqb-refl c in
    let f : false ≡ true = ap not (sym same) ∙ h in
    absurd (cc)

pub nat_not : (c d : ℕ) → (c ≡ d → ⊥) → not (nat_eq c d) ≡ true
nat_not c d h = elim (eqb_tells c d) [
  | inl (told, same) ↦ absurd (h same)
  | inr (told, other) ↦ ap not told
]

pub says_clash : (w : Equation) (c d : ℕ) (xs ys : List Term) → w.0 ≡ applied (symbol c) xs → w.1 ≡ applied (symbol d) ys → (c ≡ d → ⊥) → IsClash w
says_clash w c d xs ys p q differ = (c, d, head_con w.0 c xs p, head_con w.1 d ys q, differ)

pub clash_says : (w : Equation) (c d : ℕ) (xs ys : List Term) → w.0 ≡ applied (symbol c) xs → w.1 ≡ applied (symbol d) ys → IsClash w → c ≡ d → ⊥
clash_says w c d xs ys p q (h, k, left, right, differ) same =
    differ (some_is (sym left ∙ head_con w.0 c xs p) ∙ same ∙ some_is (sym (head_con w.1 d ys q) ∙ right))

pub stands_con : (x : Variable) (t : Term) (c : ℕ) (row : List Term) → t ≡ applied (symbol c) row → is_noted x (variables t) ≡ true → StandsInside x t
stands_con x t c row e h = stands x t h (λ d. con_no_variable t c row e x.0 x.1 (sym d))

inside_noted : (x : Variable) (t : Term) → StandsInside x t → is_noted x (variables t) ≡ true
inside_noted x (variable s n) h = absurd h
inside_noted x (symbol c) h = absurd h
inside_noted x (apply f a) h = h

pub noted_inside : (x y : Variable) (one t : Term) → one ≡ term_of x → one ≡ term_of y → StandsInside y t → is_noted x (variables t) ≡ true
noted_inside x y one t p q h = inside_noted x t (subst (λ z. StandsInside z t) (same_number y x (sym q ∙ p)) h)

-- ---- columns that are rewritten

drop_all : (n : ℕ) (xs : List ℕ) → length xs ≤ n → drop n xs ≡ []
drop_all zero [] h = refl
drop_all zero (x ∷ xs) h = absurd (omega (arith, h))
drop_all (suc n) [] h = refl
drop_all (suc n) (x ∷ xs) h = drop_all n xs (omega (arith, h))

pub rewrites_end : (all : List Equation) (bindings : List ℕ) (i : ℕ) (now : List Term) → length bindings ≤ i → Rewrites all (drop i bindings) now now
rewrites_end all bindings i now h = subst (λ l. Rewrites all l now now) (sym (drop_all i bindings h)) refl

pub rewrites_next : (all : List Equation) (bindings : List ℕ) (i n : ℕ) (now new : List Term) (x : Variable) (b : Equation) → slice_get bindings i ≡ Some n → slice_get all n ≡ Some b → b.0 ≡ term_of x
    → new ≡ map (substitute (put_for x b.1)) now → (made : List Term) → Rewrites all (drop (i + 1) bindings) new made ↔ Rewrites all (drop i bindings) now made
rewrites_next all bindings i n now new x b here at of is made = subst (λ l. Rewrites all (drop (i + 1) bindings) new made ↔ Rewrites all l now made) (sym (drop_there bindings i n here)) (
  (λ h. (x, b.1, at ∙ ap Some (sides b (term_of x, b.1) of refl), subst (λ l. Rewrites all (drop (i + 1) bindings) l made) is h)),
  back,
)
  where
    back : Rewrites all (n ∷ drop (i + 1) bindings) now made → Rewrites all (drop (i + 1) bindings) new made
    back (y, u, there, h) =
        let e : b ≡ (term_of y, u) = once_at all n b (term_of y, u) at there in
        let same : x ≡ y = same_number x y (sym of ∙ ap (λ (p : Equation). p.0) e) in
        let by : b.1 ≡ u = ap (λ (p : Equation). p.1) e in
        subst (λ l. Rewrites all (drop (i + 1) bindings) l made) (sym (is ∙ ap₂ (λ (z : Variable) (w : Term). map (substitute (put_for z w)) now) same by)) h

pub none_there : (all : List Equation) (bindings : List ℕ) (i n : ℕ) (now made : List Term) → slice_get bindings i ≡ Some n → slice_get all n ≡ None → Rewrites all (drop i bindings) now made → ⊥
none_there all bindings i n now made here none h = of (subst (λ l. Rewrites all l now made) (drop_there bindings i n here) h)
  where
    of : Rewrites all (n ∷ drop (i + 1) bindings) now made → ⊥
    of (y, u, there, more) =
        let pair : Equation = (term_of y, u) in
        let d : None ≡ Some pair = sym none ∙ there in
        absurd (cc)

pub no_binding : (all : List Equation) (bindings : List ℕ) (i n : ℕ) (now made : List Term) (b : Equation) → slice_get bindings i ≡ Some n → slice_get all n ≡ Some b
    → ((s k : ℕ) → b.0 ≡ variable s k → ⊥) → Rewrites all (drop i bindings) now made → ⊥
no_binding all bindings i n now made b here at none h = of (subst (λ l. Rewrites all l now made) (drop_there bindings i n here) h)
  where
    of : Rewrites all (n ∷ drop (i + 1) bindings) now made → ⊥
    of (y, u, there, more) = none y.0 y.1 (ap (λ (p : Equation). p.0) (once_at all n b (term_of y, u) at there))
