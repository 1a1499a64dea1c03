-- The names `it` that declare, and their spaces.
use Rattle.std.proofs.Common.{◌≡◌, ℕ, zero, suc, ◌+◌, ◌==◌, ◌&&◌, not, Bool, true, false, cond, List, [], ◌∷◌, ◌++◌, Option, Some, None, refl, sym, ap, ap₂, ◌∙◌, subst, arith, eqb-true, eq-eqb, true≢false, bytes_eq}
use Rattle.std.specs.Prelude.{◌↔◌, codes, count_by}
use Rattle.std.specs.List.{AllByRecursion}
use Rattle.std.proofs.lemmas.Bool.{and_parts}
use Rattle.std.proofs.lemmas.List.Recursion.{is_count_by}
use Rattle.std.specs.Cmp.{both_ways}
use Rattle.psg_terms.proofs.DeclareLaws.{bytes_eq-same, bytes_eq-refl}
use Rattle.psg_grammar.specs.declared.types.Item.{Item}
use Rattle.psg_grammar.specs.declared.types.Item.TheVariants as items
use Rattle.psg_grammar.specs.declared.types.Definition.{Definition}
use Rattle.psg_grammar.specs.Fragments.{Fragment, hole, ending, cell, operator, with_child, with_name, with_number, with_text, anything, observed}
use Rattle.psg_grammar.specs.Keys.{Key, name_in, space_of}
use Rattle.psg_grammar.specs.Lookups.{is_declares, is_scope, key_at, key_of, next_item}
use Rattle.psg_grammar.specs.Regions.{declared_in, declared_inside}
use Rattle.psg_completions.specs.Counts.{count, one_if, tally}
use Rattle.psg_completions.specs.General.{it}
use Rattle.psg_specimen.specs.declared.its.Spot.{Spot}
use Rattle.psg_specimen.specs.Declares.{KeepsIt}
use Rattle.psg_specimen.specs.Its.{declare_in, declares_there, its_in, its_inside, one_it, spot_by, spot_or}
use Rattle.psg_covering.proofs.Firsts.{At}

tally_append : (p : Key → Bool) (xs ys : List Key) → tally p (xs ++ ys) ≡ tally p xs + tally p ys
tally_append p [] ys = omega arith
tally_append p (x ∷ xs) ys = let d : tally p (xs ++ ys) ≡ tally p xs + tally p ys = tally_append p xs ys in omega (arith, d)

count_append : (m : Key) (xs ys : List Key) → count m (xs ++ ys) ≡ count m xs + count m ys
count_append m xs ys = tally_append (λ x. bytes_eq x m) xs ys

declare_append : (s : ℕ) (xs ys : List Spot) → declare_in s (xs ++ ys) ≡ declare_in s xs + declare_in s ys
declare_append s [] ys = omega arith
declare_append s (x ∷ xs) ys = let d : declare_in s (xs ++ ys) ≡ declare_in s xs + declare_in s ys = declare_append s xs ys in omega (arith, d)

-- two keys are equal where their spaces and names are
keys_by : (t s : ℕ) (n m : List ℕ) → bytes_eq (t ∷ n) (s ∷ m) ≡ ((t == s) && bytes_eq n m)
keys_by t s n m = both_ways (bytes_eq (t ∷ n) (s ∷ m)) ((t == s) && bytes_eq n m) (
    λ h. let e = bytes_eq-same (t ∷ n) (s ∷ m) h in
    ap₂ (λ a b. a && b) (eq-eqb t s (ap space_of e)) (subst (λ k. bytes_eq n k ≡ true) (ap name_in e) (bytes_eq-refl n))
    ) (
    λ h. let both = and_parts (t == s) (bytes_eq n m) h in
    subst (λ k. bytes_eq (t ∷ n) k ≡ true) (ap₂ (λ a b. a ∷ b) (eqb-true t s both.0) (bytes_eq-same n m both.1)) (bytes_eq-refl (t ∷ n))
    )

declare_cond : (s : ℕ) (e : Bool) (x : Spot) → declare_in s (cond e (x ∷ []) []) ≡ cond e (cond (x.declares && (x.space == s)) 1 0 + 0) 0
declare_cond s true x = refl
declare_cond s false x = refl

declaring_bools : (b e q : Bool) → cond e (cond ((b && true) && q) 1 0 + 0) 0 ≡ cond b (one_if (q && e) + 0) 0
declaring_bools true true true = refl
declaring_bools true true false = refl
declaring_bools true false true = refl
declaring_bools true false false = refl
declaring_bools false true true = refl
declaring_bools false true false = refl
declaring_bools false false true = refl
declaring_bools false false false = refl

silent_bools : (b e q : Bool) → cond e (cond ((b && false) && q) 1 0 + 0) 0 ≡ cond b 0 0
silent_bools true true true = refl
silent_bools true true false = refl
silent_bools true false true = refl
silent_bools true false false = refl
silent_bools false true true = refl
silent_bools false true false = refl
silent_bools false false true = refl
silent_bools false false false = refl

module _ (s : ℕ) where
  silent : (b : Bool) (t : ℕ) (n : List ℕ) → declare_in s (one_it b (spot_by t false) n) ≡ cond b 0 0
  silent b t n = declare_cond s (bytes_eq n (codes "it")) (spot_by t (b && false)) ∙ silent_bools b (bytes_eq n (codes "it")) (t == s)

  loud : (b : Bool) (t : ℕ) (n : List ℕ) → declare_in s (one_it b (spot_by t true) n) ≡ cond b (count (it s) ((t ∷ n) ∷ [])) 0
  loud b t n = declare_cond s (bytes_eq n (codes "it")) (spot_by t (b && true)) ∙ declaring_bools b (bytes_eq n (codes "it")) (t == s)
      ∙ ap (λ z. cond b (one_if z + 0) 0) (sym (keys_by t s n (codes "it")))

  named : (b : Bool) (i : Option Item) (n : List ℕ) → declare_in s (one_it b (spot_or i) n) ≡ cond b (count (it s) (cond (is_declares i) (key_of i n ∷ []) [])) 0
  named b None n = silent b 0 n
  named b (Some (items.Refers t)) n = silent b t n
  named b (Some (items.Declares t)) n = loud b t n
  named b (Some (items.Slot k)) n = silent b 0 n
  named b (Some (items.Word w)) n = silent b 0 n
  named b (Some items.Number) n = silent b 0 n
  named b (Some items.Text) n = silent b 0 n
  named b (Some items.Space) n = silent b 0 n
  named b (Some items.Tight) n = silent b 0 n
  named b (Some items.Line) n = silent b 0 n
  named b (Some items.In) n = silent b 0 n
  named b (Some items.Out) n = silent b 0 n

  none_of : (b : Bool) → ◌≡◌ {A = ℕ} 0 (cond b 0 0)
  none_of true = refl
  none_of false = refl

  child_first : (b scope : Bool) (e r : List Key) → cond (b && not scope) (count (it s) e) 0 + cond b (count (it s) r) 0 ≡ cond b (count (it s) (cond scope [] e ++ r)) 0
  child_first true true e r = omega arith
  child_first true false e r = sym (count_append (it s) e r)
  child_first false true e r = refl
  child_first false false e r = refl

  child_last : (b scope : Bool) (f t : List Key) → cond b (count (it s) f) 0 + cond (b && not scope) (count (it s) t) 0 ≡ cond b (count (it s) (f ++ cond scope [] t)) 0
  child_last true true f t = sym (count_append (it s) f [])
  child_last true false f t = sym (count_append (it s) f t)
  child_last false true f t = refl
  child_last false false f t = refl

  name_last : (b : Bool) (f n : List Key) → cond b (count (it s) f) 0 + cond b (count (it s) n) 0 ≡ cond b (count (it s) (f ++ n)) 0
  name_last true f n = sym (count_append (it s) f n)
  name_last false f n = refl

  module _ (def : Definition) where
    counted : (f : Fragment) (b : Bool) → declare_in s (its_inside def b f) ≡ cond b (count (it s) (declared_inside def f)) 0
    counted (hole p) b = none_of b
    counted (ending l u) b = none_of b
    counted (cell l e r) b =
        declare_append s (its_inside def (b && not (is_scope def e)) e) (its_inside def b r)
        ∙ ap₂ (λ m n. m + n) (counted e (b && not (is_scope def e))) (counted r b) ∙ child_first b (is_scope def e) (declared_inside def e) (declared_inside def r)
    counted (operator o) b = none_of b
    counted (with_child f t) b =
        declare_append s (its_inside def b f) (its_inside def (b && not (is_scope def t)) t)
        ∙ ap₂ (λ m n. m + n) (counted f b) (counted t (b && not (is_scope def t))) ∙ child_last b (is_scope def t) (declared_inside def f) (declared_inside def t)
    counted (with_name f n) b =
        declare_append s (its_inside def b f) (one_it b (spot_or (next_item def f)) n)
        ∙ ap₂ (λ m k. m + k) (counted f b) (named b (next_item def f) n)
        ∙ name_last b (declared_inside def f) (cond (is_declares (next_item def f)) (key_at def f n ∷ []) [])
    counted (with_number f n) b = counted f b
    counted (with_text f t) b = counted f b
    counted anything b = none_of b
    counted (observed f) b = counted f b

    by_scope : (scope : Bool) (d : List Key) → cond (not scope) (count (it s) d) 0 ≡ count (it s) (cond scope [] d)
    by_scope true d = refl
    by_scope false d = refl

    -- how often `it` is declared in the region
    pub declared_its : (f : Fragment) → declare_in s (its_in def true f) ≡ count (it s) (declared_in def f)
    declared_its f = counted f (not (is_scope def f)) ∙ by_scope (is_scope def f) (declared_inside def f)

-- ---- the spaces

abbrev AllOf : ℕ → List Spot → Type 0
AllOf s xs = AllByRecursion (λ (x : Spot). x.space ≡ s) xs

all_append : (s : ℕ) (xs ys : List Spot) → AllOf s xs → AllOf s ys → AllOf s (xs ++ ys)
all_append s [] ys h k = k
all_append s (x ∷ xs) ys h k = (h.0, all_append s xs ys h.1 k)

append_all : (s : ℕ) (xs ys : List Spot) → AllOf s (xs ++ ys) → AllOf s xs × AllOf s ys
append_all s [] ys h = (tt, h)
append_all s (x ∷ xs) ys h = let k = append_all s xs ys h.1 in ((h.0, k.0), k.1)

space_by : (i : Option Item) (n : List ℕ) → space_of (key_of i n) ≡ (spot_or i).space
space_by None n = refl
space_by (Some (items.Refers t)) n = refl
space_by (Some (items.Declares t)) n = refl
space_by (Some (items.Slot k)) n = refl
space_by (Some (items.Word w)) n = refl
space_by (Some items.Number) n = refl
space_by (Some items.Text) n = refl
space_by (Some items.Space) n = refl
space_by (Some items.Tight) n = refl
space_by (Some items.Line) n = refl
space_by (Some items.In) n = refl
space_by (Some items.Out) n = refl

one_all : (s : ℕ) (e : Bool) (x : Spot) → (e ≡ true → x.space ≡ s) ↔ AllOf s (cond e (x ∷ []) [])
one_all s true x = (λ h. (h refl, tt), λ a e. a.0)
one_all s false x = (λ h. tt, λ a e. absurd (true≢false (sym e)))

module _ (def : Definition) (s : ℕ) where
  name_all : (f : Fragment) (b : Bool) (n : List ℕ) → (n ≡ codes "it" → space_of (key_at def f n) ≡ s) ↔ AllOf s (one_it b (spot_or (next_item def f)) n)
  name_all f b n =
      let both = one_all s (bytes_eq n (codes "it")) (spot_by (spot_or (next_item def f)).space (b && (spot_or (next_item def f)).declares)) in
      let own = space_by (next_item def f) n in (
        λ h. both.0 (λ e. sym own ∙ h (bytes_eq-same n (codes "it") e)),
        λ a e. own ∙ both.1 a (subst (λ k. bytes_eq n k ≡ true) e (bytes_eq-refl n)),
      )

  all_of : (f : Fragment) (b : Bool) → KeepsIt def s f → AllOf s (its_inside def b f)
  all_of (hole p) b h = tt
  all_of (ending l u) b h = tt
  all_of (cell l e r) b h = all_append s (its_inside def (b && not (is_scope def e)) e) (its_inside def b r) (all_of e (b && not (is_scope def e)) h.0) (all_of r b h.1)
  all_of (operator o) b h = tt
  all_of (with_child f t) b h = all_append s (its_inside def b f) (its_inside def (b && not (is_scope def t)) t) (all_of f b h.0) (all_of t (b && not (is_scope def t)) h.1)
  all_of (with_name f n) b h = all_append s (its_inside def b f) (one_it b (spot_or (next_item def f)) n) (all_of f b h.0) ((name_all f b n).0 h.1)
  all_of (with_number f n) b h = all_of f b h
  all_of (with_text f t) b h = all_of f b h
  all_of anything b h = tt
  all_of (observed f) b h = all_of f b h

  of_all : (f : Fragment) (b : Bool) → AllOf s (its_inside def b f) → KeepsIt def s f
  of_all (hole p) b a = tt
  of_all (ending l u) b a = tt
  of_all (cell l e r) b a =
      let k = append_all s (its_inside def (b && not (is_scope def e)) e) (its_inside def b r) a in (of_all e (b && not (is_scope def e)) k.0, of_all r b k.1)
  of_all (operator o) b a = tt
  of_all (with_child f t) b a =
      let k = append_all s (its_inside def b f) (its_inside def (b && not (is_scope def t)) t) a in (of_all f b k.0, of_all t (b && not (is_scope def t)) k.1)
  of_all (with_name f n) b a =
      let k = append_all s (its_inside def b f) (one_it b (spot_or (next_item def f)) n) a in (of_all f b k.0, (name_all f b n).1 k.1)
  of_all (with_number f n) b a = of_all f b a
  of_all (with_text f t) b a = of_all f b a
  of_all anything b a = tt
  of_all (observed f) b a = of_all f b a

  pub keeps_its : (f : Fragment) → AllOf s (its_in def true f) ↔ KeepsIt def s f
  keeps_its f = (λ a. of_all f (not (is_scope def f)) a, λ h. all_of f (not (is_scope def f)) h)

-- ---- counting and testing lists of them

pub counted_by : (s : ℕ) (xs : List Spot) → count_by (declares_there s) xs ≡ declare_in s xs
counted_by s xs = sym (is_count_by (declare_in s) (declares_there s) refl (λ x ys. step (declares_there s x) (declare_in s ys)) xs) where
  step : (b : Bool) (n : ℕ) → cond b 1 0 + n ≡ cond b (1 + n) n
  step true n = refl
  step false n = omega arith

pub all_at : (s : ℕ) (xs : List Spot) → ((m : ℕ) → At xs (λ (x : Spot). x.space ≡ s) m) → AllOf s xs
all_at s [] h = tt
all_at s (x ∷ xs) h = (h zero x refl, all_at s xs (λ m. h (suc m)))
