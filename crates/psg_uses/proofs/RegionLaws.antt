-- Declarations in the regions around a name, one region after the other.
use Rattle.std.proofs.Common.{◌≡◌, ℕ, zero, suc, ◌+◌, ◌<◌, ◌≤◌, ◌==◌, Bool, true, false, cond, List, [], ◌∷◌, ◌++◌, length, take, drop, get_or, Option, Some, None, refl, ap, sym, ◌∙◌, subst, arith, append-nil}
use Rattle.std.proofs.lemmas.List.{drop_all}
use Rattle.psg_terms.proofs.Lists.{drop_item, suc_is_not_zero}
use Rattle.psg_grammar.specs.declared.types.Definition.{Definition}
use Rattle.psg_grammar.specs.Fragments.{Fragment}
use Rattle.psg_grammar.specs.Paths.{Path, node_at}
use Rattle.psg_uses.specs.declared.names.Written.{Written}
use Rattle.psg_uses.specs.Naming.{names_below}
use Rattle.psg_uses.specs.Regions.{begins_region, begins_with, declared_of, declared_on, declared_with, first_other, first_region, is_other, is_root, ways_from}

pub root_is : (p : Path) → (length p == 0) ≡ is_root p
root_is [] = refl
root_is (k ∷ p) = suc_is_not_zero (length p)

-- ---- the names of a region

module _ (def : Definition) (f : Fragment) (path : Path) where
  pub none_declared : node_at f path ≡ None → [] ≡ declared_of def f path
  none_declared at = sym (ap (λ o. cond (begins_with def path o) (declared_with def path o) []) at)

  region_there : (g : Fragment) (b : Bool) → node_at f path ≡ Some g → b ≡ begins_with def path (Some g)
      → declared_of def f path ≡ cond b (names_below def true false path 0 g) []
  region_there g b at is =
      ap (λ o. cond (begins_with def path o) (declared_with def path o) []) at
      ∙ sym (ap (λ c. cond c (names_below def true false path 0 g) []) is)

  pub not_begun : (g : Fragment) (b : Bool) → node_at f path ≡ Some g → b ≡ begins_with def path (Some g) → b ≡ false
      → [] ≡ declared_of def f path
  not_begun g b at is off = sym (region_there g b at is ∙ ap (λ c. cond c (names_below def true false path 0 g) []) off)

  pub begun : (g : Fragment) (b : Bool) → node_at f path ≡ Some g → b ≡ begins_with def path (Some g) → b ≡ true
      → names_below def true false path 0 g ≡ declared_of def f path
  begun g b at is so = sym (region_there g b at is ∙ ap (λ c. cond c (names_below def true false path 0 g) []) so)

  pub begins_there : (g : Fragment) (b : Bool) → node_at f path ≡ Some g → b ≡ begins_with def path (Some g)
      → b ≡ begins_region def f path
  begins_there g b at is = is ∙ sym (ap (begins_with def path) at)

  pub begins_not : node_at f path ≡ None → false ≡ begins_region def f path
  begins_not at = sym (ap (begins_with def path) at)

-- ---- the first other declaration

found_by : (b : Bool) (x : Written) (one two : Option Written) (d : Written) → cond b (Some x) one ≡ Some d
    → (one ≡ Some d → two ≡ Some d) → cond b (Some x) two ≡ Some d
found_by true x one two d e h = e
found_by false x one two d e h = h e

passed_by : (b : Bool) (x : Written) (one two rest : Option Written) → cond b (Some x) one ≡ None
    → (one ≡ None → two ≡ rest) → cond b (Some x) two ≡ rest
passed_by true x one two rest e h = absurd (let y : Some x ≡ None = e in cc)
passed_by false x one two rest e h = h e

module _ (w : Written) where
  pub other_next : (all : List Written) (i : ℕ) (d : Written) (b : Bool) → i < length all → d ≡ get_or all i d → b ≡ is_other w d → b ≡ false
      → first_other w (drop i all) ≡ first_other w all → first_other w (drop (i + 1) all) ≡ first_other w all
  other_next all i d b lt at is off h =
      sym (ap (λ c. cond c (Some d) (first_other w (drop (i + 1) all))) (sym is ∙ off))
      ∙ sym (ap (first_other w) (drop_item all i d lt at)) ∙ h

  pub other_here : (all : List Written) (i : ℕ) (d : Written) (b : Bool) → i < length all → d ≡ get_or all i d → b ≡ is_other w d → b ≡ true
      → first_other w (drop i all) ≡ first_other w all → Some d ≡ first_other w all
  other_here all i d b lt at is on h =
      sym (ap (λ c. cond c (Some d) (first_other w (drop (i + 1) all))) (sym is ∙ on))
      ∙ sym (ap (first_other w) (drop_item all i d lt at)) ∙ h

  pub other_none : (all : List Written) (i : ℕ) → length all ≤ i → first_other w (drop i all) ≡ first_other w all
      → None ≡ first_other w all
  other_none all i le h = sym (ap (first_other w) (drop_all i all le)) ∙ h

  pub first_here : (xs ys : List Written) (d : Written) → first_other w xs ≡ Some d → first_other w (xs ++ ys) ≡ Some d
  first_here [] ys d e = absurd (let x : None ≡ Some d = e in cc)
  first_here (x ∷ xs) ys d e =
      found_by (is_other w x) x (first_other w xs) (first_other w (xs ++ ys)) d e
      (λ f. first_here xs ys d f)

  pub first_after : (xs ys : List Written) → first_other w xs ≡ None → first_other w (xs ++ ys) ≡ first_other w ys
  first_after [] ys e = refl
  first_after (x ∷ xs) ys e =
      passed_by (is_other w x) x (first_other w xs) (first_other w (xs ++ ys))
      (first_other w ys) e (λ f. first_after xs ys f)

-- ---- one step fewer

module _ (def : Definition) (f : Fragment) (path : Path) (w : Written) where
  abbrev pub from_here : ℕ → Option Written
  from_here n = first_other w (declared_on def f (ways_from path n))

  pub found_at : (n : ℕ) (d : Written) → first_other w (declared_of def f (take n path)) ≡ Some d → from_here n ≡ Some d
  found_at zero d e = first_here w (declared_of def f []) [] d e
  found_at (suc n) d e =
      first_here w (declared_of def f (take (suc n) path)) (declared_on def f (ways_from path n)) d e

  pub none_at : (n : ℕ) → first_other w (declared_of def f (take (suc n) path)) ≡ None → from_here (suc n) ≡ from_here n
  none_at n e = first_after w (declared_of def f (take (suc n) path)) (declared_on def f (ways_from path n)) e

  -- none is declared there, so the search goes on with one step fewer
  pub none_less : (n m : ℕ) → m + 1 ≡ n → first_other w (declared_of def f (take n path)) ≡ None → from_here m ≡ from_here n
  none_less n m e h =
      let next : suc m ≡ n = omega (arith, e) in
      sym (none_at m (subst (λ k. first_other w (declared_of def f (take k path)) ≡ None) (sym next) h)) ∙ ap from_here next

  pub at_last : (n : ℕ) → n ≡ 0 → first_other w (declared_of def f []) ≡ from_here n
  at_last n e = ap (first_other w) (sym (append-nil (declared_of def f []))) ∙ sym (ap from_here e)

module _ (def : Definition) (f : Fragment) (path : Path) where
  abbrev pub region_from : ℕ → Path
  region_from n = first_region def f (ways_from path n)

  pub begun_at : (n : ℕ) → begins_region def f (take (suc n) path) ≡ true → region_from (suc n) ≡ take (suc n) path
  begun_at n e = ap (λ b. cond b (take (suc n) path) (region_from n)) e

  pub not_begun_at : (n : ℕ) → begins_region def f (take (suc n) path) ≡ false → region_from (suc n) ≡ region_from n
  not_begun_at n e = ap (λ b. cond b (take (suc n) path) (region_from n)) e

  same_ways : (b : Bool) (q : Path) → cond b q q ≡ q
  same_ways true q = refl
  same_ways false q = refl

  pub at_top : region_from zero ≡ []
  at_top = same_ways (begins_region def f []) []

  pub begun_here : (n : ℕ) (b : Bool) → 0 < n → b ≡ begins_region def f (take n path) → b ≡ true → take n path ≡ region_from n
  begun_here zero b lt is so = absurd (omega (arith, lt))
  begun_here (suc n) b lt is so = sym (begun_at n (sym is ∙ so))

  pub not_begun_here : (n m : ℕ) (b : Bool) → m + 1 ≡ n → b ≡ begins_region def f (take n path) → b ≡ false
      → region_from m ≡ region_from n
  not_begun_here n m b e is off =
      let next : suc m ≡ n = omega (arith, e) in
      sym (not_begun_at m (subst (λ k. begins_region def f (take k path) ≡ false) (sym next) (sym is ∙ off)))
      ∙ ap region_from next

  pub at_root : (n : ℕ) → n ≡ 0 → take n path ≡ region_from n
  at_root n e = ap (λ k. take k path) e ∙ sym at_top ∙ sym (ap region_from e)
