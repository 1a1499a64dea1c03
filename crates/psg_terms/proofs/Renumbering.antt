-- A renumbered row has the same ground instances, and is canonical when it is numbered from 1.
use Rattle.std.proofs.Common.{◌≡◌, ℕ, ◌<◌, ◌≤◌, ◌+◌, ◌-◌, ◌==◌, ◌||◌, true, false, cond, if◌then◌else◌, zero, suc, List, [], ◌∷◌, ◌++◌, map, refl, ap, ap₂, sym, ◌∙◌, length, subst, inl, inr, Some, None, arith}
use Rattle.std.proofs.lemmas.Bool.Decides.{nat_tests}
use Rattle.std.proofs.lemmas.Bool.{cases_Bool}
use Rattle.psg_terms.proofs.Knowing.{place-within}
use Rattle.psg_terms.specs.Terms.{Term, variable, symbol, apply}
use Rattle.psg_terms.specs.Signature.{Signature, HasSort, HaveSorts, only_constructor}
use Rattle.psg_terms.specs.Instances.{Substitution, substitute, IsSorted, IsGrounding, AllGroundInstancesIn}
use Rattle.psg_terms.specs.Canonical.{Variable, same_variable, variables, variables_of, is_noted, noted, noted_all, first_occurrences, IsNumberedFrom, IsWrittenOut, AreWrittenOut, IsCanonical}
use Rattle.psg_terms.specs.Sound.{IsSound}
use Rattle.psg_terms.specs.Renaming.{place, opens, open_first, written, numbering, Renumbered}
use Rattle.psg_terms.proofs.Variables.{same_variable-refl, same_variable-true, same_variable-sym, true_false}
use Rattle.psg_terms.proofs.InstanceLaws.{after, map-substitute-after, Takes-substitute, instance-ground, grounding-after}
use Rattle.psg_terms.proofs.Covers.{among-append}
use Rattle.psg_terms.proofs.OneConstant.{one_constant}
use Rattle.psg_terms.proofs.RenamingLaws.{IsAmong, among-noted_all, opens-append}
use Rattle.psg_terms.proofs.Unique.{Each, each-front, each-both, map-append, IsRenaming, noted_all-renamed, IsOfSort, all_of_sort}

-- a row of terms of their sorts stays one
pub HaveSorts-substitute : (sig : Signature) (f : Substitution) → IsSorted sig f → (row : List Term) (ss : List ℕ) → HaveSorts sig row ss → HaveSorts sig (map (substitute f) row) ss
HaveSorts-substitute sig f h [] [] p = tt
HaveSorts-substitute sig f h [] (s ∷ ss) p = p
HaveSorts-substitute sig f h (t ∷ row) [] p = p
HaveSorts-substitute sig f h (t ∷ row) (s ∷ ss) (p, ps) = (Takes-substitute sig f h t [] s p, HaveSorts-substitute sig f h row ss ps)

pub numbering-sorted : (sig : Signature) → IsSound sig → (base : ℕ) (known : List Variable) → IsSorted sig (numbering sig base known)
numbering-sorted sig sound base known s n lt =
    elim (only_constructor sig s) as (λ o. only_constructor sig s ≡ o → HasSort sig (written o (variable s (base + place (s, n) known + 1))) s) [
      | None ↦ λ e. (lt, refl, refl)
      | Some c ↦ λ e. sound.constant s c lt e
    ] refl

-- the variable at a place
abbrev pub nth : Variable → List Variable → ℕ → Variable
nth d [] i = d
nth d (x ∷ xs) zero = x
nth d (x ∷ xs) (suc i) = nth d xs i

pub nth-place : (d x : Variable) (xs : List Variable) → is_noted x xs ≡ true → nth d xs (place x xs) ≡ x
nth-place d x [] h = absurd (true_false (sym h))
nth-place d x (y ∷ ys) h =
    elim (cases_Bool (same_variable x y)) [
      | inl e ↦ ap (λ b. nth d (y ∷ ys) (cond b 0 (place x ys + 1))) e ∙ sym (same_variable-true x y e)
      | inr e ↦ ap (λ b. nth d (y ∷ ys) (cond b 0 (place x ys + 1))) e ∙ ap (nth d (y ∷ ys)) (step (place x ys)) ∙ nth-place d x ys (ap (λ b. b || is_noted x ys) (sym e) ∙ h)
    ] where
      step : (n : ℕ) → n + 1 ≡ suc n
      step n = omega arith

abbrev pub of_sort : Variable → ℕ → ℕ → Term
of_sort y s m = cond (y.0 == s) (variable s y.1) (variable s m)

-- the variable that has a number
abbrev pub denumbering : ℕ → List Variable → Substitution
denumbering base known s m = of_sort (nth (s, m) known (m - base - 1)) s m

pub denumbering-sorted : (sig : Signature) (base : ℕ) (known : List Variable) → IsSorted sig (denumbering base known)
denumbering-sorted sig base known s m lt = elim (((nth (s, m) known (m - base - 1)).0) == s) as (λ b. HasSort sig (cond b (variable s (nth (s, m) known (m - base - 1)).1) (variable s m)) s) [ true ↦ (lt, refl, refl) | false ↦ (lt, refl, refl) ]

of_sort-same : (x : Variable) (m : ℕ) → of_sort x x.0 m ≡ variable x.0 x.1
of_sort-same x m = let h : (x.0 == x.0) ≡ true = grind (arith, nat_tests) in ap (λ b. cond b (variable x.0 x.1) (variable x.0 m)) h

pub denumbering-place : (base : ℕ) (known : List Variable) (x : Variable) → is_noted x known ≡ true → denumbering base known x.0 (base + place x known + 1) ≡ variable x.0 x.1
denumbering-place base known x h =
    let m : ℕ = base + place x known + 1 in
    let k : m - base - 1 ≡ place x known = omega arith in
    ap (λ y. of_sort y x.0 m) (ap (nth (x.0, m) known) k ∙ nth-place (x.0, m) x known h) ∙ of_sort-same x m

-- substitutions that agree on the variables of a row
abbrev pub AgreeAt : Substitution → Substitution → Variable → Type 0
AgreeAt f g x = f x.0 x.1 ≡ g x.0 x.1

pub agree : (f g : Substitution) (t : Term) → Each (AgreeAt f g) (variables t) → substitute f t ≡ substitute g t
agree f g (variable s n) (e, _) = e
agree f g (symbol c) e = refl
agree f g (apply p a) e = let both = each-front (AgreeAt f g) (variables p) (variables a) e in ap₂ apply (agree f g p both.0) (agree f g a both.1)

pub agree_in : (f g : Substitution) (row : List Term) → Each (AgreeAt f g) (variables_of row) → map (substitute f) row ≡ map (substitute g) row
agree_in f g [] e = refl
agree_in f g (t ∷ row) e = let both = each-front (AgreeAt f g) (variables t) (variables_of row) e in ap₂ (λ x xs. x ∷ xs) (agree f g t both.0) (agree_in f g row both.1)

-- an open variable is known
abbrev pub IsKnown : Signature → List Variable → Variable → Type 0
IsKnown sig known x = only_constructor sig x.0 ≡ None → is_noted x known ≡ true

pub all_known : (sig : Signature) (known xs : List Variable) → Each (IsAmong known) (opens sig xs) → Each (IsKnown sig known) xs
all_known sig known [] h = tt
all_known sig known (x ∷ xs) h =
    elim (only_constructor sig x.0) as (λ o. only_constructor sig x.0 ≡ o → Each (IsAmong known) (open_first o x (opens sig xs)) → Each (IsKnown sig known) (x ∷ xs)) [
      | None ↦ λ e i. (λ _. i.0, all_known sig known xs i.1)
      | Some c ↦ λ e i. (λ d. absurd (cc), all_known sig known xs i)
    ] refl h

module _ (sig : Signature) (sound : IsSound sig) (base : ℕ) (known : List Variable) where
  -- the renumbered row has the row's ground instances
  pub back_agrees : (g : Substitution) → IsGrounding sig g → (x : Variable) → IsKnown sig known x → x.0 < length sig.sorts → AgreeAt (after (after g (denumbering base known)) (numbering sig base known)) g x
  back_agrees g hg x k lt =
      elim (only_constructor sig x.0) as (λ o. only_constructor sig x.0 ≡ o → substitute (after g (denumbering base known)) (written o (variable x.0 (base + place x known + 1))) ≡ g x.0 x.1) [
        | None ↦ λ e. ap (substitute g) (denumbering-place base known x (k e))
        | Some c ↦ λ e. sym (one_constant sig sound x.0 c (g x.0 x.1) lt e (hg.variable_free x.0 x.1 lt) (hg.sorted x.0 x.1 lt))
      ] refl

  pub renumbered_ground : (row : List Term) (ss : List ℕ) → HaveSorts sig row ss → Each (IsKnown sig known) (variables_of row) → AllGroundInstancesIn sig row (map (substitute (numbering sig base known)) row)
  renumbered_ground row ss h k made (g, hg, e) =
      let f = after g (denumbering base known) in (
        f,
        grounding-after sig g (denumbering base known) hg (denumbering-sorted sig base known),
        e ∙ sym (agree_in (after f (numbering sig base known)) g row (each-both (IsKnown sig known) (IsOfSort sig) (AgreeAt (after f (numbering sig base known)) g) (back_agrees g hg) (variables_of row) k (all_of_sort sig row ss h)))
            ∙ map-substitute-after f (numbering sig base known) row,
      )

  -- the new variable
  abbrev pub renamed : Variable → Variable
  renamed x = (x.0, base + place x known + 1)

  pub variables-numbered : (t : Term) → variables (substitute (numbering sig base known) t) ≡ map renamed (opens sig (variables t))
  variables-numbered (variable s n) =
      elim (only_constructor sig s) as (λ o. variables (written o (variable s (base + place (s, n) known + 1))) ≡ map renamed (open_first o (s, n) [])) [ None ↦ refl | Some c ↦ refl ]
  variables-numbered (symbol c) = refl
  variables-numbered (apply f a) =
      ap₂ (λ xs ys. xs ++ ys) (variables-numbered f) (variables-numbered a) ∙ sym (map-append renamed (opens sig (variables f)) (opens sig (variables a))) ∙ ap (map renamed) (sym (opens-append sig (variables f) (variables a)))

  pub variables_of-numbered : (row : List Term) → variables_of (map (substitute (numbering sig base known)) row) ≡ map renamed (opens sig (variables_of row))
  variables_of-numbered [] = refl
  variables_of-numbered (t ∷ row) =
      ap₂ (λ xs ys. xs ++ ys) (variables-numbered t) (variables_of-numbered row) ∙ sym (map-append renamed (opens sig (variables t)) (opens sig (variables_of row))) ∙ ap (map renamed) (sym (opens-append sig (variables t) (variables_of row)))

  pub written-numbered : (t : Term) → IsWrittenOut sig (substitute (numbering sig base known) t)
  written-numbered (variable s n) =
      elim (only_constructor sig s) as (λ o. only_constructor sig s ≡ o → IsWrittenOut sig (written o (variable s (base + place (s, n) known + 1)))) [ None ↦ λ e. e | Some c ↦ λ e. tt ] refl
  written-numbered (symbol c) = tt
  written-numbered (apply f a) = (written-numbered f, written-numbered a)

  pub written_of-numbered : (row : List Term) → AreWrittenOut sig (map (substitute (numbering sig base known)) row)
  written_of-numbered [] = tt
  written_of-numbered (t ∷ row) = (written-numbered t, written_of-numbered row)

  -- open variables are renamed one to one
  abbrev pub IsOpen : Variable → Type 0
  IsOpen x = only_constructor sig x.0 ≡ None

  pub all_open : (xs : List Variable) → Each IsOpen (opens sig xs)
  all_open [] = tt
  all_open (x ∷ xs) = elim (only_constructor sig x.0) as (λ o. only_constructor sig x.0 ≡ o → Each IsOpen (open_first o x (opens sig xs))) [ None ↦ λ e. (e, all_open xs) | Some c ↦ λ e. all_open xs ] refl

  pub is_renaming : (x : Variable) → IsOpen x → is_noted x known ≡ true → IsRenaming (numbering sig base known) (denumbering base known) renamed x
  is_renaming x o i = record { renames = ap (λ c. written c (variable x.0 (base + place x known + 1))) o; back = denumbering-place base known x i; sort = refl }

-- no variable stands twice
abbrev pub IsDistinct : List Variable → Type 0
IsDistinct [] = Unit {0}
IsDistinct (x ∷ xs) = (is_noted x xs ≡ false) × IsDistinct xs

abbrev DiffersFrom : Variable → Variable → Type 0
DiffersFrom y z = same_variable z y ≡ false

others_differ : (y : Variable) (ys : List Variable) → is_noted y ys ≡ false → Each (DiffersFrom y) ys
others_differ y [] h = tt
others_differ y (z ∷ zs) h =
    elim (cases_Bool (same_variable y z)) [
      | inl e ↦ absurd (true_false (sym (ap (λ b. b || is_noted y zs) e) ∙ h))
      | inr e ↦ (same_variable-sym y z e, others_differ y zs (ap (λ b. b || is_noted y zs) (sym e) ∙ h))
    ]

distinct-end : (xs : List Variable) (x : Variable) → IsDistinct xs → is_noted x xs ≡ false → IsDistinct (xs ++ x ∷ [])
distinct-end [] x d h = (refl, tt)
distinct-end (y ∷ ys) x (o, d) h =
    elim (cases_Bool (same_variable x y)) [
      | inl e ↦ absurd (true_false (sym (ap (λ b. b || is_noted x ys) e) ∙ h))
      | inr e ↦ (
        among-append y ys (x ∷ []) ∙ ap₂ (λ a b. a || b) o (ap (λ b. b || false) (same_variable-sym x y e)),
        distinct-end ys x d (ap (λ b. b || is_noted x ys) (sym e) ∙ h),
      )
    ]

distinct-noted : (xs : List Variable) (x : Variable) → IsDistinct xs → IsDistinct (noted xs x)
distinct-noted xs x d = elim (is_noted x xs) as (λ b. is_noted x xs ≡ b → IsDistinct (if b then xs else xs ++ x ∷ [])) [ true ↦ λ e. d | false ↦ λ e. distinct-end xs x d e ] refl

pub distinct-noted_all : (seen xs : List Variable) → IsDistinct seen → IsDistinct (noted_all seen xs)
distinct-noted_all seen [] d = d
distinct-noted_all seen (x ∷ xs) d = distinct-noted_all (noted seen x) xs (distinct-noted seen x d)

abbrev IsPlaced : (Variable → ℕ) → ℕ → List Variable → Variable → Type 0
IsPlaced f n xs x = f x ≡ n + place x xs

numbered_places : (f : Variable → ℕ) (n : ℕ) (xs : List Variable) → IsDistinct xs → Each (IsPlaced f n xs) xs → IsNumberedFrom n (map (λ x. (x.0, f x)) xs)
numbered_places f n [] d h = tt
numbered_places f n (y ∷ ys) (o, d) (p, h) = (
  p ∙ ap (λ b. n + cond b 0 (place y ys + 1)) (same_variable-refl y) ∙ add_zero n,
  numbered_places f (n + 1) ys d (each-both (DiffersFrom y) (IsPlaced f n (y ∷ ys)) (IsPlaced f (n + 1) ys) (λ z e q. q ∙ ap (λ b. n + cond b 0 (place z ys + 1)) e ∙ shift n (place z ys)) ys (others_differ y ys o) h),
) where
  add_zero : (a : ℕ) → a + 0 ≡ a
  add_zero a = omega arith

  shift : (a b : ℕ) → a + (b + 1) ≡ a + 1 + b
  shift a b = omega arith

each_true : (P : Variable → Type 0) → ((x : Variable) → P x) → (xs : List Variable) → Each P xs
each_true P h [] = tt
each_true P h (x ∷ xs) = (h x, each_true P h xs)

-- a row that is renumbered from 1, with no variables known before, is canonical
pub renumbered_canonical : (sig : Signature) → IsSound sig → (known : List Variable) (row copy : List Term) → Renumbered sig 0 [] known row copy → IsCanonical sig copy
renumbered_canonical sig sound known row copy h =
    let xs = opens sig (variables_of row) in
    let r = renamed sig sound 0 known in
    let among : Each (IsAmong known) xs = subst (λ k. Each (IsAmong k) xs) (sym h.known) (among-noted_all [] xs) in
    let renaming = each-both (IsOpen sig sound 0 known) (IsAmong known) (IsRenaming (numbering sig 0 known) (denumbering 0 known) r) (is_renaming sig sound 0 known) xs (all_open sig sound 0 known (variables_of row)) among in
    let firsts : first_occurrences copy ≡ map r known = ap first_occurrences h.made ∙ ap (noted_all []) (variables_of-numbered sig sound 0 known row) ∙ noted_all-renamed (numbering sig 0 known) (denumbering 0 known) r [] xs tt renaming ∙ ap (map r) (sym h.known) in
    record {
      numbered = subst (IsNumberedFrom 1) (sym firsts) (numbered_places (λ x. 0 + place x known + 1) 1 known (subst IsDistinct (sym h.known) (distinct-noted_all [] xs tt)) (each_true (IsPlaced (λ x. 0 + place x known + 1) 1 known) (λ x. shift (place x known)) known));
      written = subst (AreWrittenOut sig) (sym h.made) (written_of-numbered sig sound 0 known row);
    } where
      shift : (n : ℕ) → 0 + n + 1 ≡ 1 + n
      shift n = omega arith

pub renumbered_same : (sig : Signature) → IsSound sig → (base : ℕ) (old known : List Variable) (row copy : List Term) (ss : List ℕ) → HaveSorts sig row ss → Renumbered sig base old known row copy → AllGroundInstancesIn sig row copy × AllGroundInstancesIn sig copy row × HaveSorts sig copy ss
renumbered_same sig sound base old known row copy ss hs h =
    let xs = opens sig (variables_of row) in
    let among : Each (IsAmong known) xs = subst (λ k. Each (IsAmong k) xs) (sym h.known) (among-noted_all old xs) in
    let sorted = numbering-sorted sig sound base known in (
      subst (AllGroundInstancesIn sig row) (sym h.made) (renumbered_ground sig sound base known row ss hs (all_known sig known (variables_of row) among)),
      subst (λ c. AllGroundInstancesIn sig c row) (sym h.made) (instance-ground sig (numbering sig base known) row sorted),
      subst (λ c. HaveSorts sig c ss) (sym h.made) (HaveSorts-substitute sig (numbering sig base known) sorted row ss hs),
    )

abbrev pub IsAtMost : ℕ → Variable → Type 0
IsAtMost n x = x.1 ≤ n

abbrev pub IsAbove : ℕ → Variable → Type 0
IsAbove n x = n < x.1

each_renamed : (P : Variable → Type 0) (r : Variable → Variable) (Q : Variable → Type 0) → ((x : Variable) → Q x → P (r x)) → (xs : List Variable) → Each Q xs → Each P (map r xs)
each_renamed P r Q h [] a = tt
each_renamed P r Q h (x ∷ xs) (q, a) = (h x q, each_renamed P r Q h xs a)

-- the numbers of a renumbered row
pub renumbered_at_most : (sig : Signature) → IsSound sig → (base : ℕ) (known : List Variable) (row copy : List Term) → Renumbered sig base [] known row copy → Each (IsAtMost (base + length known)) (variables_of copy)
renumbered_at_most sig sound base known row copy h =
    let xs = opens sig (variables_of row) in
    let among : Each (IsAmong known) xs = subst (λ k. Each (IsAmong k) xs) (sym h.known) (among-noted_all [] xs) in
    subst (Each (IsAtMost (base + length known))) (sym (ap variables_of h.made ∙ variables_of-numbered sig sound base known row))
    (each_renamed (IsAtMost (base + length known)) (renamed sig sound base known) (IsAmong known) (λ x i. bounded (place x known) (place-within x known i)) xs among) where
      bounded : (p : ℕ) → p < length known → base + p + 1 ≤ base + length known
      bounded p l = omega arith

pub renumbered_above : (sig : Signature) → IsSound sig → (base : ℕ) (known : List Variable) (row copy : List Term) → Renumbered sig base [] known row copy → Each (IsAbove base) (variables_of copy)
renumbered_above sig sound base known row copy h =
    let xs = opens sig (variables_of row) in
    subst (Each (IsAbove base)) (sym (ap variables_of h.made ∙ variables_of-numbered sig sound base known row))
    (each_renamed (IsAbove base) (renamed sig sound base known) (λ x. Unit {0}) (λ x _. above (place x known)) xs (each_true (λ x. Unit {0}) (λ x. tt) xs)) where
      above : (p : ℕ) → base < base + p + 1
      above p = omega arith
