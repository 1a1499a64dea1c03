-- Rows that have all that is possible among their instances, and right verdicts one by one.
use Rattle.std.proofs.Common.{◌≡◌, ℕ, ◌+◌, true, List, [], ◌∷◌, ◌++◌, map}
use Rattle.std.specs.Prelude.{bytes_eq}
use Rattle.std.specs.List.{AllByRecursion}
use Rattle.std.proofs.lemmas.Bool.{or_left, or_right}
use Rattle.psg_terms.specs.Names.{is_among}
use Rattle.psg_terms.specs.Terms.{Term}
use Rattle.psg_terms.specs.Instances.{Substitution, substitute, IsInstance}
use Rattle.psg_terms.specs.Signature.{Signature}
use Rattle.psg_terms.specs.Canonical.{IsCanonical}
use Rattle.psg_terms.specs.Relations.{IsIn, first, later}
use Rattle.psg_grammar.specs.Keys.{Key}
use Rattle.psg_scope.proofs.KeyLists.{key_refl}
use Rattle.psg_explain.specs.declared.given.Case.{Case}
use Rattle.psg_explain.specs.declared.refutation.Verdict.{Verdict}
use Rattle.psg_explain.specs.Given.{all_pairs, pair_case, plain_case, plain_cases, row_pairs}
use Rattle.psg_explain.specs.Refutations.{AreRight}
use Rattle.psg_explain.specs.Verdicts.{IsRight}
use Rattle.psg_explain.proofs.Rewriting.{IsOfClaimed, right_verdict}

-- what is possible is an instance of one of the rows
abbrev pub Covers : {C : Type 0} → (C → List Term → Type 0) → List (List Term) → Type 0
Covers {C} P rows = (choice : C) (columns : List Term) → P choice columns
    → (row : List Term) × IsIn row rows × IsInstance columns row

-- canonical rows that cover
pub record AreGood {C : Type 0} (sig : Signature) (P : C → List Term → Type 0) (rows : List (List Term)) : Type 0 where
  pub canonical : (row : List Term) → IsIn row rows → IsCanonical sig row
  pub covers : Covers P rows

pub of_claimed : (rows : List (List Term)) (columns : List Term) → IsOfClaimed rows columns → (row : List Term) × IsIn row rows × IsInstance columns row
of_claimed rows columns it = (it.row, it.there, (it.by, it.same))

-- what holds of each key that is there
pub each_key : (P : Key → Type 0) (ks : List Key) → ((k : Key) → is_among ks k ≡ true → P k) → AllByRecursion P ks
each_key P [] h = tt
each_key P (k ∷ ks) h = (h k (or_left (bytes_eq k k) (is_among ks k) (key_refl k)), each_key P ks (λ m i. h m (or_right (bytes_eq k m) (is_among ks m) i)))

-- ---- one verdict of many

-- the right verdict on a case
pub record HasVerdict (rows : List (List Term)) (case : Case) : Type 0 where
  pub verdict : Verdict
  pub right : IsRight rows case.given case.columns verdict

pub verdict_in : (rows : List (List Term)) (cases : List Case) (verdicts : List Verdict) → AreRight rows cases verdicts → (case : Case) → IsIn case cases → HasVerdict rows case
verdict_in rows [] verdicts h case i = elim i [ ]
verdict_in rows (c ∷ cases) [] h case i = absurd h
verdict_in rows (c ∷ cases) (v ∷ verdicts) (r, h) case first = record { verdict = v; right = r }
verdict_in rows (c ∷ cases) (v ∷ verdicts) (r, h) case (later i) = verdict_in rows cases verdicts h case i

in-more : {X : Type 0} (x : X) (xs ys : List X) → IsIn x xs → IsIn x (xs ++ ys)
in-more x [] ys h = elim h [ ]
in-more x (y ∷ xs) ys first = first
in-more x (y ∷ xs) ys (later h) = later (in-more x xs ys h)

in-behind : {X : Type 0} (x : X) (xs ys : List X) → IsIn x ys → IsIn x (xs ++ ys)
in-behind x [] ys h = h
in-behind x (y ∷ xs) ys h = later (in-behind x xs ys h)

-- a row that stays as it is
pub plain_in : (i : ℕ) (rows : List (List Term)) (row : List Term) → IsIn row rows → (k : ℕ) × IsIn (plain_case k row) (plain_cases i rows)
plain_in i [] row h = elim h [ ]
plain_in i (r ∷ rows) row first = (i, first)
plain_in i (r ∷ rows) row (later h) = let (k, at) = plain_in (i + 1) rows row h in (k, later at)

module _ (K L M : List Key) where
  row_pair_in : (i j : ℕ) (left : List Term) (rights : List (List Term)) (right : List Term) → IsIn right rights → (k : ℕ) × IsIn (pair_case K L M i k left right) (row_pairs K L M i j left rights)
  row_pair_in i j left [] right h = elim h [ ]
  row_pair_in i j left (r ∷ rights) right first = (j, first)
  row_pair_in i j left (r ∷ rights) right (later h) = let (k, at) = row_pair_in i (j + 1) left rights right h in (k, later at)

  -- a pair of rows
  pub pair_in : (i : ℕ) (lefts rights : List (List Term)) (left right : List Term) → IsIn left lefts → IsIn right rights
      → (n k : ℕ) × IsIn (pair_case K L M n k left right) (all_pairs K L M i lefts rights)
  pair_in i [] rights left right h g = elim h [ ]
  pair_in i (l ∷ lefts) rights left right first g =
      let (k, at) = row_pair_in i 0 l rights right g in
      (i, k, in-more (pair_case K L M i k l right) (row_pairs K L M i 0 l rights) (all_pairs K L M (i + 1) lefts rights) at)
  pair_in i (l ∷ lefts) rights left right (later h) g =
      let (n, k, at) = pair_in (i + 1) lefts rights left right h g in
      (n, k, in-behind (pair_case K L M n k left right) (row_pairs K L M i 0 l rights) (all_pairs K L M (i + 1) lefts rights) at)

-- a right verdict on a row as it is covers its instances
pub plain_covered : (claimed : List (List Term)) (i : ℕ) (rows : List (List Term)) (verdicts : List Verdict) → AreRight claimed (plain_cases i rows) verdicts
    → (row : List Term) → IsIn row rows → (f : Substitution) → IsOfClaimed claimed (map (substitute f) row)
plain_covered claimed i rows verdicts right row there f =
    let (k, at) = plain_in i rows row there in
    let h = verdict_in claimed (plain_cases i rows) verdicts right (plain_case k row) at in
    right_verdict f claimed [] row h.verdict h.right tt
