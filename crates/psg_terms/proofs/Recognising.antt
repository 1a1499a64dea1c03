-- Terms without variables, and rows whose variables are numbered already.
use Rattle.std.proofs.Common.{◌≡◌, ℕ, ◌+◌, ◌<◌, ◌≤◌, ◌||◌, max, true, false, if◌then◌else◌, zero, suc, List, [], ◌∷◌, ◌++◌, take, get_or, length, refl, ap, ap₂, sym, ◌∙◌, subst, None, arith, append-nil}
use Rattle.psg_terms.proofs.Lists.{take_item}
use Rattle.psg_terms.specs.Terms.{Term, variable, symbol, apply, applied}
use Rattle.psg_terms.specs.Signature.{Signature, only_constructor}
use Rattle.psg_terms.specs.Instances.{Substitution, substitute}
use Rattle.psg_terms.specs.Weight.{above_of}
use Rattle.psg_terms.specs.Canonical.{Variable, same_variable, variables, variables_of, is_noted, noted, noted_all, IsNumberedFrom, IsWrittenOut, AreWrittenOut, IsCanonical}
use Rattle.psg_terms.specs.Renaming.{opens, numbering, numbered_from, GoesOn, Renumbered}
use Rattle.psg_terms.specs.declared.sorts.SortId.{SortId}
use Rattle.psg_terms.proofs.Variables.{same_variable-refl, same_variable-false}
use Rattle.psg_terms.proofs.Covers.{among-right}
use Rattle.psg_terms.proofs.RenamingLaws.{variables-applied, variables_of-append, noted-new, noted_all-append}

pub variables-closed : (t : Term) → above_of t ≡ 0 → variables t ≡ []
variables-closed (variable s n) e = absurd (omega (arith, e))
variables-closed (symbol c) e = refl
variables-closed (apply f a) e = ap₂ (λ x y. x ++ y) (variables-closed f (omega (arith, e))) (variables-closed a (omega (arith, e)))

pub substitute-closed : (g : Substitution) (t : Term) → above_of t ≡ 0 → substitute g t ≡ t
substitute-closed g (variable s n) e = absurd (omega (arith, e))
substitute-closed g (symbol c) e = refl
substitute-closed g (apply f a) e = ap₂ apply (substitute-closed g f (omega (arith, e))) (substitute-closed g a (omega (arith, e)))

pub written-closed : (sig : Signature) (t : Term) → above_of t ≡ 0 → IsWrittenOut sig t
written-closed sig (variable s n) e = absurd (omega (arith, e))
written-closed sig (symbol c) e = tt
written-closed sig (apply f a) e = (written-closed sig f (omega (arith, e)), written-closed sig a (omega (arith, e)))

-- a closed term is its own copy, whatever is known
pub renumbered_closed : (sig : Signature) (base : ℕ) (known : List Variable) (t u : Term) → above_of t ≡ 0 → u ≡ t → Renumbered sig base known known (t ∷ []) (u ∷ [])
renumbered_closed sig base known t u c d = record {
  known = sym (ap (λ l. noted_all known (opens sig (l ++ []))) (variables-closed t c));
  made = ap (λ u. u ∷ []) (d ∙ sym (substitute-closed (numbering sig base known) t c));
}

-- the numbers of a numbering count up
pub numbered_is : (n : ℕ) (sorts : List SortId) → IsNumberedFrom n (numbered_from n sorts)
numbered_is n [] = tt
numbered_is n (s ∷ sorts) = (refl, numbered_is (n + 1) sorts)

numbered-append : (n : ℕ) (sorts : List SortId) (s : SortId) → numbered_from n (sorts ++ s ∷ []) ≡ numbered_from n sorts ++ (s.0, n + length sorts) ∷ []
numbered-append n [] s = ap (λ (k : ℕ). (s.0, k) ∷ []) (omega arith)
numbered-append n (t ∷ sorts) s =
    ap (λ (l : List Variable). (t.0, n) ∷ l) (numbered-append (n + 1) sorts s ∙ ap (λ (k : ℕ). numbered_from (n + 1) sorts ++ (s.0, k) ∷ []) (omega arith))

-- a number behind all is not among them
not_noted : (s n m : ℕ) (sorts : List SortId) → n + length sorts ≤ m → is_noted (s, m) (numbered_from n sorts) ≡ false
not_noted s n m [] h = refl
not_noted s n m (t ∷ sorts) h =
    let apart : same_variable (s, m) (t.0, n) ≡ false = same_variable-false (s, m) (t.0, n) (λ e. let k : m ≡ n = ap (λ (x : Variable). x.1) e in omega arith) in
    ap (λ b. b || is_noted (s, m) (numbered_from (n + 1) sorts)) apart ∙ not_noted s (n + 1) m sorts (omega arith)

is_known : (n i : ℕ) (sorts : List SortId) (d : SortId) → i < length sorts → is_noted ((get_or sorts i d).0, n + i) (numbered_from n sorts) ≡ true
is_known n i [] d h = absurd (omega arith)
is_known n zero (t ∷ sorts) d h =
    ap (λ (k : ℕ). is_noted (t.0, k) (numbered_from n (t ∷ sorts))) (same n) ∙ ap (λ b. b || is_noted (t.0, n) (numbered_from (n + 1) sorts)) (same_variable-refl (t.0, n)) where
      same : (n : ℕ) → n + 0 ≡ n
      same n = omega arith
is_known n (suc i) (t ∷ sorts) d h =
    among-right ((get_or sorts i d).0, n + suc i) ((t.0, n) ∷ []) (numbered_from (n + 1) sorts)
    (ap (λ (k : ℕ). is_noted ((get_or sorts i d).0, k) (numbered_from (n + 1) sorts)) (moved n i) ∙ is_known (n + 1) i sorts d (omega arith)) where
      moved : (n i : ℕ) → n + suc i ≡ n + 1 + i
      moved n i = omega arith

-- the next variable, and one that is known
pub noted_next : (known new : List SortId) (s : SortId) (n : ℕ) → n ≡ length known + 1 → new ≡ known ++ s ∷ [] → noted (numbered_from 1 known) (s.0, n) ≡ numbered_from 1 new
noted_next known new s n e d =
    noted-new (numbered_from 1 known) (s.0, n) (not_noted s.0 1 n known (omega arith))
    ∙ ap (λ (k : ℕ). numbered_from 1 known ++ (s.0, k) ∷ []) (let k : n ≡ 1 + length known = omega arith in k) ∙ sym (numbered-append 1 known s) ∙ ap (numbered_from 1) (sym d)

pub noted_known : (known : List SortId) (s d : SortId) (n i : ℕ) → n ≡ i + 1 → i < length known → (get_or known i d).0 ≡ s.0 → noted (numbered_from 1 known) (s.0, n) ≡ numbered_from 1 known
noted_known known s d n i e lt at =
    let there : is_noted (s.0, n) (numbered_from 1 known) ≡ true =
    ap₂ (λ (a k : ℕ). is_noted (a, k) (numbered_from 1 known)) (sym at) (let k : n ≡ 1 + i = omega arith in k) ∙ is_known 1 i known d lt in
    ap (λ b. if b then numbered_from 1 known else numbered_from 1 known ++ (s.0, n) ∷ []) there

-- the steps of a row
pub goes_on_none : (sig : Signature) (known : List SortId) → GoesOn sig known known []
goes_on_none sig known = record { known = refl; written = tt }

pub goes_on_closed : (sig : Signature) (known : List SortId) (t : Term) → above_of t ≡ 0 → GoesOn sig known known (t ∷ [])
goes_on_closed sig known t c = record {
  known = ap (λ l. noted_all (numbered_from 1 known) (l ++ [])) (variables-closed t c);
  written = (written-closed sig t c, tt);
}

pub goes_on_open : (sig : Signature) (old new : List SortId) (s n : ℕ) (t : Term) → only_constructor sig s ≡ None → t ≡ variable s n → noted (numbered_from 1 old) (s, n) ≡ numbered_from 1 new → GoesOn sig old new (t ∷ [])
goes_on_open sig old new s n t o e h = subst (λ u. GoesOn sig old new (u ∷ [])) (sym e) (record { known = h; written = (o, tt) })

applied-written : (sig : Signature) (t : Term) (row : List Term) → IsWrittenOut sig t → AreWrittenOut sig row → IsWrittenOut sig (applied t row)
applied-written sig t [] h k = h
applied-written sig t (a ∷ row) h (k, l) = applied-written sig (apply t a) row (h, k) l

pub goes_on_con : (sig : Signature) (old new : List SortId) (c : ℕ) (args : List Term) (t : Term) → t ≡ applied (symbol c) args → GoesOn sig old new args → GoesOn sig old new (t ∷ [])
goes_on_con sig old new c args t e h = subst (λ u. GoesOn sig old new (u ∷ [])) (sym e) (record {
  known = ap (noted_all (numbered_from 1 old)) (append-nil (variables (applied (symbol c) args)) ∙ variables-applied (symbol c) args) ∙ h.known;
  written = (applied-written sig (symbol c) args tt h.written, tt);
})

written-append : (sig : Signature) (xs ys : List Term) → AreWrittenOut sig xs → AreWrittenOut sig ys → AreWrittenOut sig (xs ++ ys)
written-append sig [] ys h k = k
written-append sig (x ∷ xs) ys (h, hs) k = (h, written-append sig xs ys hs k)

goes_on_append : (sig : Signature) (old mid new : List SortId) (row more : List Term) → GoesOn sig old mid row → GoesOn sig mid new more → GoesOn sig old new (row ++ more)
goes_on_append sig old mid new row more h k = record {
  known = ap (noted_all (numbered_from 1 old)) (variables_of-append row more) ∙ noted_all-append (numbered_from 1 old) (variables_of row) (variables_of more)
      ∙ ap (λ m. noted_all m (variables_of more)) h.known ∙ k.known;
  written = written-append sig row more h.written k.written;
}

pub goes_on_step : (sig : Signature) (old mid new : List SortId) (row : List Term) (i : ℕ) (t : Term) → GoesOn sig old mid (take i row) → GoesOn sig mid new (t ∷ []) → i < length row → t ≡ get_or row i t → GoesOn sig old new (take (i + 1) row)
goes_on_step sig old mid new row i t h k lt at = subst (GoesOn sig old new) (sym (take_item row i t lt at)) (goes_on_append sig old mid new (take i row) (t ∷ []) h k)

-- what goes on from no variable is canonical
pub goes_on_canonical : (sig : Signature) (none known : List SortId) (row : List Term) → none ≡ [] → GoesOn sig none known row → IsCanonical sig row
goes_on_canonical sig none known row e h =
    let k = subst (λ n. GoesOn sig n known row) e h in record {
      numbered = subst (IsNumberedFrom 1) (sym k.known) (numbered_is 1 known);
      written = k.written;
    }
