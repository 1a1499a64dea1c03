-- Written sorts have one fault at most.
use Rattle.std.proofs.Common.{◌≡◌, ℕ, ◌+◌, ◌<◌, ◌≤◌, ◌⊎◌, true, false, zero, suc, List, [], ◌∷◌, ◌++◌, take, drop, length, refl, ap, sym, ◌∙◌, subst, inl, inr, Option, Some, slice_get, append_assoc, arith}
use Rattle.std.proofs.lemmas.Bool.{false≢true, cases_order, cases_lt}
use Rattle.std.proofs.lemmas.List.{take-append-drop, take-append-le}
use Rattle.psg_terms.specs.Names.{Name, is_among, has_twice}
use Rattle.psg_terms.specs.Signature.{Signature}
use Rattle.psg_terms.specs.Declarations.{sort_names, Numbered, with_sort, in_order, names_in, constructor_names, IsFirstRepeat, RepeatsSort, RepeatsConstructor, AreDistinct, AllAmong, MissesSort, IsSpelled, HasFault, IsFirstEmpty, IsFirstWide}
use Rattle.psg_terms.specs.Refusals.{IsRefused}
use Rattle.psg_terms.specs.declared.declare.ConDecl.{ConDecl}
use Rattle.psg_terms.specs.declared.declare.SortDecl.{SortDecl}
use Rattle.psg_terms.specs.declared.declare.SigFault.{SigFault}
use Rattle.psg_terms.specs.declared.declare.SigFault.TheVariants.{Repeated, UnknownSort, NoGround, OneWide, Memory}
use Rattle.psg_terms.proofs.DeclareLaws.{names_in-append, has_twice-front, spelled-among}
use Rattle.psg_terms.proofs.DeclareSteps.{take-at}
use Rattle.psg_terms.proofs.DeclareFaults.{has_twice-take}
use Rattle.psg_terms.proofs.Spelled.{has_twice-again, repeat-twice, one_signature, all_among-middle}

-- names up to the first repetition
repeated_front : (names : List Name) (i : ℕ) (n : Name) → IsFirstRepeat names i n → has_twice (take (i + 1) names) ≡ true
repeated_front names i n r = ap has_twice (take-at names i n r.at) ∙ has_twice-again (take i names) n r.again

repeat_within : (names : List Name) (i k : ℕ) (n : Name) → IsFirstRepeat names i n → i < k → has_twice (take k names) ≡ false → ⊥
repeat_within names i k n r lt h = false≢true (sym (has_twice-take (i + 1) k names (omega arith) h) ∙ repeated_front names i n r)

one_repeat : (names : List Name) (i j : ℕ) (n m : Name) → IsFirstRepeat names i n → IsFirstRepeat names j m → n ≡ m
one_repeat names i j n m a b =
    elim (cases_order i j) [
      | inl e ↦ (let q : ◌≡◌ {A = Option Name} (Some n) (Some m) = sym a.at ∙ ap (slice_get names) e ∙ b.at in cc)
      | inr (inl lt) ↦ absurd (repeat_within names i j n a lt b.before)
      | inr (inr lt) ↦ absurd (repeat_within names j i m b lt a.before)
    ]

-- the constructors of the sorts below a limit, and the others
in_order-split : (n : ℕ) (ds : List SortDecl) (l : ℕ) → in_order n ds ≡ in_order n (take l ds) ++ in_order (n + l) (drop l ds)
in_order-split n [] zero = refl
in_order-split n [] (suc l) = refl
in_order-split n (d ∷ ds) zero = ap (λ k. in_order k (d ∷ ds)) (omega arith)
in_order-split n (d ∷ ds) (suc l) =
    ap (λ xs. with_sort n d.constructors ++ xs) (in_order-split (n + 1) ds l ∙ ap (λ k. in_order (n + 1) (take l ds) ++ in_order k (drop l ds)) (omega arith))
    ∙ sym (append_assoc (with_sort n d.constructors) (in_order (n + 1) (take l ds)) (in_order (n + suc l) (drop l ds)))

-- a place in a list with another behind it
abbrev Where : List Numbered → List Numbered → ℕ → Numbered → Type 0
Where xs ys k c = (k < length xs) ⊎ ((j : ℕ) × (slice_get ys j ≡ Some c))

place_in : (xs ys : List Numbered) (k : ℕ) (c : Numbered) → slice_get (xs ++ ys) k ≡ Some c → Where xs ys k c
place_in [] ys k c e = inr (k, e)
place_in (x ∷ xs) ys zero c e = inl (omega arith)
place_in (x ∷ xs) ys (suc k) c e = elim (place_in xs ys k c e) [ inl lt ↦ inl (omega arith) | inr h ↦ inr h ]

own_sort : (s : ℕ) (own : List ConDecl) (rest : List Numbered) (k : ℕ) (c : Numbered) → slice_get (with_sort s own ++ rest) k ≡ Some c → (c.0 ≡ s) ⊎ ((j : ℕ) × (slice_get rest j ≡ Some c))
own_sort s [] rest k c e = inr (k, e)
own_sort s (o ∷ own) rest zero c e = let same : (s, o) ≡ c = cc in inl (ap (λ (x : Numbered). x.0) (sym same))
own_sort s (o ∷ own) rest (suc k) c e = own_sort s own rest k c e

in_order-from : (n : ℕ) (ds : List SortDecl) (k : ℕ) (c : Numbered) → slice_get (in_order n ds) k ≡ Some c → n ≤ c.0
in_order-from n [] k c e = absurd (cc)
in_order-from n (d ∷ ds) k c e =
    elim (own_sort n d.constructors (in_order (n + 1) ds) k c e) [
      | inl same ↦ omega arith
      | inr (j, there) ↦ (let h = in_order-from (n + 1) ds j c there in omega arith)
    ]

-- the first repetition is a sort's or a constructor's
not_both : (written : List SortDecl) (n m : Name) → RepeatsSort written n → RepeatsConstructor written m → ⊥
not_both written n m r q =
    elim (cases_lt r.sort (q.found.0 + 1)) [
      | inl lt ↦ repeat_within (sort_names written) r.sort (q.found.0 + 1) n r.repeat lt q.before
      | inr le ↦ (let front = in_order 0 (take r.sort written) in
          let rest = in_order (0 + r.sort) (drop r.sort written) in
          elim (place_in front rest q.place q.found (ap (λ xs. slice_get xs q.place) (sym (in_order-split 0 written r.sort)) ∙ q.at)) [
            | inl lt ↦ inside front rest r.before (ap names_in (in_order-split 0 written r.sort) ∙ names_in-append front rest) lt
            | inr (j, there) ↦ (let h = in_order-from (0 + r.sort) (drop r.sort written) j q.found there in absurd (omega arith))
          ])
    ] where
      names-length : (xs : List Numbered) → length (names_in xs) ≡ length xs
      names-length [] = refl
      names-length (x ∷ xs) = omega (arith, names-length xs)

      inside : (front rest : List Numbered) → has_twice (names_in front) ≡ false → constructor_names written ≡ names_in front ++ names_in rest → q.place < length front → ⊥
      inside front rest h e lt =
          let l = names-length front in
          let short : take (q.place + 1) (constructor_names written) ≡ take (q.place + 1) (names_in front) = ap (take (q.place + 1)) e ∙ take-append-le (q.place + 1) (names_in front) (names_in rest) (omega arith) in
          let none : has_twice (take (q.place + 1) (names_in front)) ≡ false = has_twice-front (take (q.place + 1) (names_in front)) (drop (q.place + 1) (names_in front)) (ap has_twice (take-append-drop (q.place + 1) (names_in front)) ∙ h) in
          false≢true (sym (ap has_twice short ∙ none) ∙ repeated_front (constructor_names written) q.place m q.repeat)

-- the first name that is no sort's
one_missing : (sorts front front' behind behind' : List Name) (n m : Name) → front ++ n ∷ behind ≡ front' ++ m ∷ behind' → AllAmong sorts front → AllAmong sorts front' → is_among sorts n ≡ false → is_among sorts m ≡ false → n ≡ m
one_missing sorts [] [] behind behind' n m e a b hn hm = cc
one_missing sorts [] (y ∷ front') behind behind' n m e a (p, b) hn hm = let same : n ≡ y = cc in absurd (false≢true (sym hn ∙ ap (is_among sorts) same ∙ p))
one_missing sorts (x ∷ front) [] behind behind' n m e (p, a) b hn hm = let same : x ≡ m = cc in absurd (false≢true (sym hm ∙ ap (is_among sorts) (sym same) ∙ p))
one_missing sorts (x ∷ front) (y ∷ front') behind behind' n m e (_, a) (_, b) hn hm = let rest : front ++ n ∷ behind ≡ front' ++ m ∷ behind' = cc in one_missing sorts front front' behind behind' n m rest a b hn hm

-- the first sort with a fault
not_distinct : (written : List SortDecl) (n : Name) → RepeatsSort written n ⊎ RepeatsConstructor written n → AreDistinct written → ⊥
not_distinct written n (inl r) d = repeat-twice (sort_names written) r.sort n r.repeat d.sorts
not_distinct written n (inr r) d = repeat-twice (constructor_names written) r.place n r.repeat d.constructors

not_missing : (written : List SortDecl) (n : Name) (sig : Signature) → MissesSort written n → IsSpelled written sig → ⊥
not_missing written n sig r h =
    let f = r.first in
    false≢true (sym f.missing ∙ all_among-middle (sort_names written) f.front f.behind n (subst (AllAmong (sort_names written)) f.split (spelled-among (sort_names written) (in_order 0 written) sig.symbols h.symbols)))

one_empty : (sig : Signature) (s r : ℕ) → IsFirstEmpty sig s → IsFirstEmpty sig r → s ≡ r
one_empty sig s r a b =
    elim (cases_order s r) [
      | inl e ↦ e
      | inr (inl lt) ↦ (let t = b.before s lt in absurd (a.empty t.term t.variable_free t.sorted))
      | inr (inr lt) ↦ (let t = a.before r lt in absurd (b.empty t.term t.variable_free t.sorted))
    ]

one_wide : (sig : Signature) (s r : ℕ) → IsFirstWide sig s → IsFirstWide sig r → s ≡ r
one_wide sig s r a b = elim (cases_order s r) [ inl e ↦ e | inr (inl lt) ↦ absurd (b.before s lt a.wide) | inr (inr lt) ↦ absurd (a.before r lt b.wide) ]

empty_wide : (sig : Signature) (s r : ℕ) → IsFirstEmpty sig s → IsFirstWide sig r → ⊥
empty_wide sig s r a b = let t = b.inhabited s a.inside in a.empty t.term t.variable_free t.sorted

moved : (Fault : Signature → ℕ → Type 0) (written : List SortDecl) (s : ℕ) (sig : Signature) → HasFault Fault written s → AreDistinct written → IsSpelled written sig → Fault sig s
moved Fault written s sig h d k = subst (λ x. Fault x s) (one_signature written h.sig sig d h.spelled k) h.fault

pub one_fault : (written : List SortDecl) (f g : SigFault) → IsRefused written f → IsRefused written g → f ≡ g
one_fault written (Repeated n) (Repeated m) (inl a) (inl b) = ap Repeated (one_repeat (sort_names written) a.sort b.sort n m a.repeat b.repeat)
one_fault written (Repeated n) (Repeated m) (inl a) (inr b) = absurd (not_both written n m a b)
one_fault written (Repeated n) (Repeated m) (inr a) (inl b) = absurd (not_both written m n b a)
one_fault written (Repeated n) (Repeated m) (inr a) (inr b) = ap Repeated (one_repeat (constructor_names written) a.place b.place n m a.repeat b.repeat)
one_fault written (Repeated n) (UnknownSort m) a b = absurd (not_distinct written n a b.distinct)
one_fault written (Repeated n) (NoGround s) a b = absurd (not_distinct written n a b.distinct)
one_fault written (Repeated n) (OneWide s) a b = absurd (not_distinct written n a b.distinct)
one_fault written (Repeated n) Memory a b = absurd b
one_fault written (UnknownSort n) (Repeated m) a b = absurd (not_distinct written m b a.distinct)
one_fault written (UnknownSort n) (UnknownSort m) a b =
    let x = a.first in
    let y = b.first in
    ap UnknownSort (one_missing (sort_names written) x.front y.front x.behind y.behind n m (sym x.split ∙ y.split) x.known y.known x.missing y.missing)
one_fault written (UnknownSort n) (NoGround s) a b = absurd (not_missing written n b.sig a b.spelled)
one_fault written (UnknownSort n) (OneWide s) a b = absurd (not_missing written n b.sig a b.spelled)
one_fault written (UnknownSort n) Memory a b = absurd b
one_fault written (NoGround s) (Repeated m) a b = absurd (not_distinct written m b a.distinct)
one_fault written (NoGround s) (UnknownSort m) a b = absurd (not_missing written m a.sig b a.spelled)
one_fault written (NoGround s) (NoGround r) a b = ap (λ k. NoGround (record { 0 = k })) (one_empty a.sig s.0 r.0 a.fault (moved IsFirstEmpty written r.0 a.sig b a.distinct a.spelled))
one_fault written (NoGround s) (OneWide r) a b = absurd (empty_wide a.sig s.0 r.0 a.fault (moved IsFirstWide written r.0 a.sig b a.distinct a.spelled))
one_fault written (NoGround s) Memory a b = absurd b
one_fault written (OneWide s) (Repeated m) a b = absurd (not_distinct written m b a.distinct)
one_fault written (OneWide s) (UnknownSort m) a b = absurd (not_missing written m a.sig b a.spelled)
one_fault written (OneWide s) (NoGround r) a b = absurd (empty_wide a.sig r.0 s.0 (moved IsFirstEmpty written r.0 a.sig b a.distinct a.spelled) a.fault)
one_fault written (OneWide s) (OneWide r) a b = ap (λ k. OneWide (record { 0 = k })) (one_wide a.sig s.0 r.0 a.fault (moved IsFirstWide written r.0 a.sig b a.distinct a.spelled))
one_fault written (OneWide s) Memory a b = absurd b
one_fault written Memory g a b = absurd a
