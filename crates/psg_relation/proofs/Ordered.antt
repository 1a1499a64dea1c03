-- Orders of lists with one element more, and the order that a sort gives.
use Rattle.std.proofs.Common.{◌≡◌, ℕ, ◌<◌, ◌≤◌, Bool, false, inl, inr, List, [], ◌∷◌, ◌++◌, IsTrue, get_or, length, suc, refl, ap, sym, ◌∙◌, subst, nat_cmp, is_lt, arith}
use Rattle.std.specs.Prelude.{string_bytes}
use Rattle.std.specs.Ordering.{is_le, ordering_reverse}
use Rattle.std.specs.Cmp.Lexicographic.{slice_cmp, nat_list_cmp_total}
use Rattle.std.specs.List.Sorted.{IsPermutation, IsSortedBy, IsSortedByClosure}
use denote.Ref.{Bor}
use denote.Param.Members.{Mut}
use Rattle.std.specs.Fn.{Called}
use Rattle.std.proofs.lemmas.Fn.{always_returns_same}
use Rattle.std.specs.declared.cmp.Ordering.{Ordering}
use Rattle.std.specs.declared.cmp.Ordering.TheVariants.{Less, Equal, Greater}
use Rattle.std.proofs.lemmas.Bool.{true≢false}
use Rattle.std.proofs.lemmas.List.MinMax.{ranks_by}
use Rattle.std.proofs.lemmas.List.Sorted.{sorted_far, IsPermutation-sym, Contains-permutation}
use Rattle.std.proofs.lemmas.List.{map-append}
use Rattle.psg_terms.proofs.Lists.{in_left}
use Rattle.psg_terms.specs.Terms.{Term}
use Rattle.psg_terms.specs.Signature.{Signature}
use Rattle.psg_terms.specs.Relations.{IsIn, first, later}
use Rattle.psg_terms.specs.Text.{row_text, IsInTextOrder}
use Rattle.psg_relation.specs.Ordered.{IsOrdered, KeepsOrder, is_not_above}
use Rattle.psg_relation.specs.Sifted.{IsSifted, IsGrown}
use Rattle.psg_relation.specs.Texts.{AreTexts, rows_in}
use Rattle.psg_relation.specs.declared.order.Printed.{Printed}
use Rattle.psg_relation.proofs.Members.{in-last, in-split, in-contains, contains-in, map-in}

ordered-push : {X : Type 0} (test : X → X → Bool) (xs : List X) (x : X) → IsOrdered test xs → ((y : X) → IsIn y xs → IsTrue (test y x)) → IsOrdered test (xs ++ x ∷ [])
ordered-push test [] x o h = (λ y i. elim i [ ], tt)
ordered-push test (z ∷ xs) x (a, o) h = (
  λ y i. elim (in-split y x xs i) [ inl b ↦ a y b | inr e ↦ subst (λ w. IsTrue (test z w)) (sym e) (h z first) ],
  ordered-push test xs x o (λ y i. h y (later i)),
)

ordered-front : {X : Type 0} (test : X → X → Bool) (xs : List X) (x : X) → IsOrdered test (xs ++ x ∷ []) → IsOrdered test xs
ordered-front test [] x o = tt
ordered-front test (z ∷ xs) x (a, o) = (λ y i. a y (in_left y xs (x ∷ []) i), ordered-front test xs x o)

ordered-last : {X : Type 0} (test : X → X → Bool) (xs : List X) (x : X) → IsOrdered test (xs ++ x ∷ []) → (y : X) → IsIn y xs → IsTrue (test y x)
ordered-last test [] x o y i = elim i [ ]
ordered-last test (z ∷ xs) x (a, o) y first = a x (in-last x xs)
ordered-last test (z ∷ xs) x (a, o) y (later i) = ordered-last test xs x o y i

-- a walk that keeps an element or passes over it
pub order_push : {X : Type 0} (done kept : List X) (x : X) → ((y : X) → IsIn y kept → IsIn y done) → KeepsOrder done kept → KeepsOrder (done ++ x ∷ []) (kept ++ x ∷ [])
order_push done kept x among k test o = ordered-push test kept x (k test (ordered-front test done x o)) (λ y i. ordered-last test done x o y (among y i))

pub order_skip : {X : Type 0} (done kept : List X) (x : X) → KeepsOrder done kept → KeepsOrder (done ++ x ∷ []) kept
order_skip done kept x k test o = k test (ordered-front test done x o)

-- one row more among the most general ones
pub grown : (done kept : List (List Term)) (row : List Term) (more : List (List Term)) → IsSifted done kept → KeepsOrder done kept → IsGrown kept row more → KeepsOrder (done ++ row ∷ []) more
grown done kept row more s k (inl (covered, e)) = subst (KeepsOrder (done ++ row ∷ [])) (sym e) (order_skip done kept row k)
grown done kept row more s k (inr (uncovered, (rest, l, e))) =
    subst (KeepsOrder (done ++ row ∷ [])) (sym e) (order_push done rest row (λ y i. s.among y (l.among y i)) (λ test o. l.order test (k test o)))

pub texts_ordered : (sig : Signature) (rows : List (List Term)) → IsOrdered (is_not_above sig) rows → IsInTextOrder sig rows
texts_ordered sig [] o = tt
texts_ordered sig (r ∷ []) o = tt
texts_ordered sig (r ∷ s ∷ rest) (a, o) = (a s first, texts_ordered sig (s ∷ rest) o)

-- by the texts that stand beside the rows
abbrev pub text_of : Printed → List ℕ
text_of p = string_bytes p.text

abbrev pub is_below : Printed → Printed → Bool
is_below p q = is_lt (slice_cmp nat_cmp (text_of p) (text_of q))

not-less : (o : Ordering) → is_lt o ≡ false → IsTrue (is_le (ordering_reverse o))
not-less Less e = absurd (true≢false e)
not-less Equal e = refl
not-less Greater e = refl

not-above : (a b : List ℕ) → is_lt (slice_cmp nat_cmp b a) ≡ false → IsTrue (is_le (slice_cmp nat_cmp a b))
not-above a b e = subst (λ o. IsTrue (is_le o)) (sym (nat_list_cmp_total.antisymm a b)) (not-less (slice_cmp nat_cmp b a) e)

far-ordered : (sig : Signature) (printed : List Printed) → ((i j : ℕ) (d : Printed) → i ≤ j → j < length printed → is_below (get_or printed j d) (get_or printed i d) ≡ false) → AreTexts sig printed → IsOrdered (is_not_above sig) (rows_in printed)
far-ordered sig [] h t = tt
far-ordered sig (p ∷ ps) h t = (
  λ y i.
      let (q, there, e) = map-in (λ (o : Printed). o.row) y ps i in
      let (k, l, at) = in-contains q ps there in
      let low : is_below q p ≡ false = subst (λ z. is_below z p ≡ false) at (h 0 (suc k) q (omega arith) (omega arith)) in
      let own : IsTrue (is_le (slice_cmp nat_cmp (text_of p) (text_of q))) = not-above (text_of p) (text_of q) low in
      subst (λ z. IsTrue (is_not_above sig p.row z)) (sym e)
      (subst (λ z. IsTrue (is_le (slice_cmp nat_cmp z (row_text sig q.row)))) (t p first)
      (subst (λ z. IsTrue (is_le (slice_cmp nat_cmp (text_of p) z))) (t q (later there)) own)),
  far-ordered sig ps (λ i j d a b. h (suc i) (suc j) d (omega arith) (omega arith)) (λ q i. t q (later i)),
)

pub texts_moved : (sig : Signature) (before behind : List Printed) → IsPermutation before behind → AreTexts sig before → AreTexts sig behind
texts_moved sig before behind p t q i = t q (contains-in q before (Contains-permutation behind before q (IsPermutation-sym before behind p) (in-contains q behind i)))

pub sorted_ordered : (sig : Signature) (printed : List Printed) → IsSortedBy is_below printed → AreTexts sig printed → IsOrdered (is_not_above sig) (rows_in printed)
sorted_ordered sig printed up t = far-ordered sig printed (sorted_far is_below (ranks_by nat_list_cmp_total text_of) printed up) t

pub texts_next : (sig : Signature) (done : List Printed) (p : Printed) (more : List Printed) → AreTexts sig done → text_of p ≡ row_text sig p.row → more ≡ done ++ p ∷ [] → AreTexts sig more
texts_next sig done p more t own e q i =
    elim (in-split q p done (subst (IsIn q) e i)) [ inl a ↦ t q a | inr d ↦ subst (λ (z : Printed). text_of z ≡ row_text sig z.row) (sym d) own ]

-- from a sort by a closure that compares the texts
pub sorted_by_texts : {F : Type 0} {g : Mut F (Bor Printed × (Bor Printed × Unit {0})) Ordering} {f : F} (printed : List Printed) → IsSortedByClosure g f printed
    → ((a : Bor Printed × (Bor Printed × Unit {0})) (r : Ordering) (f' : F) → Called g f a r f' → (r ≡ slice_cmp nat_cmp (text_of a.0.now) (text_of a.1.0.now)) × (f' ≡ f)) → IsSortedBy is_below printed
sorted_by_texts {g = g} {f = f} printed up h = up is_below (ranks_by nat_list_cmp_total text_of)
    (always_returns_same g (λ a r. is_lt r ≡ is_below a.0.now a.1.0.now) f (λ a r f' k. (ap is_lt (h a r f' k).0, (h a r f' k).1)))

pub rows_next : (printed : List Printed) (p : Printed) (more : List Printed) (rows : List (List Term)) → rows_in printed ≡ rows → more ≡ printed ++ p ∷ [] → rows_in more ≡ rows ++ p.row ∷ []
rows_next printed p more rows h e = ap rows_in e ∙ map-append (λ (q : Printed). q.row) printed (p ∷ []) ∙ ap (λ (xs : List (List Term)). xs ++ p.row ∷ []) h
