-- Some list is the relation of rows of equal sorts.
use Rattle.std.proofs.Common.{◌≡◌, ◌≢◌, ℕ, ◌⊎◌, inl, inr, Bool, false, cond, List, [], ◌∷◌, ◌++◌, append_assoc, IsTrue, map, refl, ap, ap₂, sym, ◌∙◌, subst, Option, Some, None, nat_cmp, is_lt, append-nil}
use Rattle.std.specs.Ordering.{is_le, ordering_reverse}
use Rattle.std.specs.Cmp.{IsStrictWeakOrder}
use Rattle.std.specs.Cmp.Lexicographic.{slice_cmp, nat_list_cmp_total}
use Rattle.std.specs.declared.cmp.Ordering.{Ordering}
use Rattle.std.specs.declared.cmp.Ordering.TheVariants.{Less, Equal, Greater}
use Rattle.std.proofs.lemmas.Bool.{true≢false, cases_Bool, cases_eq}
use Rattle.std.proofs.lemmas.List.MinMax.{ranks_by}
use Rattle.psg_terms.specs.Terms.{Term, variable, symbol, apply}
use Rattle.psg_terms.specs.Signature.{Signature, HaveSorts}
use Rattle.psg_terms.specs.Sound.{IsSound}
use Rattle.psg_terms.specs.Instances.{Substitution, substitute, IsInstance, HasSameInstances}
use Rattle.psg_terms.specs.Canonical.{IsCanonical, same_variable, noted_all, variables_of}
use Rattle.psg_terms.specs.Matching.{Lookup, Agrees, IsConsistent}
use Rattle.psg_terms.specs.Renaming.{opens, numbering, Renumbered}
use Rattle.psg_terms.specs.Relations.{IsIn, first, later, IsRelation}
use Rattle.psg_terms.specs.Text.{row_text}
use Rattle.psg_terms.proofs.Fitting.{updated, updated-agrees, updated-here, grown-here, grown-before, grown-agrees, Grown}
use Rattle.psg_terms.proofs.Renumbering.{renumbered_canonical, renumbered_same}
use Rattle.psg_relation.specs.Choices.{AllHaveSorts, IsOfRow}
use Rattle.psg_relation.specs.Ordered.{IsOrdered, KeepsOrder, is_not_above}
use Rattle.psg_relation.specs.Sealed.{AreCanonicalOf}
use Rattle.psg_relation.specs.Sifted.{IsCovered, IsSifted, LeavesOut, IsGrown}
use Rattle.psg_relation.proofs.Growing.{out_none, out_keep, out_drop, sifted_none, sifted_more}
use Rattle.psg_relation.proofs.Making.{forms_none, forms_push, of_made}
use Rattle.psg_relation.proofs.Ordered.{grown, texts_ordered}
use Rattle.psg_relation.proofs.Relating.{sifted_relation}

-- terms are equal or not
pub term_cases : (a b : Term) → (a ≡ b) ⊎ (a ≢ b)
term_cases (variable s n) (variable p q) = elim (cases_eq s p) [
  | inl d ↦ elim (cases_eq n q) [ inl e ↦ inl (ap₂ variable d e) | inr e ↦ inr (λ h. e (cc)) ]
  | inr d ↦ inr (λ h. d (cc))
]
term_cases (variable s n) (symbol c) = inr (λ h. cc)
term_cases (variable s n) (apply f a) = inr (λ h. cc)
term_cases (symbol c) (variable s n) = inr (λ h. cc)
term_cases (symbol c) (symbol d) = elim (cases_eq c d) [ inl e ↦ inl (ap symbol e) | inr e ↦ inr (λ h. e (cc)) ]
term_cases (symbol c) (apply f a) = inr (λ h. cc)
term_cases (apply f a) (variable s n) = inr (λ h. cc)
term_cases (apply f a) (symbol c) = inr (λ h. cc)
term_cases (apply f a) (apply g b) = elim (term_cases f g) [
  | inl d ↦ elim (term_cases a b) [ inl e ↦ inl (ap₂ apply d e) | inr e ↦ inr (λ h. e (cc)) ]
  | inr d ↦ inr (λ h. d (cc))
]

-- the substitutions of the new table are those of the old one for which something holds
record Meets (old new : Lookup) (Holds : Substitution → Type 0) : Type 0 where
  consistent : IsConsistent old → IsConsistent new
  before : (f : Substitution) → Agrees f new → Agrees f old
  holds : (f : Substitution) → Agrees f new → Holds f
  all : (f : Substitution) → Agrees f old → Holds f → Agrees f new

abbrev Never : Lookup → (Substitution → Type 0) → Type 0
Never old Holds = (f : Substitution) → Agrees f old → Holds f → ⊥

abbrev Decided : Lookup → (Substitution → Type 0) → Type 0
Decided old Holds = ((new : Lookup) × Meets old new Holds) ⊎ Never old Holds

-- one thing after the other
both : (old : Lookup) (P Q R : Substitution → Type 0) → ((f : Substitution) → P f → Q f → R f) → ((f : Substitution) → R f → P f × Q f) → Decided old P → ((new : Lookup) → Decided new Q) → Decided old R
both old P Q R join split (inr never) next = inr (λ f a r. never f a (split f r).0)
both old P Q R join split (inl (mid, m)) next = elim (next mid) [
  | inl (new, k) ↦ inl (
    new,
    record {
      consistent = λ c. k.consistent (m.consistent c);
      before = λ f a. m.before f (k.before f a);
      holds = λ f a. join f (m.holds f (k.before f a)) (k.holds f a);
      all = λ f a r. k.all f (m.all f a (split f r).0) (split f r).1;
    },
  )
  | inr never ↦ inr (λ f a r. never f (m.all f a (split f r).0) (split f r).1)
]

-- what holds of every substitution, and what holds of none
settled : (old : Lookup) (P : Substitution → Type 0) → ((f : Substitution) → P f) → Decided old P
settled old P h = inl (old, record { consistent = λ c. c; before = λ f a. a; holds = λ f a. h f; all = λ f a p. a })

never : (old : Lookup) (P : Substitution → Type 0) → ((f : Substitution) → P f → ⊥) → Decided old P
never old P h = inr (λ f a p. h f p)

abbrev Makes : Term → Term → Substitution → Type 0
Makes general special f = substitute f general ≡ special

at_variable : (old : Lookup) (s n : ℕ) (special : Term) (o : Option Term) → old s n ≡ o → Decided old (Makes (variable s n) special)
at_variable old s n special None e =
    let new : Lookup = λ p q. cond (same_variable (s, n) (p, q)) (Some special) (old p q) in
    let g : Grown old new (s, n) special = λ p q. refl in
    inl (
      new,
      record {
        consistent = λ (f, a). (updated f (s, n) special, grown-agrees (updated f (s, n) special) old new (s, n) special g (updated-agrees f old (s, n) special a e) (updated-here f (s, n) special));
        before = λ f a. grown-before f old new (s, n) special g e a;
        holds = λ f a. a s n special (grown-here old new (s, n) special g);
        all = λ f a m. grown-agrees f old new (s, n) special g a m;
      },
    )
at_variable old s n special (Some t) e = elim (term_cases t special) [
  | inl d ↦ inl (old, record { consistent = λ c. c; before = λ f a. a; holds = λ f a. a s n t e ∙ d; all = λ f a m. a })
  | inr d ↦ inr (λ f a m. d (sym (a s n t e) ∙ m))
]

fit : (general special : Term) (old : Lookup) → Decided old (Makes general special)
fit (variable s n) special old = at_variable old s n special (old s n) refl
fit (symbol c) (variable s n) old = never old (Makes (symbol c) (variable s n)) (λ f m. cc)
fit (symbol c) (symbol d) old = elim (cases_eq c d) [
  | inl e ↦ settled old (Makes (symbol c) (symbol d)) (λ f. ap symbol e)
  | inr e ↦ never old (Makes (symbol c) (symbol d)) (λ f m. e (cc))
]
fit (symbol c) (apply g b) old = never old (Makes (symbol c) (apply g b)) (λ f m. cc)
fit (apply h a) (variable s n) old = never old (Makes (apply h a) (variable s n)) (λ f m. cc)
fit (apply h a) (symbol c) old = never old (Makes (apply h a) (symbol c)) (λ f m. cc)
fit (apply h a) (apply g b) old =
    both old (Makes h g) (Makes a b) (Makes (apply h a) (apply g b)) (λ f d e. ap₂ apply d e) (λ f m. ((cc), (cc))) (fit h g old) (λ new. fit a b new)

abbrev MakesRow : List Term → List Term → Substitution → Type 0
MakesRow general special f = map (substitute f) general ≡ special

fit_row : (general special : List Term) (old : Lookup) → Decided old (MakesRow general special)
fit_row [] [] old = settled old (MakesRow [] []) (λ f. refl)
fit_row [] (y ∷ ys) old = never old (MakesRow [] (y ∷ ys)) (λ f m. cc)
fit_row (x ∷ xs) [] old = never old (MakesRow (x ∷ xs) []) (λ f m. cc)
fit_row (x ∷ xs) (y ∷ ys) old =
    both old (Makes x y) (MakesRow xs ys) (MakesRow (x ∷ xs) (y ∷ ys)) (λ f d e. ap₂ (λ z zs. z ∷ zs) d e) (λ f m. ((cc), (cc))) (fit x y old) (λ new. fit_row xs ys new)

-- a row is an instance of another one or not
pub instance_cases : (special general : List Term) → IsInstance special general ⊎ (IsInstance special general → ⊥)
instance_cases special general = elim (fit_row general special (λ s n. None)) [
  | inl (new, m) ↦ let c = m.consistent (variable, λ s n t e. absurd (none_some t e)) in inl (c.0, sym (m.holds c.0 c.1))
  | inr nope ↦ inr (λ (f, e). nope f (λ s n t d. absurd (none_some t d)) (sym e))
] where
  none_some : (t : Term) → ◌≡◌ {A = Option Term} None (Some t) → ⊥
  none_some t e = cc

-- ---- the most general rows

covered_cases : (kept : List (List Term)) (row : List Term) → IsCovered kept row ⊎ (IsCovered kept row → ⊥)
covered_cases [] row = inr (λ (k, h, i). elim h [ ])
covered_cases (k ∷ kept) row = elim (instance_cases row k) [
  | inl i ↦ inl (k, first, i)
  | inr ni ↦ elim (covered_cases kept row) [
    | inl (m, h, i) ↦ inl (m, later h, i)
    | inr nc ↦ inr (λ (m, h, i). beyond k kept row m ni nc h i)
  ]
] where
  beyond : (k : List Term) (kept : List (List Term)) (row m : List Term) → (IsInstance row k → ⊥) → (IsCovered kept row → ⊥) → IsIn m (k ∷ kept) → IsInstance row m → ⊥
  beyond k kept row m ni nc first i = ni i
  beyond k kept row m ni nc (later h) i = nc (m, h, i)

out_from : (row : List Term) (done rest more : List (List Term)) → LeavesOut row done rest → (r : List (List Term)) × LeavesOut row (done ++ more) r
out_from row done rest [] l = (rest, subst (λ z. LeavesOut row z rest) (sym (append-nil done)) l)
out_from row done rest (k ∷ more) l =
    let step = elim (instance_cases k row) as (λ _. (r : List (List Term)) × LeavesOut row (done ++ k ∷ []) r) [
      | inl i ↦ (rest, out_drop row done rest k l i)
      | inr nope ↦ (rest ++ k ∷ [], out_keep row done rest k l nope)
    ] in
    let found = out_from row (done ++ k ∷ []) step.0 more step.1 in
    (found.0, subst (λ z. LeavesOut row z found.0) (append_assoc done (k ∷ []) more) found.1)

grow : (kept : List (List Term)) (row : List Term) → (more : List (List Term)) × IsGrown kept row more
grow kept row = elim (covered_cases kept row) [
  | inl c ↦ (kept, inl (c, refl))
  | inr nope ↦ (let (rest, l) = out_from row [] [] kept (out_none row) in (rest ++ row ∷ [], inr (nope, (rest, l, refl))))
]

sift_from : (done kept more : List (List Term)) → IsSifted done kept → KeepsOrder done kept → (k : List (List Term)) × IsSifted (done ++ more) k × KeepsOrder (done ++ more) k
sift_from done kept [] s o = (kept, subst (λ z. IsSifted z kept) (sym (append-nil done)) s, subst (λ z. KeepsOrder z kept) (sym (append-nil done)) o)
sift_from done kept (row ∷ more) s o =
    let (next, g) = grow kept row in
    let found = sift_from (done ++ row ∷ []) next more (sifted_more done kept row next s g) (grown done kept row next s o g) in
    (found.0, subst (λ z. IsSifted z found.0) (append_assoc done (row ∷ []) more) found.1, subst (λ z. KeepsOrder z found.0) (append_assoc done (row ∷ []) more) found.2)

-- ---- the order

module _ (sig : Signature) where
  abbrev is_below : List Term → List Term → Bool
  is_below x y = is_lt (slice_cmp nat_cmp (row_text sig x) (row_text sig y))

  weak : IsStrictWeakOrder is_below
  weak = ranks_by nat_list_cmp_total (row_text sig)

  le_from : (o : Ordering) → is_lt o ≡ false → IsTrue (is_le (ordering_reverse o))
  le_from Less e = absurd (true≢false e)
  le_from Equal e = refl
  le_from Greater e = refl

  le_to : (o : Ordering) → IsTrue (is_le (ordering_reverse o)) → is_lt o ≡ false
  le_to Less e = absurd (true≢false (sym e))
  le_to Equal e = refl
  le_to Greater e = refl

  not_below : (x y : List Term) → is_below y x ≡ false → IsTrue (is_not_above sig x y)
  not_below x y e = subst (λ o. IsTrue (is_le o)) (sym (nat_list_cmp_total.antisymm (row_text sig x) (row_text sig y))) (le_from (slice_cmp nat_cmp (row_text sig y) (row_text sig x)) e)

  below_not : (x y : List Term) → IsTrue (is_not_above sig x y) → is_below y x ≡ false
  below_not x y e = le_to (slice_cmp nat_cmp (row_text sig y) (row_text sig x)) (subst (λ o. IsTrue (is_le o)) (nat_list_cmp_total.antisymm (row_text sig x) (row_text sig y)) e)

  above_trans : (x y z : List Term) → IsTrue (is_not_above sig x y) → IsTrue (is_not_above sig y z) → IsTrue (is_not_above sig x z)
  above_trans x y z a b = not_below x z (weak.chain z y x (below_not y z b) (below_not x y a))

  above_total : (x y : List Term) → IsTrue (is_not_above sig x y) ⊎ IsTrue (is_not_above sig y x)
  above_total x y = elim (cases_Bool (is_below y x)) [ inl e ↦ inr (not_below y x (weak.one_way y x e)) | inr e ↦ inl (not_below x y e) ]

  -- the rows and one more, in order
  record IsInserted (x : List Term) (xs ys : List (List Term)) : Type 0 where
    ordered : IsOrdered (is_not_above sig) ys
    there : IsIn x ys
    keeps : (y : List Term) → IsIn y xs → IsIn y ys
    from : (y : List Term) → IsIn y ys → (y ≡ x) ⊎ IsIn y xs

  within : (x z : List Term) (xs ys : List (List Term)) → IsInserted x xs ys → IsTrue (is_not_above sig z x) → ((y : List Term) → IsIn y xs → IsTrue (is_not_above sig z y)) → (y : List Term) → IsIn y ys → IsTrue (is_not_above sig z y)
  within x z xs ys h a all y i = elim (h.from y i) [ inl e ↦ subst (λ w. IsTrue (is_not_above sig z w)) (sym e) a | inr j ↦ all y j ]

  above_all : (x z : List Term) (xs : List (List Term)) → IsTrue (is_not_above sig x z) → ((y : List Term) → IsIn y xs → IsTrue (is_not_above sig z y)) → (y : List Term) → IsIn y (z ∷ xs) → IsTrue (is_not_above sig x y)
  above_all x z xs a all y first = a
  above_all x z xs a all y (later i) = above_trans x z y a (all y i)

  keeps_later : (x z : List Term) (xs ys : List (List Term)) → IsInserted x xs ys → (y : List Term) → IsIn y (z ∷ xs) → IsIn y (z ∷ ys)
  keeps_later x z xs ys h y first = first
  keeps_later x z xs ys h y (later i) = later (h.keeps y i)

  from_later : (x z : List Term) (xs ys : List (List Term)) → IsInserted x xs ys → (y : List Term) → IsIn y (z ∷ ys) → (y ≡ x) ⊎ IsIn y (z ∷ xs)
  from_later x z xs ys h y first = inr first
  from_later x z xs ys h y (later i) = elim (h.from y i) [ inl e ↦ inl e | inr j ↦ inr (later j) ]

  from_first : (x : List Term) (xs : List (List Term)) (y : List Term) → IsIn y (x ∷ xs) → (y ≡ x) ⊎ IsIn y xs
  from_first x xs y first = inl refl
  from_first x xs y (later i) = inr i

  insert : (x : List Term) (xs : List (List Term)) → IsOrdered (is_not_above sig) xs → (ys : List (List Term)) × IsInserted x xs ys
  insert x [] o = (x ∷ [], record { ordered = (λ y i. elim i [ ], tt); there = first; keeps = λ y i. elim i [ ]; from = from_first x [] })
  insert x (z ∷ xs) (a, o) = elim (above_total x z) [
    | inl up ↦ (x ∷ z ∷ xs, record { ordered = (above_all x z xs up a, (a, o)); there = first; keeps = λ y i. later i; from = from_first x (z ∷ xs) })
    | inr down ↦ (let (ys, h) = insert x xs o in
        (z ∷ ys, record { ordered = (within x z xs ys h down a, h.ordered); there = later h.there; keeps = keeps_later x z xs ys h; from = from_later x z xs ys h }))
  ]

  -- the same rows, in order
  record IsArranged (xs ys : List (List Term)) : Type 0 where
    ordered : IsOrdered (is_not_above sig) ys
    there : (y : List Term) → IsIn y xs → IsIn y ys
    back : (y : List Term) → IsIn y ys → IsIn y xs

  there_first : (x : List Term) (xs ys zs : List (List Term)) → IsArranged xs ys → IsInserted x ys zs → (y : List Term) → IsIn y (x ∷ xs) → IsIn y zs
  there_first x xs ys zs a h y first = h.there
  there_first x xs ys zs a h y (later i) = h.keeps y (a.there y i)

  arrange : (xs : List (List Term)) → (ys : List (List Term)) × IsArranged xs ys
  arrange [] = ([], record { ordered = tt; there = λ y i. i; back = λ y i. i })
  arrange (x ∷ xs) =
      let (ys, a) = arrange xs in
      let (zs, h) = insert x ys a.ordered in (
        zs,
        record {
          ordered = h.ordered;
          there = there_first x xs ys zs a h;
          back = λ y i. elim (h.from y i) [ inl e ↦ subst (λ w. IsIn w (x ∷ xs)) (sym e) first | inr j ↦ later (a.back y j) ];
        },
      )

-- ---- the relation

module _ (sig : Signature) (sound : IsSound sig) where
  pub form : (row : List Term) (ss : List ℕ) → HaveSorts sig row ss → (copy : List Term) × IsCanonical sig copy × HasSameInstances sig copy row × ((rs : List ℕ) → HaveSorts sig row rs → HaveSorts sig copy rs)
  form row ss h =
      let known = noted_all [] (opens sig (variables_of row)) in
      let copy : List Term = map (substitute (numbering sig 0 known)) row in
      let made : Renumbered sig 0 [] known row copy = record { known = refl; made = refl } in
      let same = renumbered_same sig sound 0 [] known row copy ss h made in
      (copy, renumbered_canonical sig sound known row copy made, (same.1, same.0), λ rs k. (renumbered_same sig sound 0 [] known row copy rs k made).2)

  forms_from : (ss : List ℕ) (done made more : List (List Term)) → AreCanonicalOf sig done made → ((row : List Term) → IsIn row more → HaveSorts sig row ss) → (forms : List (List Term)) × AreCanonicalOf sig (done ++ more) forms
  forms_from ss done made [] a h = (made, subst (λ z. AreCanonicalOf sig z made) (sym (append-nil done)) a)
  forms_from ss done made (row ∷ more) a h =
      let (copy, canonical, same, sorted) = form row ss (h row first) in
      let found = forms_from ss (done ++ row ∷ []) (made ++ copy ∷ []) more (forms_push sig done made row copy a canonical same sorted) (λ r i. h r (later i)) in
      (found.0, subst (λ z. AreCanonicalOf sig z found.0) (append_assoc done (row ∷ []) more) found.1)

  pub relation_exists : (rows : List (List Term)) (ss : List ℕ) → AllHaveSorts sig rows ss → (rel : List (List Term)) × IsRelation sig ss (IsOfRow sig rows) rel
  relation_exists rows ss h =
      let (made, a) = forms_from ss [] [] rows (forms_none sig) h in
      let (arranged, w) = arrange sig made in
      let (kept, s, o) = sift_from [] [] arranged sifted_none (λ test t. t) in
      let all : IsSifted made kept = record { among = λ k i. w.back k (s.among k i); covers = λ r i. s.covers r (w.there r i); apart = s.apart; once = s.once } in (
        kept,
        of_made sig rows made a ss kept
            (sifted_relation sig sound made ss (a.sorted ss h) (λ r i. (a.canonical r i).written) kept all (λ k i. a.canonical k (all.among k i)) (texts_ordered sig kept (o (is_not_above sig) w.ordered))),
      )
