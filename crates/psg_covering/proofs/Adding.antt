-- Rows of a front, and what is added to them.
use Rattle.std.proofs.Common.{◌≡◌, ◌⊎◌, ◌↔◌, ◌<◌, ◌+◌, ◌==◌, inl, inr, ℕ, Bool, eqb-true, arith, IsTrue, List, [], ◌∷◌, ◌++◌, take, length, get_or, Some, slice_get, refl, ap, sym, ◌∙◌, subst}
use Rattle.std.proofs.lemmas.List.{get_or_default}
use Rattle.psg_terms.proofs.Lists.{take_item, in_left}
use Rattle.psg_terms.specs.Terms.{Term}
use Rattle.psg_terms.specs.Signature.{AreTerms, HaveSorts}
use Rattle.psg_terms.specs.Relations.{IsIn, first}
use Rattle.psg_relation.proofs.Members.{in-last, in-split, in-next}
use Rattle.psg_grammar.specs.declared.types.Kind.{Kind}
use Rattle.psg_grammar.specs.declared.types.HoleRow.{HoleRow}
use Rattle.psg_grammar.specs.declared.types.Definition.{Definition}
use Rattle.psg_grammar.specs.Sound.{IsSound}
use Rattle.psg_covering.specs.Choices.{Fits, HasCover, HaveKindSorts, IsCovered, IsCoveredFor, IsRowOf}
use Rattle.psg_covering.specs.Fronts.{Adds, AllCovered, AllFit, AreBare, IsChosen, IsNone}
use Rattle.psg_covering.proofs.Firsts.{take_all}
use Rattle.psg_covering.proofs.SlotChoices.{choices_covered, cover_covers, covered_choice, covered_made, last_covered, made_covered, none_covered}

module _ (def : Definition) (kind : Kind) where
  -- nothing is added for what holds
  pub adds_none : (ks : List Kind) (rows : List (List Term)) (P : Type 0) → P → Adds def kind ks rows rows P
  adds_none ks rows P p = record { fit = λ h. h; bare = λ h. h; covered = (λ h. (h, p), λ h. h.0) }

  -- nothing is added for what is there
  pub adds_present : (ks : List Kind) (rows : List (List Term)) (row : List Term) → IsIn row rows
      → Adds def kind ks rows rows (IsCovered def kind ks row)
  adds_present ks rows row i = record { fit = λ h. h; bare = λ h. h; covered = (λ h. (h, h row i), λ h. h.0) }

  -- one row more
  pub adds_row : (ks : List Kind) (rows : List (List Term)) (head : Term) (columns : List Term) → Fits def kind ks (head ∷ columns)
      → (HasCover def kind head → ⊥) → Adds def kind ks rows (rows ++ (head ∷ columns) ∷ []) (IsCovered def kind ks (head ∷ columns))
  adds_row ks rows head columns fits none = record {
    fit = λ h row i. elim (in-split row (head ∷ columns) rows i) [ inl a ↦ h row a | inr e ↦ subst (Fits def kind ks) (sym e) fits ];
    bare = λ h t ts i c. elim (in-split (t ∷ ts) (head ∷ columns) rows i) [
      | inl a ↦ h t ts a c
      | inr e ↦ none (subst (HasCover def kind) (let d : ◌≡◌ {A = List Term} (t ∷ ts) (head ∷ columns) = e in let s : t ≡ head = cc in s) c)
    ];
    covered = (
      λ h. (λ row i. h row (in_left row rows ((head ∷ columns) ∷ []) i), h (head ∷ columns) (in-last (head ∷ columns) rows)),
      λ h row i. elim (in-split row (head ∷ columns) rows i) [ inl a ↦ h.0 row a | inr e ↦ subst (IsCovered def kind ks) (sym e) h.1 ],
    );
  }

  pub adds_same : (ks : List Kind) (old new : List (List Term)) (P Q : Type 0) → Adds def kind ks old new P → P ↔ Q → Adds def kind ks old new Q
  adds_same ks old new P Q a e = record {
    fit = a.fit;
    bare = a.bare;
    covered = (λ h. let k = a.covered.0 h in (k.0, e.0 k.1), λ h. a.covered.1 (h.0, e.1 h.1));
  }

  pub adds_both : (ks : List Kind) (old mid new : List (List Term)) (P Q : Type 0) → Adds def kind ks old mid P → Adds def kind ks mid new Q
      → Adds def kind ks old new (P × Q)
  adds_both ks old mid new P Q a b = record {
    fit = λ h. b.fit (a.fit h);
    bare = λ h. b.bare (a.bare h);
    covered = (
      λ h. let k = b.covered.0 h in let j = a.covered.0 k.0 in (j.0, (j.1, k.1)),
      λ h. b.covered.1 (a.covered.1 (h.0, h.1.0), h.1.1),
    );
  }

  -- ---- a row that is put in

  headed : (ks : List Kind) (row : List Term) → Fits def kind ks row → (t : Term) × (ts : List Term) × (row ≡ t ∷ ts)
  headed ks row fits = by row fits.sorted where
    by : (row : List Term) → HaveSorts def.signature row (fits.head ∷ fits.sorts) → (t : Term) × (ts : List Term) × (row ≡ t ∷ ts)
    by [] sorted = absurd sorted
    by (t ∷ ts) sorted = (t, ts, refl)

  pub fit_terms : (ks : List Kind) (row : List Term) → Fits def kind ks row → AreTerms def.signature row
  fit_terms ks row fits = (fits.head ∷ fits.sorts, fits.sorted)

  pub drop_covered : (sound : IsSound def) (ks : List Kind) (rows : List (List Term)) (row : List Term) → Fits def kind ks row
      → ((head : Term) (columns : List Term) → row ≡ head ∷ columns → HasCover def kind head) → Adds def kind ks rows rows (IsCovered def kind ks row)
  drop_covered sound ks rows row fits cover =
      let (t, ts, e) = headed ks row fits in
      adds_none ks rows (IsCovered def kind ks row)
      (subst (IsCovered def kind ks) (sym e) (cover_covers def sound kind ks t ts (subst (Fits def kind ks) e fits) (cover t ts e)))

  pub put_row : (sound : IsSound def) (ks : List Kind) (old new : List (List Term)) (row : List Term) → Fits def kind ks row
      → ((head : Term) (columns : List Term) → row ≡ head ∷ columns → HasCover def kind head → ⊥)
      → (new ≡ old ++ row ∷ []) ⊎ ((new ≡ old) × IsIn row old) → Adds def kind ks old new (IsCovered def kind ks row)
  put_row sound ks old new row fits none (inl e) =
      let (t, ts, d) = headed ks row fits in
      subst (λ n. Adds def kind ks old n (IsCovered def kind ks row)) (sym e)
      (subst (λ r. Adds def kind ks old (old ++ r ∷ []) (IsCovered def kind ks r)) (sym d) (adds_row ks old t ts (subst (Fits def kind ks) d fits) (none t ts d)))
  put_row sound ks old new row fits none (inr (e, i)) = subst (λ n. Adds def kind ks old n (IsCovered def kind ks row)) (sym e) (adds_present ks old row i)

  -- ---- what a choice makes

  pub made_some : (ks : List Kind) (old new : List (List Term)) (row made : List Term) (h : HoleRow) → IsChosen def row h made
      → Adds def kind ks old new (IsCovered def kind ks made) → Adds def kind ks old new (IsCoveredFor def kind ks row h)
  made_some ks old new row made h chosen a =
      adds_same ks old new (IsCovered def kind ks made) (IsCoveredFor def kind ks row h) a (made_covered def kind ks row made h chosen, covered_made def kind ks row made h chosen)

  pub made_none : (ks : List Kind) (old : List (List Term)) (row : List Term) (h : HoleRow) → IsNone def row h → Adds def kind ks old old (IsCoveredFor def kind ks row h)
  made_none ks old row h none = adds_none ks old (IsCoveredFor def kind ks row h) (none_covered def kind ks row h none)

  -- ---- the hole rows of a slot

  -- each of the first so many hole rows covers the row
  abbrev pub AreCoveredBy : Kind → List Kind → List Term → List ℕ → Type 0
  AreCoveredBy slot ks row numbers = (r : ℕ) → IsIn r numbers → (h : HoleRow) → IsRowOf def slot r h → IsCoveredFor def kind ks row h

  pub by_none : (slot : Kind) (ks : List Kind) (row : List Term) → AreCoveredBy slot ks row []
  by_none slot ks row r i = elim i [ ]

  pub by_more : (slot : Kind) (ks : List Kind) (row : List Term) (numbers : List ℕ) (i number : ℕ) (h : HoleRow) → i < length numbers
      → number ≡ get_or numbers i number → IsRowOf def slot number h
      → (AreCoveredBy slot ks row (take i numbers) × IsCoveredFor def kind ks row h) ↔ AreCoveredBy slot ks row (take (i + 1) numbers)
  by_more slot ks row numbers i number h lt is of = (
    λ (before, now) r j g k. elim (in-next r numbers i number lt is j) [
      | inl a ↦ before r a g k
      | inr e ↦ subst (IsCoveredFor def kind ks row) (same r g e k) now
    ],
    λ all. (
      λ r j. all r (subst (IsIn r) (sym (take_item numbers i number lt is)) (in_left r (take i numbers) (number ∷ []) j)),
      all number (subst (IsIn number) (sym (take_item numbers i number lt is)) (in-last number (take i numbers))) h of,
    ),
  ) where
    same : (r : ℕ) (g : HoleRow) → r ≡ number → IsRowOf def slot r g → h ≡ g
    same r g e k = let q : Some h ≡ Some g = sym of.0 ∙ ap (slice_get def.hole_rows) (sym e) ∙ k.0 in cc

  pub by_all : (slot : Kind) (ks : List Kind) (row : List Term) (numbers : List ℕ)
      → ((r : ℕ) (h : HoleRow) → IsRowOf def slot r h → IsIn r numbers ⊎ IsCoveredFor def kind ks row h)
      → AreCoveredBy slot ks row numbers ↔ IsCovered def kind (slot ∷ ks) row
  by_all slot ks row numbers among = (
    λ all. choices_covered def kind slot ks row (λ r h of. elim (among r h of) [ inl i ↦ all r i h of | inr c ↦ c ]),
    λ covered r i h of. covered_choice def kind slot ks row r h of covered,
  )

  -- ---- the rows of a front

  -- each of the rows is covered with the slot
  pub next_more : (slot : Kind) (ks : List Kind) (rows : List (List Term)) (i : ℕ) (row : List Term) → i < length rows → row ≡ get_or rows i row
      → (AllCovered def kind (slot ∷ ks) (take i rows) × IsCovered def kind (slot ∷ ks) row) ↔ AllCovered def kind (slot ∷ ks) (take (i + 1) rows)
  next_more slot ks rows i row lt is = (
    λ (before, now) r j. elim (in-next r rows i row lt is j) [ inl a ↦ before r a | inr e ↦ subst (IsCovered def kind (slot ∷ ks)) (sym e) now ],
    λ all. (
      λ r j. all r (subst (IsIn r) (sym (take_item rows i row lt is)) (in_left r (take i rows) (row ∷ []) j)),
      all row (subst (IsIn row) (sym (take_item rows i row lt is)) (in-last row (take i rows))),
    ),
  )

  -- ---- the loops

  pub choices_begin : (slot : Kind) (ks : List Kind) (row : List Term) (rows : List (List Term)) → Adds def kind ks rows rows (AreCoveredBy slot ks row [])
  choices_begin slot ks row rows = adds_none ks rows (AreCoveredBy slot ks row []) (by_none slot ks row)

  pub choices_more : (slot : Kind) (ks : List Kind) (row : List Term) (old mid new : List (List Term)) (numbers : List ℕ) (i : ℕ) (h : HoleRow) → i < length numbers
      → IsRowOf def slot (get_or numbers i 0) h → Adds def kind ks old mid (AreCoveredBy slot ks row (take i numbers)) → Adds def kind ks mid new (IsCoveredFor def kind ks row h)
      → Adds def kind ks old new (AreCoveredBy slot ks row (take (i + 1) numbers))
  choices_more slot ks row old mid new numbers i h lt of a b =
      let number = get_or numbers i 0 in
      adds_same ks old new (AreCoveredBy slot ks row (take i numbers) × IsCoveredFor def kind ks row h) (AreCoveredBy slot ks row (take (i + 1) numbers))
      (adds_both ks old mid new (AreCoveredBy slot ks row (take i numbers)) (IsCoveredFor def kind ks row h) a b)
      (by_more slot ks row numbers i number h lt (get_or_default numbers i 0 number lt) of)

  pub choices_end : (slot : Kind) (ks : List Kind) (row : List Term) (old new : List (List Term)) (numbers items : List ℕ) (i : ℕ) → numbers ≡ items → i ≡ length numbers
      → ((r : ℕ) (h : HoleRow) → IsRowOf def slot r h → IsIn r items ⊎ IsNone def row h) → Adds def kind ks old new (AreCoveredBy slot ks row (take i numbers))
      → Adds def kind ks old new (IsCovered def kind (slot ∷ ks) row)
  choices_end slot ks row old new numbers items i e d among a =
      adds_same ks old new (AreCoveredBy slot ks row numbers) (IsCovered def kind (slot ∷ ks) row)
      (subst (λ l. Adds def kind ks old new (AreCoveredBy slot ks row l)) (take_all numbers i d) a)
      (by_all slot ks row numbers (λ r h of. elim (among r h of) [ inl j ↦ inl (subst (IsIn r) (sym e) j) | inr none ↦ inr (none_covered def kind ks row h none) ]))

  pub rows_begin : (slot : Kind) (ks : List Kind) (rows : List (List Term)) → rows ≡ [] → Adds def kind ks [] rows (AllCovered def kind (slot ∷ ks) [])
  rows_begin slot ks rows e = subst (λ r. Adds def kind ks [] r (AllCovered def kind (slot ∷ ks) [])) (sym e) (adds_none ks [] (AllCovered def kind (slot ∷ ks) []) (λ row i. elim i [ ]))

  pub rows_more : (slot : Kind) (ks : List Kind) (old mid new rows : List (List Term)) (i : ℕ) (row : List Term) → i < length rows → row ≡ get_or rows i row
      → Adds def kind ks old mid (AllCovered def kind (slot ∷ ks) (take i rows)) → Adds def kind ks mid new (IsCovered def kind (slot ∷ ks) row)
      → Adds def kind ks old new (AllCovered def kind (slot ∷ ks) (take (i + 1) rows))
  rows_more slot ks old mid new rows i row lt is a b =
      adds_same ks old new (AllCovered def kind (slot ∷ ks) (take i rows) × IsCovered def kind (slot ∷ ks) row) (AllCovered def kind (slot ∷ ks) (take (i + 1) rows))
      (adds_both ks old mid new (AllCovered def kind (slot ∷ ks) (take i rows)) (IsCovered def kind (slot ∷ ks) row) a b)
      (next_more slot ks rows i row lt is)

  -- what the next front is
  pub record IsNext (slot : Kind) (ks : List Kind) (front next : List (List Term)) : Type 0 where
    pub fit : AllFit def kind ks next
    pub bare : AreBare def kind next
    pub covered : AllCovered def kind ks next ↔ AllCovered def kind (slot ∷ ks) front

  pub rows_end : (slot : Kind) (ks : List Kind) (front next : List (List Term)) (i : ℕ) → i ≡ length front
      → Adds def kind ks [] next (AllCovered def kind (slot ∷ ks) (take i front)) → IsNext slot ks front next
  rows_end slot ks front next i e a = record {
    fit = a.fit (λ row j. elim j [ ]);
    bare = a.bare (λ head columns j. elim j [ ]);
    covered = (
      λ h. subst (AllCovered def kind (slot ∷ ks)) (take_all front i e) (a.covered.0 h).1,
      λ h. a.covered.1 (λ row j. elim j [ ], subst (AllCovered def kind (slot ∷ ks)) (sym (take_all front i e)) h),
    );
  }

  -- ---- the search: the row is covered exactly where all rows of the front are

  pub record IsLeft (slots : List Kind) (row : List Term) (rest : List Kind) (front : List (List Term)) : Type 0 where
    pub fit : AllFit def kind rest front
    pub bare : AreBare def kind front
    pub covered : AllCovered def kind rest front ↔ IsCovered def kind slots row

  pub left_begin : (slots : List Kind) (row : List Term) (none rows : List (List Term)) → none ≡ [] → Adds def kind slots none rows (IsCovered def kind slots row) → IsLeft slots row slots rows
  left_begin slots row none rows e a =
      let b = subst (λ n. Adds def kind slots n rows (IsCovered def kind slots row)) e a in
      record {
        fit = b.fit (λ r j. elim j [ ]);
        bare = b.bare (λ head columns j. elim j [ ]);
        covered = (λ h. (b.covered.0 h).1, λ h. b.covered.1 (λ r j. elim j [ ], h));
      }

  pub left_next : (slots : List Kind) (row : List Term) (slot : Kind) (rest : List Kind) (front next : List (List Term)) → IsLeft slots row (slot ∷ rest) front
      → AllFit def kind rest next → AreBare def kind next → (AllCovered def kind rest next ↔ AllCovered def kind (slot ∷ rest) front) → IsLeft slots row rest next
  left_next slots row slot rest front next left fit bare covered = record {
    fit = fit;
    bare = bare;
    covered = (λ h. left.covered.0 (covered.0 h), λ h. covered.1 (left.covered.1 h));
  }

  alone : (row : List Term) → Fits def kind [] row → (t : Term) × (row ≡ t ∷ [])
  alone row fits = by fits.sorts row fits.of_slots fits.sorted where
    by : (sorts : List ℕ) (row : List Term) → HaveKindSorts def [] sorts → HaveSorts def.signature row (fits.head ∷ sorts) → (t : Term) × (row ≡ t ∷ [])
    by [] [] of_slots sorted = absurd sorted
    by [] (t ∷ []) of_slots sorted = (t, refl)
    by [] (t ∷ u ∷ ts) of_slots sorted = absurd sorted.1
    by (s ∷ ss) row of_slots sorted = absurd of_slots

  -- a row that is left has a value of no hole row
  left_row : (sound : IsSound def) (front : List (List Term)) (row : List Term) → IsIn row front → AllFit def kind [] front → AreBare def kind front → AllCovered def kind [] front → ⊥
  left_row sound front row i fit bare covered =
      let (t, e) = alone row (fit row i) in
      bare t [] (subst (λ r. IsIn r front) e i) (last_covered def sound kind t (subst (Fits def kind []) e (fit row i)) (subst (IsCovered def kind []) e (covered row i)))

  pub left_end : (sound : IsSound def) (slots rest : List Kind) (row : List Term) (front slice : List (List Term)) (b : Bool) → rest ≡ [] → slice ≡ front → b ≡ (length slice == 0)
      → IsLeft slots row rest front → IsTrue b ↔ IsCovered def kind slots row
  left_end sound slots rest row front [] b e d f left = (
    λ h. left.covered.0 (subst (AllCovered def kind rest) d (λ r j. elim j [ ])),
    λ h. f,
  )
  left_end sound slots rest row front (r ∷ rs) b e d f left =
      let l = subst (λ (k : List Kind). IsLeft slots row k (r ∷ rs)) e (subst (IsLeft slots row rest) (sym d) left) in (
        λ h. absurd (let z = eqb-true (length (r ∷ rs)) 0 (sym f ∙ h) in omega (arith, z)),
        λ h. absurd (left_row sound (r ∷ rs) r first l.fit l.bare (l.covered.1 h)),
      )

  pub left_more : (slots : List Kind) (row : List Term) (here rest : List Kind) (slot : Kind) (front slice next : List (List Term)) → here ≡ slot ∷ rest → slice ≡ front
      → IsLeft slots row here front → ((ks : List Kind) → AllFit def kind (slot ∷ ks) slice → AllFit def kind ks next) → AreBare def kind next
      → ((ks : List Kind) → AllFit def kind (slot ∷ ks) slice → AllCovered def kind ks next ↔ AllCovered def kind (slot ∷ ks) slice) → IsLeft slots row rest next
  left_more slots row here rest slot front slice next e d left fits bare covered =
      let l = subst (λ f. IsLeft slots row (slot ∷ rest) f) (sym d) (subst (λ (k : List Kind). IsLeft slots row k front) e left) in
      left_next slots row slot rest slice next l (fits rest l.fit) bare (covered rest l.fit)
