-- Laws of the marks of kinds.
use Rattle.std.proofs.Common.{◌≡◌, ◌≢◌, ◌⊎◌, inl, inr, ℕ, zero, suc, ◌+◌, ◌<◌, ◌==◌, ◌&&◌, Bool, true, false, cond, List, [], ◌∷◌, length, take, get_or, Option, Some, None, slice_get, refl, sym, ap, ap₂, ◌∙◌, subst, arith, eqb-true, eq-eqb, true≢false}
use Rattle.std.specs.Prelude.{◌↔◌}
use Rattle.std.specs.Bool.{beq}
use Rattle.std.proofs.lemmas.Bool.{cases_Bool, and_parts}
use Rattle.psg_terms.proofs.Lists.{slice_get_item, slice_get_once, beq-refl, beq_same}
use Rattle.psg_grammar.specs.declared.types.Kind.{Kind}
use Rattle.psg_grammar.specs.declared.types.Kind.TheVariants as kinds
use Rattle.psg_grammar.specs.declared.types.HoleRow.{HoleRow}
use Rattle.psg_grammar.specs.declared.types.Definition.{Definition}
use Rattle.psg_grammar.specs.Kinds.{HasKind}
use Rattle.psg_specimen.specs.Conditions.{HasRow}
use Rattle.psg_specimen.specs.Refusal.{IsFirst, IsFirstKind}
use Rattle.psg_specimen.specs.declared.forms.Mark.{Mark}
use Rattle.psg_specimen.specs.Tables.{same_mark, mark_of, IsRowOf}

pub marks_same : (a b : Mark) → same_mark a b ≡ true → a ≡ b
marks_same a b e =
    let both = and_parts (beq a.is_list b.is_list) (a.number == b.number) e in
    ap₂ (λ l n. record { is_list = l; number = n }) (beq_same a.is_list b.is_list both.0) (eqb-true a.number b.number both.1)

pub mark_itself : (a : Mark) → same_mark a a ≡ true
mark_itself a = ap₂ (λ x y. x && y) (beq-refl a.is_list) (eq-eqb a.number a.number refl)

pub take_get : {X : Type 0} (xs : List X) (i n : ℕ) (x : X) → n < i → slice_get xs n ≡ Some x → slice_get (take i xs) n ≡ Some x
take_get {X = X} [] i n x lt e = absurd (let f : ◌≡◌ {A = Option X} None (Some x) = e in cc)
take_get (y ∷ xs) zero n x lt e = absurd (omega (arith, lt))
take_get (y ∷ xs) (suc i) zero x lt e = e
take_get (y ∷ xs) (suc i) (suc n) x lt e = take_get xs i n x (omega (arith, lt)) e

pub get_take : {X : Type 0} (xs : List X) (i n : ℕ) (x : X) → slice_get (take i xs) n ≡ Some x → (n < i) × (slice_get xs n ≡ Some x)
get_take {X = X} [] zero n x e = absurd (let f : ◌≡◌ {A = Option X} None (Some x) = e in cc)
get_take {X = X} [] (suc i) n x e = absurd (let f : ◌≡◌ {A = Option X} None (Some x) = e in cc)
get_take {X = X} (y ∷ xs) zero n x e = absurd (let f : ◌≡◌ {A = Option X} None (Some x) = e in cc)
get_take (y ∷ xs) (suc i) zero x e = (omega arith, e)
get_take (y ∷ xs) (suc i) (suc n) x e = let h = get_take xs i n x e in (let lt = h.0 in omega (arith, lt), h.1)

-- the mark of one more row
pub marks_next : (old new : Mark → Bool) (rows : List HoleRow) (i : ℕ) (row : HoleRow) (k : Mark) → i < length rows → row ≡ get_or rows i row → k ≡ mark_of row.kind
    → ((j : Mark) → new j ≡ cond (same_mark k j) true (old j)) → ((j : Mark) → (old j ≡ true) ↔ IsRowOf (take i rows) j) → (j : Mark) → (new j ≡ true) ↔ IsRowOf (take (i + 1) rows) j
marks_next old new rows i row k lt is same step h j = (there, back) where
  at : slice_get rows i ≡ Some row
  at = slice_get_item rows i row lt is

  there : new j ≡ true → IsRowOf (take (i + 1) rows) j
  there e = elim (cases_Bool (same_mark k j)) [
    | inl t ↦ (i, row, take_get rows (i + 1) i row (omega arith) at, sym same ∙ marks_same k j t)
    | inr f ↦ (
        let (r, x, found, of) = (h j).0 (sym (step j ∙ ap (λ b. cond b true (old j)) f) ∙ e) in
        let (less, there) = get_take rows i r x found in (r, x, take_get rows (i + 1) r x (omega (arith, less)) there, of))
  ]

  old_row : (r : ℕ) (x : HoleRow) → r < i + 1 → slice_get rows r ≡ Some x → mark_of x.kind ≡ j → (same_mark k j ≡ true) ⊎ (old j ≡ true)
  old_row r x less found of = elim (cases_Bool (r == i)) [
    | inl e ↦ inl (let one : row ≡ x = slice_get_once rows i row x at (ap (slice_get rows) (sym (eqb-true r i e)) ∙ found) in
        subst (λ m. same_mark k m ≡ true) (same ∙ ap (λ (y : HoleRow). mark_of y.kind) one ∙ of) (mark_itself k))
    | inr e ↦ inr ((h j).1 (r, x, take_get rows i r x (smaller (λ q. true≢false (sym (eq-eqb r i q) ∙ e))) found, of))
  ] where
    smaller : r ≢ i → r < i
    smaller ne = omega (arith, less, ne)

  back : IsRowOf (take (i + 1) rows) j → new j ≡ true
  back (r, x, found, of) =
      let (less, there) = get_take rows (i + 1) r x found in
      elim (old_row r x less there of) [
        | inl t ↦ step j ∙ ap (λ b. cond b true (old j)) t
        | inr t ↦ step j ∙ ap (λ b. cond (same_mark k j) true b) t ∙ always (same_mark k j)
      ] where
        always : (b : Bool) → cond b true true ≡ true
        always true = refl
        always false = refl

pub marks_none : (j : Mark) → (false ≡ true) ↔ IsRowOf [] j
marks_none j = (λ e. absurd (true≢false (sym e)), λ h. absurd (let (r, row, at, of) = h in let f : ◌≡◌ {A = Option HoleRow} None (Some row) = at in cc))

kind_back : (a b : Kind) → mark_of a ≡ mark_of b → a ≡ b
kind_back (kinds.Phylum p) (kinds.Phylum q) e = ap (λ (m : Mark). kinds.Phylum m.number) e
kind_back (kinds.List p) (kinds.List q) e = ap (λ (m : Mark). kinds.List m.number) e
kind_back (kinds.Phylum p) (kinds.List q) e = absurd (true≢false (sym (ap (λ (m : Mark). m.is_list) e)))
kind_back (kinds.List p) (kinds.Phylum q) e = absurd (true≢false (ap (λ (m : Mark). m.is_list) e))

module _ (def : Definition) (has : Mark → Bool) (h : (k : Mark) → (has k ≡ true) ↔ IsRowOf def.hole_rows k) where
  row_of : (kind : Kind) → has (mark_of kind) ≡ true → HasRow def kind
  row_of kind e there = let (r, row, at, of) = (h (mark_of kind)).0 e in (r, row, at, kind_back row.kind kind of)

  marked : (kind : Kind) → HasKind def kind → HasRow def kind → has (mark_of kind) ≡ true
  marked kind there row = let (r, x, at, of) = row there in (h (mark_of kind)).1 (r, x, at, ap mark_of of)

  pub phylum_first : (n : ℕ) → n < length def.phyla → IsFirst (λ m. has (mark_of (kinds.Phylum m)) ≡ true) n → IsFirstKind (HasRow def) (kinds.Phylum n)
  phylum_first n there first = (λ row. first.0 (marked (kinds.Phylum n) there row), λ m lt. row_of (kinds.Phylum m) (first.1 m lt))

  all_phyla : ((n : ℕ) → n < length def.phyla → has (mark_of (kinds.Phylum n)) ≡ true) → (p : ℕ) → HasRow def (kinds.Phylum p)
  all_phyla all p there = row_of (kinds.Phylum p) (all p there) there

  pub list_first : ((n : ℕ) → n < length def.phyla → has (mark_of (kinds.Phylum n)) ≡ true)
      → (n : ℕ) → n < length def.lists → IsFirst (λ m. has (mark_of (kinds.List m)) ≡ true) n → IsFirstKind (HasRow def) (kinds.List n)
  list_first all n there first = (all_phyla all, (λ row. first.0 (marked (kinds.List n) there row), λ m lt. row_of (kinds.List m) (first.1 m lt)))

  pub all_kinds : ((n : ℕ) → n < length def.phyla → has (mark_of (kinds.Phylum n)) ≡ true)
      → ((n : ℕ) → n < length def.lists → has (mark_of (kinds.List n)) ≡ true) → (kind : Kind) → HasRow def kind
  all_kinds phyla lists (kinds.Phylum p) = all_phyla phyla p
  all_kinds phyla lists (kinds.List l) = λ there. row_of (kinds.List l) (lists l there) there
