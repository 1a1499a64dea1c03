-- Step 0: right claims on the rows of the node itself cover what is possible for it without children.
use Rattle.std.proofs.Common.{◌≡◌, ℕ, zero, suc, ◌+◌, true, false, cond, Bool, List, [], ◌∷◌, ◌++◌, map, Option, Some, None, refl, sym, ap, ap₂, ◌∙◌, subst, slice_get}
use Rattle.std.specs.Prelude.{option_map}
use Rattle.std.proofs.lemmas.Option.{none-some}
use Rattle.psg_terms.specs.Names.{Name, is_among}
use Rattle.psg_terms.specs.Terms.{Term}
use Rattle.psg_terms.specs.Instances.{Substitution, substitute, IsInstance}
use Rattle.psg_terms.specs.Canonical.{IsCanonical}
use Rattle.psg_terms.specs.Relations.{IsIn, first, later}
use Rattle.psg_terms.proofs.Lists.{in_at, eqb-refl}
use Rattle.psg_grammar.specs.declared.types.Item.{Item}
use Rattle.psg_grammar.specs.declared.types.Item.TheVariants as items
use Rattle.psg_grammar.specs.declared.types.Kind.{Kind}
use Rattle.psg_grammar.specs.declared.types.Kind.TheVariants as kinds
use Rattle.psg_grammar.specs.declared.types.HoleRow.{HoleRow}
use Rattle.psg_grammar.specs.declared.types.ListKind.{ListKind}
use Rattle.psg_grammar.specs.declared.types.Row.{Row}
use Rattle.psg_grammar.specs.declared.types.Operator.{Operator}
use Rattle.psg_grammar.specs.declared.types.Definition.{Definition}
use Rattle.psg_grammar.specs.Fragments.{Fragment, hole, ending, cell, anything}
use Rattle.psg_grammar.specs.Keys.{Key, in_order}
use Rattle.psg_grammar.specs.Open.{Choice}
use Rattle.psg_grammar.specs.Relations.{IsPossibleInside}
use Rattle.psg_grammar.specs.Sound.{IsSound}
use Rattle.psg_grammar.specs.Steps.{first_children}
use Rattle.psg_relation.proofs.Members.{in-map}
use Rattle.psg_relation.specs.Choices.{pick}
use Rattle.psg_scope.specs.Headers.{keys}
use Rattle.psg_scope.proofs.HeaderLaws.{keys-whole}
use Rattle.psg_scope.proofs.KeyLists.{in_order-among}
use Rattle.psg_eval.specs.OwnRows.{OwnRow, positions, slot_terms, name_terms, whole_row}
use Rattle.psg_eval.specs.Trees.{IsNode}
use Rattle.psg_eval.proofs.FirstStep.{first_is, own_of_possible}
use Rattle.psg_eval.proofs.Spines.{bare, row_of, choice-row}
use Rattle.psg_explain.specs.declared.refutation.Verdict.{Verdict}
use Rattle.psg_explain.specs.Equations.{Equation}
use Rattle.psg_explain.specs.Given.{beside, cell_rows_of, first_cases, hole_rows_of, key_terms, nil_rows_of, own_case, own_cases, own_equations, same_kind_as}
use Rattle.psg_explain.specs.Refutations.{AreRight}
use Rattle.psg_explain.proofs.GoodRows.{AreGood, of_claimed, plain_covered, verdict_in}
use Rattle.psg_explain.proofs.LastRows.{some_entities}
use Rattle.psg_explain.proofs.Pairing.{AreEntitiesOf, beside_is, head_tail}
use Rattle.psg_explain.proofs.Rewriting.{IsOfClaimed, SolvesAll, right_verdict}

-- ---- hole rows

kind_same : (kind : Kind) → same_kind_as kind kind ≡ true
kind_same (kinds.Phylum p) = eqb-refl p
kind_same (kinds.List l) = eqb-refl l

hole_more : (kind : Kind) (h : HoleRow) (rest : List HoleRow) (row : List Term) → IsIn row (hole_rows_of kind rest) → IsIn row (hole_rows_of kind (h ∷ rest))
hole_more kind h rest row i = more (same_kind_as h.kind kind)
  where
    more : (b : Bool) → IsIn row (cond b ((h.term ∷ []) ∷ hole_rows_of kind rest) (hole_rows_of kind rest))
    more true = later i
    more false = i

hole_in : (kind : Kind) (hs : List HoleRow) (r : ℕ) (h : HoleRow) → slice_get hs r ≡ Some h → h.kind ≡ kind → IsIn (h.term ∷ []) (hole_rows_of kind hs)
hole_in kind [] r h at same = absurd (none-some h at)
hole_in kind (g ∷ hs) zero h at same =
    let e : g ≡ h = cc in
    let test : same_kind_as g.kind kind ≡ true = ap (λ (x : HoleRow). same_kind_as x.kind kind) e ∙ ap (λ k. same_kind_as k kind) same ∙ kind_same kind in
    subst (λ b. IsIn (h.term ∷ []) (cond b ((g.term ∷ []) ∷ hole_rows_of kind hs) (hole_rows_of kind hs))) (sym test)
    (subst (λ (x : HoleRow). IsIn (h.term ∷ []) ((x.term ∷ []) ∷ hole_rows_of kind hs)) (sym e) first)
hole_in kind (g ∷ hs) (suc r) h at same = hole_more kind g hs (h.term ∷ []) (hole_in kind hs r h at same)

-- ---- an operator's own rows

pub slots_map : (g : Term → Term) (xs : List Item) (ts : List Term) → slot_terms xs (map g ts) ≡ map g (slot_terms xs ts)
slots_map g [] ts = refl
slots_map g (items.Slot k ∷ xs) [] = refl
slots_map g (items.Slot k ∷ xs) (t ∷ ts) = ap (λ l. g t ∷ l) (slots_map g xs ts)
slots_map g (items.Refers s ∷ xs) [] = refl
slots_map g (items.Refers s ∷ xs) (t ∷ ts) = slots_map g xs ts
slots_map g (items.Declares s ∷ xs) [] = refl
slots_map g (items.Declares s ∷ xs) (t ∷ ts) = slots_map g xs ts
slots_map g (_ ∷ xs) ts = slots_map g xs ts

pub names_map : (g : Term → Term) (xs : List Item) (ts : List Term) → name_terms xs (map g ts) ≡ map g (name_terms xs ts)
names_map g [] ts = refl
names_map g (items.Slot k ∷ xs) [] = refl
names_map g (items.Slot k ∷ xs) (t ∷ ts) = names_map g xs ts
names_map g (items.Refers s ∷ xs) [] = refl
names_map g (items.Refers s ∷ xs) (t ∷ ts) = ap (λ l. g t ∷ l) (names_map g xs ts)
names_map g (items.Declares s ∷ xs) [] = refl
names_map g (items.Declares s ∷ xs) (t ∷ ts) = ap (λ l. g t ∷ l) (names_map g xs ts)
names_map g (_ ∷ xs) ts = names_map g xs ts

module _ (f : Substitution) (entity : Key → Term) where
  pushed : (ns : List Key) (us : List Term) (k : Key) (t : Term) → AreEntitiesOf f entity ns us → substitute f t ≡ entity k → AreEntitiesOf f entity (ns ++ k ∷ []) (us ++ t ∷ [])
  pushed [] [] k t h e = ap (λ x. x ∷ []) e
  pushed [] (u ∷ us) k t h e = absurd (cc)
  pushed (n ∷ ns) [] k t h e = absurd (cc)
  pushed (n ∷ ns) (u ∷ us) k t h e =
      let (one, more) = head_tail f entity u us n ns h in
      ap₂ (λ x xs. x ∷ xs) one (pushed ns us k t more e)

  own_one : (o : Option Term) (t : Term) (k : Key) (es : List Equation) → ((u : Term) → o ≡ Some u → substitute f u ≡ entity k) → substitute f t ≡ entity k → SolvesAll f es
      → SolvesAll f (pick (option_map (λ u. (u, t)) o) es)
  own_one None t k es h e more = more
  own_one (Some u) t k es h e more = (h u refl ∙ sym e, more)

  own_hold : (ns : List Key) (us : List Term) (ks : List Key) (ts : List Term) → AreEntitiesOf f entity ns us → AreEntitiesOf f entity ks ts → SolvesAll f (own_equations ns us ks ts)
  own_hold ns us [] ts h e = tt
  own_hold ns us (k ∷ ks) [] h e = tt
  own_hold ns us (k ∷ ks) (t ∷ ts) h e =
      let (one, more) = head_tail f entity t ts k ks e in
      own_one (beside ns us k) t k (own_equations (ns ++ k ∷ []) (us ++ t ∷ []) ks ts) (λ u d. beside_is f entity ns us k u h d) one
      (own_hold (ns ++ k ∷ []) (us ++ t ∷ []) ks ts (pushed ns us k t h one) more)

map_both : (g : Term → Term) (xs ys : List Term) → map g (xs ++ ys) ≡ map g xs ++ map g ys
map_both g [] ys = refl
map_both g (x ∷ xs) ys = ap (λ l. g x ∷ l) (map_both g xs ys)

own_in : (op : Operator) (names : List Name) (i : ℕ) (rows : List Row) (r : ℕ) (row : Row) → slice_get rows r ≡ Some row → (k : ℕ) × IsIn (own_case op names k row) (own_cases op names i rows)
own_in op names i [] r row at = absurd (none-some row at)
own_in op names i (q ∷ rows) zero row at = let e : q ≡ row = cc in (i, subst (λ (z : Row). IsIn (own_case op names i z) (own_cases op names i (q ∷ rows))) e first)
own_in op names i (q ∷ rows) (suc r) row at = let (k, j) = own_in op names (i + 1) rows r row at in (k, later j)

module _ (def : Definition) where
  -- what the own rows of an operator make is an instance of a claimed row
  own_covered : (op : Operator) (names : List Name) (rows : List (List Term)) (verdicts : List Verdict) → AreRight rows (own_cases op names 0 op.rows) verdicts
      → (r : ℕ) (x : List Term) → OwnRow def.signature op names r x → IsOfClaimed rows x
  own_covered op names rows verdicts right r x it =
      let ks : List Key = keys (positions op.items names) in
      let g : Substitution = it.terms in
      let ts : List Term = name_terms op.items it.row.columns in
      let are : AreEntitiesOf g it.entity ks ts = sym (names_map (substitute g) op.items it.row.columns) ∙ sym it.agree in
      let within : (k : Key) → is_among (in_order ks) k ≡ true → is_among ks k ≡ true = λ k i. sym (in_order-among ks k (keys-whole (positions op.items names))) ∙ i in
      let (k, at) = own_in op names 0 op.rows r it.row it.chosen in
      let h = verdict_in rows (own_cases op names 0 op.rows) verdicts right (own_case op names k it.row) at in
      let solved : SolvesAll g (own_equations [] [] ks ts) = own_hold g it.entity [] [] ks ts refl are in
      let columns : map (substitute g) (own_case op names k it.row).columns ≡ x =
      map_both (substitute g) (it.row.head ∷ slot_terms op.items it.row.columns) (key_terms (beside ks ts) (in_order ks))
      ∙ ap₂ (λ l m. (substitute g it.row.head ∷ l) ++ m) (sym (slots_map (substitute g) op.items it.row.columns)) (some_entities g it.entity ks (in_order ks) ts are within)
      ∙ sym it.row_is in
      subst (IsOfClaimed rows) columns (right_verdict g rows (own_case op names k it.row).given (own_case op names k it.row).columns h.verdict h.right solved)

  -- an operator with its names, without children
  pub operator_good : IsSound def → (o : ℕ) (op : Operator) → slice_get def.operators o ≡ Some op → (names : List Name) (f : Fragment) → IsNode def o names f
      → (rows : List (List Term)) (verdicts : List Verdict) → ((row : List Term) → IsIn row rows → IsCanonical def.signature row)
      → AreRight rows (own_cases op names 0 op.rows) verdicts → AreGood def.signature (IsPossibleInside def (first_children 0 f)) rows
  operator_good sound o op found names f node rows verdicts canonical right = record {
    canonical = canonical;
    covers = subst (λ z. (c : Choice z) (x : List Term) → IsPossibleInside def z c x → (row : List Term) × IsIn row rows × IsInstance x row) (sym (first_is def o op found names f node))
        (λ c x it. of_claimed rows x (own_covered op names rows verdicts right (row_of f c) x
        (own_of_possible def o op found names f node sound it.distinct.0 (row_of f c) x (subst (λ d. IsPossibleInside def (bare f) d x) (sym (choice-row f c)) it))));
  }

  pub hole_good : (p : ℕ) (rows : List (List Term)) (verdicts : List Verdict) → ((row : List Term) → IsIn row rows → IsCanonical def.signature row)
      → AreRight rows (first_cases def (hole p)) verdicts → AreGood def.signature (IsPossibleInside def (hole p)) rows
  hole_good p rows verdicts canonical right = record {
    canonical = canonical;
    covers = λ c x it.
        let (none, bare, h) = it.holds in
        let (g, grounding, v_is) = h.value in
        let x_is : map (substitute g) (h.row.term ∷ []) ≡ x = sym (it.columns_are ∙ ap (λ l. (it.value ∷ l) ++ []) bare ∙ ap (λ v. v ∷ []) v_is) in
        of_claimed rows x (subst (IsOfClaimed rows) x_is
        (plain_covered rows 0 (hole_rows_of (kinds.Phylum p) def.hole_rows) verdicts right (h.row.term ∷ []) (hole_in (kinds.Phylum p) def.hole_rows c h.row h.chosen h.same) g));
  }

  pub open_good : (l : ℕ) (rows : List (List Term)) (verdicts : List Verdict) → ((row : List Term) → IsIn row rows → IsCanonical def.signature row)
      → AreRight rows (first_cases def (ending l true)) verdicts → AreGood def.signature (IsPossibleInside def (ending l true)) rows
  open_good l rows verdicts canonical right = record {
    canonical = canonical;
    covers = λ c x it.
        let (none, bare, h) = it.holds in
        let (g, grounding, v_is) = h.value in
        let x_is : map (substitute g) (h.row.term ∷ []) ≡ x = sym (it.columns_are ∙ ap (λ l. (it.value ∷ l) ++ []) bare ∙ ap (λ v. v ∷ []) v_is) in
        of_claimed rows x (subst (IsOfClaimed rows) x_is
        (plain_covered rows 0 (hole_rows_of (kinds.List l) def.hole_rows) verdicts right (h.row.term ∷ []) (hole_in (kinds.List l) def.hole_rows c h.row h.chosen h.same) g));
  }

  nil_in : (l : ℕ) (kind : ListKind) (r : ℕ) (t : Term) → slice_get def.lists l ≡ Some kind → slice_get kind.nil_rows r ≡ Some t → IsIn (t ∷ []) (nil_rows_of (slice_get def.lists l))
  nil_in l kind r t found at = subst (λ o. IsIn (t ∷ []) (nil_rows_of o)) (sym found) (in-map (λ u. u ∷ []) t kind.nil_rows (in_at kind.nil_rows r t at))

  pub end_good : (l : ℕ) (rows : List (List Term)) (verdicts : List Verdict) → ((row : List Term) → IsIn row rows → IsCanonical def.signature row)
      → AreRight rows (first_cases def (ending l false)) verdicts → AreGood def.signature (IsPossibleInside def (ending l false)) rows
  end_good l rows verdicts canonical right = record {
    canonical = canonical;
    covers = λ c x it.
        let (none, bare, h) = it.holds in
        let (g, grounding, v_is) = h.value in
        let x_is : map (substitute g) (h.row ∷ []) ≡ x = sym (it.columns_are ∙ ap (λ l. (it.value ∷ l) ++ []) bare ∙ ap (λ v. v ∷ []) v_is) in
        of_claimed rows x (subst (IsOfClaimed rows) x_is
        (plain_covered rows 0 (nil_rows_of (slice_get def.lists l)) verdicts right (h.row ∷ []) (nil_in l h.kind c h.row h.list h.chosen) g));
  }

  cell_in : (l : ℕ) (kind : ListKind) (r : ℕ) (row : Row) → slice_get def.lists l ≡ Some kind → slice_get kind.cell_rows r ≡ Some row → IsIn (whole_row row) (cell_rows_of (slice_get def.lists l))
  cell_in l kind r row found at = subst (λ o. IsIn (whole_row row) (cell_rows_of o)) (sym found) (in-map whole_row row kind.cell_rows (in_at kind.cell_rows r row at))

  pub cell_good : (l : ℕ) (e t : Fragment) (rows : List (List Term)) (verdicts : List Verdict) → ((row : List Term) → IsIn row rows → IsCanonical def.signature row)
      → AreRight rows (first_cases def (cell l e t)) verdicts → AreGood def.signature (IsPossibleInside def (cell l anything anything)) rows
  cell_good l e t rows verdicts canonical right = record {
    canonical = canonical;
    covers = λ c x it.
        let (none, one, two, mid, inner, of, ei, agr, (bare, seen_is), (empty, mid_is)) = it.holds in
        let g : Substitution = of.value.terms in
        let x_is : map (substitute g) (whole_row of.row) ≡ x =
        sym (it.columns_are ∙ ap (λ ys. (it.value ∷ ys) ++ []) (seen_is ∙ ap (λ ys. one ∷ ys) mid_is) ∙ ap₂ (λ y ys. y ∷ ys) of.value.head of.value.rest) in
        of_claimed rows x (subst (IsOfClaimed rows) x_is
        (plain_covered rows 0 (cell_rows_of (slice_get def.lists l)) verdicts right (whole_row of.row) (cell_in l of.kind c.0 of.row of.list of.chosen) g));
  }
