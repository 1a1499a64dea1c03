-- Step 0: where the equations of a row have a solution, its columns are an instance of a row of the true relation.
use Rattle.std.proofs.Common.{◌≡◌, ℕ, suc, ◌+◌, Bool, true, false, cond, List, [], ◌∷◌, map, Option, Some, None, refl, sym, ap, ◌∙◌, slice_get, arith}
use Rattle.std.specs.List.{AllByRecursion}
use Rattle.std.proofs.lemmas.Bool.{eqb-true}
use Rattle.psg_terms.specs.Names.{Name, has_twice}
use Rattle.psg_terms.specs.Terms.{Term}
use Rattle.psg_terms.specs.Signature.{HaveSorts, Signature}
use Rattle.psg_terms.specs.Instances.{IsGrounding, Substitution, substitute}
use Rattle.psg_terms.specs.Relations.{IsRelation}
use Rattle.psg_terms.proofs.Lists.{each_append, each_at}
use Rattle.psg_terms.proofs.Variables.{true_false}
use Rattle.psg_grammar.specs.declared.types.Kind.{Kind}
use Rattle.psg_grammar.specs.declared.types.Kind.TheVariants as kinds
use Rattle.psg_grammar.specs.declared.types.Item.{Item}
use Rattle.psg_grammar.specs.declared.types.Item.TheVariants as items
use Rattle.psg_grammar.specs.declared.types.Row.{Row}
use Rattle.psg_grammar.specs.declared.types.HoleRow.{HoleRow}
use Rattle.psg_grammar.specs.declared.types.ListKind.{ListKind}
use Rattle.psg_grammar.specs.declared.types.Operator.{Operator}
use Rattle.psg_grammar.specs.declared.types.Definition.{Definition}
use Rattle.psg_grammar.specs.Fragments.{Fragment, hole, ending, cell, anything}
use Rattle.psg_grammar.specs.Keys.{Key, in_order}
use Rattle.psg_grammar.specs.Open.{IsOfCellRow}
use Rattle.psg_grammar.specs.Regions.{declared_inside}
use Rattle.psg_grammar.specs.Relations.{IsPossibleInside}
use Rattle.psg_grammar.specs.Sound.{IsHoleRow, IsRow, IsSound, IsTermOf}
use Rattle.psg_grammar.proofs.SoundParts.{list_sound, operator_sound}
use Rattle.psg_scope.specs.Headers.{keys}
use Rattle.psg_eval.specs.OwnRows.{name_terms, positions, slot_terms, whole_row}
use Rattle.psg_eval.specs.Trees.{IsNode}
use Rattle.psg_eval.proofs.Spines.{bare, choice_of}
use Rattle.psg_eval.proofs.Usual.{usual, usual_entities}
use Rattle.psg_explain.specs.declared.given.Case.{Case}
use Rattle.psg_explain.specs.Fitted.{IsCoverable}
use Rattle.psg_explain.specs.Given.{beside, cell_rows_of, hole_rows_of, key_terms, nil_rows_of, own_case, own_cases, plain_case, plain_cases, same_kind_as}
use Rattle.psg_explain.proofs.CoverLaws.{AreFine, IsFine, beside_fine, coverable, evenly, fine_row, key_terms_fine, own_written}
use Rattle.psg_explain.proofs.FairLaws.{own_even, position_entities}
use Rattle.psg_explain.proofs.OwnCovers.{own_possible}

two_terms : (sig : Signature) (row : List Term) (s r : ℕ) → HaveSorts sig row (s ∷ r ∷ []) → (a : Term) × (b : Term) × (row ≡ a ∷ b ∷ [])
two_terms sig [] s r h = absurd h
two_terms sig (a ∷ []) s r h = absurd h.1
two_terms sig (a ∷ b ∷ []) s r h = (a, b, refl)
two_terms sig (a ∷ b ∷ c ∷ row) s r h = absurd h.1.1

kind_is : (a b : Kind) → same_kind_as a b ≡ true → a ≡ b
kind_is (kinds.Phylum p) (kinds.Phylum q) e = ap kinds.Phylum (eqb-true p q e)
kind_is (kinds.List l) (kinds.List m) e = ap kinds.List (eqb-true l m e)
kind_is (kinds.Phylum p) (kinds.List m) e = absurd (true_false (sym e))
kind_is (kinds.List l) (kinds.Phylum q) e = absurd (true_false (sym e))

module _ (def : Definition) (sound : IsSound def) (rows : List (List Term)) (sorts : List ℕ) where
  abbrev Covers : Case → Type 0
  Covers c = IsCoverable rows c.given c.columns

  -- ---- rows that stay as they are

  -- each ground instance of the row is possible for one choice
  abbrev IsAllPossible : {C : Type 0} → (C → List Term → Type 0) → List Term → Type 0
  IsAllPossible {C} Possible row = (c : C) × ((h : Substitution) → IsGrounding def.signature h → Possible c (map (substitute h) row))

  module _ {C : Type 0} (Possible : C → List Term → Type 0) (rel : IsRelation def.signature sorts Possible rows) where
    pub plain_covers : (i : ℕ) (row : List Term) → AreFine def.signature row → IsAllPossible Possible row → Covers (plain_case i row)
    plain_covers i row fine (c, all) = coverable def.signature sound.signature sorts Possible rows rel [] row tt fine c (λ h ground solved. all h ground)

    pub all_plain : (i : ℕ) (own : List (List Term)) → AllByRecursion (λ (row : List Term). AreFine def.signature row × IsAllPossible Possible row) own → AllByRecursion Covers (plain_cases i own)
    all_plain i [] h = tt
    all_plain i (row ∷ own) ((fine, possible), h) = (plain_covers i row fine possible, all_plain (i + 1) own h)

  one_fine : (t : Term) (s : ℕ) → IsTermOf def t s → AreFine def.signature (t ∷ [])
  one_fine t s (h, w) = (((s, h), w), tt)

  -- ---- placeholders and ends

  module _ (kind : Kind) (Possible : ℕ → List Term → Type 0)
      (of : (r : ℕ) (h : HoleRow) (f : Substitution) → slice_get def.hole_rows r ≡ Some h → h.kind ≡ kind → IsGrounding def.signature f → Possible r (substitute f h.term ∷ [])) where
    holes_from : (all : List HoleRow) (i : ℕ) → ((k : ℕ) (h : HoleRow) → slice_get all k ≡ Some h → slice_get def.hole_rows (i + k) ≡ Some h) → AllByRecursion (IsHoleRow def) all
        → AllByRecursion (λ (row : List Term). AreFine def.signature row × IsAllPossible Possible row) (hole_rows_of kind all)
    holes_from [] i at is = tt
    holes_from (h ∷ all) i at (one, is) =
        let here : slice_get def.hole_rows i ≡ Some h = let e : i + 0 ≡ i = omega arith in ap (slice_get def.hole_rows) (sym e) ∙ at 0 h refl in
        by (same_kind_as h.kind kind) refl here (holes_from all (i + 1) (λ k g e. let d : i + 1 + k ≡ i + suc k = omega arith in ap (slice_get def.hole_rows) d ∙ at (suc k) g e) is)
      where
        by : (b : Bool) → same_kind_as h.kind kind ≡ b → slice_get def.hole_rows i ≡ Some h → AllByRecursion (λ (row : List Term). AreFine def.signature row × IsAllPossible Possible row) (hole_rows_of kind all)
            → AllByRecursion (λ (row : List Term). AreFine def.signature row × IsAllPossible Possible row) (cond b ((h.term ∷ []) ∷ hole_rows_of kind all) (hole_rows_of kind all))
        by true e here more = ((one_fine h.term one.sort one.term, (i, λ f ground. of i h f here (kind_is h.kind kind e) ground)), more)
        by false e here more = more

    pub hole_covers : IsRelation def.signature sorts Possible rows → AllByRecursion Covers (plain_cases 0 (hole_rows_of kind def.hole_rows))
    hole_covers rel = all_plain Possible rel 0 (hole_rows_of kind def.hole_rows) (holes_from def.hole_rows 0 (λ k h e. let d : 0 + k ≡ k = omega arith in ap (slice_get def.hole_rows) d ∙ e) sound.hole_rows)

  pub covers_hole : (p : ℕ) → IsRelation def.signature sorts (IsPossibleInside def (hole p)) rows → AllByRecursion Covers (plain_cases 0 (hole_rows_of (kinds.Phylum p) def.hole_rows))
  covers_hole p rel = hole_covers (kinds.Phylum p) (IsPossibleInside def (hole p)) (λ r h f at same ground. record {
    distinct = (refl, tt);
    inside = usual def sound;
    entities = usual_entities def sound;
    value = substitute f h.term;
    seen = [];
    holds = (refl, refl, record { row = h; chosen = at; same = same; value = (f, ground, refl) });
    columns_are = refl;
  }) rel

  pub covers_open : (l : ℕ) → IsRelation def.signature sorts (IsPossibleInside def (ending l true)) rows → AllByRecursion Covers (plain_cases 0 (hole_rows_of (kinds.List l) def.hole_rows))
  covers_open l rel = hole_covers (kinds.List l) (IsPossibleInside def (ending l true)) (λ r h f at same ground. record {
    distinct = (refl, tt);
    inside = usual def sound;
    entities = usual_entities def sound;
    value = substitute f h.term;
    seen = [];
    holds = (refl, refl, record { row = h; chosen = at; same = same; value = (f, ground, refl) });
    columns_are = refl;
  }) rel

  module _ (l : ℕ) (list : ListKind) (found : slice_get def.lists l ≡ Some list) where
    nils_from : (all : List Term) (i : ℕ) → ((k : ℕ) (t : Term) → slice_get all k ≡ Some t → slice_get list.nil_rows (i + k) ≡ Some t) → AllByRecursion (λ (t : Term). IsTermOf def t list.sort.0) all
        → AllByRecursion (λ (row : List Term). AreFine def.signature row × IsAllPossible (IsPossibleInside def (ending l false)) row) (map (λ (t : Term). t ∷ []) all)
    nils_from [] i at is = tt
    nils_from (t ∷ all) i at (one, is) =
        let here : slice_get list.nil_rows i ≡ Some t = let e : i + 0 ≡ i = omega arith in ap (slice_get list.nil_rows) (sym e) ∙ at 0 t refl in (
          (
            one_fine t list.sort.0 one,
            (
              i,
              λ f ground. record {
                distinct = (refl, tt);
                inside = usual def sound;
                entities = usual_entities def sound;
                value = substitute f t;
                seen = [];
                holds = (refl, refl, record { kind = list; list = found; row = t; chosen = here; value = (f, ground, refl) });
                columns_are = refl;
              },
            ),
          ),
          nils_from all (i + 1) (λ k u e. let d : i + 1 + k ≡ i + suc k = omega arith in ap (slice_get list.nil_rows) d ∙ at (suc k) u e) is,
        )

    pub some_nils : IsRelation def.signature sorts (IsPossibleInside def (ending l false)) rows → AllByRecursion Covers (plain_cases 0 (map (λ (t : Term). t ∷ []) list.nil_rows))
    some_nils rel =
        let is = list_sound def sound l list found in
        all_plain (IsPossibleInside def (ending l false)) rel 0 (map (λ (t : Term). t ∷ []) list.nil_rows) (nils_from list.nil_rows 0 (λ k t e. let d : 0 + k ≡ k = omega arith in ap (slice_get list.nil_rows) d ∙ e) is.nils)

    -- ---- cells

    cells_from : (element : ℕ) (all : List Row) (i : ℕ) → ((k : ℕ) (row : Row) → slice_get all k ≡ Some row → slice_get list.cell_rows (i + k) ≡ Some row) → AllByRecursion (IsRow def list.sort.0 (element ∷ list.sort.0 ∷ [])) all
        → AllByRecursion (λ (row : List Term). AreFine def.signature row × IsAllPossible (IsPossibleInside def (cell l anything anything)) row) (map whole_row all)
    cells_from element [] i at is = tt
    cells_from element (row ∷ all) i at (one, is) =
        let here : slice_get list.cell_rows i ≡ Some row = let e : i + 0 ≡ i = omega arith in ap (slice_get list.cell_rows) (sym e) ∙ at 0 row refl in
        let (a, b, two) = two_terms def.signature row.columns element list.sort.0 one.of_columns in (
          (
            (((list.sort.0, one.of_head.0), one.of_head.1), fine_row def.signature row.columns (element ∷ list.sort.0 ∷ []) one.of_columns one.written),
            (
              (i, tt, tt),
              λ f ground.
                  let columns : map (substitute f) row.columns ≡ substitute f a ∷ substitute f b ∷ [] = ap (map (substitute f)) two in
                  let of : IsOfCellRow def l i (substitute f row.head) (substitute f a) (substitute f b) = record {
                    kind = list;
                    list = found;
                    row = row;
                    chosen = here;
                    value = record { terms = f; grounding = ground; head = refl; rest = sym columns };
                  } in
                  record {
                    distinct = (refl, (tt, (λ e. refl), tt));
                    inside = usual def sound;
                    entities = usual_entities def sound;
                    value = substitute f row.head;
                    seen = substitute f a ∷ substitute f b ∷ [];
                    holds = (refl, substitute f a, substitute f b, substitute f b ∷ [], usual def sound, of, usual_entities def sound, refl, (refl, refl), (refl, refl));
                    columns_are = ap (λ (ys : List Term). substitute f row.head ∷ ys) columns;
                  },
            ),
          ),
          cells_from element all (i + 1) (λ k u e. let d : i + 1 + k ≡ i + suc k = omega arith in ap (slice_get list.cell_rows) d ∙ at (suc k) u e) is,
        )

    pub some_cells : IsRelation def.signature sorts (IsPossibleInside def (cell l anything anything)) rows → AllByRecursion Covers (plain_cases 0 (map whole_row list.cell_rows))
    some_cells rel =
        let is = list_sound def sound l list found in
        all_plain (IsPossibleInside def (cell l anything anything)) rel 0 (map whole_row list.cell_rows) (cells_from is.element list.cell_rows 0 (λ k t e. let d : 0 + k ≡ k = omega arith in ap (slice_get list.cell_rows) d ∙ e) is.cells)

  pub covers_nils : (l : ℕ) (o : Option ListKind) → slice_get def.lists l ≡ o → IsRelation def.signature sorts (IsPossibleInside def (ending l false)) rows → AllByRecursion Covers (plain_cases 0 (nil_rows_of o))
  covers_nils l None e rel = tt
  covers_nils l (Some list) e rel = some_nils l list e rel

  pub covers_cells : (l : ℕ) (o : Option ListKind) → slice_get def.lists l ≡ o → IsRelation def.signature sorts (IsPossibleInside def (cell l anything anything)) rows → AllByRecursion Covers (plain_cases 0 (cell_rows_of o))
  covers_cells l None e rel = tt
  covers_cells l (Some list) e rel = some_cells l list e rel

  -- ---- operators

  slots_fine : (xs : List Item) (ts : List Term) → AreFine def.signature ts → AreFine def.signature (slot_terms xs ts)
  slots_fine [] ts h = tt
  slots_fine (items.Slot k ∷ xs) [] h = tt
  slots_fine (items.Slot k ∷ xs) (t ∷ ts) (p, h) = (p, slots_fine xs ts h)
  slots_fine (items.Refers s ∷ xs) [] h = tt
  slots_fine (items.Refers s ∷ xs) (t ∷ ts) (p, h) = slots_fine xs ts h
  slots_fine (items.Declares s ∷ xs) [] h = tt
  slots_fine (items.Declares s ∷ xs) (t ∷ ts) (p, h) = slots_fine xs ts h
  slots_fine (_ ∷ xs) ts h = slots_fine xs ts h

  names_fine : (xs : List Item) (ts : List Term) → AreFine def.signature ts → AreFine def.signature (name_terms xs ts)
  names_fine [] ts h = tt
  names_fine (items.Slot k ∷ xs) [] h = tt
  names_fine (items.Slot k ∷ xs) (t ∷ ts) (p, h) = names_fine xs ts h
  names_fine (items.Refers s ∷ xs) [] h = tt
  names_fine (items.Refers s ∷ xs) (t ∷ ts) (p, h) = (p, names_fine xs ts h)
  names_fine (items.Declares s ∷ xs) [] h = tt
  names_fine (items.Declares s ∷ xs) (t ∷ ts) (p, h) = (p, names_fine xs ts h)
  names_fine (_ ∷ xs) ts h = names_fine xs ts h

  module _ (o : ℕ) (op : Operator) (found : slice_get def.operators o ≡ Some op) (names : List Name) (f : Fragment) (node : IsNode def o names f) (once : has_twice (declared_inside def (bare f)) ≡ false)
      (rel : IsRelation def.signature sorts (IsPossibleInside def (bare f)) rows) where
    own_covers : (i r : ℕ) (row : Row) → slice_get op.rows r ≡ Some row → Covers (own_case op names i row)
    own_covers i r row chosen =
        let shape = operator_sound def sound o op found in
        let is = each_at (IsRow def shape.sort shape.columns) op.rows shape.each_row r row chosen in
        let ks : List Key = keys (positions op.items names) in
        let terms : List Term = name_terms op.items row.columns in
        let fine = fine_row def.signature row.columns shape.columns is.of_columns is.written in
        let own = names_fine op.items row.columns fine in
        let even = own_even def [] [] ks terms refl tt (position_entities def op.items names row.columns shape.columns shape.are_columns is.of_columns) in
        let front : AreFine def.signature (row.head ∷ slot_terms op.items row.columns) = (((shape.sort, is.of_head.0), is.of_head.1), slots_fine op.items row.columns fine) in
        coverable def.signature sound.signature sorts (IsPossibleInside def (bare f)) rows rel (own_case op names i row).given (own_case op names i row).columns (evenly def.signature (own_case op names i row).given even (own_written def.signature [] [] ks terms tt own))
        (each_append (IsFine def.signature) (row.head ∷ slot_terms op.items row.columns) (key_terms (beside ks terms) (in_order ks)) front (key_terms_fine def.signature (beside ks terms) (λ k u e. beside_fine def.signature ks terms k u own e) (in_order ks)))
        (choice_of f r) (λ h ground solved. own_possible def o op found names f node sound once r row chosen i h ground solved)

    own_from : (i : ℕ) (all : List Row) → ((k : ℕ) (row : Row) → slice_get all k ≡ Some row → slice_get op.rows (i + k) ≡ Some row) → AllByRecursion Covers (own_cases op names i all)
    own_from i [] at = tt
    own_from i (row ∷ all) at =
        let here : slice_get op.rows i ≡ Some row = let e : i + 0 ≡ i = omega arith in ap (slice_get op.rows) (sym e) ∙ at 0 row refl in
        (own_covers i i row here, own_from (i + 1) all (λ k u e. let d : i + 1 + k ≡ i + suc k = omega arith in ap (slice_get op.rows) d ∙ at (suc k) u e))

    pub covers_own : AllByRecursion Covers (own_cases op names 0 op.rows)
    covers_own = own_from 0 op.rows (λ k row e. let d : 0 + k ≡ k = omega arith in ap (slice_get op.rows) d ∙ e)
