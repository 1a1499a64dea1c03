-- The rows of an operator in which positions with one key agree are the own rows of its nodes.
use Rattle.std.proofs.Common.{◌≡◌, ℕ, ◌<◌, suc, zero, false, List, [], ◌∷◌, ◌++◌, map, length, All, refl, ap, sym, ◌∙◌, subst, Option, Some, slice_get, arith}
use Rattle.std.proofs.lemmas.List.{length-map}
use Rattle.psg_eval.proofs.OwnSelect.{slot_few, slot_count}
use Rattle.psg_terms.proofs.Lists.{each_at}
use Rattle.psg_terms.specs.Names.{Name}
use Rattle.psg_terms.specs.Terms.{Term}
use Rattle.psg_terms.specs.Signature.{HaveSorts}
use Rattle.psg_terms.specs.Instances.{IsGroundInstance, IsGrounding, Substitution, substitute}
use Rattle.psg_terms.specs.Relations.{IsIn, first, later, IsRelation}
use Rattle.psg_grammar.specs.Keys.{Key, in_order}
use Rattle.psg_grammar.specs.Sound.{AreColumns, IsOperator, IsRow}
use Rattle.psg_grammar.specs.declared.types.Definition.{Definition}
use Rattle.psg_grammar.specs.declared.types.Kind.TheVariants as kinds
use Rattle.psg_grammar.specs.declared.types.Operator.{Operator}
use Rattle.psg_grammar.specs.declared.types.Row.{Row}
use Rattle.psg_unify.specs.Pairs.{Pair as Columns, AgreeOn, AreOfEqualSort}
use Rattle.psg_relation.specs.Choices.{AllHaveSorts, AllWithin, IsSelected, picked}
use Rattle.psg_relation.proofs.Relating.{carried}
use Rattle.psg_scope.specs.Headers.{declared_keys, IsHeader, IsOrdered, keys}
use Rattle.psg_scope.specs.declared.header.Header.{Header}
use Rattle.psg_eval.specs.Own.{IsOwn, name_columns, slot_columns}
use Rattle.psg_eval.specs.OwnRows.{OwnRow, name_terms, positions, slot_terms, whole_row}
use Rattle.psg_eval.specs.Partials.{IsPartial}
use Rattle.psg_eval.specs.Summaries.{are_names, AreKeySorts, slot_kinds}
use Rattle.psg_eval.proofs.Halves.{own_width}
use Rattle.psg_eval.proofs.OwnColumns.{own_back, own_pairs, own_to, picks_many}
use Rattle.psg_eval.proofs.OwnPlaces.{SortsPlaced, items_columns, sorts_placed, terms_placed}
use Rattle.psg_eval.proofs.PartialSorts.{IsKeySort, key_sort_same, sorts_along}
use Rattle.psg_terms.proofs.OneRelation.{sorts_length}
use Rattle.psg_session.proofs.Parts.{Partial}
use Rattle.psg_eval.proofs.Walking.{Along, IsEntity, IsThere, Matches, Picks, along_any, along_length, along_map, entities, map_along, matches_agree, picks_append, picks_picked, picks_within}

-- the keys of an operator's positions, with columns and pairs of columns
pub record OwnKeys : Type 0 where
  pub header : Header
  pub columns : List ℕ
  pub pairs : List Columns

-- they are those of the operator with these names, and these are the columns of its slots
pub record AreOwn (def : Definition) (op : Operator) (names : List Name) (slots : List ℕ) (own : OwnKeys) : Type 0 where
  pub fits : length (are_names def op.items) ≡ length names
  pub slots_are : slots ≡ slot_columns 1 op.items
  pub region : IsHeader (keys (positions op.items names)) (declared_keys (positions op.items names))
      (λ _. false) own.header
  pub ordered : IsOrdered own.header
  pub columns : IsOwn (keys (positions op.items names)) (name_columns 1 op.items)
      (keys own.header.names) own.columns own.pairs

entity_same : (g : Key → Term) (k : Key) (x y : Term) → IsEntity g k x → IsEntity g k y → x ≡ y
entity_same g k x y e d = e ∙ sym d

-- a row of the list stands at some place
row_at : (rows : List Row) (row : List Term) → IsIn row (map whole_row rows) → (r : ℕ) × (w : Row)
    × (slice_get rows r ≡ Some w) × (row ≡ whole_row w)
row_at [] row h = elim h [ ]
row_at (w ∷ rows) row first = (0, w, refl, refl)
row_at (w ∷ rows) row (later h) = let (r, v, e, d) = row_at rows row h in (suc r, v, e, d)

at_row : (rows : List Row) (r : ℕ) (w : Row) → slice_get rows r ≡ Some w → IsIn (whole_row w) (map whole_row rows)
at_row [] r w e = absurd (cc)
at_row (v ∷ rows) zero w e = let d : v ≡ w = cc in subst (λ z. IsIn (whole_row z) (map whole_row (v ∷ rows))) d first
at_row (v ∷ rows) (suc r) w e = later (at_row rows r w e)

equal_sorts : (ls rs : List ℕ) (pairs : List Columns) → Matches ls rs pairs → AreOfEqualSort ls rs pairs
equal_sorts ls rs [] h = tt
equal_sorts ls rs (c ∷ pairs) h = (h.0, equal_sorts ls rs pairs h.1)

module _ (def : Definition) (op : Operator) (names : List Name) (slots : List ℕ) (own : OwnKeys)
    (shape : IsOperator def op) (are : AreOwn def op names slots own) where
  abbrev pub row_sorts : List ℕ
  row_sorts = shape.sort ∷ shape.columns

  abbrev pub kept : List ℕ
  kept = (0 ∷ slots) ++ own.columns

  abbrev M : List Key
  M = keys own.header.names

  abbrev ks : List Key
  ks = keys (positions op.items names)

  columns_are : AreColumns def op.items shape.columns
  columns_are = items_columns def op.items shape.columns shape.are_columns

  pub own_sorted : AllHaveSorts def.signature (map whole_row op.rows) row_sorts
  own_sorted row i =
      let (r, w, at, e) = row_at op.rows row i in
      let it = each_at (IsRow def shape.sort shape.columns) op.rows shape.each_row r w at in
      subst (λ z. HaveSorts def.signature z row_sorts) (sym e) (it.of_head.0, it.of_columns)

  placed_sorts : SortsPlaced def op.items names row_sorts 1
  placed_sorts = sorts_placed def op.items names shape.columns (shape.sort ∷ []) 1 refl are.fits columns_are

  key_sorts : (E : List ℕ) × Picks row_sorts own.columns E × Along (IsKeySort def) M E
  key_sorts = own_to row_sorts (IsKeySort def) placed_sorts.own are.columns placed_sorts.named placed_sorts.own_sorts

  kept_picks : Picks row_sorts kept ((shape.sort ∷ placed_sorts.wanted) ++ key_sorts.0)
  kept_picks =
      picks_append row_sorts (0 ∷ slots) own.columns (shape.sort ∷ placed_sorts.wanted) key_sorts.0
      (refl, subst (λ ss. Picks row_sorts ss placed_sorts.wanted) (sym are.slots_are) placed_sorts.slots) key_sorts.1

  pub own_equal : AreOfEqualSort row_sorts row_sorts own.pairs
  own_equal = equal_sorts row_sorts row_sorts own.pairs
      (own_pairs row_sorts (IsKeySort def) (key_sort_same def) placed_sorts.own are.columns placed_sorts.named
      placed_sorts.own_sorts)

  pub own_within : AllWithin (map whole_row op.rows) kept
  own_within row i = subst (λ n. All (λ k. k < n) kept) (sym (sorts_length def.signature row row_sorts (own_sorted row
      i)))
      (picks_within row_sorts kept ((shape.sort ∷ placed_sorts.wanted) ++ key_sorts.0) kept_picks)

  pub own_partial : (rel : List (List Term)) → AllHaveSorts def.signature rel (picked row_sorts kept)
      → (p : Partial def) → p.header ≡ own.header → p.seen ≡ 0 → p.wanted ≡ length slots → p.rel ≡ rel
      → IsPartial def (kinds.Phylum op.phylum) (slot_kinds def op.items) p
  own_partial rel sorted p eh er ew el = record {
    header = subst (λ h. IsOrdered h) (sym eh) are.ordered;
    sort = shape.sort;
    kind_sort = shape.phylum_sort;
    seen = [];
    reported = sym er;
    wanted = placed_sorts.wanted;
    wanted_sorts = placed_sorts.wanted_sorts;
    many = ew ∙ ap length are.slots_are ∙ slot_count def op.items 1;
    few = omega (arith, ap length are.slots_are, slot_few op.items 1, shape.few_items);
    key_sorts = key_sorts.0;
    keys_sorted = subst (λ (h : Header). AreKeySorts def h.names key_sorts.0) (sym eh)
        (sorts_along def own.header.names key_sorts.0 key_sorts.2);
    sorted = subst (λ rows. AllHaveSorts def.signature rows ((shape.sort ∷ placed_sorts.wanted) ++ key_sorts.0))
        (sym el)
        (subst (AllHaveSorts def.signature rel) (picks_picked row_sorts kept ((shape.sort ∷ placed_sorts.wanted) ++
        key_sorts.0) kept_picks) sorted);
  }

  module _ (r : ℕ) (w : Row) (chosen : slice_get op.rows r ≡ Some w) where
    abbrev Selected : List Term → Type 0
    Selected x = (full : List Term) × IsGroundInstance def.signature (whole_row w) full × AgreeOn own.pairs full full
        × (x ≡ picked full kept)

    it : IsRow def shape.sort shape.columns w
    it = each_at (IsRow def shape.sort shape.columns) op.rows shape.each_row r w chosen

    -- a ground instance has its terms at their columns
    module _ (v : Term) (cols : List Term) (many : length cols ≡ length shape.columns) where
      places : Picks (v ∷ cols) (slot_columns 1 op.items) (slot_terms op.items cols)
          × Picks (v ∷ cols) (name_columns 1 op.items) (name_terms op.items cols)
      places = terms_placed def op.items shape.columns (v ∷ []) cols 1 refl many columns_are

      picks : (E : List Term) → Picks (v ∷ cols) own.columns E → Picks (v ∷ cols) kept ((v ∷ slot_terms op.items
          cols) ++ E)
      picks E h =
          picks_append (v ∷ cols) (0 ∷ slots) own.columns (v ∷ slot_terms op.items cols) E
          (refl, subst (λ ss. Picks (v ∷ cols) ss (slot_terms op.items cols)) (sym are.slots_are) places.0) h

      named : (g : Key → Term) → map g ks ≡ name_terms op.items cols → Along (IsEntity g) ks (name_terms op.items cols)
      named g e = subst (Along (IsEntity g) ks) e (along_map g ks)

      -- where positions with one key agree there are entities
      pub entities_of : AgreeOn own.pairs (v ∷ cols) (v ∷ cols)
          → (g : Key → Term) × (map g ks ≡ name_terms op.items cols) × (picked (v ∷ cols) kept ≡ (v ∷ slot_terms
          op.items cols) ++ map g (in_order ks))
      entities_of agree =
          let full : List Term = v ∷ cols in
          let (E, pe, me) = own_to full IsThere (name_terms op.items cols) are.columns places.1
          (along_any ks (name_terms op.items cols) (picks_many full (name_columns 1 op.items)
          (name_terms op.items cols) places.1 ∙ own_width are.columns)) in
          let (g, ge) = entities M E are.ordered.keys_rise (along_length IsThere M E me) in
          let back = own_back full (IsEntity g) (name_terms op.items cols) E are.columns agree places.1 pe (subst (Along
          (IsEntity g) M) (sym ge) (along_map g M)) in (
            g,
            sym (map_along g ks (name_terms op.items cols) back),
            picks_picked full kept ((v ∷ slot_terms op.items cols) ++ E) (picks E pe)
                ∙ ap (λ l. (v ∷ slot_terms op.items cols) ++ l) (ge ∙ ap (map g) are.region.keys_are),
          )

      pub agree_of : (g : Key → Term) → map g ks ≡ name_terms op.items cols
          → AgreeOn own.pairs (v ∷ cols) (v ∷ cols) × ((v ∷ slot_terms op.items cols) ++ map g (in_order ks) ≡ picked
          (v ∷ cols) kept)
      agree_of g e =
          let full : List Term = v ∷ cols in
          let (E, pe, me) = own_to full (IsEntity g) (name_terms op.items cols) are.columns places.1 (named g e) in
          let ge : E ≡ map g (in_order ks) = map_along g M E me ∙ ap (map g) are.region.keys_are in (
            matches_agree full full own.pairs (own_pairs full (IsEntity g) (entity_same g)
                (name_terms op.items cols) are.columns places.1 (named g e)),
            sym (picks_picked full kept ((v ∷ slot_terms op.items cols) ++ E) (picks E pe)
                ∙ ap (λ l. (v ∷ slot_terms op.items cols) ++ l) ge),
          )

    wide : (cols : List Term) (f : Substitution) → IsGrounding def.signature f → cols ≡ map (substitute f) w.columns
        → length cols ≡ length shape.columns
    wide cols f k e = ap length e ∙ length-map w.columns (substitute f)
        ∙ sorts_length def.signature w.columns shape.columns it.of_columns

    pub selected_own : (x : List Term) → Selected x → OwnRow def.signature op names r x
    selected_own x (full, (f, k, e), agree, is) =
        let v : Term = substitute f w.head in
        let cols : List Term = map (substitute f) w.columns in
        let (g, same, all) = entities_of v cols (wide cols f k refl) (subst (λ z. AgreeOn own.pairs z z) e agree) in
        record {
          row = w;
          chosen = chosen;
          terms = f;
          grounding = k;
          entity = g;
          agree = same;
          row_is = is
              ∙ ap (λ z. picked z kept) e ∙ all;
        }

    pub own_selected : (x : List Term) → OwnRow def.signature op names r x → Selected x
    own_selected x o =
        let same : o.row ≡ w = let d : ◌≡◌ {A = Option Row} (Some o.row) (Some w) = sym o.chosen ∙ chosen in cc in
        let f = o.terms in
        let v : Term = substitute f w.head in
        let cols : List Term = map (substitute f) w.columns in
        let agree : map o.entity ks ≡ name_terms op.items cols = o.agree
        ∙ ap (λ (z : Row). name_terms op.items (map (substitute f) z.columns)) same in
        let is : x ≡ (v ∷ slot_terms op.items cols) ++ map o.entity (in_order ks) =
        o.row_is ∙ ap (λ (z : Row). (substitute f z.head ∷ slot_terms op.items (map (substitute f) z.columns)) ++ map
        o.entity (in_order ks)) same in
        let a = agree_of v cols (wide cols f o.grounding refl) o.entity agree in
        (v ∷ cols, (f, o.grounding, refl), a.0, is ∙ a.1)

  -- the relation of the selected rows is that of the own rows
  pub selected_relation : (ss : List ℕ) (rel : List (List Term)) → IsRelation def.signature ss (IsSelected def.signature
      (map whole_row op.rows) own.pairs kept) rel
      → IsRelation def.signature ss (OwnRow def.signature op names) rel
  selected_relation ss rel = carried def.signature ss (IsSelected def.signature (map whole_row op.rows) own.pairs kept)
      (OwnRow def.signature op names)
      (λ row columns h.
      let (r, w, at, e) = row_at op.rows row h.0 in (
        r,
        λ x. (
          (λ s. selected_own r w at x (subst (λ z. (full : List Term) × IsGroundInstance def.signature z full
              × AgreeOn own.pairs full full × (x ≡ picked full kept)) e s.1)),
          (λ o. (
            h.0,
            subst (λ z. (full : List Term) × IsGroundInstance def.signature z full
                × AgreeOn own.pairs full full × (x ≡ picked full kept)) (sym e) (own_selected r w at x o),
          )),
        ),
      ))
      (λ r columns o. (
        whole_row o.row,
        λ x. (
          (λ s. selected_own r o.row o.chosen x s.1),
          (λ p. (at_row op.rows r o.row o.chosen, own_selected r o.row o.chosen x p)),
        ),
      ))
      rel
