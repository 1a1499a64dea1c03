-- The steps of a list's first cell.
use Rattle.std.proofs.Common.{◌≡◌, ◌↔◌, ℕ, ◌+◌, false, List, [], ◌∷◌, ◌++◌, length, map, Some, refl, sym, ap, ap₂, ◌∙◌, subst}
use Rattle.psg_terms.proofs.Lists.{each_at, in_at}
use Rattle.std.specs.List.{AllByRecursion, slice_get}
use Rattle.psg_terms.specs.Terms.{Term}
use Rattle.psg_terms.specs.Names.{has_twice}
use Rattle.psg_terms.specs.Signature.{Signature, HaveSorts}
use Rattle.psg_terms.specs.Instances.{substitute, IsGroundInstance}
use Rattle.psg_terms.specs.Relations.{IsRelation, IsGlued}
use Rattle.psg_grammar.specs.declared.types.Kind.TheVariants as kinds
use Rattle.psg_grammar.specs.declared.types.ListKind.{ListKind}
use Rattle.psg_grammar.specs.declared.types.Row.{Row}
use Rattle.psg_grammar.specs.declared.types.Definition.{Definition}
use Rattle.psg_grammar.specs.Fragments.{Fragment, hole, ending, cell, operator, with_child, with_name, with_number, with_text, anything, observed}
use Rattle.psg_grammar.specs.Keys.{in_order}
use Rattle.psg_grammar.specs.Lookups.{is_scope}
use Rattle.psg_grammar.specs.Open.{IsOfCellRow}
use Rattle.psg_grammar.specs.Regions.{declared_inside, names_inside, names_of}
use Rattle.psg_grammar.specs.Relations.{IsPossible, IsPossibleInside}
use Rattle.psg_grammar.specs.Sound.{IsSound, IsRow}
use Rattle.psg_grammar.specs.Steps.{first_children}
use Rattle.psg_grammar.proofs.SoundParts.{list_sound}
use Rattle.psg_relation.specs.Choices.{IsOfRow}
use Rattle.psg_relation.proofs.Members.{in-map, map-in}
use Rattle.psg_scope.specs.Headers.{IsKey}
use Rattle.psg_grammar.specs.Kinds.{IsOfKind}
use Rattle.psg_eval.specs.Glues.{outer_names, NextGlue}
use Rattle.psg_eval.specs.OwnRows.{whole_row}
use Rattle.psg_eval.proofs.Adding.{added_relation}
use Rattle.psg_eval.proofs.NextChild.{first_keys}
use Rattle.psg_eval.proofs.Replacing.{element, rest}
use Rattle.psg_eval.proofs.Usual.{usual, usual_entities, place_of_member, of_rows}

-- a row of two sorts has two terms
two_terms : (sig : Signature) (row : List Term) (s r : ℕ) → HaveSorts sig row (s ∷ r ∷ []) → (a : Term) × (b : Term) × (row ≡ a ∷ b ∷ [])
two_terms sig [] s r h = absurd h
two_terms sig (a ∷ []) s r h = absurd h.1
two_terms sig (a ∷ b ∷ []) s r h = (a, b, refl)
two_terms sig (a ∷ b ∷ c ∷ row) s r h = absurd h.1.1

module _ (def : Definition) where
  -- no list is a scope operator
  pub list_no_scope : (l : ℕ) (r : Fragment) → IsOfKind def r (kinds.List l) → is_scope def r ≡ false
  list_no_scope l (hole p) h = refl
  list_no_scope l (ending k u) h = refl
  list_no_scope l (cell k u v) h = refl
  list_no_scope l (operator o) (op, at, e) = absurd (cc)
  list_no_scope l (with_child f t) h = list_no_scope l f h
  list_no_scope l (with_name f n) h = list_no_scope l f h
  list_no_scope l (with_number f n) h = list_no_scope l f h
  list_no_scope l (with_text f n) h = list_no_scope l f h
  list_no_scope l anything h = absurd h
  list_no_scope l (observed f) h = list_no_scope l f h

  module _ (l : ℕ) (e r : Fragment) where
    -- the ground instances of a cell row are what is possible for the choice of it
    of_cell_row : (sound : IsSound def) (list : ListKind) (k : ℕ) (row : Row) → slice_get def.lists l ≡ Some list → slice_get list.cell_rows k ≡ Some row
        → (x : List Term) → IsGroundInstance def.signature (whole_row row) x ↔ IsPossibleInside def (cell l anything anything) (k, tt, tt) x
    of_cell_row sound list k row found at x = (
      (λ (f, grounding, is).
          let shape = list_sound def sound l list found in
          let rows = each_at (IsRow def list.sort.0 (shape.element ∷ list.sort.0 ∷ [])) list.cell_rows shape.cells k row at in
          let (a, b, two) = two_terms def.signature row.columns shape.element list.sort.0 rows.of_columns in
          let columns : map (substitute f) row.columns ≡ substitute f a ∷ substitute f b ∷ [] = ap (map (substitute f)) two in
          let of : IsOfCellRow def l k (substitute f row.head) (substitute f a) (substitute f b) = record {
            kind = list;
            list = found;
            row = row;
            chosen = at;
            value = record { terms = f; grounding = grounding; head = refl; rest = sym columns };
          } in
          record {
            distinct = (refl, (tt, (λ e. refl), tt));
            inside = usual def sound;
            entities = usual_entities def sound;
            value = substitute f row.head;
            seen = substitute f a ∷ substitute f b ∷ [];
            holds = (refl, substitute f a, substitute f b, substitute f b ∷ [], usual def sound, of, usual_entities def sound, refl, (refl, refl), (refl, refl));
            columns_are = is ∙ ap (λ ys. substitute f row.head ∷ ys) columns;
          }),
      (λ p.
          let (none, one, two, mid, inner, of, ei, agr, (bare, seen_is), (empty, mid_is)) = p.holds in
          let d : of.kind ≡ list = let d : Some of.kind ≡ Some list = sym of.list ∙ found in cc in
          let same : of.row ≡ row = let e : Some of.row ≡ Some row = sym of.chosen ∙ ap (λ (z : ListKind). slice_get z.cell_rows k) d ∙ at in cc in (
            of.value.terms,
            of.value.grounding,
            p.columns_are ∙ ap (λ ys. (p.value ∷ ys) ++ []) (seen_is ∙ ap (λ ys. one ∷ ys) mid_is) ∙ ap₂ (λ y ys. y ∷ ys) of.value.head of.value.rest
                ∙ ap (λ (z : Row). map (substitute of.value.terms) (whole_row z)) same,
          )),
    )

    pub cell_first : (ss : List ℕ) (list : ListKind) (made : List (List Term)) → IsSound def → slice_get def.lists l ≡ Some list
        → IsRelation def.signature ss (IsOfRow def.signature (map whole_row list.cell_rows)) made
        → IsRelation def.signature ss (IsPossibleInside def (first_children 0 (cell l e r))) made
    cell_first ss list made sound found rel =
        of_rows def.signature ss (IsPossibleInside def (cell l anything anything)) (map whole_row list.cell_rows)
        (λ row there.
        let (source, among, e) = map-in whole_row row list.cell_rows there in
        let (k, at) = place_of_member list.cell_rows source among in
        ((k, tt, tt), λ x. subst (λ y. IsGroundInstance def.signature y x ↔ IsPossibleInside def (cell l anything anything) (k, tt, tt) x) (sym e) (of_cell_row sound list k source found at x)))
        (λ c columns p.
        let (none, one, two, mid, inner, of, ei, agr, first, others) = p.holds in
        let d : of.kind ≡ list = let d : Some of.kind ≡ Some list = sym of.list ∙ found in cc in
        let at : slice_get list.cell_rows c.0 ≡ Some of.row = sym (ap (λ (k : ListKind). slice_get k.cell_rows c.0) d) ∙ of.chosen in
        (whole_row of.row, in-map whole_row of.row list.cell_rows (in_at list.cell_rows c.0 of.row at), of_cell_row sound list c.0 of.row found at))
        made rel

    pub cell_element : (ls rs ss : List ℕ) (rows others made : List (List Term)) → AllByRecursion IsKey (outer_names def e)
        → length ls ≡ 3
        → has_twice (declared_inside def (first_children 1 (cell l e r))) ≡ false
        → IsRelation def.signature ls (IsPossibleInside def (first_children 0 (cell l e r))) rows
        → IsRelation def.signature rs (IsPossible def e) others
        → IsRelation def.signature ss (IsGlued def.signature (NextGlue 0 [] (names_of def e) (first_keys def 1 (cell l e r))) rows others) made
        → IsRelation def.signature ss (IsPossibleInside def (first_children 1 (cell l e r))) made
    cell_element ls rs ss rows others made child width =
        added_relation def e (cell l anything anything) (cell l e anything) element 0 tt child ls rs ss rows others made width

    -- `before` is how many values the element reports
    pub cell_rest : (before : ℕ) (ls rs ss : List ℕ) (rows others made : List (List Term)) → is_scope def r ≡ false
        → AllByRecursion IsKey (names_inside def (first_children 1 (cell l e r))) → AllByRecursion IsKey (outer_names def r)
        → length ls ≡ 1 + before + 1 + length (first_keys def 1 (cell l e r))
        → has_twice (declared_inside def (cell l e r)) ≡ false
        → IsRelation def.signature ls (IsPossibleInside def (first_children 1 (cell l e r))) rows
        → IsRelation def.signature rs (IsPossible def r) others
        → IsRelation def.signature ss (IsGlued def.signature (NextGlue before (first_keys def 1 (cell l e r)) (names_of def r) (in_order (names_inside def (cell l e r)))) rows others) made
        → IsRelation def.signature ss (IsPossibleInside def (cell l e r)) made
    cell_rest before ls rs ss rows others made scope whole child width =
        added_relation def r (cell l e anything) (cell l e r) (rest scope) before whole child ls rs ss rows others made width
