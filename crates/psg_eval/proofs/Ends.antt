-- The relations of placeholders and of the ends of lists are those of their rows.
use Rattle.std.proofs.Common.{◌≡◌, ◌↔◌, ℕ, true, false, List, [], ◌∷◌, ◌++◌, map, Some, refl, sym, ap, ◌∙◌, subst}
use Rattle.psg_terms.proofs.Lists.{in_at}
use Rattle.std.specs.List.{slice_get}
use Rattle.psg_terms.specs.Terms.{Term}
use Rattle.psg_terms.specs.Instances.{substitute, IsGroundInstance}
use Rattle.psg_terms.specs.Relations.{IsRelation}
use Rattle.psg_grammar.specs.declared.types.Kind.{Kind}
use Rattle.psg_grammar.specs.declared.types.Kind.TheVariants as kinds
use Rattle.psg_grammar.specs.declared.types.HoleRow.{HoleRow}
use Rattle.psg_grammar.specs.declared.types.ListKind.{ListKind}
use Rattle.psg_grammar.specs.declared.types.Definition.{Definition}
use Rattle.psg_grammar.specs.Fragments.{hole, ending}
use Rattle.psg_grammar.specs.Legal.{IsOfTerm}
use Rattle.psg_grammar.specs.Open.{IsOfHoleRow, IsOfNilRow}
use Rattle.psg_grammar.specs.Relations.{IsPossible}
use Rattle.psg_grammar.specs.Sound.{IsSound}
use Rattle.psg_relation.specs.Choices.{IsOfRow}
use Rattle.psg_relation.proofs.Members.{in-map, map-in}
use Rattle.psg_eval.specs.OwnRows.{AreHoleRows}
use Rattle.psg_eval.proofs.Usual.{usual, usual_entities, place_of_member, of_rows}

module _ (def : Definition) (sound : IsSound def) where
  -- ---- what is possible for a tree without children: one value of a row

  hole_values : (p r : ℕ) (v : Term) → IsOfHoleRow def (kinds.Phylum p) r v → IsPossible def (hole p) r (v ∷ [])
  hole_values p r v h = record {
    distinct = (refl, tt);
    outside = usual def sound;
    entities = usual_entities def sound;
    value = v;
    seen = [];
    judged = record { inner = usual def sound; entities = usual_entities def sound; agree = refl; holds = (refl, refl, h) };
    columns_are = refl;
  }

  hole_value : (p r : ℕ) (x : List Term) → IsPossible def (hole p) r x → (v : Term) × (x ≡ v ∷ []) × IsOfHoleRow def (kinds.Phylum p) r v
  hole_value p r x it =
      let (none, bare, h) = it.judged.holds in
      (it.value, it.columns_are ∙ ap (λ l. (it.value ∷ l) ++ []) bare, h)

  open_values : (l r : ℕ) (v : Term) → IsOfHoleRow def (kinds.List l) r v → IsPossible def (ending l true) r (v ∷ [])
  open_values l r v h = record {
    distinct = (refl, tt);
    outside = usual def sound;
    entities = usual_entities def sound;
    value = v;
    seen = [];
    judged = record { inner = usual def sound; entities = usual_entities def sound; agree = refl; holds = (refl, refl, h) };
    columns_are = refl;
  }

  open_value : (l r : ℕ) (x : List Term) → IsPossible def (ending l true) r x → (v : Term) × (x ≡ v ∷ []) × IsOfHoleRow def (kinds.List l) r v
  open_value l r x it =
      let (none, bare, h) = it.judged.holds in
      (it.value, it.columns_are ∙ ap (λ l. (it.value ∷ l) ++ []) bare, h)

  nil_values : (l r : ℕ) (v : Term) → IsOfNilRow def l r v → IsPossible def (ending l false) r (v ∷ [])
  nil_values l r v h = record {
    distinct = (refl, tt);
    outside = usual def sound;
    entities = usual_entities def sound;
    value = v;
    seen = [];
    judged = record { inner = usual def sound; entities = usual_entities def sound; agree = refl; holds = (refl, refl, h) };
    columns_are = refl;
  }

  nil_value : (l r : ℕ) (x : List Term) → IsPossible def (ending l false) r x → (v : Term) × (x ≡ v ∷ []) × IsOfNilRow def l r v
  nil_value l r x it =
      let (none, bare, h) = it.judged.holds in
      (it.value, it.columns_are ∙ ap (λ l. (it.value ∷ l) ++ []) bare, h)

  -- ---- the values of a family are the ground instances of a term

  module _ {C : Type 0} (Q : C → List Term → Type 0) (Of : C → Term → Type 0)
      (values : (c : C) (v : Term) → Of c v → Q c (v ∷ [])) (value : (c : C) (x : List Term) → Q c x → (v : Term) × (x ≡ v ∷ []) × Of c v) where
    of_term : (c : C) (t : Term) → ((v : Term) → Of c v ↔ IsOfTerm def.signature t v) → (x : List Term) → IsGroundInstance def.signature (t ∷ []) x ↔ Q c x
    of_term c t both x = (
      (λ (f, k, e). subst (Q c) (sym e) (values c (substitute f t) ((both (substitute f t)).1 (f, k, refl)))),
      (λ q. let (v, e, h) = value c x q in let (f, k, d) = (both v).0 h in (f, k, e ∙ ap (λ z. z ∷ []) d)),
    )

  hole_terms : (kind : Kind) (r : ℕ) (h : HoleRow) → slice_get def.hole_rows r ≡ Some h → h.kind ≡ kind → (v : Term) → IsOfHoleRow def kind r v ↔ IsOfTerm def.signature h.term v
  hole_terms kind r h at same v = (
    (λ o.
        let e : o.row ≡ h = let d : Some o.row ≡ Some h = sym o.chosen ∙ at in cc in
        subst (λ (k : HoleRow). IsOfTerm def.signature k.term v) e o.value),
    (λ o. record { row = h; chosen = at; same = same; value = o }),
  )

  nil_terms : (l r : ℕ) (list : ListKind) (t : Term) → slice_get def.lists l ≡ Some list → slice_get list.nil_rows r ≡ Some t → (v : Term) → IsOfNilRow def l r v ↔ IsOfTerm def.signature t v
  nil_terms l r list t found at v = (
    (λ o.
        let d : o.kind ≡ list = let d : Some o.kind ≡ Some list = sym o.list ∙ found in cc in
        let e : o.row ≡ t = let e : Some o.row ≡ Some t = sym o.chosen ∙ ap (λ (k : ListKind). slice_get k.nil_rows r) d ∙ at in cc in
        subst (λ u. IsOfTerm def.signature u v) e o.value),
    (λ o. record { kind = list; list = found; row = t; chosen = at; value = o }),
  )

  module _ (ss : List ℕ) where
    -- the hole rows of a kind
    of_hole_rows : (kind : Kind) (Q : ℕ → List Term → Type 0) → ((r : ℕ) (v : Term) → IsOfHoleRow def kind r v → Q r (v ∷ []))
        → ((r : ℕ) (x : List Term) → Q r x → (v : Term) × (x ≡ v ∷ []) × IsOfHoleRow def kind r v)
        → (rows made : List (List Term)) → AreHoleRows def kind rows → IsRelation def.signature ss (IsOfRow def.signature rows) made → IsRelation def.signature ss Q made
    of_hole_rows kind Q values value rows made are rel =
        of_rows def.signature ss Q rows
        (λ row there. let (r, h, at, same, e) = are.from row there in
        (r, λ x. subst (λ y. IsGroundInstance def.signature y x ↔ Q r x) (sym e) (of_term Q (IsOfHoleRow def kind) values value r h.term (hole_terms kind r h at same) x)))
        (λ r columns q. let (v, e, h) = value r columns q in
        (h.row.term ∷ [], are.to r h.row h.chosen h.same, of_term Q (IsOfHoleRow def kind) values value r h.row.term (hole_terms kind r h.row h.chosen h.same)))
        made rel

    pub hole_relation : (p : ℕ) (rows made : List (List Term)) → AreHoleRows def (kinds.Phylum p) rows
        → IsRelation def.signature ss (IsOfRow def.signature rows) made → IsRelation def.signature ss (IsPossible def (hole p)) made
    hole_relation p rows made are rel = of_hole_rows (kinds.Phylum p) (IsPossible def (hole p)) (hole_values p) (hole_value p) rows made are rel

    -- of an unfinished end
    pub open_end_relation : (l : ℕ) (rows made : List (List Term)) → AreHoleRows def (kinds.List l) rows
        → IsRelation def.signature ss (IsOfRow def.signature rows) made → IsRelation def.signature ss (IsPossible def (ending l true)) made
    open_end_relation l rows made are rel = of_hole_rows (kinds.List l) (IsPossible def (ending l true)) (open_values l) (open_value l) rows made are rel

    -- of a finished end
    pub end_relation : (l : ℕ) (list : ListKind) (made : List (List Term)) → slice_get def.lists l ≡ Some list
        → IsRelation def.signature ss (IsOfRow def.signature (map (λ t. t ∷ []) list.nil_rows)) made → IsRelation def.signature ss (IsPossible def (ending l false)) made
    end_relation l list made found rel =
        of_rows def.signature ss (IsPossible def (ending l false)) (map (λ t. t ∷ []) list.nil_rows)
        (λ row there.
        let (t, among, e) = map-in (λ t. t ∷ []) row list.nil_rows there in
        let (r, at) = place_of_member list.nil_rows t among in (
          r,
          λ x. subst (λ y. IsGroundInstance def.signature y x ↔ IsPossible def (ending l false) r x) (sym e)
              (of_term (IsPossible def (ending l false)) (IsOfNilRow def l) (nil_values l) (nil_value l) r t (nil_terms l r list t found at) x),
        ))
        (λ r columns q.
        let (v, e, h) = nil_value l r columns q in
        let d : h.kind ≡ list = let d : Some h.kind ≡ Some list = sym h.list ∙ found in cc in
        let at : slice_get list.nil_rows r ≡ Some h.row = sym (ap (λ (k : ListKind). slice_get k.nil_rows r) d) ∙ h.chosen in (
          h.row ∷ [],
          in-map (λ t. t ∷ []) h.row list.nil_rows (in_at list.nil_rows r h.row at),
          of_term (IsPossible def (ending l false)) (IsOfNilRow def l) (nil_values l) (nil_value l) r h.row (nil_terms l r list h.row found at),
        ))
        made rel
