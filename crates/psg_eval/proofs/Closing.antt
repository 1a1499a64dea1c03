-- The last step: what is possible for the whole, from what is possible inside.
use Rattle.std.proofs.Common.{◌≡◌, ℕ, ◌↔◌, ◌&&◌, ◌||◌, not, Bool, true, false, List, ◌∷◌, ◌++◌, map, refl, ap, sym, ◌∙◌, subst, true≢false}
use Rattle.std.specs.List.{AllByRecursion}
use Rattle.std.proofs.lemmas.List.{length-map}
use Rattle.psg_terms.specs.Names.{is_among}
use Rattle.psg_terms.specs.Terms.{Term}
use Rattle.psg_terms.specs.Relations.{IsRelation}
use Rattle.psg_grammar.specs.declared.types.Definition.{Definition}
use Rattle.psg_grammar.specs.Fragments.{Fragment}
use Rattle.psg_grammar.specs.Keys.{Key, space_of, in_order, outward}
use Rattle.psg_grammar.specs.Legal.{Entities, Within}
use Rattle.psg_grammar.specs.Lookups.{is_scope}
use Rattle.psg_grammar.specs.Open.{Choice, AgreeOpen}
use Rattle.psg_grammar.specs.Regions.{declared_inside, unfinished_inside, names_inside, names_of, passing}
use Rattle.psg_grammar.specs.Relations.{IsPossible, IsPossibleInside}
use Rattle.psg_relation.proofs.Relating.{carried}
use Rattle.psg_scope.specs.Headers.{IsKey}
use Rattle.psg_scope.proofs.HeaderLaws.{outward-among, outward-whole}
use Rattle.psg_scope.proofs.KeyLists.{in_order-among}
use Rattle.psg_eval.specs.Glues.{CloseGlue, IsCut}
use Rattle.psg_eval.proofs.Columns.{end_same, map_same, map_same_back}
use Rattle.psg_eval.proofs.Gluing.{CutOf, cut_relation}

-- a key that passes outward is there, is in no unfinished space, and is not declared
parts_of_test : (a b c : Bool) → (a && not (b || c)) ≡ true → (a ≡ true) × (b ≡ false) × (c ≡ false)
parts_of_test true false false e = (refl, refl, refl)
parts_of_test true false true e = absurd (true≢false (sym e))
parts_of_test true true c e = absurd (true≢false (sym e))
parts_of_test false b c e = absurd (true≢false (sym e))

module _ (def : Definition) (f : Fragment) where
  abbrev pub inside_keys : List Key
  inside_keys = in_order (names_inside def f)

  abbrev passing_keys : List Key
  passing_keys = outward (λ s. unfinished_inside def s f) (declared_inside def f) (names_inside def f)

  module _ (scope : is_scope def f ≡ true) (whole : AllByRecursion IsKey (names_inside def f)) where
    names_are : names_of def f ≡ in_order passing_keys
    names_are = ap (λ b. in_order (passing b (λ s. unfinished_inside def s f) (declared_inside def f) (names_inside def f))) scope

    -- what a key among those of the whole is
    outer_key : (n : Key) → is_among (names_of def f) n ≡ true → (is_among (names_inside def f) n ≡ true) × (unfinished_inside def (space_of n) f ≡ false) × (is_among (declared_inside def f) n ≡ false)
    outer_key n i =
        let here : is_among passing_keys n ≡ true =
        sym (in_order-among passing_keys n (outward-whole (names_inside def f) (declared_inside def f) (λ s. unfinished_inside def s f) whole)) ∙ sym (ap (λ l. is_among l n) names_are) ∙ i in
        parts_of_test (is_among (names_inside def f) n) (unfinished_inside def (space_of n) f) (is_among (declared_inside def f) n)
        (sym (outward-among n (names_inside def f) (declared_inside def f) (λ s. unfinished_inside def s f)) ∙ here)

    outward_from : (c : Choice f) (x : List Term) → CutOf (IsPossibleInside def f) (CloseGlue inside_keys (names_of def f)) c x → IsPossible def f c x
    outward_from c x it =
        let p = it.full_is in
        let cut = it.cut in
        let split : (cut.value ∷ cut.seen ≡ p.value ∷ p.seen) × (map cut.entity inside_keys ≡ map p.inside inside_keys) =
        end_same (cut.value ∷ cut.seen) (map cut.entity inside_keys) (p.value ∷ p.seen) (map p.inside inside_keys) (length-map inside_keys cut.entity ∙ sym (length-map inside_keys p.inside)) (sym cut.full_is ∙ p.columns_are) in
        let same : map cut.entity (names_of def f) ≡ map p.inside (names_of def f) =
        map_same cut.entity p.inside (names_of def f) (λ n i. map_same_back cut.entity p.inside inside_keys split.1 n (in_order-among (names_inside def f) n whole ∙ (outer_key n i).0)) in
        record {
          distinct = p.distinct;
          outside = p.inside;
          entities = p.entities;
          value = p.value;
          seen = p.seen;
          judged = record {
            inner = p.inside;
            entities = p.entities;
            agree = subst (λ b. Within b (AgreeOpen (λ s. unfinished_inside def s f) (declared_inside def f)) p.inside p.inside) (sym scope) (λ n u d. refl);
            holds = p.holds;
          };
          columns_are = cut.cut_is ∙ ap (λ l. l ++ map cut.entity (names_of def f)) split.0 ∙ ap (λ l. (p.value ∷ p.seen) ++ l) same;
        }

    pub inward_from : (c : Choice f) (x : List Term) → IsPossible def f c x → CutOf (IsPossibleInside def f) (CloseGlue inside_keys (names_of def f)) c x
    inward_from c x it =
        let j = it.judged in
        let agree : AgreeOpen (λ s. unfinished_inside def s f) (declared_inside def f) it.outside j.inner =
        subst (λ b. Within b (AgreeOpen (λ s. unfinished_inside def s f) (declared_inside def f)) it.outside j.inner) scope j.agree in
        let same : map it.outside (names_of def f) ≡ map j.inner (names_of def f) =
        map_same it.outside j.inner (names_of def f) (λ n i. let k = outer_key n i in sym (agree n k.1 k.2)) in
        record {
          full = (it.value ∷ it.seen) ++ map j.inner inside_keys;
          full_is = record { distinct = it.distinct; inside = j.inner; entities = j.entities; value = it.value; seen = it.seen; holds = j.holds; columns_are = refl };
          cut = record { value = it.value; seen = it.seen; entity = j.inner; full_is = refl; cut_is = it.columns_are ∙ ap (λ l. (it.value ∷ it.seen) ++ l) same };
        }

  -- a scope operator keeps of its keys those that pass outward
  pub closing : (ls ss : List ℕ) (rows made : List (List Term)) → is_scope def f ≡ true → AllByRecursion IsKey (names_inside def f)
      → IsRelation def.signature ls (IsPossibleInside def f) rows
      → IsRelation def.signature ss (IsCut def.signature (CloseGlue (in_order (names_inside def f)) (names_of def f)) rows) made
      → IsRelation def.signature ss (IsPossible def f) made
  closing ls ss rows made scope whole l it =
      carried def.signature ss (CutOf (IsPossibleInside def f) (CloseGlue inside_keys (names_of def f))) (IsPossible def f)
      (λ c columns h. (c, λ x. (outward_from scope whole c x, inward_from scope whole c x)))
      (λ c columns h. (c, λ x. (outward_from scope whole c x, inward_from scope whole c x)))
      made (cut_relation (IsPossibleInside def f) (CloseGlue inside_keys (names_of def f)) def.signature ss ls rows made l it)

  module _ (scope : is_scope def f ≡ false) where
    names_same : names_of def f ≡ inside_keys
    names_same = ap (λ b. in_order (passing b (λ s. unfinished_inside def s f) (declared_inside def f) (names_inside def f))) scope

    -- of a tree that is no scope operator, the whole is what is inside
    pub same_family : (c : Choice f) (x : List Term) → IsPossibleInside def f c x ↔ IsPossible def f c x
    same_family c x = (
      (λ p. record {
        distinct = p.distinct;
        outside = p.inside;
        entities = p.entities;
        value = p.value;
        seen = p.seen;
        judged = record {
          inner = p.inside;
          entities = p.entities;
          agree = subst (λ b. Within b (AgreeOpen (λ s. unfinished_inside def s f) (declared_inside def f)) p.inside p.inside) (sym scope) refl;
          holds = p.holds;
        };
        columns_are = p.columns_are ∙ ap (λ l. (p.value ∷ p.seen) ++ map p.inside l) (sym names_same);
      }),
      (λ p.
          let j = p.judged in
          let same : j.inner ≡ p.outside = subst (λ b. Within b (AgreeOpen (λ s. unfinished_inside def s f) (declared_inside def f)) p.outside j.inner) scope j.agree in
          record {
            distinct = p.distinct;
            inside = j.inner;
            entities = j.entities;
            value = p.value;
            seen = p.seen;
            holds = j.holds;
            columns_are = p.columns_are ∙ ap (λ l. (p.value ∷ p.seen) ++ map p.outside l) names_same ∙ ap (λ (g : Entities). (p.value ∷ p.seen) ++ map g inside_keys) (sym same);
          }),
    )

  pub whole_relation : (ss : List ℕ) (rows : List (List Term)) → is_scope def f ≡ false → IsRelation def.signature ss (IsPossibleInside def f) rows → IsRelation def.signature ss (IsPossible def f) rows
  whole_relation ss rows scope rel =
      carried def.signature ss (IsPossibleInside def f) (IsPossible def f) (λ c columns h. (c, same_family scope c)) (λ c columns h. (c, same_family scope c)) rows rel

  pub inside_relation : (ss : List ℕ) (rows : List (List Term)) → is_scope def f ≡ false → IsRelation def.signature ss (IsPossible def f) rows → IsRelation def.signature ss (IsPossibleInside def f) rows
  inside_relation ss rows scope rel =
      carried def.signature ss (IsPossible def f) (IsPossibleInside def f)
      (λ c columns h. (c, λ x. ((same_family scope c x).1, (same_family scope c x).0))) (λ c columns h. (c, λ x. ((same_family scope c x).1, (same_family scope c x).0))) rows rel
