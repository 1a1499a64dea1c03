-- The last step of a scope operator: right claims on the rows cover what is possible for the whole.
use Rattle.std.proofs.Common.{◌≡◌, ◌&&◌, ◌||◌, not, Bool, true, false, List, [], ◌∷◌, ◌++◌, map, Some, refl, sym, ap, ap₂, ◌∙◌, subst}
use Rattle.std.specs.List.{AllByRecursion}
use Rattle.std.proofs.lemmas.List.{length-map}
use Rattle.psg_terms.specs.Names.{is_among}
use Rattle.psg_terms.specs.Terms.{Term}
use Rattle.psg_terms.specs.Instances.{Substitution, substitute}
use Rattle.psg_terms.specs.Canonical.{IsCanonical}
use Rattle.psg_terms.specs.Relations.{IsIn}
use Rattle.psg_terms.proofs.Variables.{true_false}
use Rattle.psg_grammar.specs.declared.types.Definition.{Definition}
use Rattle.psg_grammar.specs.Fragments.{Fragment}
use Rattle.psg_grammar.specs.Keys.{Key, space_of, in_order, outward}
use Rattle.psg_grammar.specs.Lookups.{is_scope}
use Rattle.psg_grammar.specs.Legal.{Within}
use Rattle.psg_grammar.specs.Open.{AgreeOpen, Choice}
use Rattle.psg_grammar.specs.Regions.{declared_inside, unfinished_inside, names_inside, names_of, passing}
use Rattle.psg_grammar.specs.Relations.{IsPossible, IsPossibleInside}
use Rattle.psg_relation.proofs.Members.{in-map}
use Rattle.psg_scope.specs.Headers.{IsKey}
use Rattle.psg_scope.proofs.HeaderLaws.{outward-among, outward-whole}
use Rattle.psg_scope.proofs.KeyLists.{in_order-among}
use Rattle.psg_eval.proofs.Closing.{inward_from}
use Rattle.psg_eval.proofs.Columns.{end_same}
use Rattle.psg_cache.proofs.OpenTrees.{holds_flat}
use Rattle.psg_cache.proofs.RealTrees.{IsReal}
use Rattle.psg_explain.specs.declared.refutation.Verdict.{Verdict}
use Rattle.psg_explain.specs.Given.{beside, closed_row, key_terms, last_cases}
use Rattle.psg_explain.specs.Refutations.{AreRight}
use Rattle.psg_explain.proofs.GoodRows.{AreGood, each_key, of_claimed, plain_covered}
use Rattle.psg_explain.proofs.Pairing.{AreEntitiesOf, beside_is, beside_there, key_terms_are}
use Rattle.psg_explain.proofs.Rewriting.{IsOfClaimed}

first_true : (a b : Bool) → (a && b) ≡ true → a ≡ true
first_true true b e = refl
first_true false b e = absurd (true_false (sym e))

head_is : (a b : Term) (xs ys : List Term) → a ∷ xs ≡ b ∷ ys → a ≡ b
head_is a b xs ys e = cc

tail_is : (a b : Term) (xs ys : List Term) → a ∷ xs ≡ b ∷ ys → xs ≡ ys
tail_is a b xs ys e = cc

-- the terms of keys that are there are their entities
pub some_entities : (f : Substitution) (entity : Key → Term) (K M : List Key) (ts : List Term) → AreEntitiesOf f entity K ts
    → ((k : Key) → is_among M k ≡ true → is_among K k ≡ true) → map (substitute f) (key_terms (beside K ts) M) ≡ map entity M
some_entities f entity K M ts are within =
    key_terms_are f entity (beside K ts) M
    (each_key (λ k. (u : Term) × (beside K ts k ≡ Some u) × (substitute f u ≡ entity k)) M
    (λ k i. let (u, d) = beside_there f entity K ts k are (within k i) in (u, d, beside_is f entity K ts k u are d)))

closed_is : (f : Substitution) (entity : Key → Term) (K M : List Key) (row : List Term) (value : Term) → map (substitute f) row ≡ value ∷ map entity K
    → ((k : Key) → is_among M k ≡ true → is_among K k ≡ true) → map (substitute f) (closed_row K M row) ≡ value ∷ map entity M
closed_is f entity K M [] value e within = absurd (cc)
closed_is f entity K M (t ∷ ts) value e within =
    ap₂ (λ x xs. x ∷ xs) (head_is (substitute f t) value (map (substitute f) ts) (map entity K) e)
    (some_entities f entity K M ts (tail_is (substitute f t) value (map (substitute f) ts) (map entity K) e) within)

module _ (def : Definition) (f : Fragment) (real : IsReal f) (scope : is_scope def f ≡ true) (whole : AllByRecursion IsKey (names_inside def f)) where
  abbrev K : List Key
  K = in_order (names_inside def f)

  abbrev passing_keys : List Key
  passing_keys = outward (λ s. unfinished_inside def s f) (declared_inside def f) (names_inside def f)

  names_are : names_of def f ≡ in_order passing_keys
  names_are = ap (λ b. in_order (passing b (λ s. unfinished_inside def s f) (declared_inside def f) (names_inside def f))) scope

  within : (k : Key) → is_among (names_of def f) k ≡ true → is_among K k ≡ true
  within k i =
      in_order-among (names_inside def f) k whole
      ∙ first_true (is_among (names_inside def f) k) (not (unfinished_inside def (space_of k) f || is_among (declared_inside def f) k))
      (sym (outward-among k (names_inside def f) (declared_inside def f) (λ s. unfinished_inside def s f))
      ∙ sym (in_order-among passing_keys k (outward-whole (names_inside def f) (declared_inside def f) (λ s. unfinished_inside def s f) whole))
      ∙ sym (ap (λ l. is_among l k) names_are) ∙ i)

  pub closed_good : (before rows : List (List Term)) (verdicts : List Verdict) → AreGood def.signature (IsPossibleInside def f) before
      → ((row : List Term) → IsIn row rows → IsCanonical def.signature row) → AreRight rows (last_cases def f before) verdicts
      → AreGood def.signature (IsPossible def f) rows
  closed_good before rows verdicts good canonical right = record {
    canonical = canonical;
    covers = λ c x possible.
        let it = inward_from def f scope whole c x possible in
        let inside = it.full_is in
        let cut = it.cut in
        let (row, there, (g, row_is)) = good.covers c it.full inside in
        let none : inside.seen ≡ [] = holds_flat def f real inside.inside c [] inside.value inside.seen [] inside.holds in
        let (same, rest) = end_same (cut.value ∷ cut.seen) (map cut.entity K) (inside.value ∷ inside.seen) (map inside.inside K)
        (length-map K cut.entity ∙ sym (length-map K inside.inside)) (sym cut.full_is ∙ inside.columns_are) in
        let bare : cut.seen ≡ [] = tail_is cut.value inside.value cut.seen inside.seen same ∙ none in
        let is : map (substitute g) row ≡ cut.value ∷ map cut.entity K = sym row_is ∙ cut.full_is ∙ ap (λ (l : List Term). (cut.value ∷ l) ++ map cut.entity K) bare in
        let closed = closed_is g cut.entity K (names_of def f) row cut.value is within in
        of_claimed rows x
        (subst (IsOfClaimed rows) (closed ∙ sym (cut.cut_is ∙ ap (λ (l : List Term). (cut.value ∷ l) ++ map cut.entity (names_of def f)) bare))
        (plain_covered rows 0 (map (closed_row K (names_of def f)) before) verdicts right (closed_row K (names_of def f) row) (in-map (closed_row K (names_of def f)) row before there) g));
  }

  -- what is possible inside makes what is possible outside
  pub closed_possible : (c : Choice f) (h : Substitution) (row : List Term) → IsPossibleInside def f c (map (substitute h) row) → IsPossible def f c (map (substitute h) (closed_row K (names_of def f) row))
  closed_possible c h row p =
      let none : p.seen ≡ [] = holds_flat def f real p.inside c [] p.value p.seen [] p.holds in
      let is : map (substitute h) row ≡ p.value ∷ map p.inside K = p.columns_are ∙ ap (λ (l : List Term). (p.value ∷ l) ++ map p.inside K) none in
      record {
        distinct = p.distinct;
        outside = p.inside;
        entities = p.entities;
        value = p.value;
        seen = p.seen;
        judged = record {
          inner = p.inside;
          entities = p.entities;
          agree = subst (λ (b : Bool). Within b (AgreeOpen (λ s. unfinished_inside def s f) (declared_inside def f)) p.inside p.inside) (sym scope) (λ n u d. refl);
          holds = p.holds;
        };
        columns_are = closed_is h p.inside K (names_of def f) row p.value is within ∙ sym (ap (λ (l : List Term). (p.value ∷ l) ++ map p.inside (names_of def f)) none);
      }
