-- A child more: right claims on the pairs of rows cover what is possible with it.
use Rattle.std.proofs.Common.{◌≡◌, ◌+◌, ◌||◌, true, List, [], ◌∷◌, ◌++◌, map, length, refl, sym, ap, ap₂, ◌∙◌, subst, arith, length-append}
use Rattle.std.specs.List.{AllByRecursion}
use Rattle.std.proofs.lemmas.List.{length-map}
use Rattle.psg_terms.specs.Names.{is_among}
use Rattle.psg_terms.specs.Terms.{Term}
use Rattle.psg_terms.specs.Instances.{IsInstance}
use Rattle.psg_terms.specs.Relations.{IsIn}
use Rattle.psg_terms.specs.Canonical.{IsCanonical}
use Rattle.psg_grammar.specs.declared.types.Definition.{Definition}
use Rattle.psg_grammar.specs.Fragments.{Fragment}
use Rattle.psg_grammar.specs.Keys.{Key, in_order}
use Rattle.psg_grammar.specs.Open.{Choice}
use Rattle.psg_grammar.specs.Regions.{names_inside, names_of}
use Rattle.psg_grammar.specs.Relations.{IsPossible, IsPossibleInside}
use Rattle.psg_scope.specs.Headers.{IsKey}
use Rattle.psg_scope.proofs.KeyLists.{in_order-among}
use Rattle.psg_eval.specs.Glues.{outer_names, NextGlue}
use Rattle.psg_eval.specs.Trees.{seen_in}
use Rattle.psg_eval.proofs.Adding.{apart, HasWidth}
use Rattle.psg_eval.proofs.Columns.{end_same}
use Rattle.psg_eval.proofs.Gluing.{Both}
use Rattle.psg_eval.proofs.Inserting.{inserted-among, inserted-whole}
use Rattle.psg_eval.proofs.Replacing.{Replaces, behind, names_more, choice_apart}
use Rattle.psg_cache.proofs.OpenTrees.{holds_flat}
use Rattle.psg_cache.proofs.RealTrees.{IsReal}
use Rattle.psg_explain.specs.declared.refutation.Verdict.{Verdict}
use Rattle.psg_explain.specs.Given.{all_pairs, pair_case}
use Rattle.psg_explain.specs.Refutations.{AreRight}
use Rattle.psg_explain.proofs.GoodRows.{AreGood, each_key, of_claimed, pair_in, verdict_in}
use Rattle.psg_explain.proofs.Pairing.{ArePaired, paired_covered}
use Rattle.psg_explain.proofs.SeenCounts.{seen_length}

none_long : {X : Type 0} (xs : List X) → length xs ≡ 0 → xs ≡ []
none_long [] e = refl
none_long (x ∷ xs) e = absurd (omega (arith, e))

tail_same : (a b : Term) (xs ys : List Term) → a ∷ xs ≡ b ∷ ys → xs ≡ ys
tail_same a b xs ys e = cc

module _ (def : Definition) (t a b : Fragment) (r : Replaces def t a b) (count : seen_in a ≡ 1 + behind def t r)
    (whole : AllByRecursion IsKey (names_inside def a)) (whole_child : AllByRecursion IsKey (outer_names def t)) (real : IsReal t) where
  abbrev pub K : List Key
  K = in_order (names_inside def a)

  abbrev pub L : List Key
  L = names_of def t

  abbrev pub M : List Key
  M = in_order (names_inside def b)

  pub union : AllByRecursion (λ k. (is_among K k || is_among L k) ≡ true) M
  union =
      let more = names_more def t r in
      let all = inserted-whole (outer_names def t) (names_inside def a) (names_inside def b) more whole whole_child in
      each_key (λ k. (is_among K k || is_among L k) ≡ true) M (λ k i.
      ap₂ (λ p q. p || q) (in_order-among (names_inside def a) k whole) (in_order-among (outer_names def t) k whole_child)
      ∙ sym (inserted-among (outer_names def t) (names_inside def a) (names_inside def b) more k) ∙ sym (in_order-among (names_inside def b) k all) ∙ i)

  pub width : (c : Choice a) (p : List Term) → IsPossibleInside def a c p → HasWidth def t a b r 0 whole whole_child p
  width c p it =
      let e = seen_length def a it.inside c [] it.value it.seen [] it.holds in
      let d = ap length it.columns_are in
      let l = length-append (it.value ∷ it.seen) (map it.inside K) in
      let m = length-map K it.inside in
      omega (arith, e, d, l, m, count)

  pub unseen : (d : Choice t) (q : List Term) (it : IsPossible def t d q) → it.seen ≡ []
  unseen d q it = holds_flat def t real it.judged.inner d [] it.value it.seen [] it.judged.holds

  none_more : (d : Choice t) (q : List Term) (wanted : Term) (more : List Term) (entity : Key → Term) → IsPossible def t d q → q ≡ (wanted ∷ more) ++ map entity L → more ≡ []
  none_more d q wanted more entity it e =
      let (same, rest) = end_same (wanted ∷ more) (map entity L) (it.value ∷ it.seen) (map it.outside L) (length-map L entity ∙ sym (length-map L it.outside)) (sym e ∙ it.columns_are) in
      tail_same wanted it.value more it.seen same ∙ unseen d q it

  module _ (before child rows : List (List Term)) (verdicts : List Verdict) (left : AreGood def.signature (IsPossibleInside def a) before) (right : AreGood def.signature (IsPossible def t) child)
      (verdicts_right : AreRight rows (all_pairs K L M 0 before child) verdicts) where
    made : (c : Choice a) (d : Choice t) (x : List Term) → Both (IsPossibleInside def a) (IsPossible def t) (NextGlue 0 K L M) (c, d) x → (row : List Term) × IsIn row rows × IsInstance x row
    made c d x both =
        let (p, p_in, (f, p_is)) = left.covers c both.p both.p_is in
        let (q, q_in, (g, q_is)) = right.covers d both.q both.q_is in
        let gl = both.glue in
        let none : gl.seen ≡ [] = none_long gl.seen gl.place in
        let bare : gl.more ≡ [] = none_more d both.q gl.wanted gl.more gl.entity both.q_is gl.right_is in
        let pair : ArePaired def.signature K L M p q x = record {
          left = f;
          right = g;
          value = gl.value;
          wanted = gl.wanted;
          others = gl.others;
          entity = gl.entity;
          left_is = sym p_is ∙ gl.left_is ∙ ap (λ (l : List Term). (gl.value ∷ l ++ gl.wanted ∷ gl.others) ++ map gl.entity K) none;
          right_is = sym q_is ∙ gl.right_is ∙ ap (λ (l : List Term). (gl.wanted ∷ l) ++ map gl.entity L) bare;
          made_is = gl.made_is ∙ ap₂ (λ (l m : List Term). (gl.value ∷ l ++ m ++ gl.others) ++ map gl.entity M) none bare;
        } in
        let (i, j, at) = pair_in K L M 0 before child p q p_in q_in in
        let h = verdict_in rows (all_pairs K L M 0 before child) verdicts verdicts_right (pair_case K L M i j p q) at in
        of_claimed rows x (paired_covered def.signature K L M union p q (left.canonical p p_in) (right.canonical q q_in) i j rows h.verdict h.right x pair)

    pub added_good : ((row : List Term) → IsIn row rows → IsCanonical def.signature row) → AreGood def.signature (IsPossibleInside def b) rows
    added_good canonical = record {
      canonical = canonical;
      covers = λ c x possible.
          let (free, d, e) = choice_apart def t r c in
          made free d x (apart def t a b r 0 whole whole_child free d x (width free) (subst (λ z. IsPossibleInside def b z x) (sym e) possible));
    }
