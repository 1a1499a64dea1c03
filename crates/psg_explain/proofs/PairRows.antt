-- A child more: where the equations of a pair of true rows have a solution, its columns are an instance of a true row.
use Rattle.std.proofs.Common.{◌≡◌, inl, inr, ℕ, ◌+◌, ◌-◌, ◌||◌, Bool, true, false, cond, List, [], ◌∷◌, ◌++◌, map, drop, length, length-append, Option, Some, None, refl, ap, ap₂, sym, ◌∙◌, arith}
use Rattle.std.specs.Prelude.{bytes_eq, option_map}
use Rattle.std.specs.List.{AllByRecursion}
use Rattle.std.proofs.lemmas.Bool.{cases_Bool}
use Rattle.std.proofs.lemmas.List.{drop-map, length-map}
use Rattle.std.proofs.Math.Seq.{drop-append_seam}
use Rattle.psg_terms.specs.Names.{has_twice, is_among}
use Rattle.psg_terms.specs.Terms.{Term}
use Rattle.psg_terms.specs.Instances.{IsGrounding, IsSorted, Substitution, substitute}
use Rattle.psg_terms.specs.Relations.{IsShape}
use Rattle.psg_terms.specs.Renaming.{raised}
use Rattle.psg_terms.proofs.DeclareLaws.{bytes_eq-same}
use Rattle.psg_terms.proofs.InstanceLaws.{after, grounding-after, map-substitute-after}
use Rattle.psg_terms.proofs.Variables.{true_false}
use Rattle.psg_grammar.specs.declared.types.Definition.{Definition}
use Rattle.psg_grammar.specs.Fragments.{Fragment}
use Rattle.psg_grammar.specs.Keys.{Key, in_order}
use Rattle.psg_grammar.specs.Legal.{Entities}
use Rattle.psg_grammar.specs.Open.{Choice}
use Rattle.psg_grammar.specs.Regions.{declared_inside, names_inside, names_of}
use Rattle.psg_grammar.specs.Relations.{IsPossible, IsPossibleInside}
use Rattle.psg_grammar.proofs.MixedEntities.{mixed}
use Rattle.psg_relation.specs.Choices.{pick}
use Rattle.psg_scope.specs.Headers.{IsKey}
use Rattle.psg_eval.specs.Glues.{outer_names}
use Rattle.psg_eval.specs.Trees.{seen_in}
use Rattle.psg_eval.proofs.Adding.{together}
use Rattle.psg_eval.proofs.Columns.{map_same}
use Rattle.psg_eval.proofs.Replacing.{Replaces, behind, choice_with}
use Rattle.psg_cache.proofs.RealTrees.{IsReal}
use Rattle.psg_explain.specs.Equations.{Equation}
use Rattle.psg_explain.specs.Given.{beside, entities_of, key_equations, numbered_on, pair_columns, pair_equations, variable_count}
use Rattle.psg_explain.proofs.NextRows.{union, unseen, width}
use Rattle.psg_explain.proofs.Pairing.{AreEntitiesOf, beside_is, beside_there, glued_pair, head_tail}
use Rattle.psg_explain.proofs.Rewriting.{SolvesAll}
use Rattle.psg_explain.proofs.SeenCounts.{seen_length}

-- ---- equal keys have equal entities

module _ (h : Substitution) (inside outside : Key → Term) (L' : List Key) (us : List Term) (others : AreEntitiesOf h outside L' us) where
  split_first : (o : Option Term) (t : Term) (es : List Equation) (u : Term) → o ≡ Some u → SolvesAll h (pick (option_map (λ (v : Term). (t, v)) o) es) → (substitute h t ≡ substitute h u) × SolvesAll h es
  split_first None t es u e solved = absurd (cc)
  split_first (Some v) t es u e (one, more) = let d : v ≡ u = cc in (one ∙ ap (substitute h) d, more)

  skip_first : (o : Option Term) (t : Term) (es : List Equation) → SolvesAll h (pick (option_map (λ (v : Term). (t, v)) o) es) → SolvesAll h es
  skip_first None t es solved = solved
  skip_first (Some v) t es (one, more) = more

  key_agrees : (ks : List Key) (ts : List Term) → AreEntitiesOf h inside ks ts → SolvesAll h (key_equations (beside L' us) ks ts) → (k : Key) → is_among ks k ≡ true → is_among L' k ≡ true → inside k ≡ outside k
  key_agrees [] ts own solved k i j = absurd (true_false (sym i))
  key_agrees (n ∷ ks) [] own solved k i j = absurd (cc)
  key_agrees (n ∷ ks) (t ∷ ts) own solved k i j =
      let (one, rest) = head_tail h inside t ts n ks own in
      elim (cases_Bool (bytes_eq n k)) [
        | inl b ↦ (
            let same : n ≡ k = bytes_eq-same n k b in
            let there : is_among L' n ≡ true = ap (is_among L') same ∙ j in
            let (u, found) = beside_there h outside L' us n others there in
            let (equal, more) = split_first (beside L' us n) t (key_equations (beside L' us) ks ts) u found solved in
            let both : inside n ≡ outside n = sym one ∙ equal ∙ beside_is h outside L' us n u others found in
            sym (ap inside same) ∙ both ∙ ap outside same
            )
        | inr b ↦ key_agrees ks ts rest (skip_first (beside L' us n) t (key_equations (beside L' us) ks ts) solved) k (sym (ap (λ (c : Bool). c || is_among ks k) b) ∙ i) j
      ]

-- the first columns of two rows that are equal
one_tail : (a b : Term) (xs ys : List Term) → a ∷ xs ≡ b ∷ ys → (a ≡ b) × (xs ≡ ys)
one_tail a b xs ys e = let p : a ≡ b = cc in let q : xs ≡ ys = cc in (p, q)

-- ---- a pair under a common solution

module _ (K' L' M' : List Key) (both : AllByRecursion (λ (k : Key). (is_among K' k || is_among L' k) ≡ true) M') (h : Substitution) (inside outside : Entities) where
  -- what the two rows are, and what they make
  pub record AreAgreed (p q : List Term) (v w : Term) (others : List Term) : Type 0 where
    pub entity : Entities
    pub left_is : map (substitute h) p ≡ v ∷ w ∷ (others ++ map entity K')
    pub right_is : map (substitute h) q ≡ w ∷ map entity L'
    pub made_is : map (substitute h) (pair_columns K' L' M' p q) ≡ (v ∷ others) ++ map entity M'

  agreed : (p q : List Term) (v w x : Term) (others : List Term) → map (substitute h) p ≡ v ∷ w ∷ (others ++ map inside K') → map (substitute h) q ≡ x ∷ map outside L' → SolvesAll h (pair_equations K' L' M' p q) → AreAgreed p q v w others
  agreed [] q v w x others left right solved = absurd (cc)
  agreed (a ∷ []) q v w x others left right solved = absurd (cc)
  agreed (a ∷ b ∷ more) [] v w x others left right solved = absurd (cc)
  agreed (a ∷ b ∷ more) (own ∷ terms) v w x others left right (first_solved, solved) =
      let (one, rest) = one_tail (substitute h a) v (substitute h b ∷ map (substitute h) more) (w ∷ (others ++ map inside K')) left in
      let (two, tail) = one_tail (substitute h b) w (map (substitute h) more) (others ++ map inside K') rest in
      let (value, ents) = one_tail (substitute h own) x (map (substitute h) terms) (map outside L') right in
      let wanted : w ≡ x = sym two ∙ first_solved ∙ value in
      let keys_left : AreEntitiesOf h inside K' (entities_of K' more) = keys_in more others tail in
      let entity : Entities = mixed K' inside outside in
      let on_left : map inside K' ≡ map entity K' = map_same inside entity K' (λ k i. sym (ap (λ (c : Bool). cond c (inside k) (outside k)) i)) in
      let on_right : map outside L' ≡ map entity L' = map_same outside entity L' (λ k i. elim (cases_Bool (is_among K' k)) [
        | inl j ↦ sym (key_agrees h inside outside L' terms ents K' (entities_of K' more) keys_left solved k j i) ∙ sym (ap (λ (c : Bool). cond c (inside k) (outside k)) j)
        | inr j ↦ sym (ap (λ (c : Bool). cond c (inside k) (outside k)) j)
      ]) in
      let left_is : map (substitute h) (a ∷ b ∷ more) ≡ v ∷ w ∷ (others ++ map entity K') = left ∙ ap (λ (l : List Term). v ∷ w ∷ (others ++ l)) on_left in
      let right_is : map (substitute h) (own ∷ terms) ≡ w ∷ map entity L' = right ∙ ap₂ (λ (y : Term) (l : List Term). y ∷ l) (sym wanted) on_right in
      record {
        entity = entity;
        left_is = left_is;
        right_is = right_is;
        made_is = (glued_pair K' L' M' both h (a ∷ b ∷ more) (own ∷ terms) v w others entity left_is right_is).1;
      }
    where
      keys_in : (more others : List Term) → map (substitute h) more ≡ others ++ map inside K' → AreEntitiesOf h inside K' (entities_of K' more)
      keys_in more others tail =
          let one = sym (length-map more (substitute h)) ∙ ap length tail ∙ length-append others (map inside K') in
          let two = length-map K' inside in
          let sizes : length more - length K' ≡ length others = omega (arith, one, two) in
          sym (drop-map (substitute h) (length more - length K') more) ∙ ap₂ (λ (n : ℕ) (l : List Term). drop n l) sizes tail ∙ drop-append_seam others (map inside K')

module _ (def : Definition) (t a b : Fragment) (r : Replaces def t a b) (count : seen_in a ≡ 1 + behind def t r)
    (whole : AllByRecursion IsKey (names_inside def a)) (whole_child : AllByRecursion IsKey (outer_names def t)) (real : IsReal t) (once : has_twice (declared_inside def b) ≡ false) where
  abbrev KK : List Key
  KK = in_order (names_inside def a)

  abbrev LL : List Key
  LL = names_of def t

  abbrev MM : List Key
  MM = in_order (names_inside def b)

  some_seen : (xs : List Term) (n : ℕ) → length xs ≡ 1 + n → (w : Term) × (others : List Term) × (xs ≡ w ∷ others)
  some_seen [] n e = absurd (omega (arith, e))
  some_seen (w ∷ others) n e = (w, others, refl)

  module _ (left_sorts right_sorts : List ℕ) (p q : List Term) (one : IsShape def.signature left_sorts (IsPossibleInside def a) p) (two : IsShape def.signature right_sorts (IsPossible def t) q) where
    abbrev other : List Term
    other = numbered_on (variable_count p) q

    abbrev pub pair_choice : Choice b
    pair_choice = choice_with def t r one.choice two.choice

    -- a solution without variables makes what is possible with the child
    pub pair_possible : (h : Substitution) → IsGrounding def.signature h → SolvesAll h (pair_equations KK LL MM p other) → IsPossibleInside def b pair_choice (map (substitute h) (pair_columns KK LL MM p other))
    pair_possible h ground solved =
        let raised_sorted : IsSorted def.signature (raised (variable_count p)) = λ s n lt. (lt, refl, refl) in
        let pp : IsPossibleInside def a one.choice (map (substitute h) p) = (one.exact (map (substitute h) p)).0 (h, ground, refl) in
        let qp : IsPossible def t two.choice (map (substitute h) other) =
        (two.exact (map (substitute h) other)).0 (after h (raised (variable_count p)), grounding-after def.signature h (raised (variable_count p)) ground raised_sorted, sym (map-substitute-after h (raised (variable_count p)) q)) in
        let long = seen_length def a pp.inside one.choice [] pp.value pp.seen [] pp.holds in
        let (w, others, seen_is) = some_seen pp.seen (behind def t r) (omega (arith, long, count)) in
        let left : map (substitute h) p ≡ pp.value ∷ w ∷ (others ++ map pp.inside KK) = pp.columns_are ∙ ap (λ (l : List Term). (pp.value ∷ l) ++ map pp.inside KK) seen_is in
        let bare : qp.seen ≡ [] = unseen def t a b r count whole whole_child real two.choice (map (substitute h) other) qp in
        let right : map (substitute h) other ≡ qp.value ∷ map qp.outside LL = qp.columns_are ∙ ap (λ (l : List Term). (qp.value ∷ l) ++ map qp.outside LL) bare in
        let it = agreed KK LL MM (union def t a b r count whole whole_child real) h pp.inside qp.outside p other pp.value w qp.value others left right solved in
        together def t a b r 0 whole whole_child one.choice two.choice (map (substitute h) (pair_columns KK LL MM p other)) (λ x k. width def t a b r count whole whole_child real one.choice x k) once (record {
          p = map (substitute h) p;
          p_is = pp;
          q = map (substitute h) other;
          q_is = qp;
          glue = record {
            value = pp.value;
            seen = [];
            wanted = w;
            others = others;
            more = [];
            entity = it.entity;
            place = refl;
            left_is = it.left_is;
            right_is = it.right_is;
            made_is = it.made_is;
          };
        })
