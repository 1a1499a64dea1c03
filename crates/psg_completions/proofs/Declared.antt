-- An element that declares a name behind an unfinished list.
use Rattle.std.proofs.Common.{◌≡◌, inl, inr, ◌+◌, ◌≤◌, Bool, true, false, cond, ◌||◌, List, [], ◌∷◌, ◌++◌, map, slice_get, bytes_eq, Some, refl, ap, sym, ◌∙◌, subst, true≢false, arith}
use Rattle.std.specs.List.{AllByRecursion}
use Rattle.std.proofs.lemmas.Bool.{cases_Bool, or_cases}
use Rattle.psg_terms.proofs.DeclareLaws.{bytes_eq-same}
use Rattle.psg_terms.specs.Instances.{Substitution, substitute, IsGrounding}
use Rattle.psg_grammar.specs.declared.types.ListKind.{ListKind}
use Rattle.psg_grammar.specs.declared.types.SpecimenHole.{SpecimenHole}
use Rattle.psg_grammar.specs.declared.types.DeclareRow.{DeclareRow}
use Rattle.psg_grammar.specs.declared.types.Definition.{Definition}
use Rattle.psg_grammar.specs.Keys.{Key}
use Rattle.psg_terms.specs.Names.{is_among}
use Rattle.psg_completions.proofs.NameLaws.{without, among_left, among_right, among_one, among_without, among_parts, none_left, none_right}
use Rattle.psg_grammar.specs.Lookups.{is_scope}
use Rattle.psg_grammar.specs.Regions.{declared_inside, declared_in}
use Rattle.psg_grammar.specs.Legal.{Legal, Within, AgreeOutside}
use Rattle.psg_grammar.specs.Specimens.{tree_of, holes_of}
use Rattle.psg_completions.specs.General.{Shows, term_at, it}
use Rattle.psg_grammar.specs.Sound.{kind_of, IsSound}
use Rattle.psg_completions.proofs.Usable.{IsUsableDeclare, IsFilled}
use Rattle.psg_grammar.proofs.MixedEntities.{mixed, mixed_entities}
use Rattle.psg_completions.proofs.Counting.{image, Own, own_cond, image_below, image_above, image_mine, once_of}
use Rattle.psg_completions.specs.Counts.{one_if, count}
use Rattle.psg_completions.proofs.Growth.{Element, Supplies, CanGrow, Child, own_declared}
use Rattle.psg_completions.proofs.Growing.{grow_whole}
use Rattle.psg_completions.proofs.FreshNames.{IsKeyFor, key_space, fresh_key, all_names, NewNames, single_name, more_names}
use Rattle.psg_completions.specs.Conditions.{HasTrueRows}
use Rattle.psg_completions.proofs.Renamed.{named_of, no_supply, plain_places, renaming_of}
use Rattle.psg_completions.proofs.Taken.{supply}
use Rattle.psg_grammar.specs.declared.types.Kind.TheVariants as kinds

kept_by_without : (xs gone : List Key) (m : Key) → is_among (without xs gone) m ≡ true
    → (is_among xs m ≡ true) × (is_among gone m ≡ false)
kept_by_without [] gone m e = absurd (true≢false (sym e))
kept_by_without (x ∷ xs) gone m e = elim (cases_Bool (is_among gone x)) [
  | inl t ↦ let (a, b) =
      kept_by_without xs gone m (sym (ap (λ b. is_among (cond b (without xs gone) (x ∷ without xs gone)) m) t) ∙ e) in
      (or_true (bytes_eq x m) (is_among xs m) a, b)
  | inr f ↦ elim (or_cases (bytes_eq x m) (is_among (without xs gone) m)
      (sym (ap (λ b. is_among (cond b (without xs gone) (x ∷ without xs gone)) m) f) ∙ e)) [
        | inl t ↦ (ap (λ b. b || is_among xs m) t, subst (λ k. is_among gone k ≡ false) (bytes_eq-same x m t) f)
        | inr t ↦ let (a, b) = kept_by_without xs gone m t in (or_true (bytes_eq x m) (is_among xs m) a, b)
      ]
] where
  or_true : (a b : Bool) → b ≡ true → a || b ≡ true
  or_true true b e = refl
  or_true false b e = e

module _ (def : Definition) (sound : IsSound def) (true_rows : HasTrueRows def) where
  all_supplies : (f : Substitution) → IsGrounding def.signature f → (hs : List SpecimenHole)
      → AllByRecursion (IsFilled def) hs → Supplies def (map (kind_of def) hs) (map (term_at f) hs)
  all_supplies f ground [] o = tt
  all_supplies f ground (h ∷ hs) ((r, o), os) =
      (supply def sound true_rows h.kind r (substitute f h.term) (o f ground), all_supplies f ground hs os)

  pub element_of : (d : DeclareRow) (kind : ListKind) (f : Substitution) (n : Key) (avoid : List Key)
      → slice_get def.lists d.list ≡ Some kind → IsUsableDeclare def d kind → IsGrounding def.signature f
      → IsKeyFor def (it d.space) n → is_among avoid n ≡ true
      → Element def d.list n (substitute f d.term) avoid
  element_of d kind f n avoid list good ground name known =
      let (base, base_it) = single_name (IsKeyFor def) (key_space def) (fresh_key def) (it d.space) n avoid name in
      let more =
      more_names (IsKeyFor def) (key_space def) (fresh_key def) (all_names def (tree_of d.specimen))
      (it d.space ∷ []) avoid (n ∷ []) base in
      let (j, at_it) = good.general f ground in
      whole more.names (more.same (it d.space) (among_one (it d.space)) ∙ base_it) j at_it where
        whole : (r : NewNames (IsKeyFor def) (key_space def) (fresh_key def)
            (all_names def (tree_of d.specimen) ++ it d.space ∷ []) avoid (n ∷ [])) → r.rho (it d.space) ≡ n
            → (j : Shows def d.specimen good.choice (substitute f d.value) (map (term_at f) (holes_of d.specimen)))
            → j.outside (it d.space) ≡ substitute f d.term → Element def d.list n (substitute f d.term) avoid
        whole r to_n j at_it =
            let named =
            named_of def (renaming_of r.rho r.back r.targets) (tree_of d.specimen)
            (plain_places def (tree_of d.specimen) [] (kinds.Phylum kind.element)
            (map (kind_of def) (holes_of d.specimen)) [] good.fits)
            (λ x a. let b = among_left (all_names def (tree_of d.specimen)) (it d.space ∷ []) x a in
            (r.into x b, r.backs x b, r.good x b)) in
            let c =
            grow_whole def (renaming_of r.rho r.back r.targets) ⊥
            (no_supply def (renaming_of r.rho r.back r.targets) (λ m e. (r.over m e).0) (λ m e. r.space m))
            (tree_of d.specimen) good.choice j.outside j.judged.inner (substitute f d.value)
            (map (term_at f) (holes_of d.specimen)) [] (kinds.Phylum kind.element)
            (map (kind_of def) (holes_of d.specimen)) []
            good.fits named good.distinct.1 (λ e. good.distinct.0) j.judged.entities j.judged.agree
            (λ no. all_supplies f ground (holes_of d.specimen) good.filled) j.judged.holds (avoid ++ r.targets)
            (λ m e. among_right avoid r.targets m e) in
            built r to_n j at_it named c where
              built : (r : NewNames (IsKeyFor def) (key_space def) (fresh_key def)
                  (all_names def (tree_of d.specimen) ++ it d.space ∷ []) avoid (n ∷ [])) → r.rho (it d.space) ≡ n
                  → (j : Shows def d.specimen good.choice (substitute f d.value)
                  (map (term_at f) (holes_of d.specimen))) → j.outside (it d.space) ≡ substitute f d.term
                  → CanGrow def (renaming_of r.rho r.back r.targets) (tree_of d.specimen)
                  → Child def (renaming_of r.rho r.back r.targets) ⊥ (tree_of d.specimen) j.outside
                  (kinds.Phylum kind.element) (substitute f d.value) [] [] (avoid ++ r.targets) []
                  → Element def d.list n (substitute f d.term) avoid
              built r to_n j at_it named c = record {
                kind = kind;
                list = list;
                tree = c.tree;
                fits = c.fits;
                complete = c.complete;
                plain = c.plain (λ a. a);
                new = without r.targets (n ∷ []) ++ c.new;
                apart = λ m e. elim (among_parts (without r.targets (n ∷ [])) c.new m e) [
                  | inl t ↦ let (a, b) = kept_by_without r.targets (n ∷ []) m t in
                      elim (r.apart m a) [ inl x ↦ x | inr x ↦ absurd (true≢false (sym x ∙ b)) ]
                  | inr t ↦ none_left avoid r.targets m (c.apart m t)
                ];
                given = mixed r.targets (λ m. j.outside (r.back m)) c.given;
                entities =
                    mixed_entities def r.targets (λ m. j.outside (r.back m)) c.given
                    (record {
                      ground = λ m. j.entities.ground (r.back m);
                      sorted = λ m s at. j.entities.sorted (r.back m) s (ap (slice_get def.spaces) (r.space m) ∙ at);
                    })
                    c.entities;
                below = c.below;
                scope = no_scope;
                declares = λ m e.
                    let plain : count m (declared_inside def c.tree) ≡ count m (declared_in def c.tree) =
                    ap (λ b. count m (cond b [] (declared_inside def c.tree))) (sym no_scope) in
                    let a : count m (declared_in def c.tree) ≡ image (renaming_of r.rho r.back r.targets) m
                    (declared_in def (tree_of d.specimen)) + count m [] =
                    c.declares m (none_right (without r.targets (n ∷ [])) c.new m e) in
                    elim (cases_Bool (bytes_eq n m)) [
                      | inl t ↦
                          let is_n : n ≡ m = bytes_eq-same n m t in
                          let b : count m (declared_in def c.tree) ≡ 1 =
                          subst (λ k. count k (declared_in def c.tree) ≡ 1) is_n once_n in
                          let o : one_if (bytes_eq n m) ≡ 1 = ap one_if t in
                          omega (arith, plain, b, o)
                      | inr t ↦
                          let out : is_among r.targets m ≡ false = elim (cases_Bool (is_among r.targets m)) [
                            | inl y ↦ absurd
                                (true≢false (sym (among_without r.targets (n ∷ []) m y (ap (λ b. b || false) t))
                                ∙ none_left (without r.targets (n ∷ [])) c.new m e))
                            | inr y ↦ y
                          ] in
                          let b : image (renaming_of r.rho r.back r.targets) m
                          (declared_in def (tree_of d.specimen)) ≡ 0 =
                          image_mine (renaming_of r.rho r.back r.targets) m (declared_in def (tree_of d.specimen))
                          own out in
                          let o : one_if (bytes_eq n m) ≡ 0 = ap one_if t in
                          omega (arith, plain, a, b, o)
                    ];
                once = λ m e.
                    let plain : count m (declared_inside def c.tree) ≡ count m (declared_in def c.tree) =
                    ap (λ b. count m (cond b [] (declared_inside def c.tree))) (sym no_scope) in
                    elim (cases_Bool (is_among c.new m)) [
                      | inl y ↦ let a : count m (declared_in def c.tree) ≤ 1 = c.once m y in omega (arith, plain, a)
                      | inr y ↦
                          let a : count m (declared_in def c.tree) ≡ image (renaming_of r.rho r.back r.targets) m
                          (declared_in def (tree_of d.specimen)) + count m [] = c.declares m y in
                          let b : image (renaming_of r.rho r.back r.targets) m (declared_in def (tree_of d.specimen)) ≤
                          count (r.back m) (declared_in def (tree_of d.specimen)) =
                          image_below (renaming_of r.rho r.back r.targets) m (declared_in def (tree_of d.specimen))
                          own in
                          let z : count (r.back m) (declared_in def (tree_of d.specimen)) ≤ 1 =
                          few (r.back m) (is_scope def (tree_of d.specimen)) in
                          omega (arith, plain, a, b, z)
                    ];
                value = substitute f d.value;
                keeps = λ u gu su. good.keeps f ground u gu su;
                legal = λ h eh same at_n.
                    let lifts : (m : Key) → is_among r.targets m ≡ true
                    → h m ≡ j.outside (r.back m) = λ m e. elim (cases_Bool (bytes_eq n m)) [
                      | inl t ↦ subst (λ k. h k ≡ j.outside (r.back k)) (bytes_eq-same n m t)
                          (at_n ∙ sym at_it ∙ ap j.outside (sym back_n))
                      | inr t ↦ sym
                          (same m (among_left (without r.targets (n ∷ [])) c.new m
                          (among_without r.targets (n ∷ []) m e (ap (λ b. b || false) t))))
                          ∙ ap (λ b. cond b (j.outside (r.back m)) (c.given m)) e
                    ] in
                    let i =
                    c.legal h eh lifts (λ m e. sym
                    (ap (λ b. cond b (j.outside (r.back m)) (c.given m))
                    (none_right avoid r.targets m (c.apart m e)))
                    ∙ same m (among_right (without r.targets (n ∷ [])) c.new m e)) in
                    let inner : i.inner ≡ h =
                    subst (λ b. Within b (AgreeOutside (declared_inside def c.tree)) h i.inner) no_scope i.agree in
                    subst (λ k. Legal def k c.tree [] (substitute f d.value) [] []) inner i.legal;
              } where
                it_among : is_among (all_names def (tree_of d.specimen) ++ it d.space ∷ []) (it d.space) ≡ true
                it_among =
                    among_right (all_names def (tree_of d.specimen)) (it d.space ∷ []) (it d.space)
                    (among_one (it d.space))

                back_n : r.back n ≡ it d.space
                back_n = ap r.back (sym to_n) ∙ r.backs (it d.space) it_among

                own : Own (renaming_of r.rho r.back r.targets) (declared_in def (tree_of d.specimen))
                own =
                    own_cond (renaming_of r.rho r.back r.targets) (is_scope def (tree_of d.specimen))
                    (declared_inside def (tree_of d.specimen))
                    (own_declared def (renaming_of r.rho r.back r.targets) (tree_of d.specimen) named)

                few : (m : Key) (b : Bool) → count m (cond b [] (declared_inside def (tree_of d.specimen))) ≤ 1
                few m true = omega arith
                few m false = once_of m (declared_inside def (tree_of d.specimen)) good.distinct.0

                -- the name is declared exactly once
                once_n : count n (declared_in def c.tree) ≡ 1
                once_n =
                    let old : is_among c.new n ≡ false =
                    elim (cases_Bool (is_among c.new n)) [
                      | inl y ↦ absurd (true≢false (sym known ∙ none_left avoid r.targets n (c.apart n y)))
                      | inr y ↦
                          y
                    ] in
                    let a : count n (declared_in def c.tree) ≡ image (renaming_of r.rho r.back r.targets) n
                    (declared_in def (tree_of d.specimen)) + count n [] = c.declares n old in
                    let b : image (renaming_of r.rho r.back r.targets) n (declared_in def (tree_of d.specimen)) ≤ count
                    (r.back n) (declared_in def (tree_of d.specimen)) =
                    image_below (renaming_of r.rho r.back r.targets) n (declared_in def (tree_of d.specimen)) own in
                    let b' : count (r.back n) (declared_in def (tree_of d.specimen)) ≤ image
                    (renaming_of r.rho r.back r.targets) n (declared_in def (tree_of d.specimen)) =
                    image_above (renaming_of r.rho r.back r.targets) n (declared_in def (tree_of d.specimen))
                    (ap r.rho back_n ∙ to_n) in
                    let z : count (r.back n) (declared_in def (tree_of d.specimen)) ≡ 1 =
                    ap (λ k. count k (declared_in def (tree_of d.specimen))) back_n ∙ good.declares_it in
                    omega (arith, a, b, b', z)

                no_scope : is_scope def c.tree ≡ false
                no_scope = elim (cases_Bool (is_scope def c.tree)) [
                  | inl t ↦
                      let a : count n (declared_in def c.tree) ≡ 0 =
                      ap (λ b. count n (cond b [] (declared_inside def c.tree))) t in
                      let o : count n (declared_in def c.tree) ≡ 1 = once_n in
                      absurd (let k : 1 ≤ 0 = omega (arith, a, o) in omega (arith, k))
                  | inr t ↦ t
                ]
