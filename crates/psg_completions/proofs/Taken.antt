-- The values of hole rows are exactly those of complete legal trees.
use Rattle.std.proofs.Common.{◌≡◌, ◌↔◌, inl, inr, ℕ, zero, suc, ◌+◌, ◌<◌, ◌≤◌, Bool, true, false, cond, List, [], ◌∷◌, ◌++◌, map, slice_get, refl, ap, sym, ◌∙◌, subst, true≢false, arith, append-nil, not-suc-le-zero}
use Rattle.std.specs.List.{AllByRecursion}
use Rattle.std.proofs.lemmas.Bool.{cases_Bool}
use Rattle.psg_terms.specs.Terms.{Term, variable, symbol, apply}
use Rattle.psg_terms.specs.Instances.{Substitution, substitute, IsGrounding}
use Rattle.psg_grammar.specs.declared.types.Kind.{Kind}
use Rattle.psg_grammar.specs.declared.types.SpecimenHole.{SpecimenHole}
use Rattle.psg_grammar.specs.declared.types.Case.{Case}
use Rattle.psg_grammar.specs.declared.types.Definition.{Definition}
use Rattle.psg_grammar.specs.Keys.{Key}
use Rattle.psg_terms.specs.Names.{is_among}
use Rattle.psg_grammar.specs.Lookups.{is_scope}
use Rattle.psg_grammar.specs.Regions.{declared_inside, declared_in}
use Rattle.psg_grammar.specs.Open.{IsOfHoleRow}
use Rattle.psg_grammar.specs.Specimens.{tree_of, holes_of}
use Rattle.psg_completions.specs.Completions.{IsTaken}
use Rattle.psg_completions.specs.Places.{IsPart}
use Rattle.psg_completions.proofs.Usable.{IsUsableCase, IsFilled, usable_case, case_of}
use Rattle.psg_completions.specs.General.{Shows, term_at}
use Rattle.psg_grammar.specs.Sound.{kind_of, IsSound}
use Rattle.psg_completions.proofs.NameLaws.{among_left, among_right, among_parts, none_left, none_right}
use Rattle.psg_grammar.proofs.MixedEntities.{mixed, mixed_entities}
use Rattle.psg_completions.proofs.Counting.{image, Own, own_cond, image_below, image_mine, once_of, of_once}
use Rattle.psg_completions.specs.Counts.{count}
use Rattle.psg_completions.proofs.Growth.{Found, Supply, Supplies, CanGrow, Child, own_declared}
use Rattle.psg_completions.proofs.Growing.{grow_whole}
use Rattle.psg_completions.proofs.FreshNames.{IsKeyFor, key_space, fresh_key, all_names, NewNames, no_names, more_names}
use Rattle.psg_completions.specs.Conditions.{HasTrueRows}
use Rattle.psg_completions.proofs.Renamed.{named_of, no_supply, plain_places, renaming_of}
use Rattle.psg_completions.proofs.Covering.{covered_tree}

abbrev pub size : Term → ℕ
size (variable s n) = 0
size (symbol c) = 0
size (apply f a) = size f + size a + 1

pub part_smaller : (f : Substitution) (u t : Term) → IsPart u t → size (substitute f u) < size (substitute f t)
part_smaller f u (variable s n) h = absurd h
part_smaller f u (symbol c) h = absurd h
part_smaller f u (apply g a) (inl e) = let d : size (substitute f u) ≡ size (substitute f a) =
    ap (λ x. size (substitute f x)) e in omega (arith, d)
part_smaller f u (apply g a) (inr (inl h)) = omega (arith, part_smaller f u a h)
part_smaller f u (apply g a) (inr (inr h)) = omega (arith, part_smaller f u g h)

module _ (def : Definition) (sound : IsSound def) (true_rows : HasTrueRows def) where
  supplies_of : (f : Substitution) → IsGrounding def.signature f → (bound : Term) (hs : List SpecimenHole)
      → AllByRecursion (λ (h : SpecimenHole). IsPart h.term bound) hs → AllByRecursion (IsFilled def) hs
      → ((kind : Kind) (r : ℕ) (v : Term) → size v < size (substitute f bound) → IsOfHoleRow def kind r v
      → Supply def kind v) → Supplies def (map (kind_of def) hs) (map (term_at f) hs)
  supplies_of f ground bound [] small open_holes find = tt
  supplies_of f ground bound (h ∷ hs) (s, small) ((r, o), open_holes) find = (
    find h.kind r (substitute f h.term) (part_smaller f h.term bound s) (o f ground),
    supplies_of f ground bound hs small open_holes find,
  )

  case_found : (kind : Kind) (one : Case) (f : Substitution) → IsGrounding def.signature f → IsUsableCase def kind one
      → Supplies def (map (kind_of def) (holes_of one.specimen)) (map (term_at f) (holes_of one.specimen))
      → (avoid : List Key) → Found def kind (substitute f one.term) avoid
  case_found kind one f ground good supplies avoid =
      let tree = tree_of one.specimen in
      let r =
      subst (λ l. NewNames (IsKeyFor def) (key_space def) (fresh_key def) l avoid [])
      (append-nil (all_names def tree))
      (more_names (IsKeyFor def) (key_space def) (fresh_key def) (all_names def tree) [] avoid []
      (no_names (IsKeyFor def) (key_space def) (fresh_key def) avoid [])).names in
      let j = good.general f ground in
      whole r j where
        whole : NewNames (IsKeyFor def) (key_space def) (fresh_key def) (all_names def (tree_of one.specimen)) avoid []
            → Shows def one.specimen good.choice (substitute f one.term) (map (term_at f) (holes_of one.specimen))
            → Found def kind (substitute f one.term) avoid
        whole r j =
            let named =
            named_of def (renaming_of r.rho r.back r.targets) (tree_of one.specimen)
            (plain_places def (tree_of one.specimen) [] kind (map (kind_of def) (holes_of one.specimen)) []
            good.fits) (λ n a. (r.into n a, r.backs n a, r.good n a)) in
            let c =
            grow_whole def (renaming_of r.rho r.back r.targets) ⊥
            (no_supply def (renaming_of r.rho r.back r.targets) (λ m e. (r.over m e).0) (λ m e. r.space m))
            (tree_of one.specimen) good.choice j.outside j.judged.inner (substitute f one.term)
            (map (term_at f) (holes_of one.specimen)) [] kind (map (kind_of def) (holes_of one.specimen)) []
            good.fits named good.distinct.1 (λ e. good.distinct.0) j.judged.entities j.judged.agree (λ no. supplies)
            j.judged.holds (avoid ++ r.targets) (λ m e. among_right avoid r.targets m e) in
            built r j named c where
              built : (r : NewNames (IsKeyFor def) (key_space def) (fresh_key def)
                  (all_names def (tree_of one.specimen)) avoid [])
                  (j : Shows def one.specimen good.choice (substitute f one.term)
                  (map (term_at f) (holes_of one.specimen)))
                  → CanGrow def (renaming_of r.rho r.back r.targets) (tree_of one.specimen)
                  → Child def (renaming_of r.rho r.back r.targets) ⊥ (tree_of one.specimen) j.outside kind
                  (substitute f one.term) [] [] (avoid ++ r.targets) []
                  → Found def kind (substitute f one.term) avoid
              built r j named c = record {
                tree = c.tree;
                fits = c.fits;
                complete = c.complete;
                plain = c.plain (λ a. a);
                new = r.targets ++ c.new;
                apart = λ m e. elim (among_parts r.targets c.new m e) [
                  | inl t ↦ elim (r.apart m t) [ inl a ↦ a | inr b ↦ absurd (true≢false (sym b)) ]
                  | inr t ↦ none_left avoid r.targets m (c.apart m t)
                ];
                given = mixed r.targets (λ m. j.outside (r.back m)) c.given;
                entities =
                    mixed_entities def r.targets (λ m. j.outside (r.back m)) c.given
                    (record {
                      ground = λ m. j.entities.ground (r.back m);
                      sorted = λ m s at. j.entities.sorted (r.back m) s (ap (slice_get def.spaces) (r.space m) ∙ at);
                    })
                    c.entities;
                below = c.below;
                separate = c.separate;
                declares = λ m e.
                    let a : count m (declared_in def c.tree) ≡ image (renaming_of r.rho r.back r.targets) m
                    (declared_in def (tree_of one.specimen)) + count m [] =
                    c.declares m (none_right r.targets c.new m e) in
                    let b : image (renaming_of r.rho r.back r.targets) m (declared_in def (tree_of one.specimen)) ≡ 0 =
                    image_mine (renaming_of r.rho r.back r.targets) m (declared_in def (tree_of one.specimen)) own
                    (none_left r.targets c.new m e) in
                    omega (arith, a, b);
                once = λ m. elim (cases_Bool (is_among c.new m)) [
                  | inl y ↦ c.once m y
                  | inr y ↦
                      let a : count m (declared_in def c.tree) ≡ image (renaming_of r.rho r.back r.targets) m
                      (declared_in def (tree_of one.specimen)) + count m [] = c.declares m y in
                      let b : image (renaming_of r.rho r.back r.targets) m (declared_in def (tree_of one.specimen)) ≤
                      count (r.back m) (declared_in def (tree_of one.specimen)) =
                      image_below (renaming_of r.rho r.back r.targets) m (declared_in def (tree_of one.specimen))
                      own in
                      let d : count (r.back m) (declared_in def (tree_of one.specimen)) ≤ 1 =
                      few (r.back m) (is_scope def (tree_of one.specimen)) in
                      omega (arith, a, b, d)
                ];
                legal = λ h eh same. (let i = c.legal h eh
                    (λ m e. sym (same m (among_left r.targets c.new m e))
                    ∙ ap (λ b. cond b (j.outside (r.back m)) (c.given m)) e)
                    (λ m e. sym (ap (λ b. cond b (j.outside (r.back m)) (c.given m))
                    (none_right avoid r.targets m (c.apart m e))) ∙ same m (among_right r.targets c.new m e)) in
                    record { inner = i.inner; entities = i.entities; agree = i.agree; legal = i.legal });
              } where
                own : Own (renaming_of r.rho r.back r.targets) (declared_in def (tree_of one.specimen))
                own =
                    own_cond (renaming_of r.rho r.back r.targets) (is_scope def (tree_of one.specimen))
                    (declared_inside def (tree_of one.specimen))
                    (own_declared def (renaming_of r.rho r.back r.targets) (tree_of one.specimen) named)

                few : (m : Key) (b : Bool) → count m (cond b [] (declared_inside def (tree_of one.specimen))) ≤ 1
                few m true = omega arith
                few m false = once_of m (declared_inside def (tree_of one.specimen)) good.distinct.0

  -- by induction on the size of the value
  found_below : (n : ℕ) (kind : Kind) (r : ℕ) (v : Term) → size v < n → IsOfHoleRow def kind r v → Supply def kind v
  found_below zero kind r v lt h = absurd (not-suc-le-zero lt)
  found_below (suc n) kind r v lt h =
      let (c, one, chosen, (f, ground, v_is)) = case_of def sound true_rows r h.row h.chosen v h.value in
      let good = usable_case def sound true_rows r h.row h.chosen c one chosen in
      record {
        find = λ avoid.
            subst (λ k. Found def k v avoid) h.same (subst (λ x. Found def h.row.kind x avoid) (sym v_is)
            (case_found h.row.kind one f ground good
            (supplies_of f ground one.term (holes_of one.specimen) good.smaller good.filled
            (λ k r' v' lt' h'. found_below n k r' v'
            (let e : size v ≡ size (substitute f one.term) = ap size v_is in omega (arith, e, lt, lt')) h'))
            avoid));
      }

  pub supply : (kind : Kind) (r : ℕ) (v : Term) → IsOfHoleRow def kind r v → Supply def kind v
  supply kind r v h = found_below (size v + 1) kind r v (omega arith) h

  -- The law: a term without variables is of a hole row of the kind exactly where a complete legal tree takes it.
  pub taken_of_row : (kind : Kind) (r : ℕ) (v : Term) → IsOfHoleRow def kind r v → IsTaken def kind v
  taken_of_row kind r v h =
      let t = (supply kind r v h).find [] in
      record {
        tree = t.tree;
        formed = (t.fits, t.plain);
        complete = t.complete;
        distinct = (
          elim (cases_Bool (is_scope def t.tree)) [
            | inl e ↦ t.separate e
            | inr e ↦ of_once (declared_inside def t.tree)
                (λ m. subst (λ b. count m (cond b [] (declared_inside def t.tree)) ≤ 1) e (t.once m))
          ],
          t.below,
        );
        outside = t.given;
        entities = t.entities;
        legal = t.legal t.given t.entities (λ n e. refl);
      }

  pub taken : (kind : Kind) (v : Term) → ((r : ℕ) × IsOfHoleRow def kind r v) ↔ IsTaken def kind v
  taken kind v = (
    (λ (r, h). taken_of_row kind r v h),
    (λ t. (covered_tree def true_rows t.tree [] kind t.legal.inner [] v [] [] [] t.formed.0 t.complete t.formed.1
        t.legal.legal tt).1),
  )
