-- The relations of a node's steps along a plan.
use Rattle.std.proofs.Common.{◌≡◌, ◌⊎◌, inl, inr, ℕ, ◌+◌, ◌<◌, ◌≤◌, Bool, true, false, cond, List, [], ◌∷◌, ◌++◌, length, Option, refl, ap, sym, ◌∙◌, subst, append_assoc, append-nil, arith}
use Rattle.psg_grammar.specs.declared.types.Definition.{Definition}
use Rattle.psg_grammar.specs.Fragments.{Fragment}
use Rattle.psg_grammar.specs.Lookups.{is_scope}
use Rattle.psg_grammar.specs.Paths.{Path}
use Rattle.psg_grammar.specs.Steps.{IsStepRelation, adding, children_count, closing, last_step}
use Rattle.psg_explain.specs.Plans.{Done, Flow, Flows, Step, adding as adding_steps, at_of, closing as closing_steps, from_before, from_itself, from_pair, halted, making, through}
use Rattle.psg_explain.specs.Relations.{AreOwnFrom, EndsEmpty, IsRelationAt, same_rows}
use Rattle.psg_explain.specs.Walks.{At, ComesTo, went, ended}
use Rattle.psg_explain.proofs.PlanLaws.{Rows}

module _ (def : Definition) where
  abbrev G : List Rows → List Step → List Rows → Flow Rows → Type 0
  G now steps xs r = Flows def same_rows (IsRelationAt def) now steps xs r

  -- what these rows come to, with others after them
  abbrev pub Comes : List Rows → List Step → List Rows → List Rows → Type 0
  Comes now steps rs more =
      ((EndsEmpty rs → ⊥) × G now steps (rs ++ more) (through (now ++ rs) more))
      ⊎ (EndsEmpty rs × ((more ≡ []) → (last : At) × G now steps (rs ++ more) (halted last)))

  no_step_after : (f : Fragment) (n : ℕ) (r : Rows) → IsStepRelation def f n r → last_step def f < n → ⊥
  no_step_after f n r h lt = by (is_scope def f) refl h lt
    where
      by : (b : Bool) → is_scope def f ≡ b → IsStepRelation def f n r → cond b (children_count f + 1) (children_count f) < n → ⊥
      by true e (adding m rows le is) lt = omega (arith, le, lt)
      by true e (closing m rows z scope is) lt = omega (arith, z, lt)
      by false e (adding m rows le is) lt = omega (arith, le, lt)
      by false e (closing m rows z scope is) lt = let d : false ≡ true = sym e ∙ scope in absurd (cc)

  -- a step with rows, and then the others
  step_through : (now : List Rows) (s : Step) (steps : List Step) (r : Rows) (left : List Rows) (q : Flow Rows) → IsStepRelation def s.part s.number r → (r ≡ [] → ⊥) → G (now ++ r ∷ []) steps left q → G now (s ∷ steps) (r ∷ left) q
  step_through now s steps [] left q is some h = absurd (some refl)
  step_through now s steps (x ∷ r) left q is some h = (went (x ∷ r) left, (is, refl), h)

  step_ends : (now : List Rows) (s : Step) (steps : List Step) (r : Rows) (left : List Rows) → IsStepRelation def s.part s.number r → r ≡ [] → left ≡ [] → (last : At) × G now (s ∷ steps) (r ∷ left) (halted last)
  step_ends now s steps r left is none over = (
    at_of def now s,
    (ended (at_of def now s), (is, subst (λ (q : Rows). ComesTo def same_rows (IsRelationAt def) (at_of def now s) q left (ended (at_of def now s))) (sym none) (over, refl)), refl),
  )

  -- the first step with what follows it
  joined : (now : List Rows) (s : Step) (steps : List Step) (r : Rows) (rs more : List Rows) → IsStepRelation def s.part s.number r → (r ≡ [] → ⊥) → Comes (now ++ r ∷ []) steps rs more → Comes now (s ∷ steps) (r ∷ rs) more
  joined now s steps r rs more is some (inl (none, h)) = inl (
    out,
    step_through now s steps r (rs ++ more) (through (now ++ r ∷ rs) more) is some (subst (λ (l : List Rows). G (now ++ r ∷ []) steps (rs ++ more) (through l more)) (append_assoc now (r ∷ []) rs) h),
  )
    where
      out : EndsEmpty (r ∷ rs) → ⊥
      out (inl (e, k)) = some e
      out (inr e) = none e
  joined now s steps r rs more is some (inr (e, h)) = inr (inr e, λ over. let (last, k) = h over in (last, step_through now s steps r (rs ++ more) (halted last) is some k))

  module _ (path : Path) (c : Option ℕ) (f : Fragment) where
    closing_comes : (b : Bool) → is_scope def f ≡ b → (n before : ℕ) → n ≡ children_count f → (now : List Rows) (rs more : List Rows) → AreOwnFrom def f (n + 1) rs → Comes now (closing_steps def b path c f n before) rs more
    closing_comes true e n before all now [] more run =
        let last : last_step def f ≡ children_count f + 1 = ap (λ (b : Bool). cond b (children_count f + 1) (children_count f)) e in
        absurd (omega (arith, run, last, all))
    closing_comes true e n before all now (r ∷ rs) more (is, inl (none, over)) =
        inr (inl (none, over), λ left. step_ends now (record { path = path; cell = c; part = f; number = n + 1; origin = from_before before }) [] r (rs ++ more) is none (ap (λ (l : List Rows). l ++ more) over ∙ left))
    closing_comes true e n before all now (r ∷ rs) more (is, inr (some, run)) =
        joined now (record { path = path; cell = c; part = f; number = n + 1; origin = from_before before }) [] r rs more is some (nothing rs run)
      where
        nothing : (xs : List Rows) → AreOwnFrom def f (n + 1 + 1) xs → Comes (now ++ r ∷ []) [] xs more
        nothing [] h = inl (λ e. e, ap (λ (l : List Rows). through l more) (append-nil (now ++ r ∷ [])))
        nothing (x ∷ xs) (h, k) =
            let last : last_step def f ≡ children_count f + 1 = ap (λ (b : Bool). cond b (children_count f + 1) (children_count f)) e in
            absurd (no_step_after f (n + 1 + 1) x h (omega (arith, last, all)))
    closing_comes false e n before all now [] more run = inl (λ e. e, ap (λ (l : List Rows). through l more) (append-nil now))
    closing_comes false e n before all now (r ∷ rs) more (is, next) =
        let last : last_step def f ≡ children_count f = ap (λ (b : Bool). cond b (children_count f + 1) (children_count f)) e in
        absurd (no_step_after f (n + 1) r is (omega (arith, last, all)))

    least_last : children_count f ≤ last_step def f
    least_last = by (is_scope def f)
      where
        by : (b : Bool) → children_count f ≤ cond b (children_count f + 1) (children_count f)
        by true = omega arith
        by false = omega arith

    adding_comes : (ds : List Done) (n before : ℕ) → n + length ds ≡ children_count f → (now : List Rows) (rs more : List Rows) → AreOwnFrom def f (n + 1) rs → Comes now (adding_steps def path c f n before ds) rs more
    adding_comes [] n before all now rs more run = closing_comes (is_scope def f) refl n before (omega (arith, all)) now rs more run
    adding_comes (d ∷ ds) n before all now [] more run = let least = least_last in absurd (omega (arith, run, least, all))
    adding_comes (d ∷ ds) n before all now (r ∷ rs) more (is, inl (none, over)) =
        inr (inl (none, over), λ left. step_ends now (record { path = path; cell = c; part = f; number = n + 1; origin = from_pair n before d.place d.tree }) (adding_steps def path c f (n + 1) (before + 1) ds) r (rs ++ more) is none (ap (λ (l : List Rows). l ++ more) over ∙ left))
    adding_comes (d ∷ ds) n before all now (r ∷ rs) more (is, inr (some, run)) =
        joined now (record { path = path; cell = c; part = f; number = n + 1; origin = from_pair n before d.place d.tree }) (adding_steps def path c f (n + 1) (before + 1) ds) r rs more is some
        (adding_comes ds (n + 1) (before + 1) (omega (arith, all)) (now ++ r ∷ []) rs more run)

    -- the relations of a node's own steps
    pub making_comes : (base : ℕ) (ds : List Done) → length ds ≡ children_count f → (now : List Rows) (rs more : List Rows) → AreOwnFrom def f 0 rs → Comes now (making def base path c f ds) rs more
    making_comes base ds all now [] more run = absurd (omega (arith, run))
    making_comes base ds all now (r ∷ rs) more (is, inl (none, over)) =
        inr (inl (none, over), λ left. step_ends now (record { path = path; cell = c; part = f; number = 0; origin = from_itself }) (adding_steps def path c f 0 base ds) r (rs ++ more) is none (ap (λ (l : List Rows). l ++ more) over ∙ left))
    making_comes base ds all now (r ∷ rs) more (is, inr (some, run)) =
        joined now (record { path = path; cell = c; part = f; number = 0; origin = from_itself }) (adding_steps def path c f 0 base ds) r rs more is some
        (adding_comes ds 0 base (omega (arith, all)) (now ++ r ∷ []) rs more run)
