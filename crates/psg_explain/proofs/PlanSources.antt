-- What the rows of a plan's steps are made of, and what is known of the step without rows at which a flow ends.
use Rattle.std.proofs.Common.{◌≡◌, inl, inr, ℕ, zero, suc, ◌+◌, ◌<◌, Bool, true, false, List, [], ◌∷◌, ◌++◌, map, length, length-append, Option, Some, None, slice_get, refl, ap, sym, ◌∙◌, subst, append_assoc, append-nil, arith}
use Rattle.std.proofs.lemmas.Bool.{cases_lt}
use Rattle.std.specs.List.{AllByRecursion}
use Rattle.psg_terms.proofs.Lists.{slice_get-end, slice_get-middle}
use Rattle.psg_grammar.specs.declared.types.Kind.{Kind}
use Rattle.psg_grammar.specs.declared.types.Definition.{Definition}
use Rattle.psg_grammar.specs.Fragments.{Fragment}
use Rattle.psg_grammar.specs.Lookups.{is_scope}
use Rattle.psg_grammar.specs.Paths.{Path, node_at}
use Rattle.psg_grammar.specs.Steps.{children_count}
use Rattle.psg_grammar.specs.WellFormed.{WellFormed}
use Rattle.psg_explain.specs.Plans.{Done, Flows, Origin, Step, adding, at_of, closing, from_before, from_itself, from_pair, halted, making, planned, rows_at}
use Rattle.psg_explain.specs.Walks.{At, ComesTo, went, ended}
use Rattle.psg_explain.proofs.PlanBlocks.{AreBlocks, Block, IsDone, IsFormedNode, done_more, joined, planned_blocks, steps_in, tree_done}
use Rattle.psg_explain.proofs.PlanFormed.{walked_of}
use Rattle.psg_explain.proofs.PlanLaws.{Rows, rows_end, rows_front}
use Rattle.psg_explain.proofs.Walking.{added_children}

pub front_there : {X : Type 0} (xs ys : List X) (k : ℕ) (x : X) → slice_get (xs ++ ys) k ≡ Some x → k < length xs → slice_get xs k ≡ Some x
front_there [] ys k x h lt = absurd (omega (arith, lt))
front_there (z ∷ xs) ys zero x h lt = h
front_there (z ∷ xs) ys (suc k) x h lt = front_there xs ys k x h (omega (arith, lt))

pub there_within : {X : Type 0} (xs : List X) (k : ℕ) (x : X) → slice_get xs k ≡ Some x → k < length xs
there_within [] k x h = absurd (cc)
there_within (z ∷ xs) zero x h = omega arith
there_within (z ∷ xs) (suc k) x h = let i = there_within xs k x h in omega (arith, i)

module _ (def : Definition) where
  -- the steps before are those that the rows are made of
  abbrev pub IsSourcedBy : List Step → Fragment → ℕ → Origin → Type 0
  IsSourcedBy before f number from_itself = number ≡ 0
  IsSourcedBy before f number (from_pair n b c t) =
      (p : Step) × (slice_get before b ≡ Some p) × (p.part ≡ f) × (p.number ≡ n) × IsDone def before (record { tree = t; place = c }) × (slice_get (added_children f) n ≡ Some t) × (number ≡ n + 1)
  IsSourcedBy before f number (from_before b) =
      (p : Step) × (slice_get before b ≡ Some p) × (p.part ≡ f) × (p.number ≡ children_count f) × (is_scope def f ≡ true) × (number ≡ children_count f + 1)

  pub record IsSourced (before : List Step) (s : Step) : Type 0 where
    pub by : IsSourcedBy before s.part s.number s.origin
    pub formed : IsFormedNode def s.part

  abbrev pub AreSourced : List Step → List Step → Type 0
  AreSourced before [] = Unit {0}
  AreSourced before (s ∷ steps) = IsSourced before s × AreSourced (before ++ s ∷ []) steps

  sourced_append : (before xs ys : List Step) → AreSourced before xs → AreSourced (before ++ xs) ys → AreSourced before (xs ++ ys)
  sourced_append before [] ys h k = subst (λ (l : List Step). AreSourced l ys) (append-nil before) k
  sourced_append before (x ∷ xs) ys (is, h) k =
      (is, sourced_append (before ++ x ∷ []) xs ys h (subst (λ (l : List Step). AreSourced l ys) (sym (append_assoc before (x ∷ []) xs)) k))

  module _ (path : Path) (c : Option ℕ) (f : Fragment) (formed : IsFormedNode def f) where
    -- the step before is at the place
    record HasBefore (before : List Step) (place n : ℕ) : Type 0 where
      p : Step
      there : slice_get before place ≡ Some p
      part : p.part ≡ f
      number : p.number ≡ n
      count : length before ≡ place + 1

    closing_sourced : (b : Bool) → is_scope def f ≡ b → (before : List Step) (n place : ℕ) → HasBefore before place n → n ≡ children_count f → AreSourced before (closing def b path c f n place)
    closing_sourced true scope before n place h e =
        (record { by = (h.p, h.there, h.part, h.number ∙ e, scope, ap (λ (m : ℕ). m + 1) e); formed = formed }, tt)
    closing_sourced false scope before n place h e = tt

    adding_sourced : (ds : List Done) (before : List Step) (n place : ℕ) (front : List Fragment) → HasBefore before place n → AllByRecursion (IsDone def before) ds → added_children f ≡ front ++ map tree_done ds → length front ≡ n → n + length ds ≡ children_count f
        → AreSourced before (adding def path c f n place ds)
    adding_sourced [] before n place front h done split many total = closing_sourced (is_scope def f) refl before n place h (omega (arith, total))
    adding_sourced (d ∷ ds) before n place front h (one, done) split many total =
        let s : Step = record { path = path; cell = c; part = f; number = n + 1; origin = from_pair n place d.place d.tree } in
        let count = h.count in
        let longer = length-append before (s ∷ []) in
        let here : slice_get (added_children f) n ≡ Some d.tree =
        ap (λ (l : List Fragment). slice_get l n) split ∙ ap (slice_get (front ++ d.tree ∷ map tree_done ds)) (sym many) ∙ slice_get-middle front d.tree (map tree_done ds) in
        let next : HasBefore (before ++ s ∷ []) (place + 1) (n + 1) = record {
          p = s;
          there = ap (slice_get (before ++ s ∷ [])) (sym count) ∙ slice_get-end before s;
          part = refl;
          number = refl;
          count = omega (arith, count, longer);
        } in
        let more = length-append front (d.tree ∷ []) in (
          record { by = (h.p, h.there, h.part, h.number, one, here, refl); formed = formed },
          adding_sourced ds (before ++ s ∷ []) (n + 1) (place + 1) (front ++ d.tree ∷ []) next (done_more def before (s ∷ []) ds done) (split ∙ sym (append_assoc front (d.tree ∷ []) (map tree_done ds))) (omega (arith, more, many)) (omega (arith, total)),
        )

    pub making_sourced : (before : List Step) (base : ℕ) (ds : List Done) → base ≡ length before → AllByRecursion (IsDone def before) ds → map tree_done ds ≡ added_children f → length ds ≡ children_count f → AreSourced before (making def base path c f ds)
    making_sourced before base ds e done trees count =
        let s : Step = record { path = path; cell = c; part = f; number = 0; origin = from_itself } in
        let longer = length-append before (s ∷ []) in
        let next : HasBefore (before ++ s ∷ []) base 0 = record {
          p = s;
          there = ap (slice_get (before ++ s ∷ [])) e ∙ slice_get-end before s;
          part = refl;
          number = refl;
          count = omega (arith, e, longer);
        } in (
          record { by = refl; formed = formed },
          adding_sourced ds (before ++ s ∷ []) 0 base [] next (done_more def before (s ∷ []) ds done) (sym trees) refl (omega (arith, count)),
        )

  blocks_sourced : (root : Fragment) (bs : List Block) (before : List Step) (last end : Option Fragment) → AreBlocks def root before last bs end → AreSourced before (joined def bs)
  blocks_sourced root [] before last end h = tt
  blocks_sourced root (b ∷ bs) before last end (is, h) =
      sourced_append before (steps_in def b) (joined def bs) (making_sourced b.path b.cell b.part is.formed before b.base b.children is.base is.done is.children is.count)
      (blocks_sourced root bs (before ++ steps_in def b) (Some b.part) end h)

  pub planned_sourced : (root : Fragment) (path : Path) (f : Fragment) (kind : Kind) → WellFormed def f kind → node_at root path ≡ Some f → AreSourced [] (planned def 0 path f)
  planned_sourced root path f kind formed at =
      let p = planned_blocks def root f path [] None 0 refl kind formed (walked_of def f kind formed.0 formed.1) at in
      subst (AreSourced []) (sym p.all.are) (blocks_sourced root p.all.blocks [] None (Some f) p.all.chain)

  -- ---- flows

  module _ {X : Type 0} (rows_in : X → Rows) (IsOf : At → X → Type 0) where
    pub comes_went : (at : At) (r : Rows) (left : List X) (more : Rows) (rest : List X) → ComesTo def rows_in IsOf at r left (went more rest) → (more ≡ r) × (rest ≡ left)
    comes_went at [] left more rest (e, k) = absurd (cc)
    comes_went at (q ∷ r) left more rest h = let a : more ≡ q ∷ r = cc in let b : rest ≡ left = cc in (a, b)

    pub comes_ended : (at : At) (r : Rows) (left : List X) (last : At) → ComesTo def rows_in IsOf at r left (ended last) → (r ≡ []) × (left ≡ []) × (last ≡ at)
    comes_ended at [] left last (e, k) = let d : last ≡ at = cc in (refl, e, d)
    comes_ended at (q ∷ r) left last h = absurd (cc)

    module _ (P : Step → Rows → Type 0) (keeps : (rows : List Rows) (s : Step) (x : X) → IsOf (at_of def rows s) x → P s (rows_in x)) where
      -- what is known of the rows of the steps before
      abbrev pub AreKnown : List Step → List Rows → Type 0
      AreKnown before rows = (length before ≡ length rows) × ((k : ℕ) (p : Step) → slice_get before k ≡ Some p → P p (rows_at rows k))

      pub known_more : (before : List Step) (rows : List Rows) (s : Step) (r : Rows) → AreKnown before rows → P s r → AreKnown (before ++ s ∷ []) (rows ++ r ∷ [])
      known_more before rows s r (same, h) is = (omega (arith, a, b, same), each)
        where
          a : length (before ++ s ∷ []) ≡ length before + 1
          a = length-append before (s ∷ [])

          b : length (rows ++ r ∷ []) ≡ length rows + 1
          b = length-append rows (r ∷ [])

          one : (xs : List Step) (k : ℕ) (p : Step) → slice_get (xs ++ s ∷ []) k ≡ Some p → (k < length xs → ⊥) → (k ≡ length xs) × (p ≡ s)
          one [] zero p e out = let d : p ≡ s = cc in (refl, d)
          one [] (suc k) p e out = absurd (cc)
          one (x ∷ xs) zero p e out = absurd (out (omega arith))
          one (x ∷ xs) (suc k) p e out = let (i, j) = one xs k p e (λ lt. out (omega (arith, lt))) in (omega (arith, i), j)

          each : (k : ℕ) (p : Step) → slice_get (before ++ s ∷ []) k ≡ Some p → P p (rows_at (rows ++ r ∷ []) k)
          each k p e = elim (cases_lt k (length before)) [
            | inl lt ↦ (let lt' : k < length rows = omega (arith, lt, same) in
                subst (P p) (sym (rows_front rows (r ∷ []) k lt')) (h k p (front_there before (s ∷ []) k p e lt)))
            | inr le ↦ (let (i, j) = one before k p e (λ lt. omega (arith, lt, le)) in
                let at : rows_at (rows ++ r ∷ []) k ≡ r = ap (rows_at (rows ++ r ∷ [])) (i ∙ same) ∙ rows_end rows r in
                subst (P p) (sym at) (subst (λ (z : Step). P z r) (sym j) is))
          ]

      -- the step without rows
      pub record Stops (last : At) : Type 0 where
        pub s : Step
        pub before : List Step
        pub rows : List Rows
        pub item : X
        pub last_is : last ≡ at_of def rows s
        pub known : AreKnown before rows
        pub sourced : IsSourced before s
        pub of : IsOf (at_of def rows s) item
        pub none : rows_in item ≡ []

      pub stops : (steps before : List Step) (rows : List Rows) (xs : List X) (last : At) → AreKnown before rows → AreSourced before steps → Flows def rows_in IsOf rows steps xs (halted last) → Stops last
      stops [] before rows xs last known sourced h = absurd (cc)
      stops (s ∷ steps) before rows [] last known sourced (v, t, o) = absurd t
      stops (s ∷ steps) before rows (x ∷ left) last known (one, sourced) (went more rest, (is, c), o) =
          let (a, b) = comes_went (at_of def rows s) (rows_in x) left more rest c in
          stops steps (before ++ s ∷ []) (rows ++ more ∷ []) rest last (known_more before rows s more known (subst (P s) (sym a) (keeps rows s x is))) sourced o
      stops (s ∷ steps) before rows (x ∷ left) last known (one, sourced) (ended other, (is, c), o) =
          let (a, b, d) = comes_ended (at_of def rows s) (rows_in x) left other c in
          let e : last ≡ other = cc in
          record { s = s; before = before; rows = rows; item = x; last_is = e ∙ d; known = known; sourced = one; of = is; none = a }
