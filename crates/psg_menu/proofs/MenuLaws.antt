-- From the trials of operators to the menu.
use Rattle.std.proofs.Common.{◌≡◌, ◌↔◌, inl, inr, ℕ, zero, suc, ◌+◌, ◌<◌, ◌==◌, Bool, true, false, cond, ◌||◌, List, [], ◌∷◌, ◌++◌, take, drop, get_or, length, bytes_eq, Option, Some, slice_get, refl, ap, sym, ◌∙◌, subst, true≢false, IsTrue, arith}
use Rattle.std.specs.List.{AllByRecursion}
use Rattle.std.specs.Prelude.{IfSome, Result, Ok, Err, Vec}
use Rattle.std.proofs.lemmas.Option.{get_or_from_slice_get, slice_get_within}
use Rattle.std.specs.declared.alloc.Global.{Global}
use Rattle.std.proofs.lemmas.Bool.{cases_Bool}
use Rattle.std.proofs.lemmas.Bool.Decides.{eqb_tells}
use Rattle.std.proofs.lemmas.List.Sums.{sum_by-cons}
use Rattle.psg_terms.proofs.Lists.{take_item, in_either}
use Rattle.psg_terms.specs.Names.{Name, is_among}
use Rattle.psg_terms.specs.Relations.{IsIn, first, later}
use Rattle.psg_terms.proofs.DeclareLaws.{bytes_eq-same}
use Rattle.psg_grammar.specs.declared.types.Kind.{Kind}
use Rattle.psg_grammar.specs.declared.types.Kind.TheVariants as kinds
use Rattle.psg_grammar.specs.declared.types.Item.{Item}
use Rattle.psg_grammar.specs.declared.types.Item.TheVariants as items
use Rattle.psg_grammar.specs.declared.types.Operator.{Operator}
use Rattle.psg_grammar.specs.declared.types.Definition.{Definition}
use Rattle.psg_grammar.specs.Fragments.{Fragment}
use Rattle.psg_grammar.specs.Insertion.{Leaf, with_operator}
use Rattle.psg_grammar.specs.DeclaringTables.{AreSpacesOf}
use Rattle.psg_grammar.specs.Kinds.{HasKind}
use Rattle.psg_grammar.specs.Sound.{HasKindSort, IsItem, IsSound}
use Rattle.psg_grammar.proofs.SoundParts.{operator_sound}
use Rattle.psg_eval.specs.SpaceTables.{AreDeclaringSpaces}
use Rattle.psg_grammar.specs.Marks.{Chosen, nothing, taken, passed}
use Rattle.psg_grammar.specs.Open.{IsOpen}
use Rattle.psg_grammar.specs.Paths.{Path}
use Rattle.psg_grammar.specs.Steps.{IsWide}
use Rattle.psg_grammar.specs.WellFormed.{IsName}
use Rattle.psg_eval.specs.declared.frame.Frame.{Frame}
use Rattle.psg_eval.specs.declared.question.FocusFault.{FocusFault}
use Rattle.psg_eval.specs.declared.question.FocusFault.TheVariants as questions
use Rattle.psg_eval.specs.Frames.{CanClimb, StandAt, rungs}
use Rattle.psg_eval.specs.Summaries.{are_names, slot_kinds}
use Rattle.psg_renaming.specs.NewNames.{OpenForNewNames, WideForNewNames}
use Rattle.psg_renaming.specs.Occurring.{occurring, AreFresh}
use Rattle.psg_menu.specs.Answers.{HasWideTrialOf, IsChosenAnswer, IsMenuAnswer, menu_ticks, op_ticks, slots_of}
use Rattle.psg_menu.specs.Menus.{AreUsed, IsChoosable, IsFreshTrial, operators_from, operators_of}
use Rattle.psg_menu.specs.Trials.{AreNamedLeaves, AreNewWords, IsBlanksAnswer, IsOffered, IsTried}
use Rattle.psg_menu.proofs.NewTrees.{blank_wide, leaves_there, new_blank}
use Rattle.psg_menu.proofs.TrialPlaces.{placed}
use Rattle.psg_menu.proofs.WideTrees.{wide_to}

-- ---- new names

not_used : (used ns : List Name) (x : Name) → AllByRecursion (λ n. is_among used n ≡ true) ns → is_among used x ≡ false → is_among ns x ≡ false
not_used used [] x h none = refl
not_used used (n ∷ ns) x h none =
    let here : bytes_eq n x ≡ false = elim (cases_Bool (bytes_eq n x)) [
      | inl t ↦ absurd (true≢false (sym h.0 ∙ ap (is_among used) (bytes_eq-same n x t) ∙ none))
      | inr f ↦ f
    ] in
    ap (λ b. b || is_among ns x) here ∙ not_used used ns x h.1 none

module _ (def : Definition) where
  names_new : (used names : List Name) (f : Fragment) → AreUsed used f → AllByRecursion (λ n. IsName def n × (is_among used n ≡ false)) names → AllByRecursion (λ n. is_among (occurring f) n ≡ false) names
  names_new used [] f all h = tt
  names_new used (n ∷ names) f all h = (not_used used (occurring f) n all h.0.1, names_new used names f all h.1)

  names_are : (used names : List Name) → AllByRecursion (λ n. IsName def n × (is_among used n ≡ false)) names → AllByRecursion (IsName def) names
  names_are used [] h = tt
  names_are used (n ∷ names) h = (h.0.0, names_are used names h.1)

  -- ---- one operator

  module _ (open_law : OpenForNewNames def) (wide_law : WideForNewNames def) (around : List Frame) (used : List Name) (o : ℕ) (op : Operator) (found : slice_get def.operators o ≡ Some op)
      (names : List Name) (new_names : AreNewWords def used names) (many : length (are_names def op.items) ≡ length names) where
    module _ (f : Fragment) (path : Path) (k : Option ℕ) (stand : StandAt def around path k f) (all : AreUsed used f) where
      some : (leaves : List Leaf) × AreNamedLeaves def o names leaves
      some = leaves_there def o op names found (names_are used names new_names.each) many

      trial : IsFreshTrial def f path k o some.0
      trial = record {
        are_leaves = some.1.are_leaves;
        fresh = subst (AreFresh (occurring f)) (sym some.1.named) (new_names.once, names_new used names f all new_names.each);
      }

      offer_good : (good : Bool) → IsTried def around o names (Ok good)
          → (IsTrue good ↔ IsChoosable def f path k (IsOpen def) o)
          × ((IsWide def f → ⊥) → (leaves : List Leaf) → IsFreshTrial def f path k o leaves → IsWide def (with_operator def f path k o leaves) → ⊥)
      offer_good good tried =
          let (same, narrow) = tried f path k stand some.0 some.1 in (
            (
              (λ g. (some.0, trial, same.0 g)),
              (λ (two, other, is). same.1 (open_law f path k o two some.0 other.are_leaves trial.are_leaves other.fresh trial.fresh is)),
            ),
            (λ thin two other wide. narrow thin (wide_law f path k o two some.0 other.are_leaves trial.are_leaves other.fresh trial.fresh wide)),
          )

      offer_wide : IsTried def around o names (Err questions.Wide) → (leaves : List Leaf) × IsFreshTrial def f path k o leaves × IsWide def (with_operator def f path k o leaves)
      offer_wide tried = (some.0, trial, tried f path k stand some.0 some.1)

      offer_blank : IsBlanksAnswer def (slot_kinds def op.items) (Err questions.Wide) → (leaves : List Leaf) × IsFreshTrial def f path k o leaves × IsWide def (with_operator def f path k o leaves)
      offer_blank (kind, i, step, h) =
          let at = placed def o some.0 around f path k stand in (
            some.0,
            trial,
            wide_to def (with_operator def f path k o some.0)
                (at.inner (new_blank def o op found names some.0 some.1 (kind, i, blank_wide def kind (step, h.there, h.passes)))),
          )

    pub offered_good : (good : Bool) → IsTried def around o names (Ok good) → IsOffered def around used o (Ok good)
    offered_good good tried = λ f path k stand all. offer_good f path k stand all good tried

    pub offered_fault : (fault : FocusFault) → IsTried def around o names (Err fault) → IsOffered def around used o (Err fault)
    offered_fault questions.Memory tried = tt
    offered_fault questions.Wide tried = λ f path k stand all. offer_wide f path k stand all tried

    pub offered_blanks : (fault : FocusFault) → IsBlanksAnswer def (slot_kinds def op.items) (Err fault) → IsOffered def around used o (Err fault)
    offered_blanks questions.Memory answer = tt
    offered_blanks questions.Wide answer = λ f path k stand all. offer_blank f path k stand all answer

  -- ---- one after the other

  pub chosen_taken : {X : Type 0} (P : X → Type 0) (xs ys : List X) (x : X) → Chosen P xs ys → P x → Chosen P (xs ++ x ∷ []) (ys ++ x ∷ [])
  chosen_taken P [] [] x nothing p = taken p nothing
  chosen_taken P [] (z ∷ ys) x h p = elim h [ ]
  chosen_taken P (y ∷ xs) (y2 ∷ ys) x (taken q more) p = taken q (chosen_taken P xs ys x more p)
  chosen_taken P (y ∷ xs) ys x (passed q more) p = passed q (chosen_taken P xs ys x more p)

  pub chosen_passed : {X : Type 0} (P : X → Type 0) (xs ys : List X) (x : X) → Chosen P xs ys → (P x → ⊥) → Chosen P (xs ++ x ∷ []) ys
  chosen_passed P [] [] x nothing p = passed p nothing
  chosen_passed P [] (z ∷ ys) x h p = elim h [ ]
  chosen_passed P (y ∷ xs) (y2 ∷ ys) x (taken q more) p = taken q (chosen_passed P xs ys x more p)
  chosen_passed P (y ∷ xs) ys x (passed q more) p = passed q (chosen_passed P xs ys x more p)

  pub drop_next : {X : Type 0} (xs : List X) (i : ℕ) (x : X) → i < length xs → x ≡ get_or xs i x → drop i xs ≡ x ∷ drop (i + 1) xs
  drop_next [] i x l e = absurd (omega (arith, l))
  drop_next (y ∷ xs) zero x l e = ap (λ z. z ∷ xs) (sym e)
  drop_next (y ∷ xs) (suc i) x l e =
      let n : suc i + 1 ≡ suc (i + 1) = omega arith in
      drop_next xs i x (omega (arith, l)) e ∙ ap (λ m. x ∷ drop m (y ∷ xs)) (sym n)

  module _ (around : List Frame) (used : List Name) where
    -- the answer for these operators
    abbrev pub Chooses : List ℕ → List ℕ → Type 0
    Chooses ops found = (f : Fragment) (path : Path) (k : Option ℕ) → StandAt def around path k f → AreUsed used f
        → Chosen (IsChoosable def f path k (IsOpen def)) ops found × ((IsWide def f → ⊥) → HasWideTrialOf def (IsOpen def) f path k ops → ⊥)

    pub chooses_none : (ops found : List ℕ) → found ≡ [] → Chooses (take 0 ops) found
    chooses_none ops found e f path k stand all = (subst (Chosen (IsChoosable def f path k (IsOpen def)) []) (sym e) nothing, λ thin (o, i, leaves, trial, wide). none o i) where
      none : (o : ℕ) → IsIn o [] → ⊥
      none o i = elim i [ ]

    still : (f : Fragment) (path : Path) (k : Option ℕ) (ops : List ℕ) (o : ℕ) → ((IsWide def f → ⊥) → HasWideTrialOf def (IsOpen def) f path k ops → ⊥)
        → ((IsWide def f → ⊥) → (leaves : List Leaf) → IsFreshTrial def f path k o leaves → IsWide def (with_operator def f path k o leaves) → ⊥)
        → (IsWide def f → ⊥) → HasWideTrialOf def (IsOpen def) f path k (ops ++ o ∷ []) → ⊥
    still f path k ops o before one thin (u, i, leaves, trial, wide) = elim (in_either u ops (o ∷ []) i) [
      | inl a ↦ before thin (u, a, leaves, trial, wide)
      | inr b ↦ at u b trial wide
    ] where
      at : (u : ℕ) → IsIn u (o ∷ []) → IsFreshTrial def f path k u leaves → IsWide def (with_operator def f path k u leaves) → ⊥
      at u first t w = one thin leaves t w
      at u (later j) t w = elim j [ ]

    pub chooses_taken : (ops : List ℕ) (i o : ℕ) (found new : List ℕ) → i < length ops → o ≡ get_or ops i o → Chooses (take i ops) found → IsOffered def around used o (Ok true) → new ≡ found ++ o ∷ []
        → Chooses (take (i + 1) ops) new
    chooses_taken ops i o found new l at h offered grown f path k stand all =
        let (so_far, narrow) = h f path k stand all in
        let (same, thin) = offered f path k stand all in
        subst (λ os. Chosen (IsChoosable def f path k (IsOpen def)) os new × ((IsWide def f → ⊥) → HasWideTrialOf def (IsOpen def) f path k os → ⊥)) (sym (take_item ops i o l at)) (
          subst (Chosen (IsChoosable def f path k (IsOpen def)) (take i ops ++ o ∷ [])) (sym grown)
              (chosen_taken (IsChoosable def f path k (IsOpen def)) (take i ops) found o so_far (same.0 refl)),
          still f path k (take i ops) o narrow thin,
        )

    pub chooses_passed : (ops : List ℕ) (i o : ℕ) (found : List ℕ) → i < length ops → o ≡ get_or ops i o → Chooses (take i ops) found → IsOffered def around used o (Ok false)
        → Chooses (take (i + 1) ops) found
    chooses_passed ops i o found l at h offered f path k stand all =
        let (so_far, narrow) = h f path k stand all in
        let (same, thin) = offered f path k stand all in
        subst (λ os. Chosen (IsChoosable def f path k (IsOpen def)) os found × ((IsWide def f → ⊥) → HasWideTrialOf def (IsOpen def) f path k os → ⊥)) (sym (take_item ops i o l at)) (
          chosen_passed (IsChoosable def f path k (IsOpen def)) (take i ops) found o so_far (λ c. true≢false (sym (same.1 c))),
          still f path k (take i ops) o narrow thin,
        )

    take_all : (xs : List ℕ) (i : ℕ) → i ≡ length xs → take i xs ≡ xs
    take_all [] zero e = refl
    take_all [] (suc i) e = absurd (omega (arith, e))
    take_all (x ∷ xs) zero e = absurd (omega (arith, e))
    take_all (x ∷ xs) (suc i) e = ap (λ ys. x ∷ ys) (take_all xs i (omega (arith, e)))

    pub chooses_whole : (ops found : List ℕ) (i : ℕ) → i ≡ length ops → Chooses (take i ops) found → Chooses ops found
    chooses_whole ops found i e h = subst (λ os. Chooses os found) (take_all ops i e) h

    op_in : (ops : List ℕ) (i o : ℕ) → i < length ops → o ≡ get_or ops i o → IsIn o ops
    op_in [] i o l e = absurd (omega (arith, l))
    op_in (x ∷ ops) zero o l e = subst (λ z. IsIn z (x ∷ ops)) (sym e) first
    op_in (x ∷ ops) (suc i) o l e = later (op_in ops i o (omega (arith, l)) e)

    pub chosen_fault : (ops : List ℕ) (i o : ℕ) (fault : FocusFault) → i < length ops → o ≡ get_or ops i o → IsOffered def around used o (Err fault)
        → (f : Fragment) (path : Path) (k : Option ℕ) → StandAt def around path k f → AreUsed used f → IsChosenAnswer def (IsOpen def) f path k ops (Err fault)
    chosen_fault ops i o questions.Memory l at offered f path k stand all = tt
    chosen_fault ops i o questions.Wide l at offered f path k stand all =
        let (leaves, trial, wide) = offered f path k stand all in
        (o, op_in ops i o l at, leaves, trial, wide)

  pub ticks_next : (around : List Frame) (ops : List ℕ) (i o : ℕ) → i < length ops → o ≡ get_or ops i o → menu_ticks def (drop i ops) around ≡ op_ticks def around o + menu_ticks def (drop (i + 1) ops) around
  ticks_next around ops i o l e = ap (λ os. menu_ticks def os around) (drop_next ops i o l e) ∙ sum_by-cons (op_ticks def around) o (drop (i + 1) ops)

  pub each_op : (P : ℕ → Type 0) (ops : List ℕ) (i o : ℕ) → AllByRecursion P ops → i < length ops → o ≡ get_or ops i o → P o
  each_op P [] i o h l e = absurd (omega (arith, l))
  each_op P (x ∷ ops) zero o h l e = subst P (sym e) h.0
  each_op P (x ∷ ops) (suc i) o h l e = each_op P ops i o h.1 (omega (arith, l)) e

  -- ---- the operators of a phylum

  pub operators_step : (all : List Operator) (p i : ℕ) (x : Operator) → i < length all → x ≡ get_or all i x
      → operators_from i p (drop i all) ≡ cond (x.phylum == p) (i ∷ operators_from (i + 1) p (drop (i + 1) all)) (operators_from (i + 1) p (drop (i + 1) all))
  operators_step all p i x l e = ap (operators_from i p) (drop_next all i x l e)

  abbrev IsThere : List Operator → ℕ → ℕ → Type 0
  IsThere all p o = (op : Operator) × (slice_get all o ≡ Some op) × (op.phylum ≡ p)

  all_there : (all ops : List Operator) (n p : ℕ) → ((j : ℕ) → slice_get all (n + j) ≡ slice_get ops j) → AllByRecursion (IsThere all p) (operators_from n p ops)
  all_there all [] n p h = tt
  all_there all (o ∷ ops) n p h =
      let more = all_there all ops (n + 1) p (λ j. let e : n + 1 + j ≡ n + suc j = omega arith in ap (slice_get all) e ∙ h (suc j)) in
      elim (eqb_tells o.phylum p) [
        | inl q ↦
            let e : n ≡ n + 0 = omega arith in
            subst (λ b. AllByRecursion (IsThere all p) (cond b (n ∷ operators_from (n + 1) p ops) (operators_from (n + 1) p ops))) (sym q.0)
            ((o, ap (slice_get all) e ∙ h 0, q.1), more)
        | inr q ↦ subst (λ b. AllByRecursion (IsThere all p) (cond b (n ∷ operators_from (n + 1) p ops) (operators_from (n + 1) p ops))) (sym q.0) more
      ]

  abbrev pub CanStand : List Frame → ℕ → Type 0
  CanStand around o = (op : Operator) × (slice_get def.operators o ≡ Some op) × CanClimb def around (kinds.Phylum op.phylum)

  pub all_climb : (around : List Frame) (p : ℕ) → CanClimb def around (kinds.Phylum p) → AllByRecursion (CanStand around) (operators_of def p)
  all_climb around p can = each (operators_of def p) (all_there def.operators def.operators 0 p (λ j. let e : 0 + j ≡ j = omega arith in ap (slice_get def.operators) e)) where
    each : (ops : List ℕ) → AllByRecursion (IsThere def.operators p) ops → AllByRecursion (CanStand around) ops
    each [] h = tt
    each (o ∷ ops) ((op, found, same), more) = ((op, found, subst (λ q. CanClimb def around (kinds.Phylum q)) (sym same) can), each ops more)

  there_in : (all : List Operator) (p : ℕ) (ops : List ℕ) → AllByRecursion (IsThere all p) ops → (o : ℕ) → IsIn o ops → IsThere all p o
  there_in all p [] h o i = elim i [ ]
  there_in all p (x ∷ ops) h o first = h.0
  there_in all p (x ∷ ops) h o (later i) = there_in all p ops h.1 o i

  -- an operator of the phylum
  pub op_there : (p o : ℕ) → IsIn o (operators_of def p) → (op : Operator) × (slice_get def.operators o ≡ Some op) × (op.phylum ≡ p)
  op_there p o i =
      there_in def.operators p (operators_of def p) (all_there def.operators def.operators 0 p (λ j. let e : 0 + j ≡ j = omega arith in ap (slice_get def.operators) e)) o i

  -- ---- the menu

  pub menu_answer : (IsGood : Fragment → Type 0) (f : Fragment) (path : Path) (k : Option ℕ) (p : ℕ) (result : Result (Vec ℕ Global) FocusFault) → IsChosenAnswer def IsGood f path k (operators_of def p) result
      → IsMenuAnswer def IsGood f path k p result
  menu_answer IsGood f path k p (Ok ops) (chosen, narrow) = (chosen, λ thin h. narrow thin (h.op, h.there, h.leaves, h.trial, h.wide))
  menu_answer IsGood f path k p (Err questions.Wide) (o, i, leaves, trial, wide) = record { op = o; there = i; leaves = leaves; trial = trial; wide = wide }
  menu_answer IsGood f path k p (Err questions.Memory) h = tt

  -- ---- as the calls need it

  pub read_op : (os : List Operator) (o : ℕ) (op read : Operator) → slice_get def.operators o ≡ Some op → os ≡ def.operators → read ≡ get_or os o read → read ≡ op
  read_op os o op read found same at = at ∙ ap (λ xs. get_or xs o read) same ∙ get_or_from_slice_get def.operators o op read found

  pub op_ticks_are : (around : List Frame) (o : ℕ) (op : Operator) → slice_get def.operators o ≡ Some op → op_ticks def around o ≡ 1 + length (slot_kinds def op.items) + rungs around
  op_ticks_are around o op found = ap (λ x. 1 + slots_of def x + rungs around) found

  kind_there : (k : Kind) (s : ℕ) → HasKindSort def k s → HasKind def k
  kind_there (kinds.Phylum p) s (k, at, e) = slice_get_within def.phyla p k at
  kind_there (kinds.List l) s (k, at, e) = slice_get_within def.lists l k at

  slots_there : (is : List Item) → AllByRecursion (IsItem def) is → AllByRecursion (HasKind def) (slot_kinds def is)
  slots_there [] h = tt
  slots_there (items.Slot k ∷ is) ((s, one), more) = (kind_there k s one, slots_there is more)
  slots_there (items.Refers s ∷ is) h = slots_there is h.1
  slots_there (items.Declares s ∷ is) h = slots_there is h.1
  slots_there (items.Number ∷ is) h = slots_there is h.1
  slots_there (items.Text ∷ is) h = slots_there is h.1
  slots_there (items.Word w ∷ is) h = slots_there is h.1
  slots_there (items.Space ∷ is) h = slots_there is h.1
  slots_there (items.Tight ∷ is) h = slots_there is h.1
  slots_there (items.Line ∷ is) h = slots_there is h.1
  slots_there (items.In ∷ is) h = slots_there is h.1
  slots_there (items.Out ∷ is) h = slots_there is h.1

  pub op_slots : IsSound def → (o : ℕ) (op : Operator) → slice_get def.operators o ≡ Some op → AllByRecursion (HasKind def) (slot_kinds def op.items)
  op_slots sound o op found = slots_there op.items (operator_sound def sound o op found).each_item

  pub table_are : (table : List (Vec ℕ Global)) → length table ≡ length def.phyla → ((p : ℕ) → IfSome (slice_get table p) (λ spaces. AreSpacesOf def p spaces.items)) → AreDeclaringSpaces def table
  table_are table many each = record { one_each = many; exact = λ p spaces at. subst (λ o. IfSome o (λ (v : Vec ℕ Global). AreSpacesOf def p v.items)) at (each p) }
