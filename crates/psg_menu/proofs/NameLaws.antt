-- From the trials of candidates to the names that may be chosen.
use Rattle.std.proofs.Common.{◌≡◌, ◌↔◌, inl, inr, ℕ, zero, suc, ◌+◌, ◌*◌, ◌<◌, ◌≤◌, ◌==◌, Bool, true, false, List, [], ◌∷◌, ◌++◌, take, drop, get_or, length, Option, Some, slice_get, refl, ap, sym, ◌∙◌, subst, true≢false, IsTrue, arith}
use Rattle.std.specs.List.{AllByRecursion}
use Rattle.std.specs.Prelude.{Result, Ok, Err, Vec}
use Rattle.std.specs.declared.alloc.Global.{Global}
use Rattle.std.proofs.lemmas.Bool.{eqb-true, eqb-false}
use Rattle.psg_terms.proofs.Lists.{take_item, in_either}
use Rattle.psg_terms.specs.Names.{Name}
use Rattle.psg_terms.specs.Relations.{IsIn, first, later}
use Rattle.psg_grammar.specs.declared.types.Kind.{Kind}
use Rattle.psg_grammar.specs.declared.types.Kind.TheVariants as kinds
use Rattle.psg_grammar.specs.declared.types.Operator.{Operator}
use Rattle.psg_grammar.specs.declared.types.Definition.{Definition}
use Rattle.psg_grammar.specs.Fragments.{Fragment}
use Rattle.psg_grammar.specs.Insertion.{Leaf, with_operator}
use Rattle.psg_grammar.specs.Sound.{IsSound}
use Rattle.psg_grammar.proofs.SoundParts.{phylum_in}
use Rattle.psg_grammar.specs.Marks.{Chosen, nothing}
use Rattle.psg_grammar.specs.Open.{IsOpen}
use Rattle.psg_grammar.specs.Paths.{Path}
use Rattle.psg_grammar.specs.Steps.{IsWide}
use Rattle.psg_grammar.specs.WellFormed.{IsName}
use Rattle.psg_eval.specs.declared.frame.Frame.{Frame}
use Rattle.psg_eval.specs.declared.question.FocusFault.{FocusFault}
use Rattle.psg_eval.specs.declared.question.FocusFault.TheVariants as questions
use Rattle.psg_eval.specs.Frames.{CanClimb, StandAt, rungs}
use Rattle.psg_eval.specs.Summaries.{are_names, slot_kinds}
use Rattle.psg_menu.specs.Answers.{IsNamesAnswer, names_ticks, slots_of}
use Rattle.psg_menu.specs.Menus.{HasWideNaming, IsNameable, IsNamedTrial}
use Rattle.psg_menu.specs.Trials.{AreNamedLeaves, IsBlanksAnswer, IsTried}
use Rattle.psg_menu.proofs.NewTrees.{blank_wide, leaves_there, new_blank}
use Rattle.psg_menu.proofs.TrialPlaces.{placed}
use Rattle.psg_menu.proofs.WideTrees.{wide_to}
use Rattle.psg_grammar.specs.Legal.{IsCompletable}
use Rattle.psg_grammar.specs.WellFormed.{WellFormed}
use Rattle.psg_completions.specs.Conditions.{HasTrueRows}
use Rattle.psg_completions.proofs.Law.{open_or_completable}
use Rattle.psg_menu.specs.Menus.{HasQuietSlots}
use Rattle.psg_menu.proofs.FormedTrials.{chosen_map, trial_formed}
use Rattle.psg_menu.proofs.MenuLaws.{chosen_passed, chosen_taken}

module _ (def : Definition) (around : List Frame) (o : ℕ) where
  module _ (op : Operator) (found : slice_get def.operators o ≡ Some op) (one : length (are_names def op.items) ≡ 1) where
    some_of : (n : Name) → IsName def n → (leaves : List Leaf) × AreNamedLeaves def o (n ∷ []) leaves
    some_of n name = leaves_there def o op (n ∷ []) found (name, tt) one

    module _ (n : Name) (name : IsName def n) (f : Fragment) (path : Path) (k : Option ℕ) (stand : StandAt def around path k f) where
      trial_of : IsNamedTrial def f path k o n (some_of n name).0
      trial_of = let s = some_of n name in record { are_leaves = s.1.are_leaves; named = s.1.named }

      name_good : (good : Bool) → IsTried def around o (n ∷ []) (Ok good)
          → (IsTrue good ↔ IsNameable def f path k (IsOpen def) o n)
          × ((IsWide def f → ⊥) → (leaves : List Leaf) → IsNamedTrial def f path k o n leaves → IsWide def (with_operator def f path k o leaves) → ⊥)
      name_good good tried =
          let s = some_of n name in (
            (
              (λ g. (s.0, trial_of, (tried f path k stand s.0 s.1).0.0 g)),
              (λ (two, other, is). (tried f path k stand two (record { are_leaves = other.are_leaves; named = other.named })).0.1 is),
            ),
            (λ thin two other wide. (tried f path k stand two (record { are_leaves = other.are_leaves; named = other.named })).1 thin wide),
          )

  -- the answer for these candidates
  abbrev pub Names : List Name → List Name → Type 0
  Names candidates names = (f : Fragment) (path : Path) (k : Option ℕ) → StandAt def around path k f
      → Chosen (IsNameable def f path k (IsOpen def) o) candidates names × ((IsWide def f → ⊥) → HasWideNaming def f path k o candidates → ⊥)

  pub names_none : (candidates names : List Name) → names ≡ [] → Names (take 0 candidates) names
  names_none candidates names e f path k stand = (subst (Chosen (IsNameable def f path k (IsOpen def) o) []) (sym e) nothing, λ thin h. none h.name h.there) where
    none : (n : Name) → IsIn n [] → ⊥
    none n i = elim i [ ]

  pub names_empty : (candidates names : List Name) → (length candidates == 0) ≡ true → names ≡ [] → Names candidates names
  names_empty [] names none e = names_none [] names e
  names_empty (n ∷ rest) names none e = absurd (omega (arith, eqb-true (suc (length rest)) 0 none))

  still : (f : Fragment) (path : Path) (k : Option ℕ) (ns : List Name) (n : Name) → ((IsWide def f → ⊥) → HasWideNaming def f path k o ns → ⊥)
      → ((IsWide def f → ⊥) → (leaves : List Leaf) → IsNamedTrial def f path k o n leaves → IsWide def (with_operator def f path k o leaves) → ⊥)
      → (IsWide def f → ⊥) → HasWideNaming def f path k o (ns ++ n ∷ []) → ⊥
  still f path k ns n before one thin h = elim (in_either h.name ns (n ∷ []) h.there) [
    | inl a ↦ before thin (record { name = h.name; there = a; leaves = h.leaves; trial = h.trial; wide = h.wide })
    | inr b ↦ at h.name b h.trial
  ] where
    at : (u : Name) → IsIn u (n ∷ []) → IsNamedTrial def f path k o u h.leaves → ⊥
    at u first t = one thin h.leaves t h.wide
    at u (later j) t = elim j [ ]

  module _ (op : Operator) (found : slice_get def.operators o ≡ Some op) (one : length (are_names def op.items) ≡ 1) (candidates : List Name) (i : ℕ) (n : Name) (l : i < length candidates)
      (at : n ≡ get_or candidates i n) (all : AllByRecursion (IsName def) candidates) where
    name_at : (cs : List Name) (j : ℕ) → AllByRecursion (IsName def) cs → j < length cs → n ≡ get_or cs j n → IsName def n
    name_at [] j h m e = absurd (omega (arith, m))
    name_at (x ∷ cs) zero h m e = subst (IsName def) (sym e) h.0
    name_at (x ∷ cs) (suc j) h m e = name_at cs j h.1 (omega (arith, m)) e

    is_name : IsName def n
    is_name = name_at candidates i all l at

    in_at : (cs : List Name) (j : ℕ) → j < length cs → n ≡ get_or cs j n → IsIn n cs
    in_at [] j m e = absurd (omega (arith, m))
    in_at (x ∷ cs) zero m e = subst (λ z. IsIn z (x ∷ cs)) (sym e) first
    in_at (x ∷ cs) (suc j) m e = later (in_at cs j (omega (arith, m)) e)

    pub names_taken : (names new : List Name) (copy : Name) → Names (take i candidates) names → IsTried def around o (n ∷ []) (Ok true) → copy ≡ n → new ≡ names ++ copy ∷ [] → Names (take (i + 1) candidates) new
    names_taken names new copy h tried same grown f path k stand =
        let (so_far, narrow) = h f path k stand in
        let (both, thin) = name_good op found one n is_name f path k stand true tried in
        subst (λ ns. Chosen (IsNameable def f path k (IsOpen def) o) ns new × ((IsWide def f → ⊥) → HasWideNaming def f path k o ns → ⊥)) (sym (take_item candidates i n l at)) (
          subst (Chosen (IsNameable def f path k (IsOpen def) o) (take i candidates ++ n ∷ [])) (sym (grown ∙ ap (λ x. names ++ x ∷ []) same))
              (chosen_taken def (IsNameable def f path k (IsOpen def) o) (take i candidates) names n so_far (both.0 refl)),
          still f path k (take i candidates) n narrow thin,
        )

    pub names_passed : (names : List Name) → Names (take i candidates) names → IsTried def around o (n ∷ []) (Ok false) → Names (take (i + 1) candidates) names
    names_passed names h tried f path k stand =
        let (so_far, narrow) = h f path k stand in
        let (both, thin) = name_good op found one n is_name f path k stand false tried in
        subst (λ ns. Chosen (IsNameable def f path k (IsOpen def) o) ns names × ((IsWide def f → ⊥) → HasWideNaming def f path k o ns → ⊥)) (sym (take_item candidates i n l at)) (
          chosen_passed def (IsNameable def f path k (IsOpen def) o) (take i candidates) names n so_far (λ c. true≢false (sym (both.1 c))),
          still f path k (take i candidates) n narrow thin,
        )

    pub names_fault : (fault : FocusFault) → IsTried def around o (n ∷ []) (Err fault) → (f : Fragment) (path : Path) (k : Option ℕ) → StandAt def around path k f
        → IsNamesAnswer def (IsOpen def) f path k o candidates (Err fault)
    names_fault questions.Memory tried f path k stand = tt
    names_fault questions.Wide tried f path k stand =
        let s = some_of op found one n is_name in
        record { name = n; there = in_at candidates i l at; leaves = s.0; trial = trial_of op found one n is_name f path k stand; wide = tried f path k stand s.0 s.1 }

  take_all : (xs : List Name) (i : ℕ) → i ≡ length xs → take i xs ≡ xs
  take_all [] zero e = refl
  take_all [] (suc i) e = absurd (omega (arith, e))
  take_all (x ∷ xs) zero e = absurd (omega (arith, e))
  take_all (x ∷ xs) (suc i) e = ap (λ ys. x ∷ ys) (take_all xs i (omega (arith, e)))

  pub names_whole : (candidates names : List Name) (i : ℕ) → i ≡ length candidates → Names (take i candidates) names → Names candidates names
  names_whole candidates names i e h = subst (λ ns. Names ns names) (take_all candidates i e) h

  -- a blank of a slot is too wide
  pub names_blanks : (op : Operator) → slice_get def.operators o ≡ Some op → length (are_names def op.items) ≡ 1 → (n : Name) (rest : List Name) → IsName def n → (fault : FocusFault)
      → IsBlanksAnswer def (slot_kinds def op.items) (Err fault) → (f : Fragment) (path : Path) (k : Option ℕ) → StandAt def around path k f → IsNamesAnswer def (IsOpen def) f path k o (n ∷ rest) (Err fault)
  names_blanks op found one n rest name questions.Memory answer f path k stand = tt
  names_blanks op found one n rest name questions.Wide (kind, i, step, h) f path k stand =
      let s = some_of op found one n name in
      let at = placed def o s.0 around f path k stand in
      record {
        name = n;
        there = first;
        leaves = s.0;
        trial = trial_of op found one n name f path k stand;
        wide =
            wide_to def (with_operator def f path k o s.0)
            (at.inner (new_blank def o op found (n ∷ []) s.0 s.1 (kind, i, blank_wide def kind (step, h.there, h.passes))));
      }

  pub names_blanked : (op : Operator) → slice_get def.operators o ≡ Some op → length (are_names def op.items) ≡ 1 → (candidates : List Name) → AllByRecursion (IsName def) candidates
      → (length candidates == 0) ≡ false → (fault : FocusFault) → IsBlanksAnswer def (slot_kinds def op.items) (Err fault) → (f : Fragment) (path : Path) (k : Option ℕ) → StandAt def around path k f
      → IsNamesAnswer def (IsOpen def) f path k o candidates (Err fault)
  names_blanked op found one [] all full fault answer f path k stand = absurd (eqb-false 0 0 full refl)
  names_blanked op found one (n ∷ rest) all full fault answer f path k stand = names_blanks op found one n rest all.0 fault answer f path k stand

  -- ---- answers for completable fragments

  pub completable_names : IsSound def → HasTrueRows def → HasQuietSlots def → (op : Operator) → slice_get def.operators o ≡ Some op → CanClimb def around (kinds.Phylum op.phylum) → (f : Fragment) (path : Path) (k : Option ℕ) (kind : Kind)
      → WellFormed def f kind → StandAt def around path k f → (candidates : List Name) (result : Result (Vec Name Global) FocusFault) → IsNamesAnswer def (IsOpen def) f path k o candidates result
      → IsNamesAnswer def (IsCompletable def) f path k o candidates result
  completable_names sound rows quiet op found can f path k kind h stand candidates (Ok names) (chosen, narrow) =
      (chosen_map def (IsNameable def f path k (IsOpen def) o) (IsNameable def f path k (IsCompletable def) o) candidates names.items (λ n i. both n) chosen, narrow) where
        trees : (n : Name) (leaves : List Leaf) → IsNamedTrial def f path k o n leaves → IsOpen def (with_operator def f path k o leaves) ↔ IsCompletable def (with_operator def f path k o leaves)
        trees n leaves trial =
            let (K, formed) = trial_formed def sound quiet op.phylum (phylum_in def sound o op found) around can f path k kind h stand o op leaves found refl trial.are_leaves in
            open_or_completable def sound rows (with_operator def f path k o leaves) K formed

        both : (n : Name) → IsNameable def f path k (IsOpen def) o n ↔ IsNameable def f path k (IsCompletable def) o n
        both n = (
          (λ (leaves, trial, is). (leaves, trial, (trees n leaves trial).0 is)),
          (λ (leaves, trial, is). (leaves, trial, (trees n leaves trial).1 is)),
        )
  completable_names sound rows quiet op found can f path k kind h stand candidates (Err questions.Wide) answer = answer
  completable_names sound rows quiet op found can f path k kind h stand candidates (Err questions.Memory) answer = tt

-- ---- ticks

pub times_next : {X : Type 0} (xs : List X) (i m : ℕ) (x : X) → i < length xs → x ≡ get_or xs i x → length (drop i xs) * m ≡ m + length (drop (i + 1) xs) * m
times_next [] i m x l e = absurd (omega (arith, l))
times_next (y ∷ xs) zero m x l e = times_suc (length xs) m where
  times_suc : (a b : ℕ) → suc a * b ≡ b + a * b
  times_suc a b = omega arith
times_next (y ∷ xs) (suc i) m x l e =
    let n : suc i + 1 ≡ suc (i + 1) = omega arith in
    times_next xs i m x (omega (arith, l)) e ∙ ap (λ j. m + length (drop j (y ∷ xs)) * m) (sym n)

pub once_blanks : (a s r : ℕ) → s + suc a * (1 + r) ≤ suc a * (1 + s + r)
once_blanks zero s r = omega arith
once_blanks (suc a) s r =
    let h = once_blanks a s r in
    let e : suc (suc a) * (1 + r) ≡ suc a * (1 + r) + (1 + r) = omega arith in
    let d : suc (suc a) * (1 + s + r) ≡ suc a * (1 + s + r) + (1 + s + r) = omega arith in
    omega (arith, h, e, d)

-- the blanks once and the trials take no more than each candidate for itself
pub names_within : (def : Definition) (around : List Frame) (o : ℕ) (op : Operator) → slice_get def.operators o ≡ Some op → (candidates : List Name) → (length candidates == 0) ≡ false
    → length (slot_kinds def op.items) + length candidates * (1 + rungs around) ≤ names_ticks def o candidates around
names_within def around o op found [] full = absurd (eqb-false 0 0 full refl)
names_within def around o op found (n ∷ rest) full =
    let slots = length (slot_kinds def op.items) in
    subst (λ x. slots + suc (length rest) * (1 + rungs around) ≤ suc (length rest) * (1 + slots_of def x + rungs around)) (sym found) (once_blanks (length rest) slots (rungs around))
