-- Notes of the children of a tree, and of the tree.
use Rattle.std.proofs.Common.{◌≡◌, inl, inr, ℕ, zero, suc, ◌+◌, ◌<◌, ◌≤◌, List, [], ◌∷◌, ◌++◌, map, length, take, drop, get_or, refl, sym, ◌∙◌, ap, ap₂, subst, append-nil, drop-cons, arith}
use Rattle.std.specs.List.{AllByRecursion}
use Rattle.std.proofs.lemmas.List.{map-append, take_all, take-append-drop, length-take-le}
use Rattle.psg_terms.proofs.Lists.{take_item}
use Rattle.psg_grammar.specs.declared.types.Definition.{Definition}
use Rattle.psg_grammar.specs.declared.limits.TheConstants.{MOST_WEIGHTS}
use Rattle.psg_grammar.specs.Fragments.{Fragment, children_of}
use Rattle.psg_grammar.specs.Paths.{Path}
use Rattle.psg_grammar.specs.Sizes.{IsBig, IsDeep}
use Rattle.psg_grammar.specs.Sound.{IsSound}
use Rattle.psg_grammar.specs.Steps.{AreWithin, HasWeights, steps_of}
use Rattle.psg_eval.specs.declared.summary.SummaryParts.{SummaryParts}
use Rattle.psg_eval.specs.Summaries.{AllSummaries, IsSummary}
use Rattle.psg_cache.specs.declared.note.NoteFault.{NoteFault}
use Rattle.psg_cache.specs.declared.note.NoteFault.TheVariants as faults
use Rattle.psg_cache.specs.Annotated.{Annotated, topped, tree_in, whole_in, weight_in, with_below}
use Rattle.psg_cache.specs.Noted.{IsNoted, IsNotedAs, IsTopped, own_weight, summed}
use Rattle.psg_cache.specs.Notes.{IsFormed, IsNoteFault, IsNoteOf}
use Rattle.psg_cache.specs.Walks.{AreNotesOf, each_steps, top_steps, IsMadeOf, IsSizeFault, IsSmall, IsStepFault, IsTop}
use Rattle.psg_cache.proofs.ChildLaws.{formed_below}
use Rattle.psg_cache.proofs.Each.{each_push}
use Rattle.psg_cache.proofs.Inducting.{noted_with, tree-with}
use Rattle.psg_cache.proofs.NoteLaws.{children_within, children_known, holds, noted_known}
use Rattle.psg_cache.proofs.NoteParts.{noted_parts}
use Rattle.psg_cache.proofs.NoteWeights.{noted_weighs}
use Rattle.psg_cache.proofs.RealTrees.{IsReal, real}
use Rattle.psg_cache.proofs.StepLaws.{each_steps-append, fault-behind, fault-left, first_wide, not_wide, steps_split}
use Rattle.psg_cache.proofs.WeightLaws.{not_heavy}

module _ (def : Definition) where
  pub notes-none : (notes : List Annotated) → notes ≡ [] → AreNotesOf def [] notes
  notes-none notes e = subst (AreNotesOf def []) (sym e) (refl, tt)

  pub notes-push : (cs : List Fragment) (notes : List Annotated) (c : Fragment) (n : Annotated)
      → AreNotesOf def cs notes → IsNotedAs def c n → AreNotesOf def (cs ++ c ∷ []) (notes ++ n ∷ [])
  notes-push cs notes c n h k = (
    map-append tree_in notes (n ∷ []) ∙ ap₂ (λ a b. a ++ b ∷ []) h.0 k.0,
    each_push (IsNoted def) notes n h.1 k.1,
  )

  -- one more child
  pub notes_more : (children : List Fragment) (i : ℕ) (child : Fragment) (below longer : List Annotated) (n : Annotated)
      → i < length children → child ≡ get_or children i child → longer ≡ below ++ n ∷ []
      → AreNotesOf def (take i children) below → IsNotedAs def child n
      → AreNotesOf def (take (i + 1) children) longer
  notes_more children i child below longer n small at made h k =
      subst (λ l. AreNotesOf def l longer) (sym (take_item children i child small at))
      (subst (AreNotesOf def (take i children ++ child ∷ [])) (sym made)
      (notes-push (take i children) below child n h k))

  pub notes_all : (f : Fragment) (children : List Fragment) (i : ℕ) (below : List Annotated)
      → children ≡ children_of f → length children ≤ i → AreNotesOf def (take i children) below
      → AreNotesOf def (children_of f) below
  notes_all f children i below are past h =
      subst (λ l. AreNotesOf def l below) (take_all i children past ∙ are) h

  -- ---- what is known of trees with notes

  pub formed_children : (f : Fragment) → IsFormed def f → AllByRecursion (IsFormed def) (children_of f)
  formed_children f (kind, (fits, plain)) = formed_below def f [] kind fits plain

  pub notes_summaries : (cs : List Fragment) (notes : List Annotated) → AllByRecursion (IsFormed def) cs
      → AreNotesOf def cs notes → AllSummaries def cs (map whole_in notes)
  notes_summaries cs notes formed h =
      subst (λ l. AllSummaries def l (map whole_in notes)) h.0
      (children_known def notes (subst (AllByRecursion (IsFormed def)) (sym h.0) formed) (holds def notes h.1))

  pub notes_clean : (path : Path) (k : ℕ) (cs : List Fragment) (notes : List Annotated)
      → AllByRecursion (IsFormed def) cs → AreNotesOf def cs notes → AreWithin def (each_steps def path k cs)
  notes_clean path k cs notes formed h =
      subst (λ l. AreWithin def (each_steps def path k l)) h.0
      (children_within def notes (subst (AllByRecursion (IsFormed def)) (sym h.0) formed) (holds def notes h.1) path k)

  pub notes_usual : (notes : List Annotated) → AllByRecursion (IsNoted def) notes
      → AllByRecursion (IsSummary def) (map whole_in notes)
  notes_usual [] h = tt
  notes_usual (n ∷ ns) h = ((noted_parts def n h.0).0.usual.0, notes_usual ns h.1)

  formed_front : (i : ℕ) (cs : List Fragment) → AllByRecursion (IsFormed def) cs
      → AllByRecursion (IsFormed def) (take i cs)
  formed_front zero cs h = tt
  formed_front (suc i) [] h = tt
  formed_front (suc i) (c ∷ cs) h = (h.0, formed_front i cs h.1)

  -- ---- the fault of a child, and of the top

  pub child_fault : (path pushed : Path) (f : Fragment) → IsReal f → (front back : List Fragment) (child : Fragment)
      (fault : NoteFault) → children_of f ≡ front ++ child ∷ back → pushed ≡ path ++ length front ∷ []
      → AreWithin def (each_steps def path 0 front) → IsStepFault def (steps_of def pushed child) fault
      → IsStepFault def (steps_of def path f) fault
  child_fault path pushed f is front back child fault split place clean k =
      let n : length front ≡ 0 + length front = omega arith in
      let steps : each_steps def path 0 (children_of f) ≡ each_steps def path 0 front
      ++ (steps_of def pushed child ++ each_steps def path (length front + 1) back) =
      ap (each_steps def path 0) split ∙ each_steps-append def path 0 front (child ∷ back) (length front) n
      ∙ ap (λ q. each_steps def path 0 front ++ (steps_of def q child ++ each_steps def path (length front + 1) back))
      (sym place) in
      subst (λ l. IsStepFault def l fault) (sym (steps_split def path f is))
      (fault-left def (each_steps def path 0 (children_of f)) (top_steps def path f) fault
      (subst (λ l. IsStepFault def l fault) (sym steps)
      (fault-behind def (each_steps def path 0 front)
      (steps_of def pushed child ++ each_steps def path (length front + 1) back) fault clean
      (fault-left def (steps_of def pushed child) (each_steps def path (length front + 1) back) fault k))))

  pub walked_fault : (path pushed : Path) (f : Fragment) → IsFormed def f → (children : List Fragment) (i step : ℕ)
      (child : Fragment) (below : List Annotated) (fault : NoteFault) → children ≡ children_of f
      → i < length children → child ≡ get_or children i child → step ≡ i → pushed ≡ path ++ step ∷ []
      → AreNotesOf def (take i children) below → IsStepFault def (steps_of def pushed child) fault
      → IsStepFault def (steps_of def path f) fault
  walked_fault path pushed f formed children i step child below fault are small at same place h k =
      let n : length (take i children) ≡ i = length-take-le i children (omega (arith, small)) in
      let split : children_of f ≡ take i children ++ (child ∷ drop (suc i) children) =
      sym are ∙ sym (take-append-drop i children)
      ∙ ap (λ l. take i children ++ l) (drop-cons children i child small ∙ ap (λ x. x ∷ drop (suc i) children)
      (sym at)) in
      let there : pushed ≡ path ++ length (take i children) ∷ [] =
      place ∙ ap (λ j. path ++ j ∷ []) (same ∙ sym n) in
      let each : AllByRecursion (IsFormed def) (take i children) =
      formed_front i children (subst (AllByRecursion (IsFormed def)) (sym are) (formed_children f formed)) in
      child_fault path pushed f (real def f formed) (take i children) (drop (suc i) children) child fault split there
      (notes_clean path 0 (take i children) below each h) k

  pub top_fault : (path : Path) (f : Fragment) → IsFormed def f → (below : List Annotated) (fault : NoteFault)
      → AreNotesOf def (children_of f) below → IsStepFault def (top_steps def path f) fault
      → IsStepFault def (steps_of def path f) fault
  top_fault path f formed below fault h k =
      subst (λ l. IsStepFault def l fault) (sym (steps_split def path f (real def f formed)))
      (fault-behind def (each_steps def path 0 (children_of f)) (top_steps def path f) fault
      (notes_clean path 0 (children_of f) below (formed_children f formed) h) k)

  -- ---- the note of a tree

  pub made_noted : (f : Fragment) (below : List Annotated) (s : SummaryParts) (rests : List SummaryParts) (n : Annotated)
      → AreNotesOf def (children_of f) below → IsTop def f (map whole_in below) s rests → IsMadeOf f s rests below n
      → IsNotedAs def f n
  made_noted f below s rests n notes top made =
      let weight : ℕ = summed weight_in below + summed own_weight (s ∷ rests) in
      let node : Annotated = topped f s rests weight in
      let it : IsTopped def f s rests weight below =
      record { children = notes.0; answered = top.0; usual = top.1; sum = refl } in
      let all : IsNoted def (with_below node below) =
      noted_with def node below [] (subst (IsTopped def f s rests weight) (sym (append-nil below)) it) notes.1 in
      subst (IsNotedAs def f) (sym made) (tree-with node below, all)

  -- ---- the whole tree

  pub fault_noted : (f : Fragment) (fault : NoteFault) → (IsDeep f → ⊥) → (IsBig f → ⊥)
      → IsStepFault def (steps_of def [] f) fault → IsNoteFault def f fault
  fault_noted f (faults.Wide path step) shallow small (part, h) =
      (shallow, small, part, first_wide def f (record { path = path; part = part; step = step }) h)
  fault_noted f faults.Memory shallow small h = tt
  fault_noted f faults.Deep shallow small h = absurd h
  fault_noted f faults.Big shallow small h = absurd h
  fault_noted f faults.Heavy shallow small h = absurd h

  pub size_fault : (f : Fragment) (fault : NoteFault) → IsSizeFault f fault → IsNoteFault def f fault
  size_fault f fault (inl (is, deep)) = subst (IsNoteFault def f) (sym is) deep
  size_fault f fault (inr (is, shallow, big)) = subst (IsNoteFault def f) (sym is) (shallow, big)

  clean_whole : (f : Fragment) (n : Annotated) → IsFormed def f → IsNotedAs def f n
      → AreWithin def (steps_of def [] f)
  clean_whole f n formed h =
      let known = noted_known def n h.1 (subst (IsFormed def) (sym h.0) formed) in
      subst (λ x. AreWithin def (steps_of def [] x)) h.0 (known.1 [])

  pub note_of : IsSound def → (f : Fragment) (n : Annotated) (weight : ℕ) → IsFormed def f → IsNotedAs def f n
      → IsSmall f → weight ≡ weight_in n → weight ≤ MOST_WEIGHTS → IsNoteOf def f n
  note_of sound f n weight formed h small is light =
      let few : weight_in n ≤ MOST_WEIGHTS = subst (λ w. w ≤ MOST_WEIGHTS) is light in
      let weighs = noted_weighs def n h.1 (subst (IsFormed def) (sym h.0) formed) in
      record {
        tree = h.0;
        formed = formed;
        noted = h.1;
        within = record {
          shallow = small.0;
          small = small.1;
          narrow = not_wide def f (clean_whole f n formed h);
          light =
              not_heavy def sound f (weight_in n) (subst (λ x. HasWeights def x (weight_in n)) h.0 weighs) few;
        };
      }

  pub heavy_fault : (f : Fragment) (n : Annotated) (weight : ℕ) (fault : NoteFault) → IsFormed def f
      → IsNotedAs def f n → IsSmall f → weight ≡ weight_in n → (fault ≡ faults.Heavy) × (MOST_WEIGHTS < weight)
      → IsNoteFault def f fault
  heavy_fault f n weight fault formed h small is heavy =
      let over : MOST_WEIGHTS < weight_in n = subst (λ w. MOST_WEIGHTS < w) is heavy.1 in
      let weighs = noted_weighs def n h.1 (subst (IsFormed def) (sym h.0) formed) in
      subst (IsNoteFault def f) (sym heavy.0) (
        small.0,
        small.1,
        not_wide def f (clean_whole f n formed h),
        (weight_in n, subst (λ x. HasWeights def x (weight_in n)) h.0 weighs, over),
      )
