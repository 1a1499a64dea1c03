-- The summaries of a list: of its end, and of its cells from the last to the first.
use Rattle.std.proofs.Common.{◌≡◌, ℕ, zero, suc, Bool, true, List, [], ◌∷◌, ◌++◌, length, drop, slice_get, Some, refl, sym, ◌∙◌, ap, subst, append-nil, arith}
use Rattle.std.proofs.lemmas.Option.{same_Some}
use Rattle.std.specs.Prelude.{Result, Ok, IfOk}
use Rattle.std.specs.List.{AllByRecursion}
use Rattle.psg_grammar.specs.declared.types.Kind.{Kind}
use Rattle.psg_grammar.specs.declared.types.Kind.TheVariants as kinds
use Rattle.psg_grammar.specs.declared.types.ListKind.{ListKind}
use Rattle.psg_grammar.specs.declared.types.Definition.{Definition}
use Rattle.psg_grammar.specs.Fragments.{Fragment, ending, cell}
use Rattle.psg_grammar.specs.Paths.{Path}
use Rattle.psg_grammar.specs.Steps.{own_steps, list_steps}
use Rattle.psg_grammar.specs.WellFormed.{Fits, WellFormed}
use Rattle.psg_tree.specs.Shapes.{list_of}
use Rattle.psg_eval.specs.declared.summary.SummaryParts.{SummaryParts}
use Rattle.psg_eval.specs.declared.summary.EvalFault.{EvalFault}
use Rattle.psg_eval.specs.Summaries.{AllSummaries, Answers, IsSummary, IsSummaryOf, StaysWithin}
use Rattle.psg_cache.specs.declared.note.NoteFault.{NoteFault}
use Rattle.psg_cache.specs.Renoting.{AreOfCells, IsCellsFault, TakesCells}
use Rattle.psg_cache.specs.Walks.{AreListed, IsAnswerFault, IsStepFault, IsListFault, IsListTopped, TakesElements, top_steps}
use Rattle.psg_cache.proofs.CellLaws.{cells_end, listed_front, usual_front}
use Rattle.psg_cache.proofs.StepLaws.{fault-left, own_within, own_fault}
use Rattle.psg_cache.proofs.Evaluations.{kind_known}

module _ (def : Definition) where
  pub answered_ok : (f : Fragment) (r : Result SummaryParts EvalFault) (s : SummaryParts) → Answers def f r → r ≡ Ok s
      → IsSummaryOf def f s × StaysWithin def f
  answered_ok f r s h e = subst (Answers def f) e h

  pub usual_ok : (r : Result SummaryParts EvalFault) (s : SummaryParts) → IfOk r (IsSummary def) → r ≡ Ok s → IsSummary def s
  usual_ok r s h e = let P : Result SummaryParts EvalFault → Type 0 = λ x. IfOk x (IsSummary def) in subst P e h

  pub top_list_steps : (path : Path) (l : ℕ) (es : List Fragment) (u : Bool)
      → top_steps def path (list_of l es u) ≡ list_steps def path (list_of l es u)
  top_list_steps path l [] u = refl
  top_list_steps path l (e ∷ es) u = refl

  none_left : (es : List Fragment) (elements : List SummaryParts) → AllSummaries def es elements → (i : ℕ)
      → i ≡ length elements → drop i es ≡ []
  none_left [] [] h zero e = refl
  none_left [] [] h (suc i) e = refl
  none_left [] (y ∷ ys) h i e = absurd h
  none_left (f ∷ fs) [] h i e = absurd h
  none_left (f ∷ fs) (y ∷ ys) h zero e = absurd (omega (arith, e))
  none_left (f ∷ fs) (y ∷ ys) h (suc i) e = none_left fs ys h.1 i (omega (arith, e))

  -- ---- faults

  pub fault_of_rest : (path : Path) (l : ℕ) (u : Bool) (fault : NoteFault) (i : ℕ) (es : List Fragment)
      → IsStepFault def (list_steps def path (list_of l (drop i es) u)) fault
      → IsStepFault def (list_steps def path (list_of l es u)) fault
  fault_of_rest path l u fault zero es h = h
  fault_of_rest path l u fault (suc i) [] h = h
  fault_of_rest path l u fault (suc i) (e ∷ es) h =
      fault-left def (list_steps def path (list_of l es u)) (own_steps def path (cell l e (list_of l es u))) fault
      (fault_of_rest path l u fault i es h)

  pub end_fault : (path : Path) (l : ℕ) (u : Bool) (answer : Result SummaryParts EvalFault) (fault : NoteFault)
      (elements : List SummaryParts) → Answers def (ending l u) answer → IsAnswerFault path answer fault
      → IsListFault def path l u elements fault
  end_fault path l u answer fault elements h f es are =
      fault_of_rest path l u fault (length elements) es
      (subst (λ (x : List Fragment). IsStepFault def (list_steps def path (list_of l x u)) fault)
      (sym (none_left es elements are (length elements) refl)) (own_fault def path (ending l u) answer fault h f))

  -- ---- a list of elements whose end is evaluated

  pub list_kind_is : (l : ℕ) (es : List Fragment) (u : Bool) (s : SummaryParts) → IsSummaryOf def (list_of l es u) s
      → s.kind ≡ kinds.List l
  list_kind_is l [] u s h = h.kind
  list_kind_is l (e ∷ es) u s h = h.kind

  pub end_taken : (l : ℕ) (u : Bool) (elements : List SummaryParts) (answer : Result SummaryParts EvalFault) (end : SummaryParts)
      → TakesElements def l u elements → Answers def (ending l u) answer → IfOk answer (IsSummary def)
      → answer ≡ Ok end → TakesCells def l elements end
  end_taken l u elements answer end takes h usual is =
      let known = answered_ok (ending l u) answer end h is in
      record {
        list = takes.list;
        found = takes.found;
        element_kinds = takes.element_kinds;
        rest_kind = known.0.kind;
        usual = (usual_ok answer end usual is, takes.usual);
      }

  pub list_topped : (l : ℕ) (u : Bool) (elements : List SummaryParts) (answer : Result SummaryParts EvalFault) (end : SummaryParts)
      (news : List SummaryParts) (s : SummaryParts) (ts none : List SummaryParts) → Answers def (ending l u) answer
      → IfOk answer (IsSummary def) → answer ≡ Ok end → AreOfCells def l elements end news
      → AllByRecursion (IsSummary def) news → none ≡ [] → s ∷ ts ≡ news ++ end ∷ none
      → IsListTopped def l u elements s ts
  list_topped l u elements answer end news s ts none h usual is cells each empty all =
      let whole : s ∷ ts ≡ news ++ end ∷ [] = all ∙ ap (λ r. news ++ end ∷ r) empty in
      let at_end : AreListed def l u [] end [] = subst (Answers def (ending l u)) is h in (
        subst (λ bs. AreListed def l u bs s ts) (append-nil elements)
            (listed_front def l u elements end news [] [] s ts cells at_end whole),
        usual_front def end news [] s ts each (usual_ok answer end usual is, tt) whole,
      )

  pub cells_list_fault : (path : Path) (l : ℕ) (u : Bool) (elements : List SummaryParts) (answer : Result SummaryParts EvalFault)
      (end : SummaryParts) (fault : NoteFault) → Answers def (ending l u) answer → answer ≡ Ok end
      → IsCellsFault def path l elements end fault → IsListFault def path l u elements fault
  cells_list_fault path l u elements answer end fault h is f es are =
      let known = answered_ok (ending l u) answer end h is in
      subst (λ x. IsStepFault def (list_steps def path x) fault) (cells_end l es u)
      (f es (ending l u) are known.0 (own_within def path (ending l u) known.1))

  -- ---- what a list takes

  known_list : (l : ℕ) (es : List Fragment) (u : Bool) (kind : Kind) → WellFormed def (list_of l es u) kind
      → (own : ListKind) × (slice_get def.lists l ≡ Some own)
  known_list l [] u kind w = (w.0.2.0, w.0.2.1)
  known_list l (x ∷ es) u kind w = let (nil, same, k, at, fe, fr, un) = w.0 in (k, at)

  -- a list's elements are trees of its element phylum
  abbrev AreElements : ℕ → List Fragment → Type 0
  AreElements p es = AllByRecursion (λ e. WellFormed def e (kinds.Phylum p)) es

  list_parts : (l : ℕ) (own : ListKind) (es : List Fragment) (u : Bool) (kind : Kind) → slice_get def.lists l ≡ Some own
      → WellFormed def (list_of l es u) kind → (u ≡ true → own.unfinished ≡ true) × AreElements own.element es
  list_parts l own [] u kind e w =
      let same : w.0.2.0 ≡ own = same_Some w.0.2.0 own (sym w.0.2.1 ∙ e) in
      (λ t. ap (λ (x : ListKind). x.unfinished) (sym same) ∙ w.0.2.2 t, tt)
  list_parts l own (x ∷ es) u kind e w =
      let (nil, same, k, at, fe, fr, un) = w.0 in
      let (may_end, rest) = list_parts l own es u (kinds.List l) e (fr, w.1.1) in
      let it : k ≡ own = same_Some k own (sym at ∙ e) in
      (may_end, ((subst (λ (y : ListKind). Fits def x [] (kinds.Phylum y.element)) it fe, w.1.0), rest))

  element_kinds : (p : ℕ) (es : List Fragment) (elements : List SummaryParts) → AreElements p es
      → AllSummaries def es elements → AllByRecursion (λ (s : SummaryParts). s.kind ≡ kinds.Phylum p) elements
  element_kinds p [] [] h s = tt
  element_kinds p [] (y ∷ ys) h s = absurd s
  element_kinds p (x ∷ xs) [] h s = absurd s
  element_kinds p (x ∷ xs) (y ∷ ys) h s =
      (kind_known def x (kinds.Phylum p) y h.0.0 h.0.1 s.0, element_kinds p xs ys h.1 s.1)

  pub list_takes : (l : ℕ) (es : List Fragment) (u : Bool) (kind : Kind) (elements : List SummaryParts)
      → WellFormed def (list_of l es u) kind → AllSummaries def es elements
      → AllByRecursion (IsSummary def) elements → TakesElements def l u elements
  list_takes l es u kind elements w are usual =
      let (own, found) = known_list l es u kind w in
      let (may_end, parts) = list_parts l own es u kind found w in
      record {
        list = own;
        found = found;
        may_end = may_end;
        trees = es;
        summaries_of = are;
        element_kinds = element_kinds own.element es elements parts are;
        usual = usual;
      }
