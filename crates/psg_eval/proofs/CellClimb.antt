-- From the summary of an element to that of its list, cell by cell.
use Rattle.std.proofs.Common.{◌≡◌, ℕ, suc, ◌+◌, ◌≤◌, ◌||◌, Bool, true, false, cond, List, [], ◌∷◌, ◌++◌, length, slice_get, Some, refl, sym, ◌∙◌, ap, ap₂, subst, append_assoc, arith}
use Rattle.std.proofs.lemmas.List.{append-nil}
use Rattle.std.specs.Prelude.{Result, Ok, Err}
use Rattle.std.specs.List.{AllByRecursion}
use Rattle.psg_grammar.specs.declared.types.Kind.{Kind}
use Rattle.psg_grammar.specs.declared.types.Kind.TheVariants as kinds
use Rattle.psg_grammar.specs.declared.types.Definition.{Definition}
use Rattle.psg_grammar.specs.Fragments.{Fragment, hole, ending, cell, operator, with_child, with_name, with_number, with_text, anything, observed}
use Rattle.psg_grammar.specs.Paths.{Path}
use Rattle.psg_grammar.specs.Steps.{Place, own_steps, steps_at, AreWithin}
use Rattle.psg_eval.specs.declared.summary.EvalFault.{EvalFault}
use Rattle.psg_eval.specs.declared.summary.SummaryParts.{SummaryParts}
use Rattle.psg_eval.specs.Climbing.{IsReached}
use Rattle.psg_eval.specs.Frames.{IsElement, IsSilent, TakesBefore}
use Rattle.psg_eval.specs.Summaries.{Answers, IsSummary, IsSummaryOf, TakesCell}
use Rattle.psg_eval.proofs.FirstWide.{within-none, within-append, own_within, own_reached, fault_among}

module _ (def : Definition) (l : ℕ) where
  -- the list u has elements with these summaries in front of the list v
  abbrev pub AreOver : List SummaryParts → Fragment → Fragment → Type 0
  AreOver [] u v = u ≡ v
  AreOver (s ∷ before) (cell m e r) v = (m ≡ l) × IsSummaryOf def e s × AreOver before r v
  AreOver (s ∷ before) u v = ⊥

  -- the steps of the cells of as many elements, the last one first
  abbrev pub over_steps : Path → List SummaryParts → Fragment → List Place
  over_steps path [] u = []
  over_steps path (s ∷ before) (cell m e r) = over_steps path before r ++ own_steps def path (cell m e r)
  over_steps path (s ∷ before) u = []

  record Split (path : Path) (before : List SummaryParts) (rest : SummaryParts) (u t : Fragment) : Type 0 where
    behind : Fragment
    over : AreOver before u (cell l t behind)
    is : IsSummaryOf def behind rest
    steps : steps_at def path (length before) u ≡ own_steps def path (cell l t behind) ++ over_steps path before u

  element_split : (path : Path) (before : List SummaryParts) (rest : SummaryParts) (u t : Fragment) → IsElement def l before rest u t → Split path before rest u t
  element_split path [] rest (cell m e r) t (a, b, c) =
      let same : cell m e r ≡ cell l t r = ap₂ (λ x y. cell x y r) a b in
      record { behind = r; over = same; is = c; steps = ap (own_steps def path) same ∙ sym (append-nil (own_steps def path (cell l t r))) }
  element_split path (s ∷ before) rest (cell m e r) t (a, b, c) =
      let h = element_split path before rest r t c in
      record {
        behind = h.behind;
        over = (a, b, h.over);
        is = h.is;
        steps = ap (λ x. x ++ own_steps def path (cell m e r)) h.steps
            ∙ append_assoc (own_steps def path (cell l t h.behind)) (over_steps path before r) (own_steps def path (cell m e r));
      }
  element_split path [] rest (hole p) t h = absurd h
  element_split path [] rest (ending m u) t h = absurd h
  element_split path [] rest (operator o) t h = absurd h
  element_split path [] rest (with_child f c) t h = absurd h
  element_split path [] rest (with_name f n) t h = absurd h
  element_split path [] rest (with_number f n) t h = absurd h
  element_split path [] rest (with_text f n) t h = absurd h
  element_split path [] rest anything t h = absurd h
  element_split path [] rest (observed f) t h = absurd h
  element_split path (s ∷ before) rest (hole p) t h = absurd h
  element_split path (s ∷ before) rest (ending m u) t h = absurd h
  element_split path (s ∷ before) rest (operator o) t h = absurd h
  element_split path (s ∷ before) rest (with_child f c) t h = absurd h
  element_split path (s ∷ before) rest (with_name f n) t h = absurd h
  element_split path (s ∷ before) rest (with_number f n) t h = absurd h
  element_split path (s ∷ before) rest (with_text f n) t h = absurd h
  element_split path (s ∷ before) rest anything t h = absurd h
  element_split path (s ∷ before) rest (observed f) t h = absurd h

  record Last (path : Path) (front : List SummaryParts) (s : SummaryParts) (u v : Fragment) : Type 0 where
    element : Fragment
    over : AreOver front u (cell l element v)
    is : IsSummaryOf def element s
    steps : over_steps path (front ++ s ∷ []) u ≡ own_steps def path (cell l element v) ++ over_steps path front u

  over_last : (path : Path) (front : List SummaryParts) (s : SummaryParts) (u v : Fragment) → AreOver (front ++ s ∷ []) u v → Last path front s u v
  over_last path [] s (cell m e r) v (a, b, c) =
      let same : cell m e r ≡ cell l e v = ap₂ (λ x y. cell x e y) a c in
      record { element = e; over = same; is = b; steps = ap (own_steps def path) same ∙ sym (append-nil (own_steps def path (cell l e v))) }
  over_last path (x ∷ front) s (cell m e r) v (a, b, c) =
      let h = over_last path front s r v c in
      record {
        element = h.element;
        over = (a, b, h.over);
        is = h.is;
        steps = ap (λ y. y ++ own_steps def path (cell m e r)) h.steps
            ∙ append_assoc (own_steps def path (cell l h.element v)) (over_steps path front r) (own_steps def path (cell m e r));
      }
  over_last path [] s (hole p) v h = absurd h
  over_last path [] s (ending m u) v h = absurd h
  over_last path [] s (operator o) v h = absurd h
  over_last path [] s (with_child f c) v h = absurd h
  over_last path [] s (with_name f n) v h = absurd h
  over_last path [] s (with_number f n) v h = absurd h
  over_last path [] s (with_text f n) v h = absurd h
  over_last path [] s anything v h = absurd h
  over_last path [] s (observed f) v h = absurd h
  over_last path (x ∷ front) s (hole p) v h = absurd h
  over_last path (x ∷ front) s (ending m u) v h = absurd h
  over_last path (x ∷ front) s (operator o) v h = absurd h
  over_last path (x ∷ front) s (with_child f c) v h = absurd h
  over_last path (x ∷ front) s (with_name f n) v h = absurd h
  over_last path (x ∷ front) s (with_number f n) v h = absurd h
  over_last path (x ∷ front) s (with_text f n) v h = absurd h
  over_last path (x ∷ front) s anything v h = absurd h
  over_last path (x ∷ front) s (observed f) v h = absurd h

  -- the answer for every cell whose element and rest have these summaries
  abbrev pub IsCellAnswer : SummaryParts → SummaryParts → Result SummaryParts EvalFault → Type 0
  IsCellAnswer element rest result = (e r : Fragment) → IsSummaryOf def e element → IsSummaryOf def r rest → Answers def (cell l e r) result

  module _ (before : List SummaryParts) (rest own : SummaryParts) where
    -- the summary of a list behind these elements, to which steps within the limit lead
    pub record IsUpTo (whole : SummaryParts) (left : List SummaryParts) (path : Path) (u : Fragment) : Type 0 where
      pub list : Fragment
      pub done : List Place
      pub over : AreOver left u list
      pub is : IsSummaryOf def list whole
      pub within : AreWithin def done
      pub steps : steps_at def path (length before) u ≡ done ++ over_steps path left u

    abbrev pub Rises : SummaryParts → List SummaryParts → Type 0
    Rises whole left = (u t : Fragment) (path : Path) → IsElement def l before rest u t → IsSummaryOf def t own → IsUpTo whole left path u

    abbrev pub Reaches : Result SummaryParts EvalFault → Type 0
    Reaches result = (u t : Fragment) (path : Path) → IsElement def l before rest u t → IsSummaryOf def t own
        → IsReached def (steps_at def path (length before) u) u result

    pub rise_first : (whole : SummaryParts) → IsCellAnswer own rest (Ok whole) → Rises whole before
    rise_first whole answer u t path element of =
        let h = element_split path before rest u t element in
        let (is, stays) = answer t h.behind of h.is in
        record { list = cell l t h.behind; done = own_steps def path (cell l t h.behind); over = h.over; is = is; within = own_within def path (cell l t h.behind) stays; steps = h.steps }

    pub first_fault : (fault : EvalFault) → IsCellAnswer own rest (Err fault) → Reaches (Err fault)
    first_fault fault answer u t path element of =
        let h = element_split path before rest u t element in
        let node = cell l t h.behind in
        subst (λ places. IsReached def places u (Err fault)) (sym h.steps)
        (fault_among def [] (own_steps def path node) (over_steps path before u) node u fault (within-none def)
        (own_reached def path node (Err fault) (answer t h.behind of h.is)))

    pub rise_next : (whole next last : SummaryParts) (left front : List SummaryParts) → left ≡ front ++ last ∷ [] → Rises whole left → IsCellAnswer last whole (Ok next) → Rises next front
    rise_next whole next last left front split rises answer u t path element of =
        let up = subst (λ xs. IsUpTo whole xs path u) split (rises u t path element of) in
        let h = over_last path front last u up.list up.over in
        let (is, stays) = answer h.element up.list h.is up.is in
        let own_are = own_steps def path (cell l h.element up.list) in
        record {
          list = cell l h.element up.list;
          done = up.done ++ own_are;
          over = h.over;
          is = is;
          within = within-append def up.done own_are up.within (own_within def path (cell l h.element up.list) stays);
          steps = up.steps ∙ ap (λ x. up.done ++ x) h.steps ∙ sym (append_assoc up.done own_are (over_steps path front u));
        }

    pub next_fault : (whole last : SummaryParts) (fault : EvalFault) (left front : List SummaryParts) → left ≡ front ++ last ∷ [] → Rises whole left → IsCellAnswer last whole (Err fault) → Reaches (Err fault)
    next_fault whole last fault left front split rises answer u t path element of =
        let up = subst (λ xs. IsUpTo whole xs path u) split (rises u t path element of) in
        let h = over_last path front last u up.list up.over in
        let node = cell l h.element up.list in
        subst (λ places. IsReached def places u (Err fault)) (sym (up.steps ∙ ap (λ x. up.done ++ x) h.steps))
        (fault_among def up.done (own_steps def path node) (over_steps path front u) node u fault up.within
        (own_reached def path node (Err fault) (answer h.element up.list h.is up.is)))

    pub rise_all : (whole : SummaryParts) (left : List SummaryParts) → length left ≡ 0 → Rises whole left → Reaches (Ok whole)
    rise_all whole [] none rises u t path element of =
        let up = rises u t path element of in (
          subst (λ v. IsSummaryOf def v whole) (sym up.over) up.is,
          subst (AreWithin def) (sym (up.steps ∙ append-nil up.done)) up.within,
        )
    rise_all whole (x ∷ left) none rises u t path element of = absurd (omega (arith, none))

  -- ---- what a cell takes

  pub next_takes : (own rest whole last : SummaryParts) → TakesCell def l own rest → TakesBefore def own.kind last → whole.kind ≡ kinds.List l → IsSummary def whole → TakesCell def l last whole
  next_takes own rest whole last takes before kind usual = record {
    list = takes.list;
    found = takes.found;
    element_kind = before.same ∙ takes.element_kind;
    rest_kind = kind;
    summaries = (before.usual, (usual, tt));
  }

  pub all_front : (kind : Kind) (left front : List SummaryParts) (last : SummaryParts) → left ≡ front ++ last ∷ [] → AllByRecursion (TakesBefore def kind) left
      → AllByRecursion (TakesBefore def kind) front × TakesBefore def kind last
  all_front kind left front last split all = both front (subst (AllByRecursion (TakesBefore def kind)) split all) where
    both : (front : List SummaryParts) → AllByRecursion (TakesBefore def kind) (front ++ last ∷ []) → AllByRecursion (TakesBefore def kind) front × TakesBefore def kind last
    both [] h = (tt, h.0)
    both (x ∷ front) h = let (a, b) = both front h.1 in ((h.0, a), b)
