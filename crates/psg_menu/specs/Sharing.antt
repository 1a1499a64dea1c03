-- One climb for all candidates: the evaluations on the way up, and what is known of a node of the way.
use Rattle.std.specs.Prelude.{ℕ, ◌≡◌, ◌≤◌, ◌||◌, Bool, true, false, List, [], ◌∷◌, ◌++◌}
use Rattle.std.specs.Prelude.{map, slice_get, Some, bytes_eq, Result, Ok, Err}
use Rattle.std.specs.List.{list_any, AllByRecursion}
use Rattle.psg_terms.specs.Names.{Name, is_among}
use Rattle.psg_terms.specs.Relations.{IsIn}
use Rattle.psg_grammar.specs.declared.types.Kind.{Kind}
use Rattle.psg_grammar.specs.declared.types.Kind.TheVariants as kinds
use Rattle.psg_grammar.specs.Steps.{PassesAt, last_step}
use Rattle.psg_menu.specs.declared.entries.Entry.{Entry}
use Rattle.psg_menu.specs.declared.sharing.Level.{Level}
use Rattle.psg_menu.specs.declared.entries.Move.{Move}
use Rattle.psg_menu.specs.declared.sharing.Rung.{Rung}
use Rattle.psg_menu.specs.declared.sharing.Rung.TheVariants as rungs
use Rattle.psg_grammar.specs.declared.types.Definition.{Definition}
use Rattle.psg_grammar.specs.Fragments.{Fragment, cell, children_of}
use Rattle.psg_scope.specs.declared.header.NameCol.{NameCol}
use Rattle.psg_scope.specs.declared.header.Header.{Header}
use Rattle.psg_eval.specs.declared.frame.Frame.{Frame}
use Rattle.psg_eval.specs.declared.frame.Frame.TheVariants as frames
use Rattle.psg_eval.specs.declared.question.FocusFault.{FocusFault}
use Rattle.psg_eval.specs.declared.question.FocusFault.TheVariants as questions
use Rattle.psg_eval.specs.declared.summary.EvalFault.{EvalFault}
use Rattle.psg_eval.specs.declared.summary.EvalFault.TheVariants as faults
use Rattle.psg_eval.specs.declared.summary.SummaryParts.{SummaryParts}
use Rattle.psg_eval.specs.Frames.{AllSummariesBut, IsSilent, TakesInFrame}
use Rattle.psg_eval.specs.Summaries.{AreSummariesOf, IsSummary, IsSummaryOf, StaysWithin, TakesCell}
use Rattle.psg_eval.specs.Renamed.{IsRenamed}
use Rattle.psg_eval.specs.Trees.{IsNode}

-- One evaluation: of an operator's node, from its child of the number; of a list, from its first element or from its
-- rest.
pub data Rise : Type 0 where
  of_node : (op : ℕ) (names : List Name) (children : List SummaryParts) (hot : ℕ) → Rise
  of_first : (list : ℕ) (rest : SummaryParts) → Rise
  of_before : (list : ℕ) (element : SummaryParts) → Rise

-- that of a rung
abbrev pub rise_of : Rung → Rise
rise_of (rungs.Node op names children hot) = of_node op names.now children.now hot
rise_of (rungs.First list rest) = of_first list rest.now
rise_of (rungs.Before list element) = of_before list element.now

-- those of a frame, the last one first
abbrev pub rises_in : Frame → List Rise
rises_in (frames.Op op names children hot) = of_node op names children hot ∷ []
rises_in (frames.Elem list before rest) = map (of_before list) before ++ of_first list rest ∷ []

abbrev pub rises_of : List Frame → List Rise
rises_of [] = []
rises_of (frame ∷ more) = rises_of more ++ rises_in frame

abbrev pub has_key : Header → Name → Bool
has_key h n = list_any (λ (c : NameCol). bytes_eq c.name n) h.names

abbrev pub some_has_key : List SummaryParts → Name → Bool
some_has_key ss n = list_any (λ (s : SummaryParts). has_key s.header n) ss

-- whether the name is one of the node's own, or that of a key of its children, with any summary for that on the way
abbrev pub meets : Rise → Name → Bool
meets (of_node op names children hot) n = is_among names n || some_has_key children n
meets (of_first list rest) n = has_key rest.header n
meets (of_before list element) n = has_key element.header n

-- none of the evaluations meets the name
abbrev pub AreNewTo : List Rise → Name → Type 0
AreNewTo rises n = AllByRecursion (λ rise. meets rise n ≡ false) rises

-- a list with an element
abbrev pub IsCell : Fragment → Type 0
IsCell (cell l e r) = Unit {0}
IsCell _ = ⊥

-- The trees in the operator's slots have no keys, and the candidates and the proxy are other words.
pub record AreApart (below : List SummaryParts) (star : Name) (candidates : List Name) : Type 0 where
  pub quiet : AllByRecursion (λ (s : SummaryParts). s.header.names ≡ []) below
  pub others : AllByRecursion (λ n. (bytes_eq n star ≡ false) × (bytes_eq n [] ≡ false)) candidates
  pub some : bytes_eq star [] ≡ false

module _ (def : Definition) where
  -- the node u has the node v below it, and besides what the evaluation says
  abbrev pub IsRise : Rise → Fragment → Fragment → Type 0
  IsRise (of_node op names children hot) u v =
      IsNode def op names u × (slice_get (children_of u) hot ≡ Some v)
      × AllSummariesBut def hot (children_of u) children
  IsRise (of_first list rest) u v = (r : Fragment) × (u ≡ cell list v r) × IsSummaryOf def r rest
  IsRise (of_before list element) u v = (e : Fragment) × (u ≡ cell list e v) × IsSummaryOf def e element × IsCell v

  -- the evaluations, the last one first, lead from t to u
  abbrev pub Leads : List Rise → Fragment → Fragment → Type 0
  Leads [] u t = u ≡ t
  Leads (rise ∷ done) u t = (v : Fragment) × IsRise rise u v × Leads done v t

  -- the operator with the name at the place, whose slots have these trees
  module _ (o : ℕ) (below : List SummaryParts) where
    pub record IsNamed (n : Name) (t : Fragment) : Type 0 where
      pub node : IsNode def o (n ∷ []) t
      pub children : AreSummariesOf def t below

    -- the evaluations lead from it to a node with the summary
    abbrev pub Reaches : Name → List Rise → SummaryParts → Type 0
    Reaches n done s = (u t : Fragment) → Leads done u t → IsNamed n t → IsSummaryOf def u s

    -- no step on the way passes the limit
    abbrev pub IsWithinAt : Name → List Rise → Type 0
    IsWithinAt n done = (u t : Fragment) → Leads done u t → IsNamed n t → StaysWithin def u

    abbrev pub IsWithin : Name → List Rise → Type 0
    IsWithin n [] = IsWithinAt n []
    IsWithin n (rise ∷ done) = IsWithinAt n (rise ∷ done) × IsWithin n done

    -- What is known of a candidate with this summary at the end of the evaluations: it is its own, or that of the
    -- proxy, from which nothing on the way differs for it.
    abbrev pub StandsAs : (star n : Name) → List Rise → Bool → SummaryParts → Type 0
    StandsAs star n done true s = Reaches star done s × IsWithin star done × AreNewTo done n × AreNewTo done star
    StandsAs star n done false s = Reaches n done s × IsWithin n done

  -- a step of the node itself passes the limit
  abbrev pub OwnFails : Fragment → Type 0
  OwnFails u = (k : ℕ) × (k ≤ last_step def u) × PassesAt def u k

  abbrev pub IsRaisedTo : Fragment → Result SummaryParts EvalFault → Type 0
  IsRaisedTo u (Ok s) = IsSummaryOf def u s × StaysWithin def u
  IsRaisedTo u (Err (faults.Wide step)) = OwnFails u
  IsRaisedTo u (Err faults.Memory) = Unit {0}

  -- the answer for the node above every node with the summary
  abbrev pub IsRaised : Rise → SummaryParts → Result SummaryParts EvalFault → Type 0
  IsRaised rise own result = (u v : Fragment) → IsRise rise u v → IsSummaryOf def v own → IsRaisedTo u result

  -- a summary of the kind can be raised, and gives one of the other kind
  abbrev pub TakesRise : Rise → SummaryParts → Kind → Type 0
  TakesRise (of_node op names children hot) s above = TakesInFrame def (frames.Op op names children hot) s above
  TakesRise (of_first list rest) s above = TakesCell def list s rest × IsSilent rest × (above ≡ kinds.List list)
  TakesRise (of_before list element) s above =
      TakesCell def list element s × IsSilent element × (above ≡ kinds.List list)

  abbrev pub CanRise : Rise → Kind → Kind → Type 0
  CanRise rise kind above = (s : SummaryParts) → IsSummary def s → s.kind ≡ kind → TakesRise rise s above

  pub record IsUsual (kind : Kind) (s : SummaryParts) : Type 0 where
    pub usual : IsSummary def s
    pub of_kind : s.kind ≡ kind
    pub silent : IsSilent s

  -- the evaluations so far, of the operator with these trees in its slots
  module _ (o : ℕ) (below : List SummaryParts) (star : Name) (done : List Rise) where
    abbrev pub IsPlacedAt : List Entry → Name → ℕ → Type 0
    IsPlacedAt entries n k = (e : Entry) × (slice_get entries k ≡ Some e) × StandsAs o below star n done e.shared e.own

    -- each candidate has the summary at its place of the list
    abbrev pub ArePlaced : List Entry → List Name → List ℕ → Type 0
    ArePlaced entries [] [] = Unit {0}
    ArePlaced entries (n ∷ ns) (k ∷ ks) = IsPlacedAt entries n k × ArePlaced entries ns ks
    ArePlaced entries [] (k ∷ ks) = ⊥
    ArePlaced entries (n ∷ ns) [] = ⊥

    pub record IsLevel (kind : Kind) (candidates : List Name) (level : Level) : Type 0 where
      pub some : (s : SummaryParts) × IsUsual kind s
      pub usual : AllByRecursion (λ (e : Entry). IsUsual kind e.own) level.entries.items
      pub placed : ArePlaced level.entries.items candidates level.places.items

  -- a step of a node on the way of one of the candidates passes the limit
  pub record HasFailed (o : ℕ) (below : List SummaryParts) (candidates : List Name) (done : List Rise) : Type 0 where
    pub name : Name
    pub there : IsIn name candidates
    pub fails : (u t : Fragment) → Leads done u t → IsNamed o below name t → OwnFails u

  -- How a candidate goes on over an evaluation: with the summary that it has, which it may share only if it is not met,
  -- or under its own name.
  pub data GoesOn (rise : Rise) (star n : Name) (old : Entry) : Bool → Result SummaryParts EvalFault → Type 0 where
    straight : (result : Result SummaryParts EvalFault)
        → (old.shared ≡ true → (meets rise n ≡ false) × (meets rise star ≡ false))
        → IsRaised rise old.own result → GoesOn rise star n old old.shared result
    parting : (own : SummaryParts) (result : Result SummaryParts EvalFault) → old.shared ≡ true
        → has_key old.own.header n ≡ false
        → IsRenamed def star n old.own own
        → IsRaised rise own result → GoesOn rise star n old false result

  -- an entry that was raised
  abbrev pub IsMove : Rise → List Entry → List Entry → Move → Type 0
  IsMove rise below above m =
      (a b : Entry) × (slice_get below m.from ≡ Some a) × (slice_get above m.to ≡ Some b) × (b.shared ≡ a.shared)
      × IsRaised rise a.own (Ok b.own)

  -- the entry at the place above is what the candidate goes on to; or a step of the node passes the limit
  abbrev pub IsRaisedFrom : Rise → Name → Name → Entry → List Entry → Result ℕ FocusFault → Type 0
  IsRaisedFrom rise star n old above (Ok to) =
      (b : Entry) × (slice_get above to ≡ Some b) × GoesOn rise star n old b.shared (Ok b.own)
  IsRaisedFrom rise star n old above (Err questions.Wide) =
      (b : Bool) × (step : ℕ) × GoesOn rise star n old b (Err (faults.Wide step))
  IsRaisedFrom rise star n old above (Err questions.Memory) = Unit {0}

  -- the entry at the place above is raised from the summary; or a step of the node passes the limit
  abbrev pub IsPut : Rise → SummaryParts → Bool → List Entry → Result ℕ FocusFault → Type 0
  IsPut rise own shared above (Ok to) =
      (b : Entry) × (slice_get above to ≡ Some b) × (b.shared ≡ shared) × IsRaised rise own (Ok b.own)
  IsPut rise own shared above (Err questions.Wide) = (step : ℕ) × IsRaised rise own (Err (faults.Wide step))
  IsPut rise own shared above (Err questions.Memory) = Unit {0}

  module _ (o : ℕ) (below : List SummaryParts) (candidates : List Name) where
    -- the evaluations lead over a node a step of which passes the limit
    pub record FailsOn (rises : List Rise) : Type 0 where
      pub front : List Rise
      pub done : List Rise
      pub split : rises ≡ front ++ done
      pub failed : HasFailed o below candidates done

  -- the level after the evaluations, or a step on the way passes the limit
  abbrev pub IsLevelAnswer : (o : ℕ) (below : List SummaryParts) (star : Name) (candidates : List Name) → List Rise
      → Kind
      → Result Level FocusFault → Type 0
  IsLevelAnswer o below star candidates rises kind (Ok level) = IsLevel o below star rises kind candidates level
  IsLevelAnswer o below star candidates rises kind (Err questions.Wide) = FailsOn o below candidates rises
  IsLevelAnswer o below star candidates rises kind (Err questions.Memory) = Unit {0}

  -- the level at the top, under some proxy for all candidates; or a step on the way passes the limit
  abbrev pub IsWholeAnswer : (o : ℕ) (below : List SummaryParts) (candidates : List Name) → List Rise
      → Result Level FocusFault → Type 0
  IsWholeAnswer o below candidates rises (Ok level) =
      (star : Name) × (top : Kind) × AreApart below star candidates × IsLevel o below star rises top candidates level
  IsWholeAnswer o below candidates rises (Err questions.Wide) = FailsOn o below candidates rises
  IsWholeAnswer o below candidates rises (Err questions.Memory) = Unit {0}

  -- summaries of the kind can be raised over the frame, to those of the other kind
  abbrev pub CanRaise : Frame → Kind → Kind → Type 0
  CanRaise frame kind above = (s : SummaryParts) → IsSummary def s → s.kind ≡ kind → TakesInFrame def frame s above
