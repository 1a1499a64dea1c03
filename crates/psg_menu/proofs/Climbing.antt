-- Level after level: over the cells of a list, over a frame, and over all frames.
use Rattle.std.proofs.Common.{◌≡◌, ℕ, ◌+◌, ◌*◌, true, List, [], ◌∷◌, ◌++◌, map, length, replicate, refl, ap, ap₂, sym, ◌∙◌, subst, append_assoc, arith}
use Rattle.std.proofs.lemmas.List.{append-nil, map-append}
use Rattle.std.specs.List.{AllByRecursion}
use Rattle.std.specs.Prelude.{Result, Ok, Err}
use Rattle.psg_terms.specs.Names.{Name}
use Rattle.psg_grammar.specs.declared.types.Kind.{Kind}
use Rattle.psg_grammar.specs.declared.types.Kind.TheVariants as kinds
use Rattle.psg_grammar.specs.declared.types.Definition.{Definition}
use Rattle.psg_eval.specs.declared.frame.Frame.{Frame}
use Rattle.psg_eval.specs.declared.frame.Frame.TheVariants as frames
use Rattle.psg_eval.specs.declared.question.FocusFault.{FocusFault}
use Rattle.psg_eval.specs.declared.question.FocusFault.TheVariants as questions
use Rattle.psg_eval.specs.declared.summary.SummaryParts.{SummaryParts}
use Rattle.psg_eval.specs.Frames.{CanClimb, TakesBefore}
use Rattle.psg_menu.specs.declared.entries.Entry.{Entry}
use Rattle.psg_menu.specs.declared.sharing.Level.{Level}
use Rattle.psg_eval.proofs.FrameLaws.{list_takes, operator_takes}
use Rattle.psg_menu.specs.Sharing.{Rise, of_node, of_first, of_before, rises_in, rises_of, AreApart, ArePlaced, CanRaise, CanRise, IsLevel, IsLevelAnswer, IsUsual, IsWithin, Reaches}

-- where an evaluation fails on the way, the whole way fails
pub fault_up : (def : Definition) (o : ℕ) (below : List SummaryParts) (star : Name) (candidates : List Name) (xs ys zs : List Rise) (here up : Kind) (fault : FocusFault) → zs ≡ xs ++ ys
    → IsLevelAnswer def o below star candidates ys here (Err fault) → IsLevelAnswer def o below star candidates zs up (Err fault)
fault_up def o below star candidates xs ys zs here up questions.Memory e h = tt
fault_up def o below star candidates xs ys zs here up questions.Wide e h =
    record { front = xs ++ h.front; done = h.done; split = e ∙ ap (λ l. xs ++ l) h.split ∙ sym (append_assoc xs h.front h.done); failed = h.failed }

-- ---- the cells of a list

module _ (def : Definition) (list : ℕ) (before : List SummaryParts) (rest : SummaryParts) where
  abbrev pub in_list : Frame
  in_list = frames.Elem list before rest

  pub takes_first : (kind up : Kind) → CanRaise def in_list kind up → CanRise def (of_first list rest) kind up
  takes_first kind up can s usual of = let (cells, silent, same, front) = can s usual of in (cells, silent, same)

  -- the evaluations of the elements that were taken, the last one first
  abbrev pub taken_rises : List SummaryParts → List Rise → List Rise
  taken_rises taken done = map (of_before list) taken ++ of_first list rest ∷ done

  element_of : (P : SummaryParts → Type 0) (front taken : List SummaryParts) (element : SummaryParts) → AllByRecursion P (front ++ element ∷ taken) → P element
  element_of P [] taken element h = h.0
  element_of P (x ∷ front) taken element h = element_of P front taken element h.1

  pub takes_element : (kind : Kind) (front taken : List SummaryParts) (element : SummaryParts) → before ≡ front ++ element ∷ taken → (s : SummaryParts) × IsUsual def kind s → CanRaise def in_list kind (kinds.List list)
      → CanRise def (of_before list element) (kinds.List list) (kinds.List list)
  takes_element kind front taken element split (w, is) can s usual of =
      let (cells, silent, same, all) = can w is.usual is.of_kind in
      let one : TakesBefore def w.kind element = element_of (TakesBefore def w.kind) front taken element (subst (AllByRecursion (TakesBefore def w.kind)) split all) in (
        record {
          list = cells.list;
          found = cells.found;
          element_kind = one.same ∙ cells.element_kind;
          rest_kind = of;
          summaries = (one.usual, (usual, tt));
        },
        one.silent,
        refl,
      )

  -- the level over the elements that were taken
  pub record IsTaken (o : ℕ) (below : List SummaryParts) (star : Name) (candidates : List Name) (done : List Rise) (left : List SummaryParts) (level : Level) : Type 0 where
    pub taken : List SummaryParts
    pub split : before ≡ left ++ taken
    pub is : IsLevel def o below star (taken_rises taken done) (kinds.List list) candidates level

  abbrev pub AreTaken : Name → List Name → Level → List SummaryParts → Level → Type 0
  AreTaken star candidates first left level = (o : ℕ) (below : List SummaryParts) (done : List Rise) (kind : Kind) → AreApart below star candidates
      → CanRaise def in_list kind (kinds.List list) → IsLevel def o below star done kind candidates first → IsTaken o below star candidates done left level

  pub split_next : (left front taken : List SummaryParts) (element : SummaryParts) → left ≡ front ++ element ∷ [] → before ≡ left ++ taken → before ≡ front ++ element ∷ taken
  split_next left front taken element e d = d ∙ ap (λ l. l ++ taken) e ∙ append_assoc front (element ∷ []) taken

  whole_rises : (done : List Rise) → rises_in in_list ++ done ≡ taken_rises before done
  whole_rises done = append_assoc (map (of_before list) before) (of_first list rest ∷ []) done

  front_rises : (front taken : List SummaryParts) (done : List Rise) → before ≡ front ++ taken → rises_in in_list ++ done ≡ map (of_before list) front ++ taken_rises taken done
  front_rises front taken done e =
      whole_rises done ∙ ap (λ l. map (of_before list) l ++ of_first list rest ∷ done) e
      ∙ ap (λ l. l ++ of_first list rest ∷ done) (map-append (of_before list) front taken)
      ∙ append_assoc (map (of_before list) front) (map (of_before list) taken) (of_first list rest ∷ done)

  pub first_fault : (o : ℕ) (below : List SummaryParts) (star : Name) (candidates : List Name) (done : List Rise) (up : Kind) (fault : FocusFault)
      → IsLevelAnswer def o below star candidates (of_first list rest ∷ done) up (Err fault) → IsLevelAnswer def o below star candidates (rises_in in_list ++ done) up (Err fault)
  first_fault o below star candidates done up fault h =
      fault_up def o below star candidates (map (of_before list) before) (of_first list rest ∷ done) (rises_in in_list ++ done) up up fault (whole_rises done) h

  pub element_fault : (o : ℕ) (below : List SummaryParts) (star : Name) (candidates : List Name) (done : List Rise) (up : Kind) (fault : FocusFault) (front taken : List SummaryParts) (element : SummaryParts)
      → before ≡ front ++ element ∷ taken → IsLevelAnswer def o below star candidates (of_before list element ∷ taken_rises taken done) up (Err fault)
      → IsLevelAnswer def o below star candidates (rises_in in_list ++ done) up (Err fault)
  element_fault o below star candidates done up fault front taken element e h =
      fault_up def o below star candidates (map (of_before list) front) (of_before list element ∷ taken_rises taken done) (rises_in in_list ++ done) up up fault
      (front_rises front (element ∷ taken) done e) h

  pub all_taken : (o : ℕ) (below : List SummaryParts) (star : Name) (candidates : List Name) (done : List Rise) (left : List SummaryParts) (level : Level) → length left ≡ 0
      → IsTaken o below star candidates done left level → IsLevel def o below star (rises_in in_list ++ done) (kinds.List list) candidates level
  all_taken o below star candidates done [] level none h =
      subst (λ rises. IsLevel def o below star rises (kinds.List list) candidates level) (sym (front_rises [] h.taken done h.split)) h.is
  all_taken o below star candidates done (x ∷ left) level none h = absurd (omega (arith, none))

-- ---- a frame by its parts

module _ (def : Definition) (frame : Frame) (op hot : ℕ) (names words : List Name) (children near : List SummaryParts) (is : frame ≡ frames.Op op names children hot) (words_are : words ≡ names) (near_are : near ≡ children) where
  op_is : frame ≡ frames.Op op words near hot
  op_is = is ∙ ap₂ (λ a b. frames.Op op a b hot) (sym words_are) (sym near_are)

  pub op_can : (kind up : Kind) → CanRaise def frame kind up → CanRise def (of_node op words near hot) kind up
  op_can kind up can s usual of = operator_takes def frame op hot names words children near is words_are near_are s up (can s usual of)

  pub op_answer : (o : ℕ) (below : List SummaryParts) (star : Name) (candidates : List Name) (done : List Rise) (up : Kind) (result : Result Level FocusFault)
      → IsLevelAnswer def o below star candidates (of_node op words near hot ∷ done) up result → IsLevelAnswer def o below star candidates (rises_in frame ++ done) up result
  op_answer o below star candidates done up result h = subst (λ f. IsLevelAnswer def o below star candidates (rises_in f ++ done) up result) (sym op_is) h

module _ (def : Definition) (frame : Frame) (list : ℕ) (before front : List SummaryParts) (rest : SummaryParts) (is : frame ≡ frames.Elem list before rest) (front_is : front ≡ before) where
  elem_is : frame ≡ frames.Elem list front rest
  elem_is = is ∙ ap (λ b. frames.Elem list b rest) (sym front_is)

  elem_takes : (kind up : Kind) → CanRaise def frame kind up → CanRaise def (frames.Elem list front rest) kind up
  elem_takes kind up can s usual of = list_takes def frame list before front rest is front_is s up (can s usual of)

  elem_up : (kind up : Kind) → CanRaise def frame kind up → (s : SummaryParts) × IsUsual def kind s → up ≡ kinds.List list
  elem_up kind up can (s, u) = (elem_takes kind up can s u.usual u.of_kind).2

  pub elem_can : (kind up : Kind) → CanRaise def frame kind up → (s : SummaryParts) × IsUsual def kind s → CanRaise def (frames.Elem list front rest) kind (kinds.List list)
  elem_can kind up can some = subst (CanRaise def (frames.Elem list front rest) kind) (elem_up kind up can some) (elem_takes kind up can)

  pub elem_answer : (o : ℕ) (below : List SummaryParts) (star : Name) (candidates : List Name) (done : List Rise) (kind up : Kind) (result : Result Level FocusFault) → CanRaise def frame kind up
      → (s : SummaryParts) × IsUsual def kind s → IsLevelAnswer def o below star candidates (rises_in (frames.Elem list front rest) ++ done) (kinds.List list) result
      → IsLevelAnswer def o below star candidates (rises_in frame ++ done) up result
  elem_answer o below star candidates done kind up result can some h =
      subst (λ k. IsLevelAnswer def o below star candidates (rises_in frame ++ done) k result) (sym (elem_up kind up can some))
      (subst (λ f. IsLevelAnswer def o below star candidates (rises_in f ++ done) (kinds.List list) result) (sym elem_is) h)

-- ---- all frames

module _ (def : Definition) (around : List Frame) (o : ℕ) (below : List SummaryParts) (star : Name) (candidates : List Name) where
  -- the level below the frames that are left
  pub record IsClimbing (left : List Frame) (level : Level) : Type 0 where
    pub done : List Rise
    pub at : Kind
    pub split : rises_of around ≡ rises_of left ++ done
    pub can : CanClimb def left at
    pub is : IsLevel def o below star done at candidates level

  pub climbing_frame : (frame : Frame) (more left : List Frame) (level : Level) → left ≡ frame ∷ more → (h : IsClimbing left level)
      → (up : Kind) × CanRaise def frame h.at up × CanClimb def more up
  climbing_frame frame more left level e h = subst (λ l. CanClimb def l h.at) e h.can

  frame_rises : (frame : Frame) (more left : List Frame) (done : List Rise) → left ≡ frame ∷ more → rises_of around ≡ rises_of left ++ done
      → rises_of around ≡ rises_of more ++ (rises_in frame ++ done)
  frame_rises frame more left done e d = d ∙ ap (λ l. rises_of l ++ done) e ∙ append_assoc (rises_of more) (rises_in frame) done

  pub frame_fault : (frame : Frame) (more left : List Frame) (done : List Rise) (here up : Kind) (fault : FocusFault) → left ≡ frame ∷ more → rises_of around ≡ rises_of left ++ done
      → IsLevelAnswer def o below star candidates (rises_in frame ++ done) here (Err fault) → IsLevelAnswer def o below star candidates (rises_of around) up (Err fault)
  frame_fault frame more left done here up fault e d h =
      fault_up def o below star candidates (rises_of more) (rises_in frame ++ done) (rises_of around) here up fault (frame_rises frame more left done e d) h

  pub frame_next : (frame : Frame) (more left : List Frame) (level next : Level) (e : left ≡ frame ∷ more) (h : IsClimbing left level)
      → IsLevel def o below star (rises_in frame ++ h.done) (climbing_frame frame more left level e h).0 candidates next → IsClimbing more next
  frame_next frame more left level next e h is = record {
    done = rises_in frame ++ h.done;
    at = (climbing_frame frame more left level e h).0;
    split = frame_rises frame more left h.done e h.split;
    can = (climbing_frame frame more left level e h).2;
    is = is;
  }

  pub all_climbed : (left : List Frame) (level : Level) → length left ≡ 0 → IsClimbing left level → (top : Kind) × IsLevelAnswer def o below star candidates (rises_of around) top (Ok level)
  all_climbed [] level none h = (h.at, subst (λ rises. IsLevel def o below star rises h.at candidates level) (sym h.split) h.is)
  all_climbed (x ∷ left) level none h = absurd (omega (arith, none))

  -- ---- the first level

  placed_first : (own : SummaryParts) (ns : List Name) → Reaches def o below star [] own → IsWithin def o below star [] → ArePlaced def o below star [] (record { own = own; shared = true } ∷ []) ns (replicate (length ns) 0)
  placed_first own [] reach within = tt
  placed_first own (n ∷ ns) reach within = ((record { own = own; shared = true }, refl, (reach, within, tt, tt)), placed_first own ns reach within)

  pub first_climbing : (kind : Kind) (own : SummaryParts) (level : Level) → CanClimb def around kind → IsUsual def kind own → Reaches def o below star [] own → IsWithin def o below star []
      → level.entries.items ≡ record { own = own; shared = true } ∷ [] → level.places.items ≡ replicate (length candidates) 0 → IsClimbing around level
  first_climbing kind own level can usual reach within entries places = record {
    done = [];
    at = kind;
    split = sym (append-nil (rises_of around));
    can = can;
    is = record {
      some = (own, usual);
      usual = subst (AllByRecursion (λ (e : Entry). IsUsual def kind e.own)) (sym entries) (usual, tt);
      placed = subst (λ es. ArePlaced def o below star [] es candidates level.places.items) (sym entries)
          (subst (ArePlaced def o below star [] (record { own = own; shared = true } ∷ []) candidates) (sym places) (placed_first own candidates reach within));
    };
  }

-- the level below the frames that are left, whatever is tried there
abbrev pub AreClimbing : Definition → List Frame → Name → List Name → SummaryParts → List Frame → Level → Type 0
AreClimbing def around star candidates own left level = (o : ℕ) (below : List SummaryParts) (kind : Kind) → AreApart below star candidates → CanClimb def around kind
    → IsUsual def kind own → Reaches def o below star [] own → IsWithin def o below star [] → IsClimbing def around o below star candidates left level

-- ---- ticks

pub times_next : (m n : ℕ) → m * (n + 1) ≡ m + m * n
times_next m n = omega arith

pub times_same : (m a b : ℕ) → a ≡ b → m * a ≡ m * b
times_same m a b e = ap (λ x. m * x) e
