-- The evaluations of a climb, one by one: what frames say of them, and which of their steps pass the limit.
use Rattle.std.proofs.Common.{◌≡◌, ◌↔◌, inl, inr, ℕ, zero, suc, Bool, List, [], ◌∷◌, ◌++◌, map, length, slice_get, Some, refl, ap, ap₂, sym, subst, append_assoc, IsTrue}
use Rattle.std.proofs.lemmas.List.{append-nil}
use Rattle.std.specs.Prelude.{Ok, Err}
use Rattle.psg_terms.specs.Names.{Name}
use Rattle.psg_grammar.specs.declared.types.Operator.{Operator}
use Rattle.psg_grammar.specs.declared.types.Definition.{Definition}
use Rattle.psg_grammar.specs.Fragments.{Fragment, hole, ending, cell, operator, with_child, with_name, with_number, with_text, anything, observed, children_of, top_operator}
use Rattle.psg_grammar.specs.Insertion.{Leaf, fresh_operator, with_operator}
use Rattle.psg_grammar.specs.Open.{IsOpen}
use Rattle.psg_grammar.specs.Paths.{Path}
use Rattle.psg_grammar.specs.Steps.{own_steps, steps_above, steps_at, AreWithin}
use Rattle.psg_eval.specs.declared.frame.Frame.{Frame}
use Rattle.psg_eval.specs.declared.frame.Frame.TheVariants as frames
use Rattle.psg_eval.specs.declared.question.FocusFault.TheVariants as questions
use Rattle.psg_eval.specs.declared.summary.SummaryParts.{SummaryParts}
use Rattle.psg_eval.specs.Frames.{IsElement, IsFrame, StandFor}
use Rattle.psg_eval.specs.Summaries.{IsSummaryOf, StaysWithin, slot_kinds}
use Rattle.psg_eval.proofs.FirstWide.{own_within, within-append, within-none}
use Rattle.psg_eval.proofs.FrameLaws.{stands-node}
use Rattle.psg_menu.specs.Sharing.{Rise, of_node, of_first, of_before, rises_in, rises_of, IsCell, IsNamed, IsRise, IsWithin, IsWithinAt, Leads}
use Rattle.psg_menu.specs.Trials.{AreBlanks, AreNamedLeaves, IsTried}
use Rattle.psg_menu.proofs.FrameWide.{frame_up}
use Rattle.psg_menu.proofs.NewTrees.{new_children, new_node, new_own, new_wide}
use Rattle.psg_menu.proofs.TrialPlaces.{climb_last, placed}
use Rattle.psg_menu.proofs.WideTrees.{OwnPasses, WideTree, node_wide, wide_from, wide_to}

module _ (def : Definition) where
  -- ---- lists of evaluations

  leads_append : (xs ys : List Rise) (f u t : Fragment) → Leads def xs f u → Leads def ys u t → Leads def (xs ++ ys) f t
  leads_append [] ys f u t e lead = subst (λ x. Leads def ys x t) (sym e) lead
  leads_append (x ∷ xs) ys f u t (v, is, up) lead = (v, is, leads_append xs ys v u t up lead)

  leads_split : (xs ys : List Rise) (f t : Fragment) → Leads def (xs ++ ys) f t → (u : Fragment) × Leads def xs f u × Leads def ys u t
  leads_split [] ys f t lead = (f, refl, lead)
  leads_split (x ∷ xs) ys f t (v, is, up) = let (u, a, b) = leads_split xs ys v t up in (u, (v, is, a), b)

  element_cell : (l : ℕ) (before : List SummaryParts) (rest : SummaryParts) (u t : Fragment) → IsElement def l before rest u t → IsCell u
  element_cell l [] rest (cell m e r) t h = tt
  element_cell l (s ∷ before) rest (cell m e r) t h = tt
  element_cell l [] rest (hole q) t h = absurd h
  element_cell l [] rest (ending m u) t h = absurd h
  element_cell l [] rest (operator o) t h = absurd h
  element_cell l [] rest (with_child f c) t h = absurd h
  element_cell l [] rest (with_name f n) t h = absurd h
  element_cell l [] rest (with_number f n) t h = absurd h
  element_cell l [] rest (with_text f n) t h = absurd h
  element_cell l [] rest anything t h = absurd h
  element_cell l [] rest (observed f) t h = absurd h
  element_cell l (s ∷ before) rest (hole q) t h = absurd h
  element_cell l (s ∷ before) rest (ending m u) t h = absurd h
  element_cell l (s ∷ before) rest (operator o) t h = absurd h
  element_cell l (s ∷ before) rest (with_child f c) t h = absurd h
  element_cell l (s ∷ before) rest (with_name f n) t h = absurd h
  element_cell l (s ∷ before) rest (with_number f n) t h = absurd h
  element_cell l (s ∷ before) rest (with_text f n) t h = absurd h
  element_cell l (s ∷ before) rest anything t h = absurd h
  element_cell l (s ∷ before) rest (observed f) t h = absurd h

  abbrev pub list_rises : ℕ → List SummaryParts → SummaryParts → List Rise
  list_rises l before rest = map (of_before l) before ++ of_first l rest ∷ []

  first_is : (l m : ℕ) (rest : SummaryParts) (e r t : Fragment) → m ≡ l → e ≡ t → IsSummaryOf def r rest → IsRise def (of_first l rest) (cell m e r) t
  first_is l m rest e r t a b c = (r, ap₂ (λ x y. cell x y r) a b, c)

  before_is : (l m : ℕ) (before : List SummaryParts) (s rest : SummaryParts) (e r t : Fragment) → m ≡ l → IsSummaryOf def e s → IsElement def l before rest r t
      → IsRise def (of_before l s) (cell m e r) r
  before_is l m before s rest e r t a b c = (e, ap (λ x. cell x e r) a, b, element_cell l before rest r t c)

  element_leads : (l : ℕ) (before : List SummaryParts) (rest : SummaryParts) (u t : Fragment) → IsElement def l before rest u t → Leads def (list_rises l before rest) u t
  element_leads l [] rest (cell m e r) t (a, b, c) = (t, first_is l m rest e r t a b c, refl)
  element_leads l (s ∷ before) rest (cell m e r) t (a, b, c) = (r, before_is l m before s rest e r t a b c, element_leads l before rest r t c)
  element_leads l [] rest (hole q) t h = absurd h
  element_leads l [] rest (ending m u) t h = absurd h
  element_leads l [] rest (operator o) t h = absurd h
  element_leads l [] rest (with_child f c) t h = absurd h
  element_leads l [] rest (with_name f n) t h = absurd h
  element_leads l [] rest (with_number f n) t h = absurd h
  element_leads l [] rest (with_text f n) t h = absurd h
  element_leads l [] rest anything t h = absurd h
  element_leads l [] rest (observed f) t h = absurd h
  element_leads l (s ∷ before) rest (hole q) t h = absurd h
  element_leads l (s ∷ before) rest (ending m u) t h = absurd h
  element_leads l (s ∷ before) rest (operator o) t h = absurd h
  element_leads l (s ∷ before) rest (with_child f c) t h = absurd h
  element_leads l (s ∷ before) rest (with_name f n) t h = absurd h
  element_leads l (s ∷ before) rest (with_number f n) t h = absurd h
  element_leads l (s ∷ before) rest (with_text f n) t h = absurd h
  element_leads l (s ∷ before) rest anything t h = absurd h
  element_leads l (s ∷ before) rest (observed f) t h = absurd h

  frame_leads : (frame : Frame) (k : ℕ) (u t : Fragment) → IsFrame def frame k u t → Leads def (rises_in frame) u t
  frame_leads (frames.Op op names children hot) k u t (node, same, at, but) =
      (t, (node, subst (λ i. slice_get (children_of u) i ≡ Some t) same at, subst (λ i. Rattle.psg_eval.specs.Frames.AllSummariesBut def i (children_of u) children) same but), refl)
  frame_leads (frames.Elem list before rest) k u t (same, at) = element_leads list before rest u t at

  -- the evaluations lead from the place of the frames to the whole
  pub stand_leads : (around : List Frame) (path : Path) (f t : Fragment) → StandFor def around path f t → Leads def (rises_of around) f t
  stand_leads [] path f t (p, e) = e
  stand_leads (frame ∷ more) path f t (above, k, u, p, at, up) =
      leads_append (rises_of more) (rises_in frame) f u t (stand_leads more above f u up) (frame_leads frame k u t at)

  -- ---- wide trees

  cell_rest : (l : ℕ) (e v : Fragment) → IsCell v → WideTree def v → WideTree def (cell l e v)
  cell_rest l e (cell m d r) h (inl a) = inr (inl (inl a))
  cell_rest l e (cell m d r) h (inr (inl b)) = inr (inl (inr b))
  cell_rest l e (cell m d r) h (inr (inr c)) = inr (inr (inl c))
  cell_rest l e (hole q) h w = absurd h
  cell_rest l e (ending m u) h w = absurd h
  cell_rest l e (operator o) h w = absurd h
  cell_rest l e (with_child f c) h w = absurd h
  cell_rest l e (with_name f n) h w = absurd h
  cell_rest l e (with_number f n) h w = absurd h
  cell_rest l e (with_text f n) h w = absurd h
  cell_rest l e anything h w = absurd h
  cell_rest l e (observed f) h w = absurd h

  rise_wide : (rise : Rise) (u v : Fragment) → IsRise def rise u v → WideTree def v → WideTree def u
  rise_wide (of_node op names children hot) u v (node, at, but) w = frame_up def (frames.Op op names children hot) hot u v (node, refl, at, but) w
  rise_wide (of_first list rest) u v (r, same, is) w = subst (WideTree def) (sym same) (inl w)
  rise_wide (of_before list element) u v (e, same, is, whole) w = subst (WideTree def) (sym same) (cell_rest list e v whole w)

  leads_wide : (xs : List Rise) (f u : Fragment) → Leads def xs f u → WideTree def u → WideTree def f
  leads_wide [] f u e w = subst (WideTree def) (sym e) w
  leads_wide (x ∷ xs) f u (v, is, lead) w = rise_wide x f v is (leads_wide xs v u lead w)

  rise_own : (rise : Rise) (u v : Fragment) → IsRise def rise u v → OwnPasses def u → WideTree def u
  rise_own (of_node op names children hot) u v (node, at, but) p = node_wide def u [] node.parts (inr p)
  rise_own (of_first list rest) u v (r, same, is) p = subst (WideTree def) (sym same) (inr (inr (inr (subst (OwnPasses def) same p))))
  rise_own (of_before list element) u v (e, same, is, whole) p = subst (WideTree def) (sym same) (inr (inr (inr (subst (OwnPasses def) same p))))

  -- ---- steps within the limit

  pub node_steps : (path : Path) (k op : ℕ) (u : Fragment) → top_operator u ≡ Some op → steps_at def path k u ≡ own_steps def path u
  node_steps path zero op (operator o) e = refl
  node_steps path zero op (with_child f t) e = refl
  node_steps path zero op (with_name f n) e = refl
  node_steps path zero op (with_number f n) e = refl
  node_steps path zero op (with_text f n) e = refl
  node_steps path zero op (observed f) e = refl
  node_steps path zero op (hole q) e = absurd (cc)
  node_steps path zero op (ending l u) e = absurd (cc)
  node_steps path zero op (cell l h r) e = absurd (cc)
  node_steps path zero op anything e = absurd (cc)
  node_steps path (suc k) op (operator o) e = refl
  node_steps path (suc k) op (with_child f t) e = refl
  node_steps path (suc k) op (with_name f n) e = refl
  node_steps path (suc k) op (with_number f n) e = refl
  node_steps path (suc k) op (with_text f n) e = refl
  node_steps path (suc k) op (observed f) e = refl
  node_steps path (suc k) op (hole q) e = absurd (cc)
  node_steps path (suc k) op (ending l u) e = absurd (cc)
  node_steps path (suc k) op (cell l h r) e = absurd (cc)
  node_steps path (suc k) op anything e = absurd (cc)

  module _ (o : ℕ) (below : List SummaryParts) (n : Name) where
    within_rest : (xs ys : List Rise) → IsWithin def o below n (xs ++ ys) → IsWithin def o below n ys
    within_rest [] ys h = h
    within_rest (x ∷ xs) ys (one, h) = within_rest xs ys h

    within_base : (xs : List Rise) → IsWithin def o below n xs → IsWithinAt def o below n []
    within_base [] h = h
    within_base (x ∷ xs) (one, h) = within_base xs h

    module _ (x : Fragment) (named : IsNamed def o below n x) where
      elements_within : (path : Path) (l : ℕ) (before : List SummaryParts) (rest : SummaryParts) (u t : Fragment) (done : List Rise) → IsElement def l before rest u t → Leads def done t x
          → IsWithin def o below n (list_rises l before rest ++ done) → AreWithin def (steps_at def path (length before) u)
      elements_within path l [] rest (cell m e r) t done (a, b, c) lead (one, h) =
          own_within def path (cell m e r) (one (cell m e r) x (t, first_is l m rest e r t a b c, lead) named)
      elements_within path l (s ∷ before) rest (cell m e r) t done (a, b, c) lead (one, h) =
          within-append def (steps_at def path (length before) r) (own_steps def path (cell m e r))
          (elements_within path l before rest r t done c lead h)
          (own_within def path (cell m e r)
          (one (cell m e r) x (r, before_is l m before s rest e r t a b c, leads_append (list_rises l before rest) done r t x (element_leads l before rest r t c) lead) named))
      elements_within path l [] rest (hole q) t done h lead w = absurd h
      elements_within path l [] rest (ending m u) t done h lead w = absurd h
      elements_within path l [] rest (operator o) t done h lead w = absurd h
      elements_within path l [] rest (with_child f c) t done h lead w = absurd h
      elements_within path l [] rest (with_name f m) t done h lead w = absurd h
      elements_within path l [] rest (with_number f m) t done h lead w = absurd h
      elements_within path l [] rest (with_text f m) t done h lead w = absurd h
      elements_within path l [] rest anything t done h lead w = absurd h
      elements_within path l [] rest (observed f) t done h lead w = absurd h
      elements_within path l (s ∷ before) rest (hole q) t done h lead w = absurd h
      elements_within path l (s ∷ before) rest (ending m u) t done h lead w = absurd h
      elements_within path l (s ∷ before) rest (operator o) t done h lead w = absurd h
      elements_within path l (s ∷ before) rest (with_child f c) t done h lead w = absurd h
      elements_within path l (s ∷ before) rest (with_name f m) t done h lead w = absurd h
      elements_within path l (s ∷ before) rest (with_number f m) t done h lead w = absurd h
      elements_within path l (s ∷ before) rest (with_text f m) t done h lead w = absurd h
      elements_within path l (s ∷ before) rest anything t done h lead w = absurd h
      elements_within path l (s ∷ before) rest (observed f) t done h lead w = absurd h

      frame_within : (path : Path) (frame : Frame) (k : ℕ) (u t : Fragment) (done : List Rise) → IsFrame def frame k u t → Leads def done t x
          → IsWithin def o below n (rises_in frame ++ done) → AreWithin def (steps_at def path k u)
      frame_within path (frames.Op op names children hot) k u t done at lead (one, h) =
          let (v, is, same) = frame_leads (frames.Op op names children hot) k u t at in
          subst (AreWithin def) (sym (node_steps path k op u at.0.top))
          (own_within def path u (one u x (v, is, subst (λ y. Leads def done y x) (sym same) lead) named))
      frame_within path (frames.Elem list before rest) k u t done (same, at) lead h =
          subst (λ i. AreWithin def (steps_at def path i u)) (sym same) (elements_within path list before rest u t done at lead h)

      pub climb_within : (around : List Frame) (done : List Rise) (path : Path) (f t : Fragment) → StandFor def around path f t → Leads def done t x
          → IsWithin def o below n (rises_of around ++ done) → AreWithin def (steps_above def [] path f)
      climb_within [] done path f t (p, e) lead h = subst (λ q. AreWithin def (steps_above def [] q f)) (sym p) (within-none def)
      climb_within (frame ∷ more) done path f t (above, k, u, p, at, up) lead h =
          let all = subst (IsWithin def o below n) (append_assoc (rises_of more) (rises_in frame) done) h in
          let rest = within_rest (rises_of more) (rises_in frame ++ done) all in
          let here = leads_append (rises_in frame) done u t x (frame_leads frame k u t at) lead in
          subst (λ q. AreWithin def (steps_above def [] q f)) (sym p)
          (subst (AreWithin def) (sym (climb_last def [] k above f u (stands-node def more above f u up)))
          (within-append def (steps_at def above k u) (steps_above def [] above f) (frame_within above frame k u t done at lead rest)
          (climb_within more (rises_in frame ++ done) above f u up here all)))

  -- ---- a trial

  module _ (around : List Frame) (o : ℕ) (op : Operator) (found : slice_get def.operators o ≡ Some op) (n : Name) (below : List SummaryParts) (blanks : AreBlanks def (slot_kinds def op.items) below) where
    -- a step of the node to which these evaluations lead passes the limit
    abbrev pub FailsAfter : List Rise → Type 0
    FailsAfter done = (u t : Fragment) → Leads def done u t → IsNamed def o below n t → OwnPasses def u

    named_fresh : (leaves : List Leaf) → AreNamedLeaves def o (n ∷ []) leaves → IsNamed def o below n (fresh_operator def o leaves)
    named_fresh leaves named = record { node = new_node def o op found (n ∷ []) leaves named; children = new_children def o op found (n ∷ []) leaves named below blanks }

    pub tried_fails : (front done : List Rise) → rises_of around ≡ front ++ done → FailsAfter done → IsTried def around o (n ∷ []) (Err questions.Wide)
    tried_fails front done split fails f path k stand leaves named =
        let x = fresh_operator def o leaves in
        let new = with_operator def f path k o leaves in
        let at = placed def o leaves around f path k stand in
        let (u, up, lead) = leads_split front done new x (subst (λ xs. Leads def xs new x) split (stand_leads around at.path new x at.stand)) in
        wide_to def new (leads_wide front new u up (own_wide_at done u x lead (fails u x lead (named_fresh leaves named)) (λ p. new_wide def o op found (n ∷ []) leaves named p))) where
          own_wide_at : (done : List Rise) (u x : Fragment) → Leads def done u x → OwnPasses def u → (OwnPasses def x → WideTree def x) → WideTree def u
          own_wide_at [] u x e p w = subst (WideTree def) (sym e) (w (subst (OwnPasses def) e p))
          own_wide_at (rise ∷ done) u x (v, is, lead) p w = rise_own rise u v is p

    pub tried_stands : (good : Bool) → ((u t : Fragment) → Leads def (rises_of around) u t → IsNamed def o below n t → IsTrue good ↔ IsOpen def u) → IsWithin def o below n (rises_of around)
        → IsTried def around o (n ∷ []) (Ok good)
    tried_stands good tells within f path k stand leaves named =
        let x = fresh_operator def o leaves in
        let new = with_operator def f path k o leaves in
        let at = placed def o leaves around f path k stand in
        let is = named_fresh leaves named in
        let stays : StaysWithin def x = within_base o below n (rises_of around) within x x refl is in
        let climb = climb_within o below n x is around [] at.path new x at.stand refl (subst (IsWithin def o below n) (sym (append-nil (rises_of around))) within) in (
          tells new x (stand_leads around at.path new x at.stand) is,
          (λ narrow wide. elim (at.split (wide_from def new wide)) [
            | inl a ↦ let (m, l, p) = new_own def o op found (n ∷ []) leaves named below blanks a in stays m l p
            | inr a ↦ elim a [
              | inl b ↦ climb b.0 b.1 b.2
              | inr b ↦ narrow (wide_to def f b)
            ]
          ]),
        )
