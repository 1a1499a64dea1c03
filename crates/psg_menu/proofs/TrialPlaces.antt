-- A fragment with another tree at a place: its frames, and which step passes the limit.
use Rattle.std.proofs.Common.{◌≡◌, ◌⊎◌, inl, inr, ℕ, List, [], ◌∷◌, ◌++◌, length, Option, Some, None, slice_get, option_and_then, refl, ap, ap₂, sym, ◌∙◌, subst, append_assoc}
use Rattle.std.proofs.lemmas.List.{append-nil}
use Rattle.std.proofs.lemmas.Option.{same_Some}
use Rattle.psg_terms.specs.Relations.{IsIn}
use Rattle.psg_grammar.specs.declared.types.Kind.TheVariants as kinds
use Rattle.psg_grammar.specs.declared.types.Definition.{Definition}
use Rattle.psg_grammar.specs.Fragments.{Fragment, hole, ending, cell, operator, with_child, with_name, with_number, with_text, anything, observed, children_of}
use Rattle.psg_grammar.specs.Insertion.{Leaf, fresh_operator, with_operator}
use Rattle.psg_grammar.specs.Paths.{Path, node_at, change_at, change_child, inserted, IsList}
use Rattle.psg_grammar.specs.Steps.{Place, own_steps, steps_of_some, steps_above, steps_at}
use Rattle.psg_eval.specs.declared.frame.Frame.{Frame}
use Rattle.psg_eval.specs.declared.frame.Frame.TheVariants as frames
use Rattle.psg_eval.specs.declared.summary.SummaryParts.{SummaryParts}
use Rattle.psg_eval.specs.Frames.{IsElement, IsFrame, IsGap, StandAt, StandFor}
use Rattle.psg_eval.specs.Summaries.{IsSummaryOf}
use Rattle.psg_eval.proofs.FrameLaws.{stands-node}
use Rattle.psg_eval.proofs.Places.{stands-changed}
use Rattle.psg_menu.proofs.WideTrees.{Passing, passing_either, passing_left, passing_right, own_to, ListPasses, WideTree, WideBelow}
use Rattle.psg_menu.proofs.FrameWide.{frame_climb, frame_split, frame_up}

-- ---- paths

step_to : (P : Fragment → Option Fragment) (o : Option Fragment) (x : Fragment) → option_and_then P o ≡ Some x → (t : Fragment) × (o ≡ Some t) × (P t ≡ Some x)
step_to P None x e = absurd (cc)
step_to P (Some t) x e = (t, refl, e)

none_of_some : (o : Option Fragment) → steps_of_some (λ t. []) o ≡ []
none_of_some None = refl
none_of_some (Some t) = refl

module _ (g : Fragment → Fragment) where
  -- a change below a node is one of the node
  change_below : (k : ℕ) (above : Path)
      → ◌≡◌ {A = Fragment → Fragment} (λ f. change_at g (above ++ k ∷ []) f) (λ f. change_at (change_child g k) above f)
  change_below k [] = refl
  change_below k (a ∷ above) =
      let up : (Fragment → Fragment) → Fragment → Fragment = λ h f. change_child h a f in
      ap up (change_below k above)

  pub change_here : (k : ℕ) (above : Path) (f : Fragment) → change_at g (above ++ k ∷ []) f ≡ change_at (change_child g k) above f
  change_here k above f =
      let here : (Fragment → Fragment) → Fragment = λ h. h f in
      ap here (change_below k above)

module _ (def : Definition) where
  -- the steps of a climb end with those of the nodes above a node on the path
  pub climb_last : (base : Path) (k : ℕ) (above : Path) (f w : Fragment) → node_at f above ≡ Some w
      → steps_above def base (above ++ k ∷ []) f ≡ steps_at def (base ++ above) k w ++ steps_above def base above f
  climb_last base k [] f w e =
      ap (λ x. x ++ steps_at def base k f) (none_of_some (slice_get (children_of f) k))
      ∙ ap₂ (λ p x. steps_at def p k x) (sym (append-nil base)) (same_Some f w e)
      ∙ sym (append-nil (steps_at def (base ++ []) k w))
  climb_last base k (a ∷ above) f w e =
      let (c, at, below) = step_to (λ n. node_at n above) (slice_get (children_of f) a) w e in
      let down = base ++ a ∷ [] in
      let into : steps_of_some (λ t. steps_above def down above t) (slice_get (children_of f) a) ≡ steps_above def down above c = ap (steps_of_some (λ t. steps_above def down above t)) at in
      ap (λ x. x ++ steps_at def base a f) (ap (steps_of_some (λ t. steps_above def down (above ++ k ∷ []) t)) at ∙ climb_last down k above c w below)
      ∙ append_assoc (steps_at def (down ++ above) k w) (steps_above def down above c) (steps_at def base a f)
      ∙ ap₂ (λ p x. steps_at def p k w ++ (x ++ steps_at def base a f)) (append_assoc base (a ∷ []) above) (sym into)

  -- ---- all frames

  -- a wide tree at the place makes the fragment wide
  pub place_up : (around : List Frame) (path : Path) (f t : Fragment) → StandFor def around path f t → WideTree def t → WideTree def f
  place_up [] path f t (p, e) w = subst (WideTree def) (sym e) w
  place_up (frame ∷ more) path f t (above, k, u, p, at, up) w = place_up more above f u up (frame_up def frame k u t at w)

  -- so does a step of a climb
  pub place_climb : (around : List Frame) (path : Path) (f t : Fragment) → StandFor def around path f t → Passing def (steps_above def [] path f) → WideTree def f
  place_climb [] path f t (p, e) (place, i, passes) =
      none place (subst (λ q. IsIn place (steps_above def [] q f)) p i) where
        none : (place : Place) → IsIn place [] → WideTree def f
        none place h = elim h [ ]
  place_climb (frame ∷ more) path f t (above, k, u, p, at, up) w =
      let v : Passing def (steps_above def [] (above ++ k ∷ []) f) = subst (λ q. Passing def (steps_above def [] q f)) p w in
      elim (passing_either def (steps_at def above k u) (steps_above def [] above f)
      (subst (Passing def) (climb_last [] k above f u (stands-node def more above f u up)) v)) [
        | inl x ↦ place_up more above f u up (frame_climb def above frame k u t at x)
        | inr y ↦ place_climb more above f u up y
      ]

  -- after a change at the place a step of the tree there passes, or one of the climb, or one that was there before
  pub place_split : (g : Fragment → Fragment) (around : List Frame) (path : Path) (f t : Fragment) → StandFor def around path f t → WideTree def (change_at g path f)
      → WideTree def (g t) ⊎ (Passing def (steps_above def [] path (change_at g path f)) ⊎ WideTree def f)
  place_split g [] path f t (p, e) w =
      let d : change_at g path f ≡ g t = ap (λ q. change_at g q f) p ∙ ap g e in
      inl (subst (WideTree def) d w)
  place_split g (frame ∷ more) path f t (above, k, u, p, at, up) w =
      let e : change_at g path f ≡ change_at (change_child g k) above f = ap (λ q. change_at g q f) p ∙ change_here g k above f in
      let new : Fragment = change_at (change_child g k) above f in
      let stand = stands-changed def (change_child g k) more above f u up in
      let last : steps_above def [] path (change_at g path f) ≡ steps_at def above k (change_child g k u) ++ steps_above def [] above new =
      ap₂ (λ q x. steps_above def [] q x) p e ∙ climb_last [] k above new (change_child g k u) (stands-node def more above new (change_child g k u) stand) in
      elim (place_split (change_child g k) more above f u up (subst (WideTree def) e w)) [
        | inl x ↦ elim (frame_split def above g frame k u t at x) [
          | inl a ↦ inl a
          | inr b ↦ elim b [
            | inl c ↦ inr (inl (subst (Passing def) (sym last)
                (passing_left def (steps_at def above k (change_child g k u)) (steps_above def [] above new) c)))
            | inr c ↦ inr (inr (place_up more above f u up c))
          ]
        ]
        | inr y ↦ elim y [
          | inl c ↦ inr (inl (subst (Passing def) (sym last)
              (passing_right def (steps_at def above k (change_child g k u)) (steps_above def [] above new) c)))
          | inr c ↦ inr (inr c)
        ]
      ]

  -- ---- a new element

  gap_base : (l : ℕ) (rest : SummaryParts) (x u : Fragment) → IsList u → rest.kind ≡ kinds.List l → IsSummaryOf def u rest → IsElement def l [] rest (inserted 0 x u) x
  gap_base l rest x (ending m w) is same of =
      let e : kinds.List l ≡ kinds.List m = sym same ∙ of.kind in
      let d : m ≡ l = cc in
      (d, refl, of)
  gap_base l rest x (cell m e r) is same of =
      let q : kinds.List l ≡ kinds.List m = sym same ∙ of.kind in
      let d : m ≡ l = cc in
      (d, refl, of)
  gap_base l rest x (hole p) is same of = absurd is
  gap_base l rest x (operator o) is same of = absurd is
  gap_base l rest x (with_child f t) is same of = absurd is
  gap_base l rest x (with_name f n) is same of = absurd is
  gap_base l rest x (with_number f n) is same of = absurd is
  gap_base l rest x (with_text f n) is same of = absurd is
  gap_base l rest x anything is same of = absurd is
  gap_base l rest x (observed f) is same of = absurd is

  -- the new element stands in its frame
  gap_element : (l : ℕ) (before : List SummaryParts) (rest : SummaryParts) (x u : Fragment) → IsGap def l before rest u → IsElement def l before rest (inserted (length before) x u) x
  gap_element l [] rest x u (is, same, of) = gap_base l rest x u is same of
  gap_element l (s ∷ before) rest x (cell m e r) (a, b, c) = (a, b, gap_element l before rest x r c)
  gap_element l (s ∷ before) rest x (hole p) h = absurd h
  gap_element l (s ∷ before) rest x (ending m u) h = absurd h
  gap_element l (s ∷ before) rest x (operator o) h = absurd h
  gap_element l (s ∷ before) rest x (with_child f c) h = absurd h
  gap_element l (s ∷ before) rest x (with_name f n) h = absurd h
  gap_element l (s ∷ before) rest x (with_number f n) h = absurd h
  gap_element l (s ∷ before) rest x (with_text f n) h = absurd h
  gap_element l (s ∷ before) rest x anything h = absurd h
  gap_element l (s ∷ before) rest x (observed f) h = absurd h

  -- a step of the element passes, or one of the climb, or one that was there before
  abbrev GapSplit : Path → Fragment → ℕ → Fragment → Type 0
  GapSplit path x k u = WideTree def (inserted k x u) → WideTree def x ⊎ (Passing def (steps_at def path k (inserted k x u)) ⊎ WideTree def u)

  -- what passes below the list with one more element, and in its cells
  record Splits (path : Path) (x : Fragment) (k : ℕ) (u : Fragment) : Type 0 where
    below : WideBelow def (inserted k x u) → WideTree def x ⊎ WideBelow def u
    list : ListPasses def (inserted k x u) → Passing def (steps_at def path k (inserted k x u)) ⊎ ListPasses def u
    whole : WideTree def (inserted k x u) → WideBelow def (inserted k x u) ⊎ ListPasses def (inserted k x u)
    back_below : WideBelow def u → WideTree def u
    back_list : ListPasses def u → WideTree def u

  splits_base : (path : Path) (x u : Fragment) → IsList u → Splits path x 0 u
  splits_base path x (ending m w) is = record {
    below = λ h. elim h [ inl a ↦ inl a | inr b ↦ inr b ];
    list = λ h. elim h [ inl a ↦ inr a | inr b ↦ inl (own_to def path (cell m x (ending m w)) b) ];
    whole = λ h. elim h [ inl a ↦ inl (inl a) | inr b ↦ elim b [ inl c ↦ inl (inr c) | inr c ↦ inr c ] ];
    back_below = λ h. absurd h;
    back_list = λ h. h;
  }
  splits_base path x (cell m e r) is = record {
    below = λ h. elim h [ inl a ↦ inl a | inr b ↦ inr b ];
    list = λ h. elim h [ inl a ↦ inr a | inr b ↦ inl (own_to def path (cell m x (cell m e r)) b) ];
    whole = λ h. elim h [ inl a ↦ inl (inl a) | inr b ↦ elim b [ inl c ↦ inl (inr c) | inr c ↦ inr c ] ];
    back_below = λ h. elim h [ inl a ↦ inl a | inr b ↦ inr (inl b) ];
    back_list = λ h. inr (inr h);
  }
  splits_base path x (hole p) is = absurd is
  splits_base path x (operator o) is = absurd is
  splits_base path x (with_child f t) is = absurd is
  splits_base path x (with_name f n) is = absurd is
  splits_base path x (with_number f n) is = absurd is
  splits_base path x (with_text f n) is = absurd is
  splits_base path x anything is = absurd is
  splits_base path x (observed f) is = absurd is

  splits : (path : Path) (x : Fragment) (l : ℕ) (before : List SummaryParts) (rest : SummaryParts) (u : Fragment) → IsGap def l before rest u → Splits path x (length before) u
  splits path x l [] rest u (is, same, of) = splits_base path x u is
  splits path x l (s ∷ before) rest (cell m e r) (a, b, c) =
      let inner = splits path x l before rest r c in
      let k = length before in
      record {
        below = λ h. elim h [ inl y ↦ inr (inl y) | inr z ↦ elim (inner.below z) [ inl y ↦ inl y | inr y ↦ inr (inr y) ] ];
        list = λ h. elim h [
          | inl y ↦ elim (inner.list y) [
            | inl z ↦ inl (passing_left def (steps_at def path k (inserted k x r)) (own_steps def path (cell m e (inserted k x r))) z)
            | inr z ↦ inr (inl z)
          ]
          | inr y ↦ inl (passing_right def (steps_at def path k (inserted k x r)) (own_steps def path (cell m e (inserted k x r)))
              (own_to def path (cell m e (inserted k x r)) y))
        ];
        whole = λ h. elim h [ inl y ↦ inl (inl y) | inr z ↦ elim z [ inl y ↦ inl (inr y) | inr y ↦ inr y ] ];
        back_below = λ h. elim h [ inl y ↦ inl y | inr z ↦ inr (inl z) ];
        back_list = λ h. inr (inr h);
      }
  splits path x l (s ∷ before) rest (hole p) h = absurd h
  splits path x l (s ∷ before) rest (ending m u) h = absurd h
  splits path x l (s ∷ before) rest (operator o) h = absurd h
  splits path x l (s ∷ before) rest (with_child f c) h = absurd h
  splits path x l (s ∷ before) rest (with_name f n) h = absurd h
  splits path x l (s ∷ before) rest (with_number f n) h = absurd h
  splits path x l (s ∷ before) rest (with_text f n) h = absurd h
  splits path x l (s ∷ before) rest anything h = absurd h
  splits path x l (s ∷ before) rest (observed f) h = absurd h

  gap_split : (path : Path) (x : Fragment) (l : ℕ) (before : List SummaryParts) (rest : SummaryParts) (u : Fragment) → IsGap def l before rest u → GapSplit path x (length before) u
  gap_split path x l before rest u gap w =
      let s = splits path x l before rest u gap in
      elim (s.whole w) [
        | inl a ↦ elim (s.below a) [ inl b ↦ inl b | inr b ↦ inr (inr (s.back_below b)) ]
        | inr a ↦ elim (s.list a) [ inl b ↦ inr (inl b) | inr b ↦ inr (inr (s.back_list b)) ]
      ]

  -- ---- the place of a trial

  -- the tree x is at a place of the new fragment, the frames are those around it, and so on
  pub record IsPlaced (around : List Frame) (f x new : Fragment) : Type 0 where
    pub path : Path
    pub stand : StandFor def around path new x
    pub split : WideTree def new → WideTree def x ⊎ (Passing def (steps_above def [] path new) ⊎ WideTree def f)
    pub inner : WideTree def x → WideTree def new
    pub above : Passing def (steps_above def [] path new) → WideTree def new

  module _ (o : ℕ) (leaves : List Leaf) where
    abbrev x : Fragment
    x = fresh_operator def o leaves

    placed_gap : (list : ℕ) (before : List SummaryParts) (rest : SummaryParts) (more : List Frame) (f : Fragment) (path : Path) (k : ℕ) (u : Fragment) → StandFor def more path f u → k ≡ length before
        → IsGap def list before rest u → IsPlaced (frames.Elem list before rest ∷ more) f x (change_at (inserted k x) path f)
    placed_gap list before rest more f path k u up same gap =
        let n = length before in
        let new : Fragment = change_at (inserted n x) path f in
        let v : Fragment = inserted n x u in
        let above_stand : StandFor def more path new v = stands-changed def (inserted n x) more path f u up in
        let frame : IsFrame def (frames.Elem list before rest) n v x = (refl, gap_element list before rest x u gap) in
        let stand : StandFor def (frames.Elem list before rest ∷ more) (path ++ n ∷ []) new x = (path, n, v, refl, frame, above_stand) in
        let last : steps_above def [] (path ++ n ∷ []) new ≡ steps_at def path n v ++ steps_above def [] path new =
        climb_last [] n path new v (stands-node def more path new v above_stand) in
        subst (λ m. IsPlaced (frames.Elem list before rest ∷ more) f x (change_at (inserted m x) path f)) (sym same) (record {
          path = path ++ n ∷ [];
          stand = stand;
          split = λ w. elim (place_split (inserted n x) more path f u up w) [
            | inl a ↦ elim (gap_split path x list before rest u gap a) [
              | inl b ↦ inl b
              | inr b ↦ elim b [
                | inl c ↦ inr (inl (subst (Passing def) (sym last) (passing_left def (steps_at def path n v) (steps_above def [] path new) c)))
                | inr c ↦ inr (inr (place_up more path f u up c))
              ]
            ]
            | inr a ↦ elim a [
              | inl c ↦ inr (inl (subst (Passing def) (sym last) (passing_right def (steps_at def path n v) (steps_above def [] path new) c)))
              | inr c ↦ inr (inr c)
            ]
          ];
          inner = λ w. place_up (frames.Elem list before rest ∷ more) (path ++ n ∷ []) new x stand w;
          above = λ w. place_climb (frames.Elem list before rest ∷ more) (path ++ n ∷ []) new x stand w;
        })

    pub placed : (around : List Frame) (f : Fragment) (path : Path) (k : Option ℕ) → StandAt def around path k f → IsPlaced around f x (with_operator def f path k o leaves)
    placed around f path None (t, up) =
        let new : Fragment = change_at (λ old. x) path f in
        let stand : StandFor def around path new x = stands-changed def (λ old. x) around path f t up in
        record {
          path = path;
          stand = stand;
          split = λ w. place_split (λ old. x) around path f t up w;
          inner = λ w. place_up around path new x stand w;
          above = λ w. place_climb around path new x stand w;
        }
    placed [] f path (Some k) h = absurd h
    placed (frames.Op op names children hot ∷ more) f path (Some k) h = absurd h
    placed (frames.Elem list before rest ∷ more) f path (Some k) (u, up, same, gap) = placed_gap list before rest more f path k u up same gap
