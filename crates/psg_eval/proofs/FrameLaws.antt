-- One frame of a climb, and the frames that are left.
use Rattle.std.proofs.Common.{◌≡◌, ◌⊎◌, inl, inr, ℕ, zero, suc, ◌+◌, ◌<◌, ◌≤◌, ◌||◌, ◌==◌, Bool, true, false, cond, List, [], ◌∷◌, ◌++◌, take, get_or, length, slice_get, Option, Some, None, option_and_then, refl, sym, ◌∙◌, ap, ap₂, subst, append_assoc, arith}
use Rattle.std.proofs.lemmas.List.{append-nil}
use Rattle.std.proofs.lemmas.Bool.Decides.{eqb_tells}
use Rattle.std.specs.Prelude.{Result, Ok, Err, sum_by}
use Rattle.std.proofs.lemmas.List.Sums.{sum_by-cons}
use Rattle.std.proofs.lemmas.Option.{same_Some}
use Rattle.psg_terms.proofs.Lists.{take_item}
use Rattle.std.specs.List.{AllByRecursion}
use Rattle.psg_terms.specs.Names.{Name}
use Rattle.psg_grammar.specs.declared.types.Kind.{Kind}
use Rattle.psg_grammar.specs.declared.types.Kind.TheVariants as kinds
use Rattle.psg_grammar.specs.declared.types.Operator.{Operator}
use Rattle.psg_grammar.specs.declared.types.Definition.{Definition}
use Rattle.psg_grammar.specs.Fragments.{Fragment, hole, ending, cell, operator, with_child, with_name, with_number, with_text, anything, observed, children_of, top_operator}
use Rattle.psg_grammar.specs.Paths.{Path, node_at}
use Rattle.psg_grammar.specs.Steps.{Place, own_steps, steps_of_some, steps_above, steps_at, AreWithin}
use Rattle.psg_eval.specs.declared.frame.Frame.{Frame}
use Rattle.psg_eval.specs.declared.frame.Frame.TheVariants as frames
use Rattle.psg_eval.specs.declared.summary.EvalFault.{EvalFault}
use Rattle.psg_eval.specs.declared.summary.EvalFault.TheVariants as faults
use Rattle.psg_eval.specs.declared.summary.SummaryParts.{SummaryParts}
use Rattle.psg_eval.specs.Climbing.{IsClimbed, IsReached}
use Rattle.psg_eval.specs.Frames.{AllSummariesBut, AreSilentBut, CanClimb, IsElement, IsFrame, IsSilent, StandFor, TakesInFrame, put_at, rungs, rungs_in}
use Rattle.psg_eval.specs.Summaries.{AllSummaries, Answers, AreSummariesOf, IsSummary, IsSummaryOf}
use Rattle.psg_eval.specs.Trees.{IsNode}
use Rattle.psg_eval.proofs.FirstWide.{within-none, within-append, own_reached, fault_among}

-- ---- another summary at a place

pub put_length : (k : ℕ) (s : SummaryParts) (xs : List SummaryParts) → length (put_at k s xs) ≡ length xs
put_length k s [] = refl
put_length zero s (o ∷ xs) = refl
put_length (suc k) s (o ∷ xs) = ap suc (put_length k s xs)

put_next : (k i : ℕ) (s x y : SummaryParts) (xs : List SummaryParts) → i < length xs → x ≡ get_or xs i x → ((i ≡ k) × (y ≡ s)) ⊎ ((i ≡ k → ⊥) × (y ≡ x))
    → take (suc i) (put_at k s xs) ≡ take i (put_at k s xs) ++ y ∷ []
put_next k i s x y [] l e d = absurd (omega (arith, l))
put_next zero zero s x y (o ∷ xs) l e (inl (same, is)) = ap (λ z. z ∷ []) (sym is)
put_next zero zero s x y (o ∷ xs) l e (inr (other, is)) = absurd (other refl)
put_next zero (suc i) s x y (o ∷ xs) l e (inl (same, is)) = absurd (omega (arith, same))
put_next zero (suc i) s x y (o ∷ xs) l e (inr (other, is)) =
    let n : suc i ≡ i + 1 = omega arith in
    ap (λ z. s ∷ z) (ap (λ m. take m xs) n ∙ take_item xs i x (omega (arith, l)) e ∙ ap (λ z. take i xs ++ z ∷ []) (sym is))
put_next (suc k) zero s x y (o ∷ xs) l e (inl (same, is)) = absurd (omega (arith, same))
put_next (suc k) zero s x y (o ∷ xs) l e (inr (other, is)) = ap (λ z. z ∷ []) (sym (is ∙ e))
put_next (suc k) (suc i) s x y (o ∷ xs) l e (inl (same, is)) =
    ap (λ z. o ∷ z) (put_next k i s x y xs (omega (arith, l)) e (inl (omega (arith, same), is)))
put_next (suc k) (suc i) s x y (o ∷ xs) l e (inr (other, is)) =
    ap (λ z. o ∷ z) (put_next k i s x y xs (omega (arith, l)) e (inr (λ q. other (ap suc q), is)))

-- one turn of the loop
pub put_more : (k i : ℕ) (s x y : SummaryParts) (xs made more : List SummaryParts) → i < length xs → x ≡ get_or xs i x → ((i == k) ≡ true → y ≡ s) → ((i == k) ≡ false → y ≡ x)
    → made ≡ take i (put_at k s xs) → more ≡ made ++ y ∷ [] → more ≡ take (i + 1) (put_at k s xs)
put_more k i s x y xs made more l e here other before grown =
    let n : suc i ≡ i + 1 = omega arith in
    grown ∙ ap (λ z. z ++ y ∷ []) before ∙ sym (put_next k i s x y xs l e (elim (eqb_tells i k) [ inl q ↦ inl (q.1, here q.0) | inr q ↦ inr (q.1, other q.0) ]))
    ∙ ap (λ m. take m (put_at k s xs)) n

pub put_whole : (k : ℕ) (s : SummaryParts) (xs made : List SummaryParts) (i : ℕ) → i ≡ length xs → made ≡ take i (put_at k s xs) → made ≡ put_at k s xs
put_whole k s xs made i e h = h ∙ all (put_at k s xs) i (e ∙ sym (put_length k s xs)) where
  all : (ys : List SummaryParts) (i : ℕ) → i ≡ length ys → take i ys ≡ ys
  all [] zero e = refl
  all [] (suc i) e = absurd (omega (arith, e))
  all (y ∷ ys) zero e = absurd (omega (arith, e))
  all (y ∷ ys) (suc i) e = ap (λ z. y ∷ z) (all ys i (omega (arith, e)))

none_seen : (ss : List SummaryParts) → AllByRecursion IsSilent ss → sum_by (λ (c : SummaryParts). c.seen) ss ≡ 0
none_seen [] h = refl
none_seen (s ∷ ss) (one, all) = sum_by-cons (λ (c : SummaryParts). c.seen) s ss ∙ ap₂ (λ m n. m + n) one (none_seen ss all)

-- where the others are silent, what is seen is seen in the one put there
pub put_seen : (k : ℕ) (s : SummaryParts) (ss : List SummaryParts) → k < length ss → AreSilentBut k ss → sum_by (λ (c : SummaryParts). c.seen) (put_at k s ss) ≡ s.seen
put_seen k s [] l h = absurd (omega (arith, l))
put_seen zero s (o ∷ ss) l h =
    let e : s.seen + 0 ≡ s.seen = omega arith in
    sum_by-cons (λ (c : SummaryParts). c.seen) s ss ∙ ap (λ n. s.seen + n) (none_seen ss h) ∙ e
put_seen (suc k) s (o ∷ ss) l (one, h) =
    let e : 0 + s.seen ≡ s.seen = omega arith in
    sum_by-cons (λ (c : SummaryParts). c.seen) o (put_at k s ss) ∙ ap₂ (λ m n. m + n) one (put_seen k s ss (omega (arith, l)) h) ∙ e

-- ---- paths

step_to : (P : Fragment → Option Fragment) (o : Option Fragment) (x : Fragment) → option_and_then P o ≡ Some x → (t : Fragment) × (o ≡ Some t) × (P t ≡ Some x)
step_to P None x e = absurd (cc)
step_to P (Some t) x e = (t, refl, e)

node_below : (k : ℕ) (t : Fragment) (above : Path) (f u : Fragment) → node_at f above ≡ Some u → slice_get (children_of u) k ≡ Some t → node_at f (above ++ k ∷ []) ≡ Some t
node_below k t [] f u e s = ap (option_and_then (λ n. node_at n [])) (ap (λ n. slice_get (children_of n) k) (same_Some f u e) ∙ s)
node_below k t (a ∷ above) f u e s =
    let (c, at, below) = step_to (λ n. node_at n above) (slice_get (children_of f) a) u e in
    ap (option_and_then (λ n. node_at n (above ++ k ∷ []))) at ∙ node_below k t above c u below s

module _ (def : Definition) where
  none_of_some : (o : Option Fragment) → steps_of_some (λ t. []) o ≡ []
  none_of_some None = refl
  none_of_some (Some t) = refl

  -- the steps of a climb end with those of the nodes above a node on the path
  climb_last : (base : Path) (k : ℕ) (above : Path) (f w : Fragment) → node_at f above ≡ Some w
      → steps_above def base (above ++ k ∷ []) f ≡ steps_at def (base ++ above) k w ++ steps_above def base above f
  climb_last base k [] f w e =
      ap (λ x. x ++ steps_at def base k f) (none_of_some (slice_get (children_of f) k))
      ∙ ap₂ (λ p x. steps_at def p k x) (sym (append-nil base)) (same_Some f w e)
      ∙ sym (append-nil (steps_at def (base ++ []) k w))
  climb_last base k (a ∷ above) f w e =
      let (c, at, below) = step_to (λ n. node_at n above) (slice_get (children_of f) a) w e in
      let down = base ++ a ∷ [] in
      let into : steps_of_some (λ t. steps_above def down above t) (slice_get (children_of f) a) ≡ steps_above def down above c = ap (steps_of_some (λ t. steps_above def down above t)) at in
      ap (λ x. x ++ steps_at def base a f) (ap (steps_of_some (λ t. steps_above def down (above ++ k ∷ []) t)) at ∙ climb_last down k above c w below)
      ∙ append_assoc (steps_at def (down ++ above) k w) (steps_above def down above c) (steps_at def base a f)
      ∙ ap₂ (λ p x. steps_at def p k w ++ (x ++ steps_at def base a f)) (append_assoc base (a ∷ []) above) (sym into)

  -- ---- one frame

  node_steps : (path : Path) (k op : ℕ) (u : Fragment) → top_operator u ≡ Some op → steps_at def path k u ≡ own_steps def path u
  node_steps path zero op (operator o) e = refl
  node_steps path zero op (with_child f t) e = refl
  node_steps path zero op (with_name f n) e = refl
  node_steps path zero op (with_number f n) e = refl
  node_steps path zero op (with_text f n) e = refl
  node_steps path zero op (observed f) e = refl
  node_steps path zero op (hole p) e = absurd (cc)
  node_steps path zero op (ending l u) e = absurd (cc)
  node_steps path zero op (cell l h r) e = absurd (cc)
  node_steps path zero op anything e = absurd (cc)
  node_steps path (suc k) op (operator o) e = refl
  node_steps path (suc k) op (with_child f t) e = refl
  node_steps path (suc k) op (with_name f n) e = refl
  node_steps path (suc k) op (with_number f n) e = refl
  node_steps path (suc k) op (with_text f n) e = refl
  node_steps path (suc k) op (observed f) e = refl
  node_steps path (suc k) op (hole p) e = absurd (cc)
  node_steps path (suc k) op (ending l u) e = absurd (cc)
  node_steps path (suc k) op (cell l h r) e = absurd (cc)
  node_steps path (suc k) op anything e = absurd (cc)

  put_all : (k : ℕ) (s : SummaryParts) (t : Fragment) (fs : List Fragment) (ss : List SummaryParts) → slice_get fs k ≡ Some t → AllSummariesBut def k fs ss → IsSummaryOf def t s
      → AllSummaries def fs (put_at k s ss)
  put_all k s t [] ss at but h = absurd (cc)
  put_all zero s t (f ∷ fs) [] at but h = absurd but
  put_all (suc k) s t (f ∷ fs) [] at but h = absurd but
  put_all zero s t (f ∷ fs) (o ∷ ss) at but h = (subst (λ z. IsSummaryOf def z s) (sym (same_Some f t at)) h, but)
  put_all (suc k) s t (f ∷ fs) (o ∷ ss) at (one, but) h = (one, put_all k s t fs ss at but h)

  -- an answer for each node with these children is one for the node around t
  pub node_reached : (path : Path) (op k hot : ℕ) (names : List Name) (children : List SummaryParts) (own : SummaryParts) (u t : Fragment) (result : Result SummaryParts EvalFault)
      → ((f : Fragment) → IsNode def op names f → AreSummariesOf def f (put_at hot own children) → Answers def f result)
      → IsNode def op names u → k ≡ hot → slice_get (children_of u) k ≡ Some t → AllSummariesBut def k (children_of u) children → IsSummaryOf def t own
      → IsReached def (steps_at def path k u) u result
  node_reached path op k hot names children own u t result answer node same child but of =
      subst (λ places. IsReached def places u result) (sym (node_steps path k op u node.top))
      (own_reached def path u result (answer u node (subst (λ i. AllSummaries def (children_of u) (put_at i own children)) same (put_all k own t (children_of u) children child but of))))

  element_child : (l : ℕ) (before : List SummaryParts) (behind : SummaryParts) (t u : Fragment) → IsElement def l before behind u t → slice_get (children_of u) (length before) ≡ Some t
  element_child l [] behind t (cell m e r) (a, b, c) = ap Some b
  element_child l (s ∷ before) behind t (cell m e r) (a, b, c) = element_child l before behind t r c
  element_child l [] behind t (hole p) h = absurd h
  element_child l [] behind t (ending m u) h = absurd h
  element_child l [] behind t (operator o) h = absurd h
  element_child l [] behind t (with_child f c) h = absurd h
  element_child l [] behind t (with_name f n) h = absurd h
  element_child l [] behind t (with_number f n) h = absurd h
  element_child l [] behind t (with_text f n) h = absurd h
  element_child l [] behind t anything h = absurd h
  element_child l [] behind t (observed f) h = absurd h
  element_child l (s ∷ before) behind t (hole p) h = absurd h
  element_child l (s ∷ before) behind t (ending m u) h = absurd h
  element_child l (s ∷ before) behind t (operator o) h = absurd h
  element_child l (s ∷ before) behind t (with_child f c) h = absurd h
  element_child l (s ∷ before) behind t (with_name f n) h = absurd h
  element_child l (s ∷ before) behind t (with_number f n) h = absurd h
  element_child l (s ∷ before) behind t (with_text f n) h = absurd h
  element_child l (s ∷ before) behind t anything h = absurd h
  element_child l (s ∷ before) behind t (observed f) h = absurd h

  pub frame_child : (t : Fragment) (frame : Frame) (k : ℕ) (u : Fragment) → IsFrame def frame k u t → slice_get (children_of u) k ≡ Some t
  frame_child t (frames.Op op names children hot) k u (node, at, child, but) = child
  frame_child t (frames.Elem list before rest) k u (at, element) = ap (slice_get (children_of u)) at ∙ element_child list before rest t u element

  -- the node at the path is the one that the frames are around
  pub stands-node : (around : List Frame) (path : Path) (f t : Fragment) → StandFor def around path f t → node_at f path ≡ Some t
  stands-node [] path f t (p, e) = ap (node_at f) p ∙ ap Some e
  stands-node (frame ∷ more) path f t (above, k, u, p, at, up) =
      ap (node_at f) p ∙ node_below k t above f u (stands-node more above f u up) (frame_child t frame k u at)

  -- ---- the frames that are left

  module _ (around : List Frame) (own : SummaryParts) where
    -- the summary of a node that the frames left are around, to which steps within the limit lead
    pub record IsOnWay (whole : SummaryParts) (left : List Frame) (path : Path) (f : Fragment) : Type 0 where
      pub node : Fragment
      pub here : Path
      pub done : List Place
      pub stand : StandFor def left here f node
      pub is : IsSummaryOf def node whole
      pub within : AreWithin def done
      pub steps : steps_above def [] path f ≡ done ++ steps_above def [] here f

    abbrev pub Climbs : SummaryParts → List Frame → Type 0
    Climbs whole left = (f t : Fragment) (path : Path) → StandFor def around path f t → IsSummaryOf def t own → IsOnWay whole left path f

    abbrev pub Gives : Result SummaryParts EvalFault → Type 0
    Gives result = (f t : Fragment) (path : Path) → StandFor def around path f t → IsSummaryOf def t own → IsClimbed def path f result

    pub climb_first : Climbs own around
    climb_first f t path stand of = record { node = t; here = path; done = []; stand = stand; is = of; within = within-none def; steps = refl }

    -- the answer for the frame's node, whatever stands in it
    abbrev pub IsFrameAnswer : Frame → SummaryParts → Result SummaryParts EvalFault → Type 0
    IsFrameAnswer frame whole result = (u t : Fragment) (path : Path) (k : ℕ) → IsFrame def frame k u t → IsSummaryOf def t whole
        → IsReached def (steps_at def path k u) u result

    split_here : (done : List Place) (path above : Path) (k : ℕ) (f u : Fragment) (here : Path) → steps_above def [] path f ≡ done ++ steps_above def [] here f → here ≡ above ++ k ∷ []
        → node_at f above ≡ Some u → steps_above def [] path f ≡ done ++ (steps_at def above k u ++ steps_above def [] above f)
    split_here done path above k f u here steps e at =
        steps ∙ ap (λ p. done ++ steps_above def [] p f) e ∙ ap (λ x. done ++ x) (climb_last [] k above f u at)

    pub climb_next : (whole next : SummaryParts) (frame : Frame) (left more : List Frame) → left ≡ frame ∷ more → Climbs whole left → IsFrameAnswer frame whole (Ok next) → Climbs next more
    climb_next whole next frame left more split climbs answer f t path stand of =
        let up = subst (λ xs. IsOnWay whole xs path f) split (climbs f t path stand of) in
        let (above, k, u, here, at, above_stand) = up.stand in
        let (is, within) = answer u up.node above k at up.is in
        let steps = split_here up.done path above k f u up.here up.steps here (stands-node more above f u above_stand) in
        record {
          node = u;
          here = above;
          done = up.done ++ steps_at def above k u;
          stand = above_stand;
          is = is;
          within = within-append def up.done (steps_at def above k u) up.within within;
          steps = steps ∙ sym (append_assoc up.done (steps_at def above k u) (steps_above def [] above f));
        }

    pub climb_fault : (whole : SummaryParts) (fault : EvalFault) (frame : Frame) (left more : List Frame) → left ≡ frame ∷ more → Climbs whole left → IsFrameAnswer frame whole (Err fault) → Gives (Err fault)
    climb_fault whole fault frame left more split climbs answer f t path stand of =
        let up = subst (λ xs. IsOnWay whole xs path f) split (climbs f t path stand of) in
        let (above, k, u, here, at, above_stand) = up.stand in
        let steps = split_here up.done path above k f u up.here up.steps here (stands-node more above f u above_stand) in
        subst (λ places. IsReached def places f (Err fault)) (sym steps)
        (fault_among def up.done (steps_at def above k u) (steps_above def [] above f) u f fault up.within (answer u up.node above k at up.is))

    pub climb_all : (whole : SummaryParts) (left : List Frame) → length left ≡ 0 → Climbs whole left → Gives (Ok whole)
    climb_all whole (frame ∷ left) none climbs f t path stand of = absurd (omega (arith, none))
    climb_all whole [] none climbs f t path stand of =
        let up = climbs f t path stand of in
        let (here, same) = up.stand in
        let steps : steps_above def [] path f ≡ up.done = up.steps ∙ ap (λ p. up.done ++ steps_above def [] p f) here ∙ append-nil up.done in (
          subst (λ z. IsSummaryOf def z whole) (sym same) up.is,
          subst (AreWithin def) (sym steps) up.within,
        )

  -- ---- what frames take

  pub can_next : (frame : Frame) (left more : List Frame) (s : SummaryParts) → left ≡ frame ∷ more → IsSummary def s → CanClimb def left s.kind
      → (above : Kind) × TakesInFrame def frame s above × CanClimb def more above
  can_next frame left more s split usual can =
      let (above, takes, rest) = subst (λ xs. CanClimb def xs s.kind) split can in (above, takes s usual refl, rest)

pub rungs_next : (frame : Frame) (left more : List Frame) → left ≡ frame ∷ more → rungs left ≡ rungs_in frame + rungs more
rungs_next frame left more e = ap rungs e

pub rungs_none : (left : List Frame) → length left ≡ 0 → rungs left ≡ 0
rungs_none [] h = refl
rungs_none (frame ∷ left) h = absurd (omega (arith, h))

pub not_empty : (frame : Frame) (left more : List Frame) → left ≡ frame ∷ more → left ≡ [] → ⊥
not_empty frame left more e n = let q : frame ∷ more ≡ [] = sym e ∙ n in absurd (cc)

-- ---- a frame by its parts

module _ (def : Definition) (frame : Frame) (op hot : ℕ) (names words : List Name) (children below : List SummaryParts)
    (is : frame ≡ frames.Op op names children hot) (words_are : words ≡ names) (below_are : below ≡ children) where
  operator_is : frame ≡ frames.Op op words below hot
  operator_is = is ∙ ap₂ (λ a b. frames.Op op a b hot) (sym words_are) (sym below_are)

  pub operator_takes : (own : SummaryParts) (above : Kind) → TakesInFrame def frame own above → TakesInFrame def (frames.Op op words below hot) own above
  operator_takes own above h = subst (λ f. TakesInFrame def f own above) operator_is h

  pub operator_frame : (k : ℕ) (u t : Fragment) → IsFrame def frame k u t → IsFrame def (frames.Op op words below hot) k u t
  operator_frame k u t h = subst (λ f. IsFrame def f k u t) operator_is h

  pub operator_rungs : rungs_in frame ≡ 1
  operator_rungs = ap rungs_in is

module _ (def : Definition) (frame : Frame) (list : ℕ) (before front : List SummaryParts) (rest : SummaryParts)
    (is : frame ≡ frames.Elem list before rest) (front_is : front ≡ before) where
  list_is : frame ≡ frames.Elem list front rest
  list_is = is ∙ ap (λ b. frames.Elem list b rest) (sym front_is)

  pub list_takes : (own : SummaryParts) (above : Kind) → TakesInFrame def frame own above → TakesInFrame def (frames.Elem list front rest) own above
  list_takes own above h = subst (λ f. TakesInFrame def f own above) list_is h

  -- the answer for the element's list is one for the frame's node
  pub list_reached : (own : SummaryParts) (result : Result SummaryParts EvalFault)
      → ((u t : Fragment) (path : Path) → IsElement def list front rest u t → IsSummaryOf def t own → IsReached def (steps_at def path (length front) u) u result)
      → IsFrameAnswer def [] own frame own result
  list_reached own result answer u t path k at of =
      let (same, element) = subst (λ f. IsFrame def f k u t) list_is at in
      subst (λ n. IsReached def (steps_at def path n u) u result) (sym same) (answer u t path element of)

  pub list_rungs : rungs_in frame ≡ length front + 1
  list_rungs = ap rungs_in list_is
