-- The frames around a new element of a list.
use Rattle.std.proofs.Common.{◌≡◌, ℕ, zero, suc, ◌≤◌, Bool, List, [], ◌∷◌, map, take, length, slice_get, Option, Some, None, refl, sym, ◌∙◌, ap, subst, arith}
use Rattle.std.specs.Prelude.{MatchOption, insert, option_map}
use Rattle.std.specs.List.{AllByRecursion}
use Rattle.std.proofs.lemmas.List.{length-map, length-take-le, take-map}
use Rattle.std.proofs.lemmas.Option.{none-some, slice_get_within, same_Some}
use Rattle.psg_grammar.specs.declared.types.Kind.TheVariants as kinds
use Rattle.psg_grammar.specs.declared.types.Definition.{Definition}
use Rattle.psg_grammar.specs.Fragments.{Fragment, hole, ending, cell, operator, with_child, with_name, with_number, with_text, anything, observed, children_of}
use Rattle.psg_grammar.specs.Kinds.{IsOfKind}
use Rattle.psg_grammar.specs.Paths.{Path, node_at, IsList}
use Rattle.psg_tree.specs.declared.tree.Part.{Part}
use Rattle.psg_tree.specs.declared.tree.Shape.{Shape}
use Rattle.psg_tree.specs.declared.tree.Shape.TheVariants.{Op, List as ListOf, Hole}
use Rattle.psg_tree.specs.Shapes.{list_of, tree_of}
use Rattle.psg_tree.proofs.Children.{children-list}
use Rattle.psg_eval.specs.declared.frame.Frame.{Frame}
use Rattle.psg_eval.specs.declared.frame.Frame.TheVariants as frames
use Rattle.psg_eval.specs.declared.summary.SummaryParts.{SummaryParts}
use Rattle.psg_eval.specs.Frames.{CanClimb, IsGap, IsSilent, StandAt, StandFor, TakesBefore}
use Rattle.psg_eval.specs.Summaries.{AllSummaries, IsSummary, IsSummaryOf}
use Rattle.psg_cache.specs.Annotated.{Annotated, tree_in, whole_in, rests_in, below_in, note_at}
use Rattle.psg_cache.specs.Edits.{IsNoSummaryAt}
use Rattle.psg_cache.specs.Noted.{AreOfSuffixes, IsAnswered, IsNoted}
use Rattle.psg_cache.specs.NoteFrames.{AreElementFramesAt, AreFramesAt, AreFramesBefore, IsElementFrame, IsFrameBefore, IsNoElementAt, IsNoPlaceIn}
use Rattle.psg_cache.specs.Notes.{IsFormed}
use Rattle.psg_cache.proofs.AllNoted.{no_summary_at}
use Rattle.psg_cache.proofs.CulpritLaws.{real_children}
use Rattle.psg_cache.proofs.Each.{each_got}
use Rattle.psg_cache.proofs.Evaluations.{one_kind, spine_parts}
use Rattle.psg_cache.proofs.FrameParts.{all_front, all_kind, all_three, is_list, quiet, quiet_children, suffixes_many, usual_below}
use Rattle.psg_cache.proofs.ListLaws.{list_kind_is}
use Rattle.psg_cache.proofs.NoteLaws.{below_known, list_known}
use Rattle.psg_cache.proofs.NoteParts.{noted_at, noted_parts}
use Rattle.psg_cache.proofs.RealTrees.{IsReal, IsSpine, real}
use Rattle.psg_cache.proofs.TopLaws.{elements_taken, list_answered}

module _ (def : Definition) where
  -- the list from the element of the number on, and what is known of it
  record From (l k : ℕ) (below : List SummaryParts) (rest : SummaryParts) (f : Fragment) : Type 0 where
    gap : IsGap def l (take k below) rest f
    kind : rest.kind ≡ kinds.List l
    silent : IsSilent rest

  from : (l : ℕ) (es : List Fragment) (u : Bool) (k : ℕ) (below : List SummaryParts) (s : SummaryParts) (rests : List SummaryParts) (rest : SummaryParts)
      → IsReal (list_of l es u) → AllSummaries def (children_of (list_of l es u)) below → AreOfSuffixes def (list_of l es u) below s rests
      → Some rest ≡ slice_get (s ∷ rests) k → k ≤ length below → From l k below rest (list_of l es u)
  from l es u zero below s rests rest real are h at le =
      let same : s ≡ rest = same_Some s rest (sym at) in
      let of : IsSummaryOf def (list_of l es u) rest =
      subst (IsSummaryOf def (list_of l es u)) same (list_known def (list_of l es u) real (is_list def l es u) below s rests are h).0 in
      let kind = list_kind_is def l es u rest of in
      record { gap = (is_list def l es u, kind, of); kind = kind; silent = of.seen ∙ quiet (list_of l es u) real }
  from l [] u (suc k) [] s rests rest real are h at le = absurd (omega (arith, le))
  from l [] u (suc k) (b ∷ bs) s rests rest real are h at le = absurd are
  from l (e ∷ es) u (suc k) [] s rests rest real are h at le = absurd are
  from l (e ∷ es) u (suc k) (b ∷ bs) s [] rest real are h at le = absurd h
  from l (e ∷ es) u (suc k) (b ∷ bs) s (x ∷ xs) rest real are h at le =
      let r = from l es u k bs x xs rest real.1 are.1 h.1 at (omega (arith, le)) in
      record { gap = (refl, are.0, r.gap); kind = r.kind; silent = r.silent }

  kind_of_list : (l : ℕ) (es : List Fragment) (u : Bool) → IsOfKind def (list_of l es u) (kinds.List l)
  kind_of_list l [] u = refl
  kind_of_list l (e ∷ es) u = refl

  element_frame : (n : Annotated) (k l : ℕ) (es : List Fragment) (u : Bool) (s : Shape) → s ≡ ListOf l es u → tree_of s ≡ tree_in n
      → IsNoted def n → IsFormed def (tree_in n) → k ≤ length (below_in n) → (rest : SummaryParts)
      → Some rest ≡ slice_get (whole_in n ∷ rests_in n) k
      → IsElementFrame def n k (frames.Elem l (map whole_in (take k (below_in n))) rest)
  element_frame n k l es u s e there noted formed le rest at =
      let below = map whole_in (below_in n) in
      let made : list_of l es u ≡ tree_in n = sym (ap tree_of e) ∙ there in
      let parts = noted_parts def n noted in
      let are = (below_known def (tree_in n) (below_in n) formed parts.0.children parts.1).1 in
      let usual = usual_below def (below_in n) parts.1 in
      let is_real = real def (tree_in n) formed in
      let silent = quiet_children def (children_of (tree_in n)) below (real_children (tree_in n) is_real) are in
      let T = elements_taken def s l es u (tree_in n) below e there formed are usual in
      let front : take k below ≡ map whole_in (take k (below_in n)) = take-map whole_in k (below_in n) in
      let many : length below ≡ length (below_in n) = length-map (below_in n) whole_in in
      let size : length (map whole_in (take k (below_in n))) ≡ k =
      ap length (sym front) ∙ length-take-le k below (omega (arith, many, le)) in
      let r = from l es u k below (whole_in n) (rests_in n) rest (subst IsReal (sym made) is_real)
      (subst (λ f. AllSummaries def (children_of f) below) (sym made) are)
      (list_answered def l es u below (whole_in n) (rests_in n)
      (subst (λ f. IsAnswered def f below (whole_in n) (rests_in n)) (sym made) parts.0.answered))
      at (omega (arith, many, le)) in
      record {
        number = l;
        of_kind = subst (λ f. IsOfKind def f (kinds.List l)) made (kind_of_list l es u);
        list = T.list;
        found = T.found;
        stand = (
          tree_in n,
          (refl, refl),
          sym size,
          subst (λ xs. IsGap def l xs rest (tree_in n)) front (subst (IsGap def l (take k below) rest) made r.gap),
        );
        takes = λ x own same. (
          record {
            list = T.list;
            found = T.found;
            element_kind = same;
            rest_kind = r.kind;
            summaries = (own, (each_got (IsSummary def) (whole_in n ∷ rests_in n) k rest parts.0.usual (sym at), tt));
          },
          r.silent,
          refl,
          subst (AllByRecursion (TakesBefore def x.kind)) front
              (all_front (TakesBefore def x.kind) k below
              (all_three (λ (z : SummaryParts). z.kind ≡ x.kind) IsSilent (IsSummary def) (TakesBefore def x.kind) below (λ z p q w. record { same = p; silent = q; usual = w })
              (all_kind (kinds.Phylum T.list.element) x.kind below (sym same) T.element_kinds) silent usual)),
        );
        cost = omega (arith, size);
      }

  -- ---- trees that are no lists

  spine_no_list : (f : Fragment) → IsSpine f → IsList f → ⊥
  spine_no_list (operator o) s list = list
  spine_no_list (with_child f t) s list = list
  spine_no_list (with_name f n) s list = list
  spine_no_list (with_number f n) s list = list
  spine_no_list (with_text f t) s list = list
  spine_no_list (hole p) s list = s
  spine_no_list (ending l u) s list = s
  spine_no_list (cell l e r) s list = s
  spine_no_list anything s list = s
  spine_no_list (observed f) s list = s

  -- ---- the frames of the path behind that of the list

  stand_behind : (frame : Frame) (around : List Frame) (path : Path) (k : ℕ) (f u : Fragment) → StandAt def (frame ∷ []) [] (Some k) u → StandFor def around path f u
      → StandAt def (frame ∷ around) path (Some k) f
  stand_behind (frames.Op op names children hot) around path k f u h up = absurd h
  stand_behind (frames.Elem list before rest) around path k f u (v, (nil, same), size, gap) up =
      (u, up, size, subst (IsGap def list before rest) (sym same) gap)

pub no_place_operator : (n : Annotated) (k o : ℕ) (ps : List Part) (s : Shape) → s ≡ Op o ps → tree_of s ≡ tree_in n → IsNoPlaceIn n k
no_place_operator n k o ps s e there def noted formed list le =
    spine_no_list def (tree_in n) (subst IsSpine (sym (ap tree_of e) ∙ there) (spine_parts (operator o) ps tt)) list

pub no_place_hole : (n : Annotated) (k p : ℕ) (s : Shape) → s ≡ Hole p → tree_of s ≡ tree_in n → IsNoPlaceIn n k
no_place_hole n k p s e there def noted formed list le =
    let none : IsList (hole p) = subst IsList (sym (sym (ap tree_of e) ∙ there)) list in none

no_place_list : (n : Annotated) (k l : ℕ) (es : List Fragment) (u : Bool) (s : Shape) → s ≡ ListOf l es u → tree_of s ≡ tree_in n
    → (k ≤ length (below_in n) → k ≤ length (rests_in n) → ⊥) → IsNoPlaceIn n k
no_place_list n k l es u s e there none def noted formed list le =
    let parts = noted_parts def n noted in
    let made : list_of l es u ≡ tree_in n = sym (ap tree_of e) ∙ there in
    let below = map whole_in (below_in n) in
    let rests : length (rests_in n) ≡ length es =
    suffixes_many def l es u below (whole_in n) (rests_in n)
    (list_answered def l es u below (whole_in n) (rests_in n) (subst (λ f. IsAnswered def f below (whole_in n) (rests_in n)) (sym made) parts.0.answered)) in
    let children : length (children_of (tree_in n)) ≡ length es = ap length (ap children_of (sym made) ∙ children-list l es u) in
    let many : length (below_in n) ≡ length (children_of (tree_in n)) = sym (length-map (below_in n) tree_in) ∙ ap length parts.0.children in
    none (omega (arith, many, le)) (omega (arith, rests, children, le))

-- ---- as the calls need it

-- the frame of a list, by its parts
pub gap_frame_of : (n : Annotated) (k l : ℕ) (es : List Fragment) (u : Bool) (s : Shape) → s ≡ ListOf l es u → tree_of s ≡ tree_in n → (o : Option Frame)
    → MatchOption o (k ≤ length (below_in n) → k ≤ length (rests_in n) → ⊥)
    (λ frame. (rest : SummaryParts) × (Some rest ≡ slice_get (whole_in n ∷ rests_in n) k) × (frame ≡ frames.Elem l (map whole_in (take k (below_in n))) rest))
    → MatchOption o (IsNoPlaceIn n k) (IsFrameBefore n k)
gap_frame_of n k l es u s e there None h = no_place_list n k l es u s e there h
gap_frame_of n k l es u s e there (Some frame) (rest, at, is) =
    λ def noted formed. subst (IsElementFrame def n k) (sym is) (element_frame def n k l es u s e there noted formed (within def noted formed) rest at) where
      within : (def : Definition) → IsNoted def n → IsFormed def (tree_in n) → k ≤ length (below_in n)
      within def noted formed =
          let parts = noted_parts def n noted in
          let made : list_of l es u ≡ tree_in n = sym (ap tree_of e) ∙ there in
          let below = map whole_in (below_in n) in
          let rests : length (rests_in n) ≡ length es =
          suffixes_many def l es u below (whole_in n) (rests_in n)
          (list_answered def l es u below (whole_in n) (rests_in n) (subst (λ f. IsAnswered def f below (whole_in n) (rests_in n)) (sym made) parts.0.answered)) in
          let many : length (below_in n) ≡ length es =
          sym (length-map (below_in n) tree_in) ∙ ap length (parts.0.children ∙ ap children_of (sym made) ∙ children-list l es u) in
          let short = slice_get_within (whole_in n ∷ rests_in n) k rest (sym at) in
          omega (arith, short, rests, many)

pub gap_some : (m : Annotated) (k : ℕ) (o : Option Frame) (frame : Frame) → o ≡ Some frame → MatchOption o (IsNoPlaceIn m k) (IsFrameBefore m k) → IsFrameBefore m k frame
gap_some m k o frame e h = subst (λ z. MatchOption z (IsNoPlaceIn m k) (IsFrameBefore m k)) e h

pub gap_none : (m : Annotated) (k : ℕ) (o : Option Frame) → o ≡ None → MatchOption o (IsNoPlaceIn m k) (IsFrameBefore m k) → IsNoPlaceIn m k
gap_none m k o e h = subst (λ z. MatchOption z (IsNoPlaceIn m k) (IsFrameBefore m k)) e h

-- where the path leads to no node
pub no_element_none : (n : Annotated) (path : Path) (k : ℕ) → IsNoSummaryAt n path → IsNoElementAt n path k
no_element_none n path k none def f note node there list le = none-some node (sym (none def f note) ∙ there)

pub no_element_there : (n : Annotated) (path : Path) (k : ℕ) → note_at n path ≡ None → IsNoElementAt n path k
no_element_there n path k is = no_element_none n path k (no_summary_at n path is)

-- where the node is no list with so many elements
pub no_element_in : (n m : Annotated) (path : Path) (k : ℕ) → note_at n path ≡ Some m → IsNoPlaceIn m k → IsNoElementAt n path k
no_element_in n m path k at none def f note node there list le =
    let formed : IsFormed def (tree_in n) = subst (IsFormed def) (sym note.tree) note.formed in
    let both = noted_at def path n note.noted formed in
    let h = both.1 m at in
    let same : node ≡ tree_in m = same_Some node (tree_in m) (sym there ∙ ap (λ x. node_at x path) (sym note.tree) ∙ both.0 ∙ ap (option_map tree_in) at) in
    none def h.0 h.1 (subst IsList same list) (subst (λ x. k ≤ length (children_of x)) same le)

-- the frame of the list in front of those of the path
pub element_frames_at : (n m : Annotated) (path : Path) (k : ℕ) (frame : Frame) (around all : List Frame) → note_at n path ≡ Some m → IsFrameBefore m k frame
    → AreFramesAt n path around → all ≡ insert around 0 frame → AreElementFramesAt n path k all
element_frames_at n m path k frame around all at before above grown def f note =
    let formed : IsFormed def (tree_in n) = subst (IsFormed def) (sym note.tree) note.formed in
    let both = noted_at def path n note.noted formed in
    let h = both.1 m at in
    let there : node_at f path ≡ Some (tree_in m) = ap (λ x. node_at x path) (sym note.tree) ∙ both.0 ∙ ap (option_map tree_in) at in
    let b = before def h.0 h.1 in
    let a = above def f note in
    let same : a.node ≡ tree_in m = same_Some a.node (tree_in m) (sym a.there ∙ there) in
    let kind : a.kind ≡ kinds.List b.number = one_kind def (tree_in m) a.kind (kinds.List b.number) (subst (λ x. IsOfKind def x a.kind) same a.of_kind) b.of_kind in
    subst (AreFramesBefore def f path k) (sym grown)
    (record {
      node = tree_in m;
      there = there;
      number = b.number;
      of_kind = b.of_kind;
      list = b.list;
      found = b.found;
      stand = stand_behind def frame around path k f (tree_in m) b.stand (subst (StandFor def around path f) same a.stand);
      climb = (kinds.List b.number, b.takes, subst (CanClimb def around) kind a.climb);
      cost = let own = b.cost in let more = a.cost in omega (arith, own, more);
    })
