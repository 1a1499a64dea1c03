-- The frame of a noted node around one of its children.
use Rattle.std.proofs.Common.{◌≡◌, ℕ, zero, suc, ◌+◌, ◌<◌, ◌≤◌, Bool, List, [], ◌∷◌, map, take, length, slice_get, Option, Some, None, refl, sym, ◌∙◌, ap, subst, arith}
use Rattle.std.specs.List.{AllByRecursion}
use Rattle.std.specs.Prelude.{MatchOption}
use Rattle.std.proofs.lemmas.List.{length-map, length-take-le, take-map}
use Rattle.std.proofs.lemmas.Option.{none-some, slice_get_within, same_Some}
use Rattle.psg_terms.proofs.Lists.{slice_get-map_some}
use Rattle.psg_grammar.specs.declared.types.Kind.{Kind}
use Rattle.psg_grammar.specs.declared.types.Kind.TheVariants as kinds
use Rattle.psg_grammar.specs.declared.types.Definition.{Definition}
use Rattle.psg_grammar.specs.Fragments.{Fragment, hole, ending, cell, operator, with_child, with_name, with_number, with_text, anything, observed, children_of}
use Rattle.psg_grammar.specs.Kinds.{IsOfKind}
use Rattle.psg_grammar.specs.Paths.{IsList}
use Rattle.psg_grammar.specs.Work.{leaving}
use Rattle.psg_tree.specs.declared.tree.Part.{Part}
use Rattle.psg_tree.specs.declared.tree.Part.TheVariants.{Sub, Name as Named, Number, Text}
use Rattle.psg_tree.specs.declared.tree.Shape.{Shape}
use Rattle.psg_tree.specs.declared.tree.Shape.TheVariants.{Op, List as ListOf, Hole}
use Rattle.psg_tree.specs.Shapes.{with_part, with_parts, list_of, tree_of}
use Rattle.psg_tree.proofs.Children.{children-list}
use Rattle.psg_eval.specs.declared.frame.Frame.{Frame}
use Rattle.psg_eval.specs.declared.frame.Frame.TheVariants as frames
use Rattle.psg_eval.specs.declared.summary.SummaryParts.{SummaryParts}
use Rattle.psg_eval.specs.Frames.{AllSummariesBut, AreSilentBut, IsElement, IsSilent, TakesBefore, put_at}
use Rattle.psg_eval.specs.Summaries.{AllSummaries, IsSummary, IsSummaryOf}
use Rattle.psg_eval.specs.Trees.{seen_in}
use Rattle.psg_cache.specs.Annotated.{Annotated, tree_in, whole_in, rests_in, below_in}
use Rattle.psg_cache.specs.Noted.{AreOfSuffixes, IsNoted, IsTopped}
use Rattle.psg_cache.specs.NoteFrames.{IsFrameAround, IsFrameAt, IsNoFrameAt}
use Rattle.psg_cache.specs.Notes.{IsFormed}
use Rattle.psg_cache.specs.Walks.{names_in}
use Rattle.psg_cache.proofs.Each.{each_got}
use Rattle.psg_cache.proofs.CulpritLaws.{real_children}
use Rattle.psg_cache.proofs.Evaluations.{is_node, one_kind, spine_parts, takes_at}
use Rattle.psg_cache.proofs.ListLaws.{list_kind_is}
use Rattle.psg_cache.proofs.NoteLaws.{below_known, list_known, noted_known}
use Rattle.psg_cache.proofs.NoteParts.{noted_parts}
use Rattle.psg_cache.proofs.RealTrees.{IsReal, IsSpine, real}
use Rattle.psg_cache.proofs.TopLaws.{elements_taken, list_answered}

-- ---- another summary at a place

put_kinds : (k : ℕ) (s x : SummaryParts) (xs : List SummaryParts) → slice_get xs k ≡ Some x → s.kind ≡ x.kind
    → map (λ (o : SummaryParts). o.kind) (put_at k s xs) ≡ map (λ (o : SummaryParts). o.kind) xs
put_kinds k s x [] at e = refl
put_kinds zero s x (o ∷ xs) at e = let same : o ≡ x = same_Some o x at in ap (λ j. j ∷ map (λ (o : SummaryParts). o.kind) xs) (e ∙ ap (λ (o : SummaryParts). o.kind) (sym same))
put_kinds (suc k) s x (o ∷ xs) at e = ap (λ l. o.kind ∷ l) (put_kinds k s x xs at e)

put_each : (P : SummaryParts → Type 0) (k : ℕ) (s : SummaryParts) (xs : List SummaryParts) → AllByRecursion P xs → P s → AllByRecursion P (put_at k s xs)
put_each P k s [] all p = tt
put_each P zero s (o ∷ xs) all p = (p, all.1)
put_each P (suc k) s (o ∷ xs) all p = (all.0, put_each P k s xs all.1 p)

quiet_but : (k : ℕ) (xs : List SummaryParts) → AllByRecursion IsSilent xs → AreSilentBut k xs
quiet_but k [] all = tt
quiet_but zero (o ∷ xs) all = all.1
quiet_but (suc k) (o ∷ xs) all = (all.0, quiet_but k xs all.1)

pub all_front : (P : SummaryParts → Type 0) (k : ℕ) (xs : List SummaryParts) → AllByRecursion P xs → AllByRecursion P (take k xs)
all_front P zero xs all = tt
all_front P (suc k) [] all = tt
all_front P (suc k) (x ∷ xs) all = (all.0, all_front P k xs all.1)

pub all_three : (P Q R : SummaryParts → Type 0) (T : SummaryParts → Type 0) (xs : List SummaryParts) → ((x : SummaryParts) → P x → Q x → R x → T x)
    → AllByRecursion P xs → AllByRecursion Q xs → AllByRecursion R xs → AllByRecursion T xs
all_three P Q R T [] f p q r = tt
all_three P Q R T (x ∷ xs) f p q r = (f x p.0 q.0 r.0, all_three P Q R T xs f p.1 q.1 r.1)

pub all_kind : (j k : Kind) (xs : List SummaryParts) → j ≡ k → AllByRecursion (λ (s : SummaryParts). s.kind ≡ j) xs → AllByRecursion (λ (s : SummaryParts). s.kind ≡ k) xs
all_kind j k xs e all = subst (λ i. AllByRecursion (λ (s : SummaryParts). s.kind ≡ i) xs) e all

-- nothing is observed in such a tree
pub quiet : (f : Fragment) → IsReal f → seen_in f ≡ 0
quiet (hole p) real = refl
quiet (ending l u) real = refl
quiet (cell l e r) real = omega (arith, quiet e real.0, quiet r real.1)
quiet (operator o) real = refl
quiet (with_child f t) real = omega (arith, quiet f real.0, quiet t real.1)
quiet (with_name f n) real = quiet f real.0
quiet (with_number f n) real = quiet f real.0
quiet (with_text f t) real = quiet f real.0
quiet anything real = absurd real
quiet (observed f) real = absurd real

module _ (def : Definition) where
  pub quiet_children : (cs : List Fragment) (summaries : List SummaryParts) → AllByRecursion IsReal cs → AllSummaries def cs summaries → AllByRecursion IsSilent summaries
  quiet_children [] [] real s = tt
  quiet_children [] (x ∷ xs) real s = absurd s
  quiet_children (c ∷ cs) [] real s = absurd s
  quiet_children (c ∷ cs) (x ∷ xs) real s = (s.0.seen ∙ quiet c real.0, quiet_children cs xs real.1 s.1)

  but_of : (k : ℕ) (fs : List Fragment) (ss : List SummaryParts) → k < length fs → AllSummaries def fs ss → AllSummariesBut def k fs ss
  but_of k [] ss l h = absurd (omega (arith, l))
  but_of zero (f ∷ fs) [] l h = absurd h
  but_of zero (f ∷ fs) (s ∷ ss) l h = h.1
  but_of (suc k) (f ∷ fs) [] l h = absurd h
  but_of (suc k) (f ∷ fs) (s ∷ ss) l h = (h.0, but_of k fs ss (omega (arith, l)) h.1)

  as_many : (cs : List Fragment) (below : List SummaryParts) → AllSummaries def cs below → length cs ≡ length below
  as_many [] [] h = refl
  as_many [] (s ∷ ss) h = absurd h
  as_many (c ∷ cs) [] h = absurd h
  as_many (c ∷ cs) (s ∷ ss) h = let e = as_many cs ss h.1 in omega (arith, e)

  pub usual_below : (below : List Annotated) → AllByRecursion (IsNoted def) below → AllByRecursion (IsSummary def) (map whole_in below)
  usual_below [] h = tt
  usual_below (n ∷ ns) h = ((noted_parts def n h.0).0.usual.0, usual_below ns h.1)

  -- ---- what is known of a noted node and its child

  record Around (n child : Annotated) (k : ℕ) : Type 0 where
    parts : IsTopped def (tree_in n) (whole_in n) (rests_in n) (Rattle.psg_cache.specs.Annotated.weight_in n) (below_in n)
    are : AllSummaries def (children_of (tree_in n)) (map whole_in (below_in n))
    usual : AllByRecursion (IsSummary def) (map whole_in (below_in n))
    silent : AllByRecursion IsSilent (map whole_in (below_in n))
    there : slice_get (children_of (tree_in n)) k ≡ Some (tree_in child)
    within : k < length (children_of (tree_in n))
    summary : slice_get (map whole_in (below_in n)) k ≡ Some (whole_in child)
    of_child : IsSummaryOf def (tree_in child) (whole_in child)
    is_real : IsReal (tree_in n)

  formed_got : (ns : List Annotated) (k : ℕ) (m : Annotated) → AllByRecursion (IsFormed def) (map tree_in ns) → slice_get ns k ≡ Some m
      → IsFormed def (tree_in m)
  formed_got [] k m h e = absurd (none-some m e)
  formed_got (n ∷ ns) zero m h e = let same : n ≡ m = same_Some n m e in subst (λ x. IsFormed def (tree_in x)) same h.0
  formed_got (n ∷ ns) (suc k) m h e = formed_got ns k m h.1 e

  around : (n child : Annotated) (k : ℕ) → IsNoted def n → IsFormed def (tree_in n) → slice_get (below_in n) k ≡ Some child → Around n child k
  around n child k noted formed at =
      let parts = noted_parts def n noted in
      let known = below_known def (tree_in n) (below_in n) formed parts.0.children parts.1 in
      let there : slice_get (children_of (tree_in n)) k ≡ Some (tree_in child) =
      ap (λ cs. slice_get cs k) (sym parts.0.children) ∙ slice_get-map_some tree_in (below_in n) k child at in
      record {
        parts = parts.0;
        are = known.1;
        usual = usual_below (below_in n) parts.1;
        silent = quiet_children (children_of (tree_in n)) (map whole_in (below_in n)) (real_children (tree_in n) (real def (tree_in n) formed)) known.1;
        there = there;
        within = slice_get_within (children_of (tree_in n)) k (tree_in child) there;
        summary = slice_get-map_some whole_in (below_in n) k child at;
        of_child = (noted_known def child (each_got (IsNoted def) (below_in n) k child parts.1 at) (formed_got (below_in n) k child known.0 at)).0;
        is_real = real def (tree_in n) formed;
      }

  -- ---- operators

  kind_parts : (f : Fragment) (ps : List Part) (k : Kind) → IsOfKind def (with_parts f ps) k → IsOfKind def f k
  kind_parts f [] k h = h
  kind_parts f (p ∷ ps) k h = kind_part f p k (kind_parts (with_part f p) ps k h) where
    kind_part : (f : Fragment) (p : Part) (k : Kind) → IsOfKind def (with_part f p) k → IsOfKind def f k
    kind_part f (Sub t) k h = h
    kind_part f (Named n) k h = h
    kind_part f (Number n) k h = h
    kind_part f (Text t) k h = h

  leaving_spine : (f : Fragment) (k : ℕ) → IsSpine f → leaving f k ≡ 1
  leaving_spine (operator o) k s = refl
  leaving_spine (with_child f t) k s = refl
  leaving_spine (with_name f n) k s = refl
  leaving_spine (with_number f n) k s = refl
  leaving_spine (with_text f t) k s = refl
  leaving_spine (hole p) k s = absurd s
  leaving_spine (ending l u) k s = absurd s
  leaving_spine (cell l e r) k s = absurd s
  leaving_spine anything k s = absurd s
  leaving_spine (observed f) k s = absurd s

  operator_around : (n child : Annotated) (k o : ℕ) (ps : List Part) → with_parts (operator o) ps ≡ tree_in n → IsFormed def (tree_in n) → Around n child k
      → IsFrameAround def n child k (frames.Op o (names_in ps) (map whole_in (below_in n)) k)
  operator_around n child k o ps made formed a =
      let (kind, (fits, plain)) = formed in
      let below = map whole_in (below_in n) in
      let many : length (children_of (tree_in n)) ≡ length below = as_many (children_of (tree_in n)) below a.are in
      let (op, found, takes) = takes_at def o ps (tree_in n) kind made fits plain below a.are a.usual in
      let spine : IsSpine (tree_in n) = subst IsSpine made (spine_parts (operator o) ps tt) in
      record {
        is = (is_node def o ps (tree_in n) kind made fits plain, refl, a.there, but_of k (children_of (tree_in n)) below a.within a.are);
        takes = λ low above of_low of_above s usual same.
            let (top, there, up) = kind_parts (operator o) ps above (subst (λ f. IsOfKind def f above) (sym made) of_above) in
            let child_kind : (whole_in child).kind ≡ low = one_kind def (tree_in child) (whole_in child).kind low a.of_child.kind of_low in (
              omega (arith, many, a.within),
              quiet_but k below a.silent,
              (
                op,
                found,
                record {
                  names_fit = takes.names_fit;
                  kinds_fit = put_kinds k s (whole_in child) below a.summary (same ∙ sym child_kind) ∙ takes.kinds_fit;
                  summaries = put_each (IsSummary def) k s below a.usual usual;
                },
              ),
              top,
              there,
              up,
            );
        cost = sym (leaving_spine (tree_in n) k spine);
      }

  -- ---- lists

  list_kind_of : (l : ℕ) (es : List Fragment) (u : Bool) (k : Kind) → IsOfKind def (list_of l es u) k → k ≡ kinds.List l
  list_kind_of l [] u k h = h
  list_kind_of l (e ∷ es) u k h = h

  leaving_list : (l : ℕ) (es : List Fragment) (u : Bool) (k : ℕ) → leaving (list_of l es u) k ≡ k + 1
  leaving_list l [] u k = refl
  leaving_list l (e ∷ es) u k = refl

  pub is_list : (l : ℕ) (es : List Fragment) (u : Bool) → IsList (list_of l es u)
  is_list l [] u = tt
  is_list l (e ∷ es) u = tt

  -- the list after the element, and what is known of it
  record Behind (l k : ℕ) (below : List SummaryParts) (rest : SummaryParts) (f t : Fragment) : Type 0 where
    element : IsElement def l (take k below) rest f t
    kind : rest.kind ≡ kinds.List l
    silent : IsSilent rest

  behind : (l : ℕ) (es : List Fragment) (u : Bool) (k : ℕ) (below : List SummaryParts) (s : SummaryParts) (rests : List SummaryParts) (t : Fragment) (rest : SummaryParts)
      → IsReal (list_of l es u) → AllSummaries def (children_of (list_of l es u)) below → AreOfSuffixes def (list_of l es u) below s rests
      → slice_get (children_of (list_of l es u)) k ≡ Some t → slice_get rests k ≡ Some rest → Behind l k below rest (list_of l es u) t
  behind l [] u k below s rests t rest real are h at there = absurd (none-some t at)
  behind l (e ∷ es) u k [] s rests t rest real are h at there = absurd are
  behind l (e ∷ es) u k (b ∷ bs) s [] t rest real are h at there = absurd h
  behind l (e ∷ es) u zero (b ∷ bs) s (x ∷ xs) t rest real are h at there =
      let same : x ≡ rest = same_Some x rest there in
      let one : e ≡ t = same_Some e t at in
      let of : IsSummaryOf def (list_of l es u) rest =
      subst (IsSummaryOf def (list_of l es u)) same (list_known def (list_of l es u) real.1 real.2 bs x xs are.1 h.1).0 in
      record { element = (refl, one, of); kind = list_kind_is def l es u rest of; silent = of.seen ∙ quiet (list_of l es u) real.1 }
  behind l (e ∷ es) u (suc k) (b ∷ bs) s (x ∷ xs) t rest real are h at there =
      let r = behind l es u k bs x xs t rest real.1 are.1 h.1 at there in
      record { element = (refl, are.0, r.element); kind = r.kind; silent = r.silent }

  list_around : (n child : Annotated) (k l : ℕ) (es : List Fragment) (u : Bool) (s : Shape) → s ≡ ListOf l es u → tree_of s ≡ tree_in n → IsFormed def (tree_in n)
      → Around n child k → (rest : SummaryParts) → slice_get (rests_in n) k ≡ Some rest
      → IsFrameAround def n child k (frames.Elem l (map whole_in (take k (below_in n))) rest)
  list_around n child k l es u s e there formed a rest at =
      let below = map whole_in (below_in n) in
      let made : list_of l es u ≡ tree_in n = sym (ap tree_of e) ∙ there in
      let T = elements_taken def s l es u (tree_in n) below e there formed a.are a.usual in
      let many : length (children_of (tree_in n)) ≡ length below = as_many (children_of (tree_in n)) below a.are in
      let front : take k below ≡ map whole_in (take k (below_in n)) = take-map whole_in k (below_in n) in
      let size : length (map whole_in (take k (below_in n))) ≡ k =
      ap length (sym front) ∙ length-take-le k below (omega (arith, many, a.within)) in
      let b = behind l es u k below (whole_in n) (rests_in n) (tree_in child) rest (subst IsReal (sym made) a.is_real)
      (subst (λ f. AllSummaries def (children_of f) below) (sym made) a.are)
      (list_answered def l es u below (whole_in n) (rests_in n)
      (subst (λ f. Rattle.psg_cache.specs.Noted.IsAnswered def f below (whole_in n) (rests_in n)) (sym made) a.parts.answered))
      (subst (λ f. slice_get (children_of f) k ≡ Some (tree_in child)) (sym made) a.there) at in
      record {
        is = (sym size, subst (λ xs. IsElement def l xs rest (tree_in n) (tree_in child)) front (subst (λ f. IsElement def l (take k below) rest f (tree_in child)) made b.element));
        takes = λ low above of_low of_above x usual same.
            let child_kind : (whole_in child).kind ≡ low = one_kind def (tree_in child) (whole_in child).kind low a.of_child.kind of_low in
            let element : (whole_in child).kind ≡ kinds.Phylum T.list.element =
            each_got (λ (z : SummaryParts). z.kind ≡ kinds.Phylum T.list.element) below k (whole_in child) T.element_kinds a.summary in
            let own : x.kind ≡ kinds.Phylum T.list.element = same ∙ sym child_kind ∙ element in (
              record {
                list = T.list;
                found = T.found;
                element_kind = own;
                rest_kind = b.kind;
                summaries = (usual, (each_got (IsSummary def) (rests_in n) k rest a.parts.usual.1 at, tt));
              },
              b.silent,
              list_kind_of l es u above (subst (λ f. IsOfKind def f above) (sym made) of_above),
              subst (AllByRecursion (TakesBefore def x.kind)) front
                  (all_front (TakesBefore def x.kind) k below
                  (all_three (λ (z : SummaryParts). z.kind ≡ x.kind) IsSilent (IsSummary def) (TakesBefore def x.kind) below (λ z p q r. record { same = p; silent = q; usual = r })
                  (all_kind (kinds.Phylum T.list.element) x.kind below (sym own) T.element_kinds) a.silent a.usual)),
            );
        cost = let m : leaving (tree_in n) k ≡ k + 1 = ap (λ f. leaving f k) (sym made) ∙ leaving_list l es u k in omega (arith, size, m);
      }

-- ---- as the calls need it

pub operator_frame_at : (n : Annotated) (k o : ℕ) (ps : List Part) (s : Shape) (frame : Frame) → s ≡ Op o ps → tree_of s ≡ tree_in n
    → frame ≡ frames.Op o (names_in ps) (map whole_in (below_in n)) k → IsFrameAt n k frame
operator_frame_at n k o ps s frame e there is def child noted formed at =
    subst (IsFrameAround def n child k) (sym is) (operator_around def n child k o ps (sym (ap tree_of e) ∙ there) formed (around def n child k noted formed at))

pub list_frame_at : (n : Annotated) (k l : ℕ) (es : List Fragment) (u : Bool) (s : Shape) (frame : Frame) (rest : SummaryParts) → s ≡ ListOf l es u → tree_of s ≡ tree_in n
    → slice_get (rests_in n) k ≡ Some rest → frame ≡ frames.Elem l (map whole_in (take k (below_in n))) rest → IsFrameAt n k frame
list_frame_at n k l es u s frame rest e there at is def child noted formed here =
    subst (IsFrameAround def n child k) (sym is) (list_around def n child k l es u s e there formed (around def n child k noted formed here) rest at)

-- ---- where there is no child

no_children : {X Y : Type 0} (f : X → Y) (xs : List X) (ys : List Y) (k : ℕ) → map f xs ≡ ys → length ys ≤ k → slice_get xs k ≡ None
no_children f [] ys k e h = refl
no_children f (x ∷ xs) [] k e h = absurd (let z : f x ∷ map f xs ≡ [] = e in cc)
no_children f (x ∷ xs) (y ∷ ys) zero e h = absurd (omega (arith, h))
no_children f (x ∷ xs) (y ∷ ys) (suc k) e h = no_children f xs ys k (let z : map f xs ≡ ys = cc in z) (omega (arith, h))

pub no_frame_hole : (n : Annotated) (k p : ℕ) (s : Shape) → s ≡ Hole p → tree_of s ≡ tree_in n → IsNoFrameAt n k
no_frame_hole n k p s e there def noted formed =
    let made : hole p ≡ tree_in n = sym (ap tree_of e) ∙ there in
    no_children tree_in (below_in n) [] k ((noted_parts def n noted).0.children ∙ ap children_of (sym made)) (omega arith)

-- a list has a suffix after each of its elements
pub suffixes_many : (def : Definition) (l : ℕ) (es : List Fragment) (u : Bool) (below : List SummaryParts) (s : SummaryParts) (rests : List SummaryParts)
    → AreOfSuffixes def (list_of l es u) below s rests → length rests ≡ length es
suffixes_many def l [] u [] s [] h = refl
suffixes_many def l [] u [] s (x ∷ xs) h = absurd h
suffixes_many def l [] u (b ∷ bs) s rests h = absurd h
suffixes_many def l (e ∷ es) u [] s rests h = absurd h
suffixes_many def l (e ∷ es) u (b ∷ bs) s [] h = absurd h
suffixes_many def l (e ∷ es) u (b ∷ bs) s (x ∷ xs) h = ap suc (suffixes_many def l es u bs x xs h.1)

get_past : {X : Type 0} (xs : List X) (k : ℕ) → (k < length xs → ⊥) → slice_get xs k ≡ None
get_past [] k h = refl
get_past (x ∷ xs) zero h = absurd (h (omega arith))
get_past (x ∷ xs) (suc k) h = get_past xs k (λ l. h (omega (arith, l)))

pub no_frame_list : (n : Annotated) (k l : ℕ) (es : List Fragment) (u : Bool) (s : Shape) → s ≡ ListOf l es u → tree_of s ≡ tree_in n
    → (k < length (below_in n) → k < length (rests_in n) → ⊥) → IsNoFrameAt n k
no_frame_list n k l es u s e there none def noted formed =
    let parts = noted_parts def n noted in
    let made : list_of l es u ≡ tree_in n = sym (ap tree_of e) ∙ there in
    let below = map whole_in (below_in n) in
    let rests : length (rests_in n) ≡ length es =
    suffixes_many def l es u below (whole_in n) (rests_in n)
    (list_answered def l es u below (whole_in n) (rests_in n) (subst (λ f. Rattle.psg_cache.specs.Noted.IsAnswered def f below (whole_in n) (rests_in n)) (sym made) parts.0.answered)) in
    let many : length (below_in n) ≡ length es =
    sym (length-map (below_in n) tree_in) ∙ ap length (parts.0.children ∙ ap children_of (sym made) ∙ children-list l es u) in
    get_past (below_in n) k (λ l. none l (omega (arith, l, many, rests)))

-- the frame of a list, by its parts
pub list_frame_of : (n : Annotated) (k l : ℕ) (es : List Fragment) (u : Bool) (s : Shape) (below : List Annotated) (rests : List SummaryParts) → s ≡ ListOf l es u → tree_of s ≡ tree_in n
    → below ≡ below_in n → rests ≡ rests_in n → (o : Option Frame)
    → MatchOption o (k < length below → k < length rests → ⊥) (λ frame. (rest : SummaryParts) × (slice_get rests k ≡ Some rest) × (frame ≡ frames.Elem l (map whole_in (take k below)) rest))
    → MatchOption o (IsNoFrameAt n k) (IsFrameAt n k)
list_frame_of n k l es u s below rests e there b r None h =
    no_frame_list n k l es u s e there (subst (λ xs. k < length xs → k < length (rests_in n) → ⊥) b (subst (λ xs. k < length below → k < length xs → ⊥) r h))
list_frame_of n k l es u s below rests e there b r (Some frame) (rest, at, is) =
    list_frame_at n k l es u s frame rest e there (subst (λ xs. slice_get xs k ≡ Some rest) r at) (is ∙ ap (λ xs. frames.Elem l (map whole_in (take k xs)) rest) b)
