-- What stands at each node of a note stands for its tree.
use Rattle.std.proofs.Common.{◌≡◌, inl, inr, ℕ, ◌+◌, List, [], ◌∷◌, ◌++◌, map, Some, refl, sym, subst}
use Rattle.std.specs.List.{AllByRecursion}
use Rattle.psg_grammar.specs.declared.types.Kind.{Kind}
use Rattle.psg_grammar.specs.declared.types.Item.{Item}
use Rattle.psg_grammar.specs.declared.types.Item.TheVariants as items
use Rattle.psg_grammar.specs.declared.types.Definition.{Definition}
use Rattle.psg_grammar.specs.Fragments.{Fragment, hole, ending, cell, operator, with_child, with_name, with_number, with_text, anything, observed, children_of, top_operator}
use Rattle.psg_grammar.specs.Paths.{Path, IsList}
use Rattle.psg_grammar.specs.Steps.{AreWithin, own_steps, list_steps, steps_of}
use Rattle.psg_grammar.specs.WellFormed.{Fits, IsPlain}
use Rattle.psg_eval.specs.declared.summary.SummaryParts.{SummaryParts}
use Rattle.psg_eval.specs.Trees.{HasParts, IsNode, own_names}
use Rattle.psg_eval.specs.Summaries.{AllSummaries, IsSummaryOf}
use Rattle.psg_cache.specs.Notes.{IsFormed}
use Rattle.psg_cache.specs.Walks.{each_steps, top_steps}
use Rattle.psg_cache.proofs.RealTrees.{IsReal, IsSpine, real}
use Rattle.psg_cache.proofs.ChildLaws.{formed_below}
use Rattle.psg_cache.proofs.StepLaws.{within-none, within-append, own_within, steps_split}
use Rattle.psg_cache.specs.Annotated.{Annotated, topped, tree_in, whole_in, with_below}
use Rattle.psg_cache.specs.Noted.{AreOfSuffixes, IsAnswered, IsOfNodes, IsNoted, IsTopped}
use Rattle.psg_cache.proofs.Inducting.{noted_by, tree-with, whole-with}

-- the operator of some parts
spine_top : (f : Fragment) → IsSpine f → (o : ℕ) × (top_operator f ≡ Some o)
spine_top (operator o) s = (o, refl)
spine_top (with_child f t) s = spine_top f s
spine_top (with_name f n) s = spine_top f s
spine_top (with_number f n) s = spine_top f s
spine_top (with_text f t) s = spine_top f s
spine_top (hole p) s = absurd s
spine_top (ending l u) s = absurd s
spine_top (cell l e r) s = absurd s
spine_top anything s = absurd s
spine_top (observed f) s = absurd s

module _ (def : Definition) where
  parts_of : (f : Fragment) (more : List Item) (kind : Kind) → Fits def f more kind → IsPlain f → IsSpine f → HasParts def f more
  parts_of (operator o) more kind (op, found, e, k) plain s = (op, found, e)
  parts_of (with_child f t) more kind (k, hf, ht) plain s =
      (k, parts_of f (items.Slot k ∷ more) kind hf plain.0 s)
  parts_of (with_name f n) more kind (inl (a, h), name) plain s = inl (a, parts_of f (items.Refers a ∷ more) kind h plain s)
  parts_of (with_name f n) more kind (inr (a, h), name) plain s = inr (a, parts_of f (items.Declares a ∷ more) kind h plain s)
  parts_of (with_number f n) more kind (h, small) plain s = parts_of f (items.Number ∷ more) kind h plain s
  parts_of (with_text f t) more kind (h, text) plain s = parts_of f (items.Text ∷ more) kind h plain s
  parts_of (hole p) more kind h plain s = absurd s
  parts_of (ending l u) more kind h plain s = absurd s
  parts_of (cell l e r) more kind h plain s = absurd s
  parts_of anything more kind h plain s = absurd s
  parts_of (observed f) more kind h plain s = absurd s

  -- the summary is that of the tree, and its own steps pass no limit
  abbrev OfTop : Fragment → SummaryParts → Type 0
  OfTop f s = IsSummaryOf def f s × ((path : Path) → AreWithin def (top_steps def path f))

  abbrev pub OfTree : Fragment → SummaryParts → Type 0
  OfTree f s = IsSummaryOf def f s × ((path : Path) → AreWithin def (steps_of def path f))

  spine_known : (f : Fragment) → IsFormed def f → IsSpine f → ((path : Path) → top_steps def path f ≡ own_steps def path f)
      → (below : List SummaryParts) (s : SummaryParts) → AllSummaries def (children_of f) below → IsOfNodes def f below s → OfTop f s
  spine_known f (kind, (shape, plain)) spine top below s are h =
      let (o, is) = spine_top f spine in
      let node : IsNode def o (own_names f) f = record { top = is; parts = parts_of f [] kind shape plain spine; own = refl } in
      let answer = h o f is node are in
      (answer.0, λ path. subst (AreWithin def) (sym (top path)) (own_within def path f answer.1))

  pub list_known : (f : Fragment) → IsReal f → IsList f → (below : List SummaryParts) (s : SummaryParts) (rests : List SummaryParts)
      → AllSummaries def (children_of f) below → AreOfSuffixes def f below s rests
      → IsSummaryOf def f s × ((path : Path) → AreWithin def (list_steps def path f))
  list_known (ending l u) real list [] s [] are h = (h.0, λ path. own_within def path (ending l u) h.1)
  list_known (ending l u) real list [] s (t ∷ ts) are h = absurd h
  list_known (ending l u) real list (b ∷ bs) s rests are h = absurd are
  list_known (cell l e r) real list [] s rests are h = absurd are
  list_known (cell l e r) real list (b ∷ bs) s [] are h = absurd h
  list_known (cell l e r) real list (b ∷ bs) s (t ∷ ts) are h =
      let behind = list_known r real.1 real.2 bs t ts are.1 h.1 in
      let answer = h.0 e r are.0 behind.0 in
      (answer.0, λ path. within-append def (list_steps def path r) (own_steps def path (cell l e r)) (behind.1 path) (own_within def path (cell l e r) answer.1))
  list_known (hole p) real list below s rests are h = absurd list
  list_known (operator o) real list below s rests are h = absurd list
  list_known (with_child f t) real list below s rests are h = absurd list
  list_known (with_name f n) real list below s rests are h = absurd list
  list_known (with_number f n) real list below s rests are h = absurd list
  list_known (with_text f t) real list below s rests are h = absurd list
  list_known anything real list below s rests are h = absurd list
  list_known (observed f) real list below s rests are h = absurd list

  top_known : (f : Fragment) → IsFormed def f → IsReal f → (below : List SummaryParts) (s : SummaryParts) (rests : List SummaryParts)
      → AllSummaries def (children_of f) below → IsAnswered def f below s rests → OfTop f s
  top_known (hole p) formed is below s rests are h = (h.0.0, λ path. own_within def path (hole p) h.0.1)
  top_known (ending l u) formed is below s rests are h = list_known (ending l u) is tt below s rests are h
  top_known (cell l e r) formed is below s rests are h = list_known (cell l e r) is tt below s rests are h
  top_known (operator o) formed is below s rests are h = spine_known (operator o) formed tt (λ path. refl) below s are h.0
  top_known (with_child f t) formed is below s rests are h = spine_known (with_child f t) formed is.2 (λ path. refl) below s are h.0
  top_known (with_name f n) formed is below s rests are h = spine_known (with_name f n) formed is.1 (λ path. refl) below s are h.0
  top_known (with_number f n) formed is below s rests are h = spine_known (with_number f n) formed is.1 (λ path. refl) below s are h.0
  top_known (with_text f t) formed is below s rests are h = spine_known (with_text f t) formed is.1 (λ path. refl) below s are h.0
  top_known anything formed is below s rests are h = absurd is
  top_known (observed f) formed is below s rests are h = absurd is

  abbrev pub Holds : Annotated → Type 0
  Holds n = IsFormed def (tree_in n) → OfTree (tree_in n) (whole_in n)

  pub children_known : (below : List Annotated) → AllByRecursion (IsFormed def) (map tree_in below) → AllByRecursion Holds below
      → AllSummaries def (map tree_in below) (map whole_in below)
  children_known [] formed h = tt
  children_known (n ∷ ns) formed h = ((h.0 formed.0).0, children_known ns formed.1 h.1)

  pub children_within : (below : List Annotated) → AllByRecursion (IsFormed def) (map tree_in below) → AllByRecursion Holds below
      → (path : Path) (k : ℕ) → AreWithin def (each_steps def path k (map tree_in below))
  children_within [] formed h path k = within-none def
  children_within (n ∷ ns) formed h path k =
      within-append def (steps_of def (path ++ k ∷ []) (tree_in n)) (each_steps def path (k + 1) (map tree_in ns))
      ((h.0 formed.0).1 (path ++ k ∷ [])) (children_within ns formed.1 h.1 path (k + 1))

  step : (tree : Fragment) (whole : SummaryParts) (rests : List SummaryParts) (weight : ℕ) (below : List Annotated)
      → IsTopped def tree whole rests weight below → AllByRecursion (IsNoted def) below → AllByRecursion Holds below → Holds (with_below (topped tree whole rests weight) below)
  step tree whole rests weight below t noted h formed' =
      let node : Annotated = topped tree whole rests weight in
      let n : Annotated = with_below node below in
      let T : tree_in n ≡ tree = tree-with node below in
      let W : whole_in n ≡ whole = whole-with node below in
      let formed : IsFormed def tree = subst (IsFormed def) T formed' in
      let is : IsReal tree = real def tree formed in
      let each : AllByRecursion (IsFormed def) (map tree_in below) =
      subst (AllByRecursion (IsFormed def)) (sym t.children) (formed_below def tree [] formed.0 formed.1.0 formed.1.1) in
      let are : AllSummaries def (children_of tree) (map whole_in below) =
      subst (λ cs. AllSummaries def cs (map whole_in below)) t.children (children_known below each h) in
      let top = top_known tree formed is (map whole_in below) whole rests are t.answered in
      let clean : (path : Path) → AreWithin def (steps_of def path tree) =
      λ path. subst (AreWithin def) (sym (steps_split def path tree is))
      (within-append def (each_steps def path 0 (children_of tree)) (top_steps def path tree)
      (subst (λ cs. AreWithin def (each_steps def path 0 cs)) t.children (children_within below each h path 0)) (top.1 path)) in
      let made : OfTree tree whole = (top.0, clean) in
      subst (λ f. OfTree f (whole_in n)) (sym T) (subst (OfTree tree) (sym W) made)

  -- the summary of a noted tree is its summary, and none of its steps passes the limit, wherever it stands
  pub noted_known : (n : Annotated) → IsNoted def n → IsFormed def (tree_in n)
      → IsSummaryOf def (tree_in n) (whole_in n) × ((path : Path) → AreWithin def (steps_of def path (tree_in n)))
  noted_known n h = noted_by def Holds step n h

  pub holds : (below : List Annotated) → AllByRecursion (IsNoted def) below → AllByRecursion Holds below
  holds [] h = tt
  holds (n ∷ ns) h = (noted_known n h.0, holds ns h.1)

  -- the children of a noted tree are trees with their summaries
  pub below_known : (tree : Fragment) (below : List Annotated) → IsFormed def tree → map tree_in below ≡ children_of tree
      → AllByRecursion (IsNoted def) below
      → AllByRecursion (IsFormed def) (map tree_in below) × AllSummaries def (children_of tree) (map whole_in below)
  below_known tree below formed children noted =
      let each : AllByRecursion (IsFormed def) (map tree_in below) =
      subst (AllByRecursion (IsFormed def)) (sym children) (formed_below def tree [] formed.0 formed.1.0 formed.1.1) in
      (each, subst (λ cs. AllSummaries def cs (map whole_in below)) children (children_known below each (holds below noted)))
