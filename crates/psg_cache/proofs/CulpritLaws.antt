-- The culprits of a tree from those of its children: those at its top, where the children are open, or none.
use Rattle.std.proofs.Common.{◌≡◌, inl, inr, ℕ, suc, ◌+◌, List, [], ◌∷◌, ◌++◌, map, length, refl, sym, ◌∙◌, ap, ap₂, subst, append_assoc, append-nil, arith}
use Rattle.std.specs.List.{AllByRecursion}
use Rattle.psg_terms.specs.Terms.{Term}
use Rattle.psg_grammar.specs.declared.types.Definition.{Definition}
use Rattle.psg_grammar.specs.Fragments.{Fragment, hole, ending, cell, operator, with_child, with_name, with_number, with_text, anything, observed, children_of}
use Rattle.psg_grammar.specs.Paths.{Path, IsList}
use Rattle.psg_grammar.specs.Marks.{Located, nodes_from, nodes_below, Chosen, nothing, taken, passed, path_of, IsCulprit, AreCulprits}
use Rattle.psg_grammar.specs.Open.{IsOpen}
use Rattle.psg_grammar.specs.Relations.{IsRelationOf}
use Rattle.psg_eval.specs.declared.summary.SummaryParts.{SummaryParts}
use Rattle.psg_eval.specs.Summaries.{AllSummaries, IsSummaryOf}
use Rattle.psg_cache.specs.Walks.{each_nodes, HaveRows, IsBlame}
use Rattle.psg_cache.proofs.Each.{each_append, each_back, each_front, not_nil}
use Rattle.psg_cache.proofs.RealTrees.{IsReal, IsSpine}
use Rattle.psg_cache.proofs.OpenTrees.{children_open, open_rows, rows_open}

pub each_nodes-push : (path : Path) (n : ℕ) (cs : List Fragment) (c : Fragment)
    → each_nodes path n (cs ++ c ∷ []) ≡ each_nodes path n cs ++ nodes_from (path ++ (n + length cs) ∷ []) c
each_nodes-push path n [] c =
    append-nil (nodes_from (path ++ n ∷ []) c) ∙ ap (λ k. nodes_from (path ++ k ∷ []) c)
    (let e : n ≡ n + 0 = omega arith in e)
each_nodes-push path n (d ∷ cs) c =
    let e : n + 1 + length cs ≡ n + suc (length cs) = omega arith in
    ap (λ l. nodes_from (path ++ n ∷ []) d ++ l)
    (each_nodes-push path (n + 1) cs c ∙ ap (λ k. each_nodes path (n + 1) cs ++ nodes_from (path ++ k ∷ []) c) e)
    ∙ sym (append_assoc (nodes_from (path ++ n ∷ []) d) (each_nodes path (n + 1) cs)
    (nodes_from (path ++ (n + suc (length cs)) ∷ []) c))

spine_nodes : (path : Path) (f : Fragment) → IsReal f → IsSpine f
    → nodes_below path 0 f ≡ each_nodes path 0 (children_of f)
spine_nodes path (operator o) real s = refl
spine_nodes path (with_child f t) real s =
    let e : length (children_of f) ≡ 0 + length (children_of f) = omega arith in
    ap₂ (λ xs n. xs ++ nodes_from (path ++ n ∷ []) t) (spine_nodes path f real.0 s) e
    ∙ sym (each_nodes-push path 0 (children_of f) t)
spine_nodes path (with_name f n) real s = spine_nodes path f real.0 s
spine_nodes path (with_number f n) real s = spine_nodes path f real.0 s
spine_nodes path (with_text f t) real s = spine_nodes path f real.0 s
spine_nodes path (hole p) real s = absurd s
spine_nodes path (ending l u) real s = absurd s
spine_nodes path (cell l e r) real s = absurd s
spine_nodes path anything real s = absurd s
spine_nodes path (observed f) real s = absurd s

list_nodes : (path : Path) (n : ℕ) (f : Fragment) → IsReal f → IsList f
    → nodes_below path n f ≡ each_nodes path n (children_of f)
list_nodes path n (ending l u) real s = refl
list_nodes path n (cell l e r) real s =
    ap (λ x. nodes_from (path ++ n ∷ []) e ++ x) (list_nodes path (n + 1) r real.1 real.2)
list_nodes path n (hole p) real s = absurd s
list_nodes path n (operator o) real s = absurd s
list_nodes path n (with_child f t) real s = absurd s
list_nodes path n (with_name f x) real s = absurd s
list_nodes path n (with_number f x) real s = absurd s
list_nodes path n (with_text f x) real s = absurd s
list_nodes path n anything real s = absurd s
list_nodes path n (observed f) real s = absurd s

pub below_nodes : (path : Path) (f : Fragment) → IsReal f → nodes_below path 0 f ≡ each_nodes path 0 (children_of f)
below_nodes path (hole p) real = refl
below_nodes path (ending l u) real = refl
below_nodes path (cell l e r) real = list_nodes path 0 (cell l e r) real tt
below_nodes path (operator o) real = refl
below_nodes path (with_child f t) real = spine_nodes path (with_child f t) real real.2
below_nodes path (with_name f n) real = spine_nodes path (with_name f n) real real.1
below_nodes path (with_number f n) real = spine_nodes path (with_number f n) real real.1
below_nodes path (with_text f t) real = spine_nodes path (with_text f t) real real.1
below_nodes path anything real = absurd real
below_nodes path (observed f) real = absurd real

from_top : (path : Path) (f : Fragment) → nodes_from path f ≡ record { path = path; node = f } ∷ nodes_below path 0 f
from_top path (hole p) = refl
from_top path (ending l u) = refl
from_top path (cell l e r) = refl
from_top path (operator o) = refl
from_top path (with_child f t) = refl
from_top path (with_name f n) = refl
from_top path (with_number f n) = refl
from_top path (with_text f t) = refl
from_top path anything = refl
from_top path (observed f) = refl

pub real_children : (f : Fragment) → IsReal f → AllByRecursion IsReal (children_of f)
real_children (hole p) real = tt
real_children (ending l u) real = tt
real_children (cell l e r) real = (real.0, real_children r real.1)
real_children (operator o) real = tt
real_children (with_child f t) real = each_append IsReal (children_of f) (t ∷ []) (real_children f real.0) (real.1, tt)
real_children (with_name f n) real = real_children f real.0
real_children (with_number f n) real = real_children f real.0
real_children (with_text f t) real = real_children f real.0
real_children anything real = absurd real
real_children (observed f) real = absurd real

chosen-append : {X : Type 0} (P : X → Type 0) {xs ys ps qs : List X} → Chosen P xs ps → Chosen P ys qs
    → Chosen P (xs ++ ys) (ps ++ qs)
chosen-append P nothing d = d
chosen-append P (taken p c) d = taken p (chosen-append P c d)
chosen-append P (passed p c) d = passed p (chosen-append P c d)

paths-append : (xs ys : List Located) → map path_of (xs ++ ys) ≡ map path_of xs ++ map path_of ys
paths-append [] ys = refl
paths-append (x ∷ xs) ys = ap (λ l. path_of x ∷ l) (paths-append xs ys)

module _ (def : Definition) where
  abbrev OpenNode : Located → Type 0
  OpenNode l = IsOpen def l.node

  mutual
    -- all nodes of an open tree are open
    pub open_from : (path : Path) (f : Fragment) → IsReal f → IsOpen def f → AllByRecursion OpenNode (nodes_from path f)
    open_from path (hole p) real o = (o, tt)
    open_from path (ending l u) real o = (o, tt)
    open_from path (cell l e r) real o =
        let h = children_open def (cell l e r) real o in (
          o,
          each_append OpenNode (nodes_from (path ++ 0 ∷ []) e) (nodes_below path 1 r)
              (open_from (path ++ 0 ∷ []) e real.0 h.0) (open_under path 1 r real.1 h.1),
        )
    open_from path (operator o) real h = (h, tt)
    open_from path (with_child f t) real o =
        let h = children_open def (with_child f t) real o in (
          o,
          each_append OpenNode (nodes_below path 0 f) (nodes_from (path ++ length (children_of f) ∷ []) t)
              (open_under path 0 f real.0 (each_front (IsOpen def) (children_of f) (t ∷ []) h))
              (open_from (path ++ length (children_of f) ∷ []) t real.1
              (each_back (IsOpen def) (children_of f) (t ∷ []) h).0),
        )
    open_from path (with_name f n) real o = (o, open_under path 0 f real.0 (children_open def (with_name f n) real o))
    open_from path (with_number f n) real o =
        (o, open_under path 0 f real.0 (children_open def (with_number f n) real o))
    open_from path (with_text f t) real o = (o, open_under path 0 f real.0 (children_open def (with_text f t) real o))
    open_from path anything real o = absurd real
    open_from path (observed f) real o = absurd real

    pub open_under : (path : Path) (n : ℕ) (f : Fragment) → IsReal f → AllByRecursion (IsOpen def) (children_of f)
        → AllByRecursion OpenNode (nodes_below path n f)
    open_under path n (hole p) real h = tt
    open_under path n (ending l u) real h = tt
    open_under path n (cell l e r) real h =
        each_append OpenNode (nodes_from (path ++ n ∷ []) e) (nodes_below path (n + 1) r)
        (open_from (path ++ n ∷ []) e real.0 h.0) (open_under path (n + 1) r real.1 h.1)
    open_under path n (operator o) real h = tt
    open_under path n (with_child f t) real h =
        each_append OpenNode (nodes_below path n f) (nodes_from (path ++ length (children_of f) ∷ []) t)
        (open_under path n f real.0 (each_front (IsOpen def) (children_of f) (t ∷ []) h))
        (open_from (path ++ length (children_of f) ∷ []) t real.1 (each_back (IsOpen def) (children_of f) (t ∷ []) h).0)
    open_under path n (with_name f x) real h = open_under path n f real.0 h
    open_under path n (with_number f x) real h = open_under path n f real.0 h
    open_under path n (with_text f x) real h = open_under path n f real.0 h
    open_under path n anything real h = absurd real
    open_under path n (observed f) real h = absurd real

  chosen-none : {nodes found : List Located} → AllByRecursion OpenNode nodes → Chosen (IsCulprit def) nodes found
      → found ≡ []
  chosen-none h nothing = refl
  chosen-none h (taken p c) = absurd (p.0 h.0)
  chosen-none h (passed p c) = chosen-none h.1 c

  -- where all nodes are open there are no culprits
  pub no_culprits : (nodes : List Located) (paths : List Path) → AllByRecursion OpenNode nodes
      → AreCulprits def nodes paths → paths ≡ []
  no_culprits nodes paths h (found, chosen, e) = e ∙ ap (map path_of) (chosen-none h chosen)

  pub culprits-append : (xs ys : List Located) (ps qs : List Path) → AreCulprits def xs ps → AreCulprits def ys qs
      → AreCulprits def (xs ++ ys) (ps ++ qs)
  culprits-append xs ys ps qs (found, chosen, e) (others, rest, d) = (
    found ++ others,
    chosen-append (IsCulprit def) chosen rest,
    ap₂ (λ p q. p ++ q) e d
        ∙ sym (paths-append found others),
  )

  pub culprits-none : AreCulprits def [] []
  culprits-none = ([], nothing, refl)

  -- a tree is wrong where its relation is empty
  pub closed_rows : (f : Fragment) → IsReal f → (rows : List (List Term)) → IsRelationOf def f rows
      → (IsOpen def f → ⊥) → rows ≡ []
  closed_rows f real [] rel h = refl
  closed_rows f real (row ∷ rows) rel h = absurd (h (rows_open def f real (row ∷ rows) rel (not_nil row rows)))

  all_open : (cs : List Fragment) (summaries : List SummaryParts) → AllByRecursion IsReal cs → AllSummaries def cs summaries
      → HaveRows summaries → AllByRecursion (IsOpen def) cs
  all_open [] [] real s h = tt
  all_open [] (k ∷ ks) real s h = absurd s
  all_open (c ∷ cs) [] real s h = absurd s
  all_open (c ∷ cs) (k ∷ ks) real s h = (rows_open def c real.0 k.rel s.0.rows h.0, all_open cs ks real.1 s.1 h.1)

  all_rows : (cs : List Fragment) (summaries : List SummaryParts) → AllSummaries def cs summaries
      → AllByRecursion (IsOpen def) cs → HaveRows summaries
  all_rows [] [] s h = tt
  all_rows [] (k ∷ ks) s h = absurd s
  all_rows (c ∷ cs) [] s h = absurd s
  all_rows (c ∷ cs) (k ∷ ks) s h = (open_rows def c k.rel s.0.rows h.0, all_rows cs ks s.1 h.1)

  -- the culprits of the children and then the top, which is one only where they have none
  pub tree_culprits : (path : Path) (f : Fragment) → IsReal f → (s : SummaryParts) → IsSummaryOf def f s
      → (below : List SummaryParts) → AllSummaries def (children_of f) below
      → (more pushed : List Path) → AreCulprits def (each_nodes path 0 (children_of f)) more
      → IsBlame s below path pushed
      → AreCulprits def (nodes_from path f) (more ++ pushed)
  tree_culprits path f real s summary below are more pushed culprits (inl ((empty, rows), p)) =
      let children = all_open (children_of f) below (real_children f real) are rows in
      let nodes = subst (AllByRecursion OpenNode) (below_nodes path f real) (open_under path 0 f real children) in
      let none : more ≡ [] = no_culprits (each_nodes path 0 (children_of f)) more nodes culprits in
      let (found, chosen, e) = culprits in
      let here : IsCulprit def (record { path = path; node = f }) =
      (λ o. open_rows def f s.rel summary.rows o empty, children) in
      let is : more ++ pushed ≡ path ∷ more = ap₂ (λ x y. x ++ y) none p ∙ ap (λ x. path ∷ x) (sym none) in
      subst (λ x. AreCulprits def x (more ++ pushed))
      (sym (from_top path f ∙ ap (λ l. record { path = path; node = f } ∷ l) (below_nodes path f real)))
      (record { path = path; node = f } ∷ found, taken here chosen, is ∙ ap (λ x. path ∷ x) e)
  tree_culprits path f real s summary below are more pushed culprits (inr (not_here, p)) =
      let (found, chosen, e) = culprits in
      let passes : IsCulprit def (record { path = path; node = f }) → ⊥ =
      λ h. not_here (closed_rows f real s.rel summary.rows h.0, all_rows (children_of f) below are h.1) in
      let is : more ++ pushed ≡ more = ap (λ x. more ++ x) p ∙ append-nil more in
      subst (λ x. AreCulprits def x (more ++ pushed))
      (sym (from_top path f ∙ ap (λ l. record { path = path; node = f } ∷ l) (below_nodes path f real)))
      (found, passed passes chosen, is ∙ e)
