-- The nodes at which a noted tree goes wrong are found by descending where a relation has no row.
use Rattle.std.proofs.Common.{◌↔◌, ◌≡◌, inl, inr, ℕ, ◌+◌, List, [], ◌∷◌, ◌++◌, length, map, refl, sym, ◌∙◌, ap, subst, append_assoc, append-nil}
use Rattle.std.proofs.lemmas.List.{length-append}
use Rattle.std.specs.List.{AllByRecursion}
use Rattle.psg_terms.specs.Terms.{Term}
use Rattle.psg_grammar.specs.declared.types.Definition.{Definition}
use Rattle.psg_grammar.specs.Fragments.{Fragment, children_of}
use Rattle.psg_grammar.specs.Marks.{nodes_from, AreCulprits}
use Rattle.psg_grammar.specs.Paths.{Path}
use Rattle.psg_eval.specs.declared.summary.SummaryParts.{SummaryParts}
use Rattle.psg_eval.specs.Summaries.{AllSummaries, IsSummaryOf}
use Rattle.psg_grammar.specs.Open.{IsOpen}
use Rattle.psg_cache.specs.Notes.{IsFormed}
use Rattle.psg_cache.specs.Walks.{each_nodes, HaveRows, IsBlame}
use Rattle.psg_cache.proofs.Each.{not_nil}
use Rattle.psg_cache.proofs.RealTrees.{real}
use Rattle.psg_cache.proofs.CulpritLaws.{culprits-append, culprits-none, tree_culprits}
use Rattle.psg_cache.proofs.OpenTrees.{children_open, open_rows, rows_open}
use Rattle.psg_cache.specs.Annotated.{Annotated, topped, above, tree_in, whole_in, below_in, with_below}
use Rattle.psg_cache.specs.Noted.{IsNoted, IsTopped}
use Rattle.psg_cache.specs.Blames.{blamed_at, blamed_below, culprits_in, or_itself}
use Rattle.psg_cache.proofs.Inducting.{noted_by, noted_with, tree-with, whole-with}
use Rattle.psg_cache.proofs.NoteLaws.{below_known, noted_known}

-- the culprits of notes that follow one another
abbrev pub blamed_each : Path → ℕ → List Annotated → List Path
blamed_each path k [] = []
blamed_each path k (c ∷ cs) =
    blamed_at (whole_in c) (path ++ k ∷ []) (blamed_below (path ++ k ∷ []) c) ++ blamed_each path (k + 1) cs

blamed-with : (path : Path) (n : Annotated) (cs : List Annotated)
    → blamed_below path (with_below n cs) ≡ blamed_below path n ++ blamed_each path (length (below_in n)) cs
blamed-with path n [] = sym (append-nil (blamed_below path n))
blamed-with path n (c ∷ cs) =
    let at : Path = path ++ length (below_in n) ∷ [] in
    let here : List Path = blamed_at (whole_in c) at (blamed_below at c) in
    let many : length (below_in n ++ c ∷ []) ≡ length (below_in n) + 1 = length-append (below_in n) (c ∷ []) in
    blamed-with path (above n c) cs
    ∙ ap (λ k. (blamed_below path n ++ here) ++ blamed_each path k cs) many
    ∙ append_assoc (blamed_below path n) here (blamed_each path (length (below_in n) + 1) cs)

some_itself : (path : Path) (ps : List Path) → or_itself path ps ≡ [] → ⊥
some_itself path [] e = not_nil path [] e
some_itself path (p ∷ ps) e = not_nil p ps e

-- no tree is blamed just where each has a row
pub blamed-rows : (s : SummaryParts) (path : Path) (below : List Path) → (s.rel ≡ [] → ⊥) → blamed_at s path below ≡ []
blamed-rows s path below h = go s.rel refl where
  go : (rows : List (List Term)) → s.rel ≡ rows → blamed_at s path below ≡ []
  go [] e = absurd (h e)
  go (row ∷ rows) e = ap (λ r. blamed_at (record { kind = s.kind; header = s.header; seen = s.seen; rel = r }) path below) e

pub rows-blamed : (s : SummaryParts) (path : Path) (below : List Path) → blamed_at s path below ≡ [] → s.rel ≡ [] → ⊥
rows-blamed s path below e empty =
    some_itself path below (sym (ap (λ r. blamed_at (record { kind = s.kind; header = s.header; seen = s.seen; rel = r }) path below) empty) ∙ e)

-- no tree is blamed just where the whole has a row
pub none_blamed : (n : Annotated) → (culprits_in n ≡ []) ↔ ((whole_in n).rel ≡ [] → ⊥)
none_blamed n =
    (rows-blamed (whole_in n) [] (blamed_below [] n), blamed-rows (whole_in n) [] (blamed_below [] n))

front_nil : {X : Type 0} (xs ys : List X) → xs ++ ys ≡ [] → (xs ≡ []) × (ys ≡ [])
front_nil [] ys e = (refl, e)
front_nil (x ∷ xs) ys e = absurd (not_nil x (xs ++ ys) e)

each-rows : (path : Path) (k : ℕ) (cs : List Annotated) → HaveRows (map whole_in cs) → blamed_each path k cs ≡ []
each-rows path k [] h = refl
each-rows path k (c ∷ cs) h =
    ap (λ l. l ++ blamed_each path (k + 1) cs) (blamed-rows (whole_in c) (path ++ k ∷ []) (blamed_below (path ++ k ∷ []) c) h.0)
    ∙ each-rows path (k + 1) cs h.1

rows-each : (path : Path) (k : ℕ) (cs : List Annotated) → blamed_each path k cs ≡ [] → HaveRows (map whole_in cs)
rows-each path k [] e = tt
rows-each path k (c ∷ cs) e =
    let both = front_nil (blamed_at (whole_in c) (path ++ k ∷ []) (blamed_below (path ++ k ∷ []) c)) (blamed_each path (k + 1) cs) e in
    (rows-blamed (whole_in c) (path ++ k ∷ []) (blamed_below (path ++ k ∷ []) c) both.0, rows-each path (k + 1) cs both.1)

-- whether this tree is blamed, beside those below
blame_told : (s : SummaryParts) (below : List SummaryParts) (path : Path) (more : List Path) → (more ≡ [] → HaveRows below) → (HaveRows below → more ≡ [])
    → ((s.rel ≡ [] → ⊥) → more ≡ []) → (pushed : List Path) × IsBlame s below path pushed × (more ++ pushed ≡ blamed_at s path more)
blame_told s below path more rows none opens = go s.rel refl more refl where
  go : (r : List (List Term)) → s.rel ≡ r → (m : List Path) → more ≡ m
      → (pushed : List Path) × IsBlame s below path pushed × (more ++ pushed ≡ blamed_at s path more)
  go [] e [] f = (
    path ∷ [],
    inl ((e, rows f), refl),
    ap (λ m. m ++ path ∷ []) f ∙ ap (or_itself path) (sym f)
        ∙ sym (ap (λ x. blamed_at (record { kind = s.kind; header = s.header; seen = s.seen; rel = x }) path more) e),
  )
  go [] e (p ∷ ps) f = (
    [],
    inr ((λ g. not_nil p ps (sym f ∙ none g.1)), refl),
    append-nil more ∙ f ∙ ap (or_itself path) (sym f)
        ∙ sym (ap (λ x. blamed_at (record { kind = s.kind; header = s.header; seen = s.seen; rel = x }) path more) e),
  )
  go (row ∷ r) e m f =
      let has : s.rel ≡ [] → ⊥ = λ g. not_nil row r (sym e ∙ g) in (
        [],
        inr ((λ g. has g.0), refl),
        append-nil more ∙ opens has ∙ sym (blamed-rows s path more has),
      )

module _ (def : Definition) where
  all_rows : (cs : List Fragment) (summaries : List SummaryParts) → AllSummaries def cs summaries
      → AllByRecursion (IsOpen def) cs → HaveRows summaries
  all_rows [] [] s h = tt
  all_rows [] (k ∷ ks) s h = absurd s
  all_rows (c ∷ cs) [] s h = absurd s
  all_rows (c ∷ cs) (k ∷ ks) s h = (open_rows def c k.rel s.0.rows h.0, all_rows cs ks s.1 h.1)

  abbrev Blames : Annotated → Type 0
  Blames n = IsFormed def (tree_in n) → (path : Path)
      → AreCulprits def (nodes_from path (tree_in n)) (blamed_at (whole_in n) path (blamed_below path n))

  each_blames : (below : List Annotated) → AllByRecursion (IsFormed def) (map tree_in below) → AllByRecursion Blames below
      → (path : Path) (k : ℕ) → AreCulprits def (each_nodes path k (map tree_in below)) (blamed_each path k below)
  each_blames [] formed h path k = culprits-none def
  each_blames (n ∷ ns) formed h path k =
      culprits-append def (nodes_from (path ++ k ∷ []) (tree_in n)) (each_nodes path (k + 1) (map tree_in ns))
      (blamed_at (whole_in n) (path ++ k ∷ []) (blamed_below (path ++ k ∷ []) n)) (blamed_each path (k + 1) ns)
      (h.0 formed.0 (path ++ k ∷ [])) (each_blames ns formed.1 h.1 path (k + 1))

  step : (tree : Fragment) (whole : SummaryParts) (rests : List SummaryParts) (weight : ℕ) (below : List Annotated)
      → IsTopped def tree whole rests weight below → AllByRecursion (IsNoted def) below → AllByRecursion Blames below
      → Blames (with_below (topped tree whole rests weight) below)
  step tree whole rests weight below t noted h formed' path =
      let node : Annotated = topped tree whole rests weight in
      let n : Annotated = with_below node below in
      let T : tree_in n ≡ tree = tree-with node below in
      let W : whole_in n ≡ whole = whole-with node below in
      let formed : IsFormed def tree = subst (IsFormed def) T formed' in
      let is = real def tree formed in
      let parts = below_known def tree below formed t.children noted in
      let known = noted_known def n (noted_with def node below [] (subst (IsTopped def tree whole rests weight) (sym (append-nil below)) t) noted) formed' in
      let summary : IsSummaryOf def tree whole =
      subst (λ s. IsSummaryOf def tree s) W (subst (λ f. IsSummaryOf def f (whole_in n)) T known.0) in
      let more : List Path = blamed_each path 0 below in
      let culprits : AreCulprits def (each_nodes path 0 (children_of tree)) more =
      subst (λ cs. AreCulprits def (each_nodes path 0 cs) more) t.children (each_blames below parts.0 h path 0) in
      let opens : (whole.rel ≡ [] → ⊥) → more ≡ [] =
      λ some. each-rows path 0 below (all_rows (children_of tree) (map whole_in below) parts.1
      (children_open def tree is (rows_open def tree is whole.rel summary.rows some))) in
      let (pushed, blame, same) = blame_told whole (map whole_in below) path more (rows-each path 0 below) (each-rows path 0 below) opens in
      let made : AreCulprits def (nodes_from path tree) (blamed_at whole path more) =
      subst (AreCulprits def (nodes_from path tree)) same
      (tree_culprits def path tree is whole summary (map whole_in below) parts.1 more pushed culprits blame) in
      let moved : AreCulprits def (nodes_from path (tree_in n)) (blamed_at (whole_in n) path more) =
      subst (λ f. AreCulprits def (nodes_from path f) (blamed_at (whole_in n) path more)) (sym T)
      (subst (λ s. AreCulprits def (nodes_from path tree) (blamed_at s path more)) (sym W) made) in
      subst (λ ps. AreCulprits def (nodes_from path (tree_in n)) (blamed_at (whole_in n) path ps)) (sym (blamed-with path node below)) moved

  -- the culprits of a noted tree
  pub noted_blames : (n : Annotated) → IsNoted def n → IsFormed def (tree_in n) → (path : Path)
      → AreCulprits def (nodes_from path (tree_in n)) (blamed_at (whole_in n) path (blamed_below path n))
  noted_blames n h = noted_by def Blames step n h
