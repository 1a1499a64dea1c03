-- The weight that a note keeps is that of its tree.
use Rattle.std.proofs.Common.{◌≡◌, ℕ, ◌+◌, List, [], ◌∷◌, map, refl, sym, ◌∙◌, ap, subst, arith, append-nil}
use Rattle.std.specs.List.{AllByRecursion}
use Rattle.psg_terms.specs.Weight.{weight_of}
use Rattle.psg_grammar.specs.declared.types.Definition.{Definition}
use Rattle.psg_grammar.specs.Fragments.{Fragment, hole, ending, cell, operator, with_child, with_name, with_number, with_text, anything, observed, children_of}
use Rattle.psg_grammar.specs.Paths.{IsList}
use Rattle.psg_grammar.specs.Steps.{HasWeights}
use Rattle.psg_eval.specs.declared.summary.SummaryParts.{SummaryParts}
use Rattle.psg_eval.specs.Summaries.{AllSummaries, IsSummaryOf}
use Rattle.psg_cache.specs.Notes.{IsFormed}
use Rattle.psg_cache.specs.Walks.{WeighTogether}
use Rattle.psg_cache.proofs.RealTrees.{IsReal, IsSpine, real}
use Rattle.psg_cache.proofs.WeightLaws.{cell_weighs, end_weighs, hole_weighs, node_weighs}
use Rattle.psg_cache.specs.Annotated.{Annotated, topped, tree_in, whole_in, weight_in, with_below}
use Rattle.psg_cache.specs.Noted.{AreOfSuffixes, IsAnswered, IsNoted, IsTopped, own_weight, summed}
use Rattle.psg_cache.proofs.Inducting.{noted_by, noted_with, tree-with, weight-with, whole-with}
use Rattle.psg_cache.proofs.NoteLaws.{below_known, list_known, noted_known}

module _ (def : Definition) where
  abbrev Weighs : Annotated → Type 0
  Weighs n = IsFormed def (tree_in n) → HasWeights def (tree_in n) (weight_in n)

  together : (below : List Annotated) → AllByRecursion (IsFormed def) (map tree_in below) → AllByRecursion Weighs below
      → WeighTogether def (map tree_in below) (summed weight_in below)
  together [] formed h = refl
  together (n ∷ ns) formed h = (weight_in n, summed weight_in ns, h.0 formed.0, together ns formed.1 h.1, refl)

  list_weighs : (f : Fragment) → IsReal f → IsList f → (below : List SummaryParts) (s : SummaryParts) (rests : List SummaryParts) (m : ℕ)
      → AllSummaries def (children_of f) below → AreOfSuffixes def f below s rests → WeighTogether def (children_of f) m
      → HasWeights def f (m + summed own_weight (s ∷ rests))
  list_weighs (ending l u) real list [] s [] m are h w =
      let e : m + (weight_of s.rel + 0) ≡ m + weight_of s.rel = omega arith in
      subst (HasWeights def (ending l u)) (sym e) (end_weighs def l u s.rel h.0.rows m w)
  list_weighs (ending l u) real list [] s (t ∷ ts) m are h w = absurd h
  list_weighs (ending l u) real list (b ∷ bs) s rests m are h w = absurd are
  list_weighs (cell l e r) real list [] s rests m are h w = absurd are
  list_weighs (cell l e r) real list (b ∷ bs) s [] m are h w = absurd h
  list_weighs (cell l e r) real list (b ∷ bs) s (t ∷ ts) m are h (a, k, first, rest, sum) =
      let behind = list_weighs r real.1 real.2 bs t ts k are.1 h.1 rest in
      let known = list_known def (cell l e r) real list (b ∷ bs) s (t ∷ ts) are h in
      let x : ℕ = weight_of t.rel in
      let y : ℕ = summed own_weight ts in
      let g : m + (weight_of s.rel + (x + y)) ≡ a + (k + (x + y)) + weight_of s.rel = omega (arith, sum) in
      subst (HasWeights def (cell l e r)) (sym g) (cell_weighs def l e r s.rel known.0.rows a (k + (x + y)) first behind)
  list_weighs (hole p) real list below s rests m are h w = absurd list
  list_weighs (operator o) real list below s rests m are h w = absurd list
  list_weighs (with_child f t) real list below s rests m are h w = absurd list
  list_weighs (with_name f n) real list below s rests m are h w = absurd list
  list_weighs (with_number f n) real list below s rests m are h w = absurd list
  list_weighs (with_text f t) real list below s rests m are h w = absurd list
  list_weighs anything real list below s rests m are h w = absurd list
  list_weighs (observed f) real list below s rests m are h w = absurd list

  one : (s : SummaryParts) (rests : List SummaryParts) (m : ℕ) → rests ≡ [] → m + summed own_weight (s ∷ rests) ≡ m + weight_of s.rel
  one s rests m e = ap (λ ts. m + (weight_of s.rel + summed own_weight ts)) e ∙ (let g : m + (weight_of s.rel + 0) ≡ m + weight_of s.rel = omega arith in g)

  spine_weighs : (f : Fragment) → IsReal f → IsSpine f → (s : SummaryParts) (rests : List SummaryParts) (m : ℕ) → IsSummaryOf def f s → rests ≡ []
      → WeighTogether def (children_of f) m → HasWeights def f (m + summed own_weight (s ∷ rests))
  spine_weighs f is spine s rests m summary none w =
      subst (HasWeights def f) (sym (one s rests m none)) (node_weighs def f is spine s.rel summary.rows m w)

  top_weighs : (f : Fragment) → IsReal f → (below : List SummaryParts) (s : SummaryParts) (rests : List SummaryParts) (m : ℕ)
      → AllSummaries def (children_of f) below → IsSummaryOf def f s → IsAnswered def f below s rests → WeighTogether def (children_of f) m
      → HasWeights def f (m + summed own_weight (s ∷ rests))
  top_weighs (hole p) is below s rests m are summary h w =
      subst (HasWeights def (hole p)) (sym (one s rests m h.1)) (hole_weighs def p s.rel summary.rows m w)
  top_weighs (ending l u) is below s rests m are summary h w = list_weighs (ending l u) is tt below s rests m are h w
  top_weighs (cell l e r) is below s rests m are summary h w = list_weighs (cell l e r) is tt below s rests m are h w
  top_weighs (operator o) is below s rests m are summary h w = spine_weighs (operator o) is tt s rests m summary h.1 w
  top_weighs (with_child f t) is below s rests m are summary h w = spine_weighs (with_child f t) is is.2 s rests m summary h.1 w
  top_weighs (with_name f n) is below s rests m are summary h w = spine_weighs (with_name f n) is is.1 s rests m summary h.1 w
  top_weighs (with_number f n) is below s rests m are summary h w = spine_weighs (with_number f n) is is.1 s rests m summary h.1 w
  top_weighs (with_text f t) is below s rests m are summary h w = spine_weighs (with_text f t) is is.1 s rests m summary h.1 w
  top_weighs anything is below s rests m are summary h w = absurd is
  top_weighs (observed f) is below s rests m are summary h w = absurd is

  step : (tree : Fragment) (whole : SummaryParts) (rests : List SummaryParts) (weight : ℕ) (below : List Annotated)
      → IsTopped def tree whole rests weight below → AllByRecursion (IsNoted def) below → AllByRecursion Weighs below
      → Weighs (with_below (topped tree whole rests weight) below)
  step tree whole rests weight below t noted h formed' =
      let node : Annotated = topped tree whole rests weight in
      let n : Annotated = with_below node below in
      let T : tree_in n ≡ tree = tree-with node below in
      let formed : IsFormed def tree = subst (IsFormed def) T formed' in
      let parts = below_known def tree below formed t.children noted in
      let w : WeighTogether def (children_of tree) (summed weight_in below) =
      subst (λ cs. WeighTogether def cs (summed weight_in below)) t.children (together below parts.0 h) in
      let known = noted_known def n (noted_with def node below [] (subst (IsTopped def tree whole rests weight) (sym (append-nil below)) t) noted) formed' in
      let summary : IsSummaryOf def tree whole =
      subst (λ s. IsSummaryOf def tree s) (whole-with node below) (subst (λ f. IsSummaryOf def f (whole_in n)) T known.0) in
      let made = top_weighs tree (real def tree formed) (map whole_in below) whole rests (summed weight_in below) parts.1 summary t.answered w in
      subst (λ f. HasWeights def f (weight_in n)) (sym T)
      (subst (HasWeights def tree) (sym (weight-with node below ∙ t.sum)) made)

  -- the weight of a noted tree
  pub noted_weighs : (n : Annotated) → IsNoted def n → IsFormed def (tree_in n) → HasWeights def (tree_in n) (weight_in n)
  noted_weighs n h = noted_by def Weighs step n h
