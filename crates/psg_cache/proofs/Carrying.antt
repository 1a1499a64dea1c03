-- The evaluator's answers stand for a tree with another child, where the child's summary is the same.
use Rattle.std.proofs.Common.{◌≡◌, inl, inr, ℕ, zero, suc, Bool, cond, List, [], ◌∷◌, ◌++◌, length, refl, sym, ◌∙◌, ap, subst}
use Rattle.std.proofs.lemmas.Bool.Decides.{eqb_tells}
use Rattle.psg_grammar.specs.declared.types.Definition.{Definition}
use Rattle.psg_grammar.specs.Fragments.{Fragment, hole, ending, cell, operator, with_child, with_name, with_number, with_text, anything, observed, children_of, top_operator}
use Rattle.psg_grammar.specs.Paths.{put_child}
use Rattle.psg_eval.specs.declared.summary.SummaryParts.{SummaryParts}
use Rattle.psg_eval.specs.Trees.{IsNode, own_names}
use Rattle.psg_cache.specs.Noted.{AreOfSuffixes, IsOfNodes}
use Rattle.psg_cache.specs.Renoting.{AreOfCells, cells_of, first_or}

pub top-put : (new : Fragment) (k : ℕ) (f : Fragment) → top_operator (put_child new k f) ≡ top_operator f
top-put new k (hole p) = refl
top-put new k (ending l u) = refl
top-put new zero (cell l e r) = refl
top-put new (suc k) (cell l e r) = refl
top-put new k (operator o) = refl
top-put new k (with_child f t) =
    let B : Bool → Type 0 = λ b. top_operator (cond b (with_child f new) (with_child (put_child new k f) t)) ≡ top_operator f in
    elim (eqb_tells (length (children_of f)) k) [ inl e ↦ subst B (sym e.0) refl | inr e ↦ subst B (sym e.0) (top-put new k f) ]
top-put new k (with_name f n) = top-put new k f
top-put new k (with_number f n) = top-put new k f
top-put new k (with_text f t) = top-put new k f
top-put new k anything = refl
top-put new k (observed f) = top-put new k f

pub names-put : (new : Fragment) (k : ℕ) (f : Fragment) → own_names (put_child new k f) ≡ own_names f
names-put new k (hole p) = refl
names-put new k (ending l u) = refl
names-put new zero (cell l e r) = refl
names-put new (suc k) (cell l e r) = refl
names-put new k (operator o) = refl
names-put new k (with_child f t) =
    let B : Bool → Type 0 = λ b. own_names (cond b (with_child f new) (with_child (put_child new k f) t)) ≡ own_names f in
    elim (eqb_tells (length (children_of f)) k) [ inl e ↦ subst B (sym e.0) refl | inr e ↦ subst B (sym e.0) (names-put new k f) ]
names-put new k (with_name f n) = ap (λ ns. ns ++ n ∷ []) (names-put new k f)
names-put new k (with_number f n) = names-put new k f
names-put new k (with_text f t) = names-put new k f
names-put new k anything = refl
names-put new k (observed f) = refl

module _ (def : Definition) where
  suffixes-put : (new : Fragment) (k : ℕ) (f : Fragment) (below : List SummaryParts) (s : SummaryParts) (rests : List SummaryParts)
      → AreOfSuffixes def f below s rests → AreOfSuffixes def (put_child new k f) below s rests
  suffixes-put new zero (cell l e r) (b ∷ bs) s (t ∷ ts) h = h
  suffixes-put new (suc k) (cell l e r) (b ∷ bs) s (t ∷ ts) h = (h.0, suffixes-put new k r bs t ts h.1)
  suffixes-put new k (ending l u) below s rests h = h
  suffixes-put new k (cell l e r) [] s rests h = absurd h
  suffixes-put new k (cell l e r) (b ∷ bs) s [] h = absurd h
  suffixes-put new k (hole p) below s rests h = absurd h
  suffixes-put new k (operator o) below s rests h = absurd h
  suffixes-put new k (with_child f t) below s rests h = absurd h
  suffixes-put new k (with_name f n) below s rests h = absurd h
  suffixes-put new k (with_number f n) below s rests h = absurd h
  suffixes-put new k (with_text f t) below s rests h = absurd h
  suffixes-put new k anything below s rests h = absurd h
  suffixes-put new k (observed f) below s rests h = absurd h

  -- the answers stand for each node with the same top
  pub nodes-put : (f g : Fragment) (below : List SummaryParts) (s : SummaryParts) → top_operator g ≡ top_operator f → own_names g ≡ own_names f
      → IsOfNodes def f below s → IsOfNodes def g below s
  nodes-put f g below s top names h o x is node are =
      h o x (sym top ∙ is) (subst (λ ns. IsNode def o ns x) names node) are

  -- the summaries behind the first one
  abbrev front : List SummaryParts → SummaryParts → List SummaryParts → List SummaryParts
  front [] behind rests = rests
  front (n ∷ ns) behind rests = first_or behind ns ∷ front ns behind rests

  -- a list whose first cells are made anew in front of a suffix that was kept
  pub cells-front : (l : ℕ) (es : List Fragment) (r : Fragment) (elements below : List SummaryParts) (behind : SummaryParts) (news rests : List SummaryParts)
      → length es ≡ length elements → AreOfCells def l elements behind news → AreOfSuffixes def r below behind rests
      → AreOfSuffixes def (cells_of l es r) (elements ++ below) (first_or behind news) (front news behind rests)
  cells-front l [] r [] below behind [] rests many h k = k
  cells-front l [] r [] below behind (n ∷ ns) rests many h k = absurd h
  cells-front l [] r (b ∷ bs) below behind news rests many h k = absurd (cc)
  cells-front l (e ∷ es) r [] below behind news rests many h k = absurd (cc)
  cells-front l (e ∷ es) r (b ∷ bs) below behind [] rests many h k = absurd h
  cells-front l (e ∷ es) r (b ∷ bs) below behind (n ∷ ns) rests many h k =
      (h.0, cells-front l es r bs below behind ns rests (let q : length es ≡ length bs = cc in q) h.1 k)
