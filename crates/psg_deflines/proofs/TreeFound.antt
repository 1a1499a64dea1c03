-- A walk over the parts of a specimen, from its beginning to its end.
use Rattle.std.proofs.Common.{◌≡◌, ℕ, ◌+◌, ◌<◌, ◌≤◌, Bool, true, false, zero, suc, List, [], ◌++◌, drop, map, length, length-drop, refl, ap, sym, ◌∙◌, subst, arith, inl, inr}
use Rattle.std.specs.Prelude.{Option, Some, None, MatchOption}
use Rattle.std.proofs.lemmas.Bool.{false≢true}
use Rattle.std.proofs.lemmas.List.{drop-drop}
use Rattle.psg_deflines.specs.WrittenTrees.{WrittenTree, tree_parts, HasTreeForm, IsShallowTree}
use Rattle.psg_deflines.specs.TermWalks.{Parts, IsNotOpened}
use Rattle.psg_deflines.specs.TreeReads.{HasNoTree, IsTreeKept, IsTreeFound}
use Rattle.psg_deflines.specs.TreeWalks.{TreeFrame, TreeStage, expects, after, done}
use Rattle.psg_deflines.specs.TreeStages.{Fits, IsFit, framed_behind, is_operator, AreTreesOpen, IsTreeWalk, is_deep, HasNoTreeStep, IsTreeStepMade, IsTreeAdvanced, IsTreeDone, kept_tree}
use Rattle.psg_deflines.specs.declared.tree_reading.OpenTrees.{OpenTrees}
use Rattle.psg_deflines.specs.declared.tree_reading.TreeWalk.{TreeWalk}
use Rattle.psg_deflines.specs.declared.tree_reading.TreeWalk.TheVariants as walks
use Rattle.psg_deflines.specs.declared.tree_reading.TreeRead.{TreeRead}
use Rattle.psg_deflines.proofs.TreeOverLaws.{IsGood, walked, step-both, step-shorter, Leads, ends, goes, leads-next, leads-not, leads-end}
use Rattle.psg_deflines.proofs.TreeFitLaws.{fit-back}
use Rattle.psg_deflines.proofs.TreeLeads.{tree-over}

leads-fit : (t : WrittenTree) (rest : Parts) (s : TreeStage) (ps : Parts) → Leads t rest s ps → Fits 0 t → IsFit s
leads-fit t rest s ps ends h = h
leads-fit t rest s ps (goes s2 n2 p2 b2 step l) h = fit-back s2 p2 n2 b2 step (leads-fit t rest n2 b2 l h)

-- what a walk has come to
pub record IsTreeWalked (ps : Parts) (walk : TreeWalk) (taken : ℕ) : Type 0 where
  pub stage : TreeStage
  pub fits : taken ≤ length ps
  pub shown : IsTreeWalk walk stage
  pub good : IsGood stage
  pub read : walked stage ++ drop taken ps ≡ ps
  pub complete : (t : WrittenTree) (rest : Parts) → HasTreeForm t → ps ≡ tree_parts t ++ rest → IsNotOpened rest → Leads t rest stage (drop taken ps)
  pub shallow : is_deep walk ≡ false → IsFit stage
  pub deep : is_deep walk ≡ true → (t : WrittenTree) (rest : Parts) → Leads t rest stage (drop taken ps) → Fits 0 t → ⊥

pub walked-start : (ps : Parts) (b : OpenTrees) → b.frames.items ≡ [] → b.deep ≡ false → IsTreeWalked ps (walks.Expects b) 0
walked-start ps b none off = record {
  stage = expects [];
  fits = omega arith;
  shown = record { kinds = ap (λ xs. map is_operator (framed_behind [] xs)) none; kept = λ n. ap (framed_behind []) none };
  good = tt;
  read = refl;
  complete = λ t rest form e apart. subst (Leads t rest (expects [])) (sym e) ((tree-over t form).whole [] rest t rest apart ends);
  shallow = λ n. tt;
  deep = λ on. absurd (false≢true (sym off ∙ on));
}

pub walked-more : (ps : Parts) (walk next : TreeWalk) (taken more : ℕ) (h : IsTreeWalked ps walk taken) → IsTreeStepMade h.stage (is_deep walk) (drop taken ps) next more → IsTreeWalked ps next (taken + more)
walked-more ps walk next taken more h made =
    let left : drop more (drop taken ps) ≡ drop (taken + more) ps = drop-drop more taken ps in
    let both = step-both h.stage (drop taken ps) made.next (drop more (drop taken ps)) made.step h.good in
    record {
      stage = made.next;
      fits = omega (arith, h.fits, made.fits, length-drop taken ps);
      shown = made.shown;
      good = both.0;
      read = ap (λ x. walked made.next ++ x) (sym left) ∙ both.1 ∙ h.read;
      complete = λ t rest form e apart. subst (Leads t rest made.next) left (leads-next t rest h.stage (drop taken ps) (h.complete t rest form e apart) made.next (drop more (drop taken ps)) made.step);
      shallow = λ off. let k = made.off off in k.1 (h.shallow k.0);
      deep = λ on t rest l fit.
          let back : Leads t rest made.next (drop more (drop taken ps)) = subst (Leads t rest made.next) (sym left) l in
          elim (made.on on) [
            | inl d ↦ h.deep d t rest (goes h.stage made.next (drop taken ps) (drop more (drop taken ps)) made.step back) fit
            | inr k ↦ k (leads-fit t rest made.next (drop more (drop taken ps)) back fit)
          ];
    }

-- each step takes a part
pub made-longer : (s : TreeStage) (deep : Bool) (ps : Parts) (next : TreeWalk) (more : ℕ) → IsTreeStepMade s deep ps next more → 0 < more
made-longer s deep ps next zero made = absurd (omega (arith, step-shorter s ps made.next ps made.step))
made-longer s deep ps next (suc n) made = omega arith

not-done : (walk : TreeWalk) (s : TreeStage) → IsTreeWalk walk s → (IsTreeDone walk → ⊥) → (t : WrittenTree) → s ≡ done t → ⊥
not-done (walks.Expects b) s h going t e = absurd (subst (IsTreeWalk (walks.Expects b)) e h)
not-done (walks.After b) s h going t e = absurd (subst (IsTreeWalk (walks.After b)) e h)
not-done (walks.Done o) s h going t e = going tt

pub walked-none : (ps : Parts) (walk : TreeWalk) (taken : ℕ) (h : IsTreeWalked ps walk taken) → (IsTreeDone walk → ⊥) → HasNoTreeStep h.stage (drop taken ps) → HasNoTree ps
walked-none ps walk taken h going none t rest form e apart =
    leads-not t rest h.stage (drop taken ps) (h.complete t rest form e apart) none (not-done walk h.stage h.shown going)

-- the end
done-stage : (walk : TreeWalk) (s : TreeStage) → IsTreeWalk walk s → IsTreeDone walk
    → (t : WrittenTree) × (s ≡ done t) × MatchOption (kept_tree walk) (is_deep walk ≡ true) (λ x. (is_deep walk ≡ false) × (x ≡ t))
done-stage (walks.Expects b) s h d = absurd d
done-stage (walks.After b) s h d = absurd d
done-stage (walks.Done o) (expects fs) h d = absurd h
done-stage (walks.Done o) (after fs) h d = absurd h
done-stage (walks.Done None) (done t) h d = (t, refl, refl)
done-stage (walks.Done (Some x)) (done t) h d = (t, refl, (refl, h))

kept-from : (walk : TreeWalk) (t : WrittenTree) (kept : Option WrittenTree) → MatchOption kept (is_deep walk ≡ true) (λ x. (is_deep walk ≡ false) × (x ≡ t))
    → (is_deep walk ≡ false → IsShallowTree t) → (is_deep walk ≡ true → IsShallowTree t → ⊥) → IsTreeKept kept t
kept-from walk t None f shallow deep = deep f
kept-from walk t (Some x) f shallow deep = (f.1, shallow f.0)

fits-shallow : (t : WrittenTree) → Fits 0 t → IsShallowTree t
fits-shallow t h = record { tree = omega (arith, h.0); terms = h.1 }

shallow-fits : (t : WrittenTree) → IsShallowTree t → Fits 0 t
shallow-fits t h = (omega (arith, h.tree), h.terms)

pub walked-done : (ps : Parts) (walk : TreeWalk) (found : TreeRead) (h : IsTreeWalked ps walk found.taken) → IsTreeDone walk → found.tree ≡ kept_tree walk → IsTreeFound ps found
walked-done ps walk found h ended kept =
    let end = done-stage walk h.stage h.shown ended in
    let t : WrittenTree = end.0 in
    let at : h.stage ≡ done t = end.1 in
    let fit : is_deep walk ≡ false → Fits 0 t = λ off. subst IsFit at (h.shallow off) in
    let unfit : is_deep walk ≡ true → Fits 0 t → ⊥ = λ on f. h.deep on t (drop found.taken ps) (subst (λ s. Leads t (drop found.taken ps) s (drop found.taken ps)) (sym at) ends) f in
    record {
      tree = t;
      fits = h.fits;
      read = record {
        form = subst IsGood at h.good;
        written = sym h.read ∙ ap (λ s. walked s ++ drop found.taken ps) at;
        only = λ other behind form e apart.
            leads-end other behind t (drop found.taken ps) (subst (λ s. Leads other behind s (drop found.taken ps)) at (h.complete other behind form e apart));
      };
      kept = subst (λ o. IsTreeKept o t) (sym kept) (kept-from walk t (kept_tree walk) end.2 (λ off. fits-shallow t (fit off)) (λ on s. unfit on (shallow-fits t s)));
    }

-- ---- one step of the program

pub advance-expects : (b : OpenTrees) (s : TreeStage) (ps : Parts) (o : Option (TreeWalk × ℕ)) → ((fs : List TreeFrame) → AreTreesOpen b fs → IsTreeAdvanced (expects fs) b.deep ps o)
    → IsTreeWalk (walks.Expects b) s → IsTreeAdvanced s b.deep ps o
advance-expects b (expects fs) ps o h k = h fs k
advance-expects b (after fs) ps o h k = absurd k
advance-expects b (done t) ps o h k = absurd k

pub advance-after : (b : OpenTrees) (s : TreeStage) (ps : Parts) (o : Option (TreeWalk × ℕ)) → ((fs : List TreeFrame) → AreTreesOpen b fs → IsTreeAdvanced (after fs) b.deep ps o)
    → IsTreeWalk (walks.After b) s → IsTreeAdvanced s b.deep ps o
advance-after b (expects fs) ps o h k = absurd k
advance-after b (after fs) ps o h k = h fs k
advance-after b (done t) ps o h k = absurd k
