-- Where a walk over the parts of a specimen comes to in one step.
use Rattle.std.proofs.Common.{◌≡◌, ℕ, ◌+◌, ◌<◌, ◌≤◌, ◌||◌, nat_le, Bool, true, false, cond, List, [], ◌∷◌, ◌++◌, drop, length, inl, inr, refl, ap, sym, ◌∙◌, subst, arith}
use Rattle.std.specs.Prelude.{Option, Some, None, MatchOption, MatchBool, is_some, not, ◌⊎◌}
use Rattle.std.specs.List.{AllByRecursion}
use Rattle.std.proofs.lemmas.Bool.{false≢true, leb-false, leb-true, or_cases, or_parts}
use Rattle.psg_deflines.specs.WrittenTerms.{most_nested}
use Rattle.psg_deflines.specs.WrittenTrees.{WrittenTree, tree_depth}
use Rattle.psg_deflines.specs.TreeShapes.{with_part, list_of, ending}
use Rattle.psg_deflines.specs.TermWalks.{Parts}
use Rattle.psg_deflines.specs.TreeWalks.{TreeFrame, in_operator, in_list, TreeStage, expects, after, placed, IsLiteral, Begin, a_part, a_tree, a_frame, a_comma, a_close, an_end, begun, finished}
use Rattle.psg_deflines.specs.TreePieces.{AreShallow, ShowsEnd, frame_of, IsKeptTree, IsFresh, IsBeginRead, HasNoBegin, IsFinishRead, HasNoFinish}
use Rattle.psg_deflines.specs.TreeStages.{Fits, FrameFits, AreFit, IsFit, is_operator, AreTreesOpen, IsTreeWalk, is_deep, IsPlaced, IsLed, HasNoTreeStep, IsTreeStepMade}
use Rattle.psg_deflines.specs.declared.trees.LinePart.{LinePart}
use Rattle.psg_deflines.specs.declared.places.ListEnd.{ListEnd}
use Rattle.psg_deflines.specs.declared.tree_pieces.OpenTree.{OpenTree}
use Rattle.psg_deflines.specs.declared.tree_pieces.BeginRead.{BeginRead}
use Rattle.psg_deflines.specs.declared.tree_pieces.FinishRead.{FinishRead}
use Rattle.psg_deflines.specs.declared.tree_reading.OpenTrees.{OpenTrees}
use Rattle.psg_deflines.specs.declared.tree_reading.TreeWalk.{TreeWalk}
use Rattle.psg_deflines.specs.declared.tree_reading.TreeWalk.TheVariants as walks
use Rattle.psg_deflines.proofs.TreeWalkLaws.{begins-only, finishes-only}
use Rattle.psg_deflines.proofs.TreeStageLaws.{open-more, open-less, open-count, IsPopped}
use Rattle.psg_deflines.proofs.TreeFitLaws.{depth-positive, placed-fit, placed-unfit, part-fits, list-fits, list-unfits}

operator-of : (f : TreeFrame) → is_operator f ≡ true → (g : WrittenTree) × (f ≡ in_operator g)
operator-of (in_operator g) e = (g, refl)
operator-of (in_list es) e = absurd (false≢true e)

list-frame : (f : TreeFrame) → is_operator f ≡ false → (es : List WrittenTree) × (f ≡ in_list es)
list-frame (in_operator g) e = absurd (false≢true (sym e))
list-frame (in_list es) e = (es, refl)

same-operator : (f g : WrittenTree) → in_operator f ≡ in_operator g → f ≡ g
same-operator f g e = cc

same-list : (es fs : List WrittenTree) → in_list es ≡ in_list fs → es ≡ fs
same-list es fs e = cc

none-not-some : (o : Option WrittenTree) → not (is_some o) ≡ true → o ≡ None
none-not-some None e = refl
none-not-some (Some x) e = absurd (false≢true e)

some-known : (o : Option WrittenTree) → not (is_some o) ≡ false → (x : WrittenTree) × (o ≡ Some x)
some-known None e = absurd (false≢true (sym e))
some-known (Some x) e = (x, refl)

-- a specimen ends inside these frames
led-placed : (s : TreeStage) (to : Option TreeStage) (deep : Bool) (kept : Option WrittenTree) (fs : List TreeFrame) (t : WrittenTree) (w : TreeWalk) → to ≡ Some (placed fs t) → IsPlaced deep kept fs t w
    → (kept ≡ None → Fits (length fs) t → ⊥) → ((x : WrittenTree) → kept ≡ Some x → length fs < most_nested → IsFit s → AreFit fs × Fits (length fs) t) → IsLed s to deep w
led-placed s to deep kept fs t w leads h none some = record { next = placed fs t; leads = leads; shown = h.shown; on = on; off = off }
  where
    on : is_deep w ≡ true → (deep ≡ true) ⊎ (IsFit (placed fs t) → ⊥)
    on e = elim (or_cases deep (not (is_some kept) || nat_le most_nested (length fs)) (sym h.noted ∙ e)) [
      | inl d ↦ inl d
      | inr d ↦ elim (or_cases (not (is_some kept)) (nat_le most_nested (length fs)) d) [
        | inl n ↦ inr (λ fit. none (none-not-some kept n) (placed-unfit fs t fit).1)
        | inr l ↦ inr (λ fit. omega (arith, leb-true most_nested (length fs) l, depth-positive t, (placed-unfit fs t fit).1.0))
      ]
    ]

    off : is_deep w ≡ false → (deep ≡ false) × (IsFit s → IsFit (placed fs t))
    off e =
        let first = or_parts deep (not (is_some kept) || nat_le most_nested (length fs)) (sym h.noted ∙ e) in
        let second = or_parts (not (is_some kept)) (nat_le most_nested (length fs)) first.1 in
        let known = some-known kept second.0 in
        (first.0, λ fit. let both = some known.0 known.1 (leb-false most_nested (length fs) second.1) fit in placed-fit fs t both.0 both.1)

-- ---- what begins

begun-tree : (fs : List TreeFrame) (t : WrittenTree) → begun fs (a_tree t) ≡ Some (placed fs t)
begun-tree [] t = refl
begun-tree (f ∷ fs) t = refl

begun-frame : (fs : List TreeFrame) (f : TreeFrame) → begun fs (a_frame f) ≡ Some (expects (f ∷ fs))
begun-frame [] f = refl
begun-frame (g ∷ fs) f = refl

pub tree-moved : (deep : Bool) (kept : Option WrittenTree) (fs : List TreeFrame) (b : Begin) (w : TreeWalk) → ((t : WrittenTree) × (b ≡ a_tree t) × (tree_depth t ≡ 1) × IsKeptTree kept t)
    → ((t : WrittenTree) → (deep ≡ false → MatchOption kept (Unit {0}) (λ x. x ≡ t)) → IsPlaced deep kept fs t w) → IsLed (expects fs) (begun fs b) deep w
tree-moved deep kept fs b w h place =
    let t : WrittenTree = h.0 in
    led-placed (expects fs) (begun fs b) deep kept fs t w (ap (begun fs) h.1 ∙ begun-tree fs t) (place t (λ n. same kept t h.3)) (λ e. unfit t (subst (λ o. IsKeptTree o t) e h.3))
    (λ x e small fit. (fit, (omega (arith, h.2), (subst (λ o. IsKeptTree o t) e h.3).1)))
  where
    same : (o : Option WrittenTree) (t : WrittenTree) → IsKeptTree o t → MatchOption o (Unit {0}) (λ x. x ≡ t)
    same None t k = tt
    same (Some x) t k = k.0

    unfit : (t : WrittenTree) → (AreShallow t → ⊥) → Fits (length fs) t → ⊥
    unfit t k f = k f.1

fresh-fits : (height : ℕ) (f : TreeFrame) → IsFresh f → height < most_nested → FrameFits height f
fresh-fits height (in_operator f) h l = (omega (arith, h.0), h.1)
fresh-fits height (in_list es) h l = (omega arith, subst (AllByRecursion (Fits (height + 1))) (sym h) tt)

pub frame-moved : (deep : Bool) (f : OpenTree) (fs : List TreeFrame) (b : Begin) (w : TreeWalk) → (b ≡ a_frame (frame_of f)) × IsFresh (frame_of f)
    → IsTreeWalk w (expects (frame_of f ∷ fs)) × (is_deep w ≡ (deep || nat_le most_nested (length fs))) → IsLed (expects fs) (begun fs b) deep w
frame-moved deep f fs b w h k = record {
  next = expects (frame_of f ∷ fs);
  leads = ap (begun fs) h.0 ∙ begun-frame fs (frame_of f);
  shown = k.0;
  on = λ e. elim (or_cases deep (nat_le most_nested (length fs)) (sym k.1 ∙ e)) [
    | inl d ↦ inl d
    | inr l ↦ inr (λ fit. too-deep (frame_of f) (leb-true most_nested (length fs) l) fit.0)
  ];
  off = λ e. let both = or_parts deep (nat_le most_nested (length fs)) (sym k.1 ∙ e) in (both.0, λ fit. (fresh-fits (length fs) (frame_of f) h.1 (leb-false most_nested (length fs) both.1), fit));
}
  where
    too-deep : (g : TreeFrame) → most_nested ≤ length fs → FrameFits (length fs) g → ⊥
    too-deep (in_operator g) l fit = omega (arith, depth-positive g, fit.0)
    too-deep (in_list es) l fit = omega (arith, fit.0)

module _ (b c : OpenTrees) (x : OpenTree) (fs : List TreeFrame) (h : AreTreesOpen b fs) (items : b.frames.items ≡ c.frames.items ++ x ∷ []) (deep : c.deep ≡ b.deep) where
  popped : IsPopped b c x fs
  popped = open-less b c x fs h items deep

  pub no-part : (l : LinePart) → is_operator (frame_of x) ≡ false → begun fs (a_part l) ≡ None
  no-part l e =
      let first = list-frame popped.first (sym popped.kind ∙ e) in
      ap (λ gs. begun gs (a_part l)) (popped.split ∙ ap (λ f. f ∷ popped.rest) first.1)

  pub no-close : is_operator (frame_of x) ≡ false → finished fs a_close ≡ None
  no-close e =
      let first = list-frame popped.first (sym popped.kind ∙ e) in
      ap (λ gs. finished gs a_close) (popped.split ∙ ap (λ f. f ∷ popped.rest) first.1)

  pub no-list : (end : WrittenTree) → is_operator (frame_of x) ≡ true → finished fs (an_end end) ≡ None
  no-list end e =
      let first = operator-of popped.first (sym popped.kind ∙ e) in
      ap (λ gs. finished gs (an_end end)) (popped.split ∙ ap (λ f. f ∷ popped.rest) first.1)

  -- a literal part
  pub part-moved : (d : OpenTrees) (y : OpenTree) (f : WrittenTree) (l : LinePart) → IsLiteral l → frame_of x ≡ in_operator f → is_operator (frame_of y) ≡ true → (b.deep ≡ false → frame_of y ≡ in_operator (with_part f l))
      → d.frames.items ≡ c.frames.items ++ y ∷ [] → d.deep ≡ b.deep → IsLed (expects fs) (begun fs (a_part l)) b.deep (walks.After d)
  part-moved d y f l literal e kind made more deeper =
      let first = operator-of popped.first (sym popped.kind ∙ ap is_operator e) in
      let g : WrittenTree = first.0 in
      let split : fs ≡ in_operator g ∷ popped.rest = popped.split ∙ ap (λ z. z ∷ popped.rest) first.1 in
      let same : b.deep ≡ false → f ≡ g = λ n. same-operator f g (sym e ∙ popped.kept n ∙ first.1) in
      record {
        next = after (in_operator (with_part g l) ∷ popped.rest);
        leads = ap (λ gs. begun gs (a_part l)) split;
        shown = open-more c d popped.rest (in_operator (with_part g l)) y popped.left more (λ n. deep ∙ sym deeper ∙ n) kind
            (λ n. let off : b.deep ≡ false = sym deeper ∙ n in made off ∙ ap (λ z. in_operator (with_part z l)) (same off));
        on = λ n. inl (sym deeper ∙ n);
        off = λ n. (sym deeper ∙ n, λ fit. let k = subst AreFit split fit in (part-fits (length popped.rest) g l literal k.0, k.1));
      }

  -- an operator ends
  pub close-moved : (f tree : WrittenTree) (w : TreeWalk) → frame_of x ≡ in_operator f → tree ≡ f
      → ((gs : List TreeFrame) (t : WrittenTree) → AreTreesOpen c gs → (c.deep ≡ false → MatchOption (Some tree) (Unit {0}) (λ z. z ≡ t)) → IsPlaced c.deep (Some tree) gs t w)
      → IsLed (after fs) (finished fs a_close) b.deep w
  close-moved f tree w e is place =
      let first = operator-of popped.first (sym popped.kind ∙ ap is_operator e) in
      let g : WrittenTree = first.0 in
      let split : fs ≡ in_operator g ∷ popped.rest = popped.split ∙ ap (λ z. z ∷ popped.rest) first.1 in
      let same : b.deep ≡ false → f ≡ g = λ n. same-operator f g (sym e ∙ popped.kept n ∙ first.1) in
      led-placed (after fs) (finished fs a_close) b.deep (Some tree) popped.rest g w (ap (λ gs. finished gs a_close) split)
      (subst (λ d. IsPlaced d (Some tree) popped.rest g w) deep (place popped.rest g popped.left (λ n. is ∙ same (sym deep ∙ n))))
      (λ n. absurd (some-none tree n))
      (λ z n small fit. let k = subst AreFit split fit in (k.1, k.0))
    where
      some-none : (t : WrittenTree) → Some t ≡ None → ⊥
      some-none t e = cc

  -- a list ends
  pub list-moved : (es : List WrittenTree) (end : ListEnd) (last : WrittenTree) (tree : Option WrittenTree) (w : TreeWalk) → frame_of x ≡ in_list es → ShowsEnd end last
      → tree ≡ cond end.deep None (Some (list_of (ending end.rest) es))
      → ((gs : List TreeFrame) (t : WrittenTree) → AreTreesOpen c gs → (c.deep ≡ false → MatchOption tree (Unit {0}) (λ z. z ≡ t)) → IsPlaced c.deep tree gs t w)
      → IsLed (after fs) (finished fs (an_end last)) b.deep w
  list-moved es end last tree w e shown is place =
      let first = list-frame popped.first (sym popped.kind ∙ ap is_operator e) in
      let gs : List WrittenTree = first.0 in
      let split : fs ≡ in_list gs ∷ popped.rest = popped.split ∙ ap (λ z. z ∷ popped.rest) first.1 in
      let same : b.deep ≡ false → es ≡ gs = λ n. same-list es gs (sym e ∙ popped.kept n ∙ first.1) in
      led-placed (after fs) (finished fs (an_end last)) b.deep tree popped.rest (list_of last gs) w (ap (λ xs. finished xs (an_end last)) split)
      (subst (λ d. IsPlaced d tree popped.rest (list_of last gs) w) deep (place popped.rest (list_of last gs) popped.left
      (λ n. subst (λ o. MatchOption o (Unit {0}) (λ z. z ≡ list_of last gs)) (sym is) (ended end.deep (ending end.rest) shown.1 gs (same (sym deep ∙ n))))))
      (λ n fit. shallow-not end.deep (ending end.rest) shown.1 (sym is ∙ n) (list-unfits (length popped.rest) gs last fit).1.1)
      (λ z n small fit.
      let k = subst AreFit split fit in
      (k.1, list-fits (length popped.rest) gs last k.0.1 (last-fits z (length popped.rest) end.deep (ending end.rest) shown.1 (sym is ∙ n) k.0.0)))
    where
      ended : (d : Bool) (o : WrittenTree) → MatchBool d (AreShallow last → ⊥) ((o ≡ last) × AreShallow last) → (gs : List WrittenTree) → es ≡ gs → MatchOption (cond d None (Some (list_of o es))) (Unit {0}) (λ z. z ≡ list_of last gs)
      ended true o k gs s = tt
      ended false o k gs s = ap (λ z. list_of z es) k.0 ∙ ap (list_of last) s

      shallow-not : (d : Bool) (o : WrittenTree) → MatchBool d (AreShallow last → ⊥) ((o ≡ last) × AreShallow last) → cond d None (Some (list_of o es)) ≡ None → AreShallow last → ⊥
      shallow-not true o k n s = k s
      shallow-not false o k n s = cc (n)

      last-fits : (z : WrittenTree) (height : ℕ) (d : Bool) (o : WrittenTree) → MatchBool d (AreShallow last → ⊥) ((o ≡ last) × AreShallow last) → cond d None (Some (list_of o es)) ≡ Some z → 1 + height ≤ most_nested → Fits height last
      last-fits z height true o k n l = absurd (cc (n))
      last-fits z height false o k n l = (omega (arith, shown.0), k.1)

-- a comma
finished-comma : (fs : List TreeFrame) → 0 < length fs → finished fs a_comma ≡ Some (expects fs)
finished-comma [] l = absurd (omega arith)
finished-comma (f ∷ fs) l = refl

pub comma-moved : (b : OpenTrees) (fs : List TreeFrame) → AreTreesOpen b fs → 0 < length b.frames.items → IsLed (after fs) (finished fs a_comma) b.deep (walks.Expects b)
comma-moved b fs h l = record {
  next = expects fs;
  leads = finished-comma fs (omega (arith, open-count b fs h));
  shown = h;
  on = λ n. inl n;
  off = λ n. (n, λ fit. fit);
}

-- ---- the steps

pub step-not-begun : (fs : List TreeFrame) (deep : Bool) (ps : Parts) → HasNoBegin ps → HasNoTreeStep (expects fs) ps
step-not-begun fs deep ps none next rest (b, x, e) = none b rest x

pub step-begun-none : (fs : List TreeFrame) (ps : Parts) (read : BeginRead) (h : IsBeginRead ps read) → begun fs h.begin ≡ None → HasNoTreeStep (expects fs) ps
step-begun-none fs ps read h none next rest (b, x, e) =
    let same = begins-only ps (drop read.taken ps) rest h.begin b h.begins x in
    not-both (begun fs b) next (ap (begun fs) (sym same.0) ∙ none) e
  where
    not-both : (o : Option TreeStage) (s : TreeStage) → o ≡ None → o ≡ Some s → ⊥
    not-both o s p q = cc

pub step-begun : (fs : List TreeFrame) (deep : Bool) (ps : Parts) (read : BeginRead) (h : IsBeginRead ps read) (w : TreeWalk) → IsLed (expects fs) (begun fs h.begin) deep w → IsTreeStepMade (expects fs) deep ps w read.taken
step-begun fs deep ps read h w led = record { next = led.next; fits = h.fits; step = (h.begin, h.begins, led.leads); shown = led.shown; on = led.on; off = led.off }

pub step-not-finished : (fs : List TreeFrame) (ps : Parts) → HasNoFinish ps → HasNoTreeStep (after fs) ps
step-not-finished fs ps none next rest (e, x, f) = none e rest x

pub step-finished-none : (fs : List TreeFrame) (ps : Parts) (read : FinishRead) (h : IsFinishRead ps read) → finished fs h.finish ≡ None → HasNoTreeStep (after fs) ps
step-finished-none fs ps read h none next rest (e, x, f) =
    let same = finishes-only ps (drop read.taken ps) rest h.finish e h.finishes x in
    not-both (finished fs e) next (ap (finished fs) (sym same.0) ∙ none) f
  where
    not-both : (o : Option TreeStage) (s : TreeStage) → o ≡ None → o ≡ Some s → ⊥
    not-both o s p q = cc

pub step-finished : (fs : List TreeFrame) (deep : Bool) (ps : Parts) (read : FinishRead) (h : IsFinishRead ps read) (w : TreeWalk) → IsLed (after fs) (finished fs h.finish) deep w → IsTreeStepMade (after fs) deep ps w read.taken
step-finished fs deep ps read h w led = record { next = led.next; fits = h.fits; step = (h.finish, h.finishes, led.leads); shown = led.shown; on = led.on; off = led.off }
