-- What the open operators and lists of a walk hold after a step.
use Rattle.std.proofs.Common.{◌≡◌, ℕ, ◌+◌, ◌||◌, nat_le, Bool, true, false, cond, List, [], ◌∷◌, ◌++◌, map, length, length-append, refl, ap, ap₂, sym, ◌∙◌, subst, arith}
use Rattle.std.specs.Prelude.{Option, Some, None, MatchOption, is_some, not}
use Rattle.std.proofs.lemmas.Bool.{false≢true, or_parts}
use Rattle.psg_deflines.specs.WrittenTerms.{most_nested}
use Rattle.psg_deflines.specs.WrittenTrees.{WrittenTree, operator}
use Rattle.psg_deflines.specs.TreeShapes.{with_part, with_parts}
use Rattle.psg_deflines.specs.TreeWalks.{TreeFrame, in_operator, in_list, after, placed}
use Rattle.psg_deflines.specs.TreePieces.{frame_of}
use Rattle.psg_deflines.specs.TreeStages.{is_operator, framed_behind, AreTreesOpen, IsTreeWalk, filled_with, IsFilledBy, IsPlaced}
use Rattle.psg_deflines.specs.declared.trees.LinePart.{LinePart}
use Rattle.psg_deflines.specs.declared.trees.LinePart.TheVariants as LineParts
use Rattle.psg_deflines.specs.declared.tree_pieces.OpenTree.{OpenTree}
use Rattle.psg_deflines.specs.declared.tree_reading.OpenTrees.{OpenTrees}
use Rattle.psg_deflines.specs.declared.tree_reading.TreeWalk.TheVariants as walks

pub parts-snoc : (f : WrittenTree) (ps : List LinePart) (p : LinePart) → with_parts f (ps ++ p ∷ []) ≡ with_part (with_parts f ps) p
parts-snoc f [] p = refl
parts-snoc f (x ∷ xs) p = parts-snoc (with_part f x) xs p

framed-snoc : (outer : List TreeFrame) (xs : List OpenTree) (y : OpenTree) → framed_behind outer (xs ++ y ∷ []) ≡ frame_of y ∷ framed_behind outer xs
framed-snoc outer [] y = refl
framed-snoc outer (x ∷ xs) y = framed-snoc (frame_of x ∷ outer) xs y

framed-length : (outer : List TreeFrame) (xs : List OpenTree) → length (framed_behind outer xs) ≡ length outer + length xs
framed-length outer [] = omega arith
framed-length outer (x ∷ xs) = omega (arith, framed-length (frame_of x ∷ outer) xs)

map-length : (xs : List TreeFrame) → length (map is_operator xs) ≡ length xs
map-length [] = refl
map-length (x ∷ xs) = omega (arith, map-length xs)

-- as many frames
pub open-count : (b : OpenTrees) (fs : List TreeFrame) → AreTreesOpen b fs → length b.frames.items ≡ length fs
open-count b fs h = omega (arith, framed-length [] b.frames.items, map-length (framed_behind [] b.frames.items), ap length h.kinds, map-length fs)

pub open-none : (b : OpenTrees) (fs : List TreeFrame) → AreTreesOpen b fs → b.frames.items ≡ [] → fs ≡ []
open-none b [] h e = refl
open-none b (f ∷ fs) h e = absurd (omega (arith, open-count b (f ∷ fs) h, ap length e))

-- one more frame
pub open-more : (b c : OpenTrees) (fs : List TreeFrame) (f : TreeFrame) (y : OpenTree) → AreTreesOpen b fs → c.frames.items ≡ b.frames.items ++ y ∷ [] → (c.deep ≡ false → b.deep ≡ false)
    → is_operator (frame_of y) ≡ is_operator f → (c.deep ≡ false → frame_of y ≡ f) → AreTreesOpen c (f ∷ fs)
open-more b c fs f y h items deep kind is = record {
  kinds = ap (λ xs. map is_operator (framed_behind [] xs)) items ∙ ap (map is_operator) (framed-snoc [] b.frames.items y) ∙ ap₂ (λ k ks. k ∷ ks) kind h.kinds;
  kept = λ n. ap (framed_behind []) items ∙ framed-snoc [] b.frames.items y ∙ ap₂ (λ x xs. x ∷ xs) (is n) (h.kept (deep n));
}

-- the same frames
pub open-same : (b c : OpenTrees) (fs : List TreeFrame) → AreTreesOpen b fs → c.frames.items ≡ b.frames.items → (c.deep ≡ false → b.deep ≡ false) → AreTreesOpen c fs
open-same b c fs h items deep = record { kinds = ap (λ xs. map is_operator (framed_behind [] xs)) items ∙ h.kinds; kept = λ n. ap (framed_behind []) items ∙ h.kept (deep n) }

-- the innermost frame taken away
pub record IsPopped (b c : OpenTrees) (y : OpenTree) (fs : List TreeFrame) : Type 0 where
  pub first : TreeFrame
  pub rest : List TreeFrame
  pub split : fs ≡ first ∷ rest
  pub left : AreTreesOpen c rest
  pub kind : is_operator (frame_of y) ≡ is_operator first
  pub kept : b.deep ≡ false → frame_of y ≡ first

pub open-less : (b c : OpenTrees) (y : OpenTree) (fs : List TreeFrame) → AreTreesOpen b fs → b.frames.items ≡ c.frames.items ++ y ∷ [] → c.deep ≡ b.deep → IsPopped b c y fs
open-less b c y [] h items deep = absurd (omega (arith, open-count b [] h, ap length items, length-append c.frames.items (y ∷ [])))
open-less b c y (f ∷ fs) h items deep =
    let framed : framed_behind [] b.frames.items ≡ frame_of y ∷ framed_behind [] c.frames.items = ap (framed_behind []) items ∙ framed-snoc [] c.frames.items y in
    let kinds : is_operator (frame_of y) ∷ map is_operator (framed_behind [] c.frames.items) ≡ is_operator f ∷ map is_operator fs = sym (ap (map is_operator) framed) ∙ h.kinds in
    let same : b.deep ≡ false → frame_of y ∷ framed_behind [] c.frames.items ≡ f ∷ fs = λ n. sym framed ∙ h.kept n in
    record {
      first = f;
      rest = fs;
      split = refl;
      left = record {
        kinds = kinds-behind (is_operator (frame_of y)) (is_operator f) _ _ kinds;
        kept = λ n. frames-behind (frame_of y) f _ _ (same (sym deep ∙ n));
      };
      kind = kinds-first (is_operator (frame_of y)) (is_operator f) _ _ kinds;
      kept = λ n. frames-first (frame_of y) f _ _ (same n);
    }
  where
    kinds-first : (x y : Bool) (xs ys : List Bool) → x ∷ xs ≡ y ∷ ys → x ≡ y
    kinds-first x y xs ys e = cc

    kinds-behind : (x y : Bool) (xs ys : List Bool) → x ∷ xs ≡ y ∷ ys → xs ≡ ys
    kinds-behind x y xs ys e = cc

    frames-first : (x y : TreeFrame) (xs ys : List TreeFrame) → x ∷ xs ≡ y ∷ ys → x ≡ y
    frames-first x y xs ys e = cc

    frames-behind : (x y : TreeFrame) (xs ys : List TreeFrame) → x ∷ xs ≡ y ∷ ys → xs ≡ ys
    frames-behind x y xs ys e = cc

-- ---- a specimen ends

placed-filled : (f : TreeFrame) (fs : List TreeFrame) (t : WrittenTree) → placed (f ∷ fs) t ≡ after (filled_with f t ∷ fs)
placed-filled (in_operator f) fs t = refl
placed-filled (in_list es) fs t = refl

filled-kind : (f : TreeFrame) (t : WrittenTree) → is_operator (filled_with f t) ≡ is_operator f
filled-kind (in_operator f) t = refl
filled-kind (in_list es) t = refl

-- whether what the walk holds is deep, and what it keeps
abbrev pub noted_deep : Bool → Option WrittenTree → ℕ → Bool
noted_deep deep kept len = deep || (not (is_some kept) || nat_le most_nested len)

kept-deep : (deep : Bool) (kept : Option WrittenTree) (len : ℕ) → not (is_some (cond (noted_deep deep kept len) None kept)) ≡ noted_deep deep kept len
kept-deep true kept len = refl
kept-deep false None len = refl
kept-deep false (Some x) len = by (nat_le most_nested len)
  where
    by : (b : Bool) → not (is_some (cond b None (Some x))) ≡ b
    by true = refl
    by false = refl

kept-same : (deep : Bool) (kept : Option WrittenTree) (len : ℕ) (t : WrittenTree) → (deep ≡ false → MatchOption kept (Unit {0}) (λ x. x ≡ t)) → MatchOption (cond (noted_deep deep kept len) None kept) (Unit {0}) (λ x. x ≡ t)
kept-same true kept len t h = tt
kept-same false None len t h = tt
kept-same false (Some x) len t h = by (nat_le most_nested len)
  where
    by : (b : Bool) → MatchOption (cond b None (Some x)) (Unit {0}) (λ y. y ≡ t)
    by true = tt
    by false = h refl

kept-some : (deep : Bool) (kept : Option WrittenTree) (len : ℕ) (t : WrittenTree) → (deep ≡ false → MatchOption kept (Unit {0}) (λ x. x ≡ t)) → noted_deep deep kept len ≡ false → cond (noted_deep deep kept len) None kept ≡ Some t
kept-some true kept len t h e = absurd (false≢true (sym e))
kept-some false None len t h e = absurd (false≢true (sym e))
kept-some false (Some x) len t h e = ap (λ b. cond b None (Some x)) e ∙ ap Some (h refl)

-- nothing is open
pub placed-done : (b : OpenTrees) (kept tree : Option WrittenTree) (len : ℕ) (fs : List TreeFrame) (t : WrittenTree) → AreTreesOpen b fs → b.frames.items ≡ [] → len ≡ length b.frames.items
    → tree ≡ cond (noted_deep b.deep kept len) None kept → (b.deep ≡ false → MatchOption kept (Unit {0}) (λ x. x ≡ t)) → IsPlaced b.deep kept fs t (walks.Done tree)
placed-done b kept tree len fs t h none size is same =
    let bare : fs ≡ [] = open-none b fs h none in
    let count : len ≡ length fs = size ∙ open-count b fs h in
    record {
      shown = subst (λ gs. IsTreeWalk (walks.Done tree) (placed gs t)) (sym bare) (subst (λ o. MatchOption o (Unit {0}) (λ x. x ≡ t)) (sym is) (kept-same b.deep kept len t same));
      noted = ap (λ o. not (is_some o)) is ∙ kept-deep b.deep kept len ∙ ap (noted_deep b.deep kept) count;
    }

-- the innermost frame is filled
pub placed-after : (b c d : OpenTrees) (kept tree : Option WrittenTree) (len : ℕ) (x y : OpenTree) (fs : List TreeFrame) (t : WrittenTree) → AreTreesOpen b fs
    → b.frames.items ≡ c.frames.items ++ x ∷ [] → c.deep ≡ b.deep → len ≡ length b.frames.items → tree ≡ cond (noted_deep b.deep kept len) None kept → IsFilledBy x tree y
    → d.frames.items ≡ c.frames.items ++ y ∷ [] → d.deep ≡ noted_deep b.deep kept len → (b.deep ≡ false → MatchOption kept (Unit {0}) (λ z. z ≡ t)) → IsPlaced b.deep kept fs t (walks.After d)
placed-after b c d kept tree len x y fs t h items deep size is filled more noted same =
    let popped = open-less b c x fs h items deep in
    let off : d.deep ≡ false → b.deep ≡ false = λ n. (or_parts b.deep (not (is_some kept) || nat_le most_nested len) (sym noted ∙ n)).0 in
    let whole : d.deep ≡ false → frame_of y ≡ filled_with popped.first t = λ n.
    subst (λ o. MatchOption o (Unit {0}) (λ z. frame_of y ≡ filled_with (frame_of x) z)) (is ∙ kept-some b.deep kept len t same (sym noted ∙ n)) filled.filled ∙ ap (λ f. filled_with f t) (popped.kept (off n)) in
    record {
      shown = subst (λ gs. IsTreeWalk (walks.After d) (placed gs t)) (sym popped.split) (subst (IsTreeWalk (walks.After d)) (sym (placed-filled popped.first popped.rest t))
          (open-more c d popped.rest (filled_with popped.first t) y popped.left more (λ n. deep ∙ off n) (filled.kind ∙ popped.kind ∙ sym (filled-kind popped.first t)) whole));
      noted = noted ∙ ap (noted_deep b.deep kept) (size ∙ open-count b fs h);
    }

pub operator-filled : (x y : OpenTree) (kept : Option WrittenTree) (t : WrittenTree) (o : List ℕ) (ps qs : List LinePart) → frame_of x ≡ in_operator (with_parts (operator o) ps) → qs ≡ ps ++ LineParts.Tree t ∷ []
    → frame_of y ≡ in_operator (with_parts (operator o) qs) → kept ≡ Some t → IsFilledBy x kept y
operator-filled x y kept t o ps qs before more behind is = record {
  kind = ap is_operator behind ∙ sym (ap is_operator before);
  filled = subst (λ k. MatchOption k (Unit {0}) (λ z. frame_of y ≡ filled_with (frame_of x) z)) (sym is)
      (behind ∙ ap (λ xs. in_operator (with_parts (operator o) xs)) more ∙ ap in_operator (parts-snoc (operator o) ps (LineParts.Tree t)) ∙ sym (ap (λ f. filled_with f t) before));
}

-- an operator or a list begins
pub frame-open : (b c : OpenTrees) (y : OpenTree) (fs : List TreeFrame) (len : ℕ) → AreTreesOpen b fs → c.frames.items ≡ b.frames.items ++ y ∷ [] → len ≡ length b.frames.items → c.deep ≡ (b.deep || nat_le most_nested len)
    → AreTreesOpen c (frame_of y ∷ fs) × (c.deep ≡ (b.deep || nat_le most_nested (length fs)))
frame-open b c y fs len h items size noted =
    (open-more b c fs (frame_of y) y h items (λ n. (or_parts b.deep (nat_le most_nested len) (sym noted ∙ n)).0) refl (λ n. refl), noted ∙ ap (λ n. b.deep || nat_le most_nested n) (size ∙ open-count b fs h))
