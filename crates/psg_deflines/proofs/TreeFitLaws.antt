-- How deep the specimens are that a walk over a specimen's parts holds.
use Rattle.std.proofs.Common.{◌≡◌, ℕ, ◌+◌, ◌≤◌, List, [], ◌∷◌, ◌++◌, length, refl, sym, subst, arith, add-one}
use Rattle.std.specs.Prelude.{Some}
use Rattle.std.specs.List.{AllByRecursion}
use Rattle.psg_deflines.specs.WrittenTerms.{WrittenTerm, IsShallowTerm}
use Rattle.psg_deflines.specs.WrittenTrees.{WrittenTree, operator, with_tree, with_name, with_number, with_text, list_end, list_rest, element, place, tree_depth, place_terms}
use Rattle.psg_deflines.specs.TreeShapes.{with_part, list_of}
use Rattle.psg_deflines.specs.TermWalks.{Parts}
use Rattle.psg_deflines.specs.TreeWalks.{TreeFrame, in_operator, in_list, TreeStage, expects, after, done, placed, IsLiteral, Begin, a_part, a_tree, a_frame, Finish, a_comma, a_close, an_end, begun, finished, IsTreeStep, Begins, a_place, an_empty, a_rest, a_list, an_operator, a_leaf, a_literal}
use Rattle.psg_deflines.specs.TreeStages.{Fits, AreFit, IsFit}
use Rattle.psg_deflines.specs.declared.trees.LinePart.{LinePart}
use Rattle.psg_deflines.specs.declared.trees.LinePart.TheVariants as parts

all-both : (P : WrittenTerm → Type 0) (xs ys : List WrittenTerm) → AllByRecursion P xs → AllByRecursion P ys → AllByRecursion P (xs ++ ys)
all-both P [] ys h k = k
all-both P (x ∷ xs) ys h k = (h.0, all-both P xs ys h.1 k)

all-split : (P : WrittenTerm → Type 0) (xs ys : List WrittenTerm) → AllByRecursion P (xs ++ ys) → AllByRecursion P xs × AllByRecursion P ys
all-split P [] ys h = (tt, h)
all-split P (x ∷ xs) ys h = let k = all-split P xs ys h.1 in ((h.0, k.0), k.1)

all-snoc : (P : WrittenTree → Type 0) (es : List WrittenTree) (t : WrittenTree) → AllByRecursion P es → P t → AllByRecursion P (es ++ t ∷ [])
all-snoc P [] t h k = (k, tt)
all-snoc P (e ∷ es) t h k = (h.0, all-snoc P es t h.1 k)

all-unsnoc : (P : WrittenTree → Type 0) (es : List WrittenTree) (t : WrittenTree) → AllByRecursion P (es ++ t ∷ []) → AllByRecursion P es × P t
all-unsnoc P [] t h = (tt, h.0)
all-unsnoc P (e ∷ es) t h = let k = all-unsnoc P es t h.1 in ((h.0, k.0), k.1)

pub depth-positive : (t : WrittenTree) → 1 ≤ tree_depth t
depth-positive (operator o) = omega arith
depth-positive (with_tree f t) = omega arith
depth-positive (with_name f n) = depth-positive f
depth-positive (with_number f d) = depth-positive f
depth-positive (with_text f w) = depth-positive f
depth-positive list_end = omega arith
depth-positive (list_rest l t) = omega arith
depth-positive (element e r) = omega arith
depth-positive (place k t) = omega arith

-- ---- operators and lists

tree-fits : (height : ℕ) (f t : WrittenTree) → Fits height f → Fits (height + 1) t → Fits height (with_tree f t)
tree-fits height f t h k = (omega (arith, h.0, k.0), all-both IsShallowTerm (place_terms f) (place_terms t) h.1 k.1)

tree-unfits : (height : ℕ) (f t : WrittenTree) → Fits height (with_tree f t) → Fits height f × Fits (height + 1) t
tree-unfits height f t h = let k = all-split IsShallowTerm (place_terms f) (place_terms t) h.1 in ((omega (arith, h.0), k.0), (omega (arith, h.0), k.1))

pub list-fits : (height : ℕ) (es : List WrittenTree) (end : WrittenTree) → AllByRecursion (Fits (height + 1)) es → Fits height end → Fits height (list_of end es)
list-fits height [] end h k = k
list-fits height (e ∷ es) end h k =
    let rest = list-fits height es end h.1 k in
    (omega (arith, h.0.0, rest.0), all-both IsShallowTerm (place_terms e) (place_terms (list_of end es)) h.0.1 rest.1)

pub list-unfits : (height : ℕ) (es : List WrittenTree) (end : WrittenTree) → Fits height (list_of end es) → AllByRecursion (Fits (height + 1)) es × Fits height end
list-unfits height [] end h = (tt, h)
list-unfits height (e ∷ es) end h =
    let both = all-split IsShallowTerm (place_terms e) (place_terms (list_of end es)) h.1 in
    let rest = list-unfits height es end (omega (arith, h.0), both.1) in
    (((omega (arith, h.0), both.0), rest.0), rest.1)

-- ---- a specimen ends

pub placed-fit : (fs : List TreeFrame) (t : WrittenTree) → AreFit fs → Fits (length fs) t → IsFit (placed fs t)
placed-fit [] t h k = k
placed-fit (in_operator f ∷ fs) t h k = (tree-fits (length fs) f t h.0 (subst (λ n. Fits n t) (sym (add-one (length fs))) k), h.1)
placed-fit (in_list es ∷ fs) t h k = ((h.0.0, all-snoc (Fits (length fs + 1)) es t h.0.1 (subst (λ n. Fits n t) (sym (add-one (length fs))) k)), h.1)

pub placed-unfit : (fs : List TreeFrame) (t : WrittenTree) → IsFit (placed fs t) → AreFit fs × Fits (length fs) t
placed-unfit [] t h = (tt, h)
placed-unfit (in_operator f ∷ fs) t h = let k = tree-unfits (length fs) f t h.0 in ((k.0, h.1), subst (λ n. Fits n t) (add-one (length fs)) k.1)
placed-unfit (in_list es ∷ fs) t h = let k = all-unsnoc (Fits (length fs + 1)) es t h.0.1 in (((h.0.0, k.0), h.1), subst (λ n. Fits n t) (add-one (length fs)) k.1)

-- ---- steps back

pub part-fits : (height : ℕ) (f : WrittenTree) (l : LinePart) → IsLiteral l → Fits height f → Fits height (with_part f l)
part-fits height f (parts.Tree t) h k = absurd h
part-fits height f (parts.Name n) h k = k
part-fits height f (parts.Number d) h k = k
part-fits height f (parts.Text w) h k = k

pub part-unfits : (height : ℕ) (f : WrittenTree) (l : LinePart) → IsLiteral l → Fits height (with_part f l) → Fits height f
part-unfits height f (parts.Tree t) h k = absurd h
part-unfits height f (parts.Name n) h k = k
part-unfits height f (parts.Number d) h k = k
part-unfits height f (parts.Text w) h k = k

begins-literal : (ps rest : Parts) (l : LinePart) (b : Begin) → Begins ps b rest → b ≡ a_part l → IsLiteral l
begins-literal ps rest l b (a_place k t e h f c) g = absurd (cc)
begins-literal ps rest l b (an_empty e c) g = absurd (cc)
begins-literal ps rest l b (a_rest k t e h f c) g = absurd (cc)
begins-literal ps rest l b (a_list e h c) g = absurd (cc)
begins-literal ps rest l b (an_operator o e h n c) g = absurd (cc)
begins-literal ps rest l b (a_leaf o e h n c) g = absurd (cc)
begins-literal ps rest l b (a_literal m e h c) g = let same : m ≡ l = cc in subst IsLiteral same h

some-same : (a b : TreeStage) → Some a ≡ Some b → a ≡ b
some-same a b e = cc

begun-back : (fs : List TreeFrame) (b : Begin) (next : TreeStage) → ((l : LinePart) → b ≡ a_part l → IsLiteral l) → begun fs b ≡ Some next → IsFit next → AreFit fs
begun-back [] (a_part l) next h e k = absurd (cc)
begun-back (in_list es ∷ fs) (a_part l) next h e k = absurd (cc)
begun-back (in_operator f ∷ fs) (a_part l) next h e k =
    let fit = subst IsFit (sym (some-same (after (in_operator (with_part f l) ∷ fs)) next e)) k in
    (part-unfits (length fs) f l (h l refl) fit.0, fit.1)
begun-back [] (a_tree t) next h e k = tt
begun-back (f ∷ fs) (a_tree t) next h e k = (placed-unfit (f ∷ fs) t (subst IsFit (sym (some-same (placed (f ∷ fs) t) next e)) k)).0
begun-back [] (a_frame f) next h e k = tt
begun-back (g ∷ fs) (a_frame f) next h e k = (subst IsFit (sym (some-same (expects (f ∷ g ∷ fs)) next e)) k).1

finished-back : (fs : List TreeFrame) (e : Finish) (next : TreeStage) → finished fs e ≡ Some next → IsFit next → AreFit fs
finished-back [] e next f k = tt
finished-back (in_operator g ∷ fs) a_comma next f k = subst IsFit (sym (some-same (expects (in_operator g ∷ fs)) next f)) k
finished-back (in_list es ∷ fs) a_comma next f k = subst IsFit (sym (some-same (expects (in_list es ∷ fs)) next f)) k
finished-back (in_operator g ∷ fs) a_close next f k = let h = placed-unfit fs g (subst IsFit (sym (some-same (placed fs g) next f)) k) in (h.1, h.0)
finished-back (in_list es ∷ fs) a_close next f k = absurd (cc)
finished-back (in_operator g ∷ fs) (an_end end) next f k = absurd (cc)
finished-back (in_list es ∷ fs) (an_end end) next f k =
    let h = placed-unfit fs (list_of end es) (subst IsFit (sym (some-same (placed fs (list_of end es)) next f)) k) in
    let l = list-unfits (length fs) es end h.1 in
    ((omega (arith, depth-positive end, l.1.0), l.0), h.0)

pub fit-back : (s : TreeStage) (ps : Parts) (next : TreeStage) (rest : Parts) → IsTreeStep s ps next rest → IsFit next → IsFit s
fit-back (expects fs) ps next rest (b, x, e) h = begun-back fs b next (λ l. begins-literal ps rest l b x) e h
fit-back (after fs) ps next rest (e, x, f) h = finished-back fs e next f h
fit-back (done t) ps next rest x h = absurd x
