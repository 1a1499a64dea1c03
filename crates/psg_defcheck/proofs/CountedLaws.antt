-- Terms and specimens with the numbers of arguments and parts of the declarations.
use Rattle.std.proofs.Common.{◌≡◌, ◌↔◌, ℕ, ◌+◌, ◌<◌, IsTrue, Bool, true, false, cond, List, [], ◌∷◌, ◌++◌, take, get_or, length, refl, ap, sym, ◌∙◌, subst, Option, Some, None, arith}
use Rattle.std.proofs.lemmas.Bool.{false≢true}
use Rattle.psg_terms.proofs.Lists.{take_item}
use Rattle.std.specs.List.{AllByRecursion}
use Rattle.psg_terms.specs.Names.{Name}
use Rattle.psg_deflines.specs.WrittenTerms.{WrittenTerm, named, apply, applied}
use Rattle.psg_deflines.specs.WrittenTrees.{WrittenTree, operator, with_tree, with_name, with_number, with_text}
use Rattle.psg_deflines.specs.TreeShapes.{with_parts, ending, list_of}
use Rattle.psg_deflines.specs.declared.trees.LinePlace.{LinePlace}
use Rattle.psg_deflines.specs.declared.trees.LinePart.{LinePart}
use Rattle.psg_deflines.specs.declared.trees.LinePart.TheVariants as parts
use Rattle.psg_deflines.specs.declared.lines.LineItem.{LineItem}
use Rattle.psg_deflines.specs.declared.lines.Line.{Line}
use Rattle.psg_defcheck.specs.Scopes.{constructor_declared, operator_declared}
use Rattle.psg_defcheck.specs.Meanings.{CountsTerm, CountsTree, IsArity, IsPartCount, count_of}
use Rattle.psg_defcheck.specs.Parts.{CountsPart, CountsEnd}

pub counts-applied : (file : List Line) (k m : ℕ) (f : WrittenTerm) (args : List WrittenTerm) → m ≡ k + length args → CountsTerm file k (applied f args) ↔ (CountsTerm file m f × AllByRecursion (CountsTerm file 0) args)
counts-applied file k m f [] e = let z : m ≡ k = omega arith in (λ c. (subst (λ n. CountsTerm file n f) (sym z) c, tt), λ h. subst (λ n. CountsTerm file n f) z h.0)
counts-applied file k m f (a ∷ args) e =
    let r = counts-applied file k (k + length args) (apply f a) args refl in
    let z : m ≡ k + length args + 1 = omega arith in (
      λ c. let h = r.0 c in (subst (λ n. CountsTerm file n f) (sym z) h.0.0, (h.0.1, h.1)),
      λ h. r.1 ((subst (λ n. CountsTerm file n f) z h.0, h.1.0), h.1.1),
    )

pub counts-parts : (file : List Line) (k m : ℕ) (f : WrittenTree) (ps : List LinePart) → m ≡ k + length ps → CountsTree file k (with_parts f ps) ↔ (CountsTree file m f × AllByRecursion (CountsPart file) ps)
counts-parts file k m f [] e = let z : m ≡ k = omega arith in (λ c. (subst (λ n. CountsTree file n f) (sym z) c, tt), λ h. subst (λ n. CountsTree file n f) z h.0)
counts-parts file k m f (parts.Tree t ∷ ps) e =
    let r = counts-parts file k (k + length ps) (with_tree f t) ps refl in
    let z : m ≡ k + length ps + 1 = omega arith in (
      λ c. let h = r.0 c in (subst (λ n. CountsTree file n f) (sym z) h.0.0, (h.0.1, h.1)),
      λ h. r.1 ((subst (λ n. CountsTree file n f) z h.0, h.1.0), h.1.1),
    )
counts-parts file k m f (parts.Name n ∷ ps) e =
    let r = counts-parts file k (k + length ps) (with_name f n) ps refl in
    let z : m ≡ k + length ps + 1 = omega arith in (
      λ c. let h = r.0 c in (subst (λ n. CountsTree file n f) (sym z) h.0, (tt, h.1)),
      λ h. r.1 (subst (λ n. CountsTree file n f) z h.0, h.1.1),
    )
counts-parts file k m f (parts.Number d ∷ ps) e =
    let r = counts-parts file k (k + length ps) (with_number f d) ps refl in
    let z : m ≡ k + length ps + 1 = omega arith in (
      λ c. let h = r.0 c in (subst (λ n. CountsTree file n f) (sym z) h.0, (tt, h.1)),
      λ h. r.1 (subst (λ n. CountsTree file n f) z h.0, h.1.1),
    )
counts-parts file k m f (parts.Text w ∷ ps) e =
    let r = counts-parts file k (k + length ps) (with_text f w) ps refl in
    let z : m ≡ k + length ps + 1 = omega arith in (
      λ c. let h = r.0 c in (subst (λ n. CountsTree file n f) (sym z) h.0, (tt, h.1)),
      λ h. r.1 (subst (λ n. CountsTree file n f) z h.0, h.1.1),
    )

counts-end : (file : List Line) (rest : Option LinePlace) → CountsTree file 0 (ending rest) ↔ CountsEnd file rest
counts-end file None = (λ h. h, λ h. h)
counts-end file (Some p) = (λ h. h, λ h. h)

pub counts-elements : (file : List Line) (rest : Option LinePlace) (es : List WrittenTree) → CountsTree file 0 (list_of (ending rest) es) ↔ (CountsEnd file rest × AllByRecursion (CountsTree file 0) es)
counts-elements file rest [] = let r = counts-end file rest in (λ k. (r.0 k, tt), λ h. r.1 h.0)
counts-elements file rest (e ∷ es) = let r = counts-elements file rest es in (
  λ k. let h = r.0 k.1 in (h.0, (k.0, h.1)),
  λ h. (h.1.0, r.1 (h.0, h.1.1)),
)

-- answers of the tests
pub named_counted : (file : List Line) (t : WrittenTerm) (n : Name) (args : List WrittenTerm) (b : Bool) → applied (named n) args ≡ t → IsArity (constructor_declared file n) (length args) → IsTrue b ↔ AllByRecursion (CountsTerm file 0) args → IsTrue b ↔ CountsTerm file 0 t
named_counted file t n args b e k h = let r = counts-applied file 0 (length args) (named n) args (omega arith) in
    subst (λ z. IsTrue b ↔ CountsTerm file 0 z) e (λ y. r.1 (k, h.0 y), λ z. h.1 (r.0 z).1)

pub named_miscounted : (file : List Line) (t : WrittenTerm) (n : Name) (args : List WrittenTerm) (b : Bool) → applied (named n) args ≡ t → b ≡ false → IsTrue b ↔ IsArity (constructor_declared file n) (length args) → IsTrue b ↔ CountsTerm file 0 t
named_miscounted file t n args b e f h = let r = counts-applied file 0 (length args) (named n) args (omega arith) in
    subst (λ z. IsTrue b ↔ CountsTerm file 0 z) e (λ y. absurd (false≢true (sym f ∙ y)), λ z. h.1 (r.0 z).0)

pub operator_counted : (file : List Line) (t : WrittenTree) (o : Name) (ps : List LinePart) (b : Bool) → with_parts (operator o) ps ≡ t → IsPartCount (operator_declared file o) (length ps) → IsTrue b ↔ AllByRecursion (CountsPart file) ps → IsTrue b ↔ CountsTree file 0 t
operator_counted file t o ps b e k h = let r = counts-parts file 0 (length ps) (operator o) ps (omega arith) in
    subst (λ z. IsTrue b ↔ CountsTree file 0 z) e (λ y. r.1 (k, h.0 y), λ z. h.1 (r.0 z).1)

pub operator_miscounted : (file : List Line) (t : WrittenTree) (o : Name) (ps : List LinePart) (b : Bool) → with_parts (operator o) ps ≡ t → b ≡ false → IsTrue b ↔ IsPartCount (operator_declared file o) (length ps) → IsTrue b ↔ CountsTree file 0 t
operator_miscounted file t o ps b e f h = let r = counts-parts file 0 (length ps) (operator o) ps (omega arith) in
    subst (λ z. IsTrue b ↔ CountsTree file 0 z) e (λ y. absurd (false≢true (sym f ∙ y)), λ z. h.1 (r.0 z).0)

pub list_counted : (file : List Line) (t : WrittenTree) (rest : Option LinePlace) (es : List WrittenTree) (b : Bool) → list_of (ending rest) es ≡ t → CountsEnd file rest → IsTrue b ↔ AllByRecursion (CountsTree file 0) es → IsTrue b ↔ CountsTree file 0 t
list_counted file t rest es b e k h = let r = counts-elements file rest es in
    subst (λ z. IsTrue b ↔ CountsTree file 0 z) e (λ y. r.1 (k, h.0 y), λ z. h.1 (r.0 z).1)

pub list_miscounted : (file : List Line) (t : WrittenTree) (rest : Option LinePlace) (es : List WrittenTree) (b : Bool) → list_of (ending rest) es ≡ t → b ≡ false → IsTrue b ↔ CountsEnd file rest → IsTrue b ↔ CountsTree file 0 t
list_miscounted file t rest es b e f h = let r = counts-elements file rest es in
    subst (λ z. IsTrue b ↔ CountsTree file 0 z) e (λ y. absurd (false≢true (sym f ∙ y)), λ z. h.1 (r.0 z).0)

-- counts of items
count_of-append : (test : LineItem → Bool) (xs : List LineItem) (x : LineItem) → count_of test (xs ++ x ∷ []) ≡ cond (test x) (count_of test xs + 1) (count_of test xs)
count_of-append test [] x = refl
count_of-append test (y ∷ xs) x =
    ap (λ n. cond (test y) (n + 1) n) (count_of-append test xs x)
    ∙ elim (test x) as (λ b. cond (test y) (cond b (count_of test xs + 1) (count_of test xs) + 1) (cond b (count_of test xs + 1) (count_of test xs)) ≡ cond b (cond (test y) (count_of test xs + 1) (count_of test xs) + 1) (cond (test y) (count_of test xs + 1) (count_of test xs))) [
      | true ↦ elim (test y) as (λ c. cond c (count_of test xs + 1 + 1) (count_of test xs + 1) ≡ cond c (count_of test xs + 1) (count_of test xs) + 1) [ true ↦ refl | false ↦ refl ]
      | false ↦ refl
    ]

pub count-more : (test : LineItem → Bool) (xs : List LineItem) (i : ℕ) (x : LineItem) (n : ℕ) → i < length xs → x ≡ get_or xs i x → test x ≡ true → n ≡ count_of test (take i xs) → n + 1 ≡ count_of test (take (i + 1) xs)
count-more test xs i x n lt at is e =
    ap (λ m. m + 1) e ∙ sym (ap (λ b. cond b (count_of test (take i xs) + 1) (count_of test (take i xs))) is) ∙ sym (count_of-append test (take i xs) x) ∙ ap (count_of test) (sym (take_item xs i x lt at))

pub count-same : (test : LineItem → Bool) (xs : List LineItem) (i : ℕ) (x : LineItem) (n : ℕ) → i < length xs → x ≡ get_or xs i x → test x ≡ false → n ≡ count_of test (take i xs) → n ≡ count_of test (take (i + 1) xs)
count-same test xs i x n lt at is e =
    e ∙ sym (ap (λ b. cond b (count_of test (take i xs) + 1) (count_of test (take i xs))) is) ∙ sym (count_of-append test (take i xs) x) ∙ ap (count_of test) (sym (take_item xs i x lt at))
