-- Terms and specimens as they are exported: a name, and brackets where something is in them.
use Rattle.std.proofs.Common.{◌≡◌, ℕ, zero, suc, ◌+◌, ◌<◌, ◌≤◌, ◌==◌, cond, List, [], ◌∷◌, ◌++◌, length, drop, get_or, map, inl, inr, refl, ap, ap₂, sym, ◌∙◌, arith, append_assoc, append-nil, length-append, codes, slice_get}
use Rattle.std.proofs.lemmas.Bool.Decides.{eqb_tells}
use Rattle.std.proofs.lemmas.Grind.{flat_map-append}
use Rattle.std.proofs.lemmas.List.{length-map}
use Rattle.psg_terms.proofs.Lists.{suc_is_not_zero}
use Rattle.psg_terms.specs.Names.{Name}
use Rattle.psg_grammar.specs.Fragments.{Fragment, hole, ending, cell, operator, with_child, with_name, with_number, with_text, anything, observed}
use Rattle.psg_tree.specs.Shapes.{height}
use Rattle.psg_tree.specs.declared.tree.Part.{Part}
use Rattle.psg_tree.specs.declared.tree.Part.TheVariants as parts
use Rattle.psg_deflines.specs.WrittenTerms.{WrittenTerm}
use Rattle.psg_deflines.specs.WrittenTerms as terms
use Rattle.psg_deflines.specs.WrittenTrees.{WrittenTree}
use Rattle.psg_deflines.specs.WrittenTrees as trees
use Rattle.psg_deflines.specs.Forms.{argument_parts, closed_names}
use Rattle.psg_self.specs.NodeParts.{node_parts, elements_of, elements_at, name_in, name_at}
use Rattle.psg_self.specs.SelfLines.{term_of, terms_of, specimen_of, specimens_of, with_trees, constructor_of}
use Rattle.psg_self.specs.Export.{packed, constructor_text, term_text, specimen_text}
use Rattle.psg_self.specs.Brackets.{marked, bracketed}

abbrev mark : ℕ → List ℕ
mark k = cond (k == 0) (codes "(") (codes ",")

mark-next : (k : ℕ) → mark (k + 1) ≡ codes ","
mark-next k = elim (eqb_tells (k + 1) 0) [ inl q ↦ absurd (omega (arith, q.1)) | inr q ↦ ap (λ b. cond b (codes "(") (codes ",")) q.0 ]

packed-append : (xs ys : List (List ℕ)) → packed (xs ++ ys) ≡ packed xs ++ packed ys
packed-append xs ys = flat_map-append (λ part. part) xs ys

marked-map : {X Y : Type 0} (f : Y → List ℕ) (g : X → Y) (k : ℕ) (xs : List X) → marked f k (map g xs) ≡ marked (λ x. f (g x)) k xs
marked-map f g k [] = refl
marked-map f g k (x ∷ xs) = ap (λ t. mark k ++ (f (g x) ++ t)) (marked-map f g (k + 1) xs)

bracketed-map : {X Y : Type 0} (f : Y → List ℕ) (g : X → Y) (xs : List X) → bracketed f (map g xs) ≡ bracketed (λ x. f (g x)) xs
bracketed-map f g xs = ap₂ (λ t n. t ++ cond (n == 0) [] (codes ")")) (marked-map f g 0 xs) (length-map xs g)

closed-one : {X : Type 0} (f : X → List ℕ) (x : X) (xs : List X) → marked f 0 (x ∷ xs) ++ codes ")" ≡ bracketed f (x ∷ xs)
closed-one f x xs = ap (λ b. marked f 0 (x ∷ xs) ++ cond b [] (codes ")")) (sym (suc_is_not_zero (length xs)))

-- a m t c, with brackets of `++` to the left and to the right
last-one : (a m t c : List ℕ) → ((a ++ m) ++ t) ++ c ≡ a ++ ((m ++ (t ++ [])) ++ c)
last-one a m t c =
    ap (λ x. x ++ c) (append_assoc a m t) ∙ append_assoc a (m ++ t) c ∙ ap (λ x. a ++ ((m ++ x) ++ c)) (sym (append-nil t))

one-of-more : (a m t r c : List ℕ) → (a ++ (m ++ t)) ++ (r ++ c) ≡ a ++ ((m ++ (t ++ r)) ++ c)
one-of-more a m t r c =
    append_assoc a (m ++ t) (r ++ c) ∙ ap (λ x. a ++ x) (sym (append_assoc (m ++ t) r c) ∙ ap (λ x. x ++ c) (append_assoc m t r))

-- ---- the last part

abbrev sub_of : Part → Fragment
sub_of (parts.Sub t) = t
sub_of _ = operator 0

abbrev name_of : Part → Name
name_of (parts.Name n) = n
name_of _ = []

abbrev pub kind_of : Part → ℕ
kind_of (parts.Sub t) = 0
kind_of (parts.Name n) = 1
kind_of (parts.Number n) = 2
kind_of (parts.Text t) = 3

snoc : (xs ys : List Part) (x y : Part) → xs ++ x ∷ [] ≡ ys ++ y ∷ [] → (xs ≡ ys) × (x ≡ y)
snoc [] [] x y h = (refl, ap (λ l. get_or l 0 x) h)
snoc [] (z ∷ zs) x y h = absurd (omega (arith, ap length h, length-append zs (y ∷ [])))
snoc (w ∷ ws) [] x y h = absurd (omega (arith, ap length h, length-append ws (x ∷ [])))
snoc (w ∷ ws) (z ∷ zs) x y h =
    let rest = snoc ws zs x y (ap (drop 1) h) in
    (ap₂ (λ a b. a ∷ b) (ap (λ l. get_or l 0 w) h) rest.0, rest.1)

no-last : (front : List Part) (p : Part) → ◌≡◌ {A = List Part} [] (front ++ p ∷ []) → ⊥
no-last front p h = absurd (omega (arith, ap length h, length-append front (p ∷ [])))

-- ---- constructors

closed-names : {X : Type 0} (f : X → Name) (k : ℕ) (x : X) (xs : List X)
    → mark k ++ packed (closed_names (f x ∷ map f xs)) ≡ marked f k (x ∷ xs) ++ codes ")"
closed-names f k x [] =
    sym (append_assoc (mark k) (f x) (codes ")")) ∙ ap (λ t. (mark k ++ t) ++ codes ")") (sym (append-nil (f x)))
closed-names f k x (y ∷ ys) =
    let rest : List ℕ = marked f (k + 1) (y ∷ ys) in
    let e : codes "," ++ packed (closed_names (f y ∷ map f ys)) ≡ rest ++ codes ")" =
    ap (λ m. m ++ packed (closed_names (f y ∷ map f ys))) (sym (mark-next k)) ∙ closed-names f (k + 1) y ys in
    ap (λ t. mark k ++ (f x ++ t)) e ∙ ap (λ t. mark k ++ t) (sym (append_assoc (f x) rest (codes ")")))
    ∙ sym (append_assoc (mark k) (f x ++ rest) (codes ")"))

names-bracketed : {X : Type 0} (f : X → Name) (xs : List X) → packed (argument_parts (map f xs)) ≡ bracketed f xs
names-bracketed f [] = refl
names-bracketed f (x ∷ xs) = closed-names f 0 x xs ∙ closed-one f x xs

pub constructor-is : (f : Fragment) → constructor_text (constructor_of f) ≡ name_at f 0 ++ bracketed (λ n. name_at n 0) (elements_at f 1)
constructor-is f = ap (λ t. name_at f 0 ++ t) (names-bracketed (λ n. name_at n 0) (elements_at f 1))

pub constructor-written : (f : Fragment) (es : List Fragment) (old one new : List ℕ) → one ≡ old ++ name_at f 0 → es ≡ elements_at f 1
    → new ≡ one ++ bracketed (λ n. name_at n 0) es → new ≡ old ++ constructor_text (constructor_of f)
constructor-written f es old one new o is n =
    n ∙ ap₂ (λ x xs. x ++ bracketed (λ m. name_at m 0) xs) o is
    ∙ append_assoc old (name_at f 0) (bracketed (λ m. name_at m 0) (elements_at f 1)) ∙ ap (λ x. old ++ x) (sym (constructor-is f))

-- ---- nesting

pub last-lower : (f : Fragment) (front : List Part) (list : Fragment) → node_parts f ≡ front ++ parts.Sub list ∷ [] → height list + 1 ≤ height f
last-lower (with_child g t) front list h = omega (arith, ap (λ p. height (sub_of p)) (snoc (node_parts g) front (parts.Sub t) (parts.Sub list) h).1)
last-lower (with_name g n) front list h = absurd (omega (arith, ap kind_of (snoc (node_parts g) front (parts.Name n) (parts.Sub list) h).1))
last-lower (with_number g n) front list h = absurd (omega (arith, ap kind_of (snoc (node_parts g) front (parts.Number n) (parts.Sub list) h).1))
last-lower (with_text g t) front list h = absurd (omega (arith, ap kind_of (snoc (node_parts g) front (parts.Text t) (parts.Sub list) h).1))
last-lower (observed g) front list h = last-lower g front list h
last-lower (hole p) front list h = absurd (no-last front (parts.Sub list) h)
last-lower (ending l u) front list h = absurd (no-last front (parts.Sub list) h)
last-lower (cell l e r) front list h = absurd (no-last front (parts.Sub list) h)
last-lower (operator o) front list h = absurd (no-last front (parts.Sub list) h)
last-lower anything front list h = absurd (no-last front (parts.Sub list) h)

pub element-lower : (f : Fragment) (i : ℕ) (e : Fragment) → i < length (elements_of f) → e ≡ get_or (elements_of f) i e → height e + 1 ≤ height f
element-lower (cell l x r) zero e h s = omega (arith, ap height s)
element-lower (cell l x r) (suc i) e h s = omega (arith, element-lower r i e (omega (arith, h)) s)
element-lower (hole p) i e h s = absurd (omega (arith, h))
element-lower (ending l u) i e h s = absurd (omega (arith, h))
element-lower (operator o) i e h s = absurd (omega (arith, h))
element-lower (with_child g t) i e h s = absurd (omega (arith, h))
element-lower (with_name g n) i e h s = absurd (omega (arith, h))
element-lower (with_number g n) i e h s = absurd (omega (arith, h))
element-lower (with_text g t) i e h s = absurd (omega (arith, h))
element-lower anything i e h s = absurd (omega (arith, h))
element-lower (observed g) i e h s = absurd (omega (arith, h))

-- ---- terms

term-list : (f : Fragment) → terms_of f ≡ map term_of (elements_of f)
term-list (cell l e r) = ap (λ t. term_of e ∷ t) (term-list r)
term-list (hole p) = refl
term-list (ending l u) = refl
term-list (operator o) = refl
term-list (with_child g t) = refl
term-list (with_name g n) = refl
term-list (with_number g n) = refl
term-list (with_text g t) = refl
term-list anything = refl
term-list (observed g) = refl

term-applied : (f : WrittenTerm) (front : List ℕ) (k : ℕ) (t : WrittenTerm) (ts : List WrittenTerm) → packed (terms.opened f) ≡ front ++ mark k
    → term_text (terms.applied (terms.apply f t) ts) ≡ front ++ (marked term_text k (t ∷ ts) ++ codes ")")
term-applied f front k t [] o =
    packed-append (terms.opened f ++ terms.term_parts t) (codes ")" ∷ []) ∙ ap (λ x. x ++ codes ")") (packed-append (terms.opened f) (terms.term_parts t))
    ∙ ap (λ x. (x ++ term_text t) ++ codes ")") o ∙ last-one front (mark k) (term_text t) (codes ")")
term-applied f front k t (u ∷ ts) o =
    let next : packed (terms.opened (terms.apply f t)) ≡ (front ++ (mark k ++ term_text t)) ++ mark (k + 1) =
    packed-append (terms.opened f ++ terms.term_parts t) (codes "," ∷ []) ∙ ap (λ x. x ++ codes ",") (packed-append (terms.opened f) (terms.term_parts t))
    ∙ ap (λ x. (x ++ term_text t) ++ codes ",") o ∙ ap (λ x. x ++ codes ",") (append_assoc front (mark k) (term_text t))
    ∙ ap (λ x. (front ++ (mark k ++ term_text t)) ++ x) (sym (mark-next k)) in
    term-applied (terms.apply f t) (front ++ (mark k ++ term_text t)) (k + 1) u ts next
    ∙ one-of-more front (mark k) (term_text t) (marked term_text (k + 1) (u ∷ ts)) (codes ")")

term-named : (n : List ℕ) (ts : List WrittenTerm) → term_text (terms.applied (terms.named n) ts) ≡ n ++ bracketed term_text ts
term-named n [] = refl
term-named n (t ∷ ts) = term-applied (terms.named n) n 0 t ts refl ∙ ap (λ x. n ++ x) (closed-one term_text t ts)

pub term-sub : (f : Fragment) (front : List Part) (list : Fragment) → node_parts f ≡ front ++ parts.Sub list ∷ []
    → term_text (term_of f) ≡ name_in (slice_get front 0) ++ bracketed (λ t. term_text (term_of t)) (elements_of list)
term-sub (with_child g t) front list h =
    let s = snoc (node_parts g) front (parts.Sub t) (parts.Sub list) h in
    term-named (name_at g 0) (terms_of t)
    ∙ ap₂ (λ ps x. name_in (slice_get ps 0) ++ bracketed term_text x) s.0 (term-list t ∙ ap (λ p. map term_of (elements_of (sub_of p))) s.1)
    ∙ ap (λ x. name_in (slice_get front 0) ++ x) (bracketed-map term_text term_of (elements_of list))
term-sub (with_name g n) front list h = absurd (omega (arith, ap kind_of (snoc (node_parts g) front (parts.Name n) (parts.Sub list) h).1))
term-sub (with_number g n) front list h = absurd (omega (arith, ap kind_of (snoc (node_parts g) front (parts.Number n) (parts.Sub list) h).1))
term-sub (with_text g t) front list h = absurd (omega (arith, ap kind_of (snoc (node_parts g) front (parts.Text t) (parts.Sub list) h).1))
term-sub (observed g) front list h = term-sub g front list h
term-sub (hole p) front list h = absurd (no-last front (parts.Sub list) h)
term-sub (ending l u) front list h = absurd (no-last front (parts.Sub list) h)
term-sub (cell l e r) front list h = absurd (no-last front (parts.Sub list) h)
term-sub (operator o) front list h = absurd (no-last front (parts.Sub list) h)
term-sub anything front list h = absurd (no-last front (parts.Sub list) h)

pub term-none : (f : Fragment) → node_parts f ≡ [] → term_text (term_of f) ≡ []
term-none (with_child g t) h = absurd (no-last (node_parts g) (parts.Sub t) (sym h))
term-none (with_name g n) h = absurd (no-last (node_parts g) (parts.Name n) (sym h))
term-none (with_number g n) h = refl
term-none (with_text g t) h = refl
term-none (observed g) h = term-none g h
term-none (hole p) h = refl
term-none (ending l u) h = refl
term-none (cell l e r) h = refl
term-none (operator o) h = refl
term-none anything h = refl

-- the last part is no tree and no name
pub term-other : (f : Fragment) (front : List Part) (p : Part) → node_parts f ≡ front ++ p ∷ [] → 2 ≤ kind_of p → term_text (term_of f) ≡ []
term-other (with_child g t) front p h k = absurd (omega (arith, k, ap kind_of (snoc (node_parts g) front (parts.Sub t) p h).1))
term-other (with_name g n) front p h k = absurd (omega (arith, k, ap kind_of (snoc (node_parts g) front (parts.Name n) p h).1))
term-other (with_number g n) front p h k = refl
term-other (with_text g t) front p h k = refl
term-other (observed g) front p h k = term-other g front p h k
term-other (hole q) front p h k = refl
term-other (ending l u) front p h k = refl
term-other (cell l e r) front p h k = refl
term-other (operator o) front p h k = refl
term-other anything front p h k = refl

pub term-name : (f : Fragment) (front : List Part) (n : Name) → node_parts f ≡ front ++ parts.Name n ∷ [] → term_text (term_of f) ≡ 63 ∷ n
term-name (with_name g m) front n h = append-nil (63 ∷ m) ∙ ap (λ p. 63 ∷ name_of p) (snoc (node_parts g) front (parts.Name m) (parts.Name n) h).1
term-name (with_child g t) front n h = absurd (omega (arith, ap kind_of (snoc (node_parts g) front (parts.Sub t) (parts.Name n) h).1))
term-name (with_number g x) front n h = absurd (omega (arith, ap kind_of (snoc (node_parts g) front (parts.Number x) (parts.Name n) h).1))
term-name (with_text g t) front n h = absurd (omega (arith, ap kind_of (snoc (node_parts g) front (parts.Text t) (parts.Name n) h).1))
term-name (observed g) front n h = term-name g front n h
term-name (hole p) front n h = absurd (no-last front (parts.Name n) h)
term-name (ending l u) front n h = absurd (no-last front (parts.Name n) h)
term-name (cell l e r) front n h = absurd (no-last front (parts.Name n) h)
term-name (operator o) front n h = absurd (no-last front (parts.Name n) h)
term-name anything front n h = absurd (no-last front (parts.Name n) h)

-- ---- specimens

specimen-list : (f : Fragment) → specimens_of f ≡ map specimen_of (elements_of f)
specimen-list (cell l e r) = ap (λ t. specimen_of e ∷ t) (specimen-list r)
specimen-list (hole p) = refl
specimen-list (ending l u) = refl
specimen-list (operator o) = refl
specimen-list (with_child g t) = refl
specimen-list (with_name g n) = refl
specimen-list (with_number g n) = refl
specimen-list (with_text g t) = refl
specimen-list anything = refl
specimen-list (observed g) = refl

specimen-applied : (f : WrittenTree) (front : List ℕ) (k : ℕ) (t : WrittenTree) (ts : List WrittenTree) → packed (trees.opened f) ≡ front ++ mark k
    → specimen_text (with_trees (trees.with_tree f t) ts) ≡ front ++ (marked specimen_text k (t ∷ ts) ++ codes ")")
specimen-applied f front k t [] o =
    packed-append (trees.opened f ++ trees.tree_parts t) (codes ")" ∷ []) ∙ ap (λ x. x ++ codes ")") (packed-append (trees.opened f) (trees.tree_parts t))
    ∙ ap (λ x. (x ++ specimen_text t) ++ codes ")") o ∙ last-one front (mark k) (specimen_text t) (codes ")")
specimen-applied f front k t (u ∷ ts) o =
    let next : packed (trees.opened (trees.with_tree f t)) ≡ (front ++ (mark k ++ specimen_text t)) ++ mark (k + 1) =
    packed-append (trees.opened f ++ trees.tree_parts t) (codes "," ∷ []) ∙ ap (λ x. x ++ codes ",") (packed-append (trees.opened f) (trees.tree_parts t))
    ∙ ap (λ x. (x ++ specimen_text t) ++ codes ",") o ∙ ap (λ x. x ++ codes ",") (append_assoc front (mark k) (specimen_text t))
    ∙ ap (λ x. (front ++ (mark k ++ specimen_text t)) ++ x) (sym (mark-next k)) in
    specimen-applied (trees.with_tree f t) (front ++ (mark k ++ specimen_text t)) (k + 1) u ts next
    ∙ one-of-more front (mark k) (specimen_text t) (marked specimen_text (k + 1) (u ∷ ts)) (codes ")")

specimen-named : (n : List ℕ) (ts : List WrittenTree) → specimen_text (with_trees (trees.operator n) ts) ≡ n ++ bracketed specimen_text ts
specimen-named n [] = refl
specimen-named n (t ∷ ts) = specimen-applied (trees.operator n) n 0 t ts refl ∙ ap (λ x. n ++ x) (closed-one specimen_text t ts)

pub specimen-sub : (f : Fragment) (front : List Part) (list : Fragment) → node_parts f ≡ front ++ parts.Sub list ∷ []
    → specimen_text (specimen_of f) ≡ name_in (slice_get front 0) ++ bracketed (λ t. specimen_text (specimen_of t)) (elements_of list)
specimen-sub (with_child g t) front list h =
    let s = snoc (node_parts g) front (parts.Sub t) (parts.Sub list) h in
    specimen-named (name_at g 0) (specimens_of t)
    ∙ ap₂ (λ ps x. name_in (slice_get ps 0) ++ bracketed specimen_text x) s.0 (specimen-list t ∙ ap (λ p. map specimen_of (elements_of (sub_of p))) s.1)
    ∙ ap (λ x. name_in (slice_get front 0) ++ x) (bracketed-map specimen_text specimen_of (elements_of list))
specimen-sub (with_name g n) front list h = absurd (omega (arith, ap kind_of (snoc (node_parts g) front (parts.Name n) (parts.Sub list) h).1))
specimen-sub (with_number g n) front list h = absurd (omega (arith, ap kind_of (snoc (node_parts g) front (parts.Number n) (parts.Sub list) h).1))
specimen-sub (with_text g t) front list h = absurd (omega (arith, ap kind_of (snoc (node_parts g) front (parts.Text t) (parts.Sub list) h).1))
specimen-sub (observed g) front list h = specimen-sub g front list h
specimen-sub (hole p) front list h = absurd (no-last front (parts.Sub list) h)
specimen-sub (ending l u) front list h = absurd (no-last front (parts.Sub list) h)
specimen-sub (cell l e r) front list h = absurd (no-last front (parts.Sub list) h)
specimen-sub (operator o) front list h = absurd (no-last front (parts.Sub list) h)
specimen-sub anything front list h = absurd (no-last front (parts.Sub list) h)

pub specimen-none : (f : Fragment) → node_parts f ≡ [] → specimen_text (specimen_of f) ≡ []
specimen-none (with_child g t) h = absurd (no-last (node_parts g) (parts.Sub t) (sym h))
specimen-none (with_name g n) h = refl
specimen-none (with_number g n) h = refl
specimen-none (with_text g t) h = refl
specimen-none (observed g) h = specimen-none g h
specimen-none (hole p) h = refl
specimen-none (ending l u) h = refl
specimen-none (cell l e r) h = refl
specimen-none (operator o) h = refl
specimen-none anything h = refl

-- the last part is no tree
pub specimen-other : (f : Fragment) (front : List Part) (p : Part) → node_parts f ≡ front ++ p ∷ [] → 1 ≤ kind_of p → specimen_text (specimen_of f) ≡ []
specimen-other (with_child g t) front p h k = absurd (omega (arith, k, ap kind_of (snoc (node_parts g) front (parts.Sub t) p h).1))
specimen-other (with_name g n) front p h k = refl
specimen-other (with_number g n) front p h k = refl
specimen-other (with_text g t) front p h k = refl
specimen-other (observed g) front p h k = specimen-other g front p h k
specimen-other (hole q) front p h k = refl
specimen-other (ending l u) front p h k = refl
specimen-other (cell l e r) front p h k = refl
specimen-other (operator o) front p h k = refl
specimen-other anything front p h k = refl

-- ---- what is written of a term

pub term-nothing : (f : Fragment) (ps : List Part) (old : List ℕ) → ps ≡ node_parts f → length ps ≡ 0
    → old ≡ old ++ term_text (term_of f)
term-nothing f [] old is none = sym (append-nil old) ∙ ap (λ x. old ++ x) (sym (term-none f (sym is)))
term-nothing f (p ∷ ps) old is none = absurd (omega (arith, none))

pub term-left : (f : Fragment) (ps front : List Part) (p : Part) (old : List ℕ) → ps ≡ node_parts f → ps ≡ front ++ p ∷ []
    → 2 ≤ kind_of p → old ≡ old ++ term_text (term_of f)
term-left f ps front p old is split k =
    sym (append-nil old) ∙ ap (λ x. old ++ x) (sym (term-other f front p (sym is ∙ split) k))

pub term-branch : (f : Fragment) (ps front : List Part) (p : Part) (list : Fragment) (old mid new : List ℕ) → ps ≡ node_parts f
    → ps ≡ front ++ p ∷ [] → p ≡ parts.Sub list → mid ≡ old ++ name_in (slice_get front 0)
    → new ≡ mid ++ bracketed (λ t. term_text (term_of t)) (elements_of list) → new ≡ old ++ term_text (term_of f)
term-branch f ps front p list old mid new is split sub m n =
    n ∙ ap (λ x. x ++ bracketed (λ t. term_text (term_of t)) (elements_of list)) m
    ∙ append_assoc old (name_in (slice_get front 0)) (bracketed (λ t. term_text (term_of t)) (elements_of list))
    ∙ ap (λ x. old ++ x) (sym (term-sub f front list (sym is ∙ split ∙ ap (λ x. front ++ x ∷ []) sub)))

pub term-lower : (f : Fragment) (ps front : List Part) (p : Part) (list : Fragment) → ps ≡ node_parts f → ps ≡ front ++ p ∷ []
    → p ≡ parts.Sub list → height list + 1 ≤ height f
term-lower f ps front p list is split sub = last-lower f front list (sym is ∙ split ∙ ap (λ x. front ++ x ∷ []) sub)

-- ---- what is written of a specimen

pub specimen-nothing : (f : Fragment) (ps : List Part) (old : List ℕ) → ps ≡ node_parts f → length ps ≡ 0
    → old ≡ old ++ specimen_text (specimen_of f)
specimen-nothing f [] old is none = sym (append-nil old) ∙ ap (λ x. old ++ x) (sym (specimen-none f (sym is)))
specimen-nothing f (p ∷ ps) old is none = absurd (omega (arith, none))

pub specimen-left : (f : Fragment) (ps front : List Part) (p : Part) (old : List ℕ) → ps ≡ node_parts f → ps ≡ front ++ p ∷ []
    → 1 ≤ kind_of p → old ≡ old ++ specimen_text (specimen_of f)
specimen-left f ps front p old is split k =
    sym (append-nil old) ∙ ap (λ x. old ++ x) (sym (specimen-other f front p (sym is ∙ split) k))

pub specimen-branch : (f : Fragment) (ps front : List Part) (p : Part) (list : Fragment) (old mid new : List ℕ) → ps ≡ node_parts f
    → ps ≡ front ++ p ∷ [] → p ≡ parts.Sub list → mid ≡ old ++ name_in (slice_get front 0)
    → new ≡ mid ++ bracketed (λ t. specimen_text (specimen_of t)) (elements_of list) → new ≡ old ++ specimen_text (specimen_of f)
specimen-branch f ps front p list old mid new is split sub m n =
    n ∙ ap (λ x. x ++ bracketed (λ t. specimen_text (specimen_of t)) (elements_of list)) m
    ∙ append_assoc old (name_in (slice_get front 0)) (bracketed (λ t. specimen_text (specimen_of t)) (elements_of list))
    ∙ ap (λ x. old ++ x) (sym (specimen-sub f front list (sym is ∙ split ∙ ap (λ x. front ++ x ∷ []) sub)))

pub specimen-lower : (f : Fragment) (ps front : List Part) (p : Part) (list : Fragment) → ps ≡ node_parts f → ps ≡ front ++ p ∷ []
    → p ≡ parts.Sub list → height list + 1 ≤ height f
specimen-lower f ps front p list is split sub = last-lower f front list (sym is ∙ split ∙ ap (λ x. front ++ x ∷ []) sub)

pub term-variable : (f : Fragment) (ps front : List Part) (p : Part) (old new name n : List ℕ) → ps ≡ node_parts f
    → ps ≡ front ++ p ∷ [] → p ≡ parts.Name n → name ≡ n → new ≡ old ++ 63 ∷ name → new ≡ old ++ term_text (term_of f)
term-variable f ps front p old new name n is split named same w =
    w ∙ ap (λ y. old ++ 63 ∷ y) same
    ∙ ap (λ x. old ++ x) (sym (term-name f front n (sym is ∙ split ∙ ap (λ x. front ++ x ∷ []) named)))

pub element-in : (f : Fragment) (es : List Fragment) (i : ℕ) (e : Fragment) → es ≡ elements_of f → i < length es → e ≡ get_or es i e
    → height e + 1 ≤ height f
element-in f es i e is h r =
    let inside : i < length (elements_of f) = omega (arith, h, ap length is) in
    element-lower f i e inside (r ∙ ap (λ xs. get_or xs i e) is)

-- brackets around the elements of a list
pub terms-end : (f : Fragment) (es : List Fragment) (text : Fragment → List ℕ) (old new : List ℕ) → es ≡ elements_of f
    → new ≡ old ++ bracketed text es → new ≡ old ++ bracketed text (elements_of f)
terms-end f es text old new is n = n ∙ ap (λ x. old ++ bracketed text x) is
