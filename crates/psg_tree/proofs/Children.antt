-- The children of a node of the program, and a change made of one of them.
use Rattle.std.proofs.Common.{◌≡◌, inl, inr, ℕ, zero, suc, ◌+◌, ◌<◌, ◌≤◌, ◌==◌, Bool, false, cond, List, [], ◌∷◌, ◌++◌, length, take, get_or, slice_get, Option, Some, None, Bor, refl, ap, ap₂, sym, ◌∙◌, arith, append_assoc, length-append}
use Rattle.std.specs.Option.{option_copied}
use Rattle.std.specs.Slice.{IsGetResult}
use Rattle.std.proofs.lemmas.Bool.Decides.{eqb_tells}
use Rattle.std.proofs.lemmas.List.{take_more, length-take-le}
use Rattle.std.proofs.lemmas.Option.{slice_get_past, slice_get_read}
use Rattle.psg_terms.proofs.Lists.{suc_is_not_zero}
use Rattle.psg_grammar.specs.Fragments.{Fragment, hole, ending, cell, operator, with_child, with_name, with_number, with_text, anything, observed, children_of}
use Rattle.psg_grammar.specs.Paths.{change_child, put_child}
use Rattle.psg_tree.specs.declared.tree.Part.{Part}
use Rattle.psg_tree.specs.declared.tree.Part.TheVariants.{Sub, Name, Number, Text}
use Rattle.psg_tree.specs.declared.tree.Shape.{Shape}
use Rattle.psg_tree.specs.declared.tree.Shape.TheVariants.{Op, List as ListOf}
use Rattle.psg_tree.specs.Shapes.{tree_of, with_parts, list_of, subtrees, chosen_part, put_part, put_element}

pub subtrees-append : (xs ys : List Part) → subtrees (xs ++ ys) ≡ subtrees xs ++ subtrees ys
subtrees-append [] ys = refl
subtrees-append (Sub t ∷ xs) ys = ap (λ l. t ∷ l) (subtrees-append xs ys)
subtrees-append (Name n ∷ xs) ys = subtrees-append xs ys
subtrees-append (Number n ∷ xs) ys = subtrees-append xs ys
subtrees-append (Text t ∷ xs) ys = subtrees-append xs ys

pub length-subtrees-le : (xs : List Part) → length (subtrees xs) ≤ length xs
length-subtrees-le [] = omega arith
length-subtrees-le (Sub t ∷ xs) = omega (arith, length-subtrees-le xs)
length-subtrees-le (Name n ∷ xs) = omega (arith, length-subtrees-le xs)
length-subtrees-le (Number n ∷ xs) = omega (arith, length-subtrees-le xs)
length-subtrees-le (Text t ∷ xs) = omega (arith, length-subtrees-le xs)

-- the children of a node with more parts are its own and the subtrees of the parts
pub children-with_parts : (f : Fragment) (ps : List Part) → children_of (with_parts f ps) ≡ children_of f ++ subtrees ps
children-with_parts f [] = append-nil (children_of f) where
  append-nil : (xs : List Fragment) → xs ≡ xs ++ []
  append-nil [] = refl
  append-nil (x ∷ xs) = ap (λ l. x ∷ l) (append-nil xs)
children-with_parts f (Sub t ∷ ps) = children-with_parts (with_child f t) ps ∙ append_assoc (children_of f) (t ∷ []) (subtrees ps)
children-with_parts f (Name n ∷ ps) = children-with_parts (with_name f n) ps
children-with_parts f (Number n ∷ ps) = children-with_parts (with_number f n) ps
children-with_parts f (Text t ∷ ps) = children-with_parts (with_text f t) ps

pub children-list : (l : ℕ) (es : List Fragment) (u : Bool) → children_of (list_of l es u) ≡ es
children-list l [] u = refl
children-list l (e ∷ es) u = ap (λ r. e ∷ r) (children-list l es u)

-- a number past the children changes nothing
pub change-past : (g : Fragment → Fragment) (f : Fragment) (k : ℕ) → length (children_of f) ≤ k → change_child g k f ≡ f
change-past g (hole p) k h = refl
change-past g (ending l u) k h = refl
change-past g (cell l e r) zero h = absurd (omega (arith, h))
change-past g (cell l e r) (suc k) h = ap (λ x. cell l e x) (change-past g r k (omega (arith, h)))
change-past g (operator o) k h = refl
change-past g (with_child f t) k h =
    let n : length (children_of f ++ t ∷ []) ≡ length (children_of f) + 1 = length-append (children_of f) (t ∷ []) in
    elim (eqb_tells (length (children_of f)) k) [
      | inl e ↦ absurd (omega (arith, h, n, e.1))
      | inr e ↦ ap (λ b. cond b (with_child f (g t)) (with_child (change_child g k f) t)) e.0 ∙ ap (λ x. with_child x t) (change-past g f k (omega (arith, h, n)))
    ]
change-past g (with_name f n) k h = ap (λ x. with_name x n) (change-past g f k h)
change-past g (with_number f n) k h = ap (λ x. with_number x n) (change-past g f k h)
change-past g (with_text f n) k h = ap (λ x. with_text x n) (change-past g f k h)
change-past g anything k h = refl
change-past g (observed f) k h = ap observed (change-past g f k h)

-- a child of the node without the parts
pub change-front : (g : Fragment → Fragment) (k : ℕ) (f : Fragment) (ps : List Part) → k < length (children_of f) → change_child g k (with_parts f ps) ≡ with_parts (change_child g k f) ps
change-front g k f [] h = refl
change-front g k f (Sub t ∷ ps) h =
    let n : length (children_of f ++ t ∷ []) ≡ length (children_of f) + 1 = length-append (children_of f) (t ∷ []) in
    elim (eqb_tells (length (children_of f)) k) [
      | inl e ↦ absurd (omega (arith, h, e.1))
      | inr e ↦ change-front g k (with_child f t) ps (omega (arith, h, n)) ∙ ap (λ b. with_parts (cond b (with_child f (g t)) (with_child (change_child g k f) t)) ps) e.0
    ]
change-front g k f (Name n ∷ ps) h = change-front g k (with_name f n) ps h
change-front g k f (Number n ∷ ps) h = change-front g k (with_number f n) ps h
change-front g k f (Text t ∷ ps) h = change-front g k (with_text f t) ps h

-- a child among the parts
pub put-parts : (new : Fragment) (k j : ℕ) (f : Fragment) (ps : List Part) → k ≡ length (children_of f) + j → put_child new k (with_parts f ps) ≡ with_parts f (put_part new j ps)
put-parts new k j f [] h = change-past (λ old. new) f k (omega (arith, h))
put-parts new k zero f (Sub t ∷ ps) h =
    let n : length (children_of f ++ t ∷ []) ≡ length (children_of f) + 1 = length-append (children_of f) (t ∷ []) in
    elim (eqb_tells (length (children_of f)) k) [
      | inl e ↦ change-front (λ old. new) k (with_child f t) ps (omega (arith, h, n)) ∙ ap (λ b. with_parts (cond b (with_child f new) (with_child (put_child new k f) t)) ps) e.0
      | inr e ↦ absurd (e.1 (omega (arith, h)))
    ]
put-parts new k (suc j) f (Sub t ∷ ps) h =
    let n : length (children_of f ++ t ∷ []) ≡ length (children_of f) + 1 = length-append (children_of f) (t ∷ []) in
    put-parts new k j (with_child f t) ps (omega (arith, h, n))
put-parts new k j f (Name n ∷ ps) h = put-parts new k j (with_name f n) ps h
put-parts new k j f (Number n ∷ ps) h = put-parts new k j (with_number f n) ps h
put-parts new k j f (Text t ∷ ps) h = put-parts new k j (with_text f t) ps h

pub put-list : (new : Fragment) (k l : ℕ) (es : List Fragment) (u : Bool) → put_child new k (list_of l es u) ≡ list_of l (put_element new k es) u
put-list new k l [] u = refl
put-list new zero l (e ∷ es) u = refl
put-list new (suc k) l (e ∷ es) u = ap (λ r. cell l e r) (put-list new k l es u)

same_tests : (m k : ℕ) → (m == k) ≡ (suc m == suc k)
same_tests m k = elim (eqb_tells m k) [
  | inl q ↦ elim (eqb_tells (suc m) (suc k)) [ inl r ↦ q.0 ∙ sym r.0 | inr r ↦ absurd (r.1 (omega (arith, q.1))) ]
  | inr q ↦ elim (eqb_tells (suc m) (suc k)) [ inl r ↦ absurd (q.1 (omega (arith, r.1))) | inr r ↦ q.0 ∙ sym r.0 ]
]

zero_not : (k : ℕ) → (0 == suc k) ≡ false
zero_not k = elim (eqb_tells 0 (suc k)) [ inl q ↦ absurd (omega (arith, q.1)) | inr q ↦ q.0 ]

-- nothing is chosen of the part behind the number
unchosen : (new : Fragment) (p : Part) → p ∷ [] ≡ chosen_part false new p ∷ []
unchosen new (Sub t) = refl
unchosen new (Name n) = refl
unchosen new (Number n) = refl
unchosen new (Text t) = refl

-- one more part behind others
pub put_part-push : (new : Fragment) (k : ℕ) (ps : List Part) (p : Part) → put_part new k (ps ++ p ∷ []) ≡ put_part new k ps ++ chosen_part (length (subtrees ps) == k) new p ∷ []
put_part-push new zero [] (Sub t) = refl
put_part-push new (suc k) [] (Sub t) = ap (λ b. Sub (cond b new t) ∷ []) (sym (zero_not k))
put_part-push new k [] (Name n) = refl
put_part-push new k [] (Number n) = refl
put_part-push new k [] (Text t) = refl
put_part-push new zero (Sub s ∷ ps) p = ap (λ l. Sub new ∷ (ps ++ l)) (unchosen new p) ∙ ap (λ b. Sub new ∷ (ps ++ chosen_part b new p ∷ [])) (sym (suc_is_not_zero (length (subtrees ps))))
put_part-push new (suc k) (Sub s ∷ ps) p = ap (λ l. Sub s ∷ l) (put_part-push new k ps p ∙ ap (λ b. put_part new k ps ++ chosen_part b new p ∷ []) (same_tests (length (subtrees ps)) k))
put_part-push new k (Name m ∷ ps) p = ap (λ l. Name m ∷ l) (put_part-push new k ps p)
put_part-push new k (Number m ∷ ps) p = ap (λ l. Number m ∷ l) (put_part-push new k ps p)
put_part-push new k (Text m ∷ ps) p = ap (λ l. Text m ∷ l) (put_part-push new k ps p)

pub put_element-push : (new : Fragment) (k : ℕ) (es : List Fragment) (e : Fragment) → put_element new k (es ++ e ∷ []) ≡ put_element new k es ++ cond (length es == k) new e ∷ []
put_element-push new zero [] e = refl
put_element-push new (suc k) [] e = ap (λ b. cond b new e ∷ []) (sym (zero_not k))
put_element-push new zero (s ∷ es) e = ap (λ b. new ∷ (es ++ cond b new e ∷ [])) (sym (suc_is_not_zero (length es)))
put_element-push new (suc k) (s ∷ es) e = ap (λ l. s ∷ l) (put_element-push new k es e ∙ ap (λ b. put_element new k es ++ cond b new e ∷ []) (same_tests (length es) k))

-- what a node that is read stands for
pub children-op : (s : Shape) (o : ℕ) (ps : List Part) (f : Fragment) → s ≡ Op o ps → tree_of s ≡ f → children_of f ≡ subtrees ps
children-op s o ps f e h = ap children_of (sym h ∙ ap tree_of e) ∙ children-with_parts (operator o) ps

pub children-shape-list : (s : Shape) (l : ℕ) (es : List Fragment) (u : Bool) (f : Fragment) → s ≡ ListOf l es u → tree_of s ≡ f → children_of f ≡ es
children-shape-list s l es u f e h = ap children_of (sym h ∙ ap tree_of e) ∙ children-list l es u

pub put-op : (s : Shape) (o : ℕ) (ps made : List Part) (f new : Fragment) (k : ℕ) → s ≡ Op o ps → tree_of s ≡ f → made ≡ put_part new k ps → tree_of (Op o made) ≡ put_child new k f
put-op s o ps made f new k e h m = ap (with_parts (operator o)) m ∙ sym (put-parts new k k (operator o) ps (omega arith)) ∙ ap (put_child new k) (sym (ap tree_of e) ∙ h)

pub put-shape-list : (s : Shape) (l : ℕ) (es made : List Fragment) (u : Bool) (f new : Fragment) (k : ℕ) → s ≡ ListOf l es u → tree_of s ≡ f → made ≡ put_element new k es → list_of l made u ≡ put_child new k f
put-shape-list s l es made u f new k e h m = ap (λ x. list_of l x u) m ∙ sym (put-list new k l es u) ∙ ap (put_child new k) (sym (ap tree_of e) ∙ h)

-- what a slice gives at a number
pub got : (xs : List Fragment) (i : ℕ) (r : Option (Bor Fragment)) → IsGetResult xs i i r → option_copied r ≡ slice_get xs i
got xs i None h = sym (slice_get_past xs i h.3)
got xs i (Some x) h = sym (slice_get_read xs (length xs) i x.now refl h.3.0 h.1)

-- one more part
pub part_more : (new : Fragment) (k : ℕ) (ps : List Part) (i seen : ℕ) (p q : Part) (made before : List Part)
    → i < length ps → p ≡ get_or ps i p → seen ≡ length (subtrees (take i ps)) → q ≡ chosen_part (seen == k) new p
    → before ≡ put_part new k (take i ps) → made ≡ before ++ q ∷ []
    → (made ≡ put_part new k (take (i + 1) ps)) × (seen + length (subtrees (p ∷ [])) ≡ length (subtrees (take (i + 1) ps)))
part_more new k ps i seen p q made before h e s c b m =
    let t : take (i + 1) ps ≡ take i ps ++ p ∷ [] = take_more ps i p h ∙ ap (λ x. take i ps ++ x ∷ []) (sym e) in (
      m ∙ ap₂ (λ l x. l ++ x ∷ []) b (c ∙ ap (λ n. chosen_part (n == k) new p) s) ∙ sym (put_part-push new k (take i ps) p) ∙ ap (put_part new k) (sym t),
      ap (λ n. n + length (subtrees (p ∷ []))) s ∙ sym (length-append (subtrees (take i ps)) (subtrees (p ∷ []))) ∙ ap length (sym (subtrees-append (take i ps) (p ∷ []))) ∙ ap (λ l. length (subtrees l)) (sym t),
    )

-- one more element
pub element_more : (new : Fragment) (k : ℕ) (es : List Fragment) (i : ℕ) (e q : Fragment) (made before : List Fragment)
    → i < length es → e ≡ get_or es i e → q ≡ cond (i == k) new e → before ≡ put_element new k (take i es) → made ≡ before ++ q ∷ []
    → made ≡ put_element new k (take (i + 1) es)
element_more new k es i e q made before h r c b m =
    let t : take (i + 1) es ≡ take i es ++ e ∷ [] = take_more es i e h ∙ ap (λ x. take i es ++ x ∷ []) (sym r) in
    let n : length (take i es) ≡ i = length-take-le i es (omega arith) in
    m ∙ ap₂ (λ l x. l ++ x ∷ []) b (c ∙ ap (λ n. cond (n == k) new e) (sym n)) ∙ sym (put_element-push new k (take i es) e) ∙ ap (put_element new k) (sym t)
