-- Equations have one reason, or none.
use Rattle.std.proofs.Common.{◌≡◌, ℕ, ◌||◌, true, false, List, [], ◌∷◌, ◌++◌, map, Option, Some, None, refl, ap, ap₂, sym, ◌∙◌, subst, append_assoc}
use Rattle.psg_terms.specs.Terms.{Term, variable, symbol, apply}
use Rattle.psg_terms.specs.Canonical.{Variable, variables, is_noted}
use Rattle.psg_terms.proofs.Variables.{same_variable-refl, true_false}
use Rattle.psg_relation.specs.Heads.{head_of}
use Rattle.psg_explain.specs.declared.refutation.Reason.{Reason}
use Rattle.psg_explain.specs.declared.refutation.Reason.TheVariants.{Clash, Circle}
use Rattle.psg_explain.specs.Equations.{arguments_of, Equation, StandsInside, rewritten, term_of}
use Rattle.psg_explain.specs.Reasons.{IsReason, solved, equal, parts, clash, circle_left, circle_right, bound_left, bound_right, paired}

-- how the first equation is taken
data Taken (a b : Term) (rest : List Equation) (r : Option Reason) : Type 0 where
  as_equal : a ≡ b → IsReason rest r → Taken a b rest r
  as_parts : (c : ℕ) → (a ≡ b → ⊥) → head_of a ≡ Some c → head_of b ≡ Some c → IsReason (paired (arguments_of a) (arguments_of b) ++ rest) r → Taken a b rest r
  as_clash : (c d : ℕ) → head_of a ≡ Some c → head_of b ≡ Some d → (c ≡ d → ⊥) → r ≡ Some (Clash a b) → Taken a b rest r
  as_circle_left : (x : Variable) → a ≡ term_of x → StandsInside x b → r ≡ Some (Circle a b) → Taken a b rest r
  as_circle_right : (x : Variable) → b ≡ term_of x → StandsInside x a → r ≡ Some (Circle b a) → Taken a b rest r
  as_bound_left : (x : Variable) → a ≡ term_of x → is_noted x (variables b) ≡ false → IsReason (map (rewritten x b) rest) r → Taken a b rest r
  as_bound_right : (x : Variable) (c : ℕ) → b ≡ term_of x → head_of a ≡ Some c → is_noted x (variables a) ≡ false → IsReason (map (rewritten x a) rest) r → Taken a b rest r

taken : (a b : Term) (rest : List Equation) (r : Option Reason) → IsReason ((a, b) ∷ rest) r → Taken a b rest r
taken a b rest r (equal s) = as_equal refl s
taken a b rest r (parts c differ (h, k) s) = as_parts c differ h k s
taken a b rest r (clash (c, d, h, k, differ)) = as_clash c d h k differ refl
taken a b rest r (circle_left x h) = as_circle_left x refl h refl
taken a b rest r (circle_right x h) = as_circle_right x refl h refl
taken a b rest r (bound_left x h s) = as_bound_left x refl h s
taken a b rest r (bound_right x c k h s) = as_bound_right x c refl k h s

-- ---- what excludes what

one_head : (t : Term) (c d : ℕ) → head_of t ≡ Some c → head_of t ≡ Some d → c ≡ d
one_head t c d h k = let e : Some c ≡ Some d = sym h ∙ k in cc

bare : (t : Term) (x : Variable) (c : ℕ) → t ≡ term_of x → head_of t ≡ Some c → ⊥
bare t x c e h = let d : None ≡ Some c = sym (ap head_of e) ∙ h in absurd (cc)

-- nothing stands inside a variable
alone : (x y : Variable) (t : Term) → t ≡ term_of y → StandsInside x t → ⊥
alone x y t e h = subst (StandsInside x) e h

itself : (x : Variable) → is_noted x (variables (term_of x)) ≡ false → ⊥
itself x h = true_false (sym (ap (λ b. b || false) (same_variable-refl x)) ∙ h)

there : (x : Variable) (t : Term) → StandsInside x t → is_noted x (variables t) ≡ true
there x (variable s n) h = absurd h
there x (symbol c) h = absurd h
there x (apply f a) h = h

one_variable : (x y : Variable) (t : Term) → t ≡ term_of x → t ≡ term_of y → x ≡ y
one_variable x y t e f = let d : term_of x ≡ term_of y = sym e ∙ f in number (x.0) (x.1) (y.0) (y.1) d
  where
    pair : ℕ → ℕ → Variable
    pair s n = (s, n)

    number : (s n p q : ℕ) → variable s n ≡ variable p q → pair s n ≡ pair p q
    number s n p q d = let a : s ≡ p = cc in let b : n ≡ q = cc in ap₂ pair a b

-- a variable that stands inside a term occurs there
inside_not : (x y : Variable) (a b : Term) → a ≡ term_of x → a ≡ term_of y → StandsInside x b → is_noted y (variables b) ≡ false → ⊥
inside_not x y a b e f h k = true_false (sym (there x b h) ∙ ap (λ z. is_noted z (variables b)) (one_variable x y a e f) ∙ k)

equal_left : (x : Variable) (a b : Term) → a ≡ b → a ≡ term_of x → is_noted x (variables b) ≡ false → ⊥
equal_left x a b d e h = itself x (sym (ap (λ t. is_noted x (variables t)) (sym d ∙ e)) ∙ h)

equal_right : (x : Variable) (a b : Term) → a ≡ b → b ≡ term_of x → is_noted x (variables a) ≡ false → ⊥
equal_right x a b d e h = itself x (sym (ap (λ t. is_noted x (variables t)) (d ∙ e)) ∙ h)

equal_clash : (a b : Term) (c d : ℕ) → a ≡ b → head_of a ≡ Some c → head_of b ≡ Some d → (c ≡ d → ⊥) → ⊥
equal_clash a b c d e h k differ = differ (one_head b c d (sym (ap head_of e) ∙ h) k)

-- ---- one reason

none_left : (s : Option Reason) → IsReason [] s → s ≡ None
none_left s solved = refl

pub one : (es : List Equation) (r s : Option Reason) → IsReason es r → IsReason es s → r ≡ s
one es r s solved t = sym (none_left s t)
one es r s (equal {a} {rest} p) t = elim (taken a a rest s t) [
  | as_equal e q ↦ one rest r s p q
  | as_parts c differ h k q ↦ absurd (differ refl)
  | as_clash c d h k differ e ↦ absurd (equal_clash a a c d refl h k differ)
  | as_circle_left x e h f ↦ absurd (alone x x a e h)
  | as_circle_right x e h f ↦ absurd (alone x x a e h)
  | as_bound_left x e h q ↦ absurd (equal_left x a a refl e h)
  | as_bound_right x c e k h q ↦ absurd (bare a x c e k)
]
one es r s (parts {a} {b} {rest} c differ (h, k) p) t = elim (taken a b rest s t) [
  | as_equal e q ↦ absurd (differ e)
  | as_parts d other i j q ↦ one (paired (arguments_of a) (arguments_of b) ++ rest) r s p q
  | as_clash d e i j other f ↦ absurd (other (one_head a d c i h ∙ one_head b c e k j))
  | as_circle_left x e i f ↦ absurd (bare a x c e h)
  | as_circle_right x e i f ↦ absurd (bare b x c e k)
  | as_bound_left x e i q ↦ absurd (bare a x c e h)
  | as_bound_right x d e j i q ↦ absurd (bare b x c e k)
]
one es r s (clash {a} {b} {rest} (c, d, h, k, differ)) t = elim (taken a b rest s t) [
  | as_equal e q ↦ absurd (equal_clash a b c d e h k differ)
  | as_parts m other i j q ↦ absurd (differ (one_head a c m h i ∙ one_head b m d j k))
  | as_clash m n i j other f ↦ sym f
  | as_circle_left x e i f ↦ absurd (bare a x c e h)
  | as_circle_right x e i f ↦ absurd (bare b x d e k)
  | as_bound_left x e i q ↦ absurd (bare a x c e h)
  | as_bound_right x m e j i q ↦ absurd (bare b x d e k)
]
one es r s (circle_left {b} {rest} x h) t = elim (taken (term_of x) b rest s t) [
  | as_equal e q ↦ absurd (alone x x b (sym e) h)
  | as_parts c other i j q ↦ absurd (bare (term_of x) x c refl i)
  | as_clash c d i j other f ↦ absurd (bare (term_of x) x c refl i)
  | as_circle_left y e i f ↦ sym f
  | as_circle_right y e i f ↦ absurd (alone y x (term_of x) refl i)
  | as_bound_left y e i q ↦ absurd (inside_not x y (term_of x) b refl e h i)
  | as_bound_right y c e j i q ↦ absurd (bare (term_of x) x c refl j)
]
one es r s (circle_right {a} {rest} x h) t = elim (taken a (term_of x) rest s t) [
  | as_equal e q ↦ absurd (alone x x a e h)
  | as_parts c other i j q ↦ absurd (bare (term_of x) x c refl j)
  | as_clash c d i j other f ↦ absurd (bare (term_of x) x d refl j)
  | as_circle_left y e i f ↦ absurd (alone x y a e h)
  | as_circle_right y e i f ↦ sym f
  | as_bound_left y e i q ↦ absurd (alone x y a e h)
  | as_bound_right y c e j i q ↦ absurd (inside_not x y (term_of x) a refl e h i)
]
one es r s (bound_left {b} {rest} x h p) t = elim (taken (term_of x) b rest s t) [
  | as_equal e q ↦ absurd (equal_left x (term_of x) b e refl h)
  | as_parts c other i j q ↦ absurd (bare (term_of x) x c refl i)
  | as_clash c d i j other f ↦ absurd (bare (term_of x) x c refl i)
  | as_circle_left y e i f ↦ absurd (inside_not y x (term_of x) b e refl i h)
  | as_circle_right y e i f ↦ absurd (alone y x (term_of x) refl i)
  | as_bound_left y e i q ↦ one (map (rewritten x b) rest) r s p (subst (λ z. IsReason (map (rewritten z b) rest) s) (one_variable y x (term_of x) e refl) q)
  | as_bound_right y c e j i q ↦ absurd (bare (term_of x) x c refl j)
]
one es r s (bound_right {a} {rest} x c k h p) t = elim (taken a (term_of x) rest s t) [
  | as_equal e q ↦ absurd (bare a x c e k)
  | as_parts d other i j q ↦ absurd (bare (term_of x) x d refl j)
  | as_clash d m i j other f ↦ absurd (bare (term_of x) x m refl j)
  | as_circle_left y e i f ↦ absurd (bare a y c e k)
  | as_circle_right y e i f ↦ absurd (inside_not y x (term_of x) a e refl i h)
  | as_bound_left y e i q ↦ absurd (bare a y c e k)
  | as_bound_right y d e j i q ↦ one (map (rewritten x a) rest) r s p (subst (λ z. IsReason (map (rewritten z a) rest) s) (one_variable y x (term_of x) e refl) q)
]

-- ---- more equations behind

map_more : (g : Equation → Equation) (xs ys : List Equation) → map g (xs ++ ys) ≡ map g xs ++ map g ys
map_more g [] ys = refl
map_more g (x ∷ xs) ys = ap (λ l. g x ∷ l) (map_more g xs ys)

-- a reason is one of all equations behind, too
pub reason_more : (es : List Equation) (r : Reason) → IsReason es (Some r) → (more : List Equation) → IsReason (es ++ more) (Some r)
reason_more es r (equal p) more = equal (reason_more _ r p more)
reason_more es r (parts {a} {b} {rest} c differ head p) more =
    parts c differ head (subst (λ l. IsReason l (Some r)) (append_assoc (paired (arguments_of a) (arguments_of b)) rest more) (reason_more _ r p more))
reason_more es r (clash h) more = clash h
reason_more es r (circle_left x h) more = circle_left x h
reason_more es r (circle_right x h) more = circle_right x h
reason_more es r (bound_left {b} {rest} x h p) more =
    bound_left x h (subst (λ l. IsReason l (Some r)) (sym (map_more (rewritten x b) rest more)) (reason_more _ r p (map (rewritten x b) more)))
reason_more es r (bound_right {a} {rest} x c k h p) more =
    bound_right x c k h (subst (λ l. IsReason l (Some r)) (sym (map_more (rewritten x a) rest more)) (reason_more _ r p (map (rewritten x a) more)))
