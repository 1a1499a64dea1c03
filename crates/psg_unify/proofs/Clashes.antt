-- Terms with different constructors at their heads are never equal, and rows with such columns never agree.
use Rattle.std.proofs.Common.{◌≡◌, ℕ, ◌<◌, Option, Some, List, [], ◌∷◌, map, length, get_or, slice_get, zero, suc, ap, sym, ◌∙◌, subst, arith}
use Rattle.std.specs.Option.{option_map}
use Rattle.std.proofs.lemmas.Option.{slice_get-map}
use Rattle.psg_terms.specs.Terms.{Term, symbol}
use Rattle.psg_terms.specs.Signature.{Signature}
use Rattle.psg_terms.specs.Instances.{Substitution, substitute}
use Rattle.psg_terms.proofs.Applied.{applied-substitute}
use Rattle.psg_terms.proofs.Nodes.{same_constructor}
use Rattle.psg_unify.specs.Pairs.{Pair, AgreeOn, IsAgreeing}
use Rattle.psg_unify.specs.Clashing.{IsHeadOf, HaveClash, AreNeverEqual, NeverAgree}

pub heads_differ : (a b : Term) (c d : ℕ) → IsHeadOf a c → IsHeadOf b d → (c ≡ d → ⊥) → AreNeverEqual a b
heads_differ a b c d (xs, ea) (ys, eb) ne = λ f g e.
    ne (same_constructor c d (map (substitute f) xs) (map (substitute g) ys)
    (sym (applied-substitute f (symbol c) xs) ∙ sym (ap (substitute f) ea) ∙ e ∙ ap (substitute g) eb ∙ applied-substitute g (symbol d) ys))

-- terms that clash have no other heads
pub heads_clash : (a b : Term) (c d : ℕ) → IsHeadOf a c → IsHeadOf b d → HaveClash a b → c ≡ d → ⊥
heads_clash a b c d (xs, ea) (ys, eb) (k, l, (us, eu), (vs, ev), ne) = λ e.
    ne (same_constructor k c us xs (sym eu ∙ ea) ∙ e ∙ same_constructor d l ys vs (sym eb ∙ ev))

same_some : {X : Type 0} (x y : X) → ◌≡◌ {A = Option X} (Some x) (Some y) → x ≡ y
same_some x y e = cc

-- what a substitution makes of a column
value_at : (f : Substitution) (row : List Term) (i : ℕ) (t : Term) → slice_get row i ≡ Some t → slice_get (map (substitute f) row) i ≡ Some (substitute f t)
value_at f row i t e = slice_get-map (substitute f) row i ∙ ap (option_map (substitute f)) e

pub columns_differ : (left right : List Term) (p : Pair) (a b : Term) → slice_get left p.0 ≡ Some a → slice_get right p.1 ≡ Some b → AreNeverEqual a b → NeverAgree left right p
columns_differ left right p a b ea eb never = λ f g e.
    never f g (same_some (substitute f a) (substitute g b) (sym (value_at f left p.0 a ea) ∙ e ∙ value_at g right p.1 b eb))

agree_at : (pairs : List Pair) (i : ℕ) (d : Pair) (l r : List Term) → i < length pairs → AgreeOn pairs l r → slice_get l (get_or pairs i d).0 ≡ slice_get r (get_or pairs i d).1
agree_at [] i d l r lt h = absurd (omega arith)
agree_at (q ∷ pairs) zero d l r lt h = h.0
agree_at (q ∷ pairs) (suc i) d l r lt h = agree_at pairs i d l r (omega arith) h.1

pub rows_differ : (left right : List Term) (pairs : List Pair) (i : ℕ) (d : Pair) → i < length pairs → NeverAgree left right (get_or pairs i d)
    → (sig : Signature) (values : List Term) → IsAgreeing sig left right pairs values → ⊥
rows_differ left right pairs i d lt never sig values (l, r, (f, gf, ef), (g, gg, eg), agree, whole) =
    never f g (subst (λ x. slice_get x (get_or pairs i d).0 ≡ slice_get (map (substitute g) right) (get_or pairs i d).1) ef
    (subst (λ y. slice_get l (get_or pairs i d).0 ≡ slice_get y (get_or pairs i d).1) eg (agree_at pairs i d l r lt agree)))
