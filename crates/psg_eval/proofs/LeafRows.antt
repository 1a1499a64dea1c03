-- Rows of the definition made one after the other.
use Rattle.std.proofs.Common.{◌≡◌, ℕ, ◌+◌, ◌<◌, ◌⊎◌, inl, inr, zero, suc, List, [], ◌∷◌, ◌++◌, map, length, take, get_or, ap, sym, ◌∙◌, subst, Some, slice_get}
use Rattle.std.proofs.lemmas.List.{map-append}
use Rattle.psg_terms.proofs.Lists.{take_item, slice_get-end, slice_get-front, in_left}
use Rattle.psg_terms.specs.Terms.{Term}
use Rattle.psg_terms.specs.Relations.{IsIn}
use Rattle.psg_grammar.specs.declared.types.HoleRow.{HoleRow}
use Rattle.psg_grammar.specs.declared.types.Kind.{Kind}
use Rattle.psg_grammar.specs.declared.types.Definition.{Definition}
use Rattle.psg_relation.proofs.Members.{in-last, in-split}
use Rattle.psg_eval.specs.OwnRows.{AreHoleRows}

-- an element more of a mapped list
pub map_more : {X Y : Type 0} (f : X → Y) (xs : List X) (i : ℕ) (x : X) (now more : List Y) → i < length xs → x ≡ get_or xs i x → now ≡ map f (take i xs) → more ≡ now ++ f x ∷ [] → more ≡ map f (take (i + 1) xs)
map_more f xs i x now more l e n m =
    m ∙ ap (λ ys. ys ++ f x ∷ []) n ∙ sym (map-append f (take i xs) (x ∷ [])) ∙ ap (map f) (sym (take_item xs i x l e))

get-split : {X : Type 0} (xs : List X) (y : X) (i : ℕ) (x : X) → slice_get (xs ++ y ∷ []) i ≡ Some x → (slice_get xs i ≡ Some x) ⊎ (y ≡ x)
get-split [] y zero x e = inr cc
get-split [] y (suc i) x e = absurd (cc)
get-split (z ∷ xs) y zero x e = inl e
get-split (z ∷ xs) y (suc i) x e = get-split xs y i x e

-- the terms of those of the hole rows that are of the kind
pub record AreOfKind (hs : List HoleRow) (kind : Kind) (rows : List (List Term)) : Type 0 where
  pub from : (row : List Term) → IsIn row rows → (r : ℕ) × (h : HoleRow) × (slice_get hs r ≡ Some h) × (h.kind ≡ kind) × (row ≡ h.term ∷ [])
  pub to : (r : ℕ) (h : HoleRow) → slice_get hs r ≡ Some h → h.kind ≡ kind → IsIn (h.term ∷ []) rows

pub of_none : (kind : Kind) → AreOfKind [] kind []
of_none kind = record { from = λ row i. elim i [ ]; to = λ r h e k. absurd (none r h e) } where
  none : (r : ℕ) (h : HoleRow) → slice_get [] r ≡ Some h → ⊥
  none r h e = cc

of_push : (hs : List HoleRow) (kind : Kind) (rows : List (List Term)) (h : HoleRow) → AreOfKind hs kind rows → h.kind ≡ kind → AreOfKind (hs ++ h ∷ []) kind (rows ++ (h.term ∷ []) ∷ [])
of_push hs kind rows h a k = record {
  from = λ row i. elim (in-split row (h.term ∷ []) rows i) [
    | inl j ↦ let (r, g, e, same, t) = a.from row j in (r, g, slice_get-front hs (h ∷ []) r g e, same, t)
    | inr e ↦ (length hs, h, slice_get-end hs h, k, e)
  ];
  to = λ r g e same. elim (get-split hs h r g e) [
    | inl d ↦ in_left (g.term ∷ []) rows ((h.term ∷ []) ∷ []) (a.to r g d same)
    | inr d ↦ subst (λ (x : HoleRow). IsIn (x.term ∷ []) (rows ++ (h.term ∷ []) ∷ [])) d (in-last (h.term ∷ []) rows)
  ];
}

of_skip : (hs : List HoleRow) (kind : Kind) (rows : List (List Term)) (h : HoleRow) → AreOfKind hs kind rows → (h.kind ≡ kind → ⊥) → AreOfKind (hs ++ h ∷ []) kind rows
of_skip hs kind rows h a n = record {
  from = λ row i. let (r, g, e, same, t) = a.from row i in (r, g, slice_get-front hs (h ∷ []) r g e, same, t);
  to = λ r g e same. elim (get-split hs h r g e) [
    | inl d ↦ a.to r g d same
    | inr d ↦ absurd (n (subst (λ (x : HoleRow). x.kind ≡ kind) (sym d) same))
  ];
}

pub of_more : (hs : List HoleRow) (kind : Kind) (rows more : List (List Term)) (i : ℕ) (h : HoleRow) (row : List Term) → i < length hs → h ≡ get_or hs i h → AreOfKind (take i hs) kind rows → h.kind ≡ kind → row ≡ h.term ∷ [] → more ≡ rows ++ row ∷ []
    → AreOfKind (take (i + 1) hs) kind more
of_more hs kind rows more i h row l e a k er em =
    subst (λ x. AreOfKind x kind more) (sym (take_item hs i h l e))
    (subst (AreOfKind (take i hs ++ h ∷ []) kind) (sym (em ∙ ap (λ r. rows ++ r ∷ []) er)) (of_push (take i hs) kind rows h a k))

pub of_less : (hs : List HoleRow) (kind : Kind) (rows : List (List Term)) (i : ℕ) (h : HoleRow) → i < length hs → h ≡ get_or hs i h → AreOfKind (take i hs) kind rows → (h.kind ≡ kind → ⊥) → AreOfKind (take (i + 1) hs) kind rows
of_less hs kind rows i h l e a n = subst (λ x. AreOfKind x kind rows) (sym (take_item hs i h l e)) (of_skip (take i hs) kind rows h a n)

pub of_all : (def : Definition) (hs : List HoleRow) (kind : Kind) (rows : List (List Term)) → hs ≡ def.hole_rows → AreOfKind hs kind rows → AreHoleRows def kind rows
of_all def hs kind rows e a = record {
  from = λ row i. let (r, h, f, k, t) = a.from row i in (r, h, ap (λ x. slice_get x r) (sym e) ∙ f, k, t);
  to = λ r h f k. a.to r h (ap (λ x. slice_get x r) e ∙ f) k;
}
