-- The canonical forms of rows have the relation of the rows.
use Rattle.std.proofs.Common.{◌≡◌, ℕ, ◌+◌, ◌<◌, ◌↔◌, inl, inr, List, [], ◌∷◌, ◌++◌, length, take, get_or, sym, subst}
use Rattle.psg_terms.proofs.Lists.{take_item, in_left}
use Rattle.std.specs.Prelude.{Result, Ok, Err, IfOk, IfErr}
use Rattle.psg_terms.specs.Terms.{Term}
use Rattle.psg_terms.specs.Signature.{Signature, HaveSorts}
use Rattle.psg_terms.specs.Instances.{HasSameInstances}
use Rattle.psg_terms.specs.Canonical.{IsCanonical}
use Rattle.psg_terms.specs.Relations.{IsRelation}
use Rattle.psg_relation.specs.Choices.{IsOfRow, MayBeWide}
use Rattle.psg_relation.specs.Sealed.{AreCanonicalOf}
use Rattle.psg_relation.specs.declared.relation.RelFault.{RelFault}
use Rattle.psg_relation.specs.declared.relation.RelFault.TheVariants.{Wide, Memory}
use Rattle.psg_relation.proofs.Members.{in-last, in-split}
use Rattle.psg_relation.proofs.Relating.{carried}

pub forms_none : (sig : Signature) → AreCanonicalOf sig [] []
forms_none sig = record { from = λ row h. elim h [ ]; to = λ row h. elim h [ ]; canonical = λ row h. elim h [ ]; sorted = λ sorts a row h. elim h [ ] }

pub forms_push : (sig : Signature) (done made : List (List Term)) (row form : List Term) → AreCanonicalOf sig done made → IsCanonical sig form → HasSameInstances sig form row → ((sorts : List ℕ) → HaveSorts sig row sorts → HaveSorts sig form sorts) → AreCanonicalOf sig (done ++ row ∷ []) (made ++ form ∷ [])
forms_push sig done made row form a c same sorted = record {
  from = λ x h. elim (in-split x form made h) [
    | inl b ↦ let (r, i, k) = a.from x b in (r, in_left r done (row ∷ []) i, k)
    | inr e ↦ (row, in-last row done, subst (λ z. HasSameInstances sig z row) (sym e) same)
  ];
  to = λ x h. elim (in-split x row done h) [
    | inl b ↦ let (r, i, k) = a.to x b in (r, in_left r made (form ∷ []) i, k)
    | inr e ↦ (form, in-last form made, subst (HasSameInstances sig form) (sym e) same)
  ];
  canonical = λ x h. elim (in-split x form made h) [ inl b ↦ a.canonical x b | inr e ↦ subst (IsCanonical sig) (sym e) c ];
  sorted = λ sorts all x h. elim (in-split x form made h) [
    | inl b ↦ a.sorted sorts (λ r i. all r (in_left r done (row ∷ []) i)) x b
    | inr e ↦ subst (λ z. HaveSorts sig z sorts) (sym e) (sorted sorts (all row (in-last row done)))
  ];
}

pub forms_more : (sig : Signature) (rows made : List (List Term)) (i : ℕ) (row form : List Term) (more : List (List Term)) → i < length rows → row ≡ get_or rows i row → AreCanonicalOf sig (take i rows) made
    → IsCanonical sig form → HasSameInstances sig form row → ((sorts : List ℕ) → HaveSorts sig row sorts → HaveSorts sig form sorts) → more ≡ made ++ form ∷ [] → AreCanonicalOf sig (take (i + 1) rows) more
forms_more sig rows made i row form more l e a c same sorted d =
    subst (λ x. AreCanonicalOf sig x more) (sym (take_item rows i row l e)) (subst (AreCanonicalOf sig (take i rows ++ row ∷ [])) (sym d) (forms_push sig (take i rows) made row form a c same sorted))

module _ (sig : Signature) (rows made : List (List Term)) (a : AreCanonicalOf sig rows made) where
  there : (c : List Term) (columns : List Term) → IsOfRow sig made c columns → (d : List Term) × ((x : List Term) → IsOfRow sig made c x ↔ IsOfRow sig rows d x)
  there c columns (h, g) = let (d, i, same) = a.from c h in (d, λ x. (λ p. (i, same.0 x p.1), λ p. (h, same.1 x p.1)))

  back : (d : List Term) (columns : List Term) → IsOfRow sig rows d columns → (c : List Term) × ((x : List Term) → IsOfRow sig made c x ↔ IsOfRow sig rows d x)
  back d columns (h, g) = let (c, i, same) = a.to d h in (c, λ x. (λ p. (h, same.0 x p.1), λ p. (i, same.1 x p.1)))

  pub of_made : (sorts : List ℕ) (others : List (List Term)) → IsRelation sig sorts (IsOfRow sig made) others → IsRelation sig sorts (IsOfRow sig rows) others
  of_made sorts others = carried sig sorts (IsOfRow sig made) (IsOfRow sig rows) there back others

  pub to_made : (sorts : List ℕ) (others : List (List Term)) → IsRelation sig sorts (IsOfRow sig rows) others → IsRelation sig sorts (IsOfRow sig made) others
  to_made sorts others = carried sig sorts (IsOfRow sig rows) (IsOfRow sig made)
      (λ d columns p. let (c, both) = back d columns p in (c, λ x. ((both x).1, (both x).0)))
      (λ c columns p. let (d, both) = there c columns p in (d, λ x. ((both x).1, (both x).0))) others

-- what is told of the limit follows from what is told below
pub maybe_wide : (P Q : Type 0) (e : RelFault) → (P → Q) → MayBeWide P e → MayBeWide Q e
maybe_wide P Q Wide f p = f p
maybe_wide P Q Memory f p = tt

pub err_map : {X : Type 0} (r : Result X RelFault) (P Q : Type 0) → (P → Q) → IfErr r (MayBeWide P) → IfErr r (MayBeWide Q)
err_map (Ok x) P Q f h = h
err_map (Err e) P Q f h = maybe_wide P Q e f h

pub ok_is : {X E : Type 0} (r : Result X E) (kept : X) (B : X → Type 0) → B kept → IfOk r (λ x. x ≡ kept) → IfOk r B
ok_is (Ok x) kept B b e = subst B (sym e) b
ok_is (Err d) kept B b e = e
