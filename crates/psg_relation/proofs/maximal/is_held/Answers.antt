use Rattle.std.proofs.Common.{◌↔◌, ◌∙◌, IsTrue, inl, inr, refl, sym, subst}
use Rattle.std.proofs.lemmas.Bool.{false≢true}
use Rattle.psg_relation.specs.Choices.{picked}
use Rattle.psg_relation.specs.Heads.{places_at}
use Rattle.psg_relation.specs.Sifted.{IsCovered}
use Rattle.psg_relation.proofs.Indexing.{covered_by, covered_among, covered_free}
use Rattle.psg_relation.proofs.maximal.is_held.Goals as goal

pub returns-then-branch : goal.returns-then-branch
returns-then-branch c =
    let kept = c.args.kept.now in
    let row = c.args.row.now in
    let free = c.args.heads.now.free.items in (
      λ _. covered_among kept row free (subst (λ ps. IsCovered (picked kept ps) row) c.as_slice-free.ensures.value (c.in_ok-is_covered_at-in-Some.ensures.0 c.if-branch.true)),
      λ _. refl,
    )

pub returns-in_ok-held-in-Some : goal.returns-in_ok-held-in-Some
returns-in_ok-held-in-Some c =
    let kept = c.args.kept.now in
    let row = c.args.row.now in
    let free = c.args.heads.now.free.items in
    let at = places_at c.args.heads.now.places in
    let head = c.in-Some.head in
    let both : IsTrue c.in_ok-held-in-Some.held ↔ IsCovered (picked kept (at head)) row =
    subst (λ ps. IsTrue c.in_ok-held-in-Some.held ↔ IsCovered (picked kept ps) row) c.places_of-own.ensures c.in_ok-held-in-Some.ensures in (
      λ h. covered_among kept row (at head) (both.0 h),
      λ k. elim (covered_by kept row c.args.column head free at c.requires c.in-Some.ensures.some k) [
        | inl f ↦ absurd (false≢true (sym c.if-branch.false ∙ c.in_ok-is_covered_at-in-Some.ensures.1 (subst (λ ps. IsCovered (picked kept ps) row) (sym c.as_slice-free.ensures.value) f)))
        | inr o ↦ both.1 o
      ],
    )

pub returns-in_ok-plain-in-None : goal.returns-in_ok-plain-in-None
returns-in_ok-plain-in-None c =
    let kept = c.args.kept.now in
    let row = c.args.row.now in
    let free = c.args.heads.now.free.items in
    let at = places_at c.args.heads.now.places in
    let both : IsTrue c.in_ok-plain-in-None.plain ↔ IsCovered (picked kept free) row =
    subst (λ ps. IsTrue c.in_ok-plain-in-None.plain ↔ IsCovered (picked kept ps) row) c.as_slice-free.ensures.value c.in_ok-plain-in-None.ensures in (
      λ h. covered_among kept row free (both.0 h),
      λ k. both.1 (covered_free kept row c.args.column free at c.requires c.in-None.ensures.none k),
    )
