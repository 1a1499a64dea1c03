-- The first thing for which something fails is one.
use Rattle.std.proofs.Common.{◌≡◌, ◌⊎◌, inl, inr, ℕ, ◌<◌, sym, ap, ap₂, ◌∙◌, subst, arith}
use Rattle.std.proofs.lemmas.Bool.{cases_order}
use Rattle.psg_grammar.specs.declared.types.Kind.{Kind}
use Rattle.psg_grammar.specs.declared.types.Kind.TheVariants as kinds
use Rattle.psg_grammar.specs.declared.types.Definition.{Definition}
use Rattle.psg_completions.specs.Cases.{HasCases}
use Rattle.psg_completions.specs.Covered.{IsCoveredRow, IsCoveredNil, IsCoveredCell}
use Rattle.psg_completions.specs.Elements.{IsDeclarable, IsClearRow}
use Rattle.psg_specimen.specs.Declares.{IsDeclaration}
use Rattle.psg_specimen.specs.Conditions.{IsBareScope, IsQuietSlot, HasRow}
use Rattle.psg_specimen.specs.OneRefusal.{AreSame}
use Rattle.psg_specimen.specs.Refusal.{IsRefusal, IsFirst, IsFirstKind, IsFirstOfThree, IsFirstOfTwo, IsFirstPlace, IsFirstSite, IsSiteBefore, IsSmallerAt, IsOpenAt, IsNarrowAt, IsGeneralAt}
use Rattle.psg_specimen.specs.declared.fault.Site.{Site}
use Rattle.psg_specimen.specs.declared.fault.Site.TheVariants as sites
use Rattle.psg_specimen.specs.declared.fault.AcceptFault.{AcceptFault}
use Rattle.psg_specimen.specs.declared.fault.AcceptFault.TheVariants as faults
use Rattle.psg_specimen.proofs.OneClass.{one_class}
use Rattle.psg_specimen.proofs.Stages.{one_stage, stage}

first_one : (H : ℕ → Type 0) (n m : ℕ) → IsFirst H n → IsFirst H m → n ≡ m
first_one H n m f g = elim (cases_order n m) [ inl e ↦ e | inr o ↦ elim o [ inl lt ↦ absurd (f.0 (g.1 n lt)) | inr lt ↦ absurd (g.0 (f.1 m lt)) ] ]

first_two : (H : ℕ → ℕ → Type 0) (n k m j : ℕ) → IsFirstOfTwo H n k → IsFirstOfTwo H m j → (n ≡ m) × (k ≡ j)
first_two H n k m j f g = elim (cases_order n m) [
  | inl e ↦ (elim (cases_order k j) [
    | inl d ↦ (e, d)
    | inr o ↦ elim o [ inl lt ↦ absurd (f.0 (g.1 n k (inr (e, lt)))) | inr lt ↦ absurd (g.0 (f.1 m j (inr (sym e, lt)))) ]
  ])
  | inr o ↦ elim o [ inl lt ↦ absurd (f.0 (g.1 n k (inl lt))) | inr lt ↦ absurd (g.0 (f.1 m j (inl lt))) ]
]

first_three : (H : ℕ → ℕ → ℕ → Type 0) (l s c m t d : ℕ) → IsFirstOfThree H l s c → IsFirstOfThree H m t d → (l ≡ m) × ((s ≡ t) × (c ≡ d))
first_three H l s c m t d f g = elim (cases_order l m) [
  | inl e ↦ (elim (cases_order s t) [
    | inl q ↦ (elim (cases_order c d) [
      | inl r ↦ (e, (q, r))
      | inr o ↦ elim o [ inl lt ↦ absurd (f.0 (g.1 l s c (inr (e, inr (q, lt))))) | inr lt ↦ absurd (g.0 (f.1 m t d (inr (sym e, inr (sym q, lt))))) ]
    ])
    | inr o ↦ elim o [ inl lt ↦ absurd (f.0 (g.1 l s c (inr (e, inl lt)))) | inr lt ↦ absurd (g.0 (f.1 m t d (inr (sym e, inl lt)))) ]
  ])
  | inr o ↦ elim o [ inl lt ↦ absurd (f.0 (g.1 l s c (inl lt))) | inr lt ↦ absurd (g.0 (f.1 m t d (inl lt))) ]
]

first_kind : (H : Kind → Type 0) (a b : Kind) → IsFirstKind H a → IsFirstKind H b → a ≡ b
first_kind H (kinds.Phylum p) (kinds.Phylum q) f g = ap kinds.Phylum (first_one (λ n. H (kinds.Phylum n)) p q f g)
first_kind H (kinds.Phylum p) (kinds.List l) f g = absurd (f.0 (g.0 p))
first_kind H (kinds.List l) (kinds.Phylum p) f g = absurd (g.0 (f.0 p))
first_kind H (kinds.List l) (kinds.List k) f g = ap kinds.List (first_one (λ n. H (kinds.List n)) l k f.1 g.1)

site_order : (s t : Site) → (s ≡ t) ⊎ (IsSiteBefore s t ⊎ IsSiteBefore t s)
site_order (sites.Hole r c) (sites.Hole s d) = elim (cases_order r s) [
  | inl e ↦ (elim (cases_order c d) [
    | inl q ↦ inl (ap₂ sites.Hole e q)
    | inr o ↦ inr (elim o [ inl lt ↦ inl (inr (e, lt)) | inr lt ↦ inr (inr (sym e, lt)) ])
  ])
  | inr o ↦ inr (elim o [ inl lt ↦ inl (inl lt) | inr lt ↦ inr (inl lt) ])
]
site_order (sites.Hole r c) (sites.Declare k) = inr (inl tt)
site_order (sites.Declare k) (sites.Hole r c) = inr (inr tt)
site_order (sites.Declare k) (sites.Declare l) = elim (cases_order k l) [ inl e ↦ inl (ap sites.Declare e) | inr o ↦ inr o ]

first_site : (H : Site → Type 0) (s t : Site) → IsFirstSite H s → IsFirstSite H t → s ≡ t
first_site H s t f g = elim (site_order s t) [ inl e ↦ e | inr o ↦ elim o [ inl b ↦ absurd (f.0 (g.1 s b)) | inr b ↦ absurd (g.0 (f.1 t b)) ] ]

same_site : (H : Site → ℕ → Type 0) (s t : Site) (h k : ℕ) → s ≡ t → IsFirstPlace H s h → IsFirstPlace H t k → h ≡ k
same_site H s t h k e (refuted, before, held) (wrong, earlier, fine) = first_one (H s) h k (refuted, held) (subst (λ x. H x k → ⊥) (sym e) wrong, subst (λ x. (j : ℕ) → j < k → H x j) (sym e) fine)

first_place : (H : Site → ℕ → Type 0) (s t : Site) (h k : ℕ) → IsFirstPlace H s h → IsFirstPlace H t k → (s ≡ t) × (h ≡ k)
first_place H s t h k (refuted, before, held) (wrong, earlier, fine) = elim (site_order s t) [
  | inl e ↦ (e, same_site H s t h k e (refuted, before, held) (wrong, earlier, fine))
  | inr o ↦ elim o [ inl b ↦ absurd (refuted (earlier s h b)) | inr b ↦ absurd (wrong (before t k b)) ]
]

module _ (def : Definition) where
  same_stage : (f g : AcceptFault) → stage f ≡ stage g → IsRefusal def f → IsRefusal def g → AreSame f g
  same_stage (faults.Class a) (faults.Class x) e h k = one_class def a x h k
  same_stage (faults.Class a) g e h k = absurd (omega (arith, e))
  same_stage (faults.Scope a) (faults.Scope x) e h k = ap faults.Scope (first_one (IsBareScope def) a x h.1 k.1)
  same_stage (faults.Scope a) g e h k = absurd (omega (arith, e))
  same_stage (faults.Declaring a b) (faults.Declaring x y) e (cls, met, one) (too, held, other) = let t = first_two (IsQuietSlot def) a b x y one other in ap₂ faults.Declaring t.0 t.1
  same_stage (faults.Declaring a b) g e h k = absurd (omega (arith, e))
  same_stage (faults.NoRow a) (faults.NoRow x) e (cls, met, one) (too, held, other) = ap faults.NoRow (first_kind (HasRow def) a x one other)
  same_stage (faults.NoRow a) g e h k = absurd (omega (arith, e))
  same_stage (faults.UncoveredOp a b) (faults.UncoveredOp x y) e (cls, met, one) (too, held, other) = let t = first_two (IsCoveredRow def) a b x y one other in ap₂ faults.UncoveredOp t.0 t.1
  same_stage (faults.UncoveredOp a b) g e h k = absurd (omega (arith, e))
  same_stage (faults.UncoveredNil a b) (faults.UncoveredNil x y) e (cls, met, one) (too, held, other) = let t = first_two (IsCoveredNil def) a b x y one other in ap₂ faults.UncoveredNil t.0 t.1
  same_stage (faults.UncoveredNil a b) g e h k = absurd (omega (arith, e))
  same_stage (faults.UncoveredCell a b) (faults.UncoveredCell x y) e (cls, met, one) (too, held, other) = let t = first_two (IsCoveredCell def) a b x y one other in ap₂ faults.UncoveredCell t.0 t.1
  same_stage (faults.UncoveredCell a b) g e h k = absurd (omega (arith, e))
  same_stage (faults.Cases a) (faults.Cases x) e (cls, met, one) (too, held, other) = ap faults.Cases (first_one (HasCases def) a x one other)
  same_stage (faults.Cases a) g e h k = absurd (omega (arith, e))
  same_stage (faults.NotSmaller a b) (faults.NotSmaller x y) e (cls, met, one) (too, held, other) = let t = first_place (IsSmallerAt def) a x b y one other in ap₂ faults.NotSmaller t.0 t.1
  same_stage (faults.NotSmaller a b) g e h k = absurd (omega (arith, e))
  same_stage (faults.OpenHole a b) (faults.OpenHole x y) e (cls, met, one) (too, held, other) = let t = first_place (IsOpenAt def) a x b y one other in ap₂ faults.OpenHole t.0 t.1
  same_stage (faults.OpenHole a b) g e h k = absurd (omega (arith, e))
  same_stage (faults.Large a) (faults.Large x) e (cls, met, one) (too, held, other) = ap faults.Large (first_site (IsNarrowAt def) a x one other)
  same_stage (faults.Large a) g e h k = absurd (omega (arith, e))
  same_stage (faults.Weak a) (faults.Weak x) e (cls, met, one) (too, held, other) = ap faults.Weak (first_site (IsGeneralAt def) a x one other)
  same_stage (faults.Weak a) g e h k = absurd (omega (arith, e))
  same_stage (faults.NotIt a) (faults.NotIt x) e (cls, met, one) (too, held, other) = ap faults.NotIt (first_one (IsDeclaration def) a x one other)
  same_stage (faults.NotIt a) g e h k = absurd (omega (arith, e))
  same_stage (faults.NoDeclare a b c) (faults.NoDeclare x y z) e (cls, met, one) (too, held, other) =
      let (l, rest) = first_three (IsDeclarable def) a b c.0 x y z.0 one other in
      ap (λ n. faults.NoDeclare n b c) l ∙ ap (λ n. faults.NoDeclare x n c) rest.0 ∙ ap (λ n. faults.NoDeclare x y (record { 0 = n })) rest.1
  same_stage (faults.NoDeclare a b c) g e h k = absurd (omega (arith, e))
  same_stage (faults.NotClear a) (faults.NotClear x) e (cls, met, one) (too, held, other) = ap faults.NotClear (first_one (IsClearRow def) a x one other)
  same_stage (faults.NotClear a) g e h k = absurd (omega (arith, e))
  same_stage faults.Memory g e h k = absurd h

  pub one_refusal : (f g : AcceptFault) → IsRefusal def f → IsRefusal def g → AreSame f g
  one_refusal f g h k = same_stage f g (one_stage def f g h k) h k
