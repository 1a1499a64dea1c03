-- The order of the conditions: where one fails, all before it hold.
use Rattle.std.proofs.Common.{◌≡◌, inl, inr, ℕ, zero, suc, ◌<◌, sym, subst, arith}
use Rattle.std.proofs.lemmas.Bool.{cases_lt, cases_eq}
use Rattle.psg_grammar.specs.declared.types.Kind.{Kind}
use Rattle.psg_grammar.specs.declared.types.Kind.TheVariants as kinds
use Rattle.psg_grammar.specs.declared.types.Definition.{Definition}
use Rattle.psg_class.specs.Class.{IsClass}
use Rattle.psg_class.specs.Refusal.{IsRefusal as IsClassRefusal}
use Rattle.psg_class.specs.declared.fault.ClassFault.{ClassFault}
use Rattle.psg_class.specs.declared.fault.ClassFault.TheVariants as classes
use Rattle.psg_completions.specs.Cases.{HasCases}
use Rattle.psg_completions.specs.Covered.{IsCoveredRow, IsCoveredNil, IsCoveredCell}
use Rattle.psg_completions.specs.Conditions.{EachCase, EachDeclare}
use Rattle.psg_completions.specs.Places.{IsSmallerPlace, IsOpenPlace}
use Rattle.psg_completions.specs.General.{IsGeneralCase, IsGeneralDeclare}
use Rattle.psg_completions.specs.Elements.{IsDeclarable, IsClearRow}
use Rattle.psg_specimen.specs.Declares.{IsDeclaration}
use Rattle.psg_specimen.specs.Conditions.{EachBounded, IsBareScope, IsNarrow, IsQuietSlot, HasRow, MetUpToScopes, MetUpToSlots, MetUpToHoleRows, MetUpToRows, MetUpToNils, MetUpToCells, MetUpToCases, MetUpToSmaller, MetUpToPlaces, MetUpToNarrow, MetUpToShown, MetUpToDeclares, MetUpToDeclarable, IsMet}
use Rattle.psg_specimen.specs.Refusal.{IsAccepted, IsRefusal, IsFirstKind, IsSmallerAt, IsOpenAt, IsNarrowAt, IsGeneralAt}
use Rattle.psg_specimen.specs.declared.fault.Site.{Site}
use Rattle.psg_specimen.specs.declared.fault.Site.TheVariants as sites
use Rattle.psg_specimen.specs.declared.fault.AcceptFault.{AcceptFault}
use Rattle.psg_specimen.specs.declared.fault.AcceptFault.TheVariants as faults

-- the number of the condition that fails
abbrev pub stage : AcceptFault → ℕ
stage (faults.Class f) = 0
stage (faults.Scope o) = 1
stage (faults.Declaring o k) = 2
stage (faults.NoRow kind) = 3
stage (faults.UncoveredOp o k) = 4
stage (faults.UncoveredNil l k) = 5
stage (faults.UncoveredCell l k) = 6
stage (faults.Cases r) = 7
stage (faults.NotSmaller s p) = 8
stage (faults.OpenHole s p) = 9
stage (faults.Large s) = 10
stage (faults.Weak s) = 11
stage (faults.NotIt k) = 12
stage (faults.NoDeclare l s c) = 13
stage (faults.NotClear k) = 14
stage faults.Memory = 15

module _ (def : Definition) where
  abbrev pub Condition : ℕ → Type 0
  Condition zero = IsClass def
  Condition (suc zero) = (o : ℕ) → IsBareScope def o
  Condition (suc (suc zero)) = (o k : ℕ) → IsQuietSlot def o k
  Condition (suc (suc (suc zero))) = (kind : Kind) → HasRow def kind
  Condition (suc (suc (suc (suc zero)))) = (o k : ℕ) → IsCoveredRow def o k
  Condition (suc (suc (suc (suc (suc zero))))) = (l k : ℕ) → IsCoveredNil def l k
  Condition (suc (suc (suc (suc (suc (suc zero)))))) = (l k : ℕ) → IsCoveredCell def l k
  Condition (suc (suc (suc (suc (suc (suc (suc zero))))))) = (r : ℕ) → HasCases def r
  Condition (suc (suc (suc (suc (suc (suc (suc (suc zero)))))))) = EachBounded def (λ specimen bound. (h : ℕ) → IsSmallerPlace specimen bound h)
  Condition (suc (suc (suc (suc (suc (suc (suc (suc (suc zero))))))))) = EachBounded def (λ specimen bound. (h : ℕ) → IsOpenPlace def specimen h)
  Condition (suc (suc (suc (suc (suc (suc (suc (suc (suc (suc zero)))))))))) = EachBounded def (λ specimen bound. IsNarrow def specimen)
  Condition (suc (suc (suc (suc (suc (suc (suc (suc (suc (suc (suc zero))))))))))) = EachCase def (λ r c row one. IsGeneralCase def one) × EachDeclare def (λ k d. IsGeneralDeclare def d)
  Condition (suc (suc (suc (suc (suc (suc (suc (suc (suc (suc (suc (suc zero)))))))))))) = (k : ℕ) → IsDeclaration def k
  Condition (suc (suc (suc (suc (suc (suc (suc (suc (suc (suc (suc (suc (suc zero))))))))))))) = (l s c : ℕ) → IsDeclarable def l s c
  Condition (suc (suc (suc (suc (suc (suc (suc (suc (suc (suc (suc (suc (suc (suc n)))))))))))))) = (k : ℕ) → IsClearRow def k

  -- the first so many conditions hold
  abbrev pub Before : ℕ → Type 0
  Before zero = Unit {0}
  Before (suc n) = Before n × Condition n

  earlier : (n m : ℕ) → Before n → m < n → Condition m
  earlier zero m h lt = absurd (omega (arith, lt))
  earlier (suc n) m h lt = elim (cases_eq m n) [ inl e ↦ subst Condition (sym e) h.1 | inr ne ↦ earlier n m h.0 (omega (arith, lt, ne)) ]

  before1 : IsClass def → Before 1
  before1 k = (tt, k)

  before2 : IsClass def → MetUpToScopes def → Before 2
  before2 k m = (before1 k, m)

  before3 : IsClass def → MetUpToSlots def → Before 3
  before3 k m = (before2 k m.0, m.1)

  before4 : IsClass def → MetUpToHoleRows def → Before 4
  before4 k m = (before3 k m.0, m.1)

  before5 : IsClass def → MetUpToRows def → Before 5
  before5 k m = (before4 k m.0, m.1)

  before6 : IsClass def → MetUpToNils def → Before 6
  before6 k m = (before5 k m.0, m.1)

  before7 : IsClass def → MetUpToCells def → Before 7
  before7 k m = (before6 k m.0, m.1)

  before8 : IsClass def → MetUpToCases def → Before 8
  before8 k m = (before7 k m.0, m.1)

  before9 : IsClass def → MetUpToSmaller def → Before 9
  before9 k m = (before8 k m.0, m.1)

  before10 : IsClass def → MetUpToPlaces def → Before 10
  before10 k m = (before9 k m.0, m.1)

  before11 : IsClass def → MetUpToNarrow def → Before 11
  before11 k m = (before10 k m.0, m.1)

  before12 : IsClass def → MetUpToShown def → Before 12
  before12 k (met, each, declares) = (before11 k met, (each, declares))

  before13 : IsClass def → MetUpToDeclares def → Before 13
  before13 k m = (before12 k m.0, m.1)

  before14 : IsClass def → MetUpToDeclarable def → Before 14
  before14 k m = (before13 k m.0, m.1)

  before15 : IsClass def → IsMet def → Before 15
  before15 k m = (before14 k m.0, m.1)

  passed : (f : AcceptFault) → IsRefusal def f → Before (stage f)
  passed (faults.Class f) h = tt
  passed (faults.Scope o) h = before1 h.0
  passed (faults.Declaring o k) (cls, met, first) = before2 cls met
  passed (faults.NoRow kind) (cls, met, first) = before3 cls met
  passed (faults.UncoveredOp o k) (cls, met, first) = before4 cls met
  passed (faults.UncoveredNil l k) (cls, met, first) = before5 cls met
  passed (faults.UncoveredCell l k) (cls, met, first) = before6 cls met
  passed (faults.Cases r) (cls, met, first) = before7 cls met
  passed (faults.NotSmaller s p) (cls, met, first) = before8 cls met
  passed (faults.OpenHole s p) (cls, met, first) = before9 cls met
  passed (faults.Large s) (cls, met, first) = before10 cls met
  passed (faults.Weak s) (cls, met, first) = before11 cls met
  passed (faults.NotIt k) (cls, met, first) = before12 cls met
  passed (faults.NoDeclare l s c) (cls, met, first) = before13 cls met
  passed (faults.NotClear k) (cls, met, first) = before14 cls met
  passed faults.Memory h = absurd h

  class_fails : (f : ClassFault) → IsClassRefusal def f → IsClass def → ⊥
  class_fails (classes.NoFirst n) h k = k.0.0.0.0.0.0.0 n h.0
  class_fails (classes.Form n) h k = k.0.0.0.0.0.0.1 n h.1.0
  class_fails (classes.NoBracket p) h k = k.0.0.0.0.0.1 p h.1.0
  class_fails (classes.MixedLevel p l) (held, some, first) k = k.0.0.0.0.1 p l first.0
  class_fails (classes.SameFirst p t) (held, token) k = let (terminal, failing) = token.0.0 in k.0.0.0.1 p terminal failing
  class_fails (classes.SameLed p t) (held, token) k = let (terminal, failing) = token.0.0 in k.0.0.1 p terminal failing
  class_fails (classes.LedFollows n t) (held, token) k = let (terminal, failing) = token.0.0 in k.0.1 n terminal failing
  class_fails (classes.ListEnd l t) (held, token) k = let (terminal, failing) = token.0.0 in k.1 l terminal failing
  class_fails classes.Memory h k = h

  kind_fails : (kind : Kind) → IsFirstKind (HasRow def) kind → ((k : Kind) → HasRow def k) → ⊥
  kind_fails (kinds.Phylum p) h all = h.0 (all (kinds.Phylum p))
  kind_fails (kinds.List l) h all = h.1.0 (all (kinds.List l))

  smaller_fails : (s : Site) (h : ℕ) → (IsSmallerAt def s h → ⊥) → Condition 8 → ⊥
  smaller_fails (sites.Hole r c) h refuted all = refuted (λ row at one there. all.0 r row at c one there h)
  smaller_fails (sites.Declare k) h refuted all = refuted (λ d at. all.1 k d at h)

  open_fails : (s : Site) (h : ℕ) → (IsOpenAt def s h → ⊥) → Condition 9 → ⊥
  open_fails (sites.Hole r c) h refuted all = refuted (λ row at one there. all.0 r row at c one there h)
  open_fails (sites.Declare k) h refuted all = refuted (λ d at. all.1 k d at h)

  narrow_fails : (s : Site) → (IsNarrowAt def s → ⊥) → Condition 10 → ⊥
  narrow_fails (sites.Hole r c) refuted all = refuted (λ row at one there. all.0 r row at c one there)
  narrow_fails (sites.Declare k) refuted all = refuted (λ d at. all.1 k d at)

  general_fails : (s : Site) → (IsGeneralAt def s → ⊥) → Condition 11 → ⊥
  general_fails (sites.Hole r c) refuted all = refuted (λ row at one there. all.0 r row at c one there)
  general_fails (sites.Declare k) refuted all = refuted (λ d at. all.1 k d at)

  refuted : (f : AcceptFault) → IsRefusal def f → Condition (stage f) → ⊥
  refuted (faults.Class f) h all = class_fails f h all
  refuted (faults.Scope o) h all = h.1.0 (all o)
  refuted (faults.Declaring o k) (cls, met, first) all = first.0 (all o k)
  refuted (faults.NoRow kind) (cls, met, first) all = kind_fails kind first all
  refuted (faults.UncoveredOp o k) (cls, met, first) all = first.0 (all o k)
  refuted (faults.UncoveredNil l k) (cls, met, first) all = first.0 (all l k)
  refuted (faults.UncoveredCell l k) (cls, met, first) all = first.0 (all l k)
  refuted (faults.Cases r) (cls, met, first) all = first.0 (all r)
  refuted (faults.NotSmaller s p) (cls, met, first) all = smaller_fails s p first.0 all
  refuted (faults.OpenHole s p) (cls, met, first) all = open_fails s p first.0 all
  refuted (faults.Large s) (cls, met, first) all = narrow_fails s first.0 all
  refuted (faults.Weak s) (cls, met, first) all = general_fails s first.0 all
  refuted (faults.NotIt k) (cls, met, first) all = first.0 (all k)
  refuted (faults.NoDeclare l s c) (cls, met, first) all = first.0 (all l s c.0)
  refuted (faults.NotClear k) (cls, met, first) all = first.0 (all k)
  refuted faults.Memory h all = h

  -- two refusals are of one condition
  pub one_stage : (f g : AcceptFault) → IsRefusal def f → IsRefusal def g → stage f ≡ stage g
  one_stage f g h k = elim (cases_eq (stage f) (stage g)) [
    | inl e ↦ e
    | inr ne ↦ elim (cases_lt (stage f) (stage g)) [
      | inl lt ↦ absurd (refuted f h (earlier (stage g) (stage f) (passed g k) lt))
      | inr le ↦ absurd (refuted g k (earlier (stage f) (stage g) (passed f h) (omega (arith, le, ne))))
    ]
  ]

  small : (f : AcceptFault) → IsRefusal def f → stage f < 15
  small (faults.Class f) h = omega arith
  small (faults.Scope o) h = omega arith
  small (faults.Declaring o k) h = omega arith
  small (faults.NoRow kind) h = omega arith
  small (faults.UncoveredOp o k) h = omega arith
  small (faults.UncoveredNil l k) h = omega arith
  small (faults.UncoveredCell l k) h = omega arith
  small (faults.Cases r) h = omega arith
  small (faults.NotSmaller s p) h = omega arith
  small (faults.OpenHole s p) h = omega arith
  small (faults.Large s) h = omega arith
  small (faults.Weak s) h = omega arith
  small (faults.NotIt k) h = omega arith
  small (faults.NoDeclare l s c) h = omega arith
  small (faults.NotClear k) h = omega arith
  small faults.Memory h = absurd h

  pub not_both : IsAccepted def → (f : AcceptFault) → IsRefusal def f → ⊥
  not_both a f h = refuted f h (earlier 15 (stage f) (before15 a.of_class a.met) (small f h))
