-- The first hole place by its hole row and case, or by its declare row.
use Rattle.std.proofs.Common.{◌≡◌, inl, inr, ℕ, ◌<◌, ◌^◌, length, Some, slice_get, refl, arith}
use Rattle.std.proofs.lemmas.Bool.{cases_lt}
use Rattle.std.proofs.lemmas.Option.{slice_get_within}
use Rattle.psg_terms.proofs.Lists.{each_at}
use Rattle.psg_grammar.specs.declared.types.Case.{Case}
use Rattle.psg_grammar.specs.declared.types.HoleRow.{HoleRow}
use Rattle.psg_grammar.specs.declared.types.DeclareRow.{DeclareRow}
use Rattle.psg_grammar.specs.declared.types.Definition.{Definition}
use Rattle.psg_grammar.specs.Sound.{IsSound, IsHoleRow}
use Rattle.psg_specimen.specs.Refusal.{IsFirstOfThree, IsFirstOfTwo, IsFirstPlace, IsSiteBefore}
use Rattle.psg_specimen.specs.Wanted.{IsWantedPlace, Wants}
use Rattle.psg_specimen.specs.declared.fault.Site.{Site}
use Rattle.psg_specimen.specs.declared.fault.Site.TheVariants as sites
use Rattle.psg_specimen.specs.declared.places.Wanted.{Wanted}
use Rattle.psg_specimen.specs.declared.places.Wanted.TheVariants as wanted
use Rattle.psg_specimen.proofs.InRange.{inside}

module _ (def : Definition) where
  abbrev pub InCase : Wanted → ℕ → ℕ → ℕ → Type 0
  InCase w r c h = (row : HoleRow) → slice_get def.hole_rows r ≡ Some row → (one : Case) → slice_get row.cases c ≡ Some one → IsWantedPlace def w one.specimen one.term h

  abbrev pub InDeclare : Wanted → ℕ → ℕ → Type 0
  InDeclare w k h = (d : DeclareRow) → slice_get def.declare_rows k ≡ Some d → IsWantedPlace def w d.specimen d.term h

  to_case : (w : Wanted) (r c h : ℕ) → InCase w r c h → Wants def w (sites.Hole r c) h
  to_case wanted.Smaller r c h p = p
  to_case wanted.OfOneRow r c h p = p

  of_case : (w : Wanted) (r c h : ℕ) → Wants def w (sites.Hole r c) h → InCase w r c h
  of_case wanted.Smaller r c h p = p
  of_case wanted.OfOneRow r c h p = p

  to_declare : (w : Wanted) (k h : ℕ) → InDeclare w k h → Wants def w (sites.Declare k) h
  to_declare wanted.Smaller k h p = p
  to_declare wanted.OfOneRow k h p = p

  of_declare : (w : Wanted) (k h : ℕ) → Wants def w (sites.Declare k) h → InDeclare w k h
  of_declare wanted.Smaller k h p = p
  of_declare wanted.OfOneRow k h p = p

  before_case : (w : Wanted) (r c h : ℕ) → IsFirstOfThree (InCase w) r c h → (t : Site) (k : ℕ) → IsSiteBefore t (sites.Hole r c) → Wants def w t k
  before_case w r c h first (sites.Hole s d) k b = to_case w s d k (elim b [ inl less ↦ first.1 s d k (inl less) | inr eq ↦ first.1 s d k (inr (eq.0, inl eq.1)) ])
  before_case w r c h first (sites.Declare s) k b = absurd b

  pub first_case : (w : Wanted) (r c h : ℕ) → IsFirstOfThree (InCase w) r c h → IsFirstPlace (Wants def w) (sites.Hole r c) h
  first_case w r c h first = (
    λ q. first.0 (of_case w r c h q),
    before_case w r c h first,
    λ k lt. to_case w r c k (first.1 r c k (inr (refl, inr (refl, lt)))),
  )

  before_declare : (w : Wanted) → ((r c h : ℕ) → InCase w r c h) → (k h : ℕ) → IsFirstOfTwo (InDeclare w) k h → (t : Site) (j : ℕ) → IsSiteBefore t (sites.Declare k) → Wants def w t j
  before_declare w cases k h first (sites.Hole s d) j b = to_case w s d j (cases s d j)
  before_declare w cases k h first (sites.Declare s) j b = to_declare w s j (first.1 s j (inl b))

  pub first_declare : (w : Wanted) → ((r c h : ℕ) → InCase w r c h) → (k h : ℕ) → IsFirstOfTwo (InDeclare w) k h → IsFirstPlace (Wants def w) (sites.Declare k) h
  first_declare w cases k h first = (
    λ q. first.0 (of_declare w k h q),
    before_declare w cases k h first,
    λ j lt. to_declare w k j (first.1 k j (inr (refl, lt))),
  )

  pub no_place : (w : Wanted) → ((r c h : ℕ) → InCase w r c h) → ((k h : ℕ) → InDeclare w k h) → (s : Site) (h : ℕ) → Wants def w s h
  no_place w cases declares (sites.Hole r c) h = to_case w r c h (cases r c h)
  no_place w cases declares (sites.Declare k) h = to_declare w k h (declares k h)

  -- the numbers of the row and the case are those of things that are there
  pub case_row : (w : Wanted) (r c h : ℕ) → (InCase w r c h → ⊥) → r < length def.hole_rows
  case_row w r c h fails = inside def.hole_rows (λ row. (one : Case) → slice_get row.cases c ≡ Some one → IsWantedPlace def w one.specimen one.term h) r fails

  pub case_in : (sound : IsSound def) (w : Wanted) (r c h : ℕ) → (InCase w r c h → ⊥) → c < 2 ^ 32
  case_in sound w r c h fails = elim (cases_lt c (2 ^ 32)) [
    | inl lt ↦ lt
    | inr le ↦ absurd (fails (λ row at one there. absurd (
        let lt = slice_get_within row.cases c one there in
        let few = (each_at (IsHoleRow def) def.hole_rows sound.hole_rows r row at).few_cases in omega (arith, le, lt, few))))
  ]

  pub declare_row : (w : Wanted) (k h : ℕ) → (InDeclare w k h → ⊥) → k < length def.declare_rows
  declare_row w k h fails = inside def.declare_rows (λ d. IsWantedPlace def w d.specimen d.term h) k fails
