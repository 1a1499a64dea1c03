-- What the table of spaces says of each phylum, also of one that is not there.
use Rattle.std.proofs.Common.{◌≡◌, inl, inr, ℕ, zero, suc, ◌<◌, ◌≤◌, ◌||◌, Bool, true, false, List, length, None, slice_get, refl, ap, sym, ◌∙◌, subst, arith, Vec}
use Rattle.std.specs.declared.alloc.Global.{Global}
use Rattle.std.proofs.lemmas.Bool.{cases_Bool, cases_lt}
use Rattle.std.proofs.lemmas.Option.{slice_get_past}
use Rattle.psg_grammar.specs.declared.types.Kind.TheVariants as kinds
use Rattle.psg_grammar.specs.declared.types.Definition.{Definition}
use Rattle.psg_grammar.specs.Declaring.{Declares, HasHoles, by_operator, is_declaring}
use Rattle.psg_grammar.specs.Sound.{IsSound}
use Rattle.psg_grammar.proofs.DeclaringLaws.{found_declares}
use Rattle.psg_grammar.proofs.SoundParts.{phylum_in}
use Rattle.psg_eval.specs.SpaceTables.{AreDeclaringSpaces}
use Rattle.psg_places.specs.Places.{declares, declares_among}
use Rattle.psg_places.specs.Openings.{has_any_in, has_spaces}
use Rattle.psg_places.proofs.SpaceLaws.{table_declares}

neither : (a b : Bool) → a ≡ false → b ≡ false → (a || b) ≡ false
neither true b e d = e
neither false b e d = d

none_among : (def : Definition) (p n : ℕ) → HasHoles def (kinds.Phylum p) → declares_among def n p ≡ false
none_among def p zero h = refl
none_among def p (suc n) h = neither (is_declaring def n (kinds.Phylum p)) (declares_among def n p) (h n) (none_among def p n h)

-- a phylum that has placeholders does not declare
pub holes_declare_not : (def : Definition) (p : ℕ) → HasHoles def (kinds.Phylum p) → declares def p ≡ false
holes_declare_not def p h = none_among def p (length def.spaces) h

declaring_inside : (def : Definition) → IsSound def → (s p : ℕ) → Declares def s (kinds.Phylum p) → p < length def.phyla
declaring_inside def sound s p (by_operator o operator found same scope any) =
    subst (λ n. n < length def.phyla) same (phylum_in def sound o operator found)

-- a phylum that is not there does not declare
outside_holes : (def : Definition) → IsSound def → (p : ℕ) → length def.phyla ≤ p → HasHoles def (kinds.Phylum p)
outside_holes def sound p le s = elim (cases_Bool (is_declaring def s (kinds.Phylum p))) [
  | inl t ↦ (let lt = declaring_inside def sound s p (found_declares def s (kinds.Phylum p) t) in absurd (omega (arith, lt, le)))
  | inr f ↦ f
]

pub known_declares : (def : Definition) → IsSound def → (table : List (Vec ℕ Global)) → AreDeclaringSpaces def table → (p : ℕ) → has_spaces table p ≡ declares def p
known_declares def sound table h p = elim (cases_lt p (length def.phyla)) [
  | inl lt ↦ table_declares def sound table h p lt
  | inr le ↦
      let short : length table ≤ p = let n = h.one_each in omega (arith, n, le) in
      ap has_any_in (slice_get_past table p short) ∙ sym (holes_declare_not def p (outside_holes def sound p le))
]
