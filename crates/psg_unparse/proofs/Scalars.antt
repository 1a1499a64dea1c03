-- The characters of a word are scalar values, so its bytes are UTF-8.
use Rattle.std.proofs.Common.{◌≡◌, ℕ, ◌<◌, ◌≤◌, true, false, not, cond, ◌&&◌, ◌||◌, ◌==◌, leb, ltb, List, [], ◌∷◌, inl, inr, refl, ap, ◌∙◌, subst, arith, le-ltb, lt-ltb, le-leb, leb-true, eqb-true}
use Rattle.std.specs.Prelude.{IsTrue, nat_le}
use Rattle.std.specs.List.{AllByRecursion}
use Rattle.std.proofs.lemmas.Bool.{or_cases, and_parts, and_from}
use lib.Utf8.{scalar, scalars, low_scalar}
use Rattle.ucd_table.specs.Rows.{Range, in_ranges}
use Rattle.ucd_table.proofs.Stepped.{Stepped, of_ranges, zip_stepped}
use Rattle.ucd_table.proofs.Facts.{Stepped-everywhere}
use Rattle.ucd_derived.proofs.BinaryLemmas.{is_xid_continue_stepped}
use Rattle.unicode_ident.specs.Ident.{is_xid_continue}
use Rattle.unicode_ident.proofs.Computing.{unicode_ident}
use Rattle.psg_terms.specs.Words.{goes_on_word, IsWord}
use Rattle.psg_lexis.proofs.Starts.{start_goes_on}

abbrev scalar_ranges : List Range
scalar_ranges = (0, 0xD7FF) ∷ (0xE000, 0x10FFFF) ∷ []

unfoldable scalar_stepped : Stepped (in_ranges scalar_ranges)
unfolding unicode_ident
scalar_stepped = of_ranges scalar_ranges refl

-- what may continue an identifier lies in the ranges
in_both : (c : ℕ) → is_xid_continue c ≡ true → in_ranges scalar_ranges c ≡ true
unfolding unicode_ident scalar_stepped
in_both c continues =
    let both = zip_stepped (λ a b. not a || b) is_xid_continue (in_ranges scalar_ranges) is_xid_continue_stepped
    scalar_stepped in
    subst (λ a. (not a || in_ranges scalar_ranges c) ≡ true) continues (Stepped-everywhere _ both refl c)

high_scalar : (c : ℕ) → 57344 ≤ c → c < 1114112 → scalar c ≡ true
high_scalar c h k =
    ap (λ y. cond y true (leb 57344 c && ltb c 1114112)) (le-ltb c 55296 (omega (arith, h)))
    ∙ ap (λ y. y && ltb c 1114112) (le-leb 57344 c h) ∙ lt-ltb c 1114112 k

from_ranges : (c : ℕ) → in_ranges scalar_ranges c ≡ true → scalar c ≡ true
unfolding in_ranges
from_ranges c h = elim (or_cases (nat_le 0 c && nat_le c 0xD7FF) ((nat_le 0xE000 c && nat_le c 0x10FFFF) || false) h) [
  | inl a ↦ low_scalar c (let b : c ≤ 55295 =
      leb-true c 55295 (and_parts (nat_le 0 c) (nat_le c 0xD7FF) a).1 in omega (arith, b))
  | inr a ↦ elim (or_cases (nat_le 0xE000 c && nat_le c 0x10FFFF) false a) [
    | inl b ↦ (let e = and_parts (nat_le 0xE000 c) (nat_le c 0x10FFFF) b in
        let low : 57344 ≤ c = leb-true 57344 c e.0 in
        let high : c ≤ 1114111 = leb-true c 1114111 e.1 in
        high_scalar c low (omega (arith, high)))
    | inr b ↦ low_scalar c (absurd (elim_false b))
  ]
] where
  elim_false : false ≡ true → ⊥
  elim_false e = cc

goes_on_scalar : (c : ℕ) → goes_on_word c ≡ true → scalar c ≡ true
goes_on_scalar c h = elim (or_cases (is_xid_continue c) (c == 95) h) [
  | inl a ↦ from_ranges c (in_both c a)
  | inr a ↦ low_scalar c (let e : c ≡ 95 = eqb-true c 95 a in omega (arith, e))
]

all_scalar : (cs : List ℕ) → AllByRecursion (λ d. IsTrue (goes_on_word d)) cs → scalars cs ≡ true
all_scalar [] h = refl
all_scalar (c ∷ cs) h = and_from (scalar c) (scalars cs) (goes_on_scalar c h.0) (all_scalar cs h.1)

pub word_scalars : (cs : List ℕ) → IsWord cs → scalars cs ≡ true
word_scalars [] h = absurd h
word_scalars (c ∷ cs) h = and_from (scalar c) (scalars cs) (goes_on_scalar c (start_goes_on c h.0)) (all_scalar cs h.1)
