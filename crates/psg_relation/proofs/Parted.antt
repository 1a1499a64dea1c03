-- Two rows of which one has its variables' numbers raised above those of the other.
use Rattle.std.proofs.Common.{◌≡◌, ℕ, ◌+◌, ◌<◌, ◌≤◌, ◌↔◌, true, zero, suc, List, [], ◌∷◌, ◌++◌, map, refl, ap, ap₂, sym, ◌∙◌, subst, arith}
use Rattle.std.proofs.lemmas.List.{map-append}
use Rattle.psg_terms.specs.Terms.{Term, variable, symbol, apply}
use Rattle.psg_terms.specs.Signature.{Signature, HasSort, HaveSorts}
use Rattle.psg_terms.specs.Instances.{Substitution, substitute, IsSorted, IsGround, IsGrounding, IsGroundInstance}
use Rattle.psg_terms.specs.Renaming.{raised}
use Rattle.psg_terms.specs.Weight.{above_of}
use Rattle.psg_terms.proofs.InstanceLaws.{after, map-substitute-after}
use Rattle.psg_terms.proofs.Renumbering.{HaveSorts-substitute}
use Rattle.psg_unify.specs.Pairs.{Pair, IsAgreeing}
use Rattle.psg_unify.proofs.Theorem.{sorts-append}
use Rattle.psg_relation.specs.Heavy.{highest_in}
use Rattle.psg_relation.specs.Settling.{AreSettled}

-- the one for numbers below the base, and the other one from the base on
abbrev low_high : ℕ → (f g : ℕ → Term) → ℕ → Term
low_high zero f g n = g n
low_high (suc b) f g zero = f zero
low_high (suc b) f g (suc n) = low_high b (λ k. f (suc k)) g n

low-is : (b : ℕ) (f g : ℕ → Term) (n : ℕ) → n < b → low_high b f g n ≡ f n
low-is zero f g n l = absurd (omega (arith, l))
low-is (suc b) f g zero l = refl
low-is (suc b) f g (suc n) l = low-is b (λ k. f (suc k)) g n (omega (arith, l))

high-is : (b : ℕ) (f g : ℕ → Term) (n : ℕ) → low_high b f g (b + n) ≡ g n
high-is zero f g n = let e : 0 + n ≡ n = omega arith in ap g e
high-is (suc b) f g n = let e : suc b + n ≡ suc (b + n) = omega arith in ap (low_high (suc b) f g) e ∙ high-is b (λ k. f (suc k)) g n

of_both : (P : Term → Type 0) (b : ℕ) (f g : ℕ → Term) → ((n : ℕ) → P (f n)) → ((n : ℕ) → P (g n)) → (n : ℕ) → P (low_high b f g n)
of_both P zero f g p q n = q n
of_both P (suc b) f g p q zero = p zero
of_both P (suc b) f g p q (suc n) = of_both P b (λ k. f (suc k)) g (λ k. p (suc k)) q n

-- two substitutions in one
abbrev parting : ℕ → Substitution → Substitution → Substitution
parting b f g s n = low_high b (f s) (g s) n

parting-grounding : (sig : Signature) (b : ℕ) (f g : Substitution) → IsGrounding sig f → IsGrounding sig g → IsGrounding sig (parting b f g)
parting-grounding sig b f g gf gg = record {
  variable_free = λ s n l. of_both IsGround b (f s) (g s) (λ k. gf.variable_free s k l) (λ k. gg.variable_free s k l) n;
  sorted = λ s n l. of_both (λ t. HasSort sig t s) b (f s) (g s) (λ k. gf.sorted s k l) (λ k. gg.sorted s k l) n;
}

-- what only its numbers below the base tell
below : (f g : Substitution) (b : ℕ) → ((s n : ℕ) → n < b → f s n ≡ g s n) → (t : Term) → above_of t ≤ b → substitute f t ≡ substitute g t
below f g b h (variable s n) l = h s n (omega (arith, l))
below f g b h (symbol c) l = refl
below f g b h (apply x y) l = ap₂ apply (below f g b h x (omega (arith, l))) (below f g b h y (omega (arith, l)))

row-below : (f g : Substitution) (b : ℕ) → ((s n : ℕ) → n < b → f s n ≡ g s n) → (row : List Term) → highest_in row ≤ b → map (substitute f) row ≡ map (substitute g) row
row-below f g b h [] l = refl
row-below f g b h (t ∷ row) l = ap₂ (λ x xs. x ∷ xs) (below f g b h t (omega (arith, l))) (row-below f g b h row (omega (arith, l)))

same-row : (f g : Substitution) → ((s n : ℕ) → f s n ≡ g s n) → (row : List Term) → map (substitute f) row ≡ map (substitute g) row
same-row f g h row = row-below f g (highest_in row) (λ s n _. h s n) row (omega arith)

-- the substitution of the raised numbers
abbrev lowered : ℕ → Substitution → Substitution
lowered b h s n = h s (b + n)

row-lowered : (b : ℕ) (h : Substitution) (row : List Term) → map (substitute h) (map (substitute (raised b)) row) ≡ map (substitute (lowered b h)) row
row-lowered b h row = sym (map-substitute-after h (raised b) row) ∙ same-row (after h (raised b)) (lowered b h) (λ s n. refl) row

lowered-grounding : (sig : Signature) (b : ℕ) (h : Substitution) → IsGrounding sig h → IsGrounding sig (lowered b h)
lowered-grounding sig b h g = record { variable_free = λ s n l. g.variable_free s (b + n) l; sorted = λ s n l. g.sorted s (b + n) l }

raised-sorted : (sig : Signature) (b : ℕ) → IsSorted sig (raised b)
raised-sorted sig b s n l = (l, refl, refl)

-- the raised row beside the row that stays
module _ (sig : Signature) (b : ℕ) (stays moves moved : List Term) (fits : highest_in stays ≤ b) (e : moved ≡ map (substitute (raised b)) moves) where
  moved-is : (h : Substitution) → map (substitute h) moved ≡ map (substitute (lowered b h)) moves
  moved-is h = ap (map (substitute h)) e ∙ row-lowered b h moves

  both_at : (f g : Substitution) → (map (substitute (parting b f g)) stays ≡ map (substitute f) stays) × (map (substitute (parting b f g)) moved ≡ map (substitute g) moves)
  both_at f g = (
    row-below (parting b f g) f b (λ s n l. low-is b (f s) (g s) n l) stays fits,
    moved-is (parting b f g) ∙ same-row (lowered b (parting b f g)) g (λ s n. high-is b (f s) (g s) n) moves,
  )

  moved-sorts : (ss : List ℕ) → HaveSorts sig moves ss → HaveSorts sig moved ss
  moved-sorts ss h = subst (λ r. HaveSorts sig r ss) (sym e) (HaveSorts-substitute sig (raised b) (raised-sorted sig b) moves ss h)

module _ (sig : Signature) (left right : List Term) (pairs : List Pair) (settled : AreSettled left right pairs true) where
  pub right_parted : (b : ℕ) (moved : List Term) → highest_in left ≤ b → moved ≡ map (substitute (raised b)) right → (full : List Term) → IsGroundInstance sig (left ++ moved) full ↔ IsAgreeing sig left right pairs full
  right_parted b moved fits e full = (
    λ (h, gh, d). (
      map (substitute h) left,
      map (substitute (lowered b h)) right,
      (h, gh, refl),
      (lowered b h, lowered-grounding sig b h gh, refl),
      settled h (lowered b h),
      d ∙ map-append (substitute h) left moved ∙ ap (λ r. map (substitute h) left ++ r) (moved-is sig b left right moved fits e h),
    ),
    λ (l, r, (f, gf, el), (g, gg, er), agree, d).
        let both = both_at sig b left right moved fits e f g in (
          parting b f g,
          parting-grounding sig b f g gf gg,
          d ∙ ap₂ (λ x y. x ++ y) (el ∙ sym both.0) (er ∙ sym both.1) ∙ sym (map-append (substitute (parting b f g)) left moved),
        ),
  )

  pub left_parted : (b : ℕ) (moved : List Term) → highest_in right ≤ b → moved ≡ map (substitute (raised b)) left → (full : List Term) → IsGroundInstance sig (moved ++ right) full ↔ IsAgreeing sig left right pairs full
  left_parted b moved fits e full = (
    λ (h, gh, d). (
      map (substitute (lowered b h)) left,
      map (substitute h) right,
      (lowered b h, lowered-grounding sig b h gh, refl),
      (h, gh, refl),
      settled (lowered b h) h,
      d ∙ map-append (substitute h) moved right ∙ ap (λ l. l ++ map (substitute h) right) (moved-is sig b right left moved fits e h),
    ),
    λ (l, r, (f, gf, el), (g, gg, er), agree, d).
        let both = both_at sig b right left moved fits e g f in (
          parting b g f,
          parting-grounding sig b g f gg gf,
          d ∙ ap₂ (λ x y. x ++ y) (el ∙ sym both.1) (er ∙ sym both.0) ∙ sym (map-append (substitute (parting b g f)) moved right),
        ),
  )

  pub right_parted-sorts : (b : ℕ) (moved : List Term) → highest_in left ≤ b → moved ≡ map (substitute (raised b)) right → (ls rs : List ℕ) → HaveSorts sig left ls → HaveSorts sig right rs → HaveSorts sig (left ++ moved) (ls ++ rs)
  right_parted-sorts b moved fits e ls rs hl hr = sorts-append sig left moved ls rs hl (moved-sorts sig b left right moved fits e rs hr)

  pub left_parted-sorts : (b : ℕ) (moved : List Term) → highest_in right ≤ b → moved ≡ map (substitute (raised b)) left → (ls rs : List ℕ) → HaveSorts sig left ls → HaveSorts sig right rs → HaveSorts sig (moved ++ right) (ls ++ rs)
  left_parted-sorts b moved fits e ls rs hl hr = sorts-append sig moved right ls rs (moved-sorts sig b right left moved fits e ls hl) hr
