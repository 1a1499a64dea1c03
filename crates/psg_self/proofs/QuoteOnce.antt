-- A quoted text is read in one way, whatever follows it.
use Rattle.std.proofs.Common.{arith, ◌≡◌, ◌==◌, ℕ, cond, Option, Some, None, inl, inr, List, [], ◌∷◌, ◌++◌, drop, refl, ap, ap₂, sym, ◌∙◌, subst, append_assoc, encode_utf8, encode_utf8_all}
use Rattle.std.specs.Prelude.{chars, IsUtf8}
use Rattle.std.specs.List.{flat_map}
use Rattle.std.proofs.lemmas.Bool.Decides.{eqb_tells}
use Rattle.std.proofs.lemmas.Grind.{flat_map-append}
use Rattle.std.proofs.lemmas.Str.{encodes-append, encodes-chars}
use Rattle.psg_lexis.specs.Tokens.{escaped, quoted}
use Rattle.psg_lexis.proofs.Escapes.{escaped_char}
use Rattle.psg_deflines.specs.WrittenTrees.{quoted_part}
use Rattle.psg_self.proofs.Quotes.{quoted-closed}

-- the byte that is written next, and what follows it
abbrev read_escape : List ℕ → Option (ℕ × List ℕ)
read_escape [] = None
read_escape (d ∷ r) = Some (cond (d == 110) 10 d, r)

abbrev read_byte : List ℕ → Option (ℕ × List ℕ)
read_byte [] = None
read_byte (b ∷ r) = cond (b == 92) (read_escape r) (cond (b == 34) None (Some (b, r)))

read-escaped : (b : ℕ) (r : List ℕ) → read_byte (escaped b ++ r) ≡ Some (b, r)
read-escaped b r = elim (eqb_tells b 34) [
  | inl p ↦ subst (λ x. read_byte (escaped x ++ r) ≡ Some (x, r)) (sym p.1) refl
  | inr p ↦ elim (eqb_tells b 92) [
    | inl q ↦ subst (λ x. read_byte (escaped x ++ r) ≡ Some (x, r)) (sym q.1) refl
    | inr q ↦ elim (eqb_tells b 10) [
      | inl s ↦ subst (λ x. read_byte (escaped x ++ r) ≡ Some (x, r)) (sym s.1) refl
      | inr s ↦ rw (p.0, q.0, s.0) (rw (q.0, p.0) refl)
    ]
  ]
]

abbrev byte_in : Option (ℕ × List ℕ) → ℕ
byte_in (Some p) = p.0
byte_in None = 0

abbrev rest_in : Option (ℕ × List ℕ) → List ℕ
rest_in (Some p) = p.1
rest_in None = []

abbrev is_there : Option (ℕ × List ℕ) → ℕ
is_there (Some p) = 1
is_there None = 0

pub quotes-once : (w v x y : List ℕ) → flat_map escaped w ++ 34 ∷ x ≡ flat_map escaped v ++ 34 ∷ y → (w ≡ v) × (x ≡ y)
quotes-once [] [] x y e = (refl, ap (drop 1) e)
quotes-once [] (b ∷ v) x y e =
    absurd (omega (
      arith,
      ap is_there (ap read_byte e ∙ ap read_byte (append_assoc (escaped b) (flat_map escaped v) (34 ∷ y))
          ∙ read-escaped b (flat_map escaped v ++ 34 ∷ y)),
    ))
quotes-once (a ∷ w) [] x y e =
    absurd (omega (
      arith,
      ap is_there (ap read_byte (sym e) ∙ ap read_byte (append_assoc (escaped a) (flat_map escaped w) (34 ∷ x))
          ∙ read-escaped a (flat_map escaped w ++ 34 ∷ x)),
    ))
quotes-once (a ∷ w) (b ∷ v) x y e =
    let own = ap read_byte (append_assoc (escaped a) (flat_map escaped w) (34 ∷ x)) ∙ read-escaped a (flat_map escaped w ++ 34 ∷ x) in
    let other = ap read_byte (append_assoc (escaped b) (flat_map escaped v) (34 ∷ y)) ∙ read-escaped b (flat_map escaped v ++ 34 ∷ y) in
    let both = sym own ∙ ap read_byte e ∙ other in
    let rest = quotes-once w v x y (ap rest_in both) in
    (ap₂ (λ c cs. c ∷ cs) (ap byte_in both) rest.0, rest.1)

-- ---- the bytes between the quotes

quoted-bytes : (cs : List ℕ) → encode_utf8_all (quoted cs) ≡ flat_map escaped (encode_utf8_all cs)
quoted-bytes [] = refl
quoted-bytes (c ∷ cs) =
    encodes-append (escaped c) (quoted cs)
    ∙ ap₂ (λ a b. a ++ b) (sym (escaped_char c)) (quoted-bytes cs)
    ∙ sym (flat_map-append escaped (encode_utf8 c) (encode_utf8_all cs))

pub quoted-is : (w : List ℕ) → IsUtf8 w → quoted_part w ≡ 34 ∷ (flat_map escaped w ++ 34 ∷ [])
quoted-is w u =
    quoted-closed (chars w) ∙ ap (λ t. 34 ∷ (t ++ 34 ∷ [])) (quoted-bytes (chars w) ∙ ap (flat_map escaped) (encodes-chars w u))

pub quoted-once : (w v x y : List ℕ) → IsUtf8 w → IsUtf8 v → quoted_part w ++ x ≡ quoted_part v ++ y → (w ≡ v) × (x ≡ y)
quoted-once w v x y u t e =
    let own : quoted_part w ++ x ≡ 34 ∷ (flat_map escaped w ++ 34 ∷ x) =
    ap (λ p. p ++ x) (quoted-is w u) ∙ ap (λ p. 34 ∷ p) (append_assoc (flat_map escaped w) (34 ∷ []) x) in
    let other : quoted_part v ++ y ≡ 34 ∷ (flat_map escaped v ++ 34 ∷ y) =
    ap (λ p. p ++ y) (quoted-is v t) ∙ ap (λ p. 34 ∷ p) (append_assoc (flat_map escaped v) (34 ∷ []) y) in
    quotes-once w v x y (ap (drop 1) (sym own ∙ e ∙ other))
