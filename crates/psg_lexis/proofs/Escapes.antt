-- The escapes of a text, byte by byte and character by character.
use Rattle.std.proofs.Common.{◌≡◌, ◌≢◌, inl, inr, ℕ, suc, ◌<◌, ◌≤◌, List, [], ◌∷◌, ◌++◌, length, get_or, refl, ap, ap₂, sym, ◌∙◌, subst, arith, lit<, encode_utf8, encode_utf8_all}
use Rattle.std.specs.List.{flat_map}
use Rattle.std.proofs.lemmas.Bool.{cases_lt}
use Rattle.std.proofs.lemmas.Bool.Decides.{eqb_tells}
use Rattle.std.proofs.lemmas.List.{append-nil}
use Rattle.std.proofs.lemmas.Str.{encode_ascii, inside_one}
use Rattle.psg_lexis.specs.Tokens.{escaped}

-- any other byte stays
unescaped : (b : ℕ) → b ≢ 34 → b ≢ 92 → b ≢ 10 → escaped b ≡ b ∷ []
unescaped b q s n =
    elim (eqb_tells b 34) [
      | inl e ↦ absurd (q e.1)
      | inr e ↦ elim (eqb_tells b 92) [
        | inl f ↦ absurd (s f.1)
        | inr f ↦ elim (eqb_tells b 10) [
          | inl g ↦ absurd (n g.1)
          | inr g ↦ rw (e.0, f.0, g.0) refl
        ]
      ]
    ]

-- bytes above ASCII stay
all_unescaped : (bs : List ℕ) → ((k : ℕ) → k < length bs → 128 ≤ get_or bs k 0) → flat_map escaped bs ≡ bs
all_unescaped [] h = refl
all_unescaped (b ∷ bs) h =
    let low : 128 ≤ b = h 0 (omega arith) in
    ap₂ (λ x y. x ++ y) (unescaped b (λ e. absurd (omega arith)) (λ e. absurd (omega arith)) (λ e. absurd (omega arith))) (all_unescaped bs (λ k l. h (suc k) (omega (arith, l))))

escaped_ascii : (c : ℕ) → c < 128 → flat_map escaped (encode_utf8 c) ≡ escaped c
escaped_ascii c h = ap (flat_map escaped) (encode_ascii c h) ∙ append-nil (escaped c)

-- each byte of a character above ASCII
encode_high : (c : ℕ) → 128 ≤ c → (k : ℕ) → k < length (encode_utf8 c) → 128 ≤ get_or (encode_utf8 c) k 0
encode_high c g k l =
    elim (cases_lt (get_or (encode_utf8 c) k 0) 128) [
      | inl b ↦
          let e : encode_utf8 c ≡ encode_utf8 c ++ [] = sym (append-nil (encode_utf8 c)) in
          absurd (omega (arith, inside_one c [] (encode_utf8 c) k e l b))
      | inr b ↦ b
    ]

escaped_other : (c : ℕ) → c ≢ 34 → c ≢ 92 → c ≢ 10 → flat_map escaped (encode_utf8 c) ≡ encode_utf8 c
escaped_other c q s n =
    elim (cases_lt c 128) [
      | inl l ↦ escaped_ascii c l ∙ unescaped c q s n ∙ sym (encode_ascii c l)
      | inr g ↦ all_unescaped (encode_utf8 c) (encode_high c g)
    ]

-- the bytes of an escaped character are its escaped bytes
two : (c d : ℕ) → c < 128 → d < 128 → encode_utf8_all (c ∷ d ∷ []) ≡ c ∷ d ∷ []
two c d h k = ap₂ (λ x y. x ++ (y ++ [])) (encode_ascii c h) (encode_ascii d k)

pub escaped_char : (c : ℕ) → flat_map escaped (encode_utf8 c) ≡ encode_utf8_all (escaped c)
escaped_char c = elim (eqb_tells c 34) [
  | inl p ↦ subst (λ x. flat_map escaped (encode_utf8 x) ≡ encode_utf8_all (escaped x)) (sym p.1)
      (escaped_ascii 34 (lit< tt) ∙ sym (two 92 34 (lit< tt) (lit< tt)))
  | inr p ↦ elim (eqb_tells c 92) [
    | inl q ↦ subst (λ x. flat_map escaped (encode_utf8 x) ≡ encode_utf8_all (escaped x)) (sym q.1)
        (escaped_ascii 92 (lit< tt) ∙ sym (two 92 92 (lit< tt) (lit< tt)))
    | inr q ↦ elim (eqb_tells c 10) [
      | inl r ↦ subst (λ x. flat_map escaped (encode_utf8 x) ≡ encode_utf8_all (escaped x)) (sym r.1)
          (escaped_ascii 10 (lit< tt) ∙ sym (two 92 110 (lit< tt) (lit< tt)))
      | inr r ↦ escaped_other c p.1 q.1 r.1 ∙ sym (rw (p.0, q.0, r.0) (append-nil (encode_utf8 c)))
    ]
  ]
]
