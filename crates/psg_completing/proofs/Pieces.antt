-- The text with a filling, piece by piece.
use Rattle.std.proofs.Common.{◌≡◌, ◌≤◌, ◌+◌, ℕ, List, [], ◌∷◌, ◌++◌, drop, length, take, sym, ap, ◌∙◌, refl, arith}
use Rattle.std.proofs.lemmas.List.{append_assoc, length-append, length-take-le}
use Rattle.psg_grammar.specs.declared.types.Definition.{Definition}
use Rattle.psg_tree.specs.AbstractText.{phylum_name}
use Rattle.psg_completing.specs.declared.around.Word.{Word}
use Rattle.psg_completing.specs.declared.fillings.Filling.{Filling}
use Rattle.psg_completing.specs.Fillings.{before, behind, filled, mark_byte}

all_right : (a b c d e f g h : List ℕ)
    → ((((((a ++ b) ++ c) ++ d) ++ e) ++ f) ++ g) ++ h ≡ a ++ (b ++ (c ++ (d ++ (e ++ (f ++ (g ++ h))))))
all_right a b c d e f g h =
    append_assoc (((((a ++ b) ++ c) ++ d) ++ e) ++ f) g h
    ∙ append_assoc ((((a ++ b) ++ c) ++ d) ++ e) f (g ++ h)
    ∙ append_assoc (((a ++ b) ++ c) ++ d) e (f ++ (g ++ h))
    ∙ append_assoc ((a ++ b) ++ c) d (e ++ (f ++ (g ++ h)))
    ∙ append_assoc (a ++ b) c (d ++ (e ++ (f ++ (g ++ h))))
    ∙ append_assoc a b (c ++ (d ++ (e ++ (f ++ (g ++ h)))))

-- eight pieces, each after those before it
eight : (a c e f h t1 t2 t3 t4 t5 t6 t7 t8 : List ℕ) → t1 ≡ a → t2 ≡ t1 ++ 32 ∷ [] → t3 ≡ t2 ++ c
    → t4 ≡ t3 ++ 63 ∷ [] → t5 ≡ t4 ++ e → t6 ≡ t5 ++ f → t7 ≡ t6 ++ 32 ∷ [] → t8 ≡ t7 ++ h
    → t8 ≡ a ++ ((32 ∷ c) ++ (63 ∷ (e ++ ((f ++ 32 ∷ []) ++ h))))
eight a c e f h t1 t2 t3 t4 t5 t6 t7 t8 e1 e2 e3 e4 e5 e6 e7 e8 =
    whole ∙ all_right a (32 ∷ []) c (63 ∷ []) e f (32 ∷ []) h
    ∙ ap (λ r. a ++ (32 ∷ (c ++ (63 ∷ (e ++ r))))) (sym (append_assoc f (32 ∷ []) h)) where
      u2 : t2 ≡ a ++ 32 ∷ []
      u2 = e2 ∙ ap (λ l. l ++ 32 ∷ []) e1

      u3 : t3 ≡ (a ++ 32 ∷ []) ++ c
      u3 = e3 ∙ ap (λ l. l ++ c) u2

      u4 : t4 ≡ ((a ++ 32 ∷ []) ++ c) ++ 63 ∷ []
      u4 = e4 ∙ ap (λ l. l ++ 63 ∷ []) u3

      u5 : t5 ≡ (((a ++ 32 ∷ []) ++ c) ++ 63 ∷ []) ++ e
      u5 = e5 ∙ ap (λ l. l ++ e) u4

      u6 : t6 ≡ ((((a ++ 32 ∷ []) ++ c) ++ 63 ∷ []) ++ e) ++ f
      u6 = e6 ∙ ap (λ l. l ++ f) u5

      u7 : t7 ≡ (((((a ++ 32 ∷ []) ++ c) ++ 63 ∷ []) ++ e) ++ f) ++ 32 ∷ []
      u7 = e7 ∙ ap (λ l. l ++ 32 ∷ []) u6

      whole : t8 ≡ ((((((a ++ 32 ∷ []) ++ c) ++ 63 ∷ []) ++ e) ++ f) ++ 32 ∷ []) ++ h
      whole = e8 ∙ ap (λ l. l ++ h) u7

-- how many bytes are before the placeholder
three : (own c t1 t2 t3 : List ℕ) (from byte : ℕ) → from ≤ length own → t1 ≡ take from own → t2 ≡ t1 ++ 32 ∷ []
    → t3 ≡ t2 ++ c → byte ≡ length t3 → byte ≡ from + length (32 ∷ c)
three own c t1 t2 t3 from byte le e1 e2 e3 b =
    let l3 = ap length e3 ∙ length-append t2 c in
    let l2 = ap length e2 ∙ length-append t1 (32 ∷ []) in
    let l1 = ap length e1 ∙ length-take-le from own le in
    omega (arith, b, l1, l2, l3)

module _ (def : Definition) (own : List ℕ) (w : Word) (f : Filling) (front head name tail back : List ℕ)
    (front_is : front ≡ take w.from own) (head_is : head ≡ before def f.side) where
  pub text_is : name ≡ phylum_name def f.phylum → tail ≡ behind def f.side → back ≡ drop w.to own → (text : List ℕ)
      → text ≡ ((((((front ++ 32 ∷ []) ++ head) ++ 63 ∷ []) ++ name) ++ tail) ++ 32 ∷ []) ++ back
      → text ≡ filled def own w f
  text_is name_is tail_is back_is text e =
      eight (take w.from own) (before def f.side) (phylum_name def f.phylum) (behind def f.side) (drop w.to own) front
      (front ++ 32 ∷ []) ((front ++ 32 ∷ []) ++ head) (((front ++ 32 ∷ []) ++ head) ++ 63 ∷ [])
      ((((front ++ 32 ∷ []) ++ head) ++ 63 ∷ []) ++ name) (((((front ++ 32 ∷ []) ++ head) ++ 63 ∷ []) ++ name) ++ tail)
      ((((((front ++ 32 ∷ []) ++ head) ++ 63 ∷ []) ++ name) ++ tail) ++ 32 ∷ []) text front_is refl
      (ap (λ l. (front ++ 32 ∷ []) ++ l) head_is) refl
      (ap (λ l. (((front ++ 32 ∷ []) ++ head) ++ 63 ∷ []) ++ l) name_is)
      (ap (λ l. ((((front ++ 32 ∷ []) ++ head) ++ 63 ∷ []) ++ name) ++ l) tail_is) refl
      (e ∙ ap (λ l. ((((((front ++ 32 ∷ []) ++ head) ++ 63 ∷ []) ++ name) ++ tail) ++ 32 ∷ []) ++ l) back_is)

  pub byte_is : w.from ≤ length own → (byte : ℕ) → byte ≡ length ((front ++ 32 ∷ []) ++ head) → byte ≡ mark_byte def w f
  byte_is le byte e =
      three own (before def f.side) front (front ++ 32 ∷ []) ((front ++ 32 ∷ []) ++ head) w.from byte le front_is refl
      (ap (λ l. (front ++ 32 ∷ []) ++ l) head_is) e
