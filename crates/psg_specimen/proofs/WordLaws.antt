-- Laws of the texts of refusals.
use Rattle.std.proofs.Common.{◌≡◌, ℕ, List, [], ◌∷◌, ◌++◌, sym, ap, ◌∙◌, append_assoc, append-nil}
use Rattle.std.specs.Prelude.{codes}
use Rattle.psg_specimen.specs.Texts.{words, line}

pub words-more : (ws : List (List ℕ)) (w : List ℕ) → words ws ++ (32 ∷ w) ≡ words (ws ++ w ∷ [])
words-more [] w = ap (λ x. 32 ∷ x) (sym (append-nil w))
words-more (v ∷ ws) w = ap (λ x. 32 ∷ x) (append_assoc v (words ws) (32 ∷ w) ∙ ap (λ x. v ++ x) (words-more ws w))

-- one more word
pub line-more : (old new w : List ℕ) → new ≡ old ++ (32 ∷ w) → (ws : List (List ℕ)) → old ≡ line ws → new ≡ line (ws ++ w ∷ [])
line-more old new w e ws h = e ∙ ap (λ x. x ++ (32 ∷ w)) h ∙ append_assoc (codes "refused") (words ws) (32 ∷ w) ∙ ap (λ x. codes "refused" ++ x) (words-more ws w)
