-- Texts of steps and paths with one more at the end.
use Rattle.std.proofs.Common.{◌≡◌, ℕ, List, [], ◌∷◌, ◌++◌, decimal, sym, ◌∙◌, ap, append_assoc, append-nil}
use Rattle.psg_grammar.specs.Paths.{Path}
use Rattle.psg_script.specs.Forms.{steps_text}
use Rattle.psg_session.specs.Marked.{path_text, paths_text}

pub steps_text-push : (xs : List ℕ) (k : ℕ) → steps_text (xs ++ k ∷ []) ≡ steps_text xs ++ 47 ∷ decimal k
steps_text-push [] k = ap (λ l. 47 ∷ l) (append-nil (decimal k))
steps_text-push (x ∷ xs) k = ap (λ l. 47 ∷ (decimal x ++ l)) (steps_text-push xs k) ∙ ap (λ l. 47 ∷ l) (sym (append_assoc (decimal x) (steps_text xs) (47 ∷ decimal k)))

pub paths_text-push : (ps : List Path) (p : Path) → paths_text (ps ++ p ∷ []) ≡ paths_text ps ++ 32 ∷ path_text p
paths_text-push [] p = ap (λ l. 32 ∷ l) (append-nil (path_text p))
paths_text-push (q ∷ ps) p = ap (λ l. 32 ∷ (path_text q ++ l)) (paths_text-push ps p) ∙ ap (λ l. 32 ∷ l) (sym (append_assoc (path_text q) (paths_text ps) (32 ∷ path_text p)))

-- a text that grew by a byte and then by a piece
pub pushed : (initial front piece t0 t1 t2 : List ℕ) (c : ℕ) → t0 ≡ initial ++ front → t1 ≡ t0 ++ c ∷ [] → t2 ≡ t1 ++ piece → t2 ≡ initial ++ (front ++ c ∷ piece)
pushed initial front piece t0 t1 t2 c e0 e1 e2 =
    e2 ∙ ap (λ l. l ++ piece) e1 ∙ append_assoc t0 (c ∷ []) piece ∙ ap (λ l. l ++ c ∷ piece) e0 ∙ append_assoc initial front (c ∷ piece)
