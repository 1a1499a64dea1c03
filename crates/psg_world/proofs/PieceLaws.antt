-- The bytes of an input that come by pieces.
use Rattle.std.proofs.Common.{◌≡◌, ℕ, List, [], ◌∷◌, ◌++◌, Option, Some, None, sym, ◌∙◌, ap, append_assoc, append-nil}
use Rattle.std.specs.Io.KnownBytes.{Consumes}
use Rattle.psg_world.specs.Pieces.{IsPieceOf}

-- the bytes of the pieces, one piece after the other
abbrev pub joined : List (List ℕ) → List ℕ
joined [] = []
joined (piece ∷ pieces) = piece ++ joined pieces

-- The pieces are the next of the bytes that are known. What a program is told by these words alone depends on the bytes
-- and not on where they were cut.
abbrev pub HaveCome : Option (List ℕ) → Option (List ℕ) → List (List ℕ) → Type 0
HaveCome old new pieces = Consumes old new (joined pieces)

joined_more : (pieces : List (List ℕ)) (piece : List ℕ) → joined (pieces ++ piece ∷ []) ≡ joined pieces ++ piece
joined_more [] piece = append-nil piece
joined_more (first ∷ pieces) piece = ap (λ l. first ++ l) (joined_more pieces piece) ∙ sym (append_assoc first (joined pieces) piece)

-- one more piece came
pub come_more : (old now new : Option (List ℕ)) (pieces : List (List ℕ)) (piece : List ℕ)
    → HaveCome old now pieces → IsPieceOf now new piece → HaveCome old new (pieces ++ piece ∷ [])
come_more None now new pieces piece came next = tt
come_more (Some all) None new pieces piece came next = absurd came
come_more (Some all) (Some rest) None pieces piece came next = absurd next.0
come_more (Some all) (Some rest) (Some left) pieces piece came next =
    came ∙ ap (λ l. joined pieces ++ l) next.0 ∙ sym (append_assoc (joined pieces) piece left)
    ∙ ap (λ l. l ++ left) (sym (joined_more pieces piece))
