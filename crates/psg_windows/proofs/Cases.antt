-- Worked cases: cursors after commands.
use Rattle.std.proofs.Common.{◌≡◌, [], ◌∷◌, Some, None, codes, refl}
use Rattle.psg_script.specs.declared.command.Where.TheVariants.{Cursor, At}
use Rattle.psg_script.specs.declared.command.Command.TheVariants.{Insert, Remove, Over, Cut, Undo, Close, Own, Goto, Paste}
use Rattle.psg_windows.specs.Moving.{moved, other_moved}
use Rattle.psg_windows.specs.Resolving.{resolved}

put_in_front : moved 0 (Insert (At []) 1 (codes "skip") []) (1 ∷ []) ((0 ∷ []) ∷ (1 ∷ 0 ∷ []) ∷ (0 ∷ []) ∷ (1 ∷ []) ∷ [])
    ≡ (1 ∷ []) ∷ (2 ∷ 0 ∷ []) ∷ (0 ∷ []) ∷ (2 ∷ []) ∷ []
put_in_front = refl

taken_out : moved 0 (Remove (At []) 1) [] ([] ∷ (1 ∷ 0 ∷ []) ∷ (2 ∷ []) ∷ (0 ∷ []) ∷ []) ≡ [] ∷ [] ∷ (1 ∷ []) ∷ (0 ∷ []) ∷ []
taken_out = refl

typed_over : other_moved (Over (At (0 ∷ [])) []) (0 ∷ 1 ∷ []) ≡ 0 ∷ []
typed_over = refl

typed_beside : other_moved (Over (At (0 ∷ [])) []) (1 ∷ 1 ∷ []) ≡ 1 ∷ 1 ∷ []
typed_beside = refl

typed_below : other_moved (Over (At (0 ∷ 1 ∷ [])) []) (0 ∷ []) ≡ 0 ∷ []
typed_below = refl

deep : other_moved (Paste (At (3 ∷ 0 ∷ [])) (Some 2) (codes "a")) (3 ∷ 0 ∷ 2 ∷ 7 ∷ []) ≡ 3 ∷ 0 ∷ 3 ∷ 7 ∷ []
deep = refl

pasted_over : other_moved (Paste (At (3 ∷ [])) None (codes "a")) (3 ∷ 0 ∷ 2 ∷ []) ≡ 3 ∷ []
pasted_over = refl

went_back : moved 2 Undo [] ((1 ∷ []) ∷ (4 ∷ []) ∷ (0 ∷ []) ∷ []) ≡ [] ∷ [] ∷ [] ∷ []
went_back = refl

question : moved 1 (Own (At [])) (5 ∷ []) ([] ∷ (4 ∷ []) ∷ []) ≡ [] ∷ (4 ∷ []) ∷ []
question = refl

closed : moved 0 (Close (At [])) [] ((1 ∷ []) ∷ (4 ∷ []) ∷ []) ≡ [] ∷ (4 ∷ []) ∷ []
closed = refl

went : moved 1 (Goto (At (7 ∷ []))) (7 ∷ []) ((1 ∷ []) ∷ (4 ∷ []) ∷ []) ≡ (1 ∷ []) ∷ (7 ∷ []) ∷ []
went = refl

in_place : resolved (1 ∷ 0 ∷ []) (Cut Cursor) ≡ Cut (At (1 ∷ 0 ∷ []))
in_place = refl

as_it_is : resolved (1 ∷ 0 ∷ []) (Cut (At [])) ≡ Cut (At [])
as_it_is = refl
