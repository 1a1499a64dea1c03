use Rattle.std.proofs.Common.{◌≡◌, ◌^◌, ℕ, zero, suc, ◌<◌, List, [], ◌∷◌, length, refl, arith}
use Rattle.std.specs.Prelude.{slice_index_or}
use Rattle.std.proofs.Math.Facts.{Fits-lt-pow}
use Rattle.psg_eval.proofs.renaming.joined_columns.Goals as goal

any_default : (xs : List ℕ) (k d e : ℕ) → k < length xs → slice_index_or xs k d ≡ slice_index_or xs k e
any_default [] k d e l = absurd (omega arith)
any_default (x ∷ xs) zero d e l = refl
any_default (x ∷ xs) (suc k) d e l = any_default xs k d e (omega arith)

pub key_columns-requires-clause-room : goal.key_columns-requires-clause-room
key_columns-requires-clause-room c = λ k d l.
    let fits : slice_index_or c.args.others.now k 0 < 2 ^ 64 = Fits-lt-pow (c.type_inv.others k) in
    omega (arith, fits, any_default c.args.others.now k d 0 l)
