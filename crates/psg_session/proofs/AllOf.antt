-- What holds of all members of lists that are made of others.
use Rattle.std.proofs.Common.{Bool, true, false, cond, List, [], ◌∷◌, bytes_eq}
use Rattle.std.specs.List.{AllByRecursion}
use Rattle.psg_terms.specs.Names.{Name}
use Rattle.psg_library.specs.declared.fragment.SavedFragment.{SavedFragment as Saved}
use Rattle.psg_session.specs.Shelf.{others}

either_all : {X : Type 0} (P : X → Type 0) (b : Bool) (xs ys : List X) → AllByRecursion P xs → AllByRecursion P ys
    → AllByRecursion P (cond b xs ys)
either_all P true xs ys all more = all
either_all P false xs ys all more = more

pub all_others : (P : Saved → Type 0) (name : Name) (xs : List Saved) → AllByRecursion P xs
    → AllByRecursion P (others name xs)
all_others P name [] all = tt
all_others P name (x ∷ xs) all =
    let rest = all_others P name xs all.1 in
    either_all P (bytes_eq x.name name) (others name xs) (x ∷ others name xs) rest (all.0, rest)
