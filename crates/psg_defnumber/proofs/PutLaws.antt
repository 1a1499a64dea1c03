-- Lists that are made part by part.
use Rattle.std.proofs.Common.{◌≡◌, ℕ, ◌+◌, ◌<◌, ◌≤◌, List, [], ◌∷◌, ◌++◌, drop, get_or, length, sym, ◌∙◌, subst, append_assoc, append-nil}
use Rattle.std.proofs.lemmas.List.{drop_all}
use Rattle.psg_terms.proofs.Lists.{drop_item}
use Rattle.psg_grammar.specs.declared.types.Definition.{Definition}
use Rattle.psg_defnumber.specs.Growing.{Lasts}
use Rattle.psg_defnumber.specs.Putting.{Read, Puts}

-- What is made so far, and then what the parts from here on make.
abbrev pub ReadsTo : {X Y : Type 0} → Definition → Read X Y → List X → List Y → List X → Type 0
ReadsTo {X} {Y} def Reads all done rest = Lasts def (λ full. (tail : List Y) → Reads full rest tail → Reads full all (done ++ tail))

pub reads-next : {X Y : Type 0} (def : Definition) (Reads : Read X Y) (xs : List X) (i : ℕ) (x : X) (old new : List Y) → i < length xs → x ≡ get_or xs i x
    → ReadsTo def Reads xs old (drop i xs) → Puts def Reads x (drop (i + 1) xs) old new → ReadsTo def Reads xs new (drop (i + 1) xs)
reads-next def Reads xs i x old new lt at h p = λ full k tail r.
    subst (λ l. Reads full xs (l ++ tail)) (sym p.grown)
    (subst (Reads full xs) (sym (append_assoc old p.added tail))
    (h full k (p.added ++ tail) (subst (λ l. Reads full l (p.added ++ tail)) (sym (drop_item xs i x lt at)) (p.read full k tail r))))

pub reads-end : {X Y : Type 0} (def : Definition) (Reads : Read X Y) (xs : List X) (i : ℕ) (done : List Y) → length xs ≤ i
    → ((full : Definition) → Reads full [] []) → ReadsTo def Reads xs done (drop i xs) → Lasts def (λ full. Reads full xs done)
reads-end def Reads xs i done le empty h = λ full k.
    subst (Reads full xs) (append-nil done) (h full k [] (subst (λ l. Reads full l []) (sym (drop_all i xs le)) (empty full)))

-- a part that ends the list
pub reads-stop : {X Y : Type 0} (def : Definition) (Reads : Read X Y) (xs : List X) (i : ℕ) (x : X) (done : List Y) → i < length xs → x ≡ get_or xs i x
    → ((full : Definition) → Reads full (x ∷ drop (i + 1) xs) []) → ReadsTo def Reads xs done (drop i xs) → Lasts def (λ full. Reads full xs done)
reads-stop def Reads xs i x done lt at empty h = λ full k.
    subst (Reads full xs) (append-nil done) (h full k [] (subst (λ l. Reads full l []) (sym (drop_item xs i x lt at)) (empty full)))

pub puts-none : {X Y : Type 0} (def : Definition) (Reads : Read X Y) (x : X) (rest : List X) (old new : List Y) → new ≡ old
    → ((full : Definition) (tail : List Y) → Reads full rest tail → Reads full (x ∷ rest) tail) → Puts def Reads x rest old new
puts-none def Reads x rest old new e h = record { added = []; grown = e ∙ sym (append-nil old); read = λ full k tail r. h full tail r }

pub puts-one : {X Y : Type 0} (def : Definition) (Reads : Read X Y) (x : X) (rest : List X) (old new : List Y) (y : Y) → new ≡ old ++ y ∷ []
    → Lasts def (λ full. (tail : List Y) → Reads full rest tail → Reads full (x ∷ rest) (y ∷ tail)) → Puts def Reads x rest old new
puts-one def Reads x rest old new y e h = record { added = y ∷ []; grown = e; read = h }
