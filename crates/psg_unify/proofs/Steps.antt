-- Steps of a walk over cells.
use Rattle.std.proofs.Common.{◌≡◌, ℕ, if◌then◌else◌, List, [], ◌∷◌, ◌++◌, map, refl, ap, sym, ◌∙◌, subst}
use Rattle.psg_terms.specs.Terms.{symbol, applied}
use Rattle.psg_terms.specs.Signature.{Signature}
use Rattle.psg_terms.specs.Canonical.{Variable, variables, variables_of, noted_all}
use Rattle.psg_terms.specs.Renaming.{opens, AreKnown}
use Rattle.psg_terms.proofs.RenamingLaws.{IsAmong, among-noted_all, noted_all-append, opens-append, variables-applied}
use Rattle.psg_terms.proofs.Unique.{Each}
use Rattle.psg_pool.specs.declared.cells.CellId.{CellId}
use Rattle.psg_unify.specs.Reading.{Reading}
use Rattle.psg_unify.specs.declared.walking.Item.{Item}
use Rattle.psg_unify.specs.declared.walking.Item.TheVariants.{Visit, Leave}
use Rattle.psg_unify.specs.Walking.{EndsWith}

pub known_each : (known xs : List Variable) → Each (IsAmong known) xs → AreKnown known xs
known_each known [] h = tt
known_each known (x ∷ xs) (p, h) = (p, known_each known xs h)

noted_all-known : (known xs : List Variable) → AreKnown known xs → noted_all known xs ≡ known
noted_all-known known [] h = refl
noted_all-known known (x ∷ xs) (p, h) = ap (λ l. noted_all l xs) (ap (λ b. if b then known else known ++ x ∷ []) p) ∙ noted_all-known known xs h

-- going to several cells
pub visits : (sig : Signature) (read : Reading) (known : List Variable) (args : List CellId) (rest : List Item) (final : List Variable)
    → EndsWith sig read (noted_all known (opens sig (variables_of (map read args)))) rest final → EndsWith sig read known (map (λ (a : CellId). Visit a) args ++ rest) final
visits sig read known [] rest final h = h
visits sig read known (a ∷ args) rest final h =
    visits sig read (noted_all known (opens sig (variables (read a)))) args rest final
    (subst (λ k. EndsWith sig read k rest final)
    (ap (noted_all known) (opens-append sig (variables (read a)) (variables_of (map read args)))
    ∙ noted_all-append known (opens sig (variables (read a))) (opens sig (variables_of (map read args)))) h)

-- a constructor cell: its arguments, and then it is left
pub at_con : (sig : Signature) (read : Reading) (known : List Variable) (id : CellId) (c : ℕ) (args : List CellId) (rest : List Item) (final : List Variable)
    → read id ≡ applied (symbol c) (map read args) → EndsWith sig read known (Visit id ∷ rest) final → EndsWith sig read known (map (λ (a : CellId). Visit a) args ++ Leave id ∷ rest) final
at_con sig read known id c args rest final e h =
    let is : variables (read id) ≡ variables_of (map read args) = ap variables e ∙ variables-applied (symbol c) (map read args) in
    let o : List Variable = opens sig (variables_of (map read args)) in
    visits sig read known args (Leave id ∷ rest) final (
      subst (λ xs. AreKnown (noted_all known o) (opens sig xs)) (sym is) (known_each (noted_all known o) o (among-noted_all known o)),
      subst (λ xs. EndsWith sig read (noted_all known (opens sig xs)) rest final) is h,
    )

-- a bound cell: its target, and then it is left
pub at_bound : (sig : Signature) (read : Reading) (known : List Variable) (id to : CellId) (rest : List Item) (final : List Variable)
    → read id ≡ read to → EndsWith sig read known (Visit id ∷ rest) final → EndsWith sig read known (Visit to ∷ Leave id ∷ rest) final
at_bound sig read known id to rest final e h =
    let o : List Variable = opens sig (variables (read to)) in (
      subst (λ t. AreKnown (noted_all known o) (opens sig (variables t))) (sym e) (known_each (noted_all known o) o (among-noted_all known o)),
      subst (λ t. EndsWith sig read (noted_all known (opens sig (variables t))) rest final) e h,
    )

-- a cell that was left before is not walked again
pub at_known : (sig : Signature) (read : Reading) (known : List Variable) (id : CellId) (rest : List Item) (final : List Variable)
    → AreKnown known (opens sig (variables (read id))) → EndsWith sig read known (Visit id ∷ rest) final → EndsWith sig read known rest final
at_known sig read known id rest final k h = subst (λ l. EndsWith sig read l rest final) (noted_all-known known (opens sig (variables (read id))) k) h
