-- A walk over cells with a list of what is still to be done.
use Rattle.std.specs.Prelude.{◌≡◌, List, [], ◌∷◌}
use Rattle.psg_terms.specs.Signature.{Signature}
use Rattle.psg_terms.specs.Canonical.{Variable, variables, noted_all}
use Rattle.psg_terms.specs.Renaming.{opens, AreKnown}
use Rattle.psg_unify.specs.declared.walking.Item.{Item}
use Rattle.psg_unify.specs.declared.walking.Item.TheVariants.{Visit, Leave}
use Rattle.psg_unify.specs.Reading.{Reading}

-- Where these variables are known and this is still to be done, the walk ends with those ones. A cell that is left has
-- its variables among the known ones.
abbrev pub EndsWith : Signature → Reading → List Variable → List Item → List Variable → Type 0
EndsWith sig read known [] final = known ≡ final
EndsWith sig read known (Visit id ∷ rest) final =
    EndsWith sig read (noted_all known (opens sig (variables (read id)))) rest final
EndsWith sig read known (Leave id ∷ rest) final =
    AreKnown known (opens sig (variables (read id))) × EndsWith sig read known rest final
