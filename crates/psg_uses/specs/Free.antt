-- The names that nothing declares.
use Rattle.std.specs.Prelude.{◌||◌, Bool, cond, List, [], ◌∷◌}
use Rattle.std.specs.List.{list_any}
use Rattle.psg_grammar.specs.declared.types.Definition.{Definition}
use Rattle.psg_grammar.specs.Fragments.{Fragment}
use Rattle.psg_uses.specs.declared.names.Written.{Written}
use Rattle.psg_uses.specs.Naming.{is_same_key, used_names}
use Rattle.psg_uses.specs.Regions.{declared_on, may_be_declared, ways_up}

-- one of the names has the key of the name
abbrev pub has_key : List Written → Written → Bool
has_key names w = list_any (λ d. is_same_key d w) names

-- a region around declares the name, or may still do so
abbrev pub is_linked : Definition → Fragment → Written → Bool
is_linked def f w = has_key (declared_on def f (ways_up w.path)) w || may_be_declared def f w.space (ways_up w.path)

-- the names that are not
abbrev pub unlinked : Definition → Fragment → List Written → List Written
unlinked def f [] = []
unlinked def f (w ∷ ws) = cond (is_linked def f w) (unlinked def f ws) (w ∷ unlinked def f ws)

abbrev pub other_keys : Written → List Written → List Written
other_keys w [] = []
other_keys w (d ∷ ds) = cond (is_same_key d w) (other_keys w ds) (d ∷ other_keys w ds)

-- of each key the first
abbrev pub first_of_each : List Written → List Written
first_of_each [] = []
first_of_each (w ∷ ws) = w ∷ other_keys w (first_of_each ws)

-- the first use of each key that nothing declares
abbrev pub free_uses : Definition → Fragment → List Written
free_uses def f = first_of_each (unlinked def f (used_names def f))
