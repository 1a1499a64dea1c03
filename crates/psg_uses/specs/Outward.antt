-- The keys of the names that nothing declares, against the keys that pass outward from a tree.
use Rattle.std.specs.Prelude.{ℕ, ◌≡◌, ◌↔◌, ◌⊎◌, true, false, map}
use Rattle.psg_terms.specs.Names.{is_among}
use Rattle.psg_terms.specs.Relations.{IsIn}
use Rattle.psg_grammar.specs.declared.types.Definition.{Definition}
use Rattle.psg_grammar.specs.declared.types.Kind.{Kind}
use Rattle.psg_grammar.specs.Fragments.{Fragment}
use Rattle.psg_grammar.specs.Keys.{Key}
use Rattle.psg_grammar.specs.Lookups.{is_scope}
use Rattle.psg_grammar.specs.Regions.{declared_in, names_of, unfinished_inside}
use Rattle.psg_grammar.specs.WellFormed.{WellFormed}
use Rattle.psg_uses.specs.Free.{free_uses}
use Rattle.psg_uses.specs.Naming.{key_of}

-- The keys of the names that nothing declares in a tree are its keys that are not declared in it, if no unfinished list
-- outside of its scope operators may still declare one.
abbrev pub WarnsOfFree : Definition → Type 0
WarnsOfFree def = (f : Fragment) (kind : Kind) → WellFormed def f kind
    → (is_scope def f ≡ true) ⊎ ((s : ℕ) → unfinished_inside def s f ≡ false) → (key : Key)
    → IsIn key (map key_of (free_uses def f)) ↔ (IsIn key (names_of def f) × (is_among (declared_in def f) key ≡ false))
