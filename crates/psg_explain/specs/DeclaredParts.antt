-- The keys that a node's own parts and its children declare, one after the other.
use Rattle.std.specs.Prelude.{ℕ, ◌≡◌, ◌⊎◌, ◌+◌, true, List, [], ◌∷◌, ◌++◌, Option, Some, None, length, slice_get}
use Rattle.std.specs.declared.cmp.Ordering.TheVariants.{Less}
use Rattle.psg_terms.specs.Names.{is_among}
use Rattle.psg_grammar.specs.declared.types.Definition.{Definition}
use Rattle.psg_grammar.specs.Fragments.{Fragment}
use Rattle.psg_grammar.specs.Keys.{Key, key_cmp}
use Rattle.psg_grammar.specs.Regions.{declared_in}
use Rattle.psg_tree.specs.declared.tree.Part.{Part}
use Rattle.psg_tree.specs.declared.tree.Part.TheVariants as parts
use Rattle.psg_scope.specs.declared.header.NameCol.{NameCol}
use Rattle.psg_scope.specs.Headers.{declared_keys, key_of}
use Rattle.psg_explain.specs.Refutations.{is_twice_among}
use Rattle.psg_explain.specs.Splits.{name_of_part}

-- the key of the position, if there is one and it declares
abbrev pub position_keys : Option NameCol → List Key
position_keys None = []
position_keys (Some c) = declared_keys (c ∷ [])

-- the keys that the part declares, where the next name is at this one of the positions
abbrev pub part_keys : Definition → List NameCol → ℕ → Part → List Key
part_keys def own n (parts.Sub t) = declared_in def t
part_keys def own n (parts.Name m) = position_keys (slice_get own n)
part_keys def own n (parts.Number m) = []
part_keys def own n (parts.Text m) = []

abbrev pub parts_keys : Definition → List NameCol → ℕ → List Part → List Key
parts_keys def own n [] = []
parts_keys def own n (p ∷ ps) = part_keys def own n p ++ parts_keys def own (n + length (name_of_part p)) ps

-- the keys that the regions of the elements declare
abbrev pub element_keys : Definition → List Fragment → List Key
element_keys def [] = []
element_keys def (e ∷ es) = declared_in def e ++ element_keys def es

-- the key itself, or the other one where the key is not before it
abbrev pub IsLeast : Option NameCol → NameCol → NameCol → Type 0
IsLeast None key least = least ≡ key
IsLeast (Some other) key least =
    ((key_cmp (key_of key) (key_of other) ≡ Less) × (least ≡ key))
    ⊎ ((key_cmp (key_of key) (key_of other) ≡ Less → ⊥) × (least ≡ other))

-- of the keys in front the first one that is at two places of the list
abbrev pub IsFirstAmong : List Key → List Key → Option NameCol → Type 0
IsFirstAmong ks front None = (other : Key) → is_among front other ≡ true → is_twice_among ks other ≡ true → ⊥
IsFirstAmong ks front (Some c) = (is_twice_among ks (key_of c) ≡ true)
    × ((other : Key) → is_among front other ≡ true → is_twice_among ks other ≡ true
    → (other ≡ key_of c) ⊎ (key_cmp (key_of c) other ≡ Less))
