-- Names in order, each once.
use Rattle.std.specs.Prelude.{ℕ, ◌≡◌, Bool, false, List, map}
use Rattle.std.specs.List.{AllByRecursion}
use Rattle.std.specs.Borrow.{Bor}
use Rattle.psg_terms.specs.Names.{Name, is_among, has_twice}
use Rattle.psg_terms.specs.declared.declare.ConDecl.{ConDecl}
use Rattle.psg_defcheck.specs.Scopes.{names_of}
use Rattle.psg_defcheck.specs.declared.names.Names.{Names}

-- the names, in the order of their positions
abbrev pub listed : Names → List Name
listed s = map (λ (k : Bor (List ℕ)). k.now) s.set.keys

-- whether the name is among them
abbrev pub has : Names → Name → Bool
has s n = is_among (listed s) n

-- they are the names of the list
abbrev pub AreNames : List Name → Names → Type 0
AreNames names s = listed s ≡ names

-- no name of the constructors is there twice or is one of the names
abbrev pub AreFresh : List Name → List ConDecl → Type 0
AreFresh names constructors = (has_twice (names_of constructors) ≡ false)
    × AllByRecursion (λ n. is_among names n ≡ false) (names_of constructors)
