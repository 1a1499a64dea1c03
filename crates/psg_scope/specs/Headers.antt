-- What a header says of a region.
use Rattle.std.specs.Prelude.{ℕ, ◌≡◌, ◌<◌, ◌==◌, ◌&&◌, ◌||◌, Bool, true, false, List, [], ◌∷◌, ◌++◌, map, slice_get}
use Rattle.std.specs.Prelude.{Some, bytes_eq}
use Rattle.std.specs.List.{list_any, AllByRecursion}
use Rattle.std.specs.declared.cmp.Ordering.TheVariants.{Less}
use Rattle.psg_terms.specs.Names.{is_among, has_twice}
use Rattle.psg_grammar.specs.Keys.{Key, key_cmp, in_order, outward}
use Rattle.psg_scope.specs.declared.header.NameCol.{NameCol}
use Rattle.psg_scope.specs.declared.header.Header.{Header}

-- the space and name, without whether it is declared
abbrev pub key_of : NameCol → Key
key_of c = c.space ∷ c.name

-- the keys of a header's list, in order
abbrev pub keys : List NameCol → List Key
keys cols = map key_of cols

-- whether the key is among them as a declared one
abbrev pub is_declared : List NameCol → Key → Bool
is_declared [] k = false
is_declared (c ∷ cs) k = (c.declared && bytes_eq (key_of c) k) || is_declared cs k

-- the list with an item in front, if the test holds
abbrev pub keep_if : {X : Type 0} → Bool → X → List X → List X
keep_if true x rest = x ∷ rest
keep_if false x rest = rest

-- the keys of the positions that declare
abbrev pub declared_keys : List NameCol → List Key
declared_keys [] = []
declared_keys (c ∷ cs) = keep_if c.declared (key_of c) (declared_keys cs)

-- whether the space is in the list
abbrev pub has_space : List ℕ → ℕ → Bool
has_space spaces s = list_any (λ t. t == s) spaces

-- each is below all after it
abbrev pub AreAscending : List ℕ → Type 0
AreAscending [] = Unit {0}
AreAscending (s ∷ rest) = AllByRecursion (λ t. s < t) rest × AreAscending rest

-- a space and a name
abbrev pub IsKey : Key → Type 0
IsKey [] = ⊥
IsKey (s ∷ n) = Unit {0}

-- The header of a region: these are the keys of its positions and those that pass outward to it, these the declared
-- ones of its positions, each as often as it occurs there, and in these spaces it is unfinished.
pub record IsHeader (names declared : List Key) (unfinished : ℕ → Bool) (h : Header) : Type 0 where
  pub whole : AllByRecursion IsKey names
  pub keys_are : keys h.names ≡ in_order names
  pub declares : (k : Key) → is_declared h.names k ≡ is_among declared k
  pub spaces : (s : ℕ) → has_space h.unfinished s ≡ unfinished s
  pub ascending : AreAscending h.unfinished
  pub repeats : h.twice ≡ has_twice declared

-- each key is below all after it
abbrev pub IsBelow : Key → List Key → Type 0
IsBelow n ks = AllByRecursion (λ m. key_cmp n m ≡ Less) ks

-- The keys ascend strictly, so each is there once.
abbrev pub AreRising : List Key → Type 0
AreRising [] = Unit {0}
AreRising (k ∷ ks) = IsBelow k ks × AreRising ks

-- the keys are in order, each once, and so do the spaces
pub record IsOrdered (h : Header) : Type 0 where
  pub keys_rise : AreRising (keys h.names)
  pub spaces_rise : AreAscending h.unfinished

-- whether both lists declare one key
abbrev pub declare_one : List NameCol → List NameCol → Bool
declare_one [] ys = false
declare_one (x ∷ xs) ys = (x.declared && is_declared ys (key_of x)) || declare_one xs ys

-- The header has the keys of two. A key is declared where one of them declares it, and one is declared twice where one
-- of them says so or both declare it.
pub record IsUnion (left right h : Header) : Type 0 where
  pub keys_are : keys h.names ≡ in_order (keys left.names ++ keys right.names)
  pub declares : (k : Key) → is_declared h.names k ≡ (is_declared left.names k || is_declared right.names k)
  pub spaces : (s : ℕ) → has_space h.unfinished s ≡ (has_space left.unfinished s || has_space right.unfinished s)
  pub spaces_rise : AreAscending h.unfinished
  pub repeats : h.twice ≡ ((left.twice || right.twice) || declare_one left.names right.names)

-- The header has the keys that pass outward: those that are not declared and in whose space the region is finished.
pub record PassesOutward (inside h : Header) : Type 0 where
  pub keys_are : keys h.names ≡ outward (has_space inside.unfinished) (declared_keys inside.names) (keys inside.names)
  pub undeclared : (k : Key) → is_declared h.names k ≡ false
  pub finished : h.unfinished ≡ []
  pub once : h.twice ≡ false

-- the keys are at these places of the list, one after the other
abbrev pub ArePlaces : List NameCol → List ℕ → List Key → Type 0
ArePlaces cols places ks = map (λ p. slice_get (keys cols) p) places ≡ map Some ks

-- one key of two lists, which one of them may declare
abbrev pub both : NameCol → NameCol → NameCol
both x y = record x { declared = x.declared || y.declared }
