-- The regions around a name, as they are kept while names are gone through in the order of the text.
use Rattle.std.specs.Prelude.{ℕ, zero, suc, ◌≡◌, ◌≤◌, ◌==◌, ◌&&◌, not, Bool, true, false, cond, List, [], ◌∷◌, ◌++◌}
use Rattle.std.specs.Prelude.{length, take, Option, Some, None}
use Rattle.psg_grammar.specs.declared.types.Definition.{Definition}
use Rattle.psg_grammar.specs.Fragments.{Fragment}
use Rattle.psg_grammar.specs.Paths.{Path}
use Rattle.psg_uses.specs.declared.names.Written.{Written}
use Rattle.psg_uses.specs.Regions.{begins_region, declared_of}
use Rattle.psg_links.specs.declared.around.Region.{Region}
use Rattle.psg_links.specs.Links.{first_key}

-- the region that begins at the path
abbrev pub region_by : Definition → Fragment → Path → Region
region_by def f q = record { path = q; declared = declared_of def f q }

abbrev pub regions_at : Definition → Fragment → Path → List Region
regions_at def f q = cond (begins_region def f q) (region_by def f q ∷ []) []

-- those that begin at the first nodes, as many as given, on the way, the outermost first
abbrev pub regions_upto : Definition → Fragment → Path → ℕ → List Region
regions_upto def f p zero = []
regions_upto def f p (suc n) = regions_upto def f p n ++ regions_at def f (take n p)

-- those around the node at the path
abbrev pub regions_around : Definition → Fragment → Path → List Region
regions_around def f p = regions_upto def f p (suc (length p))

-- these are those at the first nodes on the way to some node
pub record IsOnWay (def : Definition) (f : Fragment) (regions : List Region) : Type 0 where
  pub path : Path
  pub many : ℕ
  pub few : many ≤ suc (length path)
  pub are : regions ≡ regions_upto def f path many

abbrev pub regions_of : Option Region → List Region
regions_of None = []
regions_of (Some r) = r ∷ []

-- ---- the last of the regions

abbrev pub is_front : Path → Path → Bool
is_front [] p = true
is_front (k ∷ q) [] = false
is_front (k ∷ q) (m ∷ p) = k == m && is_front q p

-- the last of them is none around the node at the path
abbrev pub is_beside : List Region → Path → Bool
is_beside [] p = false
is_beside (r ∷ []) p = not (is_front r.path p)
is_beside (r ∷ s ∷ rs) p = is_beside (s ∷ rs) p

-- how many of the nodes on the way have been looked at
abbrev pub looked_at : List Region → ℕ
looked_at [] = 0
looked_at (r ∷ []) = suc (length r.path)
looked_at (r ∷ s ∷ rs) = looked_at (s ∷ rs)

-- ---- the innermost region that declares a key

abbrev pub is_there : Option Written → Bool
is_there None = false
is_there (Some d) = true

abbrev pub or_else : Option Written → Option Written → Option Written
or_else (Some d) o = Some d
or_else None o = o

-- the first declaration of the name's key in the last of the regions that has one
abbrev pub first_in : Written → List Region → Option Written
first_in w [] = None
first_in w (r ∷ rs) = or_else (first_in w rs) (first_key w r.declared)
