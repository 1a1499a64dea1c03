-- Keys, each a space and a name, and lists of them in order.
use Rattle.std.specs.Prelude.{ℕ, Bool, cond, ◌||◌, List, [], ◌∷◌}
use Rattle.std.specs.Cmp.Lexicographic.{slice_cmp}
use Rattle.std.specs.Ordering.{nat_cmp}
use Rattle.std.specs.declared.cmp.Ordering.{Ordering}
use Rattle.std.specs.declared.cmp.Ordering.TheVariants.{Less, Equal, Greater}
use Rattle.psg_terms.specs.Names.{Name, is_among}

-- A key is a list: the number of its space, and after it the bytes of its name. So what is said of names is true of
-- keys too.
abbrev pub Key : Type 0
Key = List ℕ

-- the number of the key's space
abbrev pub space_of : Key → ℕ
space_of [] = 0
space_of (s ∷ n) = s

-- the bytes of the key's name
abbrev pub name_in : Key → Name
name_in [] = []
name_in (s ∷ n) = n

-- the first order, and the second one if the first says equal
abbrev pub then_by : Ordering → Ordering → Ordering
then_by Less second = Less
then_by Equal second = second
then_by Greater second = Greater

-- Keys are ordered by the bytes of their names, and those of one name by the numbers of their spaces. The order of the
-- lists themselves is another one: it has all names of one space together.
abbrev pub key_cmp : Key → Key → Ordering
key_cmp n m = then_by (slice_cmp nat_cmp (name_in n) (name_in m)) (nat_cmp (space_of n) (space_of m))

-- the key n put into an ascending list that begins with m, by their order; if they are equal, it is not put again
abbrev pub placed : Ordering → Key → Key → List Key → List Key → List Key
placed Less n m rest more = n ∷ m ∷ rest
placed Equal n m rest more = m ∷ rest
placed Greater n m rest more = m ∷ more

-- the key at its place in the order, if it isn't there
abbrev pub insert_key : Key → List Key → List Key
insert_key n [] = n ∷ []
insert_key n (m ∷ rest) = placed (key_cmp n m) n m rest (insert_key n rest)

-- in order, each once
abbrev pub in_order : List Key → List Key
in_order [] = []
in_order (n ∷ ns) = insert_key n (in_order ns)

-- the keys that aren't declared and in whose space the region isn't unfinished
abbrev pub outward : (ℕ → Bool) → List Key → List Key → List Key
outward unfinished declared [] = []
outward unfinished declared (n ∷ ns) =
    cond (unfinished (space_of n) || is_among declared n) (outward unfinished declared ns)
    (n ∷ outward unfinished declared ns)
