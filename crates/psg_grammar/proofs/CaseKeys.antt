-- The order of keys: by the names and, for one name, by the space.
use Rattle.std.proofs.Common.{◌≡◌, ℕ, true, false, List, [], ◌∷◌, codes, nat_eq, Less, Equal, Greater, refl}
use Rattle.psg_terms.specs.Names.{is_among, has_twice}
use Rattle.psg_grammar.specs.Keys.{Key, space_of, name_in, key_cmp, insert_key, in_order, outward}

abbrev val : List ℕ → Key
val n = 0 ∷ n

abbrev lab : List ℕ → Key
lab n = 1 ∷ n

parts_of_a_key : (space_of (lab (codes "x")) ≡ 1) × (name_in (lab (codes "x")) ≡ codes "x")
parts_of_a_key = (refl, refl)

-- the names decide, also against the spaces; a name stands before one that goes on from it
names_first : (key_cmp (lab (codes "y")) (val (codes "z")) ≡ Less) × (key_cmp (val (codes "z")) (lab (codes "y")) ≡ Greater)
names_first = (refl, refl)

shorter_first : key_cmp (lab (codes "x")) (val (codes "xa")) ≡ Less
shorter_first = refl

spaces_next : (key_cmp (val (codes "y")) (lab (codes "y")) ≡ Less) × (key_cmp (lab (codes "y")) (lab (codes "y")) ≡ Equal)
spaces_next = (refl, refl)

ordered : List Key
ordered = val (codes "y") ∷ lab (codes "y") ∷ val (codes "z") ∷ []

-- in this order from whichever order, each once
from_uses : in_order (lab (codes "y") ∷ val (codes "z") ∷ val (codes "y") ∷ []) ≡ ordered
unfolding ordered
from_uses = refl

from_behind : in_order (val (codes "z") ∷ lab (codes "y") ∷ val (codes "y") ∷ lab (codes "y") ∷ val (codes "z") ∷ []) ≡ ordered
unfolding ordered
from_behind = refl

put_between : insert_key (lab (codes "y")) (val (codes "y") ∷ val (codes "z") ∷ []) ≡ ordered
unfolding ordered
put_between = refl

-- one name in two spaces is two keys
two_keys : has_twice (val (codes "y") ∷ lab (codes "y") ∷ []) ≡ false
two_keys = refl

twice : has_twice (val (codes "y") ∷ lab (codes "y") ∷ val (codes "y") ∷ []) ≡ true
twice = refl

not_among : is_among (val (codes "y") ∷ []) (lab (codes "y")) ≡ false
not_among = refl

-- what is declared does not pass outward, nor what is of an unfinished space
declared_stays : outward (λ s. false) (val (codes "x") ∷ []) (val (codes "x") ∷ lab (codes "x") ∷ val (codes "y") ∷ []) ≡ lab (codes "x") ∷ val (codes "y") ∷ []
declared_stays = refl

unfinished_stays : outward (λ s. nat_eq s 1) (val (codes "x") ∷ []) (val (codes "x") ∷ lab (codes "x") ∷ val (codes "y") ∷ []) ≡ val (codes "y") ∷ []
unfinished_stays = refl
