-- How often a key occurs in a list.
use Rattle.std.specs.Prelude.{ℕ, ◌+◌, Bool, cond, List, [], ◌∷◌, bytes_eq}
use Rattle.psg_grammar.specs.Keys.{Key}

-- 1 where it is true
abbrev pub one_if : Bool → ℕ
one_if b = cond b 1 0

-- how many keys pass the test
abbrev pub tally : (Key → Bool) → List Key → ℕ
tally p [] = 0
tally p (x ∷ xs) = one_if (p x) + tally p xs

-- how often the key occurs
abbrev pub count : Key → List Key → ℕ
count m xs = tally (λ x. bytes_eq x m) xs
