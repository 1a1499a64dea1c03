-- Some list is too long where the longest one is.
use Rattle.std.proofs.Common.{◌↔◌, ◌⊎◌, inl, inr, ℕ, ◌<◌, max, length, arith}
use Rattle.std.proofs.lemmas.Bool.{cases_lt}
use Rattle.psg_grammar.specs.Fragments.{Fragment, hole, ending, cell, operator, with_child, with_name, with_number, with_text, anything, observed, children_of}
use Rattle.psg_grammar.specs.Sizes.{HasLongList, longest_of}

one_above : (m a b : ℕ) → m < max a b → (m < a) ⊎ (m < b)
one_above m a b h = elim (cases_lt m a) [ inl k ↦ inl k | inr k ↦ inr (omega (arith, h, k)) ]

longest_is_long : (f : Fragment) → HasLongList f → 4096 < longest_of f
longest_is_long (hole p) h = absurd h
longest_is_long (ending l u) h = absurd h
longest_is_long (cell l e r) (inl h) = omega (arith, h)
longest_is_long (cell l e r) (inr (inl h)) = omega (arith, longest_is_long e h)
longest_is_long (cell l e r) (inr (inr h)) = omega (arith, longest_is_long r h)
longest_is_long (operator o) h = absurd h
longest_is_long (with_child f t) (inl h) = omega (arith, longest_is_long f h)
longest_is_long (with_child f t) (inr h) = omega (arith, longest_is_long t h)
longest_is_long (with_name f n) h = longest_is_long f h
longest_is_long (with_number f n) h = longest_is_long f h
longest_is_long (with_text f t) h = longest_is_long f h
longest_is_long anything h = absurd h
longest_is_long (observed f) h = longest_is_long f h

long_by_longest : (f : Fragment) → 4096 < longest_of f → HasLongList f
long_by_longest (hole p) h = absurd (omega (arith, h))
long_by_longest (ending l u) h = absurd (omega (arith, h))
long_by_longest (cell l e r) h =
    elim (one_above 4096 (length (children_of (cell l e r))) (max (longest_of e) (longest_of r)) h) [
      | inl k ↦ inl k
      | inr k ↦ elim (one_above 4096 (longest_of e) (longest_of r) k) [
        | inl m ↦ inr (inl (long_by_longest e m))
        | inr m ↦ inr (inr (long_by_longest r m))
      ]
    ]
long_by_longest (operator o) h = absurd (omega (arith, h))
long_by_longest (with_child f t) h = elim (one_above 4096 (longest_of f) (longest_of t) h) [
  | inl k ↦ inl (long_by_longest f k)
  | inr k ↦ inr (long_by_longest t k)
]
long_by_longest (with_name f n) h = long_by_longest f h
long_by_longest (with_number f n) h = long_by_longest f h
long_by_longest (with_text f t) h = long_by_longest f h
long_by_longest anything h = absurd (omega (arith, h))
long_by_longest (observed f) h = long_by_longest f h

pub long_lists : (f : Fragment) → HasLongList f ↔ (4096 < longest_of f)
long_lists f = (longest_is_long f, long_by_longest f)
