-- Laws of the places between lines, and of tables that are read.
use Rattle.std.proofs.Common.{◌≡◌, inl, inr, ℕ, ◌+◌, ◌-◌, Bool, true, false, List, [], ◌∷◌, ◌++◌, length, take, get_or, sym, ap, ◌∙◌, subst, Some, arith}
use Rattle.std.specs.Prelude.{◌||◌, min, nat_le, reverse, slice_get}
use Rattle.std.proofs.lemmas.Bool.{cases_lt}
use Rattle.std.proofs.lemmas.List.{take_more}
use Rattle.std.proofs.lemmas.Option.{get_or_from_slice_get, slice_get_within}
use Rattle.psg_keeping.specs.declared.pairing.Step.{Step}
use Rattle.psg_keeping.specs.Moving.{AreAfters, after_partner, before_partner, is_paired, is_paired_next, near_end, news, olds, place_between}
use Rattle.psg_keeping.specs.Rows.{new_in, old_in}
use Rattle.psg_keeping.specs.Moving.{last_of}
use Rattle.std.specs.Prelude.{replicate}
use Rattle.psg_keeping.proofs.MoveLaws.{IsAfter, after_beyond, after_step, olds_reverse}

pub between_early : (lines : List Bool) (late : Bool) (from to most k : ℕ) → late ≡ false → most ≡ to - from
    → k ≡ near_end lines from most → from + k ≡ place_between lines late from to
between_early lines late from to most k t m e =
    ap (λ n. from + n) (e ∙ ap (λ n. near_end lines from n) m) ∙ sym (ap (λ b. place_between lines b from to) t)

pub between_late : (lines back : List Bool) (late : Bool) (from to most skip k : ℕ) → late ≡ true
    → back ≡ reverse lines → most ≡ to - from → skip ≡ length lines - 1 - to → k ≡ near_end back skip most
    → to - k ≡ place_between lines late from to
between_late lines back late from to most skip k t b m s e =
    ap (λ n. to - n) (e ∙ ap (λ z. near_end z skip most) b ∙ ap (λ n. near_end (reverse lines) n most) s
    ∙ ap (λ n. near_end (reverse lines) (length lines - 1 - to) n) m)
    ∙ sym (ap (λ z. place_between lines z from to) t)

-- ---- the tables

pub place_is : (own : List Step) (places : List ℕ) (count at r : ℕ) → AreAfters own places → at ≡ min count (length places - 1)
    → r ≡ get_or places at 0 → r ≡ after_partner count own
place_is own places count at r a e v = elim (cases_lt (olds own) count) [
  | inl l ↦
      let here : at ≡ olds own = omega (arith, e, a.size, l) in
      v ∙ ap (λ n. get_or places n 0) here ∙ a.each (olds own) (omega arith) ∙ sym (after_beyond count own (omega (arith, l)))
  | inr l ↦
      let here : at ≡ count = omega (arith, e, a.size, l) in
      v ∙ ap (λ n. get_or places n 0) here ∙ a.each count l
]

pub before_is : (own : List Step) (places : List ℕ) (count left r all : ℕ) → AreAfters (reverse own) places → all ≡ news own
    → left ≡ length places - 1 - count → r ≡ after_partner left (reverse own) → all - r ≡ before_partner count own
before_is own places count left r all a n e v =
    let same : left ≡ olds own - count = omega (arith, e, a.size, olds_reverse own) in
    ap (λ k. k - r) n ∙ ap (λ k. news own - k) (v ∙ ap (λ k. after_partner k (reverse own)) same)

pub next_is : (own : List Step) (places : List ℕ) (count left all : ℕ) (paired : Bool) → AreAfters (reverse own) places
    → all ≡ length places - 1 → left ≡ all - count → paired ≡ is_paired left (reverse own)
    → (paired || nat_le all count) ≡ is_paired_next count own
next_is own places count left all paired a n l e =
    let size : all ≡ olds own = omega (arith, n, a.size, olds_reverse own) in
    ap (λ p. p || nat_le all count) (e ∙ ap (λ k. is_paired k (reverse own)) l)
    ∙ ap (λ k. is_paired (k - count) (reverse own) || nat_le k count) size

-- ---- the walk along the steps

pub walk_step : (own : List Step) (i : ℕ) (places places' : List ℕ) (s : Step) (seen seen' last last' : ℕ)
    → IsAfter (take i own) places seen last → slice_get own i ≡ Some s → seen' ≡ seen + new_in s → last' ≡ last_of s seen' last
    → places' ≡ places ++ replicate (old_in s) last' → IsAfter (take (i + 1) own) places' seen' last'
walk_step own i places places' s seen seen' last last' a at es el ep =
    subst (λ p. IsAfter p places' seen' last')
    (sym (take_more own i s (slice_get_within own i s at) ∙ ap (λ z. take i own ++ z ∷ []) (get_or_from_slice_get own i s s at)))
    (after_step (take i own) places places' s seen seen' last last' a es el ep)

pub walk_end : (own : List Step) (i : ℕ) (places : List ℕ) (seen last : ℕ) → IsAfter (take i own) places seen last
    → take i own ≡ own → IsAfter own places seen last
walk_end own i places seen last a e = subst (λ p. IsAfter p places seen last) e a
