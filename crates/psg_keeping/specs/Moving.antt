-- Where the comments of a text go in a new one.
use Rattle.std.specs.Prelude.{ℕ, ◌≡◌, ◌≤◌, ◌+◌, ◌-◌, ◌||◌, max, min, nat_le, nat_lt}
use Rattle.std.specs.Prelude.{not, cond, Bool, true, false, zero, suc, List, [], ◌∷◌}
use Rattle.std.specs.Prelude.{length, get_or, drop, take, reverse, position, unwrap_or}
use Rattle.psg_commented.specs.declared.noting.Note.{Note}
use Rattle.psg_keeping.specs.declared.pairing.Step.{Step}
use Rattle.psg_keeping.specs.declared.pairing.Step.TheVariants as steps

-- how many tokens of the old list, and of the new one, the steps take
abbrev pub olds : List Step → ℕ
olds [] = 0
olds (steps.Both ∷ more) = suc (olds more)
olds (steps.Old ∷ more) = suc (olds more)
olds (steps.New ∷ more) = olds more

abbrev pub news : List Step → ℕ
news [] = 0
news (steps.Both ∷ more) = suc (news more)
news (steps.Old ∷ more) = news more
news (steps.New ∷ more) = suc (news more)

-- one more, but for none
abbrev pub one_more : ℕ → ℕ
one_more zero = 0
one_more (suc count) = suc (suc count)

-- how many new tokens there are up to the partner of the last paired one of the first `count` old tokens; none, where
-- none of those is paired
abbrev pub after_partner : ℕ → List Step → ℕ
after_partner zero own = 0
after_partner (suc count) [] = 0
after_partner (suc count) (steps.Both ∷ more) = 1 + after_partner count more
after_partner (suc count) (steps.Old ∷ more) = after_partner count more
after_partner (suc count) (steps.New ∷ more) = one_more (after_partner (suc count) more)

-- how many new tokens there are before the partner of the first paired one of the old tokens after the first `count`;
-- all, where none of those is paired: the same, seen from the end
abbrev pub before_partner : ℕ → List Step → ℕ
before_partner count own = news own - after_partner (olds own - count) (reverse own)

-- how far from the place `skip` the first end of a line is, where it is not farther than `most`, and 0 otherwise
abbrev pub near_end : List Bool → ℕ → ℕ → ℕ
near_end lines skip most = min (unwrap_or (position (λ line. line) (take (most + 1) (drop skip lines))) 0) most

-- the last of the first `count` old tokens is paired
abbrev pub is_paired : ℕ → List Step → Bool
is_paired count own = nat_lt (after_partner (count - 1) own) (after_partner count own)

-- the first of the old tokens after the first `count` is paired, or there is none: the same, seen from the end
abbrev pub is_paired_next : ℕ → List Step → Bool
is_paired_next count own = is_paired (olds own - count) (reverse own) || nat_le (olds own) count

-- a place between two places: the last one there at which a line ends, or the first one; where there is none, the last
-- of the places, or the first one
abbrev pub place_between : List Bool → Bool → ℕ → ℕ → ℕ
place_between lines true from to = to - near_end (reverse lines) (length lines - 1 - to) (to - from)
place_between lines false from to = from + near_end lines from (to - from)

-- the comment goes with the tokens after it: it is one on a line of its own, and the next token is paired or there is
-- none; or one after a token on its line that is not paired
abbrev pub is_late : List Step → Note → Bool
is_late own n = cond n.trails (not (is_paired n.before own)) (is_paired_next n.before own)

-- How many new tokens are before the comment, where no other comment is: between the partner of the last paired token
-- before it and that of the first one after it. `lines` says for each number of new tokens whether a line ends after
-- them; one does before the first token.
abbrev pub goes : List Step → List Bool → Note → ℕ
goes own lines n =
    place_between lines (is_late own n) (after_partner n.before own) (before_partner n.before own)

-- the comment with so many tokens before it
abbrev pub placed : ℕ → Note → Note
placed count n = record { before = count; trails = n.trails; text = n.text }

-- the comments beside the new tokens, each with `low` tokens before it at least, and none before the one before it
abbrev pub moved : ℕ → List Step → List Bool → List Note → List Note
moved low own lines [] = []
moved low own lines (n ∷ notes) =
    placed (max low (goes own lines n)) n ∷ moved (max low (goes own lines n)) own lines notes

-- how many new tokens there are up to the last partner after a step, where `seen` are up to its end
abbrev pub last_of : Step → ℕ → ℕ → ℕ
last_of steps.Both seen last = seen
last_of steps.Old seen last = last
last_of steps.New seen last = last

-- for each number of old tokens, how many new ones there are up to the partner of the last paired one of them
pub record AreAfters (own : List Step) (places : List ℕ) : Type 0 where
  pub size : length places ≡ olds own + 1
  pub each : (count : ℕ) → count ≤ olds own → get_or places count 0 ≡ after_partner count own
