-- A printed text with comments beside its tokens.
use Rattle.std.specs.Prelude.{ℕ, ◌+◌, ◌-◌, ◌==◌, nat_le, max, not, cond, Bool, true, false, List, [], ◌∷◌, ◌++◌}
use Rattle.std.specs.Prelude.{take, drop, length, replicate}
use Rattle.std.specs.List.{flat_map, prefix_len, suffix_len}
use Rattle.psg_lexis.specs.declared.token.Token.{Token}
use Rattle.psg_lexis.specs.declared.token.Token.TheVariants as tokens
use Rattle.psg_lexis.specs.declared.token.Spanned.{Spanned}
use Rattle.psg_commented.specs.Noting.{bytes_between, counts, has_feed, is_feed}
use Rattle.psg_commented.specs.declared.noting.Note.{Note}

-- the token closes a bracket: what is after a token is also after the brackets that close directly after it
abbrev pub closes : Token → Bool
closes (tokens.Solo c) = c == 41
closes _ = false

-- the comment is after that many tokens at most
abbrev pub is_due : ℕ → Note → Bool
is_due seen n = nat_le n.before seen

-- how many of the comments are due before the token, after that many tokens that are counted
abbrev pub due : Token → ℕ → List Note → ℕ
due t seen notes = cond (closes t) 0 (prefix_len (is_due seen) notes)

-- the byte is no line feed
abbrev pub is_other : ℕ → Bool
is_other b = not (is_feed b)

-- how many bytes there are up to the last line feed, and how many after it
abbrev pub after_feed : List ℕ → ℕ
after_feed bytes = length bytes - suffix_len is_other bytes

abbrev pub own_level : List ℕ → ℕ
own_level gap = suffix_len is_other gap

-- The indentation of the line after a gap, where the line before is indented by `level`; and that of comments in the
-- gap, and of the token after them.
abbrev pub level_after : ℕ → List ℕ → ℕ
level_after level gap = cond (has_feed gap) (own_level gap) level

abbrev pub comment_level : ℕ → List ℕ → ℕ
comment_level level gap = cond (has_feed gap) (max level (own_level gap)) (level + 2)

abbrev pub token_level : ℕ → List ℕ → ℕ
token_level level gap = cond (has_feed gap) (own_level gap) (level + 2)

-- a new line that is indented so far
abbrev pub new_line : ℕ → List ℕ
new_line level = 10 ∷ replicate level 32

-- a comment on a line of its own, and comments on such lines
abbrev pub own_line : ℕ → Note → List ℕ
own_line level n = new_line level ++ n.text

abbrev pub on_lines : ℕ → List Note → List ℕ
on_lines level notes = flat_map (own_line level) notes

-- what is before a comment after a token: a space, or a new line
abbrev pub lead : ℕ → Bool → List ℕ
lead level true = 32 ∷ []
lead level false = new_line level

-- the comments, of which the first may be on the line of the token before
abbrev pub behind_token : ℕ → List Note → List ℕ
behind_token level [] = []
behind_token level (n ∷ notes) = lead level n.trails ++ (n.text ++ on_lines level notes)

-- what is between two tokens
abbrev pub gap_with : ℕ → List ℕ → List Note → List ℕ
gap_with level gap [] = gap
gap_with level gap (n ∷ notes) =
    behind_token (comment_level level gap) (n ∷ notes) ++ new_line (token_level level gap)

-- a comment before the first token, and comments there, each on a line of its own
abbrev pub head_line : Note → List ℕ
head_line n = n.text ++ (10 ∷ [])

abbrev pub heads : List Note → List ℕ
heads notes = flat_map head_line notes

module _ (text : List ℕ) where
  -- The token with what is before it: the text from the byte `from` on is not printed yet, that many tokens that are
  -- counted are before the token, and the line is indented by `level`.
  abbrev pub token_with : ℕ → ℕ → ℕ → Spanned → List Note → List ℕ
  token_with from seen level t notes =
      gap_with level (bytes_between text from t.start) (take (due t.token seen notes) notes)
      ++ bytes_between text t.start t.end

  -- the text from the byte `from` on: these tokens, with the comments in their gaps, and the others after the last one
  abbrev pub printed_from : ℕ → ℕ → ℕ → List Spanned → List Note → List ℕ
  printed_from from seen level [] notes = behind_token 0 notes ++ (10 ∷ [])
  printed_from from seen level (t ∷ ts) notes =
      token_with from seen level t notes
      ++ printed_from t.end (seen + cond (counts t) 1 0) (level_after level (bytes_between text from t.start)) ts
      (drop (due t.token seen notes) notes)

  -- the whole text, with the comments before its first token in front; where there is no token, the comments alone
  abbrev pub with_notes : List Spanned → List Note → List ℕ
  with_notes [] notes = heads notes
  with_notes (t ∷ ts) notes =
      heads (take (prefix_len (is_due 0) notes) notes)
      ++ printed_from 0 0 0 (t ∷ ts) (drop (prefix_len (is_due 0) notes) notes)
