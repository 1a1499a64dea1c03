-- Comments beside the tokens of their text.
use Rattle.std.specs.Prelude.{ℕ, ◌==◌, ◌||◌, ◌-◌, nat_le, not, Bool, true, false, List, [], ◌∷◌}
use Rattle.std.specs.Prelude.{take, drop, length, map, count_by}
use Rattle.std.specs.Char.{is_ascii_whitespace}
use Rattle.std.specs.List.{list_any, prefix_len, suffix_len}
use Rattle.psg_lexis.specs.declared.token.Token.{Token}
use Rattle.psg_lexis.specs.declared.token.Token.TheVariants as tokens
use Rattle.psg_lexis.specs.declared.token.Spanned.{Spanned}
use Rattle.psg_comments.specs.declared.finding.Comment.{Comment}
use Rattle.psg_commented.specs.declared.noting.Note.{Note}

-- the token is counted: it is no round bracket
abbrev pub is_counted : Token → Bool
is_counted (tokens.Solo c) = not ((c == 40) || (c == 41))
is_counted _ = true

abbrev pub counts : Spanned → Bool
counts t = is_counted t.token

-- the token ends before the place
abbrev pub ends_by : ℕ → Spanned → Bool
ends_by place t = nat_le t.end place

-- how many of the tokens end before the place, where they are in order
abbrev pub ended_by : List Spanned → ℕ → ℕ
ended_by ts place = prefix_len (ends_by place) ts

-- the end of the last of the tokens, or the place where there is none
abbrev pub end_of_last : ℕ → List Spanned → ℕ
end_of_last place [] = place
end_of_last place (t ∷ ts) = end_of_last t.end ts

-- the bytes of the text from one place up to another
abbrev pub bytes_between : List ℕ → ℕ → ℕ → List ℕ
bytes_between text from to = take (to - from) (drop from text)

-- the byte is a line feed
abbrev pub is_feed : ℕ → Bool
is_feed b = b == 10

-- one of the bytes is a line feed
abbrev pub has_feed : List ℕ → Bool
has_feed bytes = list_any is_feed bytes

-- one of these tokens, which are those before the place, is on its line
abbrev pub trails_after : List ℕ → ℕ → List Spanned → Bool
trails_after text place [] = false
trails_after text place (t ∷ ts) = not (has_feed (bytes_between text (end_of_last t.end ts) place))

-- the bytes without the blanks at their end
abbrev pub trimmed : List ℕ → List ℕ
trimmed bytes = take (length bytes - suffix_len is_ascii_whitespace bytes) bytes

-- the comment of the text, beside the tokens of the text
abbrev pub note_of : List ℕ → List Spanned → Comment → Note
note_of text ts c = record {
  before = count_by counts (take (ended_by ts c.start) ts);
  trails = trails_after text c.start (take (ended_by ts c.start) ts);
  text = trimmed (bytes_between text c.start c.end);
}

-- the comments of the text, beside its tokens
abbrev pub notes_of : List ℕ → List Spanned → List Comment → List Note
notes_of text ts comments = map (note_of text ts) comments
