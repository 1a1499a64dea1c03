-- The messages for a text that is no program.
use Rattle.std.specs.Prelude.{ℕ, ◌≡◌, List, [], ◌∷◌, ◌++◌, Option, Some, None, codes, slice_get, slice_range}
use Rattle.psg_grammar.specs.declared.types.Definition.{Definition}
use Rattle.psg_class.specs.Texts.{TextTokens}
use Rattle.psg_lexis.specs.declared.token.Spanned.{Spanned}
use Rattle.psg_lexis.specs.declared.token.LexFault.{LexFault}
use Rattle.psg_lexis.specs.declared.token.LexFault.TheVariants as faults
use Rattle.psg_program.specs.Expected.{in_backquotes}

-- ---- a text without tokens

-- the byte at which it is reported
abbrev pub byte_of : LexFault → ℕ
byte_of (faults.BadChar byte) = byte
byte_of (faults.BadRun byte) = byte
byte_of (faults.Unended byte) = byte
byte_of (faults.TooLarge byte) = byte
byte_of faults.Memory = 0

abbrev pub lexical_message : LexFault → List ℕ
lexical_message (faults.BadChar byte) = codes "no token begins with this character"
lexical_message (faults.BadRun byte) = codes "this is no token of the language"
lexical_message (faults.Unended byte) = codes "the text is not closed on its line"
lexical_message (faults.TooLarge byte) = codes "the token is too long"
lexical_message faults.Memory = []

-- ---- tokens without a tree

-- the end of the last token, or the byte where there is none
abbrev pub end_of_last : ℕ → List Spanned → ℕ
end_of_last byte [] = byte
end_of_last byte (t ∷ ts) = end_of_last t.end ts

abbrev pub start_or : Option Spanned → ℕ → ℕ
start_or None byte = byte
start_or (Some t) byte = t.start

-- the byte of the stop: where its token begins, or where the last token ends
abbrev pub stop_byte : List Spanned → ℕ → ℕ
stop_byte ts stop = start_or (slice_get ts stop) (end_of_last 0 ts)

-- the token, if there is one, has the bytes of a token of the text
abbrev pub HasSpan : List ℕ → Option Spanned → Type 0
HasSpan text None = Unit {0}
HasSpan text (Some t) = (def : Definition) × (tokens : List Spanned) × TextTokens def text tokens × (place : ℕ)
    × (own : Spanned) × (slice_get tokens place ≡ Some own) × (own.start ≡ t.start) × (own.end ≡ t.end)

-- what is there, as it is written in the text
abbrev pub unexpected : List ℕ → Option Spanned → List ℕ
unexpected text None = codes "end of the text"
unexpected text (Some t) = in_backquotes (slice_range text t.start t.end)

-- each word after a comma and a space
abbrev pub after_commas : List (List ℕ) → List ℕ
after_commas [] = []
after_commas (word ∷ words) = codes ", " ++ (word ++ after_commas words)

-- the words with commas and spaces between them
abbrev pub enumerated : List (List ℕ) → List ℕ
enumerated [] = []
enumerated (word ∷ words) = word ++ after_commas words

-- the message for a stop of the text's tokens, where these words may be there
abbrev pub stop_message : List ℕ → List Spanned → ℕ → List (List ℕ) → List ℕ
stop_message text ts stop words =
    codes "unexpected " ++ (unexpected text (slice_get ts stop) ++ (codes ", expected " ++ enumerated words))

-- ---- the others

abbrev pub no_utf8_message : List ℕ
no_utf8_message = codes "this is no UTF-8"

abbrev pub deep_message : List ℕ
deep_message = codes "the program is too deep"

abbrev pub large_message : List ℕ
large_message = codes "the program is too large"
