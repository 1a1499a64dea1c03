-- The tokens of a text as they are read, and placeholders that take the place of some.
use Rattle.std.specs.Prelude.{ℕ, suc, nat_lt, Bool, true, false, cond, List, [], ◌∷◌, take, bytes_eq, slice_get}
use Rattle.psg_terms.specs.Names.{Name}
use Rattle.psg_grammar.specs.declared.types.Phylum.{Phylum}
use Rattle.psg_grammar.specs.declared.types.Definition.{Definition}
use Rattle.psg_lexis.specs.declared.token.Spanned.{Spanned}
use Rattle.psg_class.specs.Terminals.{Token, placeholder}
use Rattle.psg_places.specs.Places.{declares}
use Rattle.psg_program.specs.Messages.{end_of_last, start_or}

-- ---- the tokens as they are read

-- The name is that of a phylum that declares; the first of the phyla has the number p.
abbrev pub is_declaring_name : Definition → ℕ → List Phylum → Name → Bool
is_declaring_name def p [] name = false
is_declaring_name def p (phylum ∷ phyla) name =
    cond (bytes_eq phylum.name name) (declares def p) (is_declaring_name def (suc p) phyla name)

-- A placeholder of a phylum that declares is that of none: the language has no such placeholder.
abbrev pub own_token : Definition → Token → Token
own_token def (placeholder name) = placeholder (cond (is_declaring_name def 0 def.phyla name) [] name)
own_token def t = t

-- The tokens as they are read, at the same bytes.
abbrev pub own_spanned : Definition → Spanned → Spanned
own_spanned def t = record { token = own_token def t.token; start = t.start; end = t.end }

-- ---- placeholders that take the place of tokens

-- where the token of the number begins, or where the last one ends
abbrev pub start_at : List Spanned → ℕ → ℕ
start_at ts n = start_or (slice_get ts n) (end_of_last 0 ts)

-- where the placeholder begins: at the first token that is passed over, or at the next one
abbrev pub resumed_byte : List Spanned → ℕ → ℕ → ℕ
resumed_byte ts i j = cond (nat_lt i j) (start_at ts i) (start_at ts j)

-- where it ends: with the last that is passed over
abbrev pub resumed_end : List Spanned → ℕ → ℕ → ℕ
resumed_end ts i j = cond (nat_lt i j) (end_of_last 0 (take j ts)) (start_at ts j)

-- the placeholder with the name, in place of the tokens from i on up to j
abbrev pub stand_in : List Spanned → ℕ → ℕ → Name → Spanned
stand_in ts i j name =
    record { token = placeholder name; start = resumed_byte ts i j; end = resumed_end ts i j }
