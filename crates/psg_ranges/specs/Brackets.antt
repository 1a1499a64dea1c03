-- Tokens that are brackets around a tree, and how many of them are in a row.
use Rattle.std.specs.Prelude.{ℕ, zero, suc, ◌==◌, cond, Bool, false, List, [], ◌∷◌, Option, Some, None}
use Rattle.std.specs.Prelude.{slice_get}
use Rattle.psg_grammar.specs.declared.types.Kind.{Kind}
use Rattle.psg_grammar.specs.declared.types.Kind.TheVariants as kinds
use Rattle.psg_grammar.specs.declared.types.Phylum.{Phylum}
use Rattle.psg_grammar.specs.declared.types.ListKind.{ListKind}
use Rattle.psg_grammar.specs.declared.types.Definition.{Definition}
use Rattle.psg_class.specs.Terminals.{Token, solo}

-- the token opens a bracket around a tree
abbrev pub is_open : Token → Bool
is_open (solo c) = c == 40
is_open _ = false

-- it closes one
abbrev pub is_close : Token → Bool
is_close (solo c) = c == 41
is_close _ = false

abbrev pub is_open_at : Option Token → Bool
is_open_at None = false
is_open_at (Some t) = is_open t

abbrev pub is_close_at : Option Token → Bool
is_close_at None = false
is_close_at (Some t) = is_close t

-- the first of the tokens closes a bracket
abbrev pub closes_first : List Token → Bool
closes_first [] = false
closes_first (t ∷ ts) = is_close t

-- how many of the first tokens open a bracket
abbrev pub opening : List Token → ℕ
opening [] = 0
opening (t ∷ ts) = cond (is_open t) (suc (opening ts)) 0

-- how many of the first tokens close a bracket, up to the number
abbrev pub closing : ℕ → List Token → ℕ
closing zero ts = 0
closing (suc n) [] = 0
closing (suc n) (t ∷ ts) = cond (is_close t) (suc (closing n ts)) 0

-- ---- which trees may be in brackets

abbrev pub is_bracketed : Option Phylum → Bool
is_bracketed None = false
is_bracketed (Some p) = p.bracketed

-- those of the kind
abbrev pub has_brackets : Definition → Kind → Bool
has_brackets def (kinds.Phylum p) = is_bracketed (slice_get def.phyla p)
has_brackets def (kinds.List l) = false

-- the elements of the list
abbrev pub element_brackets : Definition → Option ListKind → Bool
element_brackets def None = false
element_brackets def (Some l) = is_bracketed (slice_get def.phyla l.element)
