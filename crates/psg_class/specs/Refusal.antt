-- The first condition that fails, for its first thing and its first token.
use Rattle.std.specs.Prelude.{ℕ, suc, ◌≡◌, ◌<◌, ◌++◌, nat_lt, Bool, false, cond, List, [], ◌∷◌, length}
use Rattle.std.specs.Prelude.{Option, Some, None, codes, decimal, bytes_eq, string_bytes}
use Rattle.std.specs.Cmp.Lexicographic.{slice_cmp}
use Rattle.std.specs.Ordering.{nat_cmp, is_lt}
use Rattle.psg_terms.specs.Names.{Name}
use Rattle.psg_grammar.specs.declared.types.Kind.TheVariants as kinds
use Rattle.psg_grammar.specs.declared.types.Phylum.{Phylum}
use Rattle.psg_grammar.specs.declared.types.Definition.{Definition}
use Rattle.psg_grammar.specs.Kinds.{kind_name_of, op_name_of}
use Rattle.psg_class.specs.declared.fault.ClassFault.{ClassFault}
use Rattle.psg_class.specs.declared.fault.ClassFault.TheVariants as faults
use Rattle.psg_class.specs.Terminals.{Terminal, fixed, a_name, a_number, a_text, a_hole, a_more, stray}
use Rattle.psg_class.specs.Class.{NoFirst, BadForm, NoBracket, MixedLevel, SameFirst, SameLed, LedFollows}
use Rattle.psg_class.specs.Class.{ListEnd, Holds1, Holds2, Holds3, Holds4, Holds5, Holds6, Holds7}

-- ---- the order of tokens: fixed words by their bytes, then names, numbers, texts, placeholders by phylum, `...`

abbrev pub rank : Terminal → ℕ
rank (fixed w) = 0
rank a_name = 1
rank a_number = 2
rank a_text = 3
rank (a_hole p) = 4
rank a_more = 5
rank stray = 6

-- the number of the first phylum of the name
abbrev pub place_of : List Phylum → Name → ℕ
place_of [] n = 0
place_of (p ∷ ps) n = cond (bytes_eq p.name n) 0 (suc (place_of ps n))

-- words by their bytes, placeholders by the first phylum of the name, and else by rank
abbrev pub is_before : Definition → Terminal → Terminal → Bool
is_before def (fixed v) (fixed w) = is_lt (slice_cmp nat_cmp v w)
is_before def (a_hole v) (a_hole w) = nat_lt (place_of def.phyla v) (place_of def.phyla w)
is_before def t u = nat_lt (rank t) (rank u)

-- ---- the first of all that fail

-- it fails for n, and for no lesser number
abbrev pub IsFirst : (ℕ → Type 0) → ℕ → Type 0
IsFirst Fails n = Fails n × ((m : ℕ) → m < n → Fails m → ⊥)

-- it fails for t, and for none that is before t
abbrev pub IsFirstTerminal : Definition → (Terminal → Type 0) → Terminal → Type 0
IsFirstTerminal def Fails t = Fails t × ((u : Terminal) → Fails u → is_before def u t ≡ false)

-- it fails for some token
abbrev pub FailsSome : (ℕ → Terminal → Type 0) → ℕ → Type 0
FailsSome Fails n = (t : Terminal) × Fails n t

-- a kind of token as it is written; a stray one is in no set of tokens
abbrev pub terminal_text : Terminal → List ℕ
terminal_text (fixed w) = w
terminal_text a_name = codes "name"
terminal_text a_number = codes "number"
terminal_text a_text = codes "text"
terminal_text (a_hole p) = 63 ∷ p
terminal_text a_more = codes "..."
terminal_text stray = []

-- the first of the things for which some token fails, with its first token
abbrev pub IsFirstToken : Definition → (ℕ → Terminal → Type 0) → ℕ → List ℕ → Type 0
IsFirstToken def Fails n text =
    IsFirst (FailsSome Fails) n × ((t : Terminal) × IsFirstTerminal def (Fails n) t × (text ≡ terminal_text t))

-- the phylum has two forms at some level
abbrev pub MixesSome : Definition → ℕ → Type 0
MixesSome def p = (level : ℕ) × MixedLevel def p level

-- The fault names the first condition that fails. That memory ran out is no refusal.
abbrev pub IsRefusal : Definition → ClassFault → Type 0
IsRefusal def (faults.NoFirst n) = IsFirst (NoFirst def) n
IsRefusal def (faults.Form n) = Holds1 def × IsFirst (BadForm def) n
IsRefusal def (faults.NoBracket p) = Holds2 def × IsFirst (NoBracket def) p
IsRefusal def (faults.MixedLevel p level) = Holds3 def × IsFirst (MixesSome def) p × IsFirst (MixedLevel def p) level
IsRefusal def (faults.SameFirst p text) = Holds4 def × IsFirstToken def (SameFirst def) p (string_bytes text)
IsRefusal def (faults.SameLed p text) = Holds5 def × IsFirstToken def (SameLed def) p (string_bytes text)
IsRefusal def (faults.LedFollows n text) = Holds6 def × IsFirstToken def (LedFollows def) n (string_bytes text)
IsRefusal def (faults.ListEnd l text) = Holds7 def × IsFirstToken def (ListEnd def) l (string_bytes text)
IsRefusal def faults.Memory = ⊥

-- ---- the text of a fault

abbrev pub name_text : Option Name → List ℕ
name_text None = []
name_text (Some n) = n

abbrev pub operator_text : Definition → ℕ → List ℕ
operator_text def n = name_text (op_name_of def n)

abbrev pub phylum_text : Definition → ℕ → List ℕ
phylum_text def p = name_text (kind_name_of def (kinds.Phylum p))

abbrev pub list_text : Definition → ℕ → List ℕ
list_text def l = name_text (kind_name_of def (kinds.List l))

-- `refused`, and then the condition and the name, each after a space
abbrev pub refused : List ℕ → List ℕ → List ℕ
refused condition name = codes "refused " ++ condition ++ codes " " ++ name

-- the same text, and then the level or the token after a space
abbrev pub refused_with : List ℕ → List ℕ → List ℕ → List ℕ
refused_with condition name last = refused condition name ++ codes " " ++ last

-- the text of each refusal; where memory ran out there is none
abbrev pub fault_text : Definition → ClassFault → List ℕ
fault_text def (faults.NoFirst n) = refused (codes "NoFirst") (operator_text def n)
fault_text def (faults.Form n) = refused (codes "Form") (operator_text def n)
fault_text def (faults.NoBracket p) = refused (codes "NoBracket") (phylum_text def p)
fault_text def (faults.MixedLevel p level) = refused_with (codes "MixedLevel") (phylum_text def p) (decimal level)
fault_text def (faults.SameFirst p text) = refused_with (codes "SameFirst") (phylum_text def p) (string_bytes text)
fault_text def (faults.SameLed p text) = refused_with (codes "SameLed") (phylum_text def p) (string_bytes text)
fault_text def (faults.LedFollows n text) = refused_with (codes "LedFollows") (operator_text def n) (string_bytes text)
fault_text def (faults.ListEnd l text) = refused_with (codes "ListEnd") (list_text def l) (string_bytes text)
fault_text def faults.Memory = []

-- the number of the fault is that of a thing of the definition
abbrev pub IsOf : Definition → ClassFault → Type 0
IsOf def (faults.NoFirst n) = n < length def.operators
IsOf def (faults.Form n) = n < length def.operators
IsOf def (faults.NoBracket p) = p < length def.phyla
IsOf def (faults.MixedLevel p level) = p < length def.phyla
IsOf def (faults.SameFirst p text) = p < length def.phyla
IsOf def (faults.SameLed p text) = p < length def.phyla
IsOf def (faults.LedFollows n text) = n < length def.operators
IsOf def (faults.ListEnd l text) = l < length def.lists
IsOf def faults.Memory = ⊥
