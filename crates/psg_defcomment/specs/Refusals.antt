-- The first fault of a definition file that may name a token of comments.
use Rattle.std.specs.Prelude.{ℕ, ◌≡◌, ◌<◌, ◌++◌, Bool, true, false, List, [], ◌∷◌, codes, decimal}
use Rattle.psg_terms.specs.Names.{Name}
use Rattle.psg_grammar.specs.WellFormed.{fixed_words}
use Rattle.psg_grammar.specs.declared.types.Definition.{Definition}
use Rattle.psg_deflines.specs.FaultText.{fault_text}
use Rattle.psg_deflines.specs.declared.fault.DefCode.{DefCode}
use Rattle.psg_deflines.specs.declared.fault.DefCode.TheVariants as codes
use Rattle.psg_deflines.specs.declared.fault.DefFault.{DefFault}
use Rattle.psg_defread.specs.Reading.{IsFaultless, IsReadAs}
use Rattle.psg_defread.specs.Refusals.{Refusal}
use Rattle.psg_comments.specs.Fitting.{IsFit}
use Rattle.psg_defcomment.specs.Plain.{named_in, plain_of}
use Rattle.psg_defcomment.specs.declared.lines.Named.{Named}
use Rattle.psg_defcomment.specs.declared.fault.FileFault.{FileFault}
use Rattle.psg_defcomment.specs.declared.fault.FileFault.TheVariants.{Definition as DefinitionFault}
use Rattle.psg_defcomment.specs.declared.fault.FileFault.TheVariants.{Repeated, Unfit, Memory}

-- the test of the code looks at the meaning of lines, and so follows all tests of form
abbrev pub is_of_meaning : DefCode → Bool
is_of_meaning codes.Repeated = true
is_of_meaning codes.Unknown = true
is_of_meaning codes.Sort = true
is_of_meaning codes.Count = true
is_of_meaning codes.NoEntity = true
is_of_meaning codes.NoGround = true
is_of_meaning codes.OneWide = true
is_of_meaning _ = false

-- two or more lines name a token, and the second of them is this one
abbrev pub IsSecond : List Named → ℕ → Type 0
IsSecond [] line = ⊥
IsSecond (first ∷ []) line = ⊥
IsSecond (first ∷ second ∷ rest) line = line ≡ second.line

-- the fault is one of a line's meaning, and the line is after this one
pub record IsLater (line : ℕ) (fault : DefFault) : Type 0 where
  pub meaning : is_of_meaning fault.code ≡ true
  pub place : line < fault.line

-- The first fault of the bytes: that of the file without its lines on comments, or a second line that names a token;
-- the one of form is first, and of two of meaning the one on the earlier line. Where there is neither, the token does
-- not fit the words of the language.
pub data FileRefusal (bytes : List ℕ) : FileFault → Type 0 where
  of_definition : (fault : DefFault) → Refusal (plain_of bytes) fault
      → ((line : ℕ) → IsSecond (named_in bytes) line → IsLater line fault → ⊥)
      → FileRefusal bytes (DefinitionFault fault)
  named_before : (line : ℕ) (fault : DefFault) → IsSecond (named_in bytes) line → Refusal (plain_of bytes) fault
      → IsLater line fault → FileRefusal bytes (Repeated line)
  named_twice : (line : ℕ) → IsSecond (named_in bytes) line → IsFaultless (plain_of bytes)
      → FileRefusal bytes (Repeated line)
  unfit : (named : Named) (def : Definition) → named_in bytes ≡ named ∷ [] → IsReadAs (plain_of bytes) def
      → (IsFit (fixed_words def) named.token → ⊥) → FileRefusal bytes (Unfit named.line)

-- the line names a token that does not fit these words, or memory ran out
abbrev pub IsUnfit : List Name → Named → FileFault → Type 0
IsUnfit fixed named Memory = Unit {0}
IsUnfit fixed named (Unfit line) = (line ≡ named.line) × (IsFit fixed named.token → ⊥)
IsUnfit fixed named (DefinitionFault fault) = ⊥
IsUnfit fixed named (Repeated line) = ⊥

-- a fault is the first one of the bytes; memory may run out at any time
abbrev pub IsFileFault : List ℕ → FileFault → Type 0
IsFileFault bytes Memory = Unit {0}
IsFileFault bytes (DefinitionFault fault) = FileRefusal bytes (DefinitionFault fault)
IsFileFault bytes (Repeated line) = FileRefusal bytes (Repeated line)
IsFileFault bytes (Unfit line) = FileRefusal bytes (Unfit line)

-- how a fault is printed; nothing is printed when memory runs out
abbrev pub file_fault_text : FileFault → List ℕ
file_fault_text (DefinitionFault fault) = fault_text fault
file_fault_text (Repeated line) = codes "line " ++ (decimal line ++ codes " code 4")
file_fault_text (Unfit line) = codes "line " ++ (decimal line ++ codes " code 14")
file_fault_text Memory = []
