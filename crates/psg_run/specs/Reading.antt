-- What a run reads: files, and the definition that bytes are.
use Rattle.std.specs.Prelude.{ℕ, ◌≡◌, ◌<◌, ◌≤◌, List, Option, length}
use Rattle.psg_terms.specs.Names.{Name}
use Rattle.psg_grammar.specs.declared.types.Definition.{Definition}
use Rattle.psg_grammar.specs.WellFormed.{fixed_words}
use Rattle.psg_defcomment.specs.Plain.{named_in, plain_of}
use Rattle.psg_defcomment.specs.Reading.{AreFit, IsCommented, comment_of}
use Rattle.psg_defcomment.specs.Refusals.{FileRefusal, file_fault_text}
use Rattle.psg_defcomment.specs.declared.fault.FileFault.{FileFault}
use Rattle.psg_specimen.specs.Refusal.{IsRefusal, IsAccepted as IsAcceptable}
use Rattle.psg_specimen.specs.Texts.{refusal_text}
use Rattle.psg_specimen.specs.declared.fault.AcceptFault.{AcceptFault}
use Rattle.psg_deflines.specs.FaultText.{fault_text}
use Rattle.psg_deflines.specs.declared.fault.DefFault.{DefFault}
use Rattle.psg_defread.specs.Reading.{IsReadAs, Spells}
use Rattle.psg_defread.specs.Refusals.{Refusal}
use Rattle.psg_session.specs.Replies.{feed}
use Rattle.psg_run.specs.declared.status.Status.{Status}
use Rattle.psg_run.specs.declared.status.Status.TheVariants as ends_with
use Rattle.psg_run.specs.Worlds.{Act, AreBytes, Puts, World, with_failed_read}

-- the most bytes that a definition may have
abbrev pub most_definition_bytes : ℕ
most_definition_bytes = 1048576

-- the most bytes that a script may have
abbrev pub most_script_bytes : ℕ
most_script_bytes = 4194304

-- The bytes, which name no token of comments, are read as the definition and as no other, and no condition of
-- acceptance fails.
pub record IsPlainlyAccepted (bytes : List ℕ) (def : Definition) : Type 0 where
  pub read : IsReadAs bytes def
  pub only : (other : Definition) → Spells bytes other → other ≡ def
  pub accepted : IsAcceptable def

-- The bytes, which name no token of comments, are no definition, and the line names their first fault; or they are only
-- one, which is not accepted, and the line names the first condition that fails.
pub data IsRefusalLine (bytes line : List ℕ) : Type 0 where
  no_definition : (fault : DefFault) → Refusal bytes fault → line ≡ fault_text fault → IsRefusalLine bytes line
  not_accepted : (def : Definition) (fault : AcceptFault) → IsReadAs bytes def
      → ((other : Definition) → Spells bytes other → other ≡ def) → IsRefusal def fault
      → line ≡ refusal_text def fault → IsRefusalLine bytes line

-- The bytes without their lines on comments are read as the definition and as no other, the token of comments fits it,
-- and no condition of acceptance fails.
pub record IsAccepted (bytes : List ℕ) (def : Definition) : Type 0 where
  pub read : IsReadAs (plain_of bytes) def
  pub fit : AreFit (fixed_words def) (named_in bytes)
  pub only : (other : Definition) → Spells (plain_of bytes) other → other ≡ def
  pub accepted : IsAcceptable def

-- The bytes are no definition, also without their lines on comments, and the line names their first fault; or they are
-- only one, which is not accepted, and the line names the first condition that fails.
pub data IsFileRefusalLine (bytes line : List ℕ) : Type 0 where
  no_file : (fault : FileFault) → FileRefusal bytes fault → line ≡ file_fault_text fault → IsFileRefusalLine bytes line
  not_acceptable : (def : Definition) (fault : AcceptFault) → IsCommented bytes def
      → ((other : Definition) → Spells (plain_of bytes) other → other ≡ def) → IsRefusal def fault
      → line ≡ refusal_text def fault → IsFileRefusalLine bytes line

module _ (file : Name) (limit : ℕ) (Next : List ℕ → Act) where
  -- The file is read, and the run goes on with its bytes. Or it ends here: the read failed, and added its entry; or
  -- the file is too long; or memory ran out. Nothing else happened then.
  pub data Reads (old new : World) : Status → Type 0 where
    is_read : {status : Status} (bytes : List ℕ) → AreBytes old file bytes → length bytes ≤ limit
        → Next bytes old new status → Reads old new status
    is_unread : new ≡ with_failed_read old file → Reads old new ends_with.ReadFault
    is_long : (bytes : List ℕ) → AreBytes old file bytes → limit < length bytes → new ≡ old
        → Reads old new ends_with.TooLong
    no_room_for_file : new ≡ old → Reads old new ends_with.Memory

module _ (bytes : List ℕ) (Next : Definition → Act) where
  -- The bytes are an accepted definition, and the run goes on with it. Or it ends here: they are none, and the line
  -- that says why is put; or memory ran out, and nothing else happened.
  pub data Defines (old new : World) : Status → Type 0 where
    is_accepted : {status : Status} (def : Definition) → IsAccepted bytes def → Next def old new status
        → Defines old new status
    is_refused : {status : Status} (line : List ℕ) → IsFileRefusalLine bytes line
        → Puts (feed line) ends_with.DefinitionRefused old new status → Defines old new status
    no_room_for_definition : new ≡ old → Defines old new ends_with.Memory

-- the file of a definition is read, and the run goes on with the definition
abbrev pub OnDefinition : Name → (Definition → Act) → Act
OnDefinition file Next = Reads file most_definition_bytes (λ bytes. Defines bytes Next)

-- the same, and it goes on with the token of comments too, if the file names one
abbrev pub OnCommented : Name → (Option Name → Definition → Act) → Act
OnCommented file Next = Reads file most_definition_bytes (λ bytes. Defines bytes (Next (comment_of bytes)))

-- A run goes on with nothing: what a call does that ends here, whatever the run would go on with.
abbrev pub Nowhere : Act
Nowhere old new status = ⊥
