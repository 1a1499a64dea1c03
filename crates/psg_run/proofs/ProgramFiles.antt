-- Runs that look up a kind, and what they tell of a program file.
use Rattle.std.proofs.Common.{◌≡◌, ℕ, Bool, true, false, List, [], ◌++◌, sym, subst}
use Rattle.std.specs.Prelude.{Option, Some, None, IsUtf8, codes, string_bytes}
use Rattle.psg_terms.specs.Names.{Name}
use Rattle.psg_grammar.specs.declared.types.Definition.{Definition}
use Rattle.psg_grammar.specs.declared.types.Kind.{Kind}
use Rattle.psg_grammar.specs.Fragments.{Fragment}
use Rattle.psg_program.specs.declared.fault.ProgramFault.TheVariants.{Syntax}
use Rattle.psg_program.specs.declared.fault.SyntaxError.{SyntaxError}
use Rattle.psg_program.specs.Decoding.{unmarked}
use Rattle.psg_program.specs.Formatted.{IsFirstDifference}
use Rattle.psg_program.specs.Programs.{IsProgram, IsProgramFault}
use Rattle.psg_session.specs.Replies.{feed}
use Rattle.psg_run.specs.declared.status.Status.{Status}
use Rattle.psg_run.specs.declared.status.Status.TheVariants as ends_with
use Rattle.psg_run.specs.Formatting.{IsFormatCheck, IsTold, IsWanted, OnKind, error_line, is_as_it_is_to_be, is_declaring, is_faulty, is_formatted, is_kind, is_no_program, is_not_formatted, is_unknown}
use Rattle.psg_comments.specs.declared.finding.Comment.{Comment}
use Rattle.psg_run.specs.Reading.{Nowhere}
use Rattle.psg_run.specs.Without.{IsWithout, is_text, no_text}
use Rattle.psg_run.specs.Worlds.{Act, World}

-- a run that ends at the kind ends there whatever it would go on with
pub kinds_on : (def : Definition) (name : Name) (Next : Kind → Act) (old new : World) (status : Status)
    → OnKind def name (λ _. Nowhere) old new status → OnKind def name Next old new status
kinds_on def name Next old new status (is_kind kind named quiet never) = absurd never
kinds_on def name Next old new status (is_unknown none puts) = is_unknown none puts
kinds_on def name Next old new status (is_declaring kind named declares puts) = is_declaring kind named declares puts

module _ (def : Definition) (comment : Option Name) (file : Name) (kind : Kind) (bytes : List ℕ) (comments : List Comment) (own : List ℕ) where
  abbrev told : Bool → List ℕ → Status → Type 0
  told = IsTold def comment file kind bytes comments own

  abbrev checked : List ℕ → Status → Type 0
  checked = IsFormatCheck def comment file kind bytes comments own

  -- why the bytes are no program
  pub fault_told : (checks : Bool) (e : SyntaxError) (text : List ℕ) → IsProgramFault def kind own (Syntax e)
      → text ≡ feed (error_line file e.place.line e.place.column (string_bytes e.message))
      → IsTold def comment file kind bytes comments own checks text ends_with.Wrong
  fault_told false e text faulty is =
      subst (λ t. told false t ends_with.Wrong) (sym is)
      (is_faulty e.place.line e.place.column (string_bytes e.message) faulty)
  fault_told true e text faulty is =
      subst (λ t. told true t ends_with.Wrong) (sym is)
      (is_no_program e.place.line e.place.column (string_bytes e.message) faulty)

  module _ (f : Fragment) (program : IsProgram def kind own f) (wanted : List ℕ) (is : IsWanted def comment bytes comments own f wanted) where
    pub formatted_told : IsTold def comment file kind bytes comments own false wanted ends_with.Done
    formatted_told = is_formatted f wanted program is

    pub same_told : (text : List ℕ) → text ≡ [] → bytes ≡ wanted
        → IsFormatCheck def comment file kind bytes comments own text ends_with.Done
    same_told text none same =
        subst (λ t. checked t ends_with.Done) (sym none)
        (is_as_it_is_to_be f program (subst (λ w. IsWanted def comment bytes comments own f w) (sym same) is))

    pub difference_told : (line : ℕ) (here text : List ℕ) → IsFirstDifference bytes wanted line here
        → text ≡ feed (error_line file line 1 (codes "not formatted: " ++ here))
        → IsFormatCheck def comment file kind bytes comments own text ends_with.Wrong
    difference_told line here text differs said =
        subst (λ t. checked t ends_with.Wrong) (sym said) (is_not_formatted f wanted line here program is differs)

-- where the bytes without their comments are a text, so are the bytes
pub text_there : (fixed : List Name) (comment : Option Name) (bytes : List ℕ) (comments : List Comment) (own : List ℕ)
    → IsWithout fixed comment bytes comments own → IsUtf8 (unmarked own) → IsUtf8 (unmarked bytes)
text_there fixed None bytes comments own (none, same) text = subst (λ b. IsUtf8 (unmarked b)) same text
text_there fixed (Some token) bytes comments own (is_text blanked text own_is own_text) there = text
text_there fixed (Some token) bytes comments own (no_text never none same) there =
    subst (λ b. IsUtf8 (unmarked b)) same there
