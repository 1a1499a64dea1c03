-- Which fault of a file is its first one.
use Rattle.std.proofs.Common.{◌≡◌, ℕ, ◌<◌, ◌≤◌, List, [], ◌∷◌, length, get_or, Option, Some, None, sym, ap, ◌∙◌, subst, refl, arith}
use Rattle.psg_terms.specs.Names.{Name}
use Rattle.psg_grammar.specs.WellFormed.{fixed_words}
use Rattle.psg_grammar.specs.declared.types.Definition.{Definition}
use Rattle.psg_deflines.specs.declared.fault.DefFault.{DefFault}
use Rattle.psg_defread.specs.Reading.{IsReadAs}
use Rattle.psg_defread.specs.Refusals.{Refusal}
use Rattle.psg_comments.specs.Fitting.{IsFit}
use Rattle.psg_defcomment.specs.Plain.{named_in, plain_of}
use Rattle.psg_defcomment.specs.Reading.{AreFit, IsCommentOf, first_token}
use Rattle.psg_defcomment.specs.Refusals.{FileRefusal, of_definition, named_before, named_twice, unfit, IsFileFault, IsLater, IsSecond, IsUnfit}
use Rattle.psg_defcomment.specs.declared.lines.Named.{Named}
use Rattle.psg_defcomment.specs.declared.fault.FileFault.{FileFault}
use Rattle.psg_defcomment.specs.declared.fault.FileFault.TheVariants as faults

pub second_there : (named : List Named) (d : Named) → 2 ≤ length named → IsSecond named (get_or named 1 d).line
second_there [] d l = absurd (omega (arith, l))
second_there (first ∷ []) d l = absurd (omega (arith, l))
second_there (first ∷ second ∷ rest) d l = refl

pub no_second : (named : List Named) → length named < 2 → (line : ℕ) → IsSecond named line → ⊥
no_second [] l line h = h
no_second (first ∷ []) l line h = h
no_second (first ∷ second ∷ rest) l line h = omega (arith, l)

pub fault_alone : (bytes : List ℕ) (named : List Named) (fault : DefFault) → named ≡ named_in bytes
    → Refusal (plain_of bytes) fault → ((line : ℕ) → IsSecond named line → ⊥) → FileRefusal bytes (faults.Definition fault)
fault_alone bytes named fault e r none =
    of_definition fault r (λ line s l. none line (subst (λ ns. IsSecond ns line) (sym e) s))

same_second : (named : List Named) (a b : ℕ) → IsSecond named a → IsSecond named b → a ≡ b
same_second [] a b s t = absurd s
same_second (first ∷ []) a b s t = absurd s
same_second (first ∷ second ∷ rest) a b s t = s ∙ sym t

pub fault_before : (bytes : List ℕ) (named : List Named) (fault : DefFault) (line : ℕ) → named ≡ named_in bytes
    → Refusal (plain_of bytes) fault → IsSecond named line → (IsLater line fault → ⊥) → FileRefusal bytes (faults.Definition fault)
fault_before bytes named fault line e r s never =
    of_definition fault r (λ other t l. never (subst (λ n. IsLater n fault)
    (same_second named other line (subst (λ ns. IsSecond ns other) (sym e) t) s) l))

pub second_before : (bytes : List ℕ) (named : List Named) (fault : DefFault) (line : ℕ) → named ≡ named_in bytes
    → Refusal (plain_of bytes) fault → IsSecond named line → IsLater line fault → FileRefusal bytes (faults.Repeated line)
second_before bytes named fault line e r s l = named_before line fault (subst (λ ns. IsSecond ns line) e s) r l

pub second_alone : (bytes : List ℕ) (named : List Named) (line : ℕ) (def : Definition) → named ≡ named_in bytes
    → IsReadAs (plain_of bytes) def → IsSecond named line → FileRefusal bytes (faults.Repeated line)
second_alone bytes named line def e r s = named_twice line (subst (λ ns. IsSecond ns line) e s) r.faultless

-- one line alone
pub only_one : (named : List Named) (first : Named) (rest : List Named) → named ≡ first ∷ rest
    → ((line : ℕ) → IsSecond named line → ⊥) → named ≡ first ∷ []
only_one named first [] e none = e
only_one named first (second ∷ rest) e none =
    absurd (none second.line (subst (λ ns. IsSecond ns second.line) (sym e) refl))

pub unfit_fault : (bytes : List ℕ) (named : List Named) (first : Named) (def : Definition) (fault : FileFault)
    → named ≡ named_in bytes → IsReadAs (plain_of bytes) def → named ≡ first ∷ [] → IsUnfit (fixed_words def) first fault
    → IsFileFault bytes fault
unfit_fault bytes named first def faults.Memory e r o u = tt
unfit_fault bytes named first def (faults.Definition fault) e r o u = absurd u
unfit_fault bytes named first def (faults.Repeated line) e r o u = absurd u
unfit_fault bytes named first def (faults.Unfit line) e r o u =
    subst (λ n. FileRefusal bytes (faults.Unfit n)) (sym u.0) (unfit first def (sym e ∙ o) r u.1)

pub one_fit : (fixed : List Name) (named : List Named) (first : Named) (token : Name) → named ≡ first ∷ []
    → token ≡ first.token → IsFit fixed token → AreFit fixed named × (Some token ≡ first_token named)
one_fit fixed named first token o e f = (
  subst (AreFit fixed) (sym o) (subst (IsFit fixed) e f),
  ap Some e ∙ ap first_token (sym o),
)

pub none_fit : (fixed : List Name) (named : List Named) → named ≡ [] → AreFit fixed named × (None ≡ first_token named)
none_fit fixed named e = (subst (AreFit fixed) (sym e) tt, ap first_token (sym e))

pub fit_token : (fixed : List Name) (named : List Named) (o : Option Name) → AreFit fixed named → o ≡ first_token named
    → IsCommentOf fixed o
fit_token fixed named o f e = subst (IsCommentOf fixed) (sym e) (by named f)
  where
    by : (ns : List Named) → AreFit fixed ns → IsCommentOf fixed (first_token ns)
    by [] g = tt
    by (n ∷ []) g = g
    by (n ∷ m ∷ rest) g = absurd g
