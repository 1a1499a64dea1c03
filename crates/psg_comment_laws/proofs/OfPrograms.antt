-- The printed text of a program has as many tokens that are counted, so it keeps the program's comments.
use Rattle.std.proofs.Common.{◌≡◌, ℕ, List, sym, subst, arith}
use Rattle.std.specs.Prelude.{chars, count_by}
use Rattle.psg_lexis.specs.Tokens.{HasTokens}
use Rattle.psg_lexis.specs.declared.token.Spanned.{Spanned}
use Rattle.psg_lexis.proofs.Laws.{only_tokens}
use Rattle.psg_grammar.specs.declared.types.Definition.{Definition}
use Rattle.psg_grammar.specs.declared.types.Kind.{Kind}
use Rattle.psg_grammar.specs.Fragments.{Fragment}
use Rattle.psg_grammar.specs.WellFormed.{fixed_words}
use Rattle.psg_class.specs.Texts.{ReadsAs, tokens_of}
use Rattle.psg_class.specs.Yields.{Yields}
use Rattle.psg_comments.specs.Fitting.{IsFit}
use Rattle.psg_comments.specs.Blanking.{IsBlanked}
use Rattle.psg_comments.specs.declared.finding.Comment.{Comment}
use Rattle.psg_commented.specs.Noting.{counts, notes_of}
use Rattle.psg_commented.specs.Printing.{with_notes}
use Rattle.psg_commented.specs.Keeping.{Keeps}
use Rattle.psg_comment_laws.specs.Laws.{IsPrinting, AreSame}
use Rattle.psg_comment_laws.specs.Programs.{PrintsProgram, LosesNoneOfPrograms, StaysProgram}
use Rattle.psg_comment_laws.proofs.Once.{one_reading}
use Rattle.psg_comment_laws.proofs.Kept.{keeps, loses_none}
use Rattle.psg_comment_laws.proofs.Weights.{same_count}

module _ (def : Definition) (token : List ℕ) (fit : IsFit (fixed_words def) token) where
  module _ (kind : Kind) (f : Fragment) (text : List ℕ) (comments : List Comment) (bare : List ℕ) (ts : List Spanned) (printed : List ℕ) (p : PrintsProgram def token kind f text comments bare ts printed) where
    abbrev pub shown : List Spanned
    shown = p.printed_reads.tokens

    pub printing : IsPrinting (fixed_words def) token text ts comments printed shown
    printing =
        let same : p.reads.tokens ≡ ts = only_tokens (fixed_words def) (chars bare) 0 p.reads.tokens ts p.reads.are p.are in
        let yields : Yields def f kind 0 p.nesting (tokens_of ts) =
        subst (λ us. Yields def f kind 0 p.nesting (tokens_of us)) same p.reads.yields in
        let sizes : count_by counts ts ≡ count_by counts shown =
        same_count def f kind 0 0 p.nesting p.own_nesting ts shown yields p.printed_reads.yields in
        record {
          utf8 = p.utf8;
          found = p.found.found;
          printed_utf8 = p.printed_utf8;
          are = p.printed_reads.are;
          enough = omega (arith, sizes);
        }

    stays : (others : List Comment) (bytes : List ℕ)
        → IsBlanked (fixed_words def) token (with_notes printed shown (notes_of text ts comments)) others bytes
        → ReadsAs def kind 0 bytes f p.own_nesting
    stays others bytes blanked =
        let k : Keeps (fixed_words def) token shown (notes_of text ts comments) (with_notes printed shown (notes_of text ts comments)) =
        keeps (fixed_words def) token fit text printed ts shown comments printing in
        let same : AreSame k.comments others k.blanked bytes =
        one_reading (fixed_words def) token fit (with_notes printed shown (notes_of text ts comments)) k.comments others k.blanked bytes k.found blanked in
        record {
          tokens = k.by.own;
          are = subst (λ b. HasTokens (fixed_words def) (chars b) 0 k.by.own) same.same_bytes k.by.are;
          yields = subst (λ us. Yields def f kind 0 p.own_nesting us) (sym k.by.same) p.printed_reads.yields;
        }

  pub of_programs : LosesNoneOfPrograms def token
  of_programs kind f text comments bare ts printed p lost =
      loses_none (fixed_words def) token fit text printed ts p.printed_reads.tokens comments
      (printing kind f text comments bare ts printed p) lost

  pub stays_program : StaysProgram def token
  stays_program kind f text comments bare ts printed p new is others bytes blanked =
      stays kind f text comments bare ts printed p others bytes
      (subst (λ t. IsBlanked (fixed_words def) token t others bytes) is blanked)
