-- What is printed of a program with comments.
use Rattle.std.proofs.Common.{◌≡◌, ◌⊎◌, inl, inr, ℕ, zero, suc, ◌<◌, ◌≤◌, List, sym, ap, ◌∙◌, subst, arith}
use Rattle.std.specs.Prelude.{chars}
use Rattle.std.specs.List.{AllByRecursion}
use Rattle.std.specs.Str.{IsUtf8}
use Rattle.std.proofs.lemmas.Bool.{cases_lt}
use Rattle.psg_lexis.specs.Tokens.{IsFixedWord}
use Rattle.psg_lexis.specs.declared.token.Spanned.{Spanned}
use Rattle.psg_lexis.proofs.Laws.{only_tokens}
use Rattle.psg_grammar.specs.declared.types.Definition.{Definition}
use Rattle.psg_grammar.specs.declared.types.Kind.{Kind}
use Rattle.psg_grammar.specs.Fragments.{Fragment}
use Rattle.psg_grammar.specs.Printable.{IsPrintable}
use Rattle.psg_grammar.specs.Sizes.{depth_of}
use Rattle.psg_grammar.specs.Sound.{IsSound}
use Rattle.psg_grammar.specs.WellFormed.{fixed_words}
use Rattle.psg_class.specs.Class.{IsClass}
use Rattle.psg_class.specs.Texts.{TextTokens}
use Rattle.psg_unparse.specs.Back.{ReadsBack}
use Rattle.psg_unparse.specs.Layout.{text_of}
use Rattle.psg_unparse.proofs.PrintedTree.{printed_reads_back}
use Rattle.psg_textedit.proofs.TypedNode.{text_utf8}
use Rattle.psg_session.proofs.PrintableYields.{reads_printable}
use Rattle.psg_comments.specs.Fitting.{IsFit}
use Rattle.psg_comments.specs.Blanking.{IsBlanked}
use Rattle.psg_comments.specs.declared.finding.Comment.{Comment}
use Rattle.psg_commented.specs.Noting.{notes_of}
use Rattle.psg_commented.specs.Printing.{with_notes}
use Rattle.psg_comment_laws.specs.Laws.{IsPrinting}
use Rattle.psg_comment_laws.specs.Programs.{PrintsProgram}
use Rattle.psg_comment_laws.proofs.Again.{prints_once}
use Rattle.psg_comment_laws.proofs.OfPrograms.{printing, of_programs, stays_program}
use Rattle.psg_format_laws.specs.Formats.{IsCommentedProgram, NeverAsItIs, IsPrintedAgain, FormatsTwice}

not_more : (limit n : ℕ) → (limit < n → ⊥) → n ≤ limit
not_more limit n never = elim (cases_lt limit n) [ inl l ↦ absurd (never l) | inr l ↦ l ]

module _ (def : Definition) (sound : IsSound def) (words : AllByRecursion IsFixedWord (fixed_words def)) (class : IsClass def) (token : List ℕ) (fit : IsFit (fixed_words def) token) where
  module _ (kind : Kind) (f : Fragment) (text : List ℕ) (comments : List Comment) (bare : List ℕ) (ts : List Spanned) (p : IsCommentedProgram def token kind f text comments bare ts) where
    printable : IsPrintable f
    printable = reads_printable def bare kind 0 p.is.nesting f p.bare_utf8 p.is.reads

    back : ReadsBack def f kind
    back = printed_reads_back def sound words class f printable kind p.is.formed

    prints : PrintsProgram def token kind f text comments bare ts (text_of def f)
    prints = record {
      utf8 = p.utf8;
      found = p.found;
      nesting = p.is.nesting;
      reads = p.is.reads;
      are = p.are;
      printed_utf8 = text_utf8 def sound words class f kind printable p.is.formed;
      own_nesting = back.nesting;
      printed_reads = back.reads;
    }

    not_deep : depth_of f ≤ 200
    not_deep = let never = p.is.depth in not_more 200 (depth_of f) never

    again : (new : List ℕ) → new ≡ with_notes (text_of def f) prints.printed_reads.tokens (notes_of text ts comments)
        → (others : List Comment) (own : List ℕ) → IsBlanked (fixed_words def) token new others own
        → IsPrintedAgain def token kind f prints.printed_reads.tokens new others own
    unfolding back prints
    again new is others own blanked = record {
      program = record {
        nesting = prints.own_nesting;
        reads = stays_program def token fit kind f text comments bare ts (text_of def f) prints new is others own blanked;
        formed = p.is.formed;
        depth = p.is.depth;
        brackets = let less = back.shallow in let le = not_deep in shallow prints.own_nesting (depth_of f) less le;
        small = p.is.small;
      };
      again = λ us are.
          prints_once (fixed_words def) token fit text (text_of def f) ts prints.printed_reads.tokens comments
          (printing def token fit kind f text comments bare ts (text_of def f) prints) new is us others own blanked are;
    }
      where
        shallow : (n depth : ℕ) → back.nesting < depth → depth ≤ 200 → back.nesting ≤ 400
        shallow n depth less le = omega (arith, less, le)

  pub never_as_it_is : NeverAsItIs def token
  never_as_it_is kind f text comments bare ts p lost =
      of_programs def token fit kind f text comments bare ts (text_of def f) (prints kind f text comments bare ts p) lost

  pub formats_twice : FormatsTwice def token
  formats_twice kind f text comments bare ts p shown are new is others own blanked =
      let q = prints kind f text comments bare ts p in
      let same : q.printed_reads.tokens ≡ shown =
      only_tokens (fixed_words def) (chars (text_of def f)) 0 q.printed_reads.tokens shown q.printed_reads.are are in
      subst (λ us. IsPrintedAgain def token kind f us new others own) same
      (again kind f text comments bare ts p new
      (is ∙ ap (λ us. with_notes (text_of def f) us (notes_of text ts comments)) (sym same)) others own blanked)
