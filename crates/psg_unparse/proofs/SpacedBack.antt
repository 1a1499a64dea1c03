-- However the tokens of a printable tree are spaced, the text reads back as the tree.
use Rattle.std.proofs.Common.{◌∙◌, ℕ, ◌<◌, List, [], None, refl, sym, subst}
use Rattle.std.specs.List.{AllByRecursion}
use Rattle.psg_lexis.specs.Tokens.{IsFixedWord}
use Rattle.psg_grammar.specs.declared.types.Kind.{Kind}
use Rattle.psg_grammar.specs.declared.types.Kind.TheVariants as kinds
use Rattle.psg_grammar.specs.declared.types.Definition.{Definition}
use Rattle.psg_grammar.specs.Fragments.{Fragment}
use Rattle.psg_grammar.specs.Sizes.{depth_of}
use Rattle.psg_grammar.specs.Sound.{IsSound}
use Rattle.psg_grammar.specs.WellFormed.{fixed_words}
use Rattle.psg_class.specs.Class.{IsClass}
use Rattle.psg_class.specs.Terminals.{Token}
use Rattle.psg_class.specs.Yields.{Yields}
use Rattle.psg_class.proofs.ClassFacts.{facts}
use Rattle.psg_unparse.specs.Rows.{row, operator_of}
use Rattle.psg_unparse.specs.Layout.{laid}
use Rattle.psg_unparse.proofs.Lexing.{RowTokens, Lexed, laid_tokens}
use Rattle.psg_unparse.proofs.FixedTokens.{has_tokens}
use Rattle.psg_unparse.proofs.SlotSteps.{below_zero}
use Rattle.psg_unparse.proofs.Claims.{WholeBack}
use Rattle.psg_unparse.proofs.Trees.{claim}
use Rattle.psg_unparse.specs.Spaced.{Put, text_in, AreSpaced, SpacedReadsBack, SpacedReadsBackIfPrintable}
use Rattle.psg_unparse.proofs.SpacedLexing.{spaced_tokens}

module _ (def : Definition) (f : Fragment) (puts : List Put) (a : AreSpaced None (row def f) puts) where
  from_tokens : (kind : Kind) (ts : List Token) (d : ℕ) → RowTokens (fixed_words def) (row def f) ts
      → Yields def f kind 0 d ts → d < depth_of f → SpacedReadsBack def f kind puts
  from_tokens kind ts d has y shallow =
      let lexed : Lexed (fixed_words def) (text_in puts) 0 ts =
      spaced_tokens (fixed_words def) None (row def f) puts ts has a 0 in
      let plain : Lexed (fixed_words def) (laid [] (row def f)) 0 ts =
      laid_tokens (fixed_words def) [] (row def f) ts has 0 in
      record {
        back = record {
          nesting = d;
          reads = record {
            tokens = lexed.spans;
            are = lexed.are;
            yields = subst (Yields def f kind 0 d) (sym lexed.tokens) y;
          };
          shallow = shallow;
        };
        tokens = record {
          first = lexed.spans;
          second = plain.spans;
          of_one = lexed.are;
          of_other = plain.are;
          same = lexed.tokens ∙ sym plain.tokens;
        };
      }

  from_whole : (kind : Kind) → WholeBack def f kind → SpacedReadsBack def f kind puts
  from_whole (kinds.Phylum p) b =
      from_tokens (kinds.Phylum p) b.tokens b.nesting b.has (b.yields 0 (below_zero (operator_of def f))) b.shallow
  from_whole (kinds.List l) b = from_tokens (kinds.List l) b.tokens b.nesting b.has b.yields b.shallow

pub spaced_reads_back : (def : Definition) → IsSound def → AllByRecursion IsFixedWord (fixed_words def) → IsClass def
    → (f : Fragment) → SpacedReadsBackIfPrintable def f
spaced_reads_back def sound words class f printable kind formed puts a =
    from_whole def f puts a kind ((claim def sound (facts def class) (has_tokens def words) f [] kind formed.0 formed.1
    printable).whole refl)
