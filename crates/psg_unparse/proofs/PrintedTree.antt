-- The text of each printable tree reads back as the tree.
use Rattle.std.proofs.Common.{ℕ, ◌<◌, List, [], refl, sym, subst}
use Rattle.std.specs.List.{AllByRecursion}
use Rattle.psg_lexis.specs.Tokens.{IsFixedWord}
use Rattle.psg_grammar.specs.declared.types.Kind.{Kind}
use Rattle.psg_grammar.specs.declared.types.Kind.TheVariants as kinds
use Rattle.psg_grammar.specs.declared.types.Definition.{Definition}
use Rattle.psg_grammar.specs.Fragments.{Fragment}
use Rattle.psg_grammar.specs.Sizes.{depth_of}
use Rattle.psg_grammar.specs.Sound.{IsSound}
use Rattle.psg_grammar.specs.WellFormed.{fixed_words}
use Rattle.psg_class.specs.Class.{IsClass}
use Rattle.psg_class.specs.Terminals.{Token}
use Rattle.psg_class.specs.Yields.{Yields}
use Rattle.psg_class.proofs.ClassFacts.{facts}
use Rattle.psg_unparse.specs.Rows.{row, operator_of}
use Rattle.psg_unparse.specs.Layout.{laid}
use Rattle.psg_unparse.specs.Back.{ReadsBack, ReadsBackIfPrintable}
use Rattle.psg_unparse.proofs.Lexing.{RowTokens, Lexed, laid_tokens}
use Rattle.psg_unparse.proofs.FixedTokens.{has_tokens}
use Rattle.psg_unparse.proofs.SlotSteps.{below_zero}
use Rattle.psg_unparse.proofs.Claims.{WholeBack}
use Rattle.psg_unparse.proofs.Trees.{claim}

module _ (def : Definition) (f : Fragment) where
  from_tokens : (kind : Kind) (ts : List Token) (d : ℕ) → RowTokens (fixed_words def) (row def f) ts
      → Yields def f kind 0 d ts → d < depth_of f → ReadsBack def f kind
  from_tokens kind ts d has y shallow =
      let lexed : Lexed (fixed_words def) (laid [] (row def f)) 0 ts =
      laid_tokens (fixed_words def) [] (row def f) ts has 0 in
      record {
        nesting = d;
        reads = record {
          tokens = lexed.spans;
          are = lexed.are;
          yields = subst (Yields def f kind 0 d) (sym lexed.tokens) y;
        };
        shallow = shallow;
      }

  from_whole : (kind : Kind) → WholeBack def f kind → ReadsBack def f kind
  from_whole (kinds.Phylum p) a =
      from_tokens (kinds.Phylum p) a.tokens a.nesting a.has (a.yields 0 (below_zero (operator_of def f))) a.shallow
  from_whole (kinds.List l) a = from_tokens (kinds.List l) a.tokens a.nesting a.has a.yields a.shallow

pub printed_reads_back : (def : Definition) → IsSound def → AllByRecursion IsFixedWord (fixed_words def) → IsClass def
    → (f : Fragment) → ReadsBackIfPrintable def f
printed_reads_back def sound words class f printable kind formed =
    from_whole def f kind ((claim def sound (facts def class) (has_tokens def words) f [] kind formed.0 formed.1
    printable).whole refl)
