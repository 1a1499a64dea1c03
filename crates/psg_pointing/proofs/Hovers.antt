-- The node at a byte of a text that is known.
use Rattle.std.proofs.Common.{◌≡◌, ℕ, List, Option, Some, None, sym, subst, ◌∙◌}
use Rattle.psg_grammar.specs.declared.types.Definition.{Definition}
use Rattle.psg_grammar.specs.declared.types.Kind.{Kind}
use Rattle.psg_grammar.specs.Paths.{Path}
use Rattle.psg_lexis.specs.declared.token.Spanned.{Spanned}
use Rattle.psg_program.specs.Decoding.{unmarked}
use Rattle.psg_ranges.specs.declared.ranges.Range.{Range}
use Rattle.psg_ranges.specs.Forests.{Forest, ranges_in}
use Rattle.psg_pointing.specs.declared.judging.Judged.{Judged}
use Rattle.psg_pointing.specs.Judging.{IsJudged, IsJudgement, judged, nodes_in, program}
use Rattle.psg_pointing.specs.Pointing.{IsPointed}

module _ (def : Definition) (kind : Kind) {own : List ℕ} (j : Judged) (is : IsJudged def kind own j) (byte : ℕ)
    (tokens : List Spanned) (at : ℕ) (ranges : List Range) (o : Option Path) where
  pub pointed_in : tokens ≡ j.tokens.items → at ≡ byte → ranges ≡ j.ranges.nodes
      → ((f : Forest) → ranges_in f ≡ ranges → IsPointed tokens at f o)
      → IsPointed j.tokens.items byte (nodes_in def kind j is) o
  pointed_in t b r found =
      subst (λ n. IsPointed j.tokens.items n (nodes_in def kind j is) o) b
      (subst (λ l. IsPointed l at (nodes_in def kind j is) o) t
      (found (nodes_in def kind j is) (sym is.ranges ∙ sym r)))

-- what is known of the text is that of a program
pub judged_there : (def : Definition) (kind : Kind) (text : List ℕ) (j : Judged) → IsJudgement def kind text (Some j)
    → IsJudged def kind (unmarked text) j
judged_there def kind text j (program _ (judged _ is)) = is
