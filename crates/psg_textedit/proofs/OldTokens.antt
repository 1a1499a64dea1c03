-- The tokens of a printed tree, none of which is across the first or the last byte of a node.
use Rattle.std.proofs.Common.{◌≡◌, ◌+◌, List, [], ◌++◌, length, sym, ◌∙◌, subst, append_assoc, refl, arith}
use Rattle.std.specs.Str.{chars}
use Rattle.std.specs.List.{AllByRecursion}
use Rattle.psg_grammar.specs.declared.types.Kind.{Kind}
use Rattle.psg_grammar.specs.declared.types.Definition.{Definition}
use Rattle.psg_grammar.specs.Fragments.{Fragment}
use Rattle.psg_grammar.specs.Paths.{Path}
use Rattle.psg_grammar.specs.Printable.{IsPrintable}
use Rattle.psg_grammar.specs.Sound.{IsSound}
use Rattle.psg_grammar.specs.WellFormed.{WellFormed, fixed_words}
use Rattle.psg_lexis.specs.Tokens.{HasTokens, IsBeside, IsFixedWord}
use Rattle.psg_lexis.specs.declared.token.Spanned.{Spanned}
use Rattle.psg_lexis.proofs.Laws.{only_tokens}
use Rattle.psg_class.specs.Class.{IsClass}
use Rattle.psg_class.proofs.ClassFacts.{facts}
use Rattle.psg_unparse.specs.Rows.{row, operator_of}
use Rattle.psg_unparse.specs.Layout.{laid, lead, text_of}
use Rattle.psg_unparse.specs.Spots.{Placed, IsPlacedAt}
use Rattle.psg_unparse.proofs.Borders.{lead_longer, row_sides, Sides}
use Rattle.psg_unparse.proofs.FixedTokens.{has_tokens}
use Rattle.psg_unparse.proofs.Lexing.{laid_tokens, Lexed, RowTokens}
use Rattle.psg_unparse.proofs.SlotSteps.{below_zero}
use Rattle.psg_unparse.proofs.Trees.{claim}
use Rattle.psg_unparse.specs.Spans.{span_of}
use Rattle.psg_textedit.proofs.Parts.{old_in}
use Rattle.psg_textedit.proofs.TypedNode.{cut_at}
use Rattle.psg_textedit.proofs.Feeds.{all_both, beside_end, beside_start}

module _ (def : Definition) (sound : IsSound def) (words : AllByRecursion IsFixedWord (fixed_words def)) (class : IsClass def) (f : Fragment) (kind : Kind) (printable : IsPrintable f) (formed : WellFormed def f kind) where
  pub record HasOld : Type 0 where
    pub tokens : List Spanned
    pub are : HasTokens (fixed_words def) (chars (text_of def f)) 0 tokens
    pub start : (path : Path) (p : Placed) → IsPlacedAt def f path p → AllByRecursion (IsBeside (span_of def p).start) tokens
    pub end : (path : Path) (p : Placed) → IsPlacedAt def f path p → AllByRecursion (IsBeside (span_of def p).end) tokens

  pub has_old : HasOld
  has_old =
      let o = old_in def f kind 0 (below_zero (operator_of def f))
      ((claim def sound (facts def class) (has_tokens def words) f [] kind formed.0 formed.1 printable).whole refl) in
      let l : Lexed (fixed_words def) (laid [] (row def f)) 0 o.tokens =
      laid_tokens (fixed_words def) [] (row def f) o.tokens o.has 0 in
      record {
        tokens = l.spans;
        are = l.are;
        start = λ path p at.
            let cut : p.spot.before ++ (row def p.node ++ p.spot.behind) ≡ row def f = cut_at def f path p at in
            let s : Sides (fixed_words def) (laid [] (p.spot.before ++ (row def p.node ++ p.spot.behind))) 0
            (0 + length (laid [] p.spot.before))
            (0 + length (laid [] p.spot.before) + length (lead p.spot.before (row def p.node ++ p.spot.behind))) =
            row_sides (fixed_words def) [] p.spot.before (row def p.node ++ p.spot.behind) o.tokens
            (subst (λ r. RowTokens (fixed_words def) r o.tokens) (sym cut) o.has) 0 in
            let same : s.front ++ s.back ≡ l.spans =
            only_tokens (fixed_words def) (chars (text_of def f)) 0 (s.front ++ s.back) l.spans
            (subst (λ r. HasTokens (fixed_words def) (chars (laid [] r)) 0 (s.front ++ s.back)) cut s.are) l.are in
            subst (AllByRecursion (IsBeside (span_of def p).start)) same
            (all_both (IsBeside (span_of def p).start) s.front s.back
            (beside_end (span_of def p).start (0 + length (laid [] p.spot.before)) (omega arith) s.front s.ends)
            (beside_start (span_of def p).start
            (0 + length (laid [] p.spot.before) + length (lead p.spot.before (row def p.node ++ p.spot.behind)))
            (omega (arith, lead_longer p.spot.before (row def p.node) p.spot.behind)) s.back s.starts));
        end = λ path p at.
            let cut : (p.spot.before ++ row def p.node) ++ p.spot.behind ≡ row def f =
            append_assoc p.spot.before (row def p.node) p.spot.behind ∙ cut_at def f path p at in
            let s : Sides (fixed_words def) (laid [] ((p.spot.before ++ row def p.node) ++ p.spot.behind)) 0
            (0 + length (laid [] (p.spot.before ++ row def p.node)))
            (0 + length (laid [] (p.spot.before ++ row def p.node))
            + length (lead (p.spot.before ++ row def p.node) p.spot.behind)) =
            row_sides (fixed_words def) [] (p.spot.before ++ row def p.node) p.spot.behind o.tokens
            (subst (λ r. RowTokens (fixed_words def) r o.tokens) (sym cut) o.has) 0 in
            let same : s.front ++ s.back ≡ l.spans =
            only_tokens (fixed_words def) (chars (text_of def f)) 0 (s.front ++ s.back) l.spans
            (subst (λ r. HasTokens (fixed_words def) (chars (laid [] r)) 0 (s.front ++ s.back)) cut s.are) l.are in
            subst (AllByRecursion (IsBeside (span_of def p).end)) same
            (all_both (IsBeside (span_of def p).end) s.front s.back
            (beside_end (span_of def p).end (0 + length (laid [] (p.spot.before ++ row def p.node))) (omega arith) s.front s.ends)
            (beside_start (span_of def p).end
            (0 + length (laid [] (p.spot.before ++ row def p.node)) + length (lead (p.spot.before ++ row def p.node) p.spot.behind))
            (omega arith) s.back s.starts));
      }
