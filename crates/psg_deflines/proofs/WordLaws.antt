-- A line begins with one of the words.
use Rattle.std.proofs.Common.{◌≡◌, ℕ, List, [], ◌∷◌, ◌++◌, codes, ap, sym, subst}
use Rattle.psg_terms.specs.Names.{Name}
use Rattle.psg_deflines.specs.Forms.{HasForm, IsSpaceName, parts_of, tag}
use Rattle.psg_deflines.specs.FormReads.{HasNoForm, IsNoPlainWord, IsNoTermWord}
use Rattle.psg_deflines.specs.LineReads.{IsFormRead}
use Rattle.psg_deflines.specs.TermWalks.{Parts}
use Rattle.psg_deflines.specs.declared.lines.Line.{Line}
use Rattle.psg_deflines.specs.declared.lines.Line.TheVariants as lines
use Rattle.psg_deflines.specs.declared.term_forms.FormRead.{FormRead}
use Rattle.psg_deflines.proofs.PartReads.{first_of}

-- no line begins with another word
pub no-other : (word : List ℕ) (rest : Parts) → IsNoPlainWord word → IsNoTermWord word → ((n : Name) → IsSpaceName n → word ≡ codes "declare" ++ tag n → ⊥) → HasNoForm (word ∷ rest)
no-other word rest plain term declare line h = by_line line h.form h.written
  where
    by_line : (line : Line) → HasForm line → parts_of line ≡ word ∷ rest → ⊥
    by_line (lines.Sort d) f e = plain.sort (sym (ap first_of e))
    by_line (lines.Space [] s) f e = plain.entity (sym (ap first_of e))
    by_line (lines.Space (c ∷ cs) s) f e = plain.space (sym (ap first_of e))
    by_line (lines.Phylum n s b) f e = plain.phylum (sym (ap first_of e))
    by_line (lines.List n s x w l u) f e = plain.list (sym (ap first_of e))
    by_line (lines.Operator n k s l ms) f e = plain.op (sym (ap first_of e))
    by_line (lines.Row t ts) f e = term.row (sym (ap first_of e))
    by_line (lines.Nil n t) f e = term.nil (sym (ap first_of e))
    by_line (lines.Cell n t u v) f e = term.cell (sym (ap first_of e))
    by_line (lines.Hole n t w) f e = term.hole (sym (ap first_of e))
    by_line (lines.Case t w) f e = term.case_word (sym (ap first_of e))
    by_line (lines.Declare n k t u w) f e = declare n f.0 (sym (ap first_of e))

-- a declare row with the name of its space in its word
pub declare-read : (word : List ℕ) (rest : Parts) (n : Name) (read : FormRead) → IsSpaceName n × (word ≡ codes "declare" ++ tag n) → (IsSpaceName n → IsFormRead ((codes "declare" ++ tag n) ∷ rest) read) → IsFormRead (word ∷ rest) read
declare-read word rest n read (named, e) h = subst (λ w. IsFormRead (w ∷ rest) read) (sym e) (h named)
