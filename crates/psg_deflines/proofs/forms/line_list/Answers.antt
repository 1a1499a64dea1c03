use Rattle.std.proofs.Common.{◌≡◌, ℕ, arith, refl, sym, get_or}
use Rattle.std.proofs.lemmas.Bool.{false≢true}
use Rattle.std.proofs.lemmas.Option.{MatchOption-at_some, MatchOption-at_none}
use Rattle.psg_terms.specs.Names.{Name}
use Rattle.psg_grammar.specs.Sound.{IsKindName}
use Rattle.psg_deflines.specs.Quotes.{IsQuoteOf, HasNoQuote}
use Rattle.psg_deflines.specs.Only.{IsOnly}
use Rattle.psg_deflines.proofs.PartReads.{no-slice}
use Rattle.psg_deflines.proofs.FormLaws.{list-long, list-parts, list-only}
use Rattle.psg_deflines.proofs.forms.line_list.Goals.{then-not-is-via-then-not-is, then-not-is-via-else-not-is+then-not-is-2}
use Rattle.psg_deflines.proofs.forms.line_list.Goals as goal

pub returns-then-parts-ne8 : goal.returns-then-parts-ne8
returns-then-parts-ne8 c = λ line h. omega (arith, list-long c.args.parts.now line h, c.if-parts-ne8.true)

pub returns-then-not-is : goal.returns-then-not-is
returns-then-not-is c = λ line h. elim c.then-not-is.branch [
  | then-not-is-via-then-not-is w ↦ false≢true (w.if-not-is.ensures.1 (list-parts c.args.parts.now line h).p1)
  | then-not-is-via-else-not-is+then-not-is-2 w ↦ false≢true (w.if-not-is-2.ensures.1 (list-parts c.args.parts.now line h).p3)
]

pub returns-in_default-which : goal.returns-in_default-which
returns-in_default-which c = λ line h. (let o = list-parts c.args.parts.now line h in c.in_default-which.ensures o.on_lines o.p6)

pub returns-in_default-which-2 : goal.returns-in_default-which-2
returns-in_default-which-2 c = λ line h. (let o = list-parts c.args.parts.now line h in c.in_default-which-2.ensures o.unfinished o.p7)

pub returns-in_default-5 : goal.returns-in_default-5
returns-in_default-5 c = λ line h. (
    let o = list-parts c.args.parts.now line h in
    MatchOption-at_none (HasNoQuote (get_or c.args.parts.now 5 no-slice).now) (IsOnly (IsQuoteOf (get_or c.args.parts.now 5 no-slice).now)) c.in_default-5.is c.in_ok-separator.ensures o.word
    (record { quotable = o.forms.3; written = sym o.p5 })
    )

pub returns : goal.returns
returns c =
    let p = λ (n : ℕ). (get_or c.args.parts.now n no-slice).now in
    list-only c.args.parts.now c.in-Some-2.name c.in-Some-3.sort c.in-Some-4.element c.in-Some-5.separator c.in-Some.lines c.in-Some-which.unfinished (omega arith)
    (MatchOption-at_some (IsKindName (p 0) → ⊥) (λ (t : Name). (t ≡ p 0) × IsKindName (p 0)) c.in-Some-2.name c.in-Some-2.is c.in_ok-name.ensures) (c.if-not-is.ensures.0 refl)
    (MatchOption-at_some (IsKindName (p 2) → ⊥) (λ (t : Name). (t ≡ p 2) × IsKindName (p 2)) c.in-Some-3.sort c.in-Some-3.is c.in_ok-sort.ensures) (c.if-not-is-2.ensures.0 refl)
    (MatchOption-at_some (IsKindName (p 4) → ⊥) (λ (t : Name). (t ≡ p 4) × IsKindName (p 4)) c.in-Some-4.element c.in-Some-4.is c.in_ok-element.ensures)
    (MatchOption-at_some (HasNoQuote (p 5)) (IsOnly (IsQuoteOf (p 5))) c.in-Some-5.separator c.in-Some-5.is c.in_ok-separator.ensures)
    c.in-Some.ensures c.in-Some-which.ensures
