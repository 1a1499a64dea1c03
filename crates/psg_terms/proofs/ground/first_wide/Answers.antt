use Rattle.std.proofs.Common.{sym, subst, ap, ◌∙◌, arith}
use Rattle.std.proofs.lemmas.Bool.{false≢true}
use Rattle.psg_terms.specs.Declarations.{IsWideAmong}
use Rattle.psg_terms.specs.Kept.{symbols_of}
use Rattle.psg_terms.specs.Marks.{con_numbers}
use Rattle.psg_terms.specs.Signature.{constructors_from}
use borrow.Author.Count.{below_more}
use Rattle.psg_terms.proofs.Soundness.{made-first}
use Rattle.psg_terms.proofs.ground.first_wide.Goals as goal

pub returns-then-is_wide : goal.returns-then-is_wide
returns-then-is_wide c =
    let same = ap con_numbers c.as_slice.ensures ∙ made-first c.args.made.now c.loop-i.i c.index-made-i.result c.index-made-i.result (symbols_of c.args.declared.now) c.requires c.loop-i-test.true c.index-made-i.is in
    (c.loop-i-test.true, subst (λ ids. IsWideAmong ids (symbols_of c.args.declared.now)) same (c.is_wide.ensures.0 c.if-is_wide.true), c.loop-i.invariant)

pub loop-i-preserved : goal.loop-i-preserved
loop-i-preserved c =
    let same = ap con_numbers c.as_slice.ensures ∙ made-first c.args.made.now c.loop-i.i c.index-made-i.result c.index-made-i.result (symbols_of c.args.declared.now) c.requires c.loop-i-test.true c.index-made-i.is in
    below_more (λ s. IsWideAmong (constructors_from 0 s (symbols_of c.args.declared.now)) (symbols_of c.args.declared.now) → ⊥) c.loop-i.i c.loop-i.invariant
    (λ w. false≢true (sym c.if-is_wide.false ∙ c.is_wide.ensures.1 (subst (λ ids. IsWideAmong ids (symbols_of c.args.declared.now)) (sym same) w)))

pub returns : goal.returns
returns c = λ s lt. c.loop-i.invariant s (omega arith)
