use Rattle.std.proofs.Common.{ap, sym, ◌∙◌, arith}
use Rattle.std.proofs.lemmas.List.{drop_all}
use Rattle.std.specs.Prelude.{option_map, Some, ◌+◌}
use Rattle.psg_deflines.specs.Quotes.{closing}
use Rattle.psg_deflines.proofs.ClosingLaws.{closing-here, closing-later, map-more}
use Rattle.psg_deflines.proofs.quotes.closing.Goals as goal

pub returns-then-escaped-c : goal.returns-then-escaped-c
returns-then-escaped-c c =
    sym (c.loop-i.invariant ∙ ap (option_map (λ n. c.loop-i.i + n)) (closing-here c.args.text.now c.loop-i.i c.loop-i.escaped c.loop-i-test.true c.if-escaped-c.true) ∙ ap Some (omega arith))

pub loop-i-preserved : goal.loop-i-preserved
loop-i-preserved c =
    c.loop-i.invariant ∙ ap (option_map (λ n. c.loop-i.i + n)) (closing-later c.args.text.now c.loop-i.i c.loop-i.escaped c.loop-i-test.true c.if-escaped-c.false) ∙ map-more c.loop-i.i _

pub returns : goal.returns
returns c = sym (c.loop-i.invariant ∙ ap (λ xs. option_map (λ n. c.loop-i.i + n) (closing c.loop-i.escaped xs)) (drop_all c.loop-i.i c.args.text.now c.loop-i-test.false))
