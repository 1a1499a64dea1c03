use Rattle.std.proofs.Common.{◌≡◌, length, map, rules, subst, sym, []}
use Rattle.std.specs.Prelude.{string_bytes}
use Rattle.psg_terms.specs.Relations.{IsIn}
use Rattle.psg_stop.specs.Wanted.{wanted_terminals}
use Rattle.psg_program.specs.Expected.{AreTold, none_told}
use Rattle.psg_program.proofs.Told.{told_all, told_next}
use Rattle.psg_program.proofs.expected.told_words.Goals as goal

pub loop-one-init : goal.loop-one-init
loop-one-init c =
    subst (λ ws. AreTold (λ t. IsIn t (wanted_terminals c.args.wanted.now)) [] (map string_bytes ws))
    (sym c.new-words.ensures.items) none_told

pub loop-one-preserved : goal.loop-one-preserved
loop-one-preserved c =
    told_next c.args.all.now c.loop-one.one-index c.one-item.result _ _ c.loop-one-test.true c.one-item.is
    c.loop-one.invariant c.in_ok-tell_if.ensures

pub returns : goal.returns
returns c =
    let end : c.loop-one.one-index ≡ length c.args.all.now = search rules in
    told_all c.args.all.now c.loop-one.one-index _ end c.loop-one.invariant
