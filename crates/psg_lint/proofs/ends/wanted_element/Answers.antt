use Rattle.std.proofs.Common.{◌≡◌, Some, sym, subst, true≢false, ◌∙◌}
use Rattle.psg_grammar.specs.Fragments.{Fragment}
use Rattle.psg_grammar.specs.Paths.{Path, node_at}
use Rattle.psg_wanted.specs.Fronts.{AreValues, with_last}
use Rattle.psg_lint.specs.Judged.{def_of}
use Rattle.psg_lint.proofs.EndLaws.{last_is, last_there, more_formed}
use Rattle.psg_lint.proofs.MessageLaws.{judged_sound, known_declares, none_sorted}
use Rattle.psg_lint.proofs.WrongLaws.{beside_formed, made_beside, note_own}
use Rattle.psg_lint.proofs.ends.wanted_element.Goals as goal

pub returns-then-declaring-clause-values : goal.returns-then-declaring-clause-values
returns-then-declaring-clause-values g c = λ calm.
    let j = c.args.wrong.judged in
    absurd (true≢false (sym c.if-declaring.true ∙ known_declares j c.requires.wrong.judged c.declares-declaring.result c.args.list.phylum c.declares-declaring.ensures ∙ calm))

pub returns-then-declaring-clause-sorted : goal.returns-then-declaring-clause-sorted
returns-then-declaring-clause-sorted g c = none_sorted c.args.wrong.judged.definition.now.signature c.new.result.items c.new.ensures.items

pub with_last-requires : goal.with_last-requires
with_last-requires g c =
    let is = c.requires.there in
    record { there = (is.node, is.there, is.is.is_list, is.is.elements) }

pub values_beside-requires-clause-sound : goal.values_beside-requires-clause-sound
values_beside-requires-clause-sound g c = judged_sound c.args.wrong.judged c.requires.wrong.judged

pub values_beside-requires-clause-old : goal.values_beside-requires-clause-old
values_beside-requires-clause-old g c = note_own c.args.wrong c.requires.wrong

pub values_beside-requires-clause-kinds : goal.values_beside-requires-clause-kinds
values_beside-requires-clause-kinds g c =
    let w = c.args.wrong in
    let j = w.judged in
    let (kind, whole, own) = c.requires.kinds in
    let calm = sym (known_declares j c.requires.wrong.judged c.declares-declaring.result c.args.list.phylum c.declares-declaring.ensures) ∙ c.if-declaring.false in
    made_beside w c.requires.wrong _ c.in_ok-more.more c.in_ok-more.ensures
    (kind, whole, more_formed (def_of w) (judged_sound j c.requires.wrong.judged) c.args.tree.now c.args.path.now c.args.list c.requires.there (kind, own) calm)

pub values_beside-requires-clause-there : goal.values_beside-requires-clause-there
values_beside-requires-clause-there g c =
    let j = c.args.wrong.judged in
    subst (λ (t : Fragment). (node : Fragment) × (node_at t c.in_ok-last.last ≡ Some node)) (sym c.in_ok-more.ensures)
    (last_there j.definition.now (judged_sound j c.requires.wrong.judged) c.args.tree.now c.args.path.now c.args.list c.requires.there (beside_formed c.args.wrong c.args.tree.now c.requires.kinds) c.in_ok-last.last c.in_ok-place.place
    c.in_ok-place.ensures.step c.in_ok-last.ensures)

pub returns-clause-declaring : goal.returns-clause-declaring
returns-clause-declaring g c = λ declaring.
    let j = c.args.wrong.judged in
    absurd (true≢false (sym declaring ∙ sym (known_declares j c.requires.wrong.judged c.declares-declaring.result c.args.list.phylum c.declares-declaring.ensures) ∙ c.if-declaring.false))

pub returns-clause-values : goal.returns-clause-values
returns-clause-values g c = λ calm.
    let j = c.args.wrong.judged in
    let def = j.definition.now in
    subst (λ (p : Path). AreValues def (with_last c.args.tree.now c.args.path.now c.args.list.phylum) p c.in_ok-values.values.items)
    (last_is def (judged_sound j c.requires.wrong.judged) c.args.tree.now c.args.path.now c.args.list c.requires.there (beside_formed c.args.wrong c.args.tree.now c.requires.kinds) c.in_ok-last.last c.in_ok-place.place
    c.in_ok-place.ensures.step c.in_ok-last.ensures)
    (subst (λ (t : Fragment). AreValues def t c.in_ok-last.last c.in_ok-values.values.items) c.in_ok-more.ensures c.in_ok-values.ensures.values)
