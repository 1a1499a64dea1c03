use Rattle.std.proofs.Common.{◌++◌, ap, ◌∙◌}
use Rattle.std.specs.Prelude.{replicate}
use Rattle.psg_keeping.specs.declared.pairing.Step.TheVariants as steps
use Rattle.psg_keeping.proofs.WholeLaws.{cut_by, cut_most, cut_pairs}
use Rattle.psg_keeping.proofs.pairing.alignment.Goals as goal

pub returns-clause-pairs : goal.returns-clause-pairs
returns-clause-pairs c =
    let f = c.common_front-front.result in
    let b = c.common_back-back.result in
    let old = c.args.old.now in
    let new = c.args.new.now in
    cut_pairs old new c.split_at-3.result.0.now c.split_at-4.result.0.now f b
    (cut_by old new c.split_at.result.1.now c.split_at-2.result.1.now c.split_at-3.result.0.now c.split_at-4.result.0.now f b
    c.split_at.ensures.back c.split_at-2.ensures.back c.split_at-3.ensures.front c.split_at-4.ensures.front
    c.common_front-front.ensures.same c.common_back-back.ensures.same c.common_front-front.ensures.old
    c.common_back-back.ensures.old c.common_front-front.ensures.apart c.common_back-back.ensures.apart)
    c.in_ok-middle.middle.items c.push_steps-2.new.steps.items c.in_ok-middle.ensures.pairs
    (c.in_ok-push_steps-2.ensures ∙ ap (λ l. l ++ replicate b steps.Both)
    (c.in_ok-extend_from_slice.ensures.items ∙ ap (λ l. l ++ c.as_slice.result.now)
    (c.in_ok-push_steps.ensures ∙ ap (λ l. l ++ replicate f steps.Both) c.new-steps.ensures.items)
    ∙ ap (λ l. replicate f steps.Both ++ l) c.as_slice.ensures.value))

pub returns-clause-most : goal.returns-clause-most
returns-clause-most c =
    let f = c.common_front-front.result in
    let b = c.common_back-back.result in
    let old = c.args.old.now in
    let new = c.args.new.now in
    cut_most old new c.split_at-3.result.0.now c.split_at-4.result.0.now f b
    (cut_by old new c.split_at.result.1.now c.split_at-2.result.1.now c.split_at-3.result.0.now c.split_at-4.result.0.now f b
    c.split_at.ensures.back c.split_at-2.ensures.back c.split_at-3.ensures.front c.split_at-4.ensures.front
    c.common_front-front.ensures.same c.common_back-back.ensures.same c.common_front-front.ensures.old
    c.common_back-back.ensures.old c.common_front-front.ensures.apart c.common_back-back.ensures.apart)
    c.in_ok-middle.middle.items c.push_steps-2.new.steps.items c.in_ok-middle.ensures.pairs
    (c.in_ok-push_steps-2.ensures ∙ ap (λ l. l ++ replicate b steps.Both)
    (c.in_ok-extend_from_slice.ensures.items ∙ ap (λ l. l ++ c.as_slice.result.now)
    (c.in_ok-push_steps.ensures ∙ ap (λ l. l ++ replicate f steps.Both) c.new-steps.ensures.items)
    ∙ ap (λ l. replicate f steps.Both ++ l) c.as_slice.ensures.value))
    c.in_ok-middle.ensures.most
