use Rattle.std.proofs.Common.{◌∷◌, [], ◌++◌, ◌∙◌, map, ap, refl}
use Rattle.std.specs.Prelude.{string_bytes}
use Rattle.std.proofs.lemmas.Iterator.Consumers.{YieldsList-at, YieldsList-end}
use Rattle.std.proofs.lemmas.Iterator.Splits.{YieldsList-from_str_split}
use Rattle.std.proofs.lemmas.List.{map-append}
use Rattle.psg_asking.specs.Told.{filled}
use Rattle.psg_asking.proofs.WordLaws.{filled-push, nothing_taken, one_taken}
use Rattle.psg_asking.proofs.words.push_parts.Goals as goal

pub loop-part-init : goal.loop-part-init
loop-part-init c = nothing_taken (λ x. filled (x ∷ [])) filled refl filled-push (map string_bytes c.args.parts.now.items)

pub loop-part-preserved : goal.loop-part-preserved
loop-part-preserved c =
    one_taken (λ x. filled (x ∷ [])) filled refl filled-push (map (λ w. w.now) c.loop-part.yielded) c.in-Some.part.now _
    (map string_bytes c.args.parts.now.items) _ _
    (map-append (λ w. w.now) c.loop-part.yielded (c.in-Some.part ∷ [])) c.loop-part.invariant c.in_ok-push_part.ensures

pub returns : goal.returns
returns c =
    let parts = YieldsList-at {s = c.into_iter-part-iterator.result} (cc) (YieldsList-from_str_split {s = c.split-part-items.result} c.args.cut c.args.text.now c.requires c.split-part-items.ensures.text c.split-part-items.ensures.has_more c.split-part-items.ensures.pattern) in
    let end = YieldsList-end parts c.loop-part.yielded _ c.loop-part.yielded_by _ _ c.in-None.is c.next.ensures.steps in
    c.loop-part.invariant ∙ ap (λ l. map string_bytes c.args.parts.now.items ++ filled l) end.0
