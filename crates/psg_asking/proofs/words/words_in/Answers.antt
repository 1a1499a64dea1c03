use Rattle.std.proofs.Common.{◌∷◌, [], ◌∙◌, map, ap, lit<, refl}
use Rattle.std.specs.Prelude.{string_bytes}
use Rattle.std.proofs.lemmas.Iterator.Consumers.{YieldsList-at, YieldsList-end}
use Rattle.std.proofs.lemmas.Iterator.Splits.{YieldsList-from_str_split}
use Rattle.std.proofs.lemmas.List.{map-append}
use Rattle.psg_asking.specs.Told.{words_in, words_of}
use Rattle.psg_asking.proofs.WordLaws.{words_in-push, one_taken}
use Rattle.psg_asking.proofs.words.words_in.Goals as goal

pub loop-line-init : goal.loop-line-init
loop-line-init c = ap (λ items. map string_bytes items) c.new-words.ensures.items

pub loop-line-preserved : goal.loop-line-preserved
loop-line-preserved c =
    one_taken words_of words_in refl words_in-push (map (λ w. w.now) c.loop-line.yielded) c.in-Some.line.now _ [] _ _
    (map-append (λ w. w.now) c.loop-line.yielded (c.in-Some.line ∷ [])) c.loop-line.invariant c.in_ok-push_words.ensures

pub returns : goal.returns
returns c =
    let lines = YieldsList-at {s = c.into_iter-line-iterator.result} (cc) (YieldsList-from_str_split {s = c.split-line-items.result} 10 c.args.text.now (lit< tt) c.split-line-items.ensures.text c.split-line-items.ensures.has_more c.split-line-items.ensures.pattern) in
    let end = YieldsList-end lines c.loop-line.yielded _ c.loop-line.yielded_by _ _ c.in-None.is c.next.ensures.steps in
    c.loop-line.invariant ∙ ap words_in end.0
