use Rattle.std.proofs.Common.{lit<}
use Rattle.std.proofs.lemmas.Str.Pattern.{split_parts}
use Rattle.psg_script.proofs.StepLemmas.{utf8_behind, step_from_places, read_more, read_last, no_more, no_last}
use Rattle.psg_script.proofs.fields.read_steps.Goals as goal

pub returns-in_default-read_number : goal.returns-in_default-read_number
returns-in_default-read_number c =
    let parts = rw c.in-Some.is at (split_parts 47 c.loop-word.rest.now _ c.split_once.ensures.cases (lit< tt)) in
    no_more c.args.text.now _ _ _ _ c.loop-word.invariant.1 parts.0 (step_from_places _ parts.1) c.in_default-read_number.ensures

pub loop-word-preserved : goal.loop-word-preserved
loop-word-preserved c =
    let parts = rw c.in-Some.is at (split_parts 47 c.loop-word.rest.now _ c.split_once.ensures.cases (lit< tt)) in (
      utf8_behind _ _ _ c.loop-word.invariant.0 parts.0,
      rw c.in_ok-push.ensures.items (read_more c.args.text.now _ _ _ _ _ c.loop-word.invariant.1 parts.0 c.in-Some-read_number.ensures),
    )

pub returns-in_default-read_number-2 : goal.returns-in_default-read_number-2
returns-in_default-read_number-2 c =
    let whole = rw c.in_default.is at (split_parts 47 c.loop-word.rest.now _ c.split_once.ensures.cases (lit< tt)) in
    no_last c.args.text.now _ _ c.loop-word.invariant.1 (step_from_places _ whole) c.in_default-read_number-2.ensures

pub returns : goal.returns
returns c =
    rw c.in_ok-push-2.ensures.items (read_last c.args.text.now _ _ _ c.loop-word.invariant.1 c.in-Some-read_number-2.ensures)
