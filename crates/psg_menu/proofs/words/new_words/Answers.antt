use Rattle.std.proofs.Common.{◌≡◌, ◌+◌, ◌++◌, ◌∷◌, [], ◌∙◌, ap, List, ℕ, arith}
use Rattle.psg_menu.specs.Trials.{run}
use Rattle.psg_menu.proofs.WordLaws.{run_push, runs_new, runs_next, runs_none}
use Rattle.psg_menu.proofs.words.new_words.Goals as goal

pub loop-init : goal.loop-init
loop-init c =
    let e : c.args.longest ≡ c.args.longest + 0 = omega arith in
    record {
      text = c.in_ok-text.ensures ∙ ap run e;
      runs = runs_none c.args.definition.now c.args.used.now c.args.longest c.requires.used c.requires.fixed c.in_ok-words.words.items c.in_ok-words.ensures.items;
    }

pub loop-preserved : goal.loop-preserved
loop-preserved c =
    let n = c.args.longest + c.loop.counter in
    let text = c.in_ok-push_str.ensures.bytes ∙ ap (λ (b : List ℕ). b ++ 97 ∷ []) c.loop.invariant.text ∙ run_push n in
    let e : n + 1 ≡ c.args.longest + (c.loop.counter + 1) = omega arith in
    record {
      text = text ∙ ap run e;
      runs =
          runs_next c.args.definition.now c.args.used.now c.args.longest c.requires.used c.requires.fixed c.loop.words.items c.push.new.self.items c.loop.counter c.in_ok-word.word
          c.loop.invariant.runs (c.in_ok-word.ensures ∙ c.as_str-now.ensures.value ∙ text) c.in_ok-push.ensures.items;
    }

pub returns-clause-new : goal.returns-clause-new
returns-clause-new c =
    runs_new c.args.definition.now c.args.used.now c.args.longest c.requires.used c.requires.fixed c.loop.words.items c.loop.counter c.loop.invariant.runs
