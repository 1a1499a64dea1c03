use Rattle.std.proofs.Common.{◌≡◌, [], true, false, append-nil, sym, ◌∙◌, true≢false, rules}
use Rattle.psg_lint.specs.Wrongs.{none_wrong}
use Rattle.psg_lint.proofs.judging.tell_if_wrong.Goals as goal

pub returns-then-good : goal.returns-then-good
returns-then-good g c = λ r is.
    let yes : c.args.good ≡ true = search rules in
    ([], sym (append-nil c.args.found.now.items), (false, none_wrong (c.requires.good.0 yes)))

pub tell_wrong-requires-clause-wrong : goal.tell_wrong-requires-clause-wrong
tell_wrong-requires-clause-wrong g c = λ o.
    let no : c.args.good ≡ false = search rules in true≢false (sym (c.requires.good.1 o) ∙ no)
