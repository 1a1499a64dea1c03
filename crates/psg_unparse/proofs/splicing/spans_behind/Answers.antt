use Rattle.std.proofs.Common.{ap, drop, sym, subst, ◌∙◌, ◌+◌}
use Rattle.std.specs.Prelude.{All}
use Rattle.std.proofs.lemmas.List.{drop-drop}
use Rattle.std.proofs.lemmas.List.Elements.{All-drop}
use Rattle.psg_unparse.specs.Splicing.{IsSmall}
use Rattle.psg_unparse.proofs.splicing.spans_behind.Goals as goal

pub returns-clause-behind : goal.returns-clause-behind
returns-clause-behind c =
    c.spans_after.ensures ∙ ap (drop c.args.count) c.spans_after-from.ensures
    ∙ drop-drop c.args.count c.args.place c.args.spans.now

pub returns-clause-small : goal.returns-clause-small
returns-clause-small c = λ h.
    subst (All IsSmall)
    (sym (c.spans_after.ensures ∙ ap (drop c.args.count) c.spans_after-from.ensures
    ∙ drop-drop c.args.count c.args.place c.args.spans.now))
    (All-drop IsSmall (c.args.place + c.args.count) c.args.spans.now h)
