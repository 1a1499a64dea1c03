use Rattle.std.proofs.Common.{◌∷◌, ap, option_copied, sym, ◌∙◌}
use Rattle.psg_explain.specs.Refutations.{is_twice_among}
use Rattle.psg_scope.specs.Headers.{keys}
use Rattle.psg_explain.proofs.TwiceLaws.{first_found, first_skipped}
use Rattle.psg_explain.proofs.regions.first_of.Goals as goal

pub returns-then-is_twice : goal.returns-then-is_twice
returns-then-is_twice c = λ front h.
    first_found (keys c.args.keys.now) front c.args.key.now (option_copied c.args.found) c.least-first.result.now (ap (λ n. is_twice_among (keys c.args.keys.now) (c.args.key.now.space ∷ n)) (sym c.as_str.ensures) ∙ sym c.is_twice.ensures ∙ c.if-is_twice.true) c.least-first.ensures h

pub returns : goal.returns
returns c = λ front h.
    first_skipped (keys c.args.keys.now) front c.args.key.now (option_copied c.args.found) (ap (λ n. is_twice_among (keys c.args.keys.now) (c.args.key.now.space ∷ n)) (sym c.as_str.ensures) ∙ sym c.is_twice.ensures ∙ c.if-is_twice.false) h
