use Rattle.std.proofs.Common.{◌∷◌, [], ◌++◌, ap, sym, ◌∙◌}
use Rattle.std.specs.Prelude.{eqb}
use Rattle.std.specs.List.{starts_with}
use Rattle.psg_asking.proofs.WordLaws.{kept_none, kept_one}
use Rattle.psg_completing.proofs.offering.push_begun.Goals as goal

pub returns-then-begins : goal.returns-then-begins
returns-then-begins c =
    kept_one (λ name. starts_with eqb name c.args.prefix.now) c.args.name.now c.args.kept.now.items _
    (ap (λ b. starts_with eqb b c.args.prefix.now) (sym c.as_bytes-bytes.ensures.value)
    ∙ sym c.starts_with-begins.ensures.value ∙ c.if-begins.true)
    (c.in_ok-push.ensures.items ∙ ap (λ t. c.args.kept.now.items ++ t ∷ []) c.in_ok-copy.ensures)

pub returns : goal.returns
returns c =
    kept_none (λ name. starts_with eqb name c.args.prefix.now) c.args.name.now c.args.kept.now.items
    (ap (λ b. starts_with eqb b c.args.prefix.now) (sym c.as_bytes-bytes.ensures.value)
    ∙ sym c.starts_with-begins.ensures.value ∙ c.if-begins.false)
