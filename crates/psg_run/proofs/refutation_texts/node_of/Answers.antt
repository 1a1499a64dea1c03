use Rattle.std.proofs.Common.{◌∙◌, ap, sym}
use Rattle.std.specs.Prelude.{option_copied}
use Rattle.std.proofs.lemmas.Option.{none-some}
use Rattle.psg_run.proofs.refutation_texts.node_of.Goals as goal

pub returns : goal.returns
returns c = sym c.at.ensures ∙ ap option_copied c.in-Some.is

pub unreachable-requires : goal.unreachable-requires
unreachable-requires c =
    let (n, there) = c.requires in none-some n (sym (sym c.at.ensures ∙ ap option_copied c.in-None.is) ∙ there)
