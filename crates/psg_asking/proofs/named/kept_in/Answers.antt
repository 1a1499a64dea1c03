use Rattle.std.proofs.Common.{◌∙◌, ◌++◌, ap, map}
use Rattle.std.specs.Prelude.{string_bytes}
use Rattle.std.specs.List.{filter}
use Rattle.psg_terms.specs.Names.{is_among}
use Rattle.psg_renaming.specs.Occurring.{occurring}
use Rattle.psg_asking.proofs.named.kept_in.Goals as goal

pub returns : goal.returns
returns c =
    c.in_ok-kept.ensures
    ∙ ap (λ ns. filter (λ w. is_among ns w) (map string_bytes c.args.words.now))
    (c.as_slice.ensures.value ∙ c.in_ok-gather.ensures
    ∙ ap (λ l. l ++ occurring c.args.tree.now) c.new-names.ensures.items)
