use Rattle.std.proofs.Common.{subst, sym}
use Rattle.std.specs.Prelude.{string_bytes}
use Rattle.psg_grammar.specs.WellFormed.{fixed_words}
use Rattle.psg_completing.specs.Naming.{IsSampleOf}
use Rattle.psg_completing.proofs.naming.sample_name.Goals as goal

pub returns : goal.returns
returns c =
    subst (IsSampleOf (fixed_words c.args.language.now)) (sym c.in_ok-name.ensures)
    (subst (λ words. IsSampleOf words (string_bytes c.in_ok-word.word)) c.lexis-lexis.ensures c.in_ok-word.ensures)
