use Rattle.psg_grammar.specs.Fragments.{observed}
use Rattle.psg_grammar.specs.Paths.{observe}
use Rattle.psg_eval.proofs.Places.{stands-observed}
use Rattle.psg_eval.proofs.laws.report_made.Goals as goal

pub returns : goal.returns
returns c = λ frames path f node seen whole stand is climbs.
    (climbs (observe path f) (observed node) (stands-observed c.args._definition.now frames path f node stand) is.0).0.rows
