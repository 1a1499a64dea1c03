use Rattle.std.proofs.Common.{subst, sym}
use Rattle.std.specs.Prelude.{MatchOption}
use Rattle.psg_grammar.specs.Fragments.{Fragment}
use Rattle.psg_program.specs.Programs.{IsProgram}
use Rattle.psg_links.specs.Spots.{IsPage}
use Rattle.psg_links.proofs.page.Page.of.Goals as goal

pub returns-in_ok-none-in-Err : goal.returns-in_ok-none-in-Err
returns-in_ok-none-in-Err g c =
    subst (λ o. MatchOption o ((f : Fragment) → IsProgram c.args.language.now c.args.kind c.args.bytes.now f → ⊥)
    (IsPage c.args.language.now c.args.kind c.args.bytes.now)) (sym c.in_ok-none-in-Err.ensures.none)
    (λ f program. c.in_ok-none-in-Err.ensures.fault c.args.kind c.args.bytes.now f c.in-Err.ensures.fault program)
