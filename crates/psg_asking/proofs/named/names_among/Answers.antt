use Rattle.psg_renaming.specs.Occurring.{occurring}
use Rattle.psg_asking.proofs.WordLaws.{kept_told, refusal_told}
use Rattle.psg_asking.proofs.named.names_among.Goals as goal

pub returns-in_ok-kept-in-Ok : goal.returns-in_ok-kept-in-Ok
returns-in_ok-kept-in-Ok c =
    kept_told (occurring c.args.tree.now) c.args.read c.in-Ok.words c.as_slice.result.now c.in_ok-kept-in-Ok.kept
    c.in-Ok.is c.as_slice.ensures.value c.in_ok-kept-in-Ok.ensures

pub returns-in-Err : goal.returns-in-Err
returns-in-Err c = refusal_told (occurring c.args.tree.now) c.args.read c.in-Err.refusal c.in-Err.is
