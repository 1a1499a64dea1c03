use Rattle.std.proofs.Common.{◌∙◌}
use Rattle.psg_session.proofs.Shapes.{hole_shape}
use Rattle.psg_session.proofs.changes.hole_phylum.Goals as goal

pub returns-in_default : goal.returns-in_default
returns-in_default c =
    record {
      some = tt;
      none = λ p e. let (q, s) = hole_shape c.shape.result.now p (c.shape.ensures ∙ e) in
          c.in_default.not-Hole q s;
    }
