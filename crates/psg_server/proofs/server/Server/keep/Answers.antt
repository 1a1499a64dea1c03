use Rattle.std.proofs.Common.{refl}
use Rattle.serde_json.specs.View.{view}
use Rattle.psg_server.proofs.ServeLaws.{kept_as}
use Rattle.psg_server.proofs.server.Server.keep.Goals as goal

pub returns-clause-kept : goal.returns-clause-kept
returns-clause-kept g c =
    kept_as c.args.defined.now c.args.kind c.args.document c.args.document _ _ _ (view c.in_ok-value.value) refl
    c.in_ok-put.ensures.ok refl refl c.in_ok-value.ensures refl
