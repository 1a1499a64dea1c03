use Rattle.std.proofs.Common.{ℕ, List, ◌∷◌, [], ◌++◌, map, refl}
use Rattle.std.specs.Prelude.{codes, string_bytes}
use Rattle.psg_run.specs.Explaining.{case_line, culprit_line}
use Rattle.psg_run.proofs.Saying.{culprit_lines}
use Rattle.psg_run.proofs.refutation_texts.culprit_text.Goals as goal

pub node_of-node-requires : goal.node_of-node-requires
node_of-node-requires c = c.requires.there

pub last_of-claim-requires : goal.last_of-claim-requires
last_of-claim-requires c = c.requires.some

pub returns : goal.returns
returns c =
    let first : List ℕ = culprit_line c.args.path.now c.node_of-node.result.now c.last_of-claim.result.now in
    let told : List (List ℕ) = map (case_line c.args.definition.now.signature) c.args.told.now in (
      first ∷ told ++ codes "checked" ∷ [],
      (c.node_of-node.result.now, c.node_of-node.ensures, c.last_of-claim.ensures.0, c.last_of-claim.result.now, c.last_of-claim.ensures.1, c.requires.own c.last_of-claim.ensures.0 c.last_of-claim.result.now c.last_of-claim.ensures.1, refl),
      culprit_lines first told (string_bytes c.new-text.result) (string_bytes c.push_culprit.new.text) (string_bytes c.push_cases.new.text) (string_bytes c.push_str.new.self)
          c.new-text.ensures.bytes c.in_ok-push_culprit.ensures c.in_ok-push_cases.ensures c.in_ok-push_str.ensures.bytes,
    )
