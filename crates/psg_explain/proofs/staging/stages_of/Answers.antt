use Rattle.std.proofs.Common.{sym, subst, ◌∙◌}
use Rattle.psg_cache.specs.Notes.{IsFormed}
use Rattle.psg_eval.specs.Starts.{AreTables}
use Rattle.psg_grammar.specs.Sound.{IsSound}
use Rattle.psg_explain.proofs.StagingLaws.{whole_stages}
use Rattle.psg_explain.proofs.staging.stages_of.Goals as goal

pub add_stages-requires : goal.add_stages-requires
add_stages-requires c =
    let same = c.definition-definition.ensures.same in
    record {
      sound = subst IsSound (sym same) c.definition-definition.ensures.sound;
      tables = subst (λ d. AreTables d c.parts-parts.result.now.tables) (c.parts-parts.ensures.definition ∙ sym same) c.parts-parts.ensures.parts.tables;
      formed = subst (λ d. IsFormed d c.args.tree.now) (sym same) c.requires;
    }

pub returns : goal.returns
returns c =
    whole_stages c.args.lang.now c.definition-definition.result.now c.args.path.now c.args.tree.now c.new-stages.result.items c.add_stages.new.stages.items c.steps.result.now c.definition-definition.ensures.same
    c.new-stages.ensures.items c.steps.ensures c.in_ok-add_stages.ensures.steps
