use Rattle.std.proofs.Common.{◌≡◌, ◌<◌, ◌^◌, length, subst, sym, ◌∙◌}
use Rattle.psg_grammar.specs.declared.types.Definition.{Definition}
use Rattle.psg_defread.specs.Reading.{Spells}
use Rattle.psg_self.specs.Export.{exported}
use Rattle.psg_self.proofs.Checked.{read-as, refused}
use Rattle.psg_self.proofs.exporting.check_export.Goals as goal

pub read_definition-requires : goal.read_definition-requires
read_definition-requires c =
    subst (λ bytes. length bytes < 2 ^ 32) (sym (c.as_slice.ensures.value ∙ c.in_ok-bytes.ensures.bytes)) (c.requires.short c.in_ok-bytes.ensures.complete)

pub returns-in-Ok-clause-checked : goal.returns-in-Ok-clause-checked
returns-in-Ok-clause-checked c =
    read-as c.as_slice.result.now (exported c.args.tree.now) c.in-Ok.definition (c.as_slice.ensures.value ∙ c.in_ok-bytes.ensures.bytes)
    c.in-Ok.ensures.ok c.in-Ok.ensures.faultless

pub returns-in-Def-clause-checked : goal.returns-in-Def-clause-checked
returns-in-Def-clause-checked c =
    refused c.as_slice.result.now (exported c.args.tree.now) c.in-Err.fault c.in-Def.fault
    (c.as_slice.ensures.value ∙ c.in_ok-bytes.ensures.bytes) c.in-Def.is c.in-Err.ensures.err

pub returns-in-Ok-clause-says : goal.returns-in-Ok-clause-says
returns-in-Ok-clause-says c =
    c.only_says.ensures c.args.language.now c.args.tree.now c.requires.itself c.requires.formed c.in_ok-bytes.ensures.complete c.in-Ok.definition
    (read-as c.as_slice.result.now (exported c.args.tree.now) c.in-Ok.definition (c.as_slice.ensures.value ∙ c.in_ok-bytes.ensures.bytes)
    c.in-Ok.ensures.ok c.in-Ok.ensures.faultless)

pub returns-in-Ok-clause-only : goal.returns-in-Ok-clause-only
returns-in-Ok-clause-only c =
    subst (λ bytes. (other : Definition) → Spells bytes other → other ≡ c.in-Ok.definition)
    (c.as_slice.ensures.value ∙ c.in_ok-bytes.ensures.bytes) c.in-Ok.ensures.only
