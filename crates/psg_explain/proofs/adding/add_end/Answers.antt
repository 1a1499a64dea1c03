use Rattle.std.proofs.Common.{ap, ◌∙◌, ◌++◌, ◌∷◌, [], length, Some}
use Rattle.psg_explain.specs.declared.stages.Site.TheVariants as sites
use Rattle.psg_explain.specs.declared.stages.Source.TheVariants as sources
use Rattle.psg_explain.specs.Added.{stage_of}
use Rattle.psg_explain.proofs.StagingLaws.{end_comes, end_formed, list_there}
use Rattle.psg_explain.proofs.adding.add_end.Goals as goal

pub end_header-requires-clause-there : goal.end_header-requires-clause-there
end_header-requires-clause-there c = list_there c.args.known.definition.now c.args.node.list c.args.node.elements.now c.args.node.unfinished c.requires.formed

pub returns : goal.returns
returns c =
    let l = c.args.node.list in
    let u = c.args.node.unfinished in
    let h = c.in_ok-header.header in
    let made =
    end_comes c.args.known.definition.now c.args.path.now (length c.args.node.elements.now) l u h c.args.stages.now.items c.add.new.stages.items
    (end_formed c.args.known.definition.now l c.args.node.elements.now u c.requires.formed) c.in_ok-header.ensures.header c.in_ok-header.ensures.ordered
    (c.in_ok-add.ensures ∙ ap (λ n. c.args.stages.now.items ++ stage_of c.args.path.now (Some n) 0 (sites.End l u) (record { header = h; source = sources.Own }) ∷ []) c.in_ok-number.ensures.number) in
    record { steps = made.0; last = made.1 }
