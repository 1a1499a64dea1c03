use Rattle.std.proofs.Common.{refl, ◌∙◌}
use Rattle.psg_deflines.specs.declared.lines.Line.TheVariants as lines
use Rattle.psg_defnumber.proofs.NamedLaws.{known-line, sort-is, phylum-is}
use Rattle.psg_defnumber.proofs.LineLaws.{list-put}
use Rattle.psg_defnumber.proofs.kinds.put_list.Goals as goal

pub sort_named-sort-requires : goal.sort_named-sort-requires
sort_named-sort-requires c =
    (known-line c.args.checked.now c.args.entry.now c.in-Some.line (lines.List c.in-List.name c.in-List.sort c.in-List.element c.in-List.separator c.in-List.lines c.in-List.unfinished) c.requires c.in-Some.is c.in-List.is).0

pub phylum_named-element-requires : goal.phylum_named-element-requires
phylum_named-element-requires c =
    (known-line c.args.checked.now c.args.entry.now c.in-Some.line (lines.List c.in-List.name c.in-List.sort c.in-List.element c.in-List.separator c.in-List.lines c.in-List.unfinished) c.requires c.in-Some.is c.in-List.is).1

pub returns : goal.returns
returns c = λ def rest h k.
    list-put def c.args.entry.now c.in-Some.line c.in-List.name c.in-List.sort c.in-List.element c.in-List.separator c.in-List.lines c.in-List.unfinished rest c.args.made.now.items c.push.new.self.items _
    c.in-Some.is c.in-List.is c.in_ok-push.ensures.items c.in_ok-name.ensures (sort-is c.args.checked.now c.sort_named-sort.result.0 c.in-List.sort c.sort_named-sort.ensures def h) (phylum-is c.args.checked.now c.phylum_named-element.result c.in-List.element c.phylum_named-element.ensures def k) c.in_ok-separator.ensures refl refl (c.of.ensures ∙ c.new.ensures.items) (c.of-2.ensures ∙ c.new-2.ensures.items)
