use Rattle.std.proofs.Common.{ℕ, ap, ◌∙◌}
use Rattle.psg_terms.proofs.Lists.{slice_get_item, slice_get_once}
use Rattle.std.specs.Prelude.{Vec}
use Rattle.std.specs.declared.alloc.Global.{Global}
use Rattle.psg_specimen.proofs.declarable.spaces_of.Goals as goal

pub returns : goal.returns
returns c = λ v at. c.as_slice.ensures.value ∙ ap (λ (x : Vec ℕ Global). x.items)
    (slice_get_once c.args.table.now c.args.phylum c.index-table-phylum.result v (slice_get_item c.args.table.now c.args.phylum c.index-table-phylum.result c.requires c.index-table-phylum.is) at)
