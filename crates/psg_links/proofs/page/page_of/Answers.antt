use Rattle.std.proofs.Common.{subst, sym}
use Rattle.psg_class.specs.Class.{IsClass}
use Rattle.psg_links.proofs.PageLaws.{page_is}
use Rattle.psg_links.proofs.page.page_of.Goals as goal

pub ranges_of-requires : goal.ranges_of-requires
ranges_of-requires c = record {
  class = subst IsClass (sym c.definition-definition.ensures.same) c.definition-definition.ensures.accepted.of_class;
}

pub returns : goal.returns
returns c = λ bytes program read.
    page_is c.args.language.now c.definition-definition.result.now c.args.kind bytes c.args.program c.as_slice.result.now
    c.in_ok-ranges.ranges c.in_ok-links.links c.definition-definition.ensures.same c.as_slice.ensures.value
    c.in_ok-ranges.ensures c.in_ok-links.ensures program read
