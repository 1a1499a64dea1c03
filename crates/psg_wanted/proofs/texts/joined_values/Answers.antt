use Rattle.psg_wanted.proofs.TextLaws.{first_sorted, rest_sorted}
use Rattle.psg_wanted.proofs.texts.joined_values.Goals as goal

pub term_text-requires : goal.term_text-requires
term_text-requires c = first_sorted c.args.sig.now c.args.terms.now c.in-Some.rest.now c.in-Some.first.now c.requires c.in-Some.ensures.cases.0

pub push_after_ors-requires : goal.push_after_ors-requires
push_after_ors-requires c = rest_sorted c.args.sig.now c.args.terms.now c.in-Some.rest.now c.in-Some.first.now c.requires c.in-Some.ensures.cases.0
