use Rattle.std.proofs.Common.{sym, true≢false}
use Rattle.psg_grammar.proofs.SameKinds.{two_phyla, two_lists, list_apart, phylum_apart}
use Rattle.psg_grammar.proofs.kinds.same_kind.Goals as goal

pub returns-in-Phylum-b : goal.returns-in-Phylum-b
returns-in-Phylum-b c = two_phyla c.args.a c.args.b c.in-Phylum.number c.in-Phylum-b.other c.in-Phylum.is c.in-Phylum-b.is

pub returns-in-List-b : goal.returns-in-List-b
returns-in-List-b c = (λ h. absurd (true≢false (sym h)), λ s. absurd (list_apart c.args.a c.args.b c.in-Phylum.number c.in-List-b.field-0 c.in-Phylum.is c.in-List-b.is s))

pub returns-in-List-b-2 : goal.returns-in-List-b-2
returns-in-List-b-2 c = two_lists c.args.a c.args.b c.in-List.number c.in-List-b-2.other c.in-List.is c.in-List-b-2.is

pub returns-in-Phylum-b-2 : goal.returns-in-Phylum-b-2
returns-in-Phylum-b-2 c = (λ h. absurd (true≢false (sym h)), λ s. absurd (phylum_apart c.args.a c.args.b c.in-List.number c.in-Phylum-b-2.field-0 c.in-List.is c.in-Phylum-b-2.is s))
