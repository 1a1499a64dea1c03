use Rattle.std.proofs.Common.{ap}
use Rattle.psg_terms.specs.Signature.{Signature as Plain}
use Rattle.psg_terms.proofs.Spelled.{kept-below, kept-at}
use Rattle.psg_terms.proofs.sorts.Signature.constructor.Goals as goal

pub bounds-as_slice-con : goal.bounds-as_slice-con
bounds-as_slice-con c = kept-below c.args.self.now c.self.inside.declared c.as_slice.result.now c.args.con.0 (ap (λ (s : Plain). s.symbols) c.self.view_is) c.as_slice.ensures c.requires

pub returns : goal.returns
returns c = (_, kept-at c.args.self.now c.self.inside.declared c.as_slice.result.now c.args.con.0 c.index-as_slice-con.result (ap (λ (s : Plain). s.symbols) c.self.view_is) c.as_slice.ensures c.requires)
