use Rattle.psg_defcheck.proofs.TableLaws.{is_among-sort}
use Rattle.psg_defcheck.proofs.scope.Scope.is_sort.Goals as goal

pub returns : goal.returns
returns c = is_among-sort c.args.self.now c.args.name.now c.sort.result c.is_some.result c.sort.ensures c.is_some.ensures
