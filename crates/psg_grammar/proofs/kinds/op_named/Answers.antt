use Rattle.std.proofs.Common.{◌≡◌, Some, ap}
use Rattle.psg_grammar.specs.declared.types.Operator.{Operator}
use Rattle.psg_grammar.specs.Kinds.{op_name_of}
use Rattle.psg_grammar.proofs.NamePlaces.{found_by, missing_by, only_op}
use Rattle.psg_grammar.proofs.kinds.op_named.Goals as goal

named : (c : goal.In-Some) → op_name_of c.args.definition.now c.in-Some.place ≡ Some c.args.name.now
named c = found_by (λ (o : Operator). o.name) c.args.name.now c.as_slice.result.now c.args.definition.now.operators c.operator_place.result c.in-Some.place c.as_slice.ensures c.operator_place.ensures c.in-Some.is

pub returns-in-Some-clause-found : goal.returns-in-Some-clause-found
returns-in-Some-clause-found c = named c

pub returns-in-Some-clause-only : goal.returns-in-Some-clause-only
returns-in-Some-clause-only c = λ o e. ap Some (only_op c.args.definition.now c.requires.operator_names c.in-Some.place o c.args.name.now (named c) e)

pub returns-in-None-clause-only : goal.returns-in-None-clause-only
returns-in-None-clause-only c = λ o e. absurd (missing_by (λ (o : Operator). o.name) c.args.name.now c.as_slice.result.now c.args.definition.now.operators c.operator_place.result c.as_slice.ensures c.operator_place.ensures c.in-None.is o e)
