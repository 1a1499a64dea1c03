use Rattle.psg_deflines.specs.declared.lines.Line.TheVariants as lines
use Rattle.psg_defnumber.proofs.LineLaws.{declare-put}
use Rattle.psg_defnumber.proofs.NamedLaws.{known-line, meant-line}
use Rattle.psg_defnumber.proofs.holes.put_declare_row.Goals as goal

pub declare_row-requires-clause-space : goal.declare_row-requires-clause-space
declare_row-requires-clause-space c = (known-line c.args.checked.now c.args.entry.now c.in-Some.line (lines.Declare c.in-Declare.space c.in-Declare.list c.in-Declare.entity c.in-Declare.value c.in-Declare.specimen) c.requires.known c.in-Some.is c.in-Declare.is).0

pub declare_row-requires-clause-spaces : goal.declare_row-requires-clause-spaces
declare_row-requires-clause-spaces c =
    (meant-line c.args.checked.now c.args.entry.now c.in-Some.line (lines.Declare c.in-Declare.space c.in-Declare.list c.in-Declare.entity c.in-Declare.value c.in-Declare.specimen) c.requires.known c.in-Some.is c.in-Declare.is).entity

pub declare_row-requires-clause-form : goal.declare_row-requires-clause-form
declare_row-requires-clause-form c = (meant-line c.args.checked.now c.args.entry.now c.in-Some.line (lines.Declare c.in-Declare.space c.in-Declare.list c.in-Declare.entity c.in-Declare.value c.in-Declare.specimen) c.requires.known c.in-Some.is c.in-Declare.is).form.4

pub declare_row-requires-clause-sorted : goal.declare_row-requires-clause-sorted
declare_row-requires-clause-sorted c =
    let sorted = (meant-line c.args.checked.now c.args.entry.now c.in-Some.line (lines.Declare c.in-Declare.space c.in-Declare.list c.in-Declare.entity c.in-Declare.value c.in-Declare.specimen) c.requires.known c.in-Some.is c.in-Declare.is).sorted in (sorted.0, sorted.1.0, sorted.1.1, sorted.1.2)

pub declare_row-requires-clause-list : goal.declare_row-requires-clause-list
declare_row-requires-clause-list c = (known-line c.args.checked.now c.args.entry.now c.in-Some.line (lines.Declare c.in-Declare.space c.in-Declare.list c.in-Declare.entity c.in-Declare.value c.in-Declare.specimen) c.requires.known c.in-Some.is c.in-Declare.is).1

pub declare_row-requires-clause-tree : goal.declare_row-requires-clause-tree
declare_row-requires-clause-tree c = (known-line c.args.checked.now c.args.entry.now c.in-Some.line (lines.Declare c.in-Declare.space c.in-Declare.list c.in-Declare.entity c.in-Declare.value c.in-Declare.specimen) c.requires.known c.in-Some.is c.in-Declare.is).4

pub declare_row-requires-clause-entity : goal.declare_row-requires-clause-entity
declare_row-requires-clause-entity c = (known-line c.args.checked.now c.args.entry.now c.in-Some.line (lines.Declare c.in-Declare.space c.in-Declare.list c.in-Declare.entity c.in-Declare.value c.in-Declare.specimen) c.requires.known c.in-Some.is c.in-Declare.is).2

pub declare_row-requires-clause-value : goal.declare_row-requires-clause-value
declare_row-requires-clause-value c = (known-line c.args.checked.now c.args.entry.now c.in-Some.line (lines.Declare c.in-Declare.space c.in-Declare.list c.in-Declare.entity c.in-Declare.value c.in-Declare.specimen) c.requires.known c.in-Some.is c.in-Declare.is).3

pub returns : goal.returns
returns c = λ rest.
    declare-put c.args.definition.now c.args.entry.now c.in-Some.line c.in-Declare.space c.in-Declare.list c.in-Declare.entity c.in-Declare.value c.in-Declare.specimen rest c.args.made.now.items c.push.new.self.items c.in_ok-one.one c.in-Some.is c.in-Declare.is
    c.in_ok-push.ensures.items c.in_ok-one.ensures
