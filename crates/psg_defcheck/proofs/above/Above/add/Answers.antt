use Rattle.psg_defcheck.proofs.AboveLaws.{above-behind, behind-sort, behind-space, behind-phylum, behind-list, behind-operator, behind-hole, behind-other}
use Rattle.psg_defcheck.proofs.above.Above.add.Goals as goal

pub returns-in_ok-add_constructors-in-Sort : goal.returns-in_ok-add_constructors-in-Sort
returns-in_ok-add_constructors-in-Sort c = λ above h new.
    above-behind above c.args.line.now c.args.self.now _ h
    (behind-sort above c.args.line.now c.args.self.now c.in-Sort.d c.insert.new.self c.add_constructors.new.names c.as_str.result.now c.as_slice.result.now h new c.in-Sort.is c.as_str.ensures c.as_slice.ensures
    c.in_ok-insert-in-Sort.ensures.last c.in_ok-add_constructors-in-Sort.ensures)

pub returns-in_ok-insert-in-Space : goal.returns-in_ok-insert-in-Space
returns-in_ok-insert-in-Space c = λ above h new.
    above-behind above c.args.line.now c.args.self.now _ h
    (behind-space above c.args.line.now c.args.self.now c.in-Space.name c.in-Space.sort c.insert-in-Space.new.self c.as_str-in-Space.result.now h new c.in-Space.is c.as_str-in-Space.ensures c.in_ok-insert-in-Space.ensures.last)

pub returns-in_ok-insert-in-Phylum : goal.returns-in_ok-insert-in-Phylum
returns-in_ok-insert-in-Phylum c = λ above h new.
    above-behind above c.args.line.now c.args.self.now _ h
    (behind-phylum above c.args.line.now c.args.self.now c.in-Phylum.name c.in-Phylum.sort c.in-Phylum.bracketed c.insert-in-Phylum.new.self c.as_str-in-Phylum.result.now h new c.in-Phylum.is c.as_str-in-Phylum.ensures
    c.in_ok-insert-in-Phylum.ensures.last)

pub returns-in_ok-insert-in-List : goal.returns-in_ok-insert-in-List
returns-in_ok-insert-in-List c = λ above h new.
    above-behind above c.args.line.now c.args.self.now _ h
    (behind-list above c.args.line.now c.args.self.now c.in-List.name c.in-List.sort c.in-List.element c.in-List.separator c.in-List.lines c.in-List.unfinished c.insert-in-List.new.self c.as_str-in-List.result.now h new c.in-List.is
    c.as_str-in-List.ensures c.in_ok-insert-in-List.ensures.last)

pub returns-in_ok-insert-in-Operator : goal.returns-in_ok-insert-in-Operator
returns-in_ok-insert-in-Operator c = λ above h new.
    above-behind above c.args.line.now c.args.self.now _ h
    (behind-operator above c.args.line.now c.args.self.now c.in-Operator.name c.in-Operator.phylum c.in-Operator.scope c.in-Operator.level c.in-Operator.items c.insert-in-Operator.new.self c.as_str-in-Operator.result.now
    (record { phylum = c.as_str-phylum.result; items = c.as_slice-items.result }) h new c.in-Operator.is c.as_str-in-Operator.ensures c.as_str-phylum.ensures c.as_slice-items.ensures c.in_ok-insert-in-Operator.ensures.last)

pub returns-in-Hole : goal.returns-in-Hole
returns-in-Hole c = λ above h new.
    above-behind above c.args.line.now c.args.self.now _ h (behind-hole c.args.line.now c.args.self.now c.in-Hole.kind c.in-Hole.term c.in-Hole.specimen c.as_str-in-Hole.result c.in-Hole.is c.as_str-in-Hole.ensures)

pub returns-in_default : goal.returns-in_default
returns-in_default c = λ above h new.
    above-behind above c.args.line.now c.args.self.now _ h
    (behind-other c.args.line.now c.args.self.now c.in_default.not-Sort c.in_default.not-Space c.in_default.not-Phylum c.in_default.not-List c.in_default.not-Operator c.in_default.not-Hole)
