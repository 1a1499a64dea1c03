use Rattle.std.proofs.Common.{refl}
use Rattle.psg_defcheck.proofs.TableLaws.{sort-added, space-added, phylum-added, list-added, operator-added}
use Rattle.psg_defcheck.proofs.tables.Tables.add.Goals as goal

pub returns-in_ok-insert-in-Sort : goal.returns-in_ok-insert-in-Sort
returns-in_ok-insert-in-Sort c = λ file h.
    sort-added file c.args.self.now c.insert.new.self c.add_constructors.new.table c.args.line.now c.in-Sort.d c.in-Sort.d.name c.as_str-name.result.now c.as_slice.result.now _
    h c.in-Sort.is c.as_str-name.ensures c.as_slice.ensures refl c.in_ok-insert-in-Sort.ensures.updates c.in_ok-add_constructors-in-Sort.ensures

pub returns-in_ok-insert-in-Phylum : goal.returns-in_ok-insert-in-Phylum
returns-in_ok-insert-in-Phylum c = λ file h.
    phylum-added file c.args.self.now c.insert-in-Phylum.new.self c.args.line.now c.in-Phylum.name c.in-Phylum.sort c.as_str-in-Phylum.result.now c.in-Phylum.bracketed c.as_str-sort-in-Phylum.result
    h c.in-Phylum.is c.as_str-in-Phylum.ensures c.as_str-sort-in-Phylum.ensures c.in_ok-insert-in-Phylum.ensures.updates

pub returns-in_ok-insert-in-List : goal.returns-in_ok-insert-in-List
returns-in_ok-insert-in-List c = λ file h.
    list-added file c.args.self.now c.insert-in-List.new.self c.args.line.now c.in-List.name c.in-List.sort c.in-List.element c.in-List.separator c.as_str-in-List.result.now c.in-List.lines c.in-List.unfinished
    c.as_str-sort-in-List.result c.as_str-element.result h c.in-List.is c.as_str-in-List.ensures c.as_str-sort-in-List.ensures c.as_str-element.ensures c.in_ok-insert-in-List.ensures.updates

pub returns-in_ok-insert-in-Operator : goal.returns-in_ok-insert-in-Operator
returns-in_ok-insert-in-Operator c = λ file h.
    operator-added file c.args.self.now c.insert-in-Operator.new.self c.args.line.now c.in-Operator.name c.in-Operator.phylum c.as_str-in-Operator.result.now c.in-Operator.scope c.in-Operator.level c.in-Operator.items
    (record { phylum = c.as_str-phylum.result; items = c.as_slice-items.result }) h c.in-Operator.is c.as_str-in-Operator.ensures c.as_str-phylum.ensures c.as_slice-items.ensures c.in_ok-insert-in-Operator.ensures.updates

pub returns-in_ok-insert-in-Space : goal.returns-in_ok-insert-in-Space
returns-in_ok-insert-in-Space c = λ file h.
    space-added file c.args.self.now c.insert-in-Space.new.self c.args.line.now c.in-Space.name c.in-Space.sort c.as_str.result.now c.as_str-sort.result
    h c.in-Space.is c.as_str.ensures c.as_str-sort.ensures c.in_ok-insert-in-Space.ensures.updates
