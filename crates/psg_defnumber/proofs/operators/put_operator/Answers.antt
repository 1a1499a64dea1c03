use Rattle.std.proofs.Common.{◌≡◌, ◌⊎◌, false, IsTrue, is_some, ap, refl, subst, sym, ◌∙◌, ◌∷◌, ◌++◌, [], Some, None}
use Rattle.std.specs.List.{AllByRecursion, list_any}
use Rattle.psg_terms.specs.Kept.{numbers_of}
use Rattle.psg_grammar.specs.declared.types.Kind.TheVariants as kinds
use Rattle.psg_grammar.specs.Sound.{AreColumns, IsItem}
use Rattle.psg_deflines.specs.Entries.{written}
use Rattle.psg_deflines.specs.declared.lines.Line.TheVariants as lines
use Rattle.psg_defcheck.specs.Meanings.{KnowsItem, is_name_item}
use Rattle.psg_defcheck.specs.Scopes.{entity_sort}
use Rattle.psg_defcheck.specs.Meanings.{column_places}
use Rattle.psg_defcheck.specs.Faults.{ArePassed}
use Rattle.psg_defcheck.proofs.AboveLaws.{last_operator-append}
use Rattle.psg_defnumber.specs.Sorts.{AreSortsOf}
use Rattle.psg_defnumber.proofs.StandLaws.{value-at, columns-placed}
use Rattle.psg_defnumber.proofs.PlacingLaws.{rows-fit}
use Rattle.psg_defnumber.proofs.MadeLaws.{keeps-self}
use Rattle.psg_defnumber.specs.Growing.{Lasts}
use Rattle.psg_defnumber.specs.Numbers.{AreItems, AreRows}
use Rattle.psg_defnumber.proofs.NamedLaws.{known-line, meant-line, phylum-is, kind-there, items-there}
use Rattle.psg_defnumber.proofs.LineLaws.{operator-put}
use Rattle.psg_defnumber.proofs.operators.put_operator.Goals as goal

pub phylum_named-phylum-requires : goal.phylum_named-phylum-requires
phylum_named-phylum-requires c =
    (known-line c.args.checked.now c.args.entry.now c.in-Some.line (lines.Operator c.in-Operator.name c.in-Operator.phylum c.in-Operator.scope c.in-Operator.level c.in-Operator.parts) c.requires.known c.in-Some.is c.in-Operator.is).0

pub items-requires-clause-known : goal.items-requires-clause-known
items-requires-clause-known c =
    subst (AllByRecursion (KnowsItem c.args.checked.now)) (sym c.as_slice.ensures)
    (known-line c.args.checked.now c.args.entry.now c.in-Some.line (lines.Operator c.in-Operator.name c.in-Operator.phylum c.in-Operator.scope c.in-Operator.level c.in-Operator.parts) c.requires.known c.in-Some.is c.in-Operator.is).1

pub phylum_sort-sort-requires : goal.phylum_sort-sort-requires
phylum_sort-sort-requires c =
    kind-there c.args.checked.now (kinds.Phylum c.phylum_named-phylum.result) c.in-Operator.phylum c.phylum_named-phylum.ensures c.args.definition.now c.requires.kinds

pub columns-requires : goal.columns-requires
columns-requires c =
    let line = meant-line c.args.checked.now c.args.entry.now c.in-Some.line (lines.Operator c.in-Operator.name c.in-Operator.phylum c.in-Operator.scope c.in-Operator.level c.in-Operator.parts) c.requires.known c.in-Some.is c.in-Operator.is in
    subst (AllByRecursion (IsItem c.args.definition.now)) (sym c.as_slice-2.ensures.value)
    (items-there c.args.checked.now c.args.definition.now c.requires.kinds c.as_slice.result.now c.in_ok-items.items.items
    (subst (λ parts. (list_any is_name_item parts ≡ false) ⊎ IsTrue (is_some (entity_sort c.args.checked.now))) (sym c.as_slice.ensures) line.entity)
    (c.in_ok-items.ensures c.args.definition.now (keeps-self c.args.definition.now)))

pub rows-requires-clause-fits : goal.rows-requires-clause-fits
rows-requires-clause-fits c =
    let file = c.args.checked.now in
    let def = c.args.definition.now in
    let has = c.requires.kinds in
    let above = c.requires.passed.0 in
    let line = lines.Operator c.in-Operator.name c.in-Operator.phylum c.in-Operator.scope c.in-Operator.level c.in-Operator.parts in
    let passed = subst (λ e. ArePassed file above (written (e ∷ c.args.behind.now))) (c.in-Some.is ∙ ap Some c.in-Operator.is) c.requires.passed.1 in
    let of_sort = value-at file def has c.in-Operator.phylum (kinds.Phylum c.phylum_named-phylum.result) c.phylum_sort-sort.result.0 c.phylum_named-phylum.ensures (c.phylum_sort-sort.ensures def (keeps-self def)) in
    let items = subst (λ parts. AreItems def parts c.in_ok-items.items.items) c.as_slice.ensures (c.in_ok-items.ensures def (keeps-self def)) in
    let columns = subst (λ xs. AreColumns def xs (numbers_of c.in_ok-sorts.sorts.items)) c.as_slice-2.ensures.value (c.in_ok-sorts.ensures def (keeps-self def)) in
    let placed = subst (λ ss. AreSortsOf file (column_places file c.in-Operator.parts) (numbers_of ss)) (sym c.as_slice-3.ensures.value) (columns-placed file def has c.in-Operator.parts c.in_ok-items.items.items (numbers_of c.in_ok-sorts.sorts.items) items columns) in
    rows-fit file has.once (record { phylum = c.in-Operator.phylum; made = c.in-Operator.parts }) c.phylum_sort-sort.result.0 (numbers_of c.as_slice-3.result.now) of_sort placed (above ++ line ∷ []) (written c.args.behind.now) (last_operator-append None above (line ∷ [])) passed.1

pub returns : goal.returns
returns c =
    operator-put c.args.definition.now c.args.entry.now c.in-Some.line c.in-Operator.name c.in-Operator.phylum c.in-Operator.scope c.in-Operator.level c.as_slice.result.now c.args.behind.now c.args.made.now.items c.push.new.self.items _ c.phylum_sort-sort.result.0 c.as_slice-3.result.now
    c.in-Some.is (c.in-Operator.is ∙ ap (lines.Operator c.in-Operator.name c.in-Operator.phylum c.in-Operator.scope c.in-Operator.level) (sym c.as_slice.ensures)) c.in_ok-push.ensures.items c.in_ok-name.ensures (phylum-is c.args.checked.now c.phylum_named-phylum.result c.in-Operator.phylum c.phylum_named-phylum.ensures c.args.definition.now c.requires.kinds.phyla) refl refl
    (subst (λ is. Lasts c.args.definition.now (λ full. AreItems full c.as_slice.result.now is)) (sym c.of.ensures) c.in_ok-items.ensures)
    c.phylum_sort-sort.ensures
    (subst (λ is. Lasts c.args.definition.now (λ full. AreColumns full is (numbers_of c.as_slice-3.result.now))) (c.as_slice-2.ensures.value ∙ sym c.of.ensures)
    (subst (λ ss. Lasts c.args.definition.now (λ full. AreColumns full c.as_slice-2.result.now (numbers_of ss))) (sym c.as_slice-3.ensures.value) c.in_ok-sorts.ensures))
    (subst (λ rs. Lasts c.args.definition.now (λ full. AreRows full c.phylum_sort-sort.result.0 (numbers_of c.as_slice-3.result.now) (written c.args.behind.now) rs)) (sym c.of-2.ensures) c.in_ok-rows.ensures)
