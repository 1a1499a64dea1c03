use Rattle.std.proofs.Common.{◌≡◌, [], false, length, List, ℕ, refl, sym, subst, ap, ◌∙◌, arith}
use Rattle.psg_grammar.specs.declared.types.Item.{Item}
use Rattle.psg_grammar.specs.declared.types.Kind.TheVariants.{Phylum}
use Rattle.psg_relation.specs.declared.relation.Rel.{Rel}
use Rattle.psg_scope.specs.Headers.{declared_keys, IsHeader, keys}
use Rattle.psg_scope.specs.declared.header.NameCol.{NameCol}
use Rattle.psg_eval.specs.Own.{AreOwn, IsOwn, name_columns, slot_columns}
use Rattle.psg_eval.specs.OwnRows.{positions}
use Rattle.psg_eval.specs.Partials.{IsPartial}
use Rattle.psg_eval.specs.Summaries.{are_names, slot_kinds}
use Rattle.psg_eval.proofs.ItemSteps.{columns_many, names_counted}
use Rattle.psg_eval.proofs.OwnSelect.{own_partial, slot_few}
use Rattle.psg_eval.proofs.own.first_step.Goals as goal
use Rattle.psg_eval.proofs.own.first_step.Goals.{After-as_slice-3, After-as_slice-slots, then-own, else-own+in_ok-rel}

pub item_places-requires-clause-fits : goal.item_places-requires-clause-fits
item_places-requires-clause-fits c = (c.args.definition.now, ap (λ (xs : List Item). length (are_names c.args.definition.now xs)) c.as_slice.ensures ∙ c.requires.names)

positions_are : (c : After-as_slice-3) → c.as_slice-2.result.now ≡ positions c.args.operator.now.items c.args.names.now
positions_are c = c.as_slice-2.ensures.value ∙ c.in_ok-found.ensures.positions ∙ ap (λ (xs : List Item). positions xs c.args.names.now) c.as_slice.ensures

columns_are : (c : After-as_slice-3) → c.as_slice-3.result.now ≡ name_columns 1 c.args.operator.now.items
columns_are c = c.as_slice-3.ensures.value ∙ c.in_ok-found.ensures.names ∙ ap (λ (xs : List Item). name_columns 1 xs) c.as_slice.ensures

pub own_keys-requires : goal.own_keys-requires
own_keys-requires c =
    let xs = c.args.operator.now.items in
    ap length (columns_are c) ∙ columns_many xs c.args.names.now 1 (sym (names_counted c.args.definition.now xs) ∙ c.requires.names) ∙ sym (ap length (positions_are c))

slots_are : (c : After-as_slice-slots) → c.as_slice-slots.result.now ≡ slot_columns 1 c.args.operator.now.items
slots_are c = c.as_slice-slots.ensures.value ∙ c.in_ok-found.ensures.slots ∙ ap (λ (xs : List Item). slot_columns 1 xs) c.as_slice.ensures

own_are : (c : After-as_slice-slots) → AreOwn c.args.definition.now c.args.operator.now c.args.names.now c.as_slice-slots.result.now c.in_ok-own.own
own_are c =
    let own = c.in_ok-own.own in
    let a = (goal.at.After-as_slice-slots c).After-as_slice-3 in
    record {
      fits = c.requires.names;
      slots_are = slots_are c;
      region = subst (λ (xs : List NameCol). IsHeader (keys xs) (declared_keys xs) (λ _. false) own.header) (positions_are a) c.in_ok-own.ensures.header;
      ordered = c.in_ok-own.ensures.ordered;
      columns = subst (λ (xs : List NameCol). IsOwn (keys xs) (name_columns 1 c.args.operator.now.items) (keys own.header.names) own.columns.items own.pairs.items) (positions_are a)
          (subst (λ (cs : List ℕ). IsOwn (keys c.as_slice-2.result.now) cs (keys own.header.names) own.columns.items own.pairs.items) (columns_are a) c.in_ok-own.ensures.columns);
    }

pub overflow_cast-result : goal.overflow_cast-result
overflow_cast-result c =
    let many = ap length (slots_are (goal.at.overflow_cast-result c).After-as_slice-slots) in
    let few = slot_few c.args.operator.now.items 1 in
    omega (arith, many, few, c.requires.operator.few_items)

pub own_rows-requires-clause-own : goal.own_rows-requires-clause-own
own_rows-requires-clause-own c = (c.args.names.now, own_are (goal.at.own_rows-requires-clause-own c).After-as_slice-slots)

pub returns-clause-partial : goal.returns-clause-partial
returns-clause-partial c =
    let def = c.args.definition.now in
    let op = c.args.operator.now in
    let own = c.in_ok-own.own in
    let slots = c.as_slice-slots.result.now in
    let are = own_are (goal.at.returns-clause-partial c).After-as_slice-slots in
    elim c.if-own.branch [
      | then-own w ↦
          own_partial def op c.args.names.now slots own c.requires.operator are [] (λ row i. elim i [ ])
          (record { header = own.header; seen = 0; wanted = length slots; rel = c.if-own.rel }) refl refl refl (w.rel-is ∙ w.empty-rel.ensures)
      | else-own+in_ok-rel w ↦
          let known = w.in_ok-rel.ensures.sorted c.args.names.now are in
          subst (λ (r : Rel). IsPartial def (Phylum op.phylum) (slot_kinds def op.items) (record { header = own.header; seen = 0; wanted = length slots; rel = r })) (sym w.rel-is) known
    ]
