use Rattle.std.proofs.Common.{ap, sym, ◌∙◌}
use Rattle.psg_cache.specs.Annotated.{tree_in}
use Rattle.psg_grammar.specs.Lookups.{operator_at}
use Rattle.psg_keymap.specs.Leaves.{leaves_of}
use Rattle.psg_completing.specs.Offering.{one_name}
use Rattle.psg_completing.proofs.Offers.{by_itself_of, by_names_of, named_operator, own_name}
use Rattle.psg_completing.proofs.offering.offers_with.Goals as goal

pub operator_of-operator-requires : goal.operator_of-operator-requires
operator_of-operator-requires g c =
    let def = c.args.open.known.program.language.now in
    let (op, is) = named_operator (operator_at def c.args.op) c.args.name.now c.requires.name in
    (op, ap (λ d. operator_at d c.args.op) c.definition-definition.ensures.same ∙ is)

pub names_told-requires : goal.names_told-requires
names_told-requires g c = c.requires.known

pub entries_with-requires : goal.entries_with-requires
entries_with-requires g c =
    ap (λ d. operator_at d c.args.op) (sym c.definition-definition.ensures.same) ∙ c.operator_of-operator.ensures

pub one_entry-requires : goal.one_entry-requires
one_entry-requires g c =
    ap (λ d. operator_at d c.args.op) (sym c.definition-definition.ensures.same) ∙ c.operator_of-operator.ensures

pub returns-then-named : goal.returns-then-named
returns-then-named g c =
    let gap = c.args.open in
    let def = gap.known.program.language.now in
    let own = ap (λ d. operator_at d c.args.op) (sym c.definition-definition.ensures.same)
    ∙ c.operator_of-operator.ensures in
    let (told, told_is, names) = c.in_ok-names.ensures in
    by_names_of def gap.known.program.kind (tree_in gap.known.program.note.now) gap.spot.now gap.least gap.sample.now gap.prefix.now
    c.args.op c.operator_of-operator.result.now.name c.args.name.now told c.as_slice-all.result.now
    c.first_names-some.result.now c.in_ok-entries.entries.items c.has_more-more.result c.requires.name
    (own_name (operator_at def c.args.op) c.operator_of-operator.result.now c.args.name.now own c.requires.name)
    (ap one_name (sym (c.as_slice-row.ensures.value ∙ c.in_ok-leaves.ensures
    ∙ ap (λ d. leaves_of d c.args.name.now) c.definition-definition.ensures.same))
    ∙ sym c.one_name-named.ensures ∙ c.if-named.true)
    told_is (c.as_slice-all.ensures.value ∙ names) c.first_names-some.ensures c.in_ok-entries.ensures
    c.has_more-more.ensures

pub returns : goal.returns
returns g c =
    let gap = c.args.open in
    let def = gap.known.program.language.now in
    let own = ap (λ d. operator_at d c.args.op) (sym c.definition-definition.ensures.same)
    ∙ c.operator_of-operator.ensures in
    by_itself_of def gap.known.program.kind (tree_in gap.known.program.note.now) gap.spot.now gap.least gap.sample.now gap.prefix.now
    c.args.op c.operator_of-operator.result.now.name c.args.name.now c.in_ok-single.single.items c.requires.name
    (own_name (operator_at def c.args.op) c.operator_of-operator.result.now c.args.name.now own c.requires.name)
    (ap one_name (sym (c.as_slice-row.ensures.value ∙ c.in_ok-leaves.ensures
    ∙ ap (λ d. leaves_of d c.args.name.now) c.definition-definition.ensures.same))
    ∙ sym c.one_name-named.ensures ∙ c.if-named.false)
    c.in_ok-single.ensures
