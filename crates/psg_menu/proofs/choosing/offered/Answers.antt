use Rattle.std.proofs.Common.{rules, ◌≡◌, ◌∙◌, Bool, List, length, ap, sym, subst, arith}
use Rattle.psg_eval.proofs.StartLaws.{names_in_count}
use Rattle.std.specs.Prelude.{Result, Ok, Err, count_by}
use Rattle.std.specs.List.{AllByRecursion}
use Rattle.psg_grammar.specs.declared.types.Operator.{Operator}
use Rattle.psg_grammar.specs.declared.types.Kind.{Kind}
use Rattle.psg_grammar.specs.Kinds.{HasKind}
use Rattle.psg_grammar.specs.Levels.{is_name_position}
use Rattle.psg_eval.specs.declared.question.FocusFault.{FocusFault}
use Rattle.psg_eval.specs.Summaries.{are_names, slot_kinds}
use Rattle.psg_menu.specs.Trials.{AreBlanks, IsBlanksAnswer, IsOffered, IsTried}
use Rattle.psg_menu.proofs.MenuLaws.{offered_blanks, offered_fault, offered_good, op_slots, op_ticks_are, read_op}
use Rattle.psg_menu.proofs.choosing.offered.Goals as goal

pub new_trees-requires-clause-kinds : goal.new_trees-requires-clause-kinds
new_trees-requires-clause-kinds g c =
    let def = c.args.menu.definition.now in
    let around = c.args.menu.frames.now in
    let (o, found, can) = c.requires.operator in
    let read = c.index-as_slice-op.result in
    let same = read_op def c.as_slice.result.now c.args.op o read found c.as_slice.ensures c.index-as_slice-op.is in
    let kinds : c.as_slice-slots.result.now ≡ slot_kinds def o.items =
    c.as_slice-slots.ensures.value ∙ c.in_ok-kinds.ensures ∙ ap (slot_kinds def) (c.as_slice-items.ensures ∙ ap (λ (x : Operator). x.items) same) in
    subst (AllByRecursion (HasKind def)) (sym kinds) (op_slots def c.requires.sound c.args.op o found)

pub returns-in_err-below-clause-offered : goal.returns-in_err-below-clause-offered
returns-in_err-below-clause-offered g c =
    let def = c.args.menu.definition.now in
    let around = c.args.menu.frames.now in
    let (o, found, can) = c.requires.operator in
    let read = c.index-as_slice-op.result in
    let same = read_op def c.as_slice.result.now c.args.op o read found c.as_slice.ensures c.index-as_slice-op.is in
    let kinds : c.as_slice-slots.result.now ≡ slot_kinds def o.items =
    c.as_slice-slots.ensures.value ∙ c.in_ok-kinds.ensures ∙ ap (slot_kinds def) (c.as_slice-items.ensures ∙ ap (λ (x : Operator). x.items) same) in
    let many : length (are_names def o.items) ≡ length c.in_ok-words.words.items =
    names_in_count def o.items ∙ ap (λ (x : Operator). count_by is_name_position x.items) (sym same) ∙ sym c.name_positions-count.ensures ∙ sym c.in_ok-words.ensures.many in
    let fault = c.in_err-below.field-0.0 in
    let d : c.from_residual-in_err-below.result ≡ Err fault = search rules in
    subst (IsOffered def around c.args.menu.used.now c.args.op) (sym d)
    (offered_blanks def c.new_names.ensures.open c.new_names.ensures.wide around c.args.menu.used.now c.args.op o found c.in_ok-words.words.items c.in_ok-words.ensures.new many fault (subst (λ (ks : List Kind). IsBlanksAnswer def ks (Err fault)) kinds c.in_err-below.ensures.blanks))

pub returns-in_err-below-clause-ticks : goal.returns-in_err-below-clause-ticks
returns-in_err-below-clause-ticks g c =
    let def = c.args.menu.definition.now in
    let around = c.args.menu.frames.now in
    let (o, found, can) = c.requires.operator in
    let read = c.index-as_slice-op.result in
    let same = read_op def c.as_slice.result.now c.args.op o read found c.as_slice.ensures c.index-as_slice-op.is in
    let kinds : c.as_slice-slots.result.now ≡ slot_kinds def o.items =
    c.as_slice-slots.ensures.value ∙ c.in_ok-kinds.ensures ∙ ap (slot_kinds def) (c.as_slice-items.ensures ∙ ap (λ (x : Operator). x.items) same) in
    omega (arith, c.new_trees.ensures.ticks, op_ticks_are def around c.args.op o found, ap length kinds)

pub tried-requires-clause-operator : goal.tried-requires-clause-operator
tried-requires-clause-operator g c =
    let def = c.args.menu.definition.now in
    let around = c.args.menu.frames.now in
    let (o, found, can) = c.requires.operator in
    let read = c.index-as_slice-op.result in
    let same = read_op def c.as_slice.result.now c.args.op o read found c.as_slice.ensures c.index-as_slice-op.is in
    let kinds : c.as_slice-slots.result.now ≡ slot_kinds def o.items =
    c.as_slice-slots.ensures.value ∙ c.in_ok-kinds.ensures ∙ ap (slot_kinds def) (c.as_slice-items.ensures ∙ ap (λ (x : Operator). x.items) same) in
    let many : length (are_names def o.items) ≡ length c.in_ok-words.words.items =
    names_in_count def o.items ∙ ap (λ (x : Operator). count_by is_name_position x.items) (sym same) ∙ sym c.name_positions-count.ensures ∙ sym c.in_ok-words.ensures.many in (
      o,
      found,
      many ∙ ap length (sym c.as_slice-names.ensures.value),
      subst (λ (ks : List Kind). AreBlanks def ks c.as_slice-blanks.result.now) kinds
          (subst (AreBlanks def c.as_slice-slots.result.now) (sym c.as_slice-blanks.ensures.value) c.in_ok-below.ensures.blanks),
      can,
    )

pub returns-in_err-good-clause-offered : goal.returns-in_err-good-clause-offered
returns-in_err-good-clause-offered g c =
    let def = c.args.menu.definition.now in
    let around = c.args.menu.frames.now in
    let (o, found, can) = c.requires.operator in
    let read = c.index-as_slice-op.result in
    let same = read_op def c.as_slice.result.now c.args.op o read found c.as_slice.ensures c.index-as_slice-op.is in
    let many : length (are_names def o.items) ≡ length c.in_ok-words.words.items =
    names_in_count def o.items ∙ ap (λ (x : Operator). count_by is_name_position x.items) (sym same) ∙ sym c.name_positions-count.ensures ∙ sym c.in_ok-words.ensures.many in
    let names : c.as_slice-names.result.now ≡ c.in_ok-words.words.items = c.as_slice-names.ensures.value in
    let tried : (r : Result Bool FocusFault) → IsTried def around c.args.op c.as_slice-names.result.now r → IsTried def around c.args.op c.in_ok-words.words.items r =
    λ r. subst (λ ns. IsTried def around c.args.op ns r) names in
    let fault = c.in_err-good.field-0.0 in
    let d : c.from_residual-in_err-good.result ≡ Err fault = search rules in
    subst (IsOffered def around c.args.menu.used.now c.args.op) (sym d)
    (offered_fault def c.new_names.ensures.open c.new_names.ensures.wide around c.args.menu.used.now c.args.op o found c.in_ok-words.words.items c.in_ok-words.ensures.new many fault (tried (Err fault) c.in_err-good.ensures.tried))

pub returns-in_err-good-clause-ticks : goal.returns-in_err-good-clause-ticks
returns-in_err-good-clause-ticks g c =
    let def = c.args.menu.definition.now in
    let around = c.args.menu.frames.now in
    let (o, found, can) = c.requires.operator in
    let read = c.index-as_slice-op.result in
    let same = read_op def c.as_slice.result.now c.args.op o read found c.as_slice.ensures c.index-as_slice-op.is in
    let kinds : c.as_slice-slots.result.now ≡ slot_kinds def o.items =
    c.as_slice-slots.ensures.value ∙ c.in_ok-kinds.ensures ∙ ap (slot_kinds def) (c.as_slice-items.ensures ∙ ap (λ (x : Operator). x.items) same) in
    omega (arith, c.new_trees.ensures.ticks, c.tried.ensures.ticks, op_ticks_are def around c.args.op o found, ap length kinds)

pub returns-clause-offered : goal.returns-clause-offered
returns-clause-offered g c =
    let def = c.args.menu.definition.now in
    let around = c.args.menu.frames.now in
    let (o, found, can) = c.requires.operator in
    let read = c.index-as_slice-op.result in
    let same = read_op def c.as_slice.result.now c.args.op o read found c.as_slice.ensures c.index-as_slice-op.is in
    let many : length (are_names def o.items) ≡ length c.in_ok-words.words.items =
    names_in_count def o.items ∙ ap (λ (x : Operator). count_by is_name_position x.items) (sym same) ∙ sym c.name_positions-count.ensures ∙ sym c.in_ok-words.ensures.many in
    let names : c.as_slice-names.result.now ≡ c.in_ok-words.words.items = c.as_slice-names.ensures.value in
    let tried : (r : Result Bool FocusFault) → IsTried def around c.args.op c.as_slice-names.result.now r → IsTried def around c.args.op c.in_ok-words.words.items r =
    λ r. subst (λ ns. IsTried def around c.args.op ns r) names in
    offered_good def c.new_names.ensures.open c.new_names.ensures.wide around c.args.menu.used.now c.args.op o found c.in_ok-words.words.items c.in_ok-words.ensures.new many c.in_ok-good.good (tried (Ok c.in_ok-good.good) c.in_ok-good.ensures.tried)

pub returns-clause-ticks : goal.returns-clause-ticks
returns-clause-ticks g c =
    let def = c.args.menu.definition.now in
    let around = c.args.menu.frames.now in
    let (o, found, can) = c.requires.operator in
    let read = c.index-as_slice-op.result in
    let same = read_op def c.as_slice.result.now c.args.op o read found c.as_slice.ensures c.index-as_slice-op.is in
    let kinds : c.as_slice-slots.result.now ≡ slot_kinds def o.items =
    c.as_slice-slots.ensures.value ∙ c.in_ok-kinds.ensures ∙ ap (slot_kinds def) (c.as_slice-items.ensures ∙ ap (λ (x : Operator). x.items) same) in
    omega (arith, c.new_trees.ensures.ticks, c.tried.ensures.ticks, op_ticks_are def around c.args.op o found, ap length kinds)
