use Rattle.std.proofs.Common.{rules, ◌≡◌, ◌∙◌, ◌<◌, ◌==◌, false, List, length, ap, sym, subst, arith}
use Rattle.std.proofs.lemmas.Option.{slice_get_within}
use Rattle.std.specs.Prelude.{Ok, Err}
use Rattle.std.specs.List.{AllByRecursion}
use Rattle.psg_grammar.specs.declared.types.Kind.{Kind}
use Rattle.psg_grammar.specs.declared.types.Kind.TheVariants as kinds
use Rattle.psg_grammar.specs.declared.types.Operator.{Operator}
use Rattle.psg_grammar.specs.Kinds.{HasKind}
use Rattle.psg_grammar.specs.Open.{IsOpen}
use Rattle.psg_grammar.specs.Legal.{IsCompletable}
use Rattle.psg_eval.specs.Frames.{CanClimb}
use Rattle.psg_eval.specs.Summaries.{slot_kinds}
use Rattle.psg_menu.specs.Answers.{IsNamesAnswer}
use Rattle.psg_menu.specs.Trials.{AreBlanks, IsBlanksAnswer}
use Rattle.psg_menu.proofs.MenuLaws.{op_slots, read_op}
use Rattle.psg_menu.proofs.NameLaws.{completable_names, names_blanked, names_empty, names_within}
use Rattle.psg_menu.proofs.naming.names.Goals as goal

pub returns-then-is_empty-clause-open : goal.returns-then-is_empty-clause-open
returns-then-is_empty-clause-open g c =
    names_empty c.args.definition.now c.args.frames.now c.args.op c.args.candidates.now c.new.result.items (sym c.if-is_empty.ensures) c.new.ensures.items

pub returns-then-is_empty-clause-completable : goal.returns-then-is_empty-clause-completable
returns-then-is_empty-clause-completable g c = λ rows quiet f path k kind formed stand.
    let def = c.args.definition.now in
    let (p, has, can) = c.requires.one in
    let up : CanClimb def c.args.frames.now (kinds.Phylum has.op.phylum) = subst (λ q. CanClimb def c.args.frames.now (kinds.Phylum q)) (sym has.phylum) can in
    completable_names def c.args.frames.now c.args.op c.requires.sound rows quiet has.op has.found up f path k kind formed stand c.args.candidates.now (Ok c.new.result)
    (names_empty def c.args.frames.now c.args.op c.args.candidates.now c.new.result.items (sym c.if-is_empty.ensures) c.new.ensures.items f path k stand)

pub bounds-as_slice-op : goal.bounds-as_slice-op
bounds-as_slice-op g c =
    let def = c.args.definition.now in
    let (p, has, can) = c.requires.one in
    subst (λ (os : List Operator). c.args.op < length os) (sym c.as_slice.ensures) (slice_get_within def.operators c.args.op has.op has.found)

pub new_trees-requires-clause-kinds : goal.new_trees-requires-clause-kinds
new_trees-requires-clause-kinds g c =
    let def = c.args.definition.now in
    let around = c.args.frames.now in
    let (p, has, can) = c.requires.one in
    let same = read_op def c.as_slice.result.now c.args.op has.op c.index-as_slice-op.result has.found c.as_slice.ensures c.index-as_slice-op.is in
    let kinds_are : c.as_slice-slots.result.now ≡ slot_kinds def has.op.items =
    c.as_slice-slots.ensures.value ∙ c.in_ok-kinds.ensures ∙ ap (slot_kinds def) (c.as_slice-items.ensures ∙ ap (λ (x : Operator). x.items) same) in
    subst (AllByRecursion (HasKind def)) (sym kinds_are) (op_slots def c.requires.sound c.args.op has.op has.found)

pub returns-in_err-below-clause-open : goal.returns-in_err-below-clause-open
returns-in_err-below-clause-open g c = λ f path k stand.
    let def = c.args.definition.now in
    let around = c.args.frames.now in
    let (p, has, can) = c.requires.one in
    let same = read_op def c.as_slice.result.now c.args.op has.op c.index-as_slice-op.result has.found c.as_slice.ensures c.index-as_slice-op.is in
    let kinds_are : c.as_slice-slots.result.now ≡ slot_kinds def has.op.items =
    c.as_slice-slots.ensures.value ∙ c.in_ok-kinds.ensures ∙ ap (slot_kinds def) (c.as_slice-items.ensures ∙ ap (λ (x : Operator). x.items) same) in
    let full : (length c.args.candidates.now == 0) ≡ false = sym c.if-is_empty.ensures in
    let fault = c.in_err-below.field-0.0 in
    let d : c.from_residual-in_err-below.result ≡ Err fault = search rules in
    subst (IsNamesAnswer def (IsOpen def) f path k c.args.op c.args.candidates.now) (sym d)
    (names_blanked def around c.args.op has.op has.found has.one c.args.candidates.now c.requires.names full fault (subst (λ (ks : List Kind). IsBlanksAnswer def ks (Err fault)) kinds_are c.in_err-below.ensures.blanks) f path k stand)

pub returns-in_err-below-clause-completable : goal.returns-in_err-below-clause-completable
returns-in_err-below-clause-completable g c = λ rows quiet f path k kind formed stand.
    let def = c.args.definition.now in
    let around = c.args.frames.now in
    let (p, has, can) = c.requires.one in
    let same = read_op def c.as_slice.result.now c.args.op has.op c.index-as_slice-op.result has.found c.as_slice.ensures c.index-as_slice-op.is in
    let kinds_are : c.as_slice-slots.result.now ≡ slot_kinds def has.op.items =
    c.as_slice-slots.ensures.value ∙ c.in_ok-kinds.ensures ∙ ap (slot_kinds def) (c.as_slice-items.ensures ∙ ap (λ (x : Operator). x.items) same) in
    let full : (length c.args.candidates.now == 0) ≡ false = sym c.if-is_empty.ensures in
    let fault = c.in_err-below.field-0.0 in
    let d : c.from_residual-in_err-below.result ≡ Err fault = search rules in
    let up : CanClimb def around (kinds.Phylum has.op.phylum) = subst (λ q. CanClimb def around (kinds.Phylum q)) (sym has.phylum) can in
    subst (IsNamesAnswer def (IsCompletable def) f path k c.args.op c.args.candidates.now) (sym d)
    (completable_names def around c.args.op c.requires.sound rows quiet has.op has.found up f path k kind formed stand c.args.candidates.now (Err fault)
    (names_blanked def around c.args.op has.op has.found has.one c.args.candidates.now c.requires.names full fault (subst (λ (ks : List Kind). IsBlanksAnswer def ks (Err fault)) kinds_are c.in_err-below.ensures.blanks) f path k stand))

pub returns-in_err-below-clause-ticks : goal.returns-in_err-below-clause-ticks
returns-in_err-below-clause-ticks g c =
    let def = c.args.definition.now in
    let around = c.args.frames.now in
    let (p, has, can) = c.requires.one in
    let same = read_op def c.as_slice.result.now c.args.op has.op c.index-as_slice-op.result has.found c.as_slice.ensures c.index-as_slice-op.is in
    let kinds_are : c.as_slice-slots.result.now ≡ slot_kinds def has.op.items =
    c.as_slice-slots.ensures.value ∙ c.in_ok-kinds.ensures ∙ ap (slot_kinds def) (c.as_slice-items.ensures ∙ ap (λ (x : Operator). x.items) same) in
    let full : (length c.args.candidates.now == 0) ≡ false = sym c.if-is_empty.ensures in
    omega (arith, c.new_trees.ensures.ticks, names_within def around c.args.op has.op has.found c.args.candidates.now full, ap length kinds_are)

pub nameable-requires-clause-operator : goal.nameable-requires-clause-operator
nameable-requires-clause-operator g c =
    let def = c.args.definition.now in
    let around = c.args.frames.now in
    let (p, has, can) = c.requires.one in
    let same = read_op def c.as_slice.result.now c.args.op has.op c.index-as_slice-op.result has.found c.as_slice.ensures c.index-as_slice-op.is in
    let kinds_are : c.as_slice-slots.result.now ≡ slot_kinds def has.op.items =
    c.as_slice-slots.ensures.value ∙ c.in_ok-kinds.ensures ∙ ap (slot_kinds def) (c.as_slice-items.ensures ∙ ap (λ (x : Operator). x.items) same) in (
      has.op,
      has.found,
      has.one,
      subst (λ (ks : List Kind). AreBlanks def ks c.as_slice-blanks.result.now) kinds_are
          (subst (AreBlanks def c.as_slice-slots.result.now) (sym c.as_slice-blanks.ensures.value) c.in_ok-below.ensures.blanks),
      subst (λ q. CanClimb def around (kinds.Phylum q)) (sym has.phylum) can,
    )

pub returns-in_err-found-clause-ticks : goal.returns-in_err-found-clause-ticks
returns-in_err-found-clause-ticks g c =
    let def = c.args.definition.now in
    let around = c.args.frames.now in
    let (p, has, can) = c.requires.one in
    let same = read_op def c.as_slice.result.now c.args.op has.op c.index-as_slice-op.result has.found c.as_slice.ensures c.index-as_slice-op.is in
    let kinds_are : c.as_slice-slots.result.now ≡ slot_kinds def has.op.items =
    c.as_slice-slots.ensures.value ∙ c.in_ok-kinds.ensures ∙ ap (slot_kinds def) (c.as_slice-items.ensures ∙ ap (λ (x : Operator). x.items) same) in
    let full : (length c.args.candidates.now == 0) ≡ false = sym c.if-is_empty.ensures in
    omega (arith, c.new_trees.ensures.ticks, c.nameable.ensures.ticks, names_within def around c.args.op has.op has.found c.args.candidates.now full, ap length kinds_are)

pub returns-clause-completable : goal.returns-clause-completable
returns-clause-completable g c = λ rows quiet f path k kind formed stand.
    let def = c.args.definition.now in
    let (p, has, can) = c.requires.one in
    let up : CanClimb def c.args.frames.now (kinds.Phylum has.op.phylum) = subst (λ q. CanClimb def c.args.frames.now (kinds.Phylum q)) (sym has.phylum) can in
    completable_names def c.args.frames.now c.args.op c.requires.sound rows quiet has.op has.found up f path k kind formed stand c.args.candidates.now (Ok c.in_ok-found.found) (c.in_ok-found.ensures.open f path k stand)

pub returns-clause-ticks : goal.returns-clause-ticks
returns-clause-ticks g c =
    let def = c.args.definition.now in
    let around = c.args.frames.now in
    let (p, has, can) = c.requires.one in
    let same = read_op def c.as_slice.result.now c.args.op has.op c.index-as_slice-op.result has.found c.as_slice.ensures c.index-as_slice-op.is in
    let kinds_are : c.as_slice-slots.result.now ≡ slot_kinds def has.op.items =
    c.as_slice-slots.ensures.value ∙ c.in_ok-kinds.ensures ∙ ap (slot_kinds def) (c.as_slice-items.ensures ∙ ap (λ (x : Operator). x.items) same) in
    let full : (length c.args.candidates.now == 0) ≡ false = sym c.if-is_empty.ensures in
    omega (arith, c.new_trees.ensures.ticks, c.nameable.ensures.ticks, names_within def around c.args.op has.op has.found c.args.candidates.now full, ap length kinds_are)
