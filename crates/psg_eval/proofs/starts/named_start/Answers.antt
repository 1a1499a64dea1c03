use Rattle.std.proofs.Common.{rules, ◌<◌, ◌∙◌, [], ◌∷◌, List, ap, ap₂, length, sym, subst}
use Rattle.psg_terms.specs.Names.{Name}
use Rattle.psg_grammar.specs.declared.types.Item.{Item}
use Rattle.psg_eval.specs.Own.{IsOwnStep}
use Rattle.psg_eval.specs.OwnRows.{positions}
use Rattle.psg_eval.specs.Partials.{MatchStep}
use Rattle.psg_eval.specs.Summaries.{are_names}
use Rattle.psg_eval.proofs.StartLaws.{first_is, kept_own, only_one, position_of}
use Rattle.psg_eval.proofs.starts.named_start.Goals as goal

pub item_places-requires-clause-fits : goal.item_places-requires-clause-fits
item_places-requires-clause-fits c = (
  c.args.definition.now,
  ap (λ (xs : List Item). length (are_names c.args.definition.now xs)) c.as_slice.ensures ∙ c.requires.names ∙ sym (ap length c.as_slice-names.ensures.value ∙ c.in_ok-some.ensures),
)

pub first_step-made-requires-clause-names : goal.first_step-made-requires-clause-names
first_step-made-requires-clause-names c = c.requires.names ∙ sym (ap length c.as_slice-names.ensures.value ∙ c.in_ok-some.ensures)

pub returns-in-Some : goal.returns-in-Some
returns-in-Some c =
    let def = c.args.definition.now in
    let op = c.args.operator.now in
    let (m, one) = only_one c.as_slice-names.result.now (ap length c.as_slice-names.ensures.value ∙ c.in_ok-some.ensures) in
    let read = c.index-positions-0.result in
    let some : 0 < length c.as_slice-positions.result.now = search rules in
    let (rest, split) = first_is c.as_slice-positions.result.now read some c.index-positions-0.is in
    let found = c.as_slice-positions.ensures.value ∙ c.in_ok-found.ensures.positions ∙ ap₂ (λ (xs : List Item) (ns : List Name). positions xs ns) c.as_slice.ensures one in
    record {
      position = λ name. position_of op.items m read rest (sym found ∙ split) name;
      some = m;
      begun = kept_own def op (m ∷ []) c.first_step-made.result c.in_ok-first.first c.in-Some.bare c.in-Some.is c.in_ok-first.ensures c.requires.names
          (subst (λ (ns : List Name). MatchStep (IsOwnStep def op ns) c.first_step-made.result) one c.first_step-made.ensures.step) c.first_step-made.ensures.partial c.first_step-made.ensures.seen;
    }
