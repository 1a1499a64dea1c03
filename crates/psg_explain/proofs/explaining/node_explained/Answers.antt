use Rattle.std.proofs.Common.{◌↔◌, ◌^◌, ◌-◌, [], min, sym, ap, subst, ◌∙◌, arith, List}
use Rattle.psg_cache.specs.Annotated.{tree_in}
use Rattle.psg_grammar.specs.declared.types.Definition.{Definition}
use Rattle.psg_grammar.specs.declared.types.Kind.{Kind}
use Rattle.psg_grammar.specs.Fragments.{Fragment}
use Rattle.psg_grammar.specs.Legal.{IsCompletable}
use Rattle.psg_grammar.specs.Open.{IsOpen}
use Rattle.psg_grammar.specs.Sound.{IsSound}
use Rattle.psg_grammar.specs.WellFormed.{WellFormed}
use Rattle.psg_specimen.specs.Refusal.{IsAccepted}
use Rattle.psg_explain.specs.Explanations.{all_pairs_in}
use Rattle.psg_explain.specs.PairSums.{made_from}
use Rattle.psg_explain.specs.Plans.{planned}
use Rattle.psg_explain.proofs.CulpritClaims.{may_claim_culprit}
use Rattle.psg_explain.proofs.ExplainLaws.{culprit_formed, culprit_pairs, culprit_related, culprit_relations, told_long, told_wrong}
use Rattle.psg_explain.proofs.PlanLaws.{Rows}
use Rattle.psg_explain.proofs.explaining.node_explained.Goals as goal

pub promises-requires-clause-sound : goal.promises-requires-clause-sound
promises-requires-clause-sound g c = subst IsSound (sym c.definition-definition.ensures.same) c.definition-definition.ensures.sound

pub promises-requires-clause-accepted : goal.promises-requires-clause-accepted
promises-requires-clause-accepted g c = subst IsAccepted (sym c.definition-definition.ensures.same) c.definition-definition.ensures.accepted

pub stages_of-requires : goal.stages_of-requires
stages_of-requires g c = culprit_formed c.args.lang.now c.args.note.now c.requires.note c.args.path.now c.args.node.now c.requires.culprit

pub rows_up_to_none-requires-clause-related : goal.rows_up_to_none-requires-clause-related
rows_up_to_none-requires-clause-related g c =
    (c.args.path.now, c.args.node.now, culprit_related c.args.lang.now c.args.note.now c.requires.note c.args.path.now c.args.node.now c.requires.culprit c.in_ok-stages.stages.items c.as_slice-kept.result.now c.as_slice-kept.ensures.value c.in_ok-stages.ensures)

pub returns-then-pairs-gt-MOST_PAIRS-clause-explained : goal.returns-then-pairs-gt-MOST_PAIRS-clause-explained
returns-then-pairs-gt-MOST_PAIRS-clause-explained g c =
    let def = c.args.lang.now in
    let note = c.args.note.now in
    let path = c.args.path.now in
    let node = c.args.node.now in
    let plan = planned def 0 path node in
    let rows = c.in_ok-rows.rows.items in
    let exact = subst (λ (d : Definition). (f : Fragment) (kind : Kind) → WellFormed d f kind → IsOpen d f ↔ IsCompletable d f) c.definition-definition.ensures.same c.promises.ensures.completions in
    let related = culprit_related def note c.requires.note path node c.requires.culprit c.in_ok-stages.stages.items c.as_slice-kept.result.now c.as_slice-kept.ensures.value c.in_ok-stages.ensures in
    let relations = culprit_relations def note c.requires.note path node c.requires.culprit exact rows (c.in_ok-rows.ensures.rows path node related) in
    let sum = c.pairs_in-pairs.ensures def plan related.stages_are ∙ ap (λ (l : List Rows). min (all_pairs_in (made_from def [] plan l)) (2 ^ 128 - 1)) c.as_slice.ensures.value in
    let more = c.if-pairs-gt-MOST_PAIRS.true in
    told_long def (tree_in note) path node c.requires.culprit (all_pairs_in (made_from def [] plan rows)) c.pairs_in-pairs.result (culprit_pairs def note c.requires.note path node c.requires.culprit rows relations) sum (omega (arith, more))

pub returns-then-pairs-gt-MOST_PAIRS-clause-ticks : goal.returns-then-pairs-gt-MOST_PAIRS-clause-ticks
returns-then-pairs-gt-MOST_PAIRS-clause-ticks g c =
    let related = culprit_related c.args.lang.now c.args.note.now c.requires.note c.args.path.now c.args.node.now c.requires.culprit c.in_ok-stages.stages.items c.as_slice-kept.result.now c.as_slice-kept.ensures.value c.in_ok-stages.ensures in
    c.rows_up_to_none.ensures.ticks c.args.path.now c.args.node.now related

pub refutation_of-requires-clause-formed : goal.refutation_of-requires-clause-formed
refutation_of-requires-clause-formed g c = culprit_formed c.args.lang.now c.args.note.now c.requires.note c.args.path.now c.args.node.now c.requires.culprit

pub refutation_of-requires-clause-stages : goal.refutation_of-requires-clause-stages
refutation_of-requires-clause-stages g c =
    (culprit_related c.args.lang.now c.args.note.now c.requires.note c.args.path.now c.args.node.now c.requires.culprit c.in_ok-stages.stages.items c.as_slice-kept.result.now c.as_slice-kept.ensures.value c.in_ok-stages.ensures).stages_are

pub refutation_of-requires-clause-relations : goal.refutation_of-requires-clause-relations
refutation_of-requires-clause-relations g c =
    let def = c.args.lang.now in
    let note = c.args.note.now in
    let path = c.args.path.now in
    let node = c.args.node.now in
    let exact = subst (λ (d : Definition). (f : Fragment) (kind : Kind) → WellFormed d f kind → IsOpen d f ↔ IsCompletable d f) c.definition-definition.ensures.same c.promises.ensures.completions in
    let related = culprit_related def note c.requires.note path node c.requires.culprit c.in_ok-stages.stages.items c.as_slice-kept.result.now c.as_slice-kept.ensures.value c.in_ok-stages.ensures in
    culprit_relations def note c.requires.note path node c.requires.culprit exact c.in_ok-rows.rows.items (c.in_ok-rows.ensures.rows path node related)

pub refutation_of-requires-clause-claimable : goal.refutation_of-requires-clause-claimable
refutation_of-requires-clause-claimable g c =
    let def = c.args.lang.now in
    let note = c.args.note.now in
    let path = c.args.path.now in
    let node = c.args.node.now in
    let exact = subst (λ (d : Definition). (f : Fragment) (kind : Kind) → WellFormed d f kind → IsOpen d f ↔ IsCompletable d f) c.definition-definition.ensures.same c.promises.ensures.completions in
    let related = culprit_related def note c.requires.note path node c.requires.culprit c.in_ok-stages.stages.items c.as_slice-kept.result.now c.as_slice-kept.ensures.value c.in_ok-stages.ensures in
    let relations = culprit_relations def note c.requires.note path node c.requires.culprit exact c.in_ok-rows.rows.items (c.in_ok-rows.ensures.rows path node related) in
    may_claim_culprit def note c.definition-definition.ensures.sound c.requires.note path node c.requires.culprit exact c.in_ok-rows.rows.items relations

pub returns-clause-explained : goal.returns-clause-explained
returns-clause-explained g c =
    let def = c.args.lang.now in
    let note = c.args.note.now in
    let path = c.args.path.now in
    let node = c.args.node.now in
    let plan = planned def 0 path node in
    let rows = c.in_ok-rows.rows.items in
    let exact = subst (λ (d : Definition). (f : Fragment) (kind : Kind) → WellFormed d f kind → IsOpen d f ↔ IsCompletable d f) c.definition-definition.ensures.same c.promises.ensures.completions in
    let related = culprit_related def note c.requires.note path node c.requires.culprit c.in_ok-stages.stages.items c.as_slice-kept.result.now c.as_slice-kept.ensures.value c.in_ok-stages.ensures in
    let relations = culprit_relations def note c.requires.note path node c.requires.culprit exact rows (c.in_ok-rows.ensures.rows path node related) in
    let sum = c.pairs_in-pairs.ensures def plan related.stages_are ∙ ap (λ (l : List Rows). min (all_pairs_in (made_from def [] plan l)) (2 ^ 128 - 1)) c.as_slice.ensures.value in
    let few = c.if-pairs-gt-MOST_PAIRS.false in
    told_wrong def (tree_in note) path node c.requires.culprit (all_pairs_in (made_from def [] plan rows)) c.pairs_in-pairs.result c.in_ok-refutation.refutation (culprit_pairs def note c.requires.note path node c.requires.culprit rows relations) sum (omega (arith, few))
    (c.in_ok-refutation.ensures (tree_in note) c.requires.culprit.there)

pub returns-clause-ticks : goal.returns-clause-ticks
returns-clause-ticks g c =
    let related = culprit_related c.args.lang.now c.args.note.now c.requires.note c.args.path.now c.args.node.now c.requires.culprit c.in_ok-stages.stages.items c.as_slice-kept.result.now c.as_slice-kept.ensures.value c.in_ok-stages.ensures in
    c.rows_up_to_none.ensures.ticks c.args.path.now c.args.node.now related

pub returns-in_err-rows-clause-ticks : goal.returns-in_err-rows-clause-ticks
returns-in_err-rows-clause-ticks g c =
    let related = culprit_related c.args.lang.now c.args.note.now c.requires.note c.args.path.now c.args.node.now c.requires.culprit c.in_ok-stages.stages.items c.as_slice-kept.result.now c.as_slice-kept.ensures.value c.in_ok-stages.ensures in
    c.rows_up_to_none.ensures.ticks c.args.path.now c.args.node.now related

pub returns-in_err-refutation-clause-ticks : goal.returns-in_err-refutation-clause-ticks
returns-in_err-refutation-clause-ticks g c =
    let related = culprit_related c.args.lang.now c.args.note.now c.requires.note c.args.path.now c.args.node.now c.requires.culprit c.in_ok-stages.stages.items c.as_slice-kept.result.now c.as_slice-kept.ensures.value c.in_ok-stages.ensures in
    c.rows_up_to_none.ensures.ticks c.args.path.now c.args.node.now related
