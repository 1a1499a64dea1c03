-- The laws of completions.
use Rattle.std.proofs.Common.{[], ◌∷◌}
use Rattle.psg_grammar.specs.declared.types.Definition.{Definition}
use Rattle.psg_grammar.specs.Sound.{IsSound}
use Rattle.psg_grammar.specs.Paths.{observe}
use Rattle.psg_grammar.proofs.SoundParts.{items_in, elements_in, phylum_in}
use Rattle.psg_grammar.proofs.Closed.{closed}
use Rattle.psg_completions.specs.Conditions.{HasTrueRows}
use Rattle.psg_completions.specs.Completions.{RowOrTree, OpenOrCompletable, SeenOrPossible, ShownOrPossible}
use Rattle.psg_completions.proofs.Covering.{covered_tree}
use Rattle.psg_completions.proofs.Quiet.{quiet}
use Rattle.psg_completions.proofs.Observing.{observe_fits}
use Rattle.psg_completions.proofs.Taken.{taken}
use Rattle.psg_completions.proofs.Completable.{completable_of_open}
use Rattle.psg_completions.proofs.Completing.{IsCovered, open_of_completable}

module _ (def : Definition) (sound : IsSound def) (true_rows : HasTrueRows def) where
  pub row_or_tree : RowOrTree def
  row_or_tree kind v = taken def sound true_rows kind v

  covering : IsCovered def
  covering = record {
    covered =
        λ kind t inner v before after w c pl ei l. covered_tree def true_rows t [] kind inner [] v before after [] w c
        pl l tt;
    quiet =
        λ space kind t w q. quiet def space (phylum_in def sound)
        (closed def space (items_in def sound) (elements_in def sound)) kind t w q;
  }

  pub open_or_completable : OpenOrCompletable def
  open_or_completable f kind w =
      (completable_of_open def sound true_rows f kind w.0 [], open_of_completable def covering f kind w.0 [])

  pub seen_or_possible : SeenOrPossible def
  seen_or_possible f kind w values = (
    (λ (c, s). completable_of_open def sound true_rows f kind w values
        (record {
          distinct = s.distinct;
          choice = c;
          outside = s.outside;
          entities = s.entities;
          value = s.value;
          judged = s.judged;
        })),
    (λ h. let o = open_of_completable def covering f kind w values h in (
      o.choice,
      record {
        distinct = o.distinct;
        outside = o.outside;
        entities = o.entities;
        value = o.value;
        judged = o.judged;
      },
    )),
  )

  pub shown_or_possible : ShownOrPossible def
  shown_or_possible f kind w path node at u =
      seen_or_possible (observe path f) kind (observe_fits def path f kind node at w.0) (u ∷ [])
