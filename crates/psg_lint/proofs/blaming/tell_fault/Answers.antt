use Rattle.std.proofs.Common.{◌∷◌, [], true, false, sym, subst, List, Bool}
use Rattle.psg_places.specs.Answers.{IsBlameFault}
use Rattle.psg_places.specs.declared.fault.BlameFault.{BlameFault}
use Rattle.psg_places.specs.Listings.{opened_among}
use Rattle.psg_places.specs.Places.{places_of}
use Rattle.psg_places.specs.Ways.{IsBack}
use Rattle.psg_recover.specs.declared.finding.Finding.{Finding}
use Rattle.psg_lint.specs.Wrongs.{AreWrong, trial_limited, wide_path}
use Rattle.psg_lint.proofs.blaming.tell_fault.Goals as goal

pub returns-in_ok-push-in-Limit : goal.returns-in_ok-push-in-Limit
returns-in_ok-push-in-Limit c = λ r is.
    let j = c.args.judged in
    let limit = subst (λ (f : BlameFault). IsBlameFault j.definition.now j.tree.now f) c.in-Limit.is c.requires.fault in
    let (back, h, e) = c.in_ok-told-in-Limit.ensures r is in
    let there = subst (λ (ks : List Bool). IsBack (opened_among ks 0 (places_of j.definition.now j.tree.now)) (wide_path c.in-Limit.fault) back)
    c.as_slice.ensures.value h in (
      c.in_ok-told-in-Limit.told ∷ [],
      c.in_ok-push-in-Limit.ensures.items,
      subst (λ (x : Finding). AreWrong j.definition.now j.text.now j.tree.now r true (x ∷ []) false) (sym e)
          (trial_limited c.in-Limit.kept.items back c.in-Limit.fault c.requires.wrong limit there),
    )
