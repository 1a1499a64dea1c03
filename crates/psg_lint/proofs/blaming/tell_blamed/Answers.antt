use Rattle.std.proofs.Common.{◌++◌, Bool, List, ◌∙◌, subst, sym}
use Rattle.psg_grammar.specs.Open.{IsOpen}
use Rattle.psg_places.specs.Blame.{AreAllAnswers}
use Rattle.psg_places.specs.NewNames.{new_name}
use Rattle.psg_lint.proofs.TellLaws.{all_wrong}
use Rattle.psg_lint.proofs.blaming.tell_blamed.Goals as goal

pub tell_places-requires : goal.tell_places-requires
tell_places-requires g c = record {
  wrong = record {
    judged = c.requires.judged;
    names = c.requires.blamed.names;
    new = c.requires.blamed.new;
    places = c.as_slice-2.ensures.value ∙ c.in_ok-places.ensures;
    answers = subst (λ (ks : List Bool). AreAllAnswers (IsOpen c.args.judged.definition.now) c.args.judged.definition.now
        (new_name c.args.blamed.now.names) c.args.judged.tree.now ks) (sym c.as_slice.ensures)
        (c.requires.blamed.answers (new_name c.args.blamed.now.names) c.requires.blamed.new);
    note = c.requires.note;
  };
}

pub returns : goal.returns
returns g c = λ r is.
    let (told, suspects, e, h, k) = c.in_ok-more.ensures r is in (
      told ++ suspects,
      e,
      all_wrong c.args.judged.definition.now c.args.judged.text.now c.args.judged.tree.now r (new_name c.args.blamed.now.names)
          _ _ told suspects c.in_ok-more.more (c.as_slice-2.ensures.value ∙ c.in_ok-places.ensures) c.requires.wrong c.requires.blamed.new
          (subst (λ (ks : List Bool). AreAllAnswers (IsOpen c.args.judged.definition.now) c.args.judged.definition.now
          (new_name c.args.blamed.now.names) c.args.judged.tree.now ks) (sym c.as_slice.ensures)
          (c.requires.blamed.answers (new_name c.args.blamed.now.names) c.requires.blamed.new)) h k,
    )
