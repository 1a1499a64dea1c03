use Rattle.std.proofs.Common.{sym, ◌∙◌, subst}
use Rattle.psg_grammar.specs.WellFormed.{fixed_words}
use Rattle.psg_defcomment.specs.Plain.{named_in, plain_of}
use Rattle.psg_defcomment.specs.Reading.{AreFit, IsCommentOf, IsCommented}
use Rattle.psg_defread.specs.Reading.{IsReadAs}
use Rattle.psg_grammar.specs.declared.types.Definition.{Definition}
use Rattle.psg_specimen.specs.Refusal.{IsAccepted}
use Rattle.psg_run.proofs.source.defined_of.Goals as goal

pub returns-in-Err-clause-err : goal.returns-in-Err-clause-err
returns-in-Err-clause-err g c = λ files input ticks. c.end_fault.ensures c.args.text.now files input ticks c.in-Err.ensures.err

pub accept-requires-clause-words : goal.accept-requires-clause-words
accept-requires-clause-words g c = c.in-Ok.ensures.words

pub returns-in-Err-accept-clause-err : goal.returns-in-Err-accept-clause-err
returns-in-Err-accept-clause-err g c = λ files input ticks.
    let back = c.in-Err-accept.ensures.back in
    c.end_refused.ensures c.args.text.now files input ticks
    (subst (IsCommented c.args.text.now) (sym back) c.in-Ok.ensures.ok)
    (λ other spells. c.in-Ok.ensures.only other spells ∙ sym back)

pub returns-in-Ok-accept-clause-ok : goal.returns-in-Ok-accept-clause-ok
returns-in-Ok-accept-clause-ok g c =
    let same = c.in-Ok-accept.ensures.language in
    record {
      read = subst (IsReadAs (plain_of c.args.text.now)) (sym same) c.in-Ok.ensures.ok.read;
      fit = subst (λ (d : Definition). AreFit (fixed_words d) (named_in c.args.text.now)) (sym same) c.in-Ok.ensures.ok.fit;
      only = λ other spells. c.in-Ok.ensures.only other spells ∙ sym same;
      accepted = subst IsAccepted (sym same) c.in-Ok-accept.ensures.accepted;
    }

pub returns-in-Ok-accept-clause-fit : goal.returns-in-Ok-accept-clause-fit
returns-in-Ok-accept-clause-fit g c =
    let same = c.in-Ok-accept.ensures.language in
    subst (λ (d : Definition). IsCommentOf (fixed_words d) c.in-Ok.file.comment) (sym same) c.in-Ok.ensures.fit
