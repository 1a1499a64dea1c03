use Rattle.std.proofs.Common.{◌≡◌, sym, ◌∙◌, subst}
use Rattle.std.proofs.lemmas.Result.{err_from_is_err_and}
use Rattle.psg_grammar.specs.WellFormed.{fixed_words}
use Rattle.psg_defread.specs.Reading.{IsFaultless, Spells}
use Rattle.psg_defcomment.specs.Plain.{plain_of}
use Rattle.psg_defcomment.specs.Reading.{AreFit}
use Rattle.psg_defcomment.proofs.reading.read_commented.Goals as goal

pub returns-in_err-comment-clause-err : goal.returns-in_err-comment-clause-err
returns-in_err-comment-clause-err c =
    let p = err_from_is_err_and c.from_residual-in_err-comment.result c.from_residual-in_err-comment.ensures.1 in
    let text : c.as_slice-text.result.now ≡ plain_of c.args.bytes.now = c.as_slice-text.ensures.value ∙ c.in_ok-file.ensures.bytes in
    rw (p.1, p.2) (c.in_err-comment.ensures.err c.args.bytes.now (c.as_slice-named.ensures.value ∙ c.in_ok-file.ensures.named)
    (record {
      spells = subst (λ b. Spells b c.in-Ok.definition) text c.in-Ok.ensures.ok;
      faultless = subst IsFaultless text c.in-Ok.ensures.faultless;
    }))

pub returns-clause-ok : goal.returns-clause-ok
returns-clause-ok c =
    let text : c.as_slice-text.result.now ≡ plain_of c.args.bytes.now = c.as_slice-text.ensures.value ∙ c.in_ok-file.ensures.bytes in
    record {
      read = record {
        spells = subst (λ b. Spells b c.in-Ok.definition) text c.in-Ok.ensures.ok;
        faultless = subst IsFaultless text c.in-Ok.ensures.faultless;
      };
      fit = subst (AreFit (fixed_words c.in-Ok.definition)) (c.as_slice-named.ensures.value ∙ c.in_ok-file.ensures.named) c.in_ok-comment.ensures.fit;
    }

pub returns-clause-only : goal.returns-clause-only
returns-clause-only c =
    let text : c.as_slice-text.result.now ≡ plain_of c.args.bytes.now = c.as_slice-text.ensures.value ∙ c.in_ok-file.ensures.bytes in
    λ other s. c.in-Ok.ensures.only other (subst (λ b. Spells b other) (sym text) s)
