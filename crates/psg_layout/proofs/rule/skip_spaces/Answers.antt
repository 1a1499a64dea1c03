use Rattle.std.proofs.Common.{suc, ◌++◌, ap, ◌∙◌, lit<}
use Rattle.std.proofs.lemmas.Str.{IsUtf8-past_char, encode_ascii}
use Rattle.std.proofs.lemmas.Str.Pattern.{strip_prefix_char}
use Rattle.psg_script.specs.Forms.{spaces}
use Rattle.psg_script.proofs.WordLemmas.{spaces_more, tail_from_none}
use Rattle.psg_layout.proofs.rule.skip_spaces.Goals as goal

pub loop-rest-preserved : goal.loop-rest-preserved
loop-rest-preserved c =
    let found = rw c.in-Some.is at (strip_prefix_char 32 c.loop-rest.text.now _ c.strip_prefix.ensures.cases (lit< tt)) in
    let read = c.loop-rest.invariant.1 in (
      IsUtf8-past_char _ _ 32 c.loop-rest.invariant.0 (rw (encode_ascii 32 (lit< tt)) found),
      (suc read.0, read.1 ∙ (ap (λ t. spaces read.0 ++ t) found ∙ spaces_more read.0 _)),
    )

pub returns-clause-rest : goal.returns-clause-rest
returns-clause-rest c =
    tail_from_none c.loop-rest.text.now (rw c.in_default.is at (strip_prefix_char 32 c.loop-rest.text.now _ c.strip_prefix.ensures.cases (lit< tt)))
