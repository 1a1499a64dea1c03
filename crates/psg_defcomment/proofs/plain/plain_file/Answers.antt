use Rattle.std.proofs.Common.{◌∙◌}
use Rattle.psg_defcomment.proofs.LineLaws.{map_ok, no_utf8_bytes, no_utf8_named}
use Rattle.psg_defcomment.proofs.plain.plain_file.Goals as goal

pub returns-in-Err-clause-bytes : goal.returns-in-Err-clause-bytes
returns-in-Err-clause-bytes c =
    map_ok c.as_it_is.result (λ p e. e ∙ no_utf8_bytes c.args.bytes.now c.in-Err.ensures.cases.0) c.as_it_is.ensures.bytes

pub returns-in-Err-clause-named : goal.returns-in-Err-clause-named
returns-in-Err-clause-named c =
    map_ok c.as_it_is.result (λ p e. e ∙ no_utf8_named c.args.bytes.now c.in-Err.ensures.cases.0) c.as_it_is.ensures.named
