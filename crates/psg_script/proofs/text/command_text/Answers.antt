use Rattle.std.proofs.Common.{ap, ◌∙◌}
use Rattle.std.proofs.lemmas.Str.{IsUtf8-string_bytes}
use Rattle.std.specs.String.{string_bytes}
use Rattle.psg_script.specs.Forms.{tail_of}
use Rattle.psg_script.specs.Keywords.{keyword_text, fields_of}
use Rattle.psg_script.specs.Lines.{with_words, with_tail}
use Rattle.psg_script.proofs.LineLemmas.{made_spells}
use Rattle.psg_script.proofs.text.command_text.Goals as goal

pub returns : goal.returns
returns c =
    let begin = c.in_ok-line.ensures.ok ∙ (c.text.ensures ∙ ap keyword_text c.keyword_of.ensures) in
    made_spells (string_bytes c.push_parts.new.line) c.args.command.now (IsUtf8-string_bytes c.push_parts.new.line) c.requires
    (c.in_ok-push_parts.ensures ∙ ap (λ t. with_tail (with_words t (fields_of c.args.command.now)) (tail_of c.args.command.now)) begin)
