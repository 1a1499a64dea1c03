use Rattle.std.proofs.Common.{ap, ◌∙◌}
use Rattle.std.specs.Prelude.{string_bytes}
use Rattle.psg_session.specs.Printing.{goto_line}
use Rattle.psg_session.proofs.ChangeLaws.{kind_there}
use Rattle.psg_session.proofs.PrintLaws.{goto_written}
use Rattle.psg_session.proofs.printing.goto_line.Goals as goal

pub kind_name-name-requires : goal.kind_name-name-requires
kind_name-name-requires c =
    kind_there c.args.definition.now c.requires.sound c.args.node.now c.kind_of-kind.result c.requires.formed
    c.kind_of-kind.ensures

pub returns : goal.returns
returns c =
    let name = c.kind_name-name.result.now in
    let what = c.what_of-what.result.now in
    let span = c.args.span.now in
    let written = goto_written name what span (string_bytes c.in_ok-text.text) (string_bytes c.push_path.new.text)
    (string_bytes c.push_words.new.text) c.in_ok-text.ensures.ok c.in_ok-push_path.ensures
    c.in_ok-push_words.ensures in (
      c.kind_of-kind.result,
      name,
      c.kind_of-kind.ensures,
      c.kind_name-name.ensures,
      written ∙ ap (λ w. goto_line name w span) c.what_of-what.ensures,
    )
