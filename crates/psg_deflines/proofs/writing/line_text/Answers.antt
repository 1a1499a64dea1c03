use Rattle.std.proofs.Common.{string_bytes}
use Rattle.psg_deflines.proofs.LineTextLaws.{as_parts, spelled}
use Rattle.psg_deflines.proofs.writing.line_text.Goals as goal

pub returns-clause-spelled : goal.returns-clause-spelled
returns-clause-spelled c = spelled c.args.line.now (string_bytes c.new-out.result) (string_bytes c.write_line.new.out) c.new-out.ensures.bytes c.in_ok-write_line.ensures

pub returns-clause-text : goal.returns-clause-text
returns-clause-text c = as_parts c.args.line.now (string_bytes c.new-out.result) (string_bytes c.write_line.new.out) c.new-out.ensures.bytes c.in_ok-write_line.ensures
