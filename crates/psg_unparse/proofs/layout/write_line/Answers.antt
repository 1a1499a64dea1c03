use Rattle.std.proofs.Common.{string_bytes}
use Rattle.psg_unparse.proofs.Adding.{indent_more}
use Rattle.psg_unparse.proofs.layout.write_line.Goals as goal

pub loop-level-preserved : goal.loop-level-preserved
loop-level-preserved c = indent_more (string_bytes c.push.new.self) (string_bytes c.loop-level.out) (string_bytes c.push_str.new.self) c.loop-level._level c.loop-level.invariant c.in_ok-push_str.ensures.bytes
