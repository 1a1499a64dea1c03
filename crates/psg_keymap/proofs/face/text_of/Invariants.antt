use Rattle.std.proofs.Common.{◌≡◌, ◌++◌, drop}
use Rattle.std.specs.Prelude.{encode_utf8_all, string_bytes}
use Rattle.psg_keymap.proofs.face.text_of.Given as goal

abbrev pub invariant-loop-i : goal.invariant-loop-i
invariant-loop-i l = string_bytes l.text ++ encode_utf8_all (drop l.i l.chars) ≡ encode_utf8_all l.chars
