use Rattle.std.proofs.Common.{◌≡◌, false, chars, IsUtf8}
use Rattle.std.specs.Str.Iter.{chars_rest}
use Rattle.psg_lexis.specs.Faults.{is_closed}
use Rattle.psg_lexis.proofs.literal.is_closed.Given as goal

abbrev pub invariant-loop-c : goal.invariant-loop-c
invariant-loop-c l = record {
  utf8 : IsUtf8 (chars_rest l.c-iterator);
  answer : is_closed l.escaped (chars (chars_rest l.c-iterator)) ≡ is_closed false (chars l.text);
}
