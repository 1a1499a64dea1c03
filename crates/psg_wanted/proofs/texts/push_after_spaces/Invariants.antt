use Rattle.std.proofs.Common.{◌≡◌, ◌++◌, drop, map}
use Rattle.std.specs.Prelude.{codes, string_bytes}
use Rattle.psg_wanted.specs.Texts.{after_each, name_of}
use Rattle.psg_wanted.proofs.texts.push_after_spaces.Given as goal

abbrev pub invariant-loop-op : goal.invariant-loop-op
invariant-loop-op l =
    string_bytes l.text ++ after_each (codes " ") (map (name_of l.definition) (drop l.op-index l.ops))
    ≡ string_bytes l.fn.text ++ after_each (codes " ") (map (name_of l.definition) l.ops)
