use Rattle.std.proofs.Common.{refl, ◌∙◌}
use Rattle.psg_lint.proofs.open_places.tell_open.Goals as goal

pub tell_node-requires-clause-program : goal.tell_node-requires-clause-program
tell_node-requires-clause-program g c =
    record { judged = c.requires.judged; note = c.requires.note; used = c.as_slice.ensures.value ∙ c.in_ok-used.ensures }

pub tell_node-requires-clause-there : goal.tell_node-requires-clause-there
tell_node-requires-clause-there g c = refl
