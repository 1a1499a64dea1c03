use Rattle.std.proofs.Common.{refl}
use Rattle.psg_tests_asking.proofs.KnownLaws.{known_is}
use Rattle.psg_tests_asking.proofs.tests.questions.asked.Goals as goal

pub note_of-requires : goal.note_of-requires
note_of-requires g c = c.in_ok-tree.ensures.0

pub repair_if-requires : goal.repair_if-requires
repair_if-requires g c = c.in_ok-tree.ensures.0

pub told-requires : goal.told-requires
told-requires g c =
    known_is c.args.language.now c.in_ok-kind.kind c.in_ok-tree.tree c.in_ok-note.note
    (record {
      formed = c.in_ok-tree.ensures.0;
      printable = c.in_ok-tree.ensures.1;
      noted = c.in_ok-note.ensures.note;
      good = c.in_ok-note.ensures.good;
    }) c.is_good-good.result _ c.is_good-good.ensures.rows refl c.in_ok-repair.repair _ c.in_ok-repair.ensures c.as_ref.ensures.value
