use Rattle.psg_keymap.proofs.acts.removal.Goals as goal

pub is_removed-requires : goal.is_removed-requires
is_removed-requires c = record {
  sound = c.parts-parts.ensures.parts.sound;
  spaces = c.spaces.ensures c.parts-parts.result.now.definition c.parts-parts.ensures.parts.tables;
}
