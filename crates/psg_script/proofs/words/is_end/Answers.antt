use Rattle.psg_script.proofs.WordLemmas.{end_tested}
use Rattle.psg_script.proofs.words.is_end.Goals as goal

pub returns : goal.returns
returns c =
    end_tested _ c.skip_spaces.ensures.spaces.0 _ _ c.skip_spaces.ensures.spaces.1 c.skip_spaces.ensures.rest c.is_empty.ensures
