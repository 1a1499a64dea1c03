-- Lines that are read from an input are replied to as those of a script.
use Rattle.std.proofs.Common.{◌≡◌, ℕ, List, refl, ◌∙◌}
use Rattle.psg_grammar.specs.declared.types.Definition.{Definition}
use Rattle.psg_session.specs.Replies.{Reply}
use Rattle.psg_run.specs.Chain.{Point, Runs, rests, goes}
use Rattle.psg_run.specs.Editing.{Editor, IsReplied, IsRepliedBy}
use Rattle.psg_run.specs.Live.{IsRepliedLive, with_input}
use Rattle.psg_run.specs.Outputs.{RepliesAlike, live_lines}
use Rattle.psg_run.specs.Worlds.{Incoming}
use Rattle.psg_run.proofs.Chains.{runs_append}

module _ (def : Definition) where
  -- a script's lines do not touch the input
  pub input_kept : (write : Reply → List ℕ) {s t : Point Editor} {lines : List (List ℕ)} {texts : List ℕ}
      → Runs Editor (IsRepliedBy def write) s lines texts t → t.input ≡ s.input
  input_kept write rests = refl
  input_kept write (goes mid text texts played more) = input_kept write more ∙ played.0.input

  -- and lead on as they do over any other input
  over_input : {s t : Point Editor} {lines : List (List ℕ)} {texts : List ℕ} (input : Incoming)
      → Runs Editor (IsReplied def) s lines texts t
      → Runs Editor (IsReplied def) (with_input s input) lines texts (with_input t input)
  over_input input rests = rests
  over_input input (goes mid text texts played more) =
      goes (with_input mid input) text texts (record { answers = played.0.answers; input = refl }, played.1)
      (over_input input more)

  replies_alike : {s t : Point Editor} {pieces : List (List ℕ)} {texts : List ℕ}
      → Runs Editor (IsRepliedLive def) s pieces texts t
      → Runs Editor (IsReplied def) (with_input s t.input) (live_lines pieces) texts t
  replies_alike rests = rests
  replies_alike {t = t} (goes mid text texts (input, gives, runs) more) =
      runs_append Editor (IsReplied def) (over_input t.input runs) (replies_alike more)

pub has_replies_alike : (def : Definition) → RepliesAlike def
has_replies_alike def s t pieces texts runs = replies_alike def runs
