-- How the reply to a line is written.
use Rattle.std.specs.Prelude.{ℕ, List, ◌++◌, count_by, decimal}
use Rattle.psg_session.specs.Replies.{Reply, feed, reply_text}
use Rattle.psg_run.specs.declared.framing.Framing.{Framing}
use Rattle.psg_run.specs.declared.framing.Framing.TheVariants as framings
use Rattle.psg_run.specs.Scripts.{is_feed}

-- how many lines a text has, each of which ends with a line feed
abbrev pub lines_in : List ℕ → ℕ
lines_in text = count_by is_feed text

-- a line with the number of lines of the text, and then the text
abbrev pub in_frame : List ℕ → List ℕ
in_frame text = feed (decimal (lines_in text)) ++ text

-- the reply, with the number of its lines before it
abbrev pub framed_text : Reply → List ℕ
framed_text reply = in_frame (reply_text reply)

-- what is written for a reply
abbrev pub written_by : Framing → Reply → List ℕ
written_by framings.Plain = reply_text
written_by framings.Framed = framed_text
