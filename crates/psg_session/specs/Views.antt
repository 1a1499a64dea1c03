-- The editor's values as the plain editor sees them.
use Rattle.std.specs.Prelude.{cond, List, [], ◌∷◌, map, string_bytes}
use Rattle.psg_grammar.specs.Insertion.{Leaf as PlainLeaf, a_name, a_number, a_text}
use Rattle.psg_grammar.specs.Marks.{good, wrong, Mark as PlainMark}
pub use Rattle.psg_specimen.specs.Languages.{IsLanguage}
use Rattle.psg_grammar.specs.declared.types.Definition.{Definition}
use Rattle.psg_scope.specs.declared.header.NameCol.{NameCol}
use Rattle.psg_scope.specs.Headers.{key_of}
use Rattle.psg_session.specs.Answers.{key_text}
use Rattle.psg_terms.specs.Names.{Name as PlainName}
use Rattle.psg_session.specs.declared.leaves.Leaf.{Leaf}
use Rattle.psg_session.specs.declared.leaves.Leaf.TheVariants.{Name, Number, Text}
use Rattle.psg_session.specs.declared.replies.Mark.{Mark}
use Rattle.psg_session.specs.declared.replies.Mark.TheVariants.{Good, Wrong}
use Rattle.psg_session.specs.declared.replies.Reply.{Reply}
use Rattle.psg_session.specs.declared.replies.Reply.TheVariants.{Refused, Marked, Shown, Answered, Seen}
use Rattle.psg_session.specs.Printing.{lines_in}
use Rattle.psg_session.specs.Replies.{refused, answered, marked, shown, Reply as PlainReply}

-- the leaf that the program's leaf is
abbrev pub plain_leaf : Leaf → PlainLeaf
plain_leaf (Name n) = a_name n
plain_leaf (Number n) = a_number n
plain_leaf (Text t) = a_text t

-- the mark that the program's mark is
abbrev pub mark_of : Mark → PlainMark
mark_of Good = good
mark_of (Wrong culprits) = wrong culprits.items

-- The reply that the program's reply is. A shown text is compared by its lines.
abbrev pub reply_of : Reply → PlainReply
reply_of (Refused refusal) = refused refusal
reply_of (Marked mark) = marked (mark_of mark)
reply_of (Shown text mark) = shown (lines_in text) (mark_of mark)
reply_of (Answered lines) = answered (map string_bytes lines.items)
reply_of (Seen lines) = answered lines.items

-- the texts of the keys that are not declared
abbrev pub names_without : Definition → List NameCol → List PlainName
names_without def [] = []
names_without def (c ∷ cs) = cond c.declared (names_without def cs) (key_text def (key_of c) ∷ names_without def cs)
