-- The tokens of the whole new text of a job.
use Rattle.std.proofs.Common.{List}
use Rattle.std.specs.Str.{IsUtf8}
use Rattle.std.specs.List.{AllByRecursion}
use Rattle.psg_grammar.specs.WellFormed.{fixed_words}
use Rattle.psg_lexis.specs.declared.token.Spanned.{Spanned}
use Rattle.psg_class.specs.Only.{IsValue}
use Rattle.psg_class.specs.Texts.{TextTokens, tokens_of}
use Rattle.psg_unparse.specs.Layout.{text_of}
use Rattle.psg_textedit.specs.Regions.{new_text}
use Rattle.psg_textedit.proofs.TypedNode.{text_utf8}
use Rattle.std.proofs.lemmas.Str.{IsUtf8-append, IsUtf8-drop, IsUtf8-take}
use Rattle.std.proofs.Common.{◌++◌, take, drop}
use Rattle.psg_textedit.specs.declared.nodes.Job.{Job}
use Rattle.psg_textedit.specs.Jobs.{IsJob, language_of, tree_in, typing_in}
use Rattle.psg_textedit.proofs.OldTokens.{has_old, HasOld}
use Rattle.psg_textedit.proofs.TokenValues.{text_values}
use Rattle.psg_textedit.proofs.Whole.{whole, IsWhole}

module _ (j : Job) (ok : IsJob j) where
  pub old_utf8 : IsUtf8 (text_of (language_of j) (tree_in j))
  old_utf8 = text_utf8 (language_of j) ok.reader.sound ok.reader.tokens ok.reader.class (tree_in j) j.kind ok.printable ok.formed

  pub new_utf8 : IsUtf8 (new_text (language_of j) (tree_in j) (typing_in j))
  new_utf8 =
      IsUtf8-append (take (typing_in j).start (text_of (language_of j) (tree_in j)))
      ((typing_in j).new ++ drop (typing_in j).end (text_of (language_of j) (tree_in j)))
      (IsUtf8-take (text_of (language_of j) (tree_in j)) (typing_in j).start old_utf8 ok.inside.start_whole)
      (IsUtf8-append (typing_in j).new (drop (typing_in j).end (text_of (language_of j) (tree_in j))) ok.new
      (IsUtf8-drop (text_of (language_of j) (tree_in j)) (typing_in j).end old_utf8 ok.inside.end_whole))

  pub job_old : HasOld (language_of j) ok.reader.sound ok.reader.tokens ok.reader.class (tree_in j) j.kind ok.printable ok.formed
  job_old = has_old (language_of j) ok.reader.sound ok.reader.tokens ok.reader.class (tree_in j) j.kind ok.printable ok.formed

  pub job_whole : IsWhole (fixed_words (language_of j)) (typing_in j) (text_of (language_of j) (tree_in j)) j.lines.before.now
      j.lines.behind.now ok.inside old_utf8 ok.new ok.lines job_old.tokens j.all.now
  job_whole =
      whole (fixed_words (language_of j)) (typing_in j) (text_of (language_of j) (tree_in j)) j.lines.before.now
      j.lines.behind.now ok.inside old_utf8 ok.new ok.lines job_old.tokens j.all.now job_old.are ok.all

  abbrev pub all_tokens : List Spanned
  all_tokens = job_whole.tokens

  pub all_are : TextTokens (language_of j) (new_text (language_of j) (tree_in j) (typing_in j)) all_tokens
  all_are = job_whole.are

  pub all_values : AllByRecursion IsValue (tokens_of all_tokens)
  all_values =
      text_values (fixed_words (language_of j)) (new_text (language_of j) (tree_in j) (typing_in j)) 0 all_tokens new_utf8 all_are
