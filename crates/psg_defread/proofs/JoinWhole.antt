-- The text of a definition that was read is read as it, and has the layout.
use Rattle.std.proofs.Common.{◌≡◌, ℕ, Some, ◌<◌, ◌^◌, List, length, map, sym, subst}
use Rattle.std.specs.Prelude.{IsUtf8}
use Rattle.std.specs.Str.Lines.{lines as texts_of}
use Rattle.psg_grammar.specs.declared.types.Definition.{Definition}
use Rattle.psg_grammar.specs.Sound.{IsSound}
use Rattle.psg_deflines.specs.Entries.{AreSpelled, behind_head}
use Rattle.psg_defnumber.specs.Numbers.{IsNumbered}
use Rattle.psg_defread.specs.Reading.{IsReadAs}
use Rattle.psg_defread.specs.WrittenLines.{lines_of}
use Rattle.psg_defread.specs.Layout.{HasLayout}
use Rattle.psg_defread.proofs.WasRead.{WasRead}
use Rattle.psg_defread.proofs.NumberLines.{spelled_numbered, written-short}
use Rattle.psg_defread.specs.DefinitionText.{text_of}
use Rattle.psg_defread.proofs.JoinTexts.{IsLaid, laid-spelled, laid-text, written-some}
use Rattle.psg_defread.proofs.JoinFaults.{SpellOnce, text-faultless, text-plain}
use Rattle.psg_defread.proofs.FormLayout.{written_ranked, written_cases, written_places}
use Rattle.psg_defread.proofs.FormVariables.{written_variables}
use Rattle.psg_defread.proofs.FormWritten.{written_forms, written_plain, written_versions}
use Rattle.psg_defread.proofs.Counting.{head_version}
use Rattle.psg_defread.proofs.PassedLines.{written_passed}

was-read : SpellOnce → (bytes : List ℕ) (def : Definition) → IsSound def → IsReadAs bytes def → WasRead def
was-read once bytes def sound h = record {
  version = h.spells.version;
  is_version = head_version h.spells.version (texts_of bytes) h.spells.spelled.head;
  texts = behind_head (texts_of bytes);
  entries = h.spells.entries;
  each = h.spells.spelled.each;
  of_version = h.spells.spelled.of_version;
  numbered = h.spells.numbered;
  sound = sound;
  plain = text-plain once h.spells.version bytes h.spells.utf8 h.faultless h.spells.spelled.head h.spells.entries
      h.spells.spelled.each h.spells.spelled.of_version;
}

-- the lines are laid as those of the version that was read
module _ (text : List ℕ) (def : Definition) (read : WasRead def) (laid : IsLaid def.version (lines_of def) text) where
  laid-as : IsLaid read.version (lines_of def) text
  laid-as = subst (λ v. IsLaid v (lines_of def) text) read.numbered.same_version laid

  spelled : AreSpelled read.version (texts_of text) (map Some (lines_of def))
  spelled = laid-spelled read.version (lines_of def) text read.is_version (written_versions def read) (written_places def) (written_forms def read) laid-as

pub read-again : SpellOnce → (text : List ℕ) (def : Definition) → IsSound def → IsUtf8 text → length text < 2 ^ 63
    → IsLaid def.version (lines_of def) text → (bytes : List ℕ) → IsReadAs bytes def → IsReadAs text def
read-again once text def sound utf8 short laid bytes h =
    let read = was-read once bytes def sound h in
    let spells = spelled text def read laid in
    let numbered = spelled_numbered def read text spells short in
    record {
      spells = record {
        utf8 = utf8;
        version = read.version;
        entries = map Some (lines_of def);
        spelled = spells;
        numbered = subst (λ ls. IsNumbered read.version ls def) (sym (written-some (lines_of def))) numbered;
      };
      faultless = text-faultless once read.version text (lines_of def) utf8 spells (written_plain def read)
          (written_passed def read (written-short read.version text (lines_of def) spells short));
    }

pub layout : SpellOnce → (text : List ℕ) (def : Definition) → IsSound def → length text < 2 ^ 63 → IsLaid def.version (lines_of def) text
    → (bytes : List ℕ) → IsReadAs bytes def → HasLayout def.version text
layout once text def sound short laid bytes h =
    let read = was-read once bytes def sound h in
    let spells = spelled text def read laid in record {
      written = lines_of def;
      spelled = subst (λ v. AreSpelled v (texts_of text) (map Some (lines_of def))) (sym read.numbered.same_version) spells;
      ranked = written_ranked def;
      cases = written_cases def;
      variables = written_variables def read (written-short read.version text (lines_of def) spells short);
    }

pub text-is : SpellOnce → (text : List ℕ) (def : Definition) → IsSound def → IsLaid def.version (lines_of def) text
    → (bytes : List ℕ) → IsReadAs bytes def → text ≡ text_of def
text-is once text def sound laid bytes h =
    laid-text def.version (lines_of def) text laid (written_forms def (was-read once bytes def sound h))
