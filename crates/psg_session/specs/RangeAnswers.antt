-- What is answered when bytes of the printed text are replaced.
use Rattle.std.specs.Prelude.{Result, Ok, Err, IsUtf8}
use Rattle.psg_grammar.specs.declared.types.Definition.{Definition}
use Rattle.psg_unparse.specs.Layout.{text_of}
use Rattle.psg_textedit.specs.Regions.{Typing, IsOutside, IsTyped}
use Rattle.psg_textedit.specs.Typing.{IsForNode, IsTextFault}
use Rattle.psg_textedit.specs.declared.change.Change.{Change}
use Rattle.psg_textedit.specs.declared.change.TextFault.{TextFault}
use Rattle.psg_session.specs.PlainState.{Opened}
use Rattle.psg_session.specs.Ranged.{text_with}

module _ (def : Definition) (e : Typing) (old : Opened) where
  -- With the tree in place of a node of its kind the whole is the tree of the whole new text, which is UTF-8.
  pub record HasChange (change : Change) : Type 0 where
    pub typed : IsTyped def old.tree e old.kind change.path change.tree
    pub fits : IsForNode def old.tree change.path change.tree
    pub utf8 : IsUtf8 (text_with def e old)

  -- there is no such tree for the reason of the fault; if the bytes are there, the whole new text is UTF-8
  pub record HasNoChange (fault : TextFault) : Type 0 where
    pub reason : IsTextFault def old.tree e old.kind fault
    pub utf8 : (IsOutside e (text_of def old.tree) → ⊥) → IsUtf8 (text_with def e old)

  -- the change, or why there is none
  abbrev pub IsRangeAnswer : Result Change TextFault → Type 0
  IsRangeAnswer (Ok change) = HasChange change
  IsRangeAnswer (Err fault) = HasNoChange fault
