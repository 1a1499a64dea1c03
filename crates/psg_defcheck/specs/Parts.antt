-- What is wanted of the parts of a specimen.
use Rattle.std.specs.Prelude.{List, IsTrue, Option, Some, None}
use Rattle.psg_deflines.specs.declared.trees.LinePlace.{LinePlace}
use Rattle.psg_deflines.specs.declared.trees.LinePart.{LinePart}
use Rattle.psg_deflines.specs.declared.trees.LinePart.TheVariants as parts
use Rattle.psg_deflines.specs.declared.lines.Line.{Line}
use Rattle.psg_defcheck.specs.Scopes.{is_kind, is_list}
use Rattle.psg_defcheck.specs.Meanings.{KnowsTerm, KnowsTree, CountsTerm, CountsTree}

module _ (file : List Line) where
  abbrev pub KnowsPart : LinePart → Type 0
  KnowsPart (parts.Tree t) = KnowsTree file t
  KnowsPart _ = Unit {0}

  abbrev pub KnowsPlace : LinePlace → Type 0
  KnowsPlace p = IsTrue (is_kind file p.kind) × KnowsTerm file p.term

  abbrev pub KnowsEnd : Option LinePlace → Type 0
  KnowsEnd None = Unit {0}
  KnowsEnd (Some p) = IsTrue (is_list file p.kind) × KnowsTerm file p.term

  abbrev pub CountsPart : LinePart → Type 0
  CountsPart (parts.Tree t) = CountsTree file 0 t
  CountsPart _ = Unit {0}

  abbrev pub CountsEnd : Option LinePlace → Type 0
  CountsEnd None = Unit {0}
  CountsEnd (Some p) = CountsTerm file 0 p.term
