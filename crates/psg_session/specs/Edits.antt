-- Changes of a tree at a path.
use Rattle.std.specs.Prelude.{ℕ, ◌+◌}
use Rattle.psg_grammar.specs.declared.types.Definition.{Definition}
use Rattle.psg_grammar.specs.Fragments.{Fragment}
use Rattle.psg_grammar.specs.Paths.{change_at, inserted, removed, replaced}
use Rattle.psg_grammar.specs.Work.{work_of, climb_of}
use Rattle.psg_cache.specs.Diff.{diff_of}
use Rattle.psg_cache.specs.Edits.{MayReplace, MayInsert, MayRemove}
use Rattle.psg_session.specs.declared.edits.Edit.{Edit}
use Rattle.psg_session.specs.declared.edits.Edit.TheVariants.{Put, Add, Take}

-- the tree with the change made
abbrev pub edited : Edit → Fragment → Fragment
edited (Put at new) f = replaced at new f
edited (Add at place new) f = change_at (inserted place new) at f
edited (Take at place) f = change_at (removed place) at f

-- how many evaluations the change may take: those by which the new tree differs from the old one, or those of a new
-- element and of the nodes and list suffixes above it
abbrev pub cost_of : Edit → Fragment → ℕ
cost_of (Put at new) f = diff_of f (replaced at new f)
cost_of (Add at place new) f = work_of new + (place + 1) + climb_of f at
cost_of (Take at place) f = place + climb_of f at

-- the change can be made, and leaves a tree of the same kind
abbrev pub MayEdit : Definition → Fragment → Edit → Type 0
MayEdit def f (Put at new) = MayReplace def f at new
MayEdit def f (Add at place new) = MayInsert def f at place new
MayEdit def f (Take at place) = MayRemove def f at place
