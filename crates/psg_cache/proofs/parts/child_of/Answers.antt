use Rattle.std.proofs.Common.{◌∙◌, ap, sym}
use Rattle.std.specs.Prelude.{option_copied}
use Rattle.std.proofs.lemmas.Option.{none-some}
use Rattle.psg_terms.proofs.Lists.{slice_get_some}
use Rattle.psg_grammar.specs.Fragments.{children_of}
use Rattle.psg_cache.proofs.parts.child_of.Goals as goal

pub returns : goal.returns
returns c = sym c.child_at.ensures ∙ ap option_copied c.in-Some.is

pub unreachable-requires : goal.unreachable-requires
unreachable-requires c =
    let (child, there) = slice_get_some (children_of c.args.tree.now) c.args.number c.requires in
    none-some child (sym (sym c.child_at.ensures ∙ ap option_copied c.in-None.is) ∙ there)
