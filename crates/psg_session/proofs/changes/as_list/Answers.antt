use Rattle.std.proofs.Common.{◌<◌, length, refl, sym, ap, subst}
use Rattle.psg_session.proofs.Shapes.{list_in, list_shape, listed, read_at}
use Rattle.psg_grammar.specs.Paths.{IsList}
use Rattle.psg_session.proofs.changes.as_list.Goals as goal

pub bounds-as_slice-list : goal.bounds-as_slice-list
bounds-as_slice-list c =
    subst (λ ls. c.in-List.list < length ls) (sym c.as_slice.ensures)
    (list_in c.args.definition.now c.args.tree.now c.shape.result.now c.in-List.list c.in-List.elements
    c.in-List.unfinished c.requires.formed c.shape.ensures c.in-List.is)

pub returns-in-List-clause-some : goal.returns-in-List-clause-some
returns-in-List-clause-some c =
    listed c.args.definition.now c.args.tree.now c.shape.result.now c.in-List.list c.in-List.elements
    c.in-List.unfinished _ c.shape.ensures c.in-List.is
    (read_at c.as_slice.result.now c.args.definition.now.lists c.in-List.list c.index-as_slice-list.result
    c.as_slice.ensures
    (list_in c.args.definition.now c.args.tree.now c.shape.result.now c.in-List.list c.in-List.elements
    c.in-List.unfinished c.requires.formed c.shape.ensures c.in-List.is) c.index-as_slice-list.is)
    (ap length c.as_slice-in-List.ensures) refl

pub returns-in_default : goal.returns-in_default
returns-in_default c = record {
  some = tt;
  none = λ h. let (l, es, u, is) = list_shape c.shape.result.now (subst IsList (sym c.shape.ensures) h) in
      c.in_default.not-List l es u is;
}
