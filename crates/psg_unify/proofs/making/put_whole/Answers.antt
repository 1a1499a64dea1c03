use Rattle.std.proofs.Common.{◌≡◌, ◌<◌, ◌+◌, ◌∷◌, [], length-append, ℕ, List, length, reverse, refl, sym, ap, ◌∙◌, subst}
use Rattle.psg_terms.specs.Terms.{symbol, applied}
use Rattle.psg_terms.specs.Renaming.{keys, place}
use Rattle.psg_terms.specs.Shapes.{term_of}
use Rattle.psg_unify.specs.declared.making.Task.{Task}
use Rattle.psg_unify.specs.declared.making.Task.TheVariants.{Whole, Make}
use Rattle.psg_unify.specs.Making.{IsPutting, MayPut, work}
use Rattle.psg_unify.proofs.PuttingSteps.{put_open, put_arguments}
use Rattle.psg_unify.proofs.PuttingEnds.{work_less, stacked, stacked_one}
use Rattle.psg_unify.proofs.PuttingTasks.{may_open, may_constant, may_rest, may_con}
use Rattle.psg_unify.proofs.making.put_whole.Goals as goal

pub cell_of-cell-requires : goal.cell_of-cell-requires
cell_of-cell-requires c = record {
  known = may_open c.args.sig.now (keys c.args.known.now.keys) (length c.args.cells.now.items) c.args.term.now c.in-Var.sort.0 c.in-Var.number (reverse c.args.tasks.now.items)
      (sym c.node.ensures ∙ ap term_of c.in-Var.is) (sym c.in-None.ensures) c.requires.may;
  room = c.requires.room;
}

pub returns-in_ok-push-in-Some-clause-may : goal.returns-in_ok-push-in-Some-clause-may
returns-in_ok-push-in-Some-clause-may c =
    subst (MayPut c.args.sig.now (keys c.args.known.now.keys) (length c.args.cells.now.items)) (sym (stacked_one c.args.tasks.now.items c.push.new.self.items (Make c.in-Some.con 0) c.in_ok-push-in-Some.ensures.items))
    (may_constant c.args.sig.now (keys c.args.known.now.keys) (length c.args.cells.now.items) c.args.term.now c.in-Some.con (reverse c.args.tasks.now.items) c.requires.may)

pub returns-in_ok-push-in-None-clause-may : goal.returns-in_ok-push-in-None-clause-may
returns-in_ok-push-in-None-clause-may c =
    may_rest c.args.sig.now (keys c.args.known.now.keys) (length c.args.cells.now.items) (length c.push-in-None.new.self.items) c.args.term.now (reverse c.args.tasks.now.items)
    (ap length c.in_ok-push-in-None.ensures.items ∙ length-append c.args.cells.now.items (c.cell_of-cell.result ∷ [])) c.requires.may

pub returns-in_ok-push_whole-in-Con-clause-may : goal.returns-in_ok-push_whole-in-Con-clause-may
returns-in_ok-push_whole-in-Con-clause-may c =
    let t : c.args.term.now ≡ applied (symbol c.in-Con.con.0) c.as_slice-args.result.now =
    sym c.node.ensures ∙ ap term_of c.in-Con.is ∙ ap (applied (symbol c.in-Con.con.0)) (sym c.as_slice-args.ensures) in
    let s = stacked c.args.tasks.now.items c.push-in-Con.new.self.items c.push_whole.new.tasks.items (Make c.in-Con.con (length c.as_slice-args.result.now)) c.as_slice-args.result.now
    c.in_ok-push-in-Con.ensures.items c.in_ok-push_whole-in-Con.ensures in
    subst (MayPut c.args.sig.now (keys c.args.known.now.keys) (length c.args.cells.now.items)) (sym s)
    (may_con c.args.sig.now (keys c.args.known.now.keys) (length c.args.cells.now.items) (length c.as_slice-args.result.now) c.args.term.now c.in-Con.con c.as_slice-args.result.now (reverse c.args.tasks.now.items) t refl c.requires.may)

pub returns-in_ok-push-in-None-clause-put : goal.returns-in_ok-push-in-None-clause-put
returns-in_ok-push-in-None-clause-put c = λ old now row sound base p.
    put_open c.args.sig.now old (keys c.args.known.now.keys) row now (reverse c.args.tasks.now.items) c.args.cells.now.items c.push-in-None.new.self.items c.args.term.now
    c.in-Var.sort.0 c.in-Var.number c.cell_of-cell.result sound (sym c.node.ensures ∙ ap term_of c.in-Var.is) (sym c.in-None.ensures)
    (may_open c.args.sig.now (keys c.args.known.now.keys) (length c.args.cells.now.items) c.args.term.now c.in-Var.sort.0 c.in-Var.number (reverse c.args.tasks.now.items)
    (sym c.node.ensures ∙ ap term_of c.in-Var.is) (sym c.in-None.ensures) c.requires.may) (c.cell_of-cell.ensures ∙ ap (λ (n : ℕ). n + place (c.in-Var.sort.0, c.in-Var.number) (keys c.args.known.now.keys)) base)
    c.in_ok-push-in-None.ensures.items p

pub returns-in_ok-push_whole-in-Con-clause-less : goal.returns-in_ok-push_whole-in-Con-clause-less
returns-in_ok-push_whole-in-Con-clause-less c =
    let t : c.args.term.now ≡ applied (symbol c.in-Con.con.0) c.as_slice-args.result.now =
    sym c.node.ensures ∙ ap term_of c.in-Con.is ∙ ap (applied (symbol c.in-Con.con.0)) (sym c.as_slice-args.ensures) in
    let s = stacked c.args.tasks.now.items c.push-in-Con.new.self.items c.push_whole.new.tasks.items (Make c.in-Con.con (length c.as_slice-args.result.now)) c.as_slice-args.result.now
    c.in_ok-push-in-Con.ensures.items c.in_ok-push_whole-in-Con.ensures in
    subst (λ (l : List Task). work l < work (Whole c.args.term.now ∷ reverse c.args.tasks.now.items)) (sym s)
    (work_less c.args.term.now c.in-Con.con c.as_slice-args.result.now (length c.as_slice-args.result.now) (reverse c.args.tasks.now.items) t)

pub returns-in_ok-push_whole-in-Con-clause-put : goal.returns-in_ok-push_whole-in-Con-clause-put
returns-in_ok-push_whole-in-Con-clause-put c = λ old now row sound base p.
    let t : c.args.term.now ≡ applied (symbol c.in-Con.con.0) c.as_slice-args.result.now =
    sym c.node.ensures ∙ ap term_of c.in-Con.is ∙ ap (applied (symbol c.in-Con.con.0)) (sym c.as_slice-args.ensures) in
    let s = stacked c.args.tasks.now.items c.push-in-Con.new.self.items c.push_whole.new.tasks.items (Make c.in-Con.con (length c.as_slice-args.result.now)) c.as_slice-args.result.now
    c.in_ok-push-in-Con.ensures.items c.in_ok-push_whole-in-Con.ensures in
    subst (λ (l : List Task). IsPutting c.args.sig.now old (keys c.args.known.now.keys) row now l c.args.cells.now.items) (sym s)
    (put_arguments c.args.sig.now old (keys c.args.known.now.keys) row now (reverse c.args.tasks.now.items) c.args.cells.now.items c.args.term.now c.in-Con.con c.as_slice-args.result.now
    (length c.as_slice-args.result.now) t refl p)
