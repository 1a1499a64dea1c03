use Rattle.std.proofs.Common.{rules, ◌≡◌, ◌∙◌, List, ℕ, sym, subst}
use Rattle.std.specs.Prelude.{Ok, Err}
use Rattle.std.specs.List.{AllByRecursion}
use Rattle.psg_grammar.specs.Open.{IsOpen}
use Rattle.psg_menu.specs.Answers.{IsChosenAnswer, IsMenuAnswer}
use Rattle.psg_grammar.specs.Legal.{IsCompletable}
use Rattle.psg_menu.proofs.FormedTrials.{completable_menu}
use Rattle.psg_menu.proofs.MenuLaws.{CanStand, all_climb, menu_answer}
use Rattle.psg_menu.proofs.choosing.operators.Goals as goal

pub chosen-requires-clause-operators : goal.chosen-requires-clause-operators
chosen-requires-clause-operators g c =
    let def = c.args.definition.now in
    subst (AllByRecursion (CanStand def c.args.frames.now)) (sym (c.as_slice-each.ensures.value ∙ c.in_ok-ops.ensures)) (all_climb def c.args.frames.now c.args.phylum c.requires.frames)

pub returns-clause-open : goal.returns-clause-open
returns-clause-open g c = λ f path k stand all.
    let def = c.args.definition.now in
    menu_answer def (IsOpen def) f path k c.args.phylum (Ok c.in_ok-found.found)
    (subst (λ (ops : List ℕ). IsChosenAnswer def (IsOpen def) f path k ops (Ok c.in_ok-found.found)) (c.as_slice-each.ensures.value ∙ c.in_ok-ops.ensures) (c.in_ok-found.ensures.open f path k stand all))

pub returns-in_err-found-clause-open : goal.returns-in_err-found-clause-open
returns-in_err-found-clause-open g c = λ f path k stand all.
    let def = c.args.definition.now in
    let fault = c.in_err-found.field-0.0 in
    let d : c.from_residual-in_err-found.result ≡ Err fault = search rules in
    subst (IsMenuAnswer def (IsOpen def) f path k c.args.phylum) (sym d)
    (menu_answer def (IsOpen def) f path k c.args.phylum (Err fault)
    (subst (λ (ops : List ℕ). IsChosenAnswer def (IsOpen def) f path k ops (Err fault)) (c.as_slice-each.ensures.value ∙ c.in_ok-ops.ensures) (c.in_err-found.ensures.open f path k stand all)))

pub returns-clause-completable : goal.returns-clause-completable
returns-clause-completable g c = λ rows quiet f path k kind formed stand all.
    let def = c.args.definition.now in
    completable_menu def c.requires.sound rows quiet c.args.phylum c.requires.phylum c.args.frames.now c.requires.frames f path k kind formed stand (Ok c.in_ok-found.found)
    (menu_answer def (IsOpen def) f path k c.args.phylum (Ok c.in_ok-found.found)
    (subst (λ (ops : List ℕ). IsChosenAnswer def (IsOpen def) f path k ops (Ok c.in_ok-found.found)) (c.as_slice-each.ensures.value ∙ c.in_ok-ops.ensures) (c.in_ok-found.ensures.open f path k stand all)))

pub returns-in_err-found-clause-completable : goal.returns-in_err-found-clause-completable
returns-in_err-found-clause-completable g c = λ rows quiet f path k kind formed stand all.
    let def = c.args.definition.now in
    let fault = c.in_err-found.field-0.0 in
    let d : c.from_residual-in_err-found.result ≡ Err fault = search rules in
    subst (IsMenuAnswer def (IsCompletable def) f path k c.args.phylum) (sym d)
    (completable_menu def c.requires.sound rows quiet c.args.phylum c.requires.phylum c.args.frames.now c.requires.frames f path k kind formed stand (Err fault)
    (menu_answer def (IsOpen def) f path k c.args.phylum (Err fault)
    (subst (λ (ops : List ℕ). IsChosenAnswer def (IsOpen def) f path k ops (Err fault)) (c.as_slice-each.ensures.value ∙ c.in_ok-ops.ensures) (c.in_err-found.ensures.open f path k stand all))))
