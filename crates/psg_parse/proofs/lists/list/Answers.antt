use Rattle.std.proofs.Common.{◌≡◌, ◌∷◌, [], Some, true, false, slice_get, refl, sym, ap, ◌∙◌, subst, true≢false, ◌+◌, length, arith}
use Rattle.std.proofs.lemmas.Result.{IfOk-weaker}
use Rattle.psg_terms.proofs.Lists.{got_none, got_some}
use Rattle.psg_grammar.specs.Fragments.{ending}
use Rattle.psg_class.specs.Terminals.{dots}
use Rattle.psg_class.specs.Follow.{First}
use Rattle.psg_class.specs.Runs.{list as listing, start}
use Rattle.psg_class.specs.Machine.{then_list}
use Rattle.psg_class.specs.Texts.{tokens_of}
use Rattle.psg_parse.specs.States.{giving, running, Moves}
use Rattle.psg_parse.proofs.Leading.{leads_via}
use Rattle.psg_parse.proofs.Stacks.{nothing_next}
use Rattle.psg_parse.proofs.ListSteps.{none_first}
use Rattle.psg_parse.proofs.Moving.{moves_none, moves_only_more, moves_some, none_there}
use Rattle.psg_parse.specs.Work.{stack_work}
use Rattle.psg_parse.proofs.WorkLaws.{falls_later, falls_more, shorter}
use Rattle.psg_parse.proofs.lists.list.Goals as goal
use Rattle.psg_parse.proofs.lists.list.Goals.{else-kind-via-then-kind+else-is_more, else-kind-via-else-kind}

pub returns-in_default-clause-leads : goal.returns-in_default-clause-leads
returns-in_default-clause-leads c st h us e F D y =
    let def = c.args.definition.now in
    none_there def c.args.list (ap (λ xs. slice_get xs c.args.list) (sym c.as_slice.ensures) ∙ got_none c.as_slice.result.now c.args.list c.get.result c.get.ensures.lookup c.in_default.is) us y.0 y.1 y.2 y.3

pub returns-in_default-split_first-clause-leads : goal.returns-in_default-split_first-clause-leads
returns-in_default-split_first-clause-leads c =
    let def = c.args.definition.now in
    let l = c.args.list in
    let kind = c.in-Some.kind.now in
    let found : slice_get c.args.definition.now.lists c.args.list ≡ Some c.in-Some.kind.now =
    ap (λ xs. slice_get xs c.args.list) (sym c.as_slice.ensures) ∙ got_some c.as_slice.result.now l c.get.result c.in-Some.kind c.get.ensures.lookup c.in-Some.is in
    let all = tokens_of c.args.rest.now in
    IfOk-weaker c.finish.result _ _ (λ s k st h. leads_via def (running (listing l)) st all [] all (giving (ending l false) 0) st refl
    (moves_none def c.requires.class l kind found st all (λ t e f. nothing_next def c.args.rest.now t c.in_default-split_first.ensures.cases e)) s (k st [] 0 h c.new-none.ensures)) c.finish.ensures.leads

pub returns-then-is_more-clause-leads : goal.returns-then-is_more-clause-leads
returns-then-is_more-clause-leads c =
    let def = c.args.definition.now in
    let l = c.args.list in
    let kind = c.in-Some.kind.now in
    let found : slice_get c.args.definition.now.lists c.args.list ≡ Some c.in-Some.kind.now =
    ap (λ xs. slice_get xs c.args.list) (sym c.as_slice.ensures) ∙ got_some c.as_slice.result.now l c.get.result c.in-Some.kind c.get.ensures.lookup c.in-Some.is in
    let t = c.in-Some-split_first.spanned.now.token in
    let others = tokens_of c.in-Some-split_first.others.now in
    let ts : tokens_of c.args.rest.now ≡ c.in-Some-split_first.spanned.now.token ∷ tokens_of c.in-Some-split_first.others.now = ap tokens_of c.in-Some-split_first.ensures.cases.0 in
    IfOk-weaker c.finish-then-is_more.result _ _ (λ s k st h. leads_via def (running (listing l)) st (tokens_of c.args.rest.now) (t ∷ []) others (giving (ending l true) 0) st ts
    (moves_only_more def c.requires.class l kind found st t (c.is_more.ensures.0 c.if-is_more.true) others c.if-kind.true) s
    (k st [] 0 h c.new-none.ensures)) c.finish-then-is_more.ensures.leads

pub returns-then-opens-clause-leads : goal.returns-then-opens-clause-leads
returns-then-opens-clause-leads c =
    let def = c.args.definition.now in
    let l = c.args.list in
    let kind = c.in-Some.kind.now in
    let found : slice_get c.args.definition.now.lists c.args.list ≡ Some c.in-Some.kind.now =
    ap (λ xs. slice_get xs c.args.list) (sym c.as_slice.ensures) ∙ got_some c.as_slice.result.now l c.get.result c.in-Some.kind c.get.ensures.lookup c.in-Some.is in
    let t = c.in-Some-split_first.spanned.now.token in
    let others = tokens_of c.in-Some-split_first.others.now in
    let ts : tokens_of c.args.rest.now ≡ c.in-Some-split_first.spanned.now.token ∷ tokens_of c.in-Some-split_first.others.now = ap tokens_of c.in-Some-split_first.ensures.cases.0 in
    let all = tokens_of c.args.rest.now in
    IfOk-weaker c.go_on.result _ _ (λ s k st h. leads_via def (running (listing l)) st all [] all (running (start kind.element 0)) (then_list l [] 0 ∷ st) refl
    (subst (λ z. Moves def (running (listing l)) st [] z (running (start kind.element 0)) (then_list l [] 0 ∷ st)) (sym ts) (moves_some def c.requires.class l kind found st t others
    (subst (First def kind.element) c.see-seen.ensures (c.opens.ensures.0 c.if-opens.true)))) s
    (k st [] 0 h c.new-none.ensures)) c.go_on.ensures.leads

pub returns-clause-leads : goal.returns-clause-leads
returns-clause-leads c =
    let def = c.args.definition.now in
    let l = c.args.list in
    let kind = c.in-Some.kind.now in
    let found : slice_get c.args.definition.now.lists c.args.list ≡ Some c.in-Some.kind.now =
    ap (λ xs. slice_get xs c.args.list) (sym c.as_slice.ensures) ∙ got_some c.as_slice.result.now l c.get.result c.in-Some.kind c.get.ensures.lookup c.in-Some.is in
    let t = c.in-Some-split_first.spanned.now.token in
    let others = tokens_of c.in-Some-split_first.others.now in
    let ts : tokens_of c.args.rest.now ≡ c.in-Some-split_first.spanned.now.token ∷ tokens_of c.in-Some-split_first.others.now = ap tokens_of c.in-Some-split_first.ensures.cases.0 in
    let all = tokens_of c.args.rest.now in
    let neither : c.in-Some.kind.now.unfinished ≡ true → c.in-Some-split_first.spanned.now.token ≡ dots → ⊥ = λ a b. elim c.else-kind.branch [
      | else-kind-via-then-kind+else-is_more w ↦ true≢false (sym (w.is_more.ensures.1 b) ∙ w.if-is_more.false)
      | else-kind-via-else-kind w ↦ true≢false (sym a ∙ w.if-kind.false)
    ] in
    IfOk-weaker c.finish-2.result _ _ (λ s k st h. leads_via def (running (listing l)) st all [] all (giving (ending l false) 0) st refl
    (subst (λ z. Moves def (running (listing l)) st [] z (giving (ending l false) 0) st) (sym ts) (moves_none def c.requires.class l kind found st (t ∷ others) (none_first def l kind found t others
    (λ f. true≢false (sym (c.opens.ensures.1 (subst (First def kind.element) (sym c.see-seen.ensures) f)) ∙ c.if-opens.false)) neither))) s
    (k st [] 0 h c.new-none.ensures)) c.finish-2.ensures.leads

pub returns-in_default-split_first-clause-falls : goal.returns-in_default-split_first-clause-falls
returns-in_default-split_first-clause-falls c = IfOk-weaker c.finish.result _ _ (λ s k. falls_more (length c.args.rest.now) (1 + stack_work c.args.stack.items) (2 + stack_work c.args.stack.items) s (omega arith) k) c.finish.ensures.falls

pub returns-then-is_more-clause-falls : goal.returns-then-is_more-clause-falls
returns-then-is_more-clause-falls c = IfOk-weaker c.finish-then-is_more.result _ _ (λ s k. falls_later (length c.in-Some-split_first.others.now) (length c.args.rest.now) (1 + stack_work c.args.stack.items) (2 + stack_work c.args.stack.items) s (shorter c.args.rest.now c.in-Some-split_first.spanned.now c.in-Some-split_first.others.now c.in-Some-split_first.ensures.cases.0) k) c.finish-then-is_more.ensures.falls

pub returns-then-opens-clause-falls : goal.returns-then-opens-clause-falls
returns-then-opens-clause-falls c = c.go_on.ensures.falls

pub returns-clause-falls : goal.returns-clause-falls
returns-clause-falls c = IfOk-weaker c.finish-2.result _ _ (λ s k. falls_more (length c.args.rest.now) (1 + stack_work c.args.stack.items) (2 + stack_work c.args.stack.items) s (omega arith) k) c.finish-2.ensures.falls
