use Rattle.std.proofs.Common.{◌≡◌, [], ◌∷◌, max, Some, true, false, slice_get, refl, sym, ap, ◌∙◌, true≢false, ◌+◌, length, arith, ◌<◌}
use Rattle.std.proofs.lemmas.Result.{IfOk-weaker}
use Rattle.psg_terms.proofs.Lists.{got_some}
use Rattle.psg_grammar.specs.Fragments.{ending}
use Rattle.psg_class.specs.Terminals.{fixed, a_more, terminal_of}
use Rattle.psg_class.specs.Runs.{start}
use Rattle.psg_class.specs.Machine.{then_list, behind_all}
use Rattle.psg_class.specs.Texts.{tokens_of}
use Rattle.psg_parse.specs.States.{giving, running}
use Rattle.psg_parse.proofs.Leading.{leads_via}
use Rattle.psg_parse.proofs.Stacks.{nothing_next, other_next}
use Rattle.psg_parse.proofs.ListSteps.{more_token}
use Rattle.psg_parse.proofs.Moving.{moves_last, moves_dots, moves_next}
use Rattle.psg_parse.specs.Work.{stack_work}
use Rattle.psg_parse.proofs.WorkLaws.{falls_later, shorter}
use Rattle.psg_parse.proofs.lists.tail.Goals as goal

pub returns-in_default-split_first-clause-leads : goal.returns-in_default-split_first-clause-leads
returns-in_default-split_first-clause-leads c =
    let def = c.args.definition.now in
    let l = c.args.list in
    let kind = c.in-Some.kind.now in
    let found : slice_get c.args.definition.now.lists c.args.list ≡ Some c.in-Some.kind.now =
    ap (λ xs. slice_get xs c.args.list) (sym c.as_slice.ensures) ∙ got_some c.as_slice.result.now l c.get.result c.in-Some.kind c.get.ensures.lookup c.in-Some.is in
    let all = tokens_of c.args.rest.now in
    IfOk-weaker c.finish.result _ _ (λ s k st before e d n h x. leads_via def (giving e n) (then_list l before d ∷ st) all [] all (giving (behind_all l (e ∷ before) (ending l false)) (max d n)) st refl
    (moves_last def c.requires.class l kind found st before d e n all (nothing_next def c.args.rest.now (fixed kind.separator) c.in_default-split_first.ensures.cases)) s
    (k st (e ∷ before) (max d n) h x)) c.finish.ensures.leads

pub returns-then-not-is_fixed-clause-leads : goal.returns-then-not-is_fixed-clause-leads
returns-then-not-is_fixed-clause-leads c =
    let def = c.args.definition.now in
    let l = c.args.list in
    let kind = c.in-Some.kind.now in
    let found : slice_get c.args.definition.now.lists c.args.list ≡ Some c.in-Some.kind.now =
    ap (λ xs. slice_get xs c.args.list) (sym c.as_slice.ensures) ∙ got_some c.as_slice.result.now l c.get.result c.in-Some.kind c.get.ensures.lookup c.in-Some.is in
    let all = tokens_of c.args.rest.now in
    IfOk-weaker c.finish-then-not-is_fixed.result _ _ (λ s k st before e d n h x. leads_via def (giving e n) (then_list l before d ∷ st) all [] all (giving (behind_all l (e ∷ before) (ending l false)) (max d n)) st refl
    (moves_last def c.requires.class l kind found st before d e n all (other_next def c.args.rest.now c.in-Some-split_first.spanned.now c.in-Some-split_first.others.now (fixed kind.separator) c.in-Some-split_first.ensures.cases.0 (λ y. true≢false (sym (c.is_fixed.ensures.1 (c.see-seen.ensures ∙ y ∙ ap (λ w. fixed w) (sym c.as_str.ensures))) ∙ c.if-not-is_fixed.true)))) s
    (k st (e ∷ before) (max d n) h x)) c.finish-then-not-is_fixed.ensures.leads

pub returns-then-not-kind-clause-leads : goal.returns-then-not-kind-clause-leads
returns-then-not-kind-clause-leads c =
    let def = c.args.definition.now in
    let l = c.args.list in
    let kind = c.in-Some.kind.now in
    let found : slice_get c.args.definition.now.lists c.args.list ≡ Some c.in-Some.kind.now =
    ap (λ xs. slice_get xs c.args.list) (sym c.as_slice.ensures) ∙ got_some c.as_slice.result.now l c.get.result c.in-Some.kind c.get.ensures.lookup c.in-Some.is in
    let t = c.in-Some-split_first.spanned.now.token in
    let others = tokens_of c.in-Some-split_first.others.now in
    let ts : tokens_of c.args.rest.now ≡ c.in-Some-split_first.spanned.now.token ∷ tokens_of c.in-Some-split_first.others.now = ap tokens_of c.in-Some-split_first.ensures.cases.0 in
    let is : terminal_of c.args.definition.now c.in-Some-split_first.spanned.now.token ≡ fixed c.in-Some.kind.now.separator = sym c.see-seen.ensures ∙ c.is_fixed.ensures.0 c.if-not-is_fixed.false ∙ ap (λ w. fixed w) c.as_str.ensures in
    IfOk-weaker c.go_on.result _ _ (λ s k st before e d n h x. leads_via def (giving e n) (then_list l before d ∷ st) (tokens_of c.args.rest.now) (t ∷ []) others (running (start kind.element 0)) (then_list l (e ∷ before) (max d n) ∷ st) ts
    (moves_next def c.requires.class l kind found st before d e n t is others (λ u y. true≢false (sym u ∙ c.if-not-kind.true))) s
    (k st (e ∷ before) (max d n) h x)) c.go_on.ensures.leads

pub returns-in_default-split_first-2-clause-leads : goal.returns-in_default-split_first-2-clause-leads
returns-in_default-split_first-2-clause-leads c =
    let def = c.args.definition.now in
    let l = c.args.list in
    let kind = c.in-Some.kind.now in
    let found : slice_get c.args.definition.now.lists c.args.list ≡ Some c.in-Some.kind.now =
    ap (λ xs. slice_get xs c.args.list) (sym c.as_slice.ensures) ∙ got_some c.as_slice.result.now l c.get.result c.in-Some.kind c.get.ensures.lookup c.in-Some.is in
    let t = c.in-Some-split_first.spanned.now.token in
    let others = tokens_of c.in-Some-split_first.others.now in
    let ts : tokens_of c.args.rest.now ≡ c.in-Some-split_first.spanned.now.token ∷ tokens_of c.in-Some-split_first.others.now = ap tokens_of c.in-Some-split_first.ensures.cases.0 in
    let is : terminal_of c.args.definition.now c.in-Some-split_first.spanned.now.token ≡ fixed c.in-Some.kind.now.separator = sym c.see-seen.ensures ∙ c.is_fixed.ensures.0 c.if-not-is_fixed.false ∙ ap (λ w. fixed w) c.as_str.ensures in
    IfOk-weaker c.go_on-in_default-split_first-2.result _ _ (λ s k st before e d n h x. leads_via def (giving e n) (then_list l before d ∷ st) (tokens_of c.args.rest.now) (t ∷ []) others (running (start kind.element 0)) (then_list l (e ∷ before) (max d n) ∷ st) ts
    (moves_next def c.requires.class l kind found st before d e n t is others (λ u y. nothing_next def c.in-Some-split_first.others.now a_more c.in_default-split_first-2.ensures.cases y)) s
    (k st (e ∷ before) (max d n) h x)) c.go_on-in_default-split_first-2.ensures.leads

pub returns-then-not-is_more-clause-leads : goal.returns-then-not-is_more-clause-leads
returns-then-not-is_more-clause-leads c =
    let def = c.args.definition.now in
    let l = c.args.list in
    let kind = c.in-Some.kind.now in
    let found : slice_get c.args.definition.now.lists c.args.list ≡ Some c.in-Some.kind.now =
    ap (λ xs. slice_get xs c.args.list) (sym c.as_slice.ensures) ∙ got_some c.as_slice.result.now l c.get.result c.in-Some.kind c.get.ensures.lookup c.in-Some.is in
    let t = c.in-Some-split_first.spanned.now.token in
    let others = tokens_of c.in-Some-split_first.others.now in
    let ts : tokens_of c.args.rest.now ≡ c.in-Some-split_first.spanned.now.token ∷ tokens_of c.in-Some-split_first.others.now = ap tokens_of c.in-Some-split_first.ensures.cases.0 in
    let is : terminal_of c.args.definition.now c.in-Some-split_first.spanned.now.token ≡ fixed c.in-Some.kind.now.separator = sym c.see-seen.ensures ∙ c.is_fixed.ensures.0 c.if-not-is_fixed.false ∙ ap (λ w. fixed w) c.as_str.ensures in
    IfOk-weaker c.go_on-then-not-is_more.result _ _ (λ s k st before e d n h x. leads_via def (giving e n) (then_list l before d ∷ st) (tokens_of c.args.rest.now) (t ∷ []) others (running (start kind.element 0)) (then_list l (e ∷ before) (max d n) ∷ st) ts
    (moves_next def c.requires.class l kind found st before d e n t is others (λ u y. other_next def c.in-Some-split_first.others.now c.in-Some-split_first-2.second.now c.in-Some-split_first-2.behind.now a_more c.in-Some-split_first-2.ensures.cases.0 (λ z. true≢false (sym (c.is_more.ensures.1 (more_token def c.in-Some-split_first-2.second.now.token z)) ∙ c.if-not-is_more.true)) y)) s
    (k st (e ∷ before) (max d n) h x)) c.go_on-then-not-is_more.ensures.leads

pub returns-clause-leads : goal.returns-clause-leads
returns-clause-leads c =
    let def = c.args.definition.now in
    let l = c.args.list in
    let kind = c.in-Some.kind.now in
    let found : slice_get c.args.definition.now.lists c.args.list ≡ Some c.in-Some.kind.now =
    ap (λ xs. slice_get xs c.args.list) (sym c.as_slice.ensures) ∙ got_some c.as_slice.result.now l c.get.result c.in-Some.kind c.get.ensures.lookup c.in-Some.is in
    let t = c.in-Some-split_first.spanned.now.token in
    let others = tokens_of c.in-Some-split_first.others.now in
    let ts : tokens_of c.args.rest.now ≡ c.in-Some-split_first.spanned.now.token ∷ tokens_of c.in-Some-split_first.others.now = ap tokens_of c.in-Some-split_first.ensures.cases.0 in
    let is : terminal_of c.args.definition.now c.in-Some-split_first.spanned.now.token ≡ fixed c.in-Some.kind.now.separator = sym c.see-seen.ensures ∙ c.is_fixed.ensures.0 c.if-not-is_fixed.false ∙ ap (λ w. fixed w) c.as_str.ensures in
    let u = c.in-Some-split_first-2.second.now.token in
    let behind = tokens_of c.in-Some-split_first-2.behind.now in
    let all : tokens_of c.args.rest.now ≡ c.in-Some-split_first.spanned.now.token ∷ c.in-Some-split_first-2.second.now.token ∷ tokens_of c.in-Some-split_first-2.behind.now =
    ts ∙ ap (λ y. c.in-Some-split_first.spanned.now.token ∷ tokens_of y) c.in-Some-split_first-2.ensures.cases.0 in
    IfOk-weaker c.finish-2.result _ _ (λ s k st before e d n h x. leads_via def (giving e n) (then_list l before d ∷ st) (tokens_of c.args.rest.now) (t ∷ u ∷ []) behind (giving (behind_all l (e ∷ before) (ending l true)) (max d n)) st all
    (moves_dots def c.requires.class l kind found st before d e n t u is (c.is_more.ensures.0 c.if-not-is_more.false) c.if-not-kind.false behind) s
    (k st (e ∷ before) (max d n) h x)) c.finish-2.ensures.leads

pub returns-in_default-split_first-clause-falls : goal.returns-in_default-split_first-clause-falls
returns-in_default-split_first-clause-falls c = c.finish.ensures.falls

pub returns-then-not-is_fixed-clause-falls : goal.returns-then-not-is_fixed-clause-falls
returns-then-not-is_fixed-clause-falls c = c.finish-then-not-is_fixed.ensures.falls

pub returns-then-not-kind-clause-falls : goal.returns-then-not-kind-clause-falls
returns-then-not-kind-clause-falls c = IfOk-weaker c.go_on.result _ _ (λ s k. falls_later (length c.in-Some-split_first.others.now) (length c.args.rest.now) (2 + stack_work c.args.stack.items) (1 + stack_work c.args.stack.items) s (shorter c.args.rest.now c.in-Some-split_first.spanned.now c.in-Some-split_first.others.now c.in-Some-split_first.ensures.cases.0) k) c.go_on.ensures.falls

pub returns-in_default-split_first-2-clause-falls : goal.returns-in_default-split_first-2-clause-falls
returns-in_default-split_first-2-clause-falls c = IfOk-weaker c.go_on-in_default-split_first-2.result _ _ (λ s k. falls_later (length c.in-Some-split_first.others.now) (length c.args.rest.now) (2 + stack_work c.args.stack.items) (1 + stack_work c.args.stack.items) s (shorter c.args.rest.now c.in-Some-split_first.spanned.now c.in-Some-split_first.others.now c.in-Some-split_first.ensures.cases.0) k) c.go_on-in_default-split_first-2.ensures.falls

pub returns-then-not-is_more-clause-falls : goal.returns-then-not-is_more-clause-falls
returns-then-not-is_more-clause-falls c = IfOk-weaker c.go_on-then-not-is_more.result _ _ (λ s k. falls_later (length c.in-Some-split_first.others.now) (length c.args.rest.now) (2 + stack_work c.args.stack.items) (1 + stack_work c.args.stack.items) s (shorter c.args.rest.now c.in-Some-split_first.spanned.now c.in-Some-split_first.others.now c.in-Some-split_first.ensures.cases.0) k) c.go_on-then-not-is_more.ensures.falls

pub returns-clause-falls : goal.returns-clause-falls
returns-clause-falls c = IfOk-weaker c.finish-2.result _ _ (λ s k. falls_later (length c.in-Some-split_first-2.behind.now) (length c.args.rest.now) (1 + stack_work c.args.stack.items) (1 + stack_work c.args.stack.items) s (
    (let a : length c.in-Some-split_first.others.now < length c.args.rest.now = shorter c.args.rest.now c.in-Some-split_first.spanned.now c.in-Some-split_first.others.now c.in-Some-split_first.ensures.cases.0 in
    let b : length c.in-Some-split_first-2.behind.now < length c.in-Some-split_first.others.now = shorter c.in-Some-split_first.others.now c.in-Some-split_first-2.second.now c.in-Some-split_first-2.behind.now c.in-Some-split_first-2.ensures.cases.0 in
    omega (arith, a, b))) k) c.finish-2.ensures.falls
