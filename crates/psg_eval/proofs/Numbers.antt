-- What a step with its number tells of the node.
use Rattle.std.proofs.Common.{ℕ, List, sym, subst}
use Rattle.std.specs.Prelude.{Result, Ok, Err, IfOk}
use Rattle.psg_terms.specs.Terms.{Term}
use Rattle.psg_terms.specs.Weight.{PassesLimit}
use Rattle.psg_grammar.specs.declared.types.Definition.{Definition}
use Rattle.psg_grammar.specs.Fragments.{Fragment}
use Rattle.psg_relation.specs.declared.relation.RelFault.{RelFault}
use Rattle.psg_relation.specs.declared.relation.RelFault.TheVariants as rel
use Rattle.psg_scope.specs.declared.header.Header.{Header}
use Rattle.psg_eval.specs.declared.partial.Partial.{Partial}
use Rattle.psg_eval.specs.declared.summary.EvalFault.{EvalFault}
use Rattle.psg_eval.specs.declared.summary.EvalFault.TheVariants as faults
use Rattle.psg_eval.specs.Partials.{MatchStep}
use Rattle.psg_eval.specs.Stages.{IsNumbered, MatchMade}
use Rattle.psg_eval.specs.Summaries.{Answers, IsFirstPassing}

pub numbered_if : (Q : Partial → Type 0) (made : Result Partial RelFault) (n : ℕ) (q : Partial) → IsNumbered made n (Ok q) → IfOk made Q → Q q
numbered_if Q (Ok p) n q e h = subst Q (sym e) h
numbered_if Q (Err f) n q e h = absurd e

pub numbered_step : (P : Header → List (List Term) → Type 0) (made : Result Partial RelFault) (n : ℕ) (q : Partial) → IsNumbered made n (Ok q) → MatchStep P made
    → P q.header q.rel × (PassesLimit q.rel → ⊥)
numbered_step P (Ok p) n q e s = subst (λ (x : Partial). P x.header x.rel × (PassesLimit x.rel → ⊥)) (sym e) s
numbered_step P (Err rel.Wide) n q e s = absurd e
numbered_step P (Err rel.Memory) n q e s = absurd e

-- a step that passes the limit is the first that does, where the earlier ones do not
pub numbered_fault : (def : Definition) (f : Fragment) (m : ℕ) (P : Header → List (List Term) → Type 0) (made : Result Partial RelFault) (n : ℕ) (e : EvalFault) → IsNumbered made n (Err e) → MatchStep P made
    → ((h : Header) (rows : List (List Term)) → P h rows → PassesLimit rows → IsFirstPassing def f n) → MatchMade def f m (Err e)
numbered_fault def f m P (Ok p) n e d s first = absurd d
numbered_fault def f m P (Err rel.Wide) n (faults.Wide k) d (h, rows, p, passes) first = subst (IsFirstPassing def f) (sym d) (first h rows p passes)
numbered_fault def f m P (Err rel.Wide) n faults.Memory d s first = tt
numbered_fault def f m P (Err rel.Memory) n (faults.Wide k) d s first = absurd d
numbered_fault def f m P (Err rel.Memory) n faults.Memory d s first = tt

-- where there is no node, there is no summary
pub fault_answers : (def : Definition) (f : Fragment) (n : ℕ) (e : EvalFault) → MatchMade def f n (Err e) → Answers def f (Err e)
fault_answers def f n (faults.Wide k) h = h
fault_answers def f n faults.Memory h = tt
