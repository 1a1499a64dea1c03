-- A plan is gone through a node a turn.
use Rattle.std.proofs.Common.{◌≡◌, ◌⊎◌, inl, inr, ℕ, ◌+◌, ◌*◌, ◌<◌, ◌≤◌, ◌↔◌, Bool, IsTrue, true, false, get_or, List, [], ◌∷◌, ◌++◌, length, length-append, Option, Some, None, slice_get, refl, ap, sym, ◌∙◌, subst, append_assoc, append-nil, arith}
use Rattle.std.proofs.lemmas.Bool.{true≢false}
use Rattle.psg_terms.proofs.Lists.{each_at, slice_get-middle, slice_get_item, slice_get_once}
use Rattle.psg_grammar.specs.declared.types.Definition.{Definition}
use Rattle.psg_grammar.specs.Fragments.{Fragment, hole, ending, cell, operator, with_child, with_name, with_number, with_text, anything, observed}
use Rattle.psg_grammar.specs.Paths.{Path}
use Rattle.psg_grammar.specs.Work.{work_of}
use Rattle.psg_eval.specs.declared.summary.SummaryParts.{SummaryParts}
use Rattle.psg_eval.specs.Summaries.{IsSummary, IsSummaryOf, StaysWithin}
use Rattle.psg_explain.specs.declared.stages.Stage.{Stage}
use Rattle.psg_explain.specs.Plans.{Flows, Step, adding as adding_steps, from_itself, halted, planned, through}
use Rattle.psg_explain.specs.Relations.{AreOwnFrom, AreRelations, EndsEmpty, HasRows, IsNodeStep, IsRelated, IsRelationAt, IsRestOf, IsWholeOf, same_rows}
use Rattle.psg_explain.specs.Sources.{IsStage}
use Rattle.psg_explain.proofs.CheckLaws.{stage_at, stages_many}
use Rattle.psg_explain.proofs.PlanBlocks.{AreBlocks, Block, Follows, IsFormedNode, joined, joined-append, planned_blocks, steps_in}
use Rattle.psg_explain.proofs.PlanFormed.{walked_of}
use Rattle.psg_explain.proofs.PlanLaws.{IsRest, Rows, flows_join, flows_length}
use Rattle.psg_explain.proofs.PlanRows.{Comes, making_comes}

-- the last of some and others is the last of the others, or there are no others
ends_append : (xs ys : List Rows) → EndsEmpty (xs ++ ys) → EndsEmpty xs ⊎ EndsEmpty ys
ends_append [] ys h = inr h
ends_append (x ∷ xs) ys (inl (e, none)) = inl (inl (e, front xs ys none))
  where
    front : (a b : List Rows) → a ++ b ≡ [] → a ≡ []
    front [] b h = refl
    front (z ∷ a) b h = absurd (cc)
ends_append (x ∷ xs) ys (inr h) = behind (ends_append xs ys h)
  where
    behind : EndsEmpty xs ⊎ EndsEmpty ys → EndsEmpty (x ∷ xs) ⊎ EndsEmpty ys
    behind (inl a) = inl (inr a)
    behind (inr b) = inr b

no_length : {X : Type 0} (xs : List X) → length xs ≡ 0 → xs ≡ []
no_length [] e = refl
no_length (x ∷ xs) e = absurd (omega (arith, e))

no_last : (x : Fragment) → ◌≡◌ {A = Option Fragment} None (Some x) → ⊥
no_last x e = absurd (cc)

-- what the program finds of the last
pub not_ended : (b : Bool) (rows slice : List Rows) → slice ≡ rows → IsTrue b ↔ EndsEmpty slice → b ≡ false → EndsEmpty rows → ⊥
not_ended b rows slice e h f ends = true≢false (sym (h.1 (subst EndsEmpty (sym e) ends)) ∙ f)

pub is_ended : (b : Bool) (rows slice : List Rows) → slice ≡ rows → IsTrue b ↔ EndsEmpty slice → b ≡ true → EndsEmpty rows
is_ended b rows slice e h t = subst EndsEmpty e (h.0 t)

pub stage_there : (stages : List Stage) (made : List Rows) (n : ℕ) (stage : Stage) → length made < length stages → n ≡ length made → stage ≡ get_or stages n stage → slice_get stages (length made) ≡ Some stage
stage_there stages made n stage lt e at = subst (λ (m : ℕ). slice_get stages m ≡ Some stage) e (slice_get_item stages n stage (omega (arith, lt, e)) at)

module _ (def : Definition) (root : Fragment) (path : Path) (node : Fragment) where
  -- So many nodes are done: what they came to, and what is known of the last.
  pub record IsWay (made : List Rows) (rest : Option SummaryParts) (start now : ℕ) : Type 0 where
    pub front : List Block
    pub back : List Block
    pub last : Option Fragment
    pub split : planned def 0 path node ≡ joined def front ++ joined def back
    pub chain : AreBlocks def root (joined def front) last back (Some node)
    pub many : length made ≡ length (joined def front)
    pub flow : (more : List Rows) → Flows def same_rows (IsRelationAt def) [] (joined def front) (made ++ more) (through made more)
    pub known : (x : Fragment) → last ≡ Some x → IsWholeOf def x rest
    pub count : length front + length back ≡ work_of node
    pub spent : now ≤ start + 2 * length front
    pub some : EndsEmpty made → ⊥

  pub way_start : (stages : List Stage) → IsRelated def root path node stages → (start : ℕ) → IsWay [] None start start
  way_start stages r start =
      let (kind, formed) = r.formed in
      let p = planned_blocks def root node path [] None 0 refl kind formed (walked_of def node kind formed.0 formed.1) r.there in
      let count = p.all.count in
      record {
        front = [];
        back = p.all.blocks;
        last = None;
        split = p.all.are;
        chain = p.all.chain;
        many = refl;
        flow = λ more. refl;
        known = λ x e. absurd (no_last x e);
        count = omega (arith, count);
        spent = omega arith;
        some = λ h. h;
      }

  rest_known : (r : Fragment) (o : Option SummaryParts) → IsRest r → IsWholeOf def r o → (s : SummaryParts) × (o ≡ Some s) × IsSummaryOf def r s × IsSummary def s
  rest_known (ending l u) o i h = h
  rest_known (cell l e r) o i h = h
  rest_known (hole p) o i h = absurd i
  rest_known (operator p) o i h = absurd i
  rest_known (with_child f t) o i h = absurd i
  rest_known (with_name f n) o i h = absurd i
  rest_known (with_number f n) o i h = absurd i
  rest_known (with_text f n) o i h = absurd i
  rest_known anything o i h = absurd i
  rest_known (observed f) o i h = absurd i

  rest_before : (f : Fragment) (last : Option Fragment) (o : Option SummaryParts) → Follows last f → IsFormedNode def f → ((x : Fragment) → last ≡ Some x → IsWholeOf def x o) → IsRestOf def f o
  rest_before (cell l e r) last o follows (kind, formed) known = rest_known r o (walked_of def (cell l e r) kind formed.0 formed.1).1 (known r follows)
  rest_before (ending l u) last o follows formed known = tt
  rest_before (hole p) last o follows formed known = tt
  rest_before (operator p) last o follows formed known = tt
  rest_before (with_child f t) last o follows formed known = tt
  rest_before (with_name f n) last o follows formed known = tt
  rest_before (with_number f n) last o follows formed known = tt
  rest_before (with_text f n) last o follows formed known = tt
  rest_before anything last o follows formed known = tt
  rest_before (observed f) last o follows formed known = tt

  abbrev first_step : Block → Step
  first_step b = record { path = b.path; cell = b.cell; part = b.part; number = 0; origin = from_itself }

  module _ (made : List Rows) (rest : Option SummaryParts) (start now : ℕ) (way : IsWay made rest start now) (stages : List Stage) (related : IsRelated def root path node stages) where
    abbrev F : List Step
    F = joined def way.front

    next_block : length made < length stages → (b : Block) × (bs : List Block) × (way.back ≡ b ∷ bs)
    next_block lt = by way.back refl
      where
        by : (xs : List Block) → way.back ≡ xs → (b : Block) × (bs : List Block) × (way.back ≡ b ∷ bs)
        by (b ∷ bs) e = (b, bs, e)
        by [] e =
            let all = stages_many def stages (planned def 0 path node) related.stages_are in
            let many = way.many in
            let whole : length (planned def 0 path node) ≡ length F = ap length (way.split ∙ ap (λ (l : List Block). F ++ joined def l) e ∙ append-nil F) in
            absurd (omega (arith, lt, all, many, whole))

    module _ (b : Block) (bs : List Block) (e : way.back ≡ b ∷ bs) where
      blocks : AreBlocks def root F way.last (b ∷ bs) (Some node)
      blocks = subst (λ (l : List Block). AreBlocks def root F way.last l (Some node)) e way.chain

      whole_plan : planned def 0 path node ≡ F ++ (steps_in def b ++ joined def bs)
      whole_plan = way.split ∙ ap (λ (l : List Block). F ++ joined def l) e

      here : slice_get (planned def 0 path node) (length made) ≡ Some (first_step b)
      here = ap (λ (l : List Step). slice_get l (length made)) whole_plan ∙ ap (slice_get (F ++ (steps_in def b ++ joined def bs))) way.many
          ∙ slice_get-middle F (first_step b) (adding_steps def b.path b.cell b.part 0 b.base b.children ++ joined def bs)

      node_step : (stage : Stage) → slice_get stages (length made) ≡ Some stage → IsNodeStep def root stage rest (first_step b)
      node_step stage at =
          let (s, there, is) = stage_at def stages (planned def 0 path node) (length made) stage related.stages_are at in
          let eq : s ≡ first_step b = slice_get_once (planned def 0 path node) (length made) s (first_step b) there here in
          record {
            stage = subst (IsStage def stage) eq is;
            placed = blocks.0.placed;
            light = each_at (λ (x : Step). StaysWithin def x.part) (planned def 0 path node) related.light (length made) (first_step b) here;
            rest = rest_before b.part way.last rest blocks.0.follows blocks.0.formed way.known;
          }

      few_spent : (later : ℕ) → later ≤ now + 2 → later ≤ start + 2 * work_of node
      few_spent later few =
          let count = way.count in
          let spent = way.spent in
          let back = ap length e in
          omega (arith, count, spent, back, few)

      comes : (rows more : List Rows) → AreOwnFrom def b.part 0 rows → Comes def made (steps_in def b) rows more
      comes rows more own = making_comes def b.path b.cell b.part b.base b.children blocks.0.count made rows more own

      module _ (rows : List Rows) (own : AreOwnFrom def b.part 0 rows) where
        longer : joined def (way.front ++ b ∷ []) ≡ F ++ steps_in def b
        longer = joined-append def root way.front (b ∷ []) ∙ ap (λ (l : List Step). F ++ l) (append-nil (steps_in def b))

        onward : (EndsEmpty rows → ⊥) → (more : List Rows) → Flows def same_rows (IsRelationAt def) made (steps_in def b) (rows ++ more) (through (made ++ rows) more)
        onward some more = by (comes rows more own)
          where
            by : Comes def made (steps_in def b) rows more → Flows def same_rows (IsRelationAt def) made (steps_in def b) (rows ++ more) (through (made ++ rows) more)
            by (inl (n, h)) = h
            by (inr (ends, h)) = absurd (some ends)

        further : (EndsEmpty rows → ⊥) → (more : List Rows) → Flows def same_rows (IsRelationAt def) [] (joined def (way.front ++ b ∷ [])) ((made ++ rows) ++ more) (through (made ++ rows) more)
        further some more =
            let whole = flows_join def same_rows (IsRelationAt def) F (steps_in def b) [] (made ++ (rows ++ more)) (through made (rows ++ more)) (through (made ++ rows) more) (way.flow (rows ++ more)) (onward some more) in
            subst (λ (l : List Step). Flows def same_rows (IsRelationAt def) [] l ((made ++ rows) ++ more) (through (made ++ rows) more)) (sym longer)
            (subst (λ (l : List Rows). Flows def same_rows (IsRelationAt def) [] (F ++ steps_in def b) l (through (made ++ rows) more)) (sym (append_assoc made rows more)) whole)

        goes_on : (known : Option SummaryParts) (later : ℕ) → IsWholeOf def b.part known → later ≤ now + 2 → (EndsEmpty rows → ⊥) → IsWay (made ++ rows) known start later
        goes_on known later is_known few some =
            let count = way.count in
            let spent = way.spent in
            let sizes = length-append way.front (b ∷ []) in
            let back = ap length e in
            let many = flows_length def same_rows (IsRelationAt def) (joined def (way.front ++ b ∷ [])) [] ((made ++ rows) ++ []) (made ++ rows) [] (further some []) in
            record {
              front = way.front ++ b ∷ [];
              back = bs;
              last = Some b.part;
              split = whole_plan ∙ sym (append_assoc F (steps_in def b) (joined def bs)) ∙ ap (λ (l : List Step). l ++ joined def bs) (sym longer);
              chain = subst (λ (l : List Step). AreBlocks def root l (Some b.part) bs (Some node)) (sym longer) blocks.1;
              many = omega (arith, many);
              flow = further some;
              known = λ x same. let d : b.part ≡ x = cc in subst (λ (f : Fragment). IsWholeOf def f known) d is_known;
              count = omega (arith, count, sizes, back);
              spent = omega (arith, spent, sizes, few);
              some = λ h. both h;
            }
          where
            both : EndsEmpty (made ++ rows) → ⊥
            both h = elim (ends_append made rows h) [ inl a ↦ way.some a | inr a ↦ some a ]

        is_done : EndsEmpty rows → AreRelations def path node (made ++ rows)
        is_done ends = by (comes rows [] own)
          where
            by : Comes def made (steps_in def b) rows [] → AreRelations def path node (made ++ rows)
            by (inl (n, h)) = absurd (n ends)
            by (inr (d, h)) =
                let (last, run) = h refl in
                let behind = flows_join def same_rows (IsRelationAt def) (steps_in def b) (joined def bs) made (rows ++ []) (halted last) (halted last) run refl in
                let whole = flows_join def same_rows (IsRelationAt def) F (steps_in def b ++ joined def bs) [] (made ++ (rows ++ [])) (through made (rows ++ [])) (halted last) (way.flow (rows ++ [])) behind in (
                  last,
                  subst (λ (l : List Step). Flows def same_rows (IsRelationAt def) [] l (made ++ rows) (halted last)) (sym whole_plan)
                      (subst (λ (l : List Rows). Flows def same_rows (IsRelationAt def) [] (F ++ (steps_in def b ++ joined def bs)) (made ++ l) (halted last)) (append-nil rows) whole),
                )

    -- the first step of the next node
    pub turn_step : length made < length stages → (stage : Stage) → slice_get stages (length made) ≡ Some stage → (s : Step) × IsNodeStep def root stage rest s
    turn_step lt stage at = let (b, bs, e) = next_block lt in (first_step b, node_step b bs e stage at)

    -- where the next node cannot be made, too
    pub turn_spent : length made < length stages → (later : ℕ) → later ≤ now + 2 → later ≤ start + 2 * work_of node
    turn_spent lt later few = let (b, bs, e) = next_block lt in few_spent b bs e later few

    module _ (lt : length made < length stages) (stage : Stage) (at : slice_get stages (length made) ≡ Some stage) (rows : List Rows) (own : (s : Step) → IsNodeStep def root stage rest s → AreOwnFrom def s.part 0 rows) where
      pub turn_on : (known : Option SummaryParts) (later : ℕ) → ((s : Step) → IsNodeStep def root stage rest s → IsWholeOf def s.part known) → later ≤ now + 2 → (EndsEmpty rows → ⊥) → IsWay (made ++ rows) known start later
      turn_on known later is_known few some =
          let (b, bs, e) = next_block lt in
          let step = node_step b bs e stage at in
          goes_on b bs e rows (own (first_step b) step) known later (is_known (first_step b) step) few some

      pub turn_over : EndsEmpty rows → HasRows def path node (made ++ rows)
      turn_over ends =
          let (b, bs, e) = next_block lt in
          inl (behind made, is_done b bs e rows (own (first_step b) (node_step b bs e stage at)) ends)
        where
          behind : (xs : List Rows) → EndsEmpty (xs ++ rows)
          behind [] = ends
          behind (x ∷ xs) = inr (behind xs)

      pub turn_some : 1 ≤ length rows
      turn_some = let (b, bs, e) = next_block lt in by b rows (own (first_step b) (node_step b bs e stage at))
        where
          by : (b : Block) (xs : List Rows) → AreOwnFrom def b.part 0 xs → 1 ≤ length xs
          by b [] h = absurd (omega (arith, h))
          by b (x ∷ xs) h = omega arith

    pub way_end : length stages ≤ length made → HasRows def path node made
    way_end le =
        let all = stages_many def stages (planned def 0 path node) related.stages_are in
        let many = way.many in
        let sizes = ap length way.split ∙ length-append F (joined def way.back) in
        let none : joined def way.back ≡ [] = no_length (joined def way.back) (omega (arith, le, all, many, sizes)) in
        let plan : planned def 0 path node ≡ F = way.split ∙ ap (λ (l : List Step). F ++ l) none ∙ append-nil F in
        inr (
          way.some,
          subst (λ (l : List Step). Flows def same_rows (IsRelationAt def) [] l made (through made [])) (sym plan)
              (subst (λ (l : List Rows). Flows def same_rows (IsRelationAt def) [] F l (through made [])) (append-nil made) (way.flow [])),
        )

    pub way_spent : now ≤ start + 2 * work_of node
    way_spent = let count = way.count in let spent = way.spent in omega (arith, count, spent)
