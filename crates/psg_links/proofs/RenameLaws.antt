-- The text with a new name, and what is said of it.
use Rattle.std.proofs.Common.{◌≡◌, ℕ, true, false, List, [], ◌∷◌, ◌++◌, length, drop, is_none, Option, Some, None, refl, ap, sym, ◌∙◌, subst, arith, append_assoc}
use Rattle.std.specs.Prelude.{Vec}
use Rattle.std.specs.declared.alloc.Global.{Global}
use Rattle.std.specs.declared.result.Result.{Result}
use Rattle.std.specs.declared.result.Result.TheVariants.{Ok, Err}
use Rattle.std.proofs.lemmas.Bool.{true≢false}
use Rattle.psg_grammar.specs.declared.types.Definition.{Definition}
use Rattle.psg_grammar.specs.declared.types.Kind.{Kind}
use Rattle.psg_grammar.specs.Fragments.{Fragment}
use Rattle.psg_lexis.specs.declared.token.Spanned.{Spanned}
use Rattle.psg_ranges.specs.Forests.{Forest}
use Rattle.psg_program.specs.OneAnswer.{HasOneAnswer}
use Rattle.psg_program.specs.Programs.{IsProgram}
use Rattle.psg_uses.specs.declared.names.Written.{Written}
use Rattle.psg_links.specs.declared.link.Link.{Link}
use Rattle.psg_links.specs.declared.page.Page.{Page}
use Rattle.psg_links.specs.declared.refusal.Refusal.{Refusal}
use Rattle.psg_links.specs.declared.refusal.Refusal.TheVariants as refusals
use Rattle.psg_links.specs.declared.spot.Spot.{Spot}
use Rattle.psg_links.specs.Links.{links_of}
use Rattle.psg_links.specs.Renaming.{IsAnswer, IsDeclared, IsGiven, IsTried, IsWithin, are_renamed, between, edited}
use Rattle.psg_links.specs.Renaming.{is_new_name, renamed_text}
use Rattle.psg_links.specs.Spots.{IsCovering, IsPage, spots_of}

-- ---- the text

none_left : (spots : List Spot) → length spots ≡ 0 → spots ≡ []
none_left [] h = refl
none_left (s ∷ spots) h = absurd (omega (arith, h))

module _ (bytes new : List ℕ) where
  pub edit_next : (spots more : List Spot) (s : Spot) (from next : ℕ) (made kept two all : List ℕ) → spots ≡ s ∷ more
      → kept ≡ between from s.start bytes → next ≡ s.end → two ≡ made ++ kept ++ new
      → made ++ edited bytes new from spots ≡ all → two ++ edited bytes new next more ≡ all
  edit_next spots more s from next made kept two all is k e t h =
      let rest = edited bytes new next more in
      let own = between from s.start bytes in
      ap (λ x. x ++ rest) (t ∙ ap (λ x. made ++ x ++ new) k)
      ∙ append_assoc (made ++ own) new rest ∙ append_assoc made own (new ++ rest)
      ∙ ap (λ x. made ++ x) (sym (append_assoc own new rest))
      ∙ ap (λ n. made ++ (own ++ new ++ edited bytes new n more)) e
      ∙ ap (λ ss. made ++ edited bytes new from ss) (sym is) ∙ h

  pub edit_end : (spots : List Spot) (from : ℕ) (made rest done all : List ℕ) → length spots ≡ 0 → rest ≡ drop from bytes
      → done ≡ made ++ rest → made ++ edited bytes new from spots ≡ all → done ≡ all
  edit_end spots from made rest done all is r d h =
      d ∙ ap (λ x. made ++ x) r ∙ ap (λ ss. made ++ edited bytes new from ss) (sym (none_left spots is)) ∙ h

-- ---- what is said of it

module _ (def : Definition) (kind : Kind) (text : List ℕ) (w : Link) (new : List ℕ) (links : List Link) where
  pub never_read : ((f : Fragment) → IsProgram def kind text f → ⊥) → IsTried def kind text w new links (Some refusals.Unread)
  never_read h = λ f r. h f r.program

  tried_tree : HasOneAnswer def → (p : Page) → IsPage def kind text p → (why : Option Refusal)
      → IsWithin w new links (links_of def p.tree) why → IsTried def kind text w new links why
  tried_tree one p page None h = (p.tree, record { program = page.program; names = h.0 }, h.1)
  tried_tree one p page (Some refusals.Unread) h = λ f r.
      let same : f ≡ p.tree = one.one_program kind text f p.tree r.program page.program in
      true≢false (sym (subst (λ g. are_renamed w new links (links_of def g) ≡ true) same r.names) ∙ h)
  tried_tree one p page (Some refusals.Relinked) h = (p.tree, record { program = page.program; names = h.0 }, h.1)
  tried_tree one p page (Some refusals.NoName) h = h
  tried_tree one p page (Some refusals.Outside) h = h
  tried_tree one p page (Some refusals.NewName) h = h

  pub tried_is : HasOneAnswer def → (p : Page) → IsPage def kind text p → (why : Option Refusal)
      → IsWithin w new links p.links.items why → IsTried def kind text w new links why
  tried_is one p page why h =
      tried_tree one p page why (subst (λ (ls : List Link). IsWithin w new links ls why) page.links h)

-- ---- the answer

pub none_is : {X : Type 0} (o : Option X) → is_none o ≡ true → o ≡ None
none_is None h = refl
none_is (Some x) h = absurd (true≢false (sym h))

some_is : (o : Option Written) → is_none o ≡ false → (x : Written) × (o ≡ Some x)
some_is None h = absurd (true≢false h)
some_is (Some x) h = (x, refl)

module _ (def : Definition) (kind : Kind) (bytes : List ℕ) (tokens : List Spanned) (nodes : Forest) (links : List Link) where
  pub declared_is : (byte : ℕ) (l : Link) (s : Spot) → IsCovering tokens nodes byte links l s → is_none l.declaration ≡ false
      → IsDeclared def kind bytes tokens nodes links byte l
  declared_is byte l s h o =
      let (d, is) = some_is l.declaration o in record { there = h.link; to = d; declared = is }

  pub given_refused : (l : Link) (new : List ℕ) (why : Refusal) → is_new_name def new ≡ true
      → IsTried def kind (renamed_text def kind bytes tokens nodes links new l) l new links (Some why)
      → IsGiven def kind bytes tokens nodes links l new (Err why)
  given_refused l new refusals.Unread n t = (n, t)
  given_refused l new refusals.Relinked n t = (n, t)
  given_refused l new refusals.NoName n t = t
  given_refused l new refusals.Outside n t = t
  given_refused l new refusals.NewName n t = absurd t

  pub answer_is : (byte : ℕ) (l : Link) (new : List ℕ) (answer : Result (Vec Spot Global) Refusal)
      → IsDeclared def kind bytes tokens nodes links byte l → IsGiven def kind bytes tokens nodes links l new answer
      → IsAnswer def kind bytes tokens nodes links byte new answer
  answer_is byte l new (Ok spots) d g = (l, d, g)
  answer_is byte l new (Err refusals.NewName) d g = (l, d, g)
  answer_is byte l new (Err refusals.Unread) d g = (l, d, g)
  answer_is byte l new (Err refusals.Relinked) d g = (l, d, g)
  answer_is byte l new (Err refusals.NoName) d g = absurd g
  answer_is byte l new (Err refusals.Outside) d g = absurd g

  pub text_is : (l : Link) (new own word made text : List ℕ) (spots : List Spot) → own ≡ bytes → word ≡ new
      → spots ≡ spots_of tokens nodes l links → made ≡ edited own word 0 spots → text ≡ made
      → text ≡ renamed_text def kind bytes tokens nodes links new l
  text_is l new own word made text spots o w s m t =
      t ∙ m ∙ ap (λ b. edited b word 0 spots) o ∙ ap (λ x. edited bytes x 0 spots) w ∙ ap (edited bytes new 0) s
