-- Page Up and Page Down lead to a node where the chosen path leads somewhere.
use Rattle.std.proofs.Common.{◌≡◌, ℕ, zero, suc, ◌-◌, Bool, true, false, cond, List, [], ◌∷◌, length, Option, Some, None}
use Rattle.std.proofs.Common.{slice_get, refl, ap, sym, ◌∙◌, subst}
use Rattle.std.specs.Prelude.{nat_le}
use Rattle.std.specs.List.{AllByRecursion}
use Rattle.psg_grammar.specs.declared.types.Definition.{Definition}
use Rattle.psg_grammar.specs.declared.types.Kind.{Kind}
use Rattle.psg_grammar.specs.Fragments.{Fragment}
use Rattle.psg_grammar.specs.Paths.{Path}
use Rattle.psg_keys.specs.declared.key.Key.{Key}
use Rattle.psg_keymap.specs.Faces.{Face}
use Rattle.psg_modes.specs.Turning.{first_from, is_page_key, line_from, page_line, page_path, path_or, span_or}
use Rattle.psg_session.specs.Formed.{IsFormedState}
use Rattle.psg_session.specs.PlainState.{State}
use Rattle.psg_tui.specs.declared.editing.Aim.TheVariants as aims
use Rattle.psg_tui.specs.declared.editing.Editing.{Editing}
use Rattle.psg_tui.specs.Editing.{IsAt}
use Rattle.psg_tui.specs.Found.{IsLed, IsLedBy}
use Rattle.psg_tui.specs.Pressing.{IsOpened, is_down}
use Rattle.psg_tui.specs.Views.{face_of}
use Rattle.psg_tui.proofs.LeadingLaws.{Leads, spans_lead}
use Rattle.psg_unparse.specs.Spans.{printed_of}
use Rattle.psg_unparse.specs.declared.spans.Printed.{Printed}
use Rattle.psg_unparse.specs.declared.spans.Span.{Span}

abbrev SpanLeads : Fragment → Option Span → Type 0
SpanLeads f None = Unit {0}
SpanLeads f (Some s) = Leads f s.path

abbrev pub AllLead : Fragment → List Span → Type 0
AllLead f spans = AllByRecursion (λ (s : Span). Leads f s.path) spans

span_cond : (f : Fragment) (test : Bool) (a b : Option Span) → SpanLeads f a → SpanLeads f b
    → SpanLeads f (cond test a b)
span_cond f true a b x y = x
span_cond f false a b x y = y

first_span : (f : Fragment) (byte : ℕ) (spans : List Span) → AllLead f spans → SpanLeads f (first_from byte spans)
first_span f byte [] a = tt
first_span f byte (s ∷ spans) a =
    span_cond f (nat_le byte s.start) (Some s) (first_from byte spans) a.0 (first_span f byte spans a.1)

got_span : (f : Fragment) (spans : List Span) (k : ℕ) → AllLead f spans → SpanLeads f (slice_get spans k)
got_span f [] k a = tt
got_span f (s ∷ spans) zero a = a.0
got_span f (s ∷ spans) (suc k) a = got_span f spans k a.1

or_span : (f : Fragment) (a b : Option Span) → SpanLeads f a → SpanLeads f b → SpanLeads f (span_or a b)
or_span f (Some s) b x y = x
or_span f None b x y = y

or_path : (f : Fragment) (path : Path) (o : Option Span) → Leads f path → SpanLeads f o → Leads f (path_or path o)
or_path f path None h x = h
or_path f path (Some s) h x = x

pub page_leads : (f : Fragment) (p : Printed) → AllLead f p.spans → (face : Face) (down : Bool) → Leads f face.chosen
    → Leads f (page_path p face down)
page_leads f p a face down h =
    or_path f face.chosen
    (span_or (first_from (line_from 0 0 (page_line p face down) p.text) p.spans) (slice_get p.spans (length p.spans - 1))) h
    (or_span f (first_from (line_from 0 0 (page_line p face down) p.text) p.spans)
    (slice_get p.spans (length p.spans - 1))
    (first_span f (line_from 0 0 (page_line p face down) p.text) p.spans a) (got_span f p.spans (length p.spans - 1) a))

pub paged_so : (e : Editing) (tree : Fragment) → IsAt e tree → e.aim ≡ aims.Settled → (key : Key)
    → is_page_key key ≡ true → (down : Bool) → down ≡ is_down key → (path : Path)
    → path ≡ page_path e.shown.printed (face_of e.face) down
    → IsLed e.session.language tree (face_of e.face) key (Some path)
paged_so e tree at settled key page down same path is =
    subst (λ (b : Bool). IsLedBy e.session.language tree (face_of e.face) key b (Some path)) (sym page)
    (ap Some (is ∙ ap (λ (p : Printed). page_path p (face_of e.face) down) (at.shown settled).printed
    ∙ ap (page_path (printed_of e.session.language tree) (face_of e.face)) same))

-- the places of a program's text lead
pub all_lead : (def : Definition) (s : State) (kind : Kind) (tree : Fragment) → IsFormedState def s → IsOpened s kind tree
    → AllLead tree (printed_of def tree).spans
all_lead def s kind tree formed at = spans_lead def tree kind (formed.opened (record { kind = kind; tree = tree }) at)
