-- The readers of statements in the form that the code has are those of the productions.
use Rattle.std.proofs.Common.{ℕ, ◌≡◌, ◌∙◌, Bool, true, false, cond, List, [], ◌∷◌, length, refl, ap, subst, Option, Some, None, Ok, Err, codes}
use Rattle.msc_base.specs.declared.place.Place.{Place}
use Rattle.msc_tokens.specs.declared.token.Token.{Token}
use Rattle.msc_tree.specs.declared.chart.Cover.{Cover}
use Rattle.msc_tree.specs.declared.chart.Cover.TheVariants.{All, Listed}
use Rattle.msc_tree.specs.declared.chart.Decl.{Decl}
use Rattle.msc_tree.specs.declared.reference.InlineForm.{InlineForm}
use Rattle.msc_tree.specs.Statements.{Item, Items, Statement, Column, Covered, Heading, Ended, items}
use Rattle.token_grammar.specs.Languages.{Read, ◌>>=◌, just, starts, word_at, each_at, map_at, seq_at, either_at, behind_at}
use Rattle.token_grammar.specs.Parts.{leads}
use Rattle.token_grammar.specs.PartReaders.{name_at, lead_at, comma_name_at, ending_at}
use Rattle.token_grammar.proofs.Lists.{apart_among}
use Rattle.token_grammar.proofs.Optionals.{mapped}
use Rattle.msc_events.specs.Declarations.{decl_of}
use Rattle.msc_events.specs.DeclarationReaders.{declaration_at, decl_at}
use Rattle.msc_document.specs.DocumentGrammar.{LedLine, lead_statement}
use Rattle.msc_document.specs.DocumentReaders.{State, alone, cover_kind, kind, long, going_at, more_at, event_words, statement_goes_on, statement_at, opening_at, colon_line_at, list_line_at, outside_event_at, outside_multi_at, outside_tails_at, column_at, column_event_at}
use Rattle.msc_document.specs.ItemReaders.{event_item_at, multi_item_at, more_going_at}
use Rattle.msc_document.specs.StatementReaders.{state_of, colon_form_at, list_form_at, led_form_at, all_form_at, covered_form_at, any_statement_at, statement_form_at, outside_item_at}
use Rattle.msc_document.proofs.ItemForms.{outside_event_is, outside_multi_is}
use Rattle.msc_events.specs.declared.orientation.Orientation.TheVariants as written

module _ (closer : Option InlineForm) (e m : List Token → Read Item) where
  abbrev q : Bool → List Token → Read Item
  q any = more_at e m (state_of any)

  -- ---- what goes on with a statement

  abbrev going : Statement → List Token → Read Statement
  going s ts = going_at (statement_goes_on closer (kind s)) (more_at e m (kind s)) (length ts) ts >>= λ held. Ok (long s held.0, held.1)

  abbrev gone : Read Statement → Read Statement
  gone r = r >>= λ s. going s.0 s.1

  column_ends : (d : Decl) (held : Items) (ts : List Token) → going (Column d held) ts ≡ Ok (Column d held, ts)
  column_ends d held [] = refl
  column_ends d held (t ∷ ts) = refl

  heading_ends : (d : Decl) (ts : List Token) → going (Heading d) ts ≡ Ok (Heading d, ts)
  heading_ends d [] = refl
  heading_ends d (t ∷ ts) = refl

  ended_ends : (n : List ℕ) (ts : List Token) → going (Ended n) ts ≡ Ok (Ended n, ts)
  ended_ends n [] = refl
  ended_ends n (t ∷ ts) = refl

  abbrev of_cover : Cover → List Item → Statement
  of_cover cover held = Covered cover (items held)

  grown : (cover : Cover) (a : Item) (r : Read (List Item)) → mapped (long (of_cover cover (a ∷ []))) r ≡ mapped (of_cover cover) (mapped (λ l. a ∷ l) r)
  grown cover a (Ok x) = refl
  grown cover a (Err f) = refl

  run_same : (any : Bool) (cover : Cover) → cover_kind cover ≡ state_of any → (a : Item) (ts : List Token)
      → going (of_cover cover (a ∷ [])) ts ≡ mapped (of_cover cover) (more_going_at (statement_goes_on closer (state_of any)) (q any) (a ∷ []) (length ts) ts)
  run_same any cover h a ts =
      subst (λ (s : State). going (of_cover cover (a ∷ [])) ts ≡ mapped (of_cover cover) (more_going_at (statement_goes_on closer s) (more_at e m s) (a ∷ []) (length ts) ts)) h
      (grown cover a (going_at (statement_goes_on closer (cover_kind cover)) (more_at e m (cover_kind cover)) (length ts) ts))

  -- ---- behind `all`

  abbrev AllSame : List Token → Type 0
  AllSame ts = gone (map_at (λ held. of_cover All held) (behind_at (just (codes "all")) (behind_at (just (codes ":")) (map_at alone m))) ts) ≡ all_form_at closer q ts

  all_item : (ts : List Token) (a : Token × List Token) (c : Token × List Token) → word_at (just (codes "all")) ts ≡ Ok a → word_at (just (codes ":")) a.1 ≡ Ok c → (r : Read Item) → m c.1 ≡ r → AllSame ts
  all_item ts a c h k (Ok i) l = rw (h, k, l) (run_same false All refl i.0 i.1)
  all_item ts a c h k (Err f) l = rw (h, k, l) refl

  all_colon : (ts : List Token) (a : Token × List Token) → word_at (just (codes "all")) ts ≡ Ok a → (r : Read Token) → word_at (just (codes ":")) a.1 ≡ r → AllSame ts
  all_colon ts a h (Ok c) k = all_item ts a c h k (m c.1) refl
  all_colon ts a h (Err f) k = rw (h, k) refl

  all_same : (ts : List Token) (r : Read Token) → word_at (just (codes "all")) ts ≡ r → AllSame ts
  all_same ts (Ok a) h = all_colon ts a h (word_at (just (codes ":")) a.1) refl
  all_same ts (Err f) h = rw h refl

  -- ---- behind a lead and a colon

  abbrev ColonSame : List ℕ × Place → List Token → Type 0
  ColonSame at ts = gone (mapped (λ (l : LedLine). lead_statement at l) (colon_line_at e ts)) ≡ colon_form_at closer q at ts

  colon_event : (at : List ℕ × Place) (ts : List Token) (c : Token × List Token) → word_at (just (codes ":")) ts ≡ Ok c → starts event_words c.1 ≡ true → (r : Read Item) → e c.1 ≡ r → ColonSame at ts
  colon_event at ts c h k (Ok i) l = rw (h, k, l) (run_same true (Listed (at.0 ∷ [])) refl i.0 i.1)
  colon_event at ts c h k (Err f) l = rw (h, k, l) refl

  colon_declaration : (at : List ℕ × Place) (ts : List Token) (c : Token × List Token) → word_at (just (codes ":")) ts ≡ Ok c → starts event_words c.1 ≡ false → starts (just (codes "instance")) c.1 ≡ true
      → (r : Read (List (List ℕ) × Option (Place × List ℕ))) → declaration_at c.1 ≡ r → ColonSame at ts
  colon_declaration at ts c h k j (Ok d) l = rw (h, k, j, l) (heading_ends (decl_of at d.0.0 d.0.1) d.1)
  colon_declaration at ts c h k j (Err f) l = rw (h, k, j, l) refl

  colon_end : (at : List ℕ × Place) (ts : List Token) (c : Token × List Token) → word_at (just (codes ":")) ts ≡ Ok c → starts event_words c.1 ≡ false → starts (just (codes "instance")) c.1 ≡ false
      → (r : Read (Unit {0})) → behind_at (just (codes "endinstance")) ending_at c.1 ≡ r → ColonSame at ts
  colon_end at ts c h k j (Ok d) l = rw (h, k, j, l) (ended_ends at.0 d.1)
  colon_end at ts c h k j (Err f) l = rw (h, k, j, l) refl

  colon_other : (at : List ℕ × Place) (ts : List Token) (c : Token × List Token) → word_at (just (codes ":")) ts ≡ Ok c → starts event_words c.1 ≡ false → (b : Bool) → starts (just (codes "instance")) c.1 ≡ b → ColonSame at ts
  colon_other at ts c h k true j = colon_declaration at ts c h k j (declaration_at c.1) refl
  colon_other at ts c h k false j = colon_end at ts c h k j (behind_at (just (codes "endinstance")) ending_at c.1) refl

  colon_rest : (at : List ℕ × Place) (ts : List Token) (c : Token × List Token) → word_at (just (codes ":")) ts ≡ Ok c → (b : Bool) → starts event_words c.1 ≡ b → ColonSame at ts
  colon_rest at ts c h true k = colon_event at ts c h k (e c.1) refl
  colon_rest at ts c h false k = colon_other at ts c h k (starts (just (codes "instance")) c.1) refl

  colon_same : (at : List ℕ × Place) (ts : List Token) (r : Read Token) → word_at (just (codes ":")) ts ≡ r → ColonSame at ts
  colon_same at ts (Ok c) h = colon_rest at ts c h (starts event_words c.1) refl
  colon_same at ts (Err f) h = rw h refl

  -- ---- behind a lead and a comma

  abbrev ListSame : List ℕ × Place → List Token → Type 0
  ListSame at ts = gone (mapped (λ (l : LedLine). lead_statement at l) (list_line_at m ts)) ≡ list_form_at closer q at.0 ts

  list_item : (at : List ℕ × Place) (ts : List Token) (c : Token × List Token) (x : List ℕ × List Token) (y : List (List ℕ) × List Token) (d : Token × List Token) → word_at (just (codes ",")) ts ≡ Ok c → name_at c.1 ≡ Ok x
      → each_at (just (codes ",")) comma_name_at (length x.1) x.1 ≡ Ok y → word_at (just (codes ":")) y.1 ≡ Ok d → (r : Read Item) → m d.1 ≡ r → ListSame at ts
  list_item at ts c x y d h k j l (Ok i) o = rw (h, k, j, l, o) (run_same false (Listed (at.0 ∷ (x.0 ∷ y.0))) refl i.0 i.1)
  list_item at ts c x y d h k j l (Err f) o = rw (h, k, j, l, o) refl

  list_colon : (at : List ℕ × Place) (ts : List Token) (c : Token × List Token) (x : List ℕ × List Token) (y : List (List ℕ) × List Token) → word_at (just (codes ",")) ts ≡ Ok c → name_at c.1 ≡ Ok x
      → each_at (just (codes ",")) comma_name_at (length x.1) x.1 ≡ Ok y → (r : Read Token) → word_at (just (codes ":")) y.1 ≡ r → ListSame at ts
  list_colon at ts c x y h k j (Ok d) l = list_item at ts c x y d h k j l (m d.1) refl
  list_colon at ts c x y h k j (Err f) l = rw (h, k, j, l) refl

  list_others : (at : List ℕ × Place) (ts : List Token) (c : Token × List Token) (x : List ℕ × List Token) → word_at (just (codes ",")) ts ≡ Ok c → name_at c.1 ≡ Ok x
      → (r : Read (List (List ℕ))) → each_at (just (codes ",")) comma_name_at (length x.1) x.1 ≡ r → ListSame at ts
  list_others at ts c x h k (Ok y) j = list_colon at ts c x y h k j (word_at (just (codes ":")) y.1) refl
  list_others at ts c x h k (Err f) j = rw (h, k, j) refl

  list_name : (at : List ℕ × Place) (ts : List Token) (c : Token × List Token) → word_at (just (codes ",")) ts ≡ Ok c → (r : Read (List ℕ)) → name_at c.1 ≡ r → ListSame at ts
  list_name at ts c h (Ok x) k = list_others at ts c x h k (each_at (just (codes ",")) comma_name_at (length x.1) x.1) refl
  list_name at ts c h (Err f) k = rw (h, k) refl

  list_same : (at : List ℕ × Place) (ts : List Token) (r : Read Token) → word_at (just (codes ",")) ts ≡ r → ListSame at ts
  list_same at ts (Ok c) h = list_name at ts c h (name_at c.1) refl
  list_same at ts (Err f) h = rw h refl

  -- ---- the whole line

  paired_lead : (at : List ℕ × Place) (r : Read LedLine) → mapped (λ (p : (List ℕ × Place) × LedLine). lead_statement p.0 p.1) (mapped (λ (l : LedLine). (at, l)) r) ≡ mapped (λ (l : LedLine). lead_statement at l) r
  paired_lead at (Ok l) = refl
  paired_lead at (Err f) = refl

  abbrev line_of : List Token → Read LedLine
  line_of ts = either_at (just (codes ":")) (colon_line_at e) (list_line_at m) ts

  line_same : (at : List ℕ × Place) (ts : List Token) (b : Bool) → starts (just (codes ":")) ts ≡ b
      → gone (mapped (λ (l : LedLine). lead_statement at l) (line_of ts)) ≡ cond (starts (just (codes ":")) ts) (colon_form_at closer q at ts) (list_form_at closer q at.0 ts)
  line_same at ts true h = rw h (colon_same at ts (word_at (just (codes ":")) ts) refl)
  line_same at ts false h = rw h (list_same at ts (word_at (just (codes ",")) ts) refl)

  abbrev lead_of : List Token → Read Statement
  lead_of = map_at (λ p. lead_statement p.0 p.1) (seq_at lead_at line_of)

  led_same : (ts : List Token) (r : Read (List ℕ × Place)) → lead_at ts ≡ r → gone (lead_of ts) ≡ led_form_at closer q ts
  led_same ts (Ok at) h = rw h (ap gone (paired_lead at.0 (line_of at.1)) ∙ line_same at.0 at.1 (starts (just (codes ":")) at.1) refl)
  led_same ts (Err f) h = rw h refl

  -- no lead is the word `all`
  not_all : (ts : List Token) → starts leads ts ≡ true → starts (just (codes "all")) ts ≡ false
  not_all [] h = refl
  not_all (t ∷ ts) h = apart_among leads (just (codes "all")) t refl h

  -- where neither stands there, the first token is refused by both
  refused_same : (ts : List Token) → starts leads ts ≡ false → starts (just (codes "all")) ts ≡ false → all_form_at closer q ts ≡ led_form_at closer q ts
  refused_same [] h k = refl
  refused_same (t ∷ ts) h k = rw (h, k) refl

  covered_other : (ts : List Token) (b : Bool) → starts leads ts ≡ false → starts (just (codes "all")) ts ≡ b → statement_at closer (opening_at e m) e m ts ≡ covered_form_at closer q ts
  covered_other ts true h k = rw (h, k) (all_same ts (word_at (just (codes "all")) ts) refl)
  covered_other ts false h k = rw (h, k) (all_same ts (word_at (just (codes "all")) ts) refl ∙ refused_same ts h k)

  covered_pick : (ts : List Token) (b : Bool) → starts leads ts ≡ b → statement_at closer (opening_at e m) e m ts ≡ covered_form_at closer q ts
  covered_pick ts true h = rw (h, not_all ts h) (led_same ts (lead_at ts) refl)
  covered_pick ts false h = covered_other ts (starts (just (codes "all")) ts) h refl

  pub covered_is : (ts : List Token) → statement_at closer (opening_at e m) e m ts ≡ covered_form_at closer q ts
  covered_is ts = covered_pick ts (starts leads ts) refl

-- ---- in charts

module _ (n : ℕ) where
  abbrev e : List Token → Read Item
  e = outside_event_at n (outside_tails_at n)

  abbrev m : List Token → Read Item
  m = outside_multi_at n (outside_tails_at n)

  -- a column goes on with nothing
  instance_ends : (ts : List Token) (r : Read ((Decl × (Unit {0} × (List Item × Unit {0})))))
      → (mapped (λ (p : Decl × (Unit {0} × (List Item × Unit {0}))). Column p.0 (items p.1.1.0)) r >>= λ s. going None e m s.0 s.1) ≡ mapped (λ (p : Decl × (Unit {0} × (List Item × Unit {0}))). Column p.0 (items p.1.1.0)) r
  instance_ends ts (Ok p) = column_ends None e m p.0.0 (items p.0.1.1.0) p.1
  instance_ends ts (Err f) = refl

  abbrev column_parts_at : List Token → Read (Decl × (Unit {0} × (List Item × Unit {0})))
  column_parts_at = behind_at (just (codes "instance")) (seq_at decl_at (seq_at ending_at (seq_at (column_at None (column_event_at n)) ending_at)))

  chart_pick : (ts : List Token) (b : Bool) → starts (just (codes "instance")) ts ≡ b → any_statement_at None n ts ≡ statement_form_at None n ts
  chart_pick ts true h = rw h (instance_ends ts (column_parts_at ts))
  chart_pick ts false h = rw h (covered_is None e m ts)

  pub statement_is : (closer : Option InlineForm) (ts : List Token) → any_statement_at closer n ts ≡ statement_form_at closer n ts
  statement_is None ts = chart_pick ts (starts (just (codes "instance")) ts) refl
  statement_is (Some form) ts = covered_is (Some form) e m ts

-- ---- items elsewhere

pub any_item : (n : ℕ) (any : Bool) (ts : List Token) → any ≡ true → event_item_at written.Covered n ts ≡ outside_item_at n any ts
any_item n true ts h = outside_event_is n ts
any_item n false ts h = cc

pub item_alone : (n : ℕ) (any : Bool) (ts : List Token) → any ≡ false → multi_item_at written.Covered n ts ≡ outside_item_at n any ts
item_alone n true ts h = cc
item_alone n false ts h = outside_multi_is n ts
