-- Serves private contracts alone.
-- Readers of statements in the form that the code has: an item, and those that go on with it, behind what covers them.
use Rattle.std.specs.Prelude.{ℕ, List, [], ◌∷◌, length, Option, Some, None, Ok, Bool, true, false, codes, if◌then◌else◌}
use Rattle.msc_base.specs.declared.place.Place.{Place}
use Rattle.msc_tokens.specs.declared.token.Token.{Token}
use Rattle.msc_tree.specs.declared.chart.Cover.{Cover}
use Rattle.msc_tree.specs.declared.chart.Cover.TheVariants.{All, Listed}
use Rattle.msc_tree.specs.declared.reference.InlineForm.{InlineForm}
use Rattle.msc_tree.specs.Statements.{Item, Statement, Covered, Heading, Ended, items}
use Rattle.token_grammar.specs.Languages.{Set, Read, ◌>>=◌, just, starts, word_at, map_at, behind_at}
use Rattle.token_grammar.specs.PartReaders.{name_at, lead_at, more_names_at, ending_at}
use Rattle.msc_events.specs.DeclarationReaders.{declared_at}
use Rattle.msc_document.specs.DocumentReaders.{State, events, multis, alone, event_words, opening_words, chart_words, statement_goes_on, statement_at, statements_at, outside_event_at, outside_multi_at, outside_tails_at, covered_opening_at, chart_opening_at, instance_at}
use Rattle.msc_document.specs.DocumentReaders as document
use Rattle.msc_document.specs.ItemReaders.{more_going_at}

-- what goes on: any events, or multis alone
abbrev pub state_of : Bool → State
state_of true = events
state_of false = multis

abbrev pub outside_item_at : ℕ → Bool → List Token → Read Item
outside_item_at n any = document.more_at (outside_event_at n (outside_tails_at n)) (outside_multi_at n (outside_tails_at n)) (state_of any)

-- other names behind the first
abbrev pub other_names_at : List ℕ → List Token → Read (List (List ℕ))
other_names_at first ts = name_at ts >>= λ x. more_names_at (first ∷ (x.0 ∷ [])) (length x.1) x.1

-- Lines, where q reads an item of any kind, or a multi alone.
module _ (closer : Option InlineForm) (q : Bool → List Token → Read Item) where
  -- an item, and those that go on with it
  abbrev pub run_at : Bool → Cover → List Token → Read Statement
  run_at any cover ts = map_at alone (q any) ts >>= λ first. more_going_at (statement_goes_on closer (state_of any)) (q any) first.0 (length first.1) first.1 >>= λ held. Ok (Covered cover (items held.0), held.1)

  -- behind a lead: a colon, and events, a declaration or an end
  abbrev pub colon_form_at : List ℕ × Place → List Token → Read Statement
  colon_form_at at ts = word_at (just (codes ":")) ts >>= λ c. if starts event_words c.1 then run_at true (Listed (at.0 ∷ [])) c.1
      else if starts (just (codes "instance")) c.1 then map_at Heading (declared_at at) c.1 else map_at (λ e. Ended at.0) (behind_at (just (codes "endinstance")) ending_at) c.1

  -- behind a lead: a comma, names, a colon and multis
  abbrev pub list_form_at : List ℕ → List Token → Read Statement
  list_form_at first ts = word_at (just (codes ",")) ts >>= λ c. other_names_at first c.1 >>= λ l. word_at (just (codes ":")) l.1 >>= λ d. run_at false (Listed l.0) d.1

  abbrev pub led_form_at : List Token → Read Statement
  led_form_at ts = lead_at ts >>= λ at. if starts (just (codes ":")) at.1 then colon_form_at at.0 at.1 else list_form_at at.0.0 at.1

  abbrev pub all_form_at : List Token → Read Statement
  all_form_at ts = word_at (just (codes "all")) ts >>= λ a. word_at (just (codes ":")) a.1 >>= λ c. run_at false All c.1

  abbrev pub covered_form_at : List Token → Read Statement
  covered_form_at ts = if starts (just (codes "all")) ts then all_form_at ts else led_form_at ts

-- ---- in operands, and in charts, where no form closes them

-- what a statement begins with
abbrev pub statement_words : Option InlineForm → Set
statement_words None = chart_words
statement_words (Some form) = opening_words

-- up to the first item
abbrev pub first_at : Option InlineForm → ℕ → List Token → Read Statement
first_at None n = chart_opening_at n
first_at (Some form) n = covered_opening_at n

abbrev pub any_statement_at : Option InlineForm → ℕ → List Token → Read Statement
any_statement_at closer n = statement_at closer (first_at closer n) (outside_event_at n (outside_tails_at n)) (outside_multi_at n (outside_tails_at n))

-- statements, and the word behind them
abbrev pub some_statements_at : Option InlineForm → ℕ → List Token → Read (List Statement)
some_statements_at closer n = statements_at closer (statement_words closer) (first_at closer n) (outside_event_at n (outside_tails_at n)) (outside_multi_at n (outside_tails_at n))

abbrev pub statement_form_at : Option InlineForm → ℕ → List Token → Read Statement
statement_form_at None n ts = if starts (just (codes "instance")) ts then instance_at n ts else covered_form_at None (outside_item_at n) ts
statement_form_at (Some form) n ts = covered_form_at (Some form) (outside_item_at n) ts
