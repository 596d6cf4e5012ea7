-- Where exceptions may not stand: inside an operand, and at the outermost level where they don't cover all instances.
use Rattle.std.specs.Prelude.{◌&&◌, ℕ, Bool, true, false, not, List, [], ◌∷◌, ◌++◌, nat_eq}
use Rattle.std.specs.List.{flat_map}
use Rattle.chart_text.specs.Gathering.{place_if}
use Rattle.chart_text.specs.Texts.{Passage, a_head, a_statement, an_item, an_operand, chart_text}
use Rattle.msc_base.specs.Lists.{IsAmong}
use Rattle.msc_base.specs.declared.place.Place.{Place}
use Rattle.msc_instances.specs.Instances.{instances}
use Rattle.msc_meaning.specs.LevelItems.{cover_by, is_in, shared_of}
use Rattle.msc_meaning.specs.Pieces.{Piece, statements_pieces}
use Rattle.msc_tree.specs.Charts.{Basic, Chart, Content, HighLevel}
use Rattle.msc_tree.specs.Statements.{Form, Single, Coregion, Condition, Inline, Refer, Stop, statements}
use Rattle.msc_tree.specs.declared.reference.InlineForm.{InlineForm}
use Rattle.msc_tree.specs.declared.reference.InlineForm.TheVariants.{Exc}

abbrev pub is_exception : InlineForm → Bool
is_exception Exc = true
is_exception _ = false

-- ---- inside operands

abbrev pub inner_item : ℕ → Place → Form → List Place
inner_item depth place (Inline head held) = place_if (is_exception head.form && not (nat_eq depth 0)) place
inner_item depth place (Single event) = []
inner_item depth place (Coregion held) = []
inner_item depth place (Condition names shared) = []
inner_item depth place (Refer reference) = []
inner_item depth place Stop = []

abbrev pub inner_exceptions : Passage → List Place
inner_exceptions (a_head decl) = []
inner_exceptions (a_statement depth scope x) = []
inner_exceptions (an_item s place form) = inner_item s.depth place form
inner_exceptions (an_operand s x) = []

-- ---- at the outermost level

-- each of the names is covered
abbrev pub covers_all : List (List ℕ) → List (List ℕ) → Bool
covers_all [] cover = true
covers_all (i ∷ names) cover = is_in cover i && covers_all names cover

abbrev pub outer_form : Bool → Place → Form → List Place
outer_form all place (Inline head held) = place_if (is_exception head.form && not all) place
outer_form all place (Single event) = []
outer_form all place (Coregion held) = []
outer_form all place (Condition names shared) = []
outer_form all place (Refer reference) = []
outer_form all place Stop = []

abbrev pub outer_piece : List (List ℕ) → Piece → List Place
outer_piece names p = outer_form (covers_all names (cover_by names p.leads p.column (shared_of p.form))) p.place p.form

abbrev pub outer_pieces : List (List ℕ) → List Piece → List Place
outer_pieces names [] = []
outer_pieces names (p ∷ ps) = outer_piece names p ++ outer_pieces names ps

abbrev pub outer_exceptions : List (List ℕ) → Content → List Place
outer_exceptions names (Basic held) = outer_pieces names (statements_pieces names 0 (statements held))
outer_exceptions names (HighLevel drawn) = []

-- ---- both

abbrev pub misplaced : List (List ℕ) → Chart → List Place
misplaced names chart = flat_map inner_exceptions (chart_text chart) ++ outer_exceptions names chart.content

-- at that place of the chart an exception stands that may not
abbrev pub IsMisplaced : Chart → Place → Type 0
IsMisplaced chart place = IsAmong (misplaced (instances chart) chart) place
