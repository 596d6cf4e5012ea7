-- The coregions of decomposed instances, by the text of a chart: at its outermost level none may stand there. What a chart is woven to has
-- the events of a coregion, but not its place.
use Rattle.std.specs.Prelude.{◌&&◌, ℕ, Bool, false, List, [], nat_eq}
use Rattle.std.specs.List.{flat_map, list_any}
use Rattle.std.specs.Str.{bytes_eq}
use Rattle.chart_text.specs.Gathering.{place_if}
use Rattle.chart_text.specs.Texts.{Passage, a_head, a_statement, an_item, an_operand, Scope, Whole, Within, Standing, own_scope, chart_text}
use Rattle.creation_rules.specs.Creating.{decomposed}
use Rattle.msc_base.specs.Lists.{IsAmong}
use Rattle.msc_base.specs.declared.place.Place.{Place}
use Rattle.msc_tree.specs.Charts.{Chart}
use Rattle.msc_tree.specs.Statements.{Form, Single, Coregion, Condition, Inline, Refer, Stop}

-- a coregion stands at one instance, so never at all of them
abbrev pub stands_at : List (List ℕ) → Scope → Bool
stands_at refined Whole = false
stands_at refined (Within names) = list_any (λ n. list_any (bytes_eq n) refined) names

abbrev pub item_coregions : List (List ℕ) → Standing → Place → Form → List Place
item_coregions refined s place (Coregion events) = place_if (nat_eq s.depth 0 && stands_at refined (own_scope s.side)) place
item_coregions refined s place (Single event) = []
item_coregions refined s place (Condition names shared) = []
item_coregions refined s place (Inline head held) = []
item_coregions refined s place (Refer reference) = []
item_coregions refined s place Stop = []

abbrev pub passage_coregions : List (List ℕ) → Passage → List Place
passage_coregions refined (a_head decl) = []
passage_coregions refined (a_statement depth scope x) = []
passage_coregions refined (an_item s place form) = item_coregions refined s place form
passage_coregions refined (an_operand s x) = []

-- of the instances that the chart says are decomposed
abbrev pub chart_coregions : Chart → List Place
chart_coregions chart = flat_map (passage_coregions (decomposed chart)) (chart_text chart)

-- at that place of the chart such a coregion stands
abbrev pub HasLocalCoregion : Chart → Place → Type 0
HasLocalCoregion chart place = IsAmong (chart_coregions chart) place
