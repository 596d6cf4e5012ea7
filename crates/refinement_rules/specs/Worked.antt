-- Worked tables: a chart Z whose instance i is decomposed as D breaks each rule, in each way.
use Rattle.std.specs.Prelude.{◌≡◌, ◌+◌, ℕ, List, [], ◌∷◌, Option, Some, None, codes}
use Rattle.chart_links.specs.Links.{Link, Refers, Refines}
use Rattle.chart_links.specs.Summaries.{Summary}
use Rattle.chart_text.specs.Texts.{Whole}
use Rattle.msc_base.specs.declared.label.Kind.{Kind}
use Rattle.msc_base.specs.declared.label.Kind.TheVariants.{Action, Output}
use Rattle.msc_base.specs.declared.place.Place.{Place}
use Rattle.msc_meaning.specs.Bodies.{EventNode, WovenItem, Single, Inline, Refer, level, items, bodies}
use Rattle.msc_meaning.specs.Tables.{ChartEntry, Basic}
use Rattle.msc_tree.specs.Expressions as expression
use Rattle.msc_tree.specs.Orders.{no_order}
use Rattle.msc_tree.specs.declared.chart.Decl.{Decl}
use Rattle.msc_tree.specs.declared.event.RawEvent.{RawEvent}
use Rattle.msc_tree.specs.declared.event.Target.{Target}
use Rattle.msc_tree.specs.declared.event.Target.TheVariants.{Nobody, Env}
use Rattle.msc_tree.specs.declared.reference.InlineForm.TheVariants.{Opt}
use Rattle.refinement_rules.specs.RefinementRules.{BreaksRefinementRule}
use Rattle.refinement_rules.specs.declared.faults.RefinementRule.TheVariants.{DecompositionMismatch, Inside, LocalEvent, SharedPart}

abbrev pub at_byte : ℕ → Place
at_byte n = record { byte = n; line = 1; column = n + 1 }

abbrev pub event_at : List ℕ → Kind → Target → ℕ → EventNode
event_at name kind target n = record { number = n; at = name; event = record { kind = kind; place = at_byte n; text = codes "m"; parameters = None; pairing = None; target = target; order = no_order } }

-- `out m to env;` and `action m;`
abbrev pub sends : List ℕ → ℕ → EventNode
sends name n = event_at name Output (Env None) n

abbrev pub acts : List ℕ → ℕ → EventNode
acts name n = event_at name Action Nobody n

abbrev pub opt : List (List ℕ) → List WovenItem → ℕ → WovenItem
opt cover held n = Inline Opt (record { lower = 1; upper = Some 1; name = None; cover = cover; place = at_byte n }) (bodies (level cover (items held) [] ∷ []))

abbrev pub refers : List (List ℕ) → List ℕ → ℕ → WovenItem
refers cover chart n = Refer (record { name = None; expression = expression.Chart chart; joins = []; cover = cover; place = at_byte n })

abbrev pub declares : List ℕ → Option (List ℕ) → ℕ → Decl
declares name refined n = record { name = name; kind = []; refined = refined; place = at_byte n }

abbrev pub entry : List ℕ → List Decl → List (List ℕ) → List WovenItem → ChartEntry
entry name decls cover held = record { name = name; decls = decls; content = Basic (level cover (items held) []) }

abbrev pub says : List ℕ → List (List ℕ) → List Link → Summary
says name instances links = record { name = name; instances = instances; links = links }

-- `msc Z; inst i decomposed as D,j; .. endmsc;`, and Z where D refines j too
abbrev pub chart_by : Option (List ℕ) → List WovenItem → ChartEntry
chart_by other held = entry (codes "Z") (declares (codes "i") (Some (codes "D")) 30 ∷ declares (codes "j") other 50 ∷ []) (codes "i" ∷ codes "j" ∷ []) held

abbrev pub says_chart : List Link → Summary
says_chart links = says (codes "Z") (codes "i" ∷ codes "j" ∷ []) (Refines (codes "i") (codes "D") (at_byte 30) ∷ links)

-- `msc D; inst x; .. endmsc;`
abbrev pub refining : List WovenItem → ChartEntry
refining held = entry (codes "D") (declares (codes "x") None 90 ∷ []) (codes "x" ∷ []) held

abbrev pub plain_links : List Summary
plain_links = says_chart [] ∷ says (codes "D") (codes "x" ∷ []) [] ∷ []

-- i sends a message that D doesn't have
abbrev pub HasOtherMessages : Type 0
HasOtherMessages = BreaksRefinementRule plain_links (chart_by None (Single (sends (codes "i") 60) ∷ []) ∷ refining [] ∷ []) DecompositionMismatch (at_byte 30)

-- an item covers i and j; D has the instance j; a reference names D; D refines j too
abbrev pub Shares : Type 0
Shares =
    BreaksRefinementRule plain_links (chart_by None (opt (codes "i" ∷ codes "j" ∷ []) [] 60 ∷ []) ∷ refining [] ∷ []) SharedPart (at_byte 30)
    × BreaksRefinementRule (says_chart [] ∷ says (codes "D") (codes "j" ∷ []) [] ∷ []) (chart_by None [] ∷ refining [] ∷ []) SharedPart (at_byte 30)
    × BreaksRefinementRule (says_chart (Refers (codes "D") (at_byte 60) Whole 3 ∷ []) ∷ says (codes "D") (codes "x" ∷ []) [] ∷ []) (chart_by None (refers (codes "j" ∷ []) (codes "D") 60 ∷ []) ∷ refining [] ∷ []) SharedPart (at_byte 30)
    × BreaksRefinementRule plain_links (chart_by (Some (codes "D")) [] ∷ refining [] ∷ []) SharedPart (at_byte 30)

-- there is no D; D has an event with the environment in an operand, or in a chart that it references
abbrev pub HasMoreInside : Type 0
HasMoreInside =
    BreaksRefinementRule plain_links (chart_by None [] ∷ []) Inside (at_byte 30)
    × BreaksRefinementRule plain_links (chart_by None [] ∷ refining (opt (codes "x" ∷ []) (Single (sends (codes "x") 99) ∷ []) 95 ∷ []) ∷ []) Inside (at_byte 30)
    × BreaksRefinementRule (says_chart [] ∷ says (codes "D") (codes "x" ∷ []) (Refers (codes "A") (at_byte 95) Whole 3 ∷ []) ∷ [])
    (chart_by None [] ∷ refining (refers (codes "x" ∷ []) (codes "A") 95 ∷ []) ∷ entry (codes "A") [] (codes "x" ∷ []) (Single (sends (codes "x") 130) ∷ []) ∷ []) Inside (at_byte 30)

-- i has an action; a reference covers it
abbrev pub HasLocal : Type 0
HasLocal =
    BreaksRefinementRule plain_links (chart_by None (Single (acts (codes "i") 60) ∷ []) ∷ refining [] ∷ []) LocalEvent (at_byte 60)
    × BreaksRefinementRule plain_links (chart_by None (refers (codes "i" ∷ []) (codes "D") 70 ∷ []) ∷ refining [] ∷ []) LocalEvent (at_byte 70)
