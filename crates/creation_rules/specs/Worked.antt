-- Worked charts, each with its text in front: the places at which they break each rule.
use Rattle.std.specs.Prelude.{◌≡◌, ◌+◌, ℕ, List, [], ◌∷◌, Option, Some, None, codes}
use Rattle.creation_rules.specs.Creating.{chart_barred}
use Rattle.creation_rules.specs.Placing.{chart_misplaced}
use Rattle.creation_rules.specs.Stopping.{chart_behind}
use Rattle.msc_base.specs.declared.label.Kind.{Kind}
use Rattle.msc_base.specs.declared.label.Kind.TheVariants.{Action, Create}
use Rattle.msc_base.specs.declared.place.Place.{Place}
use Rattle.msc_tree.specs.Charts.{Chart, Basic}
use Rattle.msc_tree.specs.Expressions as expression
use Rattle.msc_tree.specs.Orders.{no_order}
use Rattle.msc_tree.specs.Statements.{Single, Coregion, Condition, Inline, InlineHead, Refer, Stop, Item, placed, items, Outside, operand_and, no_operands, Statement, Column, Covered, statements}
use Rattle.msc_tree.specs.declared.chart.Cover.TheVariants.{All, Listed}
use Rattle.msc_tree.specs.declared.chart.Decl.{Decl}
use Rattle.msc_tree.specs.declared.event.RawEvent.{RawEvent}
use Rattle.msc_tree.specs.declared.event.Target.{Target}
use Rattle.msc_tree.specs.declared.event.Target.TheVariants.{Nobody, Instance}
use Rattle.msc_tree.specs.declared.reference.InlineForm.TheVariants.{Opt}

-- the chart breaks the rules on where creations stand, on what is created, and on what stands behind stops, each at these places
abbrev pub HasFaults : Chart → List Place → List Place → List Place → Type 0
HasFaults chart placing creating stopping = (chart_misplaced chart ≡ placing) × (chart_barred chart ≡ creating) × (chart_behind chart ≡ stopping)

-- ---- parts of charts

abbrev pub at_byte : ℕ → Place
at_byte n = record { byte = n; line = 1; column = n + 1 }

abbrev i : List ℕ
i = codes "i"

abbrev k : List ℕ
k = codes "k"

abbrev event : Kind → List ℕ → Target → ℕ → RawEvent
event kind text target n = record { kind = kind; place = at_byte n; text = text; parameters = None; pairing = None; target = target; order = no_order }

abbrev create : List ℕ → ℕ → RawEvent
create child n = event Create child (Instance child) n

abbrev action : ℕ → RawEvent
action n = event Action (codes "'x'") Nobody n

abbrev creates : List ℕ → ℕ → Item
creates child n = placed (at_byte n) (Single (create child n))

abbrev acts : ℕ → Item
acts n = placed (at_byte n) (Single (action n))

abbrev stops : ℕ → Item
stops n = placed (at_byte n) Stop

-- behind `i:` or `k:`
abbrev of_one : List ℕ → Item → Statement
of_one name item = Covered (Listed (name ∷ [])) (items (item ∷ []))

abbrev of_all : Item → Statement
of_all item = Covered All (items (item ∷ []))

-- behind `i,k:`
abbrev opt : ℕ → List Statement → Statement
opt n held =
    let head : InlineHead = record { form = Opt; lower = 1; upper = Some 1; name = None; shared = None } in
    Covered (Listed (i ∷ k ∷ [])) (items (placed (at_byte n) (Inline head (operand_and (Outside (statements held)) no_operands)) ∷ []))

abbrev instance : List ℕ → Option (List ℕ) → ℕ → Decl
instance name refined n = record { name = name; kind = []; refined = refined; place = at_byte n }

abbrev chart_by : Option (List ℕ) → ℕ → List Statement → Chart
chart_by refined n held = record { name = codes "A"; place = at_byte 0; decls = instance i None 12 ∷ instance k refined n ∷ []; messages = []; timers = []; content = Basic held }

abbrev chart : List Statement → Chart
chart held = chart_by None 14 held

-- ---- no rule is broken

-- `msc A; inst i,k; i: create k; k: action 'x'; k: stop; endmsc;`
abbrev pub created_and_stopped : Chart
created_and_stopped = chart (of_one i (creates k 20) ∷ of_one k (acts 33) ∷ of_one k (stops 48) ∷ [])

-- `msc A; inst i,k; k: stop; i: create k; endmsc;`: in the column of k the creation stands first
abbrev pub stopped_in_front : Chart
stopped_in_front = chart (of_one k (stops 20) ∷ of_one i (creates k 29) ∷ [])

abbrev pub NoneIsBroken : Type 0
NoneIsBroken = HasFaults created_and_stopped [] [] [] × HasFaults stopped_in_front [] [] []

-- ---- where creations and stops stand

-- `msc A; inst i,k; i,k: opt begin; i: create k; k: stop; opt end; endmsc;`
abbrev pub created_in_operand : Chart
created_in_operand = chart (opt 22 (of_one i (creates k 36) ∷ of_one k (stops 49) ∷ []) ∷ [])

-- `msc A; inst i,k; i: concurrent; create k; action 'x'; endconcurrent; endmsc;`
abbrev pub created_in_coregion : Chart
created_in_coregion = chart (of_one i (placed (at_byte 20) (Coregion (create k 32 ∷ action 42 ∷ []))) ∷ [])

abbrev pub PlacesAreBroken : Type 0
PlacesAreBroken = HasFaults created_in_operand (at_byte 36 ∷ at_byte 49 ∷ []) [] [] × HasFaults created_in_coregion (at_byte 32 ∷ []) [] []

-- ---- what is created

-- `msc A; inst i,k; i: create k; i: create k; i: create i; endmsc;`
abbrev pub created_again : Chart
created_again = chart (of_one i (creates k 20) ∷ of_one i (creates k 33) ∷ of_one i (creates i 46) ∷ [])

-- `msc A; inst i,k decomposed as B; i: create k; endmsc;`
abbrev pub created_decomposed : Chart
created_decomposed = chart_by (Some (codes "B")) 16 (of_one i (creates k 36) ∷ [])

abbrev pub CreationsAreBroken : Type 0
CreationsAreBroken = HasFaults created_again [] (at_byte 33 ∷ at_byte 46 ∷ []) [] × HasFaults created_decomposed [] (at_byte 36 ∷ []) []

-- ---- what stands behind stops

-- `msc A; inst i,k; k: stop; k: action 'x'; k: stop; all: condition c; all: reference B; i: action 'x'; endmsc;`
abbrev pub goes_on : Chart
goes_on =
    chart (of_one k (stops 20) ∷ of_one k (acts 29) ∷ of_one k (stops 44) ∷ of_all (placed (at_byte 55) (Condition (codes "c" ∷ []) None))
    ∷ of_all (placed (at_byte 73) (Refer (record { name = None; expression = expression.Chart (codes "B"); joins = []; shared = None }))) ∷ of_one i (acts 89) ∷ [])

-- `msc A; inst i,k; instance k; stop; action 'x'; endinstance; endmsc;`
abbrev pub goes_on_in_column : Chart
goes_on_in_column = chart (Column (instance k None 26) (items (stops 29 ∷ acts 35 ∷ [])) ∷ [])

-- `msc A; inst i,k; i,k: opt begin; k: stop; k: action 'x'; opt end; k: action 'x'; endmsc;`: each level has columns of its own
abbrev pub goes_on_in_operand : Chart
goes_on_in_operand = chart (opt 22 (of_one k (stops 36) ∷ of_one k (acts 45) ∷ []) ∷ of_one k (acts 69) ∷ [])

abbrev pub StopsAreBroken : Type 0
StopsAreBroken =
    HasFaults goes_on [] [] (at_byte 29 ∷ at_byte 44 ∷ at_byte 73 ∷ [])
    × HasFaults goes_on_in_column [] [] (at_byte 35 ∷ [])
    × HasFaults goes_on_in_operand (at_byte 36 ∷ []) [] (at_byte 45 ∷ [])
