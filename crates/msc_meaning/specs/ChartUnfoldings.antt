-- The unfoldings of levels, items, expressions, graphs and charts.
use Rattle.std.specs.Prelude.{◌≡◌, ◌≤◌, ◌<◌, ⊤, ℕ, zero, suc, Bool, true, false, List, [], ◌∷◌, Option, Some, None, map}
use Rattle.msc_base.specs.declared.label.Far.{Far}
use Rattle.msc_base.specs.declared.label.LabelRef.{LabelRef}
use Rattle.msc_base.specs.declared.label.Pair.{Pair}
use Rattle.msc_base.specs.declared.place.Place.{Place}
use Rattle.msc_base.specs.Orders.{Among}
use Rattle.msc_base.specs.Patterns.{Mode, seq, par, empty, one, join, bind}
use Rattle.msc_unfolding.specs.Unfoldings.{Unfolding, level_tie}
use Rattle.msc_tree.specs.declared.reference.InlineForm.{InlineForm}
use Rattle.msc_tree.specs.declared.reference.InlineForm.TheVariants as inline
use Rattle.msc_tree.specs.Expressions.{Expression, Empty, Chart, Alt, Par, Seq, Opt, Loop, Expressions, none, more}
use Rattle.msc_tree.specs.Graphs.{graph, Lines, line, line_list, Node, Ends, Connect, Condition, Refer, Frames, Graphs, no_graphs, graph_and}
use Rattle.msc_meaning.specs.Bodies.{EventNode, InlinePart, ReferencePart, Body, level, WovenItems, no_items, item_and, WovenItem, Single, Coregion, Inline, Bodies, no_bodies, body_and}
use Rattle.msc_meaning.specs.Bodies as body
use Rattle.msc_meaning.specs.Tables.{Table, ChartEntry, chart_at, Woven, Basic, HighLevel, Refinement, refinements}
use Rattle.msc_meaning.specs.Calls.{calls}
use Rattle.msc_meaning.specs.InnerEvents.{GateEnd, AreEnds}
use Rattle.msc_meaning.specs.FarEnds.{GateMap, no_gates, no_far, Around, Gates, inside, gates_referred, far_end, happening}
use Rattle.msc_meaning.specs.Ties.{ties, past_inline, past_reference, past_node, passing}
use Rattle.msc_meaning.specs.Refinements.{Match, Refining, refining, refinings, all_matches, refined_far, inner_far, without_decomposed, refining_tie}

-- at most that often, where there is a bound
abbrev pub UpTo : Option ℕ → ℕ → Type 0
UpTo None n = ⊤
UpTo (Some most) n = n ≤ most

abbrev pub gates_of : WovenItems → List GateEnd → Gates
gates_of held ends = record { calls = calls held; ends = ends }

-- what a chart is given whose gates lead there
abbrev pub under : GateMap → Around
under gates = record { gates = gates; far = no_far }

-- and what a chart with refining charts is given besides
abbrev pub refined_under : GateMap → List Pair → List Refining → Around
refined_under gates pairs rs = record { gates = gates; far = refined_far pairs (all_matches rs) }

-- what a refining chart is given: far ends for its matched events, and nothing for its gates
abbrev pub refining_under : (EventNode → Far) → List Match → Around
refining_under far_of ms = record { gates = no_gates; far = inner_far far_of ms }

abbrev pub label_names : List LabelRef → List (List ℕ)
label_names ls = map (λ l. l.name) ls

-- the events of a coregion, side by side
pub data OfEvents (ends : List GateEnd) (around : Around) : List EventNode → Unfolding → Type 0 where
  no_event : OfEvents ends around [] empty
  event_and : {n : EventNode} {ns : List EventNode} {u : Unfolding} → OfEvents ends around ns u → OfEvents ends around (n ∷ ns) (join par (one (happening ends around n)) u)

mutual
  -- a level: its items, tied
  pub data OfLevel (table : Table) : Around → Body → Unfolding → Type 0 where
    of_level : {around : Around} {cover : List (List ℕ)} {held : WovenItems} {pairs : List Pair} {ends : List GateEnd} {u : Unfolding}
        → AreEnds table held (calls held) ends → OfItems table (gates_of held ends) around held u
        → OfLevel table around (level cover held pairs) (bind u (level_tie (ties held pairs (calls held) ends)))

  -- items, one after another; of an `exc` its operand, or what stands behind it
  pub data OfItems (table : Table) : Gates → Around → WovenItems → Unfolding → Type 0 where
    no_item : {gates : Gates} {around : Around} → OfItems table gates around no_items empty
    item_then : {gates : Gates} {around : Around} {x : WovenItem} {xs : WovenItems} {u v : Unfolding}
        → OfItem table gates around x u → OfItems table gates around xs v → OfItems table gates around (item_and x xs) (join seq u v)
    exception : {gates : Gates} {around : Around} {part : InlinePart} {operand : Body} {xs : WovenItems} {u : Unfolding}
        → OfLevel table (inside gates part.name around) operand u
        → OfItems table gates around (item_and (Inline inline.Exc part (body_and operand no_bodies)) xs) (bind u (passing (past_inline gates.calls part.name)))
    no_exception : {gates : Gates} {around : Around} {part : InlinePart} {operands : Bodies} {xs : WovenItems} {u : Unfolding}
        → OfItems table gates around xs u → OfItems table gates around (item_and (Inline inline.Exc part operands) xs) u

  pub data OfItem (table : Table) : Gates → Around → WovenItem → Unfolding → Type 0 where
    single : {gates : Gates} {around : Around} {n : EventNode} → OfItem table gates around (Single n) (one (happening gates.ends around n))
    coregion : {gates : Gates} {around : Around} {ns : List EventNode} {u : Unfolding} → OfEvents gates.ends around ns u → OfItem table gates around (Coregion ns) u
    inline_part : {gates : Gates} {around : Around} {form : InlineForm} {part : InlinePart} {operands : Bodies} {u : Unfolding}
        → OfForm table (inside gates part.name around) form part operands u
        → OfItem table gates around (Inline form part operands) (bind u (passing (past_inline gates.calls part.name)))
    reference : {gates : Gates} {around : Around} {part : ReferencePart} {u : Unfolding}
        → OfExpression table (gates_referred gates part.name part.joins around.gates) part.expression u
        → OfItem table gates around (body.Refer part) (bind u (passing (past_reference gates.calls part.name part.joins)))

  -- the operands of an inline expression, by its form
  pub data OfForm (table : Table) : Around → InlineForm → InlinePart → Bodies → Unfolding → Type 0 where
    alternative : {around : Around} {part : InlinePart} {operands : Bodies} {u : Unfolding} → OfSome table around operands u → OfForm table around inline.Alt part operands u
    taken : {around : Around} {part : InlinePart} {operand : Body} {u : Unfolding}
        → OfLevel table around operand u → OfForm table around inline.Opt part (body_and operand no_bodies) u
    left_out : {around : Around} {part : InlinePart} {operands : Bodies} → OfForm table around inline.Opt part operands empty
    parallel : {around : Around} {part : InlinePart} {operands : Bodies} {u : Unfolding} → OfAll table around operands u → OfForm table around inline.Par part operands u
    turns : {around : Around} {part : InlinePart} {operand : Body} {u : Unfolding} (n : ℕ)
        → part.lower ≤ n → UpTo part.upper n → OfTurns table around operand n u → OfForm table around inline.Loop part (body_and operand no_bodies) u
    no_turns : {around : Around} {part : InlinePart} {operands : Bodies} {most : ℕ}
        → part.upper ≡ Some most → most < part.lower → OfForm table around inline.Loop part operands empty

  -- one of the operands
  pub data OfSome (table : Table) : Around → Bodies → Unfolding → Type 0 where
    this : {around : Around} {operand : Body} {others : Bodies} {u : Unfolding} → OfLevel table around operand u → OfSome table around (body_and operand others) u
    that : {around : Around} {operand : Body} {others : Bodies} {u : Unfolding} → OfSome table around others u → OfSome table around (body_and operand others) u

  -- all operands, side by side
  pub data OfAll (table : Table) : Around → Bodies → Unfolding → Type 0 where
    no_operand : {around : Around} → OfAll table around no_bodies empty
    operand_and : {around : Around} {operand : Body} {others : Bodies} {u v : Unfolding}
        → OfLevel table around operand u → OfAll table around others v → OfAll table around (body_and operand others) (join par u v)

  -- so many turns of an operand, one after another
  pub data OfTurns (table : Table) : Around → Body → ℕ → Unfolding → Type 0 where
    no_turn : {around : Around} {operand : Body} → OfTurns table around operand zero empty
    turn_and : {around : Around} {operand : Body} {n : ℕ} {u v : Unfolding}
        → OfLevel table around operand u → OfTurns table around operand n v → OfTurns table around operand (suc n) (join seq u v)

  -- the expression of a reference or of a node
  pub data OfExpression (table : Table) : GateMap → Expression → Unfolding → Type 0 where
    nothing : {gates : GateMap} → OfExpression table gates Empty empty
    chart : {gates : GateMap} {name : List ℕ} {entry : ChartEntry} {u : Unfolding}
        → chart_at table name ≡ Some entry → OfWoven table gates (refinements entry.decls) entry.content u → OfExpression table gates (Chart name) u
    one_of : {gates : GateMap} {parts : Expressions} {u : Unfolding} → OfOne table gates parts u → OfExpression table gates (Alt parts) u
    beside : {gates : GateMap} {parts : Expressions} {u : Unfolding} → OfEach table gates par parts u → OfExpression table gates (Par parts) u
    in_turn : {gates : GateMap} {parts : Expressions} {u : Unfolding} → OfEach table gates seq parts u → OfExpression table gates (Seq parts) u
    done : {gates : GateMap} {part : Expression} {u : Unfolding} → OfExpression table gates part u → OfExpression table gates (Opt part) u
    not_done : {gates : GateMap} {part : Expression} → OfExpression table gates (Opt part) empty
    rounds : {gates : GateMap} {lower : ℕ} {upper : Option ℕ} {part : Expression} {u : Unfolding} (n : ℕ)
        → lower ≤ n → UpTo upper n → OfRounds table gates part n u → OfExpression table gates (Loop lower upper part) u
    no_rounds : {gates : GateMap} {lower most : ℕ} {part : Expression} → most < lower → OfExpression table gates (Loop lower (Some most) part) empty

  pub data OfOne (table : Table) : GateMap → Expressions → Unfolding → Type 0 where
    this_part : {gates : GateMap} {part : Expression} {others : Expressions} {u : Unfolding} → OfExpression table gates part u → OfOne table gates (more part others) u
    that_part : {gates : GateMap} {part : Expression} {others : Expressions} {u : Unfolding} → OfOne table gates others u → OfOne table gates (more part others) u

  pub data OfEach (table : Table) : GateMap → Mode → Expressions → Unfolding → Type 0 where
    no_part : {gates : GateMap} {mode : Mode} → OfEach table gates mode none empty
    part_and : {gates : GateMap} {mode : Mode} {part : Expression} {others : Expressions} {u v : Unfolding}
        → OfExpression table gates part u → OfEach table gates mode others v → OfEach table gates mode (more part others) (join mode u v)

  pub data OfRounds (table : Table) : GateMap → Expression → ℕ → Unfolding → Type 0 where
    no_round : {gates : GateMap} {part : Expression} → OfRounds table gates part zero empty
    round_and : {gates : GateMap} {part : Expression} {n : ℕ} {u v : Unfolding}
        → OfExpression table gates part u → OfRounds table gates part n v → OfRounds table gates part (suc n) (join seq u v)

  -- a chart, its gates leading there: its body; its body with refining charts beside it; or a finished walk through its graph
  pub data OfWoven (table : Table) : GateMap → List Refinement → Woven → Unfolding → Type 0 where
    of_body : {gates : GateMap} {held : Body} {u : Unfolding} → OfLevel table (under gates) held u → OfWoven table gates [] (Basic held) u
    of_refined : {gates : GateMap} {r : Refinement} {rs : List Refinement} {cover : List (List ℕ)} {held : WovenItems} {pairs : List Pair} {ends : List GateEnd} {u v : Unfolding}
        → AreEnds table held (calls held) ends
        → OfItems table (gates_of held ends) (refined_under gates pairs (refinings table held (r ∷ rs))) (without_decomposed (r ∷ rs) held) u
        → OfRefinings table (far_end ends (refined_under gates pairs (refinings table held (r ∷ rs)))) (refinings table held (r ∷ rs)) v
        → OfWoven table gates (r ∷ rs) (Basic (level cover held pairs)) (bind (join par u v) (level_tie (ties held pairs (calls held) ends)))
    of_graph : {gates : GateMap} {rs : List Refinement} {starts : List LabelRef} {lines : Lines} {u : Unfolding}
        → OfWalk table false lines starts u → OfWoven table gates rs (HighLevel (graph starts lines)) u

  -- refining charts, side by side; the far ends are those of the events of the refined chart
  pub data OfRefinings (table : Table) : (EventNode → Far) → List Refining → Unfolding → Type 0 where
    no_refining : {far_of : EventNode → Far} → OfRefinings table far_of [] empty
    refining_and : {far_of : EventNode → Far} {cover : List (List ℕ)} {held : WovenItems} {pairs : List Pair} {ms : List Match} {others : List Refining} {ends : List GateEnd} {u v : Unfolding}
        → AreEnds table held (calls held) ends → OfItems table (gates_of held ends) (refining_under far_of ms) held u → OfRefinings table far_of others v
        → OfRefinings table far_of (refining (level cover held pairs) ms ∷ others) (join par (bind u (refining_tie ms (ties held pairs (calls held) ends))) v)

  -- a walk that goes on to one of these labels: it is finished at an end line, and under way it may stop anywhere
  pub data OfWalk (table : Table) : Bool → Lines → List LabelRef → Unfolding → Type 0 where
    stops : {lines : Lines} {next : List LabelRef} → OfWalk table true lines next empty
    ends : {under_way : Bool} {lines : Lines} {next after : List LabelRef} {label : List ℕ} {place : Place}
        → Among label (label_names next) → Among (line label place Ends after) (line_list lines) → OfWalk table under_way lines next empty
    goes : {under_way : Bool} {lines : Lines} {next after : List LabelRef} {label : List ℕ} {place : Place} {node : Node} {u v : Unfolding}
        → Among label (label_names next) → Among (line label place node after) (line_list lines) → OfNode table node u → OfWalk table under_way lines after v
        → OfWalk table under_way lines next (join seq u v)

  pub data OfNode (table : Table) : Node → Unfolding → Type 0 where
    end_node : OfNode table Ends empty
    connect : OfNode table Connect empty
    condition : {names : List (List ℕ)} → OfNode table (Condition names) empty
    refer : {expression : Expression} {u : Unfolding} → OfExpression table no_gates expression u → OfNode table (Refer expression) (bind u (passing past_node))
    frames : {held : Graphs} {u : Unfolding} → OfFrames table held u → OfNode table (Frames held) u

  -- a finished walk through each frame, side by side
  pub data OfFrames (table : Table) : Graphs → Unfolding → Type 0 where
    no_frame : OfFrames table no_graphs empty
    frame_and : {starts : List LabelRef} {lines : Lines} {others : Graphs} {u v : Unfolding}
        → OfWalk table false lines starts u → OfFrames table others v → OfFrames table (graph_and (graph starts lines) others) (join par u v)
