-- What each construct of the notation makes of the unfoldings of its parts, as a set: below ties, joined, chosen, repeated.
use Rattle.std.specs.Prelude.{◌≡◌, false, ℕ, List, [], ◌∷◌, Option, Some}
use Rattle.msc_base.specs.declared.label.Far.{Far}
use Rattle.msc_base.specs.declared.label.LabelRef.{LabelRef}
use Rattle.msc_base.specs.declared.label.Pair.{Pair}
use Rattle.msc_base.specs.Patterns.{Mode, seq, par}
use Rattle.msc_unfolding.specs.Unfoldings.{Unfolding, level_tie}
use Rattle.chart_term.specs.TermPatterns.{Both}
use Rattle.msc_tree.specs.declared.reference.InlineForm.{InlineForm}
use Rattle.msc_tree.specs.declared.reference.InlineForm.TheVariants as inline
use Rattle.msc_tree.specs.Expressions.{Expression, Empty, Chart, Alt, Par, Seq, Opt, Loop, Expressions, more}
use Rattle.msc_tree.specs.Graphs.{graph, Lines, Refer, Graphs, graph_and}
use Rattle.msc_meaning.specs.Bodies.{EventNode, InlinePart, ReferencePart, Body, level, WovenItems, no_items, item_and, WovenItem, Single, Coregion, Inline, Bodies, no_bodies, body_and}
use Rattle.msc_meaning.specs.Bodies as body
use Rattle.msc_meaning.specs.Tables.{Table, ChartEntry, chart_at, Basic, HighLevel, Refinement, refinements}
use Rattle.msc_meaning.specs.Calls.{calls}
use Rattle.msc_meaning.specs.InnerEvents.{GateEnd, AreEnds}
use Rattle.msc_meaning.specs.FarEnds.{GateMap, no_gates, Around, Gates, inside, gates_referred, far_end, happening}
use Rattle.msc_meaning.specs.Ties.{ties, past_inline, past_reference, past_node, passing}
use Rattle.msc_meaning.specs.ChartUnfoldings.{UpTo, gates_of, under, refined_under, refining_under, OfRefinings, OfEvents, OfLevel, OfItems, OfItem, OfForm, OfSome, OfAll, OfExpression, OfOne, OfEach, OfWoven, OfWalk, OfNode, OfFrames}
use Rattle.msc_meaning.specs.Refinements.{Match, Refining, refining, refinings, without_decomposed, refining_tie}
use Rattle.msc_meaning.specs.MeaningLaws.{HaveOneEnd}
use Rattle.term_meaning.specs.UnfoldingSets.{OnlyEmpty, OnlyEvent, AreJoined, AreTied, Either, AreSomeOften}

-- the same unfoldings
abbrev pub AreSame : (Unfolding → Type 0) → (Unfolding → Type 0) → Type 0
AreSame A B = (u : Unfolding) → Both (A u) (B u)

pub record ConstructsAreSets : Type 0 where
  -- levels: where the ends of the called gates are these and no others
  pub level_set : (table : Table) (around : Around) (cover : List (List ℕ)) (held : WovenItems) (pairs : List Pair) (ends : List GateEnd) → AreEnds table held (calls held) ends → HaveOneEnd table held (calls held)
      → AreSame (OfLevel table around (level cover held pairs)) (AreTied (OfItems table (gates_of held ends) around held) (level_tie (ties held pairs (calls held) ends)))
  pub no_items_set : (table : Table) (gates : Gates) (around : Around) → AreSame (OfItems table gates around no_items) OnlyEmpty
  pub items_set : (table : Table) (gates : Gates) (around : Around) (x : WovenItem) (xs : WovenItems) → ((part : InlinePart) (operands : Bodies) → x ≡ Inline inline.Exc part operands → ⊥)
      → AreSame (OfItems table gates around (item_and x xs)) (AreJoined seq (OfItem table gates around x) (OfItems table gates around xs))
  pub exception_set : (table : Table) (gates : Gates) (around : Around) (part : InlinePart) (operand : Body) (xs : WovenItems)
      → AreSame (OfItems table gates around (item_and (Inline inline.Exc part (body_and operand no_bodies)) xs))
      (Either (AreTied (OfLevel table (inside gates part.name around) operand) (passing (past_inline gates.calls part.name))) (OfItems table gates around xs))
  pub single_set : (table : Table) (gates : Gates) (around : Around) (n : EventNode) → AreSame (OfItem table gates around (Single n)) (OnlyEvent (happening gates.ends around n))
  pub coregion_set : (table : Table) (gates : Gates) (around : Around) (ns : List EventNode) → AreSame (OfItem table gates around (Coregion ns)) (OfEvents gates.ends around ns)
  pub inline_set : (table : Table) (gates : Gates) (around : Around) (form : InlineForm) (part : InlinePart) (operands : Bodies)
      → AreSame (OfItem table gates around (Inline form part operands)) (AreTied (OfForm table (inside gates part.name around) form part operands) (passing (past_inline gates.calls part.name)))
  pub reference_set : (table : Table) (gates : Gates) (around : Around) (part : ReferencePart)
      → AreSame (OfItem table gates around (body.Refer part)) (AreTied (OfExpression table (gates_referred gates part.name part.joins around.gates) part.expression) (passing (past_reference gates.calls part.name part.joins)))
  -- inline expressions; of a loop whose bounds leave a number of turns
  pub alternative_set : (table : Table) (around : Around) (part : InlinePart) (operands : Bodies) → AreSame (OfForm table around inline.Alt part operands) (OfSome table around operands)
  pub some_set : (table : Table) (around : Around) (operand : Body) (others : Bodies) → AreSame (OfSome table around (body_and operand others)) (Either (OfLevel table around operand) (OfSome table around others))
  pub option_set : (table : Table) (around : Around) (part : InlinePart) (operand : Body) → AreSame (OfForm table around inline.Opt part (body_and operand no_bodies)) (Either (OfLevel table around operand) OnlyEmpty)
  pub parallel_set : (table : Table) (around : Around) (part : InlinePart) (operands : Bodies) → AreSame (OfForm table around inline.Par part operands) (OfAll table around operands)
  pub all_set : (table : Table) (around : Around) (operand : Body) (others : Bodies) → AreSame (OfAll table around (body_and operand others)) (AreJoined par (OfLevel table around operand) (OfAll table around others))
  pub loop_set : (table : Table) (around : Around) (part : InlinePart) (operand : Body) → UpTo part.upper part.lower
      → AreSame (OfForm table around inline.Loop part (body_and operand no_bodies)) (AreSomeOften (OfLevel table around operand) part.lower part.upper)
  -- expressions
  pub nothing_set : (table : Table) (gates : GateMap) → AreSame (OfExpression table gates Empty) OnlyEmpty
  pub chart_set : (table : Table) (gates : GateMap) (name : List ℕ) (entry : ChartEntry) → chart_at table name ≡ Some entry → AreSame (OfExpression table gates (Chart name)) (OfWoven table gates (refinements entry.decls) entry.content)
  pub one_set : (table : Table) (gates : GateMap) (part : Expression) (others : Expressions) → AreSame (OfOne table gates (more part others)) (Either (OfExpression table gates part) (OfOne table gates others))
  pub alt_set : (table : Table) (gates : GateMap) (parts : Expressions) → AreSame (OfExpression table gates (Alt parts)) (OfOne table gates parts)
  pub par_set : (table : Table) (gates : GateMap) (parts : Expressions) → AreSame (OfExpression table gates (Par parts)) (OfEach table gates par parts)
  pub seq_set : (table : Table) (gates : GateMap) (parts : Expressions) → AreSame (OfExpression table gates (Seq parts)) (OfEach table gates seq parts)
  pub each_set : (table : Table) (gates : GateMap) (mode : Mode) (part : Expression) (others : Expressions) → AreSame (OfEach table gates mode (more part others)) (AreJoined mode (OfExpression table gates part) (OfEach table gates mode others))
  pub opt_set : (table : Table) (gates : GateMap) (part : Expression) → AreSame (OfExpression table gates (Opt part)) (Either (OfExpression table gates part) OnlyEmpty)
  pub rounds_set : (table : Table) (gates : GateMap) (lower : ℕ) (upper : Option ℕ) (part : Expression) → UpTo upper lower → AreSame (OfExpression table gates (Loop lower upper part)) (AreSomeOften (OfExpression table gates part) lower upper)
  pub body_set : (table : Table) (gates : GateMap) (held : Body) → AreSame (OfWoven table gates [] (Basic held)) (OfLevel table (under gates) held)
  pub graph_set : (table : Table) (gates : GateMap) (rs : List Refinement) (starts : List LabelRef) (lines : Lines) → AreSame (OfWoven table gates rs (HighLevel (graph starts lines))) (OfWalk table false lines starts)
  -- decomposition
  pub refined_set : (table : Table) (gates : GateMap) (r : Refinement) (rs : List Refinement) (cover : List (List ℕ)) (held : WovenItems) (pairs : List Pair) (ends : List GateEnd)
      → AreEnds table held (calls held) ends → HaveOneEnd table held (calls held)
      → AreSame (OfWoven table gates (r ∷ rs) (Basic (level cover held pairs)))
      (AreTied (AreJoined par (OfItems table (gates_of held ends) (refined_under gates pairs (refinings table held (r ∷ rs))) (without_decomposed (r ∷ rs) held))
      (OfRefinings table (far_end ends (refined_under gates pairs (refinings table held (r ∷ rs)))) (refinings table held (r ∷ rs)))) (level_tie (ties held pairs (calls held) ends)))
  pub refinings_set : (table : Table) (far_of : EventNode → Far) (cover : List (List ℕ)) (held : WovenItems) (pairs : List Pair) (ms : List Match) (others : List Refining) (ends : List GateEnd)
      → AreEnds table held (calls held) ends → HaveOneEnd table held (calls held)
      → AreSame (OfRefinings table far_of (refining (level cover held pairs) ms ∷ others))
      (AreJoined par (AreTied (OfItems table (gates_of held ends) (refining_under far_of ms) held) (refining_tie ms (ties held pairs (calls held) ends))) (OfRefinings table far_of others))
  -- graphs
  pub refer_set : (table : Table) (expression : Expression) → AreSame (OfNode table (Refer expression)) (AreTied (OfExpression table no_gates expression) (passing past_node))
  pub frames_set : (table : Table) (starts : List LabelRef) (lines : Lines) (others : Graphs) → AreSame (OfFrames table (graph_and (graph starts lines) others)) (AreJoined par (OfWalk table false lines starts) (OfFrames table others))
