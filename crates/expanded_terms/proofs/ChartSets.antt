-- What references, loops, expressions, decomposition and graphs make of the unfoldings of their parts, as sets.
use Rattle.std.proofs.Common.{◌≡◌, ◌⊎◌, ◌≤◌, ◌<◌, ℕ, false, List, [], ◌∷◌, Option, Some, refl, sym, ◌∙◌, subst, inl, inr, arith}
use Rattle.std.proofs.lemmas.Option.{same_Some}
use Rattle.msc_base.specs.declared.label.Far.{Far}
use Rattle.msc_base.specs.declared.label.Pair.{Pair}
use Rattle.msc_base.specs.declared.label.LabelRef.{LabelRef}
use Rattle.msc_base.specs.Patterns.{Mode, seq, par, empty, join, bind}
use Rattle.msc_unfolding.specs.Unfoldings.{Unfolding, level_tie}
use Rattle.msc_tree.specs.Expressions.{Expression, Empty, Chart, Alt, Par, Seq, Opt, Loop, Expressions, more}
use Rattle.msc_tree.specs.Graphs.{graph, Lines, Refer, Graphs, graph_and}
use Rattle.msc_meaning.specs.Bodies.{EventNode, ReferencePart, Body, level, WovenItems}
use Rattle.msc_meaning.specs.Bodies as body
use Rattle.msc_meaning.specs.Tables.{Table, ChartEntry, chart_at, Basic, HighLevel, Refinement, refinements}
use Rattle.msc_meaning.specs.Calls.{calls}
use Rattle.msc_meaning.specs.InnerEvents.{GateEnd, AreEnds}
use Rattle.msc_meaning.specs.FarEnds.{GateMap, no_gates, Around, Gates, gates_referred, far_end}
use Rattle.msc_meaning.specs.Ties.{ties, past_reference, past_node, passing}
use Rattle.msc_meaning.specs.ChartUnfoldings.{UpTo, gates_of, under, refined_under, refining_under, OfRefinings, of_refined, refining_and, OfLevel, of_level, OfItems, OfItem, reference, OfExpression, nothing, chart, one_of, beside, in_turn, done, not_done, rounds, no_rounds, OfOne, this_part, that_part, OfEach, part_and, OfRounds, no_round, round_and, OfWoven, of_body, of_graph, OfWalk, OfNode, refer, OfFrames, frame_and}
use Rattle.msc_meaning.specs.Refinements.{Match, Refining, refining, refinings, without_decomposed, refining_tie}
use Rattle.msc_meaning.specs.MeaningLaws.{HaveOneEnd}
use Rattle.term_meaning.specs.UnfoldingSets.{OnlyEmpty, AreJoined, joined, AreTied, tied, Either, AreRepeated, no_more, once_more, AreSomeOften}
use Rattle.chart_term.specs.TermPatterns.{Both}
use Rattle.expanded_terms.specs.ChartSets.{AreSame, ConstructsAreSets}
use Rattle.expanded_terms.proofs.LevelSets.{along, items_none, items_unless, items_exception, item_single, item_coregion, item_inline, form_alt, some_more, form_opt, form_par, all_more, form_loop}
use Rattle.msc_meaning.proofs.MeaningLaws.{ends_are_one}

-- ---- levels and items

-- a level is its items below its tie, where the ends of its called gates are these and no others
pub level_set : (table : Table) (around : Around) (cover : List (List ℕ)) (held : WovenItems) (pairs : List Pair) (ends : List GateEnd) → AreEnds table held (calls held) ends → HaveOneEnd table held (calls held)
    → AreSame (OfLevel table around (level cover held pairs)) (AreTied (OfItems table (gates_of held ends) around held) (level_tie (ties held pairs (calls held) ends)))
level_set table around cover held pairs ends h f u = record { to = λ h. to u h; from = λ h. from u h }
  where
    to : (u : Unfolding) → OfLevel table around (level cover held pairs) u → AreTied (OfItems table (gates_of held ends) around held) (level_tie (ties held pairs (calls held) ends)) u
    to _ (of_level {ends = es} {u = v} k w) = let P : List GateEnd → Type 0 = λ x. AreTied (OfItems table (gates_of held x) around held) (level_tie (ties held pairs (calls held) x)) (bind v (level_tie (ties held pairs (calls held) es))) in
        subst P (ends_are_one table held (calls held) f es ends k h) (tied w)

    from : (u : Unfolding) → AreTied (OfItems table (gates_of held ends) around held) (level_tie (ties held pairs (calls held) ends)) u → OfLevel table around (level cover held pairs) u
    from _ (tied w) = of_level h w

module _ (table : Table) (gates : Gates) (around : Around) where
  -- an item that is no exception, and the items behind it
  -- an exception, or what stands behind it
  pub reference_set : (part : ReferencePart)
      → AreSame (OfItem table gates around (body.Refer part)) (AreTied (OfExpression table (gates_referred gates part.name part.joins around.gates) part.expression) (passing (past_reference gates.calls part.name part.joins)))
  reference_set part u = record { to = λ h. to u h; from = λ h. from u h }
    where
      to : (u : Unfolding) → OfItem table gates around (body.Refer part) u → AreTied (OfExpression table (gates_referred gates part.name part.joins around.gates) part.expression) (passing (past_reference gates.calls part.name part.joins)) u
      to _ (reference h) = tied h

      from : (u : Unfolding) → AreTied (OfExpression table (gates_referred gates part.name part.joins around.gates) part.expression) (passing (past_reference gates.calls part.name part.joins)) u → OfItem table gates around (body.Refer part) u
      from _ (tied h) = reference h

-- ---- expressions

module _ (table : Table) (gates : GateMap) where
  pub nothing_set : AreSame (OfExpression table gates Empty) OnlyEmpty
  nothing_set u = record { to = λ h. to u h; from = λ e. along (OfExpression table gates Empty) empty u e nothing }
    where
      to : (u : Unfolding) → OfExpression table gates Empty u → u ≡ empty
      to _ nothing = refl

  -- the chart of that name
  pub chart_set : (name : List ℕ) (entry : ChartEntry) → chart_at table name ≡ Some entry → AreSame (OfExpression table gates (Chart name)) (OfWoven table gates (refinements entry.decls) entry.content)
  chart_set name entry e u = record { to = λ h. to u h; from = λ h. chart e h }
    where
      to : (u : Unfolding) → OfExpression table gates (Chart name) u → OfWoven table gates (refinements entry.decls) entry.content u
      to u (chart {entry = c} k w) = let P : ChartEntry → Type 0 = λ x. OfWoven table gates (refinements x.decls) x.content u in subst P (sym (same_Some entry c (sym e ∙ k))) w

  pub one_set : (part : Expression) (others : Expressions) → AreSame (OfOne table gates (more part others)) (Either (OfExpression table gates part) (OfOne table gates others))
  one_set part others u = record { to = λ h. to u h; from = λ h. from u h }
    where
      to : (u : Unfolding) → OfOne table gates (more part others) u → OfExpression table gates part u ⊎ OfOne table gates others u
      to u (this_part h) = inl h
      to u (that_part h) = inr h

      from : (u : Unfolding) → OfExpression table gates part u ⊎ OfOne table gates others u → OfOne table gates (more part others) u
      from u (inl h) = this_part h
      from u (inr h) = that_part h

  pub alt_set : (parts : Expressions) → AreSame (OfExpression table gates (Alt parts)) (OfOne table gates parts)
  alt_set parts u = record { to = λ h. to u h; from = λ h. one_of h }
    where
      to : (u : Unfolding) → OfExpression table gates (Alt parts) u → OfOne table gates parts u
      to u (one_of h) = h

  pub par_set : (parts : Expressions) → AreSame (OfExpression table gates (Par parts)) (OfEach table gates par parts)
  par_set parts u = record { to = λ h. to u h; from = λ h. beside h }
    where
      to : (u : Unfolding) → OfExpression table gates (Par parts) u → OfEach table gates par parts u
      to u (beside h) = h

  pub seq_set : (parts : Expressions) → AreSame (OfExpression table gates (Seq parts)) (OfEach table gates seq parts)
  seq_set parts u = record { to = λ h. to u h; from = λ h. in_turn h }
    where
      to : (u : Unfolding) → OfExpression table gates (Seq parts) u → OfEach table gates seq parts u
      to u (in_turn h) = h

  pub each_set : (mode : Mode) (part : Expression) (others : Expressions) → AreSame (OfEach table gates mode (more part others)) (AreJoined mode (OfExpression table gates part) (OfEach table gates mode others))
  each_set mode part others u = record { to = λ h. to u h; from = λ h. from u h }
    where
      to : (u : Unfolding) → OfEach table gates mode (more part others) u → AreJoined mode (OfExpression table gates part) (OfEach table gates mode others) u
      to _ (part_and a b) = joined a b

      from : (u : Unfolding) → AreJoined mode (OfExpression table gates part) (OfEach table gates mode others) u → OfEach table gates mode (more part others) u
      from _ (joined a b) = part_and a b

  pub opt_set : (part : Expression) → AreSame (OfExpression table gates (Opt part)) (Either (OfExpression table gates part) OnlyEmpty)
  opt_set part u = record { to = λ h. to u h; from = λ h. from u h }
    where
      to : (u : Unfolding) → OfExpression table gates (Opt part) u → OfExpression table gates part u ⊎ (u ≡ empty)
      to u (done h) = inl h
      to _ not_done = inr refl

      from : (u : Unfolding) → OfExpression table gates part u ⊎ (u ≡ empty) → OfExpression table gates (Opt part) u
      from u (inl h) = done h
      from u (inr e) = along (OfExpression table gates (Opt part)) empty u e not_done

  rounds_to : (part : Expression) {n : ℕ} {u : Unfolding} → OfRounds table gates part n u → AreRepeated (OfExpression table gates part) n u
  rounds_to part no_round = no_more
  rounds_to part (round_and a b) = once_more a (rounds_to part b)

  to_rounds : (part : Expression) {n : ℕ} {u : Unfolding} → AreRepeated (OfExpression table gates part) n u → OfRounds table gates part n u
  to_rounds part no_more = no_round
  to_rounds part (once_more a b) = round_and a (to_rounds part b)

  -- a loop whose bounds leave a number of rounds
  pub rounds_set : (lower : ℕ) (upper : Option ℕ) (part : Expression) → UpTo upper lower → AreSame (OfExpression table gates (Loop lower upper part)) (AreSomeOften (OfExpression table gates part) lower upper)
  rounds_set lower upper part b u = record { to = λ h. to upper b u h; from = λ h. rounds h.times h.least h.most (to_rounds part h.are) }
    where
      less : (most : ℕ) → lower ≤ most → most < lower → ⊥
      less most a l = omega arith

      to : (upper : Option ℕ) → UpTo upper lower → (u : Unfolding) → OfExpression table gates (Loop lower upper part) u → AreSomeOften (OfExpression table gates part) lower upper u
      to upper b u (rounds n a c h) = record { times = n; least = a; most = c; are = rounds_to part h }
      to _ b _ (no_rounds {most = most} l) = absurd (less most b l)

  pub body_set : (held : Body) → AreSame (OfWoven table gates [] (Basic held)) (OfLevel table (under gates) held)
  body_set held u = record { to = λ h. to u h; from = λ h. of_body h }
    where
      to : (u : Unfolding) → OfWoven table gates [] (Basic held) u → OfLevel table (under gates) held u
      to u (of_body h) = h

  pub graph_set : (rs : List Refinement) (starts : List LabelRef) (lines : Lines) → AreSame (OfWoven table gates rs (HighLevel (graph starts lines))) (OfWalk table false lines starts)
  graph_set rs starts lines u = record { to = λ h. to rs u h; from = λ h. of_graph h }
    where
      to : (rs : List Refinement) (u : Unfolding) → OfWoven table gates rs (HighLevel (graph starts lines)) u → OfWalk table false lines starts u
      to rs u (of_graph h) = h

-- ---- decomposition

-- what is left of a chart beside its refining charts, below its tie
pub refined_set : (table : Table) (gates : GateMap) (r : Refinement) (rs : List Refinement) (cover : List (List ℕ)) (held : WovenItems) (pairs : List Pair) (ends : List GateEnd)
    → AreEnds table held (calls held) ends → HaveOneEnd table held (calls held)
    → AreSame (OfWoven table gates (r ∷ rs) (Basic (level cover held pairs)))
    (AreTied (AreJoined par (OfItems table (gates_of held ends) (refined_under gates pairs (refinings table held (r ∷ rs))) (without_decomposed (r ∷ rs) held))
    (OfRefinings table (far_end ends (refined_under gates pairs (refinings table held (r ∷ rs)))) (refinings table held (r ∷ rs)))) (level_tie (ties held pairs (calls held) ends)))
refined_set table gates r rs cover held pairs ends h f u = record { to = λ h. to u h; from = λ h. from u h }
  where
    to : (u : Unfolding) → OfWoven table gates (r ∷ rs) (Basic (level cover held pairs)) u
        → AreTied (AreJoined par (OfItems table (gates_of held ends) (refined_under gates pairs (refinings table held (r ∷ rs))) (without_decomposed (r ∷ rs) held))
        (OfRefinings table (far_end ends (refined_under gates pairs (refinings table held (r ∷ rs)))) (refinings table held (r ∷ rs)))) (level_tie (ties held pairs (calls held) ends)) u
    to _ (of_refined {ends = es} {u = v} {v = w} k a b) =
        let P : List GateEnd → Type 0 = λ x. AreTied (AreJoined par (OfItems table (gates_of held x) (refined_under gates pairs (refinings table held (r ∷ rs))) (without_decomposed (r ∷ rs) held))
        (OfRefinings table (far_end x (refined_under gates pairs (refinings table held (r ∷ rs)))) (refinings table held (r ∷ rs)))) (level_tie (ties held pairs (calls held) x)) (bind (join par v w) (level_tie (ties held pairs (calls held) es))) in
        subst P (ends_are_one table held (calls held) f es ends k h) (tied (joined a b))

    from : (u : Unfolding) → AreTied (AreJoined par (OfItems table (gates_of held ends) (refined_under gates pairs (refinings table held (r ∷ rs))) (without_decomposed (r ∷ rs) held))
        (OfRefinings table (far_end ends (refined_under gates pairs (refinings table held (r ∷ rs)))) (refinings table held (r ∷ rs)))) (level_tie (ties held pairs (calls held) ends)) u
        → OfWoven table gates (r ∷ rs) (Basic (level cover held pairs)) u
    from _ (tied (joined a b)) = of_refined h a b

-- a refining chart, and those behind it
pub refinings_set : (table : Table) (far_of : EventNode → Far) (cover : List (List ℕ)) (held : WovenItems) (pairs : List Pair) (ms : List Match) (others : List Refining) (ends : List GateEnd)
    → AreEnds table held (calls held) ends → HaveOneEnd table held (calls held)
    → AreSame (OfRefinings table far_of (refining (level cover held pairs) ms ∷ others))
    (AreJoined par (AreTied (OfItems table (gates_of held ends) (refining_under far_of ms) held) (refining_tie ms (ties held pairs (calls held) ends))) (OfRefinings table far_of others))
refinings_set table far_of cover held pairs ms others ends h f u = record { to = λ h. to u h; from = λ h. from u h }
  where
    to : (u : Unfolding) → OfRefinings table far_of (refining (level cover held pairs) ms ∷ others) u
        → AreJoined par (AreTied (OfItems table (gates_of held ends) (refining_under far_of ms) held) (refining_tie ms (ties held pairs (calls held) ends))) (OfRefinings table far_of others) u
    to _ (refining_and {ends = es} {u = v} {v = w} k a b) =
        let P : List GateEnd → Type 0 = λ x. AreJoined par (AreTied (OfItems table (gates_of held x) (refining_under far_of ms) held) (refining_tie ms (ties held pairs (calls held) x))) (OfRefinings table far_of others)
        (join par (bind v (refining_tie ms (ties held pairs (calls held) es))) w) in
        subst P (ends_are_one table held (calls held) f es ends k h) (joined (tied a) b)

    from : (u : Unfolding) → AreJoined par (AreTied (OfItems table (gates_of held ends) (refining_under far_of ms) held) (refining_tie ms (ties held pairs (calls held) ends))) (OfRefinings table far_of others) u
        → OfRefinings table far_of (refining (level cover held pairs) ms ∷ others) u
    from _ (joined (tied a) b) = refining_and h a b

-- ---- nodes

pub refer_set : (table : Table) (expression : Expression) → AreSame (OfNode table (Refer expression)) (AreTied (OfExpression table no_gates expression) (passing past_node))
refer_set table expression u = record { to = λ h. to u h; from = λ h. from u h }
  where
    to : (u : Unfolding) → OfNode table (Refer expression) u → AreTied (OfExpression table no_gates expression) (passing past_node) u
    to _ (refer h) = tied h

    from : (u : Unfolding) → AreTied (OfExpression table no_gates expression) (passing past_node) u → OfNode table (Refer expression) u
    from _ (tied h) = refer h

pub frames_set : (table : Table) (starts : List LabelRef) (lines : Lines) (others : Graphs) → AreSame (OfFrames table (graph_and (graph starts lines) others)) (AreJoined par (OfWalk table false lines starts) (OfFrames table others))
frames_set table starts lines others u = record { to = λ h. to u h; from = λ h. from u h }
  where
    to : (u : Unfolding) → OfFrames table (graph_and (graph starts lines) others) u → AreJoined par (OfWalk table false lines starts) (OfFrames table others) u
    to _ (frame_and a b) = joined a b

    from : (u : Unfolding) → AreJoined par (OfWalk table false lines starts) (OfFrames table others) u → OfFrames table (graph_and (graph starts lines) others) u
    from _ (joined a b) = frame_and a b

turned : {A B : Unfolding → Type 0} → ((u : Unfolding) → Both (A u) (B u)) → AreSame B A
turned h u = record { to = (h u).from; from = (h u).to }

pub constructs_are_sets : ConstructsAreSets
constructs_are_sets = record {
  level_set = level_set;
  no_items_set = λ table gates around. turned (λ u. items_none table gates around u);
  items_set = λ table gates around x xs f. turned (λ u. items_unless table gates around x xs f u);
  exception_set = λ table gates around part operand xs. turned (λ u. items_exception table gates around part operand xs u);
  single_set = λ table gates around n. turned (λ u. item_single table gates around n u);
  coregion_set = λ table gates around ns. turned (λ u. item_coregion table gates around ns u);
  inline_set = λ table gates around form part operands. turned (λ u. item_inline table gates around form part operands u);
  reference_set = reference_set;
  alternative_set = λ table around part operands. turned (λ u. form_alt table around part operands u);
  some_set = λ table around operand others. turned (λ u. some_more table around operand others u);
  option_set = λ table around part operand. turned (λ u. form_opt table around part operand u);
  parallel_set = λ table around part operands. turned (λ u. form_par table around part operands u);
  all_set = λ table around operand others. turned (λ u. all_more table around operand others u);
  loop_set = λ table around part operand b. turned (λ u. form_loop table around part operand b u);
  nothing_set = nothing_set;
  chart_set = chart_set;
  one_set = one_set;
  alt_set = alt_set;
  par_set = par_set;
  seq_set = seq_set;
  each_set = each_set;
  opt_set = opt_set;
  rounds_set = rounds_set;
  body_set = body_set;
  graph_set = graph_set;
  refined_set = refined_set;
  refinings_set = refinings_set;
  refer_set = refer_set;
  frames_set = frames_set;
}
