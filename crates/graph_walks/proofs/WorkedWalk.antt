-- The graph of two nodes meets what the laws ask.
use Rattle.std.specs.Prelude.{ℕ, zero, suc, ◌<◌, Bool, List, [], ◌∷◌, ◌++◌, Some, None, codes, ◌≡◌}
use Rattle.std.specs.List.{slice_get}
use Rattle.std.specs.Str.{bytes_eq}
use Rattle.std.proofs.Common.{ap, ap₂, sym, ◌∙◌, refl, inl, inr, arith, get_or, subst}
use Rattle.std.proofs.lemmas.Option.{same_Some}
use Rattle.label_table.specs.Labels.{same_label}
use Rattle.label_table.proofs.Equality.{label_self, bytes_self}
use Rattle.msc_base.specs.declared.place.Place.{Place}
use Rattle.msc_base.specs.Lists.{IsIn}
use Rattle.msc_base.specs.Patterns.{seq, empty, one, join, bind}
use Rattle.msc_unfolding.specs.Unfoldings.{Happening, Unfolding, level_tie, past_level}
use Rattle.hmsc_graph.specs.declared.shape.ShapeLine.{ShapeLine}
use Rattle.hmsc_graph.specs.Graphs.{Start, At, Any, behind}
use Rattle.hmsc_graph.specs.Shapes.{IsFaulty, IsTwice}
use Rattle.chart_term.specs.Tables.{terms_over}
use Rattle.chart_term.specs.TermMeanings.{HasPattern}
use Rattle.chart_term.specs.TermPatterns.{Both}
use Rattle.chart_term.specs.Terms.{Tree, Event, Nil, Walk}
use Rattle.term_laws.specs.ConstructorLaws.{NormalFormsKeepPatterns}
use Rattle.term_laws.specs.FullSoundness.{ConstructorsKeepSoundness, IsSoundNode}
use Rattle.term_laws.specs.LaterTables.{LaterTablesAgree}
use Rattle.term_laws.proofs.FullSound.{tidy_of}
use Rattle.term_meaning.specs.Portions.{Shown, shown_at, past_shown, IsPortion}
use Rattle.term_meaning.specs.UnfoldingSets.{OnlyEmpty, OnlyEvent, AreJoined, joined, AreTied, tied}
use Rattle.term_meaning.proofs.Extended.{portion_from_now}
use Rattle.term_meaning.proofs.PortionRules.{portion_event, portion_join_all, portion_no_part, portion_part, portion_pass}
use Rattle.term_meaning.proofs.SeenRules.{named_alone}
use Rattle.term_meaning.proofs.TwoMessages.{found_once}
use Rattle.msc_tree.specs.Expressions.{Chart}
use Rattle.msc_tree.specs.Graphs.{graph, Refer, Ends}
use Rattle.msc_meaning.specs.ChartUnfoldings.{under, OfExpression, OfNode, OfWoven, of_level, no_item, item_then, single, chart, of_body, end_node, refer}
use Rattle.msc_meaning.specs.FarEnds.{happening, no_gates}
use Rattle.msc_meaning.specs.InnerEvents.{no_ends}
use Rattle.msc_meaning.specs.Tables.{Basic}
use Rattle.msc_meaning.specs.Ties.{past_node, passing}
use Rattle.msc_meaning.specs.WorkedCharts.{p, q, x, y, node_lines, p_body, q_body, two_nodes}
use Rattle.msc_meaning.specs.WorkedParts.{action, node}
use Rattle.msc_meaning.proofs.Showing.{at_entry}
use Rattle.graph_shapes.specs.GraphNets.{IsNetOf}
use Rattle.graph_shapes.specs.GraphShapes.{shape_lines, shape_of}
use Rattle.graph_walks.specs.GraphLaws.{GraphTermsMean, IsLastNet}
use Rattle.graph_walks.specs.NodeTerms.{AreFitTables, IsNodeTerm, with_net}
use Rattle.graph_walks.specs.WorkedWalk.{their_tables, their_names, their_places, their_event, their_starts, their_net, WalkIsMet}
use Rattle.graph_walks.proofs.NodeRules.{node_hidden, node_nil, node_sets, node_wide}

-- ---- the charts of the nodes

-- what a node that refers to a chart of one action does
abbrev OneEvent : Happening → Unfolding → Type 0
OneEvent h = AreTied (AreTied (AreJoined seq (OnlyEvent h) OnlyEmpty) (level_tie [])) (passing past_node)

abbrev one_event : Happening → Unfolding
one_event h = bind (bind (join seq (one h) empty) (level_tie [])) (passing past_node)

is_one : (h : Happening) (u : Unfolding) → OneEvent h u → u ≡ one_event h
is_one h _ (tied (tied (joined e f))) = ap₂ (λ (c d : Unfolding). bind (bind (join seq c d) (level_tie [])) (passing past_node)) e f

abbrev p_event : Happening
p_event = happening [] (under no_gates) (node 0 p (action x))

abbrev q_event : Happening
q_event = happening [] (under no_gates) (node 0 q (action y))

p_only : {v : Unfolding} → OfExpression two_nodes no_gates (Chart (codes "P")) v → v ≡ bind (join seq (one p_event) empty) (level_tie [])
p_only {v} (chart {entry = c} e s) = only (at_entry two_nodes (codes "P") _ no_gates refl c v e s)
  where
    only : {v : Unfolding} → OfWoven two_nodes no_gates [] (Basic p_body) v → v ≡ bind (join seq (one p_event) empty) (level_tie [])
    only (of_body (of_level no_ends (item_then single no_item))) = refl

q_only : {v : Unfolding} → OfExpression two_nodes no_gates (Chart (codes "Q")) v → v ≡ bind (join seq (one q_event) empty) (level_tie [])
q_only {v} (chart {entry = c} e s) = only (at_entry two_nodes (codes "Q") _ no_gates refl c v e s)
  where
    only : {v : Unfolding} → OfWoven two_nodes no_gates [] (Basic q_body) v → v ≡ bind (join seq (one q_event) empty) (level_tie [])
    only (of_body (of_level no_ends (item_then single no_item))) = refl

p_set : (u : Unfolding) → Both (OneEvent p_event u) (OfNode two_nodes (Refer (Chart (codes "P"))) u)
p_set u = record {
  to = λ k. subst (λ (v : Unfolding). OfNode two_nodes (Refer (Chart (codes "P"))) v) (sym (is_one p_event u k)) (refer (chart refl (of_body (of_level no_ends (item_then single no_item)))));
  from = λ k. from k;
}
  where
    from : {u : Unfolding} → OfNode two_nodes (Refer (Chart (codes "P"))) u → OneEvent p_event u
    from (refer w) = subst (λ (v : Unfolding). OneEvent p_event (bind v (passing past_node))) (sym (p_only w)) (tied (tied (joined refl refl)))

q_set : (u : Unfolding) → Both (OneEvent q_event u) (OfNode two_nodes (Refer (Chart (codes "Q"))) u)
q_set u = record {
  to = λ k. subst (λ (v : Unfolding). OfNode two_nodes (Refer (Chart (codes "Q"))) v) (sym (is_one q_event u k)) (refer (chart refl (of_body (of_level no_ends (item_then single no_item)))));
  from = λ k. from k;
}
  where
    from : {u : Unfolding} → OfNode two_nodes (Refer (Chart (codes "Q"))) u → OneEvent q_event u
    from (refer w) = subst (λ (v : Unfolding). OneEvent q_event (bind v (passing past_node))) (sym (q_only w)) (tied (tied (joined refl refl)))

end_set : (u : Unfolding) → Both (OnlyEmpty u) (OfNode two_nodes Ends u)
end_set u = record { to = λ e. subst (λ (v : Unfolding). OfNode two_nodes Ends v) (sym e) end_node; from = λ k. from k }
  where
    from : {u : Unfolding} → OfNode two_nodes Ends u → OnlyEmpty u
    from end_node = refl

-- ---- the net

abbrev their_lines : List ShapeLine
their_lines = shape_lines node_lines

-- the second byte of a label
abbrev second_byte : List ℕ → ℕ
second_byte l = get_or l 1 0

apart : (a b : ℕ) (l m : List ℕ) → second_byte l ≡ a → second_byte m ≡ b → a < b → l ≡ m → ⊥
apart a b l m e f less same = omega (arith, less, e, f, ap second_byte same)

-- no two lines have one label
no_twice : (place : Place) → IsTwice their_lines place → ⊥
no_twice place t = among t.first t.second t.line t.again.line t.at t.again.at t.before t.again.is
  where
    first_two : (s r : ShapeLine) → slice_get their_lines 1 ≡ Some r → slice_get their_lines 0 ≡ Some s → s.label ≡ r.label → ⊥
    first_two s r e f same = apart 49 50 (codes "L1") (codes "L2") refl refl (omega arith) (ap (λ (l : ShapeLine). l.label) (same_Some _ s f) ∙ same ∙ sym (ap (λ (l : ShapeLine). l.label) (same_Some _ r e)))

    first_last : (s r : ShapeLine) → slice_get their_lines 2 ≡ Some r → slice_get their_lines 0 ≡ Some s → s.label ≡ r.label → ⊥
    first_last s r e f same = apart 49 51 (codes "L1") (codes "L3") refl refl (omega arith) (ap (λ (l : ShapeLine). l.label) (same_Some _ s f) ∙ same ∙ sym (ap (λ (l : ShapeLine). l.label) (same_Some _ r e)))

    last_two : (s r : ShapeLine) → slice_get their_lines 2 ≡ Some r → slice_get their_lines 1 ≡ Some s → s.label ≡ r.label → ⊥
    last_two s r e f same = apart 50 51 (codes "L2") (codes "L3") refl refl (omega arith) (ap (λ (l : ShapeLine). l.label) (same_Some _ s f) ∙ same ∙ sym (ap (λ (l : ShapeLine). l.label) (same_Some _ r e)))

    among : (k m : ℕ) (r s : ShapeLine) → slice_get their_lines m ≡ Some r → slice_get their_lines k ≡ Some s → k < m → s.label ≡ r.label → ⊥
    among k zero r s e f l same = omega (arith, l)
    among zero (suc zero) r s e f l same = first_two s r e f same
    among (suc k) (suc zero) r s e f l same = omega (arith, l)
    among zero (suc (suc zero)) r s e f l same = first_last s r e f same
    among (suc zero) (suc (suc zero)) r s e f l same = last_two s r e f same
    among (suc (suc k)) (suc (suc zero)) r s e f l same = omega (arith, l)
    among k (suc (suc (suc m))) r s e f l same = absurd cc

faultless : (place : Place) → IsFaulty (shape_of (graph their_starts node_lines)) place → ⊥
faultless place (inl (inl h)) = h.1 0 (record { line = _; at = refl; is = refl })
faultless place (inl (inr (inl h))) = h.1 1 (record { line = _; at = refl; is = refl })
faultless place (inl (inr (inr (inl h)))) = h.1 2 (record { line = _; at = refl; is = refl })
faultless place (inl (inr (inr (inr h)))) = h
faultless place (inr h) = no_twice place h

next_below : (k m : ℕ) → IsIn m (behind their_net.net (At k)) → m < 3
next_below zero m (inl e) = omega (arith, e)
next_below zero m (inr h) = absurd h
next_below (suc zero) m (inl e) = omega (arith, e)
next_below (suc zero) m (inr h) = absurd h
next_below (suc (suc zero)) m h = absurd h
next_below (suc (suc (suc k))) m h = absurd h

starts_below : (m : ℕ) → IsIn m their_net.net.starts → m < 3
starts_below m (inl e) = omega (arith, e)
starts_below m (inr h) = absurd h

of_text : IsNetOf their_starts node_lines their_net.net
of_text = record {
  drawn = record { starts = refl; next = (refl, (refl, (refl, tt))); ends = refl };
  faultless = faultless;
  net = record { few = omega arith; each = refl; starts_below = starts_below; next_below = next_below };
}

-- ---- the terms of the nodes

module _ (keep : NormalFormsKeepPatterns) (agree : LaterTablesAgree) (constructors : ConstructorsKeepSoundness) where
  fit : AreFitTables their_places their_tables their_names
  fit = record { once = found_once bytes_eq bytes_self their_names refl; labels_once = found_once same_label label_self their_tables.labels refl; nets = tt; placed = tt }

  module _ (n : ℕ) (h : Happening) where
    abbrev Row : Unfolding → Type 0
    Row = AreJoined seq (OnlyEvent h) OnlyEmpty

    abbrev shown : Shown
    shown = shown_at n h.tags ++ []

    abbrev term : Tree
    term = Event (their_event n)

    portion : slice_get their_tables.labels n ≡ Some h.label → slice_get their_names n ≡ Some h.label.at → h.also ≡ None → (o : Bool)
        → IsPortion their_tables.labels their_names n (suc n) (past_shown past_level shown) (HasPattern (terms_over []) o term) (AreTied Row (level_tie []))
    portion l a c o =
        portion_pass their_tables.labels their_names n (suc n) shown (HasPattern (terms_over []) o term) (level_tie []) Row refl
        (portion_join_all their_tables.labels their_names keep o [] n (suc n) shown Row seq (term ∷ [])
        (portion_part their_tables.labels their_names (terms_over []) o n (suc n) (suc n) (suc n) n (suc n) (shown_at n h.tags) [] (inl (omega arith)) (omega arith) (omega arith) (omega arith) (omega arith)
        fit.once seq term [] (OnlyEvent h) OnlyEmpty
        (portion_event their_tables.labels their_names (terms_over []) o (their_event n) h (named_alone their_tables.labels their_names (their_event n) h l a refl c))
        (portion_no_part their_tables.labels their_names (terms_over []) o seq (suc n))))

    event_term : slice_get their_tables.labels n ≡ Some h.label → slice_get their_names n ≡ Some h.label.at → h.also ≡ None → n < 2 → IsNodeTerm their_places their_tables their_names n (suc n) term (OneEvent h)
    event_term l a c k =
        let sound : IsSoundNode 2 [] term = constructors.event 2 [] (their_event n) k in
        node_hidden their_places their_tables their_names n (suc n) (past_shown past_level shown) term (passing past_node) (AreTied Row (level_tie [])) refl (λ t. refl)
        (portion_from_now agree their_tables their_names n (suc n) (past_shown past_level shown) term (λ o. AreTied Row (level_tie [])) (tidy_of 2 [] term tt sound.sound) (portion l a c))
        sound refl

  p_term : IsNodeTerm their_places their_tables their_names 0 2 (Event (their_event 0)) (OfNode two_nodes (Refer (Chart (codes "P"))))
  p_term = node_sets their_places their_tables their_names 0 2 (Event (their_event 0)) (OneEvent p_event) (OfNode two_nodes (Refer (Chart (codes "P")))) p_set
      (node_wide their_places their_tables their_names 0 1 0 2 (Event (their_event 0)) (OneEvent p_event) (omega arith) (omega arith) (event_term 0 p_event refl refl refl (omega arith)))

  q_term : IsNodeTerm their_places their_tables their_names 0 2 (Event (their_event 1)) (OfNode two_nodes (Refer (Chart (codes "Q"))))
  q_term = node_sets their_places their_tables their_names 0 2 (Event (their_event 1)) (OneEvent q_event) (OfNode two_nodes (Refer (Chart (codes "Q")))) q_set
      (node_wide their_places their_tables their_names 1 2 0 2 (Event (their_event 1)) (OneEvent q_event) (omega arith) (omega arith) (event_term 1 q_event refl refl refl (omega arith)))

  end_term : IsNodeTerm their_places their_tables their_names 0 2 Nil (OfNode two_nodes Ends)
  end_term = node_sets their_places their_tables their_names 0 2 Nil OnlyEmpty (OfNode two_nodes Ends) end_set
      (node_wide their_places their_tables their_names 0 0 0 2 Nil OnlyEmpty (omega arith) (omega arith) (node_nil their_places their_tables their_names keep agree constructors fit 0))

  met : IsLastNet two_nodes their_places their_tables their_names 0 2 their_starts node_lines their_net
  met = record {
    fit = record { tables = fit; order = omega arith; are = (p_term, λ e. absurd cc, (q_term, λ e. absurd cc, (end_term, λ e. refl, tt))) };
    net = of_text;
  }

pub walk_is_met : NormalFormsKeepPatterns → LaterTablesAgree → ConstructorsKeepSoundness → GraphTermsMean → WalkIsMet
walk_is_met keep agree constructors law = record {
  met = met keep agree constructors;
  ended = refl;
  open_walk = refl;
  means = law.judged two_nodes their_places (with_net their_tables their_net) their_names 0 2 (Walk 0 Start Any []) their_starts node_lines (codes "K") _ (fit keep agree constructors).labels_once refl refl
      (law.under_way two_nodes their_places their_tables their_names 0 2 their_starts node_lines their_net (Walk 0 Start Any []) (met keep agree constructors) refl);
}
