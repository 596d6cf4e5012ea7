-- In an expansion no tie is of events in loops where no inner event of a called gate stands in a loop, construct by construct: the tags that
-- are still to be seen above a part are of gates that have inner events in it, and those of events in loops of gates that have such there.
use Rattle.std.specs.Prelude.{ℕ, zero, suc, ◌==◌, Bool, true, false, not, cond, if◌then◌else◌, List, [], ◌∷◌, ◌++◌, Option, None, Some}
use Rattle.std.specs.List.{list_any}
use Rattle.std.specs.Str.{bytes_eq}
use Rattle.std.proofs.Common.{◌≡◌, ◌∙◌, ◌⊎◌, inl, inr, refl, sym, ap, ap₂, subst, arith}
use Rattle.std.proofs.lemmas.Bool.{and_parts}
use Rattle.std.proofs.lemmas.Slice.Eq.{bytes_eq-Decides}
use Rattle.msc_base.specs.declared.label.Far.{Far}
use Rattle.msc_base.specs.declared.label.Kind.{Kind}
use Rattle.msc_base.specs.declared.label.Kind.TheVariants as kind
use Rattle.msc_base.specs.declared.label.Pair.{Pair}
use Rattle.msc_base.specs.declared.limits.TheConstants.Limits.{EXPANDED_NESTING}
use Rattle.msc_base.specs.Orders.{Among, first, later}
use Rattle.msc_unfolding.specs.Unfoldings.{Tag, Own, Via, On, past_level}
use Rattle.msc_tree.specs.declared.reference.InlineForm.{InlineForm}
use Rattle.msc_tree.specs.declared.reference.InlineForm.TheVariants as inline
use Rattle.msc_tree.specs.declared.reference.Join.{Join}
use Rattle.msc_tree.specs.declared.reference.JoinEnd.{JoinEnd}
use Rattle.msc_tree.specs.declared.reference.JoinEnd.TheVariants as join_end
use Rattle.msc_tree.specs.Expressions.{Expression, Empty, Chart, Alt, Par, Seq, Opt, Expressions, none, more}
use Rattle.msc_tree.specs.Expressions as expression
use Rattle.msc_tree.specs.Graphs as graphs
use Rattle.msc_tree.specs.Graphs.{Graph, graph, Lines, no_lines, line_and, line, Node, Ends, Connect, Condition, Frames, Graphs, no_graphs, graph_and}
use Rattle.graph_shapes.specs.GraphShapes.{shape_of}
use Rattle.msc_meaning.specs.Bodies.{EventNode, InlinePart, ReferencePart, Body, level, WovenItems, no_items, item_and, WovenItem, Single, Coregion, Inline, Refer, Bodies, no_bodies, body_and, item_list}
use Rattle.msc_meaning.specs.BodyLevels.{BodyLevel, EachLevel, item_levels, items_levels, levels_from, operands_levels}
use Rattle.msc_meaning.specs.Calls.{Call, Caller, an_event, a_gate, calls, is_call_of, is_called, passed_to}
use Rattle.msc_meaning.specs.ChartUnfoldings.{gates_of, under, refined_under, refining_under}
use Rattle.msc_meaning.specs.FarEnds.{GateMap, no_gates, Around, end_at, gates_referred, inside, far_end, happening}
use Rattle.msc_meaning.specs.InnerEvents.{GateEnd, InnerEvent, in_chart}
use Rattle.msc_meaning.specs.Refinements.{Match, Refining, refining, refining_by, refinings, is_decomposed, left_of, without_decomposed, stands_for, past_refining}
use Rattle.msc_meaning.specs.Tables.{Table, ChartEntry, body_at, body_in, chart_at, Woven, Basic, HighLevel, Refinement, refinements}
use Rattle.msc_meaning.specs.Ties.{event_tie, event_ties, in_order, item_joins_ties, items_joins_ties, join_tie, joins_ties, level_pairs, own_ties, past_inline, past_reference, tie_by, ties, via_list}
use Rattle.expansion_tree.specs.Expansions.{Expansion, Expansions, Event, InRow, Aside, OneOf, Exception, Turns, Tied, Walk, no_parts, part_and, map_events, map_all_events}
use Rattle.expansion_tree.specs.declared.tree.ExpandedEvent.{ExpandedEvent}
use Rattle.expanded_charts.specs.Expanding as tree
use Rattle.expanded_charts.specs.Expanding.{NumberedEvent, Expanded, ExpandedParts, Shown, nothing, or_nothing, in_row, aside, exception, turns, tied, past, past_shown, numbers_with, pairs_between, expand_events, expand, expand_all, expand_level, expand_items, expand_item, expand_operands, expand_refinings, expand_refined, expand_graph, expand_lines, expand_node, expand_frames, expand_woven, expand_entry, expand_charts}
use Rattle.gate_ends.specs.EndLaws.{EndsAreFound}
use Rattle.gate_ends.specs.FoundEnds.{GateEvents, no_event, an_event as one_event, both, either, in_loop, listed, looped, seen_in, is_name, these_if, unless, event_inner, events_inner, beside, operand_beside, expression_inner, choice_inner, parts_inner, joined_inner, joins_inner, level_inner, items_inner, item_inner, inline_inner, operands_inner, inner_of_item, inner_of, body_inner, inner_to, chart_gates, GoesTo}
use Rattle.gate_ends.specs.LevelGates.{items_in}
use Rattle.expanded_terms.specs.GateTies.{IsQuietChart, IsQuietLevel, IsQuietTable, IsQuietWoven}
use Rattle.expanded_terms.specs.RankedTerms.{EachTie, EachTies, IsOutsideLoops, looped_in, all_looped_in}
use Rattle.expanded_terms.proofs.FreeParts.{AreFree, AreSealed, none_sealed, put_sealed, walk_free, IsFree, IsFreeOf, in_loops, all_in_loops, none_free, row_free, aside_free, one_free, exception_free, tied_free, put_free, option_free, wider, all_wider, past_free, HasSome, InGate, InLoop, OnLevel, some_left, some_right, some_both, level_in, loop_in, Shut, AreShut, Open, shut_in, all_in, turned_shut, event_free, IsOnLevel, one_case, called_case, via_case, each_left, each_right}
use Rattle.expanded_terms.proofs.RankedChartTerms.{mapped_all_numbers, mapped_numbers}
use Rattle.expanded_terms.proofs.TiesWithin.{split_among, flat_among}

-- the body of each refining chart
abbrev AreEachRefining : (BodyLevel → Type 0) → List Refining → Type 0
AreEachRefining P [] = Unit {0}
AreEachRefining P (refining held ms ∷ rs) = EachLevel P (levels_from None held) × AreEachRefining P rs

-- ---- constructs; the events of each named chart's gates are known

module _ (ends_of : WovenItems → List GateEnd) (chart : tree.Charts) (found : List ℕ → List ℕ → GateEvents) (known : (name : List ℕ) (gates : GateMap) (n : ℕ) → Shut (found name) n (chart name gates n)) where
  events_free : (es : List GateEnd) (a : Around) (n : ℕ) (ks : List EventNode) → Open (events_inner ks) n (expand_events chart ends_of es a n ks)
  events_free es a n [] = none_free (OnLevel (events_inner [])) (InLoop (events_inner [])) n
  events_free es a n (k ∷ ks) = put_free (OnLevel (events_inner (k ∷ ks))) (InLoop (events_inner (k ∷ ks))) n (tree.event n (happening es a k)) (expand_events chart ends_of es a (suc n) ks)
      (wider (OnLevel (event_inner k)) (InLoop (event_inner k)) (OnLevel (events_inner (k ∷ ks))) (InLoop (events_inner (k ∷ ks)))
      (level_in (event_inner k) (events_inner (k ∷ ks)) (λ g. some_left (listed (event_inner k g)) (listed (events_inner ks g)))) (loop_in (event_inner k) (events_inner (k ∷ ks)) (λ g. some_left (looped (event_inner k g)) (looped (events_inner ks g))))
      n (tree.event n (happening es a k)) (event_free es a n k))
      (all_wider (OnLevel (events_inner ks)) (InLoop (events_inner ks)) (OnLevel (events_inner (k ∷ ks))) (InLoop (events_inner (k ∷ ks)))
      (level_in (events_inner ks) (events_inner (k ∷ ks)) (λ g. some_right (listed (event_inner k g)) (listed (events_inner ks g)))) (loop_in (events_inner ks) (events_inner (k ∷ ks)) (λ g. some_right (looped (event_inner k g)) (looped (events_inner ks g))))
      (suc n) (expand_events chart ends_of es a (suc n) ks) (events_free es a (suc n) ks))

  mutual
    expression_free : (gates : GateMap) (n : ℕ) (e : Expression) → Shut (expression_inner found e) n (expand chart ends_of gates n e)
    expression_free gates n Empty = row_free (InGate (expression_inner found Empty)) (InLoop (expression_inner found Empty)) n (nothing n) (none_free (InGate (expression_inner found Empty)) (InLoop (expression_inner found Empty)) n)
    expression_free gates n (Chart name) = known name gates n
    expression_free gates n (Alt parts) = one_free (InGate (choice_inner found parts)) (InLoop (choice_inner found parts)) n (expand_all chart ends_of gates n parts) (choices_free gates n parts)
    expression_free gates n (Par parts) = aside_free (InGate (parts_inner found parts)) (InLoop (parts_inner found parts)) n (expand_all chart ends_of gates n parts) (parts_free gates n parts)
    expression_free gates n (Seq parts) = row_free (InGate (parts_inner found parts)) (InLoop (parts_inner found parts)) n (expand_all chart ends_of gates n parts) (parts_free gates n parts)
    expression_free gates n (Opt part) = option_free (InGate (expression_inner found part)) (InLoop (expression_inner found part)) n (expand chart ends_of gates n part) (expression_free gates n part)
    expression_free gates n (expression.Loop lower upper part) = turned_shut (expression_inner found part) n lower upper (expand chart ends_of gates n part) (expression_free gates n part)

    parts_free : (gates : GateMap) (n : ℕ) (xs : Expressions) → AreShut (parts_inner found xs) n (expand_all chart ends_of gates n xs)
    parts_free gates n none = none_free (InGate (parts_inner found none)) (InLoop (parts_inner found none)) n
    parts_free gates n (more x xs) = put_free (InGate (parts_inner found (more x xs))) (InLoop (parts_inner found (more x xs))) n (expand chart ends_of gates n x) (expand_all chart ends_of gates (expand chart ends_of gates n x).next xs)
        (shut_in (expression_inner found x) (parts_inner found (more x xs)) (λ g. some_left (listed (expression_inner found x g)) (listed (parts_inner found xs g))) (λ g. some_left (looped (expression_inner found x g)) (looped (parts_inner found xs g))) n (expand chart ends_of gates n x) (expression_free gates n x))
        (all_in (parts_inner found xs) (parts_inner found (more x xs)) (λ g. some_right (listed (expression_inner found x g)) (listed (parts_inner found xs g))) (λ g. some_right (looped (expression_inner found x g)) (looped (parts_inner found xs g)))
        (expand chart ends_of gates n x).next (expand_all chart ends_of gates (expand chart ends_of gates n x).next xs) (parts_free gates (expand chart ends_of gates n x).next xs))

    choices_free : (gates : GateMap) (n : ℕ) (xs : Expressions) → AreShut (choice_inner found xs) n (expand_all chart ends_of gates n xs)
    choices_free gates n none = none_free (InGate (choice_inner found none)) (InLoop (choice_inner found none)) n
    choices_free gates n (more x xs) = put_free (InGate (choice_inner found (more x xs))) (InLoop (choice_inner found (more x xs))) n (expand chart ends_of gates n x) (expand_all chart ends_of gates (expand chart ends_of gates n x).next xs)
        (shut_in (expression_inner found x) (choice_inner found (more x xs)) (λ g. some_left (listed (expression_inner found x g)) (listed (choice_inner found xs g))) (λ g. some_left (looped (expression_inner found x g)) (looped (choice_inner found xs g))) n (expand chart ends_of gates n x) (expression_free gates n x))
        (all_in (choice_inner found xs) (choice_inner found (more x xs)) (λ g. some_right (listed (expression_inner found x g)) (listed (choice_inner found xs g))) (λ g. some_right (looped (expression_inner found x g)) (looped (choice_inner found xs g)))
        (expand chart ends_of gates n x).next (expand_all chart ends_of gates (expand chart ends_of gates n x).next xs) (choices_free gates (expand chart ends_of gates n x).next xs))

  -- ---- graphs

  abbrev AnyTag : Tag → Type 0
  AnyTag a = Unit {0}

  mutual
    lines_sealed : (n : ℕ) (lines : Lines) → AreSealed n (expand_lines chart ends_of n lines)
    lines_sealed n no_lines = none_sealed n
    lines_sealed n (line_and (line label place Ends next) rest) = put_sealed AnyTag AnyTag n (in_row (nothing n)) (expand_lines chart ends_of n rest) (row_free AnyTag AnyTag n (nothing n) (none_free AnyTag AnyTag n)) (lines_sealed n rest)
    lines_sealed n (line_and (line label place Connect next) rest) = put_sealed AnyTag AnyTag n (in_row (nothing n)) (expand_lines chart ends_of n rest) (row_free AnyTag AnyTag n (nothing n) (none_free AnyTag AnyTag n)) (lines_sealed n rest)
    lines_sealed n (line_and (line label place (Condition names) next) rest) = put_sealed AnyTag AnyTag n (in_row (nothing n)) (expand_lines chart ends_of n rest) (row_free AnyTag AnyTag n (nothing n) (none_free AnyTag AnyTag n)) (lines_sealed n rest)
    lines_sealed n (line_and (line label place (graphs.Refer e) next) rest) =
        put_sealed (InGate (expression_inner found e)) (InLoop (expression_inner found e)) n (expand chart ends_of no_gates n e) (expand_lines chart ends_of (expand chart ends_of no_gates n e).next rest) (expression_free no_gates n e) (lines_sealed (expand chart ends_of no_gates n e).next rest)
    lines_sealed n (line_and (line label place (Frames held) next) rest) =
        put_sealed AnyTag AnyTag n (aside (expand_frames chart ends_of n held)) (expand_lines chart ends_of (expand_frames chart ends_of n held).next rest)
        (aside_free AnyTag AnyTag n (expand_frames chart ends_of n held) (frames_free n held)) (lines_sealed (expand_frames chart ends_of n held).next rest)

    frames_free : (n : ℕ) (held : Graphs) → AreFree AnyTag AnyTag n (expand_frames chart ends_of n held)
    frames_free n no_graphs = none_free AnyTag AnyTag n
    frames_free n (graph_and drawn rest) =
        put_free AnyTag AnyTag n (expand_graph chart ends_of n drawn) (expand_frames chart ends_of (expand_graph chart ends_of n drawn).next rest) (frame_free n drawn) (frames_free (expand_graph chart ends_of n drawn).next rest)

    frame_free : (n : ℕ) (drawn : Graph) → IsFree AnyTag AnyTag n (expand_graph chart ends_of n drawn)
    frame_free n (graph starts lines) = walk_free AnyTag AnyTag n (shape_of (graph starts lines)) (expand_lines chart ends_of (suc n) lines) (lines_sealed (suc n) lines)

  graph_free : (S L : Tag → Type 0) (n : ℕ) (drawn : Graph) → IsFree S L n (expand_graph chart ends_of n drawn)
  graph_free S L n (graph starts lines) = walk_free S L n (shape_of (graph starts lines)) (expand_lines chart ends_of (suc n) lines) (lines_sealed (suc n) lines)

  -- ---- joins

  -- the gate is handed on to the one that it is on the level
  module _ (Of : GateEvents → List InnerEvent) (none : Of no_event ≡ []) (two : (a b : GateEvents) → Of (both a b) ≡ Of a ++ Of b) where
    held_if : (b : Bool) (a : GateEvents) → b ≡ true → HasSome (Of a) → HasSome (Of (these_if b a))
    held_if true a e h = h
    held_if false a e h = absurd cc

    to_left : (a b : GateEvents) → HasSome (Of a) → HasSome (Of (both a b))
    to_left a b h = subst (λ (l : List InnerEvent). HasSome l) (sym (two a b)) (some_left (Of a) (Of b) h)

    to_right : (a b : GateEvents) → HasSome (Of b) → HasSome (Of (both a b))
    to_right a b h = subst (λ (l : List InnerEvent). HasSome l) (sym (two a b)) (some_right (Of a) (Of b) h)

    passed : (x : Expression) (js : List Join) (g to : List ℕ) → passed_to js g ≡ Some to → HasSome (Of (expression_inner found x g)) → HasSome (Of (joins_inner found x js to))
    passed x [] g to e h = absurd cc
    passed x (j ∷ js) g to e h = by (bytes_eq j.gate g) j.to refl refl (passed x js g to)
      where
        by : (b : Bool) (t : JoinEnd) → bytes_eq j.gate g ≡ b → j.to ≡ t → (passed_to js g ≡ Some to → HasSome (Of (expression_inner found x g)) → HasSome (Of (joins_inner found x js to))) → HasSome (Of (joins_inner found x (j ∷ js) to))
        by true (join_end.Env own) q r behind =
            let here : passed_to (j ∷ js) g ≡ Some own = rw q (rw r refl) in
            let same : own ≡ to = cc in
            let gate : j.gate ≡ g = (bytes_eq-Decides j.gate g).0 q in
            to_left (joined_inner found x j.gate j.to to) (joins_inner found x js to)
            (subst (λ (t : JoinEnd). HasSome (Of (joined_inner found x j.gate t to))) (sym r)
            (held_if (bytes_eq own to) (expression_inner found x j.gate) ((bytes_eq-Decides own to).1 same) (subst (λ (y : List ℕ). HasSome (Of (expression_inner found x y))) (sym gate) h)))
        by true (join_end.Reference name own) q r behind =
            let there : passed_to (j ∷ js) g ≡ passed_to js g = rw q (rw r refl) in
            to_right (joined_inner found x j.gate j.to to) (joins_inner found x js to) (behind (sym there ∙ e) h)
        by false t q r behind =
            let there : passed_to (j ∷ js) g ≡ passed_to js g = rw q refl in
            to_right (joined_inner found x j.gate j.to to) (joins_inner found x js to) (behind (sym there ∙ e) h)

  passed_listed : (x : Expression) (js : List Join) (g to : List ℕ) → passed_to js g ≡ Some to → HasSome (listed (expression_inner found x g)) → HasSome (listed (joins_inner found x js to))
  passed_listed = passed listed refl (λ a b. refl)

  passed_looped : (x : Expression) (js : List Join) (g to : List ℕ) → passed_to js g ≡ Some to → HasSome (looped (expression_inner found x g)) → HasSome (looped (joins_inner found x js to))
  passed_looped = passed looped refl (λ a b. refl)

  -- ---- inline expressions

  operands_gate : (form : InlineForm) (a b : GateEvents) → listed (operand_beside form a b) ≡ listed a ++ listed b
  operands_gate inline.Alt a b = refl
  operands_gate inline.Opt a b = refl
  operands_gate inline.Par a b = refl
  operands_gate inline.Exc a b = refl
  operands_gate inline.Loop a b = refl

  operands_loop : (form : InlineForm) (a b : GateEvents) → looped (operand_beside form a b) ≡ looped a ++ looped b
  operands_loop inline.Alt a b = refl
  operands_loop inline.Opt a b = refl
  operands_loop inline.Par a b = refl
  operands_loop inline.Exc a b = refl
  operands_loop inline.Loop a b = refl

  inline_free : (form : InlineForm) (part : InlinePart) (bs : Bodies) (n : ℕ) (l : ExpandedParts) → AreShut (operands_inner found form bs) n l → Shut (inline_inner found form bs) n (tree.inline_by form part n l)
  inline_free inline.Alt part bs n l h = one_free (InGate (operands_inner found inline.Alt bs)) (InLoop (operands_inner found inline.Alt bs)) n l h
  inline_free inline.Opt part bs n l h = option_free (InGate (operands_inner found inline.Opt bs)) (InLoop (operands_inner found inline.Opt bs)) n (tree.one_of l) (one_free (InGate (operands_inner found inline.Opt bs)) (InLoop (operands_inner found inline.Opt bs)) n l h)
  inline_free inline.Par part bs n l h = aside_free (InGate (operands_inner found inline.Par bs)) (InLoop (operands_inner found inline.Par bs)) n l h
  inline_free inline.Exc part bs n l h = exception_free (InGate (operands_inner found inline.Exc bs)) (InLoop (operands_inner found inline.Exc bs)) n (tree.one_of l) (one_free (InGate (operands_inner found inline.Exc bs)) (InLoop (operands_inner found inline.Exc bs)) n l h)
  inline_free inline.Loop part bs n l h = turned_shut (operands_inner found inline.Loop bs) n part.lower part.upper (tree.one_of l) (one_free (InGate (operands_inner found inline.Loop bs)) (InLoop (operands_inner found inline.Loop bs)) n l h)

  -- ---- items

  item_gate : (x : WovenItem) (a b : GateEvents) → listed (beside x a b) ≡ listed a ++ listed b
  item_gate (Single k) a b = refl
  item_gate (Coregion ks) a b = refl
  item_gate (Inline inline.Alt part bs) a b = refl
  item_gate (Inline inline.Opt part bs) a b = refl
  item_gate (Inline inline.Par part bs) a b = refl
  item_gate (Inline inline.Exc part bs) a b = refl
  item_gate (Inline inline.Loop part bs) a b = refl
  item_gate (Refer part) a b = refl

  item_loop : (x : WovenItem) (a b : GateEvents) → looped (beside x a b) ≡ looped a ++ looped b
  item_loop (Single k) a b = refl
  item_loop (Coregion ks) a b = refl
  item_loop (Inline inline.Alt part bs) a b = refl
  item_loop (Inline inline.Opt part bs) a b = refl
  item_loop (Inline inline.Par part bs) a b = refl
  item_loop (Inline inline.Exc part bs) a b = refl
  item_loop (Inline inline.Loop part bs) a b = refl
  item_loop (Refer part) a b = refl

  some_is : (a b : List InnerEvent) → a ≡ b → HasSome b → HasSome a
  some_is a b e (x, i) = (x, subst (λ (l : List InnerEvent). Among x l) (sym e) i)

  none_is : (a : List InnerEvent) → a ≡ [] → HasSome a → ⊥
  none_is [] e (x, i) = elim i [ ]
  none_is (y ∷ a) e h = absurd cc

  -- the called gates of a level
  module _ (held : WovenItems) (quiet : (c : Call) → Among c (calls held) → looped (inner_of found held c.name c.gate) ≡ []) where
    abbrev cs : List Call
    cs = calls held

    caller_among : (l : List Call) (own g : List ℕ) → list_any (is_call_of own g) l ≡ true → (c : Call) × Among c l × (c.name ≡ own) × (c.gate ≡ g)
    caller_among [] own g e = absurd cc
    caller_among (c ∷ l) own g e = by (is_call_of own g c) refl e (caller_among l own g)
      where
        by : (b : Bool) → is_call_of own g c ≡ b → list_any (is_call_of own g) (c ∷ l) ≡ true → (list_any (is_call_of own g) l ≡ true → (d : Call) × Among d l × (d.name ≡ own) × (d.gate ≡ g)) → (d : Call) × Among d (c ∷ l) × (d.name ≡ own) × (d.gate ≡ g)
        by true q e f = let (a, b) = and_parts (bytes_eq c.name own) (bytes_eq c.gate g) q in (c, first, (bytes_eq-Decides c.name own).0 a, (bytes_eq-Decides c.gate g).0 b)
        by false q e f = let (d, i, a, b) = f (subst (λ (t : Bool). t ≡ true) (rw q refl) e) in (d, later i, a, b)

    not_called : (own g : List ℕ) → is_called cs (Some own) g ≡ true → HasSome (looped (inner_of found held own g)) → ⊥
    not_called own g e h =
        let (c, i, a, b) = caller_among cs own g e in
        none_is (looped (inner_of found held own g)) (subst (λ (z : List ℕ). looped (inner_of found held z g) ≡ []) a (subst (λ (y : List ℕ). looped (inner_of found held c.name y) ≡ []) b (quiet c i))) h

    -- the item is one of the level's
    abbrev IsThere : WovenItem → Type 0
    IsThere x = (z g : List ℕ) → HasSome (looped (inner_of_item found x z g)) → HasSome (looped (inner_of found held z g))

    these_some : (b : Bool) (a : GateEvents) → b ≡ true → HasSome (looped a) → HasSome (looped (these_if b a))
    these_some true a e h = h
    these_some false a e h = absurd cc

    -- ---- an inline expression

    module _ (form : InlineForm) (part : InlinePart) (bs : Bodies) (there : IsThere (Inline form part bs)) where
      abbrev inner : List ℕ → GateEvents
      inner g = inline_inner found form bs g

      inline_quiet : (own g : List ℕ) → part.name ≡ Some own → is_called cs (Some own) g ≡ true → HasSome (looped (inner g)) → ⊥
      inline_quiet own g e c h = not_called own g c (there own g (these_some (is_name part.name own) (inner g) (subst (λ (o : Option (List ℕ)). is_name o own ≡ true) (sym e) ((bytes_eq-Decides own own).1 refl)) h))

      stays : (g : List ℕ) → (part.name ≡ None) ⊎ (is_called cs part.name g ≡ false) → is_called cs part.name g ≡ false
      stays g (inl e) = subst (λ (o : Option (List ℕ)). is_called cs o g ≡ false) (sym e) refl
      stays g (inr e) = e

      inline_seen : (t : Tag) → InGate inner t → (a : Tag) → Among a (past_inline cs part.name t) → OnLevel (item_inner found cs (Inline form part bs)) a
      inline_seen (Own n) h a i = elim i [ ]
      inline_seen (On z y) h a i = elim i [ ]
      inline_seen (Via g) h a i = called_case (OnLevel (item_inner found cs (Inline form part bs))) (is_called cs part.name g) part.name g (Via g ∷ []) (λ own e f. tt)
          (λ b no j. one_case (OnLevel (item_inner found cs (Inline form part bs))) (Via g) b (subst (λ (t : Bool). HasSome (listed (unless t (inner g)))) (sym (stays g no)) h) j) a i

      inline_loop : (t : Tag) → InLoop inner t → (a : Tag) → Among a (past_inline cs part.name t) → InLoop (item_inner found cs (Inline form part bs)) a
      inline_loop (Own n) h a i = elim i [ ]
      inline_loop (On z y) h a i = elim i [ ]
      inline_loop (Via g) h a i = called_case (InLoop (item_inner found cs (Inline form part bs))) (is_called cs part.name g) part.name g (Via g ∷ [])
          (λ own e f. inline_quiet own g f (subst (λ (o : Option (List ℕ)). is_called cs o g ≡ true) f e) h)
          (λ b no j. one_case (InLoop (item_inner found cs (Inline form part bs))) (Via g) b (subst (λ (t : Bool). HasSome (looped (unless t (inner g)))) (sym (stays g no)) h) j) a i

    -- ---- a reference

    module _ (part : ReferencePart) (there : IsThere (Refer part)) where
      abbrev its : List ℕ → GateEvents
      its g = expression_inner found part.expression g

      reference_quiet : (own g : List ℕ) → part.name ≡ Some own → is_called cs (Some own) g ≡ true → HasSome (looped (its g)) → ⊥
      reference_quiet own g e c h = not_called own g c (there own g (these_some (is_name part.name own) (its g) (subst (λ (o : Option (List ℕ)). is_name o own ≡ true) (sym e) ((bytes_eq-Decides own own).1 refl)) h))

      reference_seen : (t : Tag) → InGate its t → (a : Tag) → Among a (past_reference cs part.name part.joins t) → OnLevel (item_inner found cs (Refer part)) a
      reference_seen (Own n) h a i = elim i [ ]
      reference_seen (On z y) h a i = elim i [ ]
      reference_seen (Via g) h a i = called_case (OnLevel (item_inner found cs (Refer part))) (is_called cs part.name g) part.name g (via_list (passed_to part.joins g)) (λ own e f. tt)
          (λ b no j. via_case (OnLevel (item_inner found cs (Refer part))) (passed_to part.joins g) b (λ to e. passed_listed part.expression part.joins g to e h) j) a i

      reference_loop : (t : Tag) → InLoop its t → (a : Tag) → Among a (past_reference cs part.name part.joins t) → InLoop (item_inner found cs (Refer part)) a
      reference_loop (Own n) h a i = elim i [ ]
      reference_loop (On z y) h a i = elim i [ ]
      reference_loop (Via g) h a i = called_case (InLoop (item_inner found cs (Refer part))) (is_called cs part.name g) part.name g (via_list (passed_to part.joins g))
          (λ own e f. reference_quiet own g f (subst (λ (o : Option (List ℕ)). is_called cs o g ≡ true) f e) h)
          (λ b no j. via_case (InLoop (item_inner found cs (Refer part))) (passed_to part.joins g) b (λ to e. passed_looped part.expression part.joins g to e h) j) a i

  -- ---- levels

  -- what is tied on a level is its own or called
  abbrev IsTied : Tag × Tag → Type 0
  IsTied t = IsOnLevel t.0 × IsOnLevel t.1

  own_tied : (ps : List Pair) (t : Tag × Tag) → Among t (own_ties ps) → IsTied t
  own_tied (p ∷ ps) _ first = (tt, tt)
  own_tied (p ∷ ps) t (later i) = own_tied ps t i
  own_tied [] t i = elim i [ ]

  ordered_tied : (k : Kind) (a b : Tag) → IsOnLevel a → IsOnLevel b → (t : Tag × Tag) → Among t (in_order k a b ∷ []) → IsTied t
  ordered_tied k a b h g t i = by k t i
    where
      one : (u : Tag × Tag) → IsTied u → (t : Tag × Tag) → Among t (u ∷ []) → IsTied t
      one u p _ first = p
      one u p t (later i) = elim i [ ]

      by : (k : Kind) (t : Tag × Tag) → Among t (in_order k a b ∷ []) → IsTied t
      by kind.Input t i = one (b, a) (g, h) t i
      by kind.Output t i = one (a, b) (h, g) t i
      by kind.OutputLost t i = one (a, b) (h, g) t i
      by kind.InputFound t i = one (a, b) (h, g) t i
      by kind.Action t i = one (a, b) (h, g) t i
      by kind.TimerStart t i = one (a, b) (h, g) t i
      by kind.TimerStop t i = one (a, b) (h, g) t i
      by kind.Timeout t i = one (a, b) (h, g) t i
      by kind.Create t i = one (a, b) (h, g) t i

  caller_tied : (c : Call) (d : Caller) (t : Tag × Tag) → Among t (event_tie c d) → IsTied t
  caller_tied c (an_event n) t i = ordered_tied n.event.kind (Own n.number) (On c.name c.gate) tt tt t i
  caller_tied c (a_gate name gate) t i = elim i [ ]

  callers_tied : (l : List Call) (t : Tag × Tag) → Among t (event_ties l) → IsTied t
  callers_tied l t i = let (c, j, k) = flat_among (λ c. event_tie c c.by) l t i in caller_tied c c.by t k

  join_tied : (ends : List GateEnd) (own g : List ℕ) (to : JoinEnd) (t : Tag × Tag) → Among t (join_tie ends own g to) → IsTied t
  join_tied ends own g (join_end.Env h) t i = elim i [ ]
  join_tied ends own g (join_end.Reference name h) t i = by (end_at ends own g) i
    where
      by : (o : Option GateEnd) → Among t (tie_by o own g name h) → IsTied t
      by None i = elim i [ ]
      by (Some e) i = ordered_tied e.kind (On own g) (On name h) tt tt t i

  joins_tied : (ends : List GateEnd) (o : Option (List ℕ)) (js : List Join) (t : Tag × Tag) → Among t (joins_ties ends o js) → IsTied t
  joins_tied ends None js t i = elim i [ ]
  joins_tied ends (Some own) js t i = let (j, l, k) = flat_among (λ j. join_tie ends own j.gate j.to) js t i in join_tied ends own j.gate j.to t k

  item_tied : (ends : List GateEnd) (x : WovenItem) (t : Tag × Tag) → Among t (item_joins_ties ends x) → IsTied t
  item_tied ends (Single n) t i = elim i [ ]
  item_tied ends (Coregion ns) t i = elim i [ ]
  item_tied ends (Inline form part bs) t i = elim i [ ]
  item_tied ends (Refer part) t i = joins_tied ends part.name part.joins t i

  level_tied : (held : WovenItems) (pairs : List Pair) (ends : List GateEnd) (t : Tag × Tag) → Among t (ties held pairs (calls held) ends) → IsTied t
  level_tied held pairs ends t i = elim (split_among (own_ties (level_pairs held pairs)) (event_ties (calls held) ++ items_joins_ties ends held) t i) [
    | inl a ↦ own_tied (level_pairs held pairs) t a
    | inr a ↦ elim (split_among (event_ties (calls held)) (items_joins_ties ends held) t a) [
      | inl b ↦ callers_tied (calls held) t b
      | inr b ↦ let (x, l, k) = flat_among (item_joins_ties ends) (item_list held) t b in item_tied ends x t k
    ]
  ]

  no_loop : (F : List ℕ → GateEvents) (t : Tag) → IsOnLevel t → InLoop F t → ⊥
  no_loop F (Own n) h l = l
  no_loop F (Via g) h l = h
  no_loop F (On z g) h l = l

  level_seen : (F : List ℕ → GateEvents) (t : Tag) → OnLevel F t → (a : Tag) → Among a (past_level t) → InGate F a
  level_seen F (Own n) h a i = elim i [ ]
  level_seen F (On z g) h a i = elim i [ ]
  level_seen F (Via g) h a i = one_case (InGate F) (Via g) a h i

  level_loop : (F : List ℕ → GateEvents) (t : Tag) → InLoop F t → (a : Tag) → Among a (past_level t) → InLoop F a
  level_loop F (Own n) h a i = elim i [ ]
  level_loop F (On z g) h a i = elim i [ ]
  level_loop F (Via g) h a i = one_case (InLoop F) (Via g) a h i

  abbrev IsQuiet : BodyLevel → Type 0
  IsQuiet l = (c : Call) → Among c (calls (items_in l.body)) → looped (inner_of found (items_in l.body) c.name c.gate) ≡ []

  mutual
    level_free : (a : Around) (n : ℕ) (f : Option InlineForm) (b : Body) → EachLevel IsQuiet (levels_from f b) → Shut (level_inner found b) n (expand_level chart ends_of a n b)
    level_free a n f (level cover held pairs) q =
        past_free (OnLevel (items_inner found (calls held) held)) (InLoop (items_inner found (calls held) held)) (InGate (level_inner found (level cover held pairs))) (InLoop (level_inner found (level cover held pairs))) past_level
        (level_seen (items_inner found (calls held) held)) (level_loop (items_inner found (calls held) held)) n (tied (ties held pairs (calls held) (ends_of held)) (in_row (expand_items chart ends_of (gates_of held (ends_of held)) a n held)))
        (tied_free (OnLevel (items_inner found (calls held) held)) (InLoop (items_inner found (calls held) held)) n (ties held pairs (calls held) (ends_of held)) (in_row (expand_items chart ends_of (gates_of held (ends_of held)) a n held))
        (λ t i. let (u, v) = level_tied held pairs (ends_of held) t i in (no_loop (items_inner found (calls held) held) t.0 u, no_loop (items_inner found (calls held) held) t.1 v))
        (row_free (OnLevel (items_inner found (calls held) held)) (InLoop (items_inner found (calls held) held)) n (expand_items chart ends_of (gates_of held (ends_of held)) a n held) (items_free held q.0 a n held (λ z g h. h) q.1)))

    items_free : (held : WovenItems) (quiet : (c : Call) → Among c (calls held) → looped (inner_of found held c.name c.gate) ≡ []) (a : Around) (n : ℕ) (xs : WovenItems)
        → ((z g : List ℕ) → HasSome (looped (inner_of found xs z g)) → HasSome (looped (inner_of found held z g))) → EachLevel IsQuiet (items_levels xs)
        → Open (items_inner found (calls held) xs) n (expand_items chart ends_of (gates_of held (ends_of held)) a n xs)
    items_free held quiet a n no_items up q = none_free (OnLevel (items_inner found (calls held) no_items)) (InLoop (items_inner found (calls held) no_items)) n
    items_free held quiet a n (item_and x xs) up q =
        put_free (OnLevel (items_inner found (calls held) (item_and x xs))) (InLoop (items_inner found (calls held) (item_and x xs))) n (expand_item chart ends_of (gates_of held (ends_of held)) a n x) (expand_items chart ends_of (gates_of held (ends_of held)) a (expand_item chart ends_of (gates_of held (ends_of held)) a n x).next xs)
        (wider (OnLevel (item_inner found (calls held) x)) (InLoop (item_inner found (calls held) x)) (OnLevel (items_inner found (calls held) (item_and x xs))) (InLoop (items_inner found (calls held) (item_and x xs)))
        (level_in (item_inner found (calls held) x) (items_inner found (calls held) (item_and x xs)) (λ g h. some_is (listed (items_inner found (calls held) (item_and x xs) g)) (listed (item_inner found (calls held) x g) ++ listed (items_inner found (calls held) xs g)) (item_gate x (item_inner found (calls held) x g) (items_inner found (calls held) xs g)) (some_left (listed (item_inner found (calls held) x g)) (listed (items_inner found (calls held) xs g)) h)))
        (loop_in (item_inner found (calls held) x) (items_inner found (calls held) (item_and x xs)) (λ g h. some_is (looped (items_inner found (calls held) (item_and x xs) g)) (looped (item_inner found (calls held) x g) ++ looped (items_inner found (calls held) xs g)) (item_loop x (item_inner found (calls held) x g) (items_inner found (calls held) xs g)) (some_left (looped (item_inner found (calls held) x g)) (looped (items_inner found (calls held) xs g)) h)))
        n (expand_item chart ends_of (gates_of held (ends_of held)) a n x) (item_free held quiet a n x (λ z g h. up z g (some_left (looped (inner_of_item found x z g)) (looped (inner_of found xs z g)) h)) (each_left IsQuiet (item_levels x) (items_levels xs) q)))
        (all_wider (OnLevel (items_inner found (calls held) xs)) (InLoop (items_inner found (calls held) xs)) (OnLevel (items_inner found (calls held) (item_and x xs))) (InLoop (items_inner found (calls held) (item_and x xs)))
        (level_in (items_inner found (calls held) xs) (items_inner found (calls held) (item_and x xs)) (λ g h. some_is (listed (items_inner found (calls held) (item_and x xs) g)) (listed (item_inner found (calls held) x g) ++ listed (items_inner found (calls held) xs g)) (item_gate x (item_inner found (calls held) x g) (items_inner found (calls held) xs g)) (some_right (listed (item_inner found (calls held) x g)) (listed (items_inner found (calls held) xs g)) h)))
        (loop_in (items_inner found (calls held) xs) (items_inner found (calls held) (item_and x xs)) (λ g h. some_is (looped (items_inner found (calls held) (item_and x xs) g)) (looped (item_inner found (calls held) x g) ++ looped (items_inner found (calls held) xs g)) (item_loop x (item_inner found (calls held) x g) (items_inner found (calls held) xs g)) (some_right (looped (item_inner found (calls held) x g)) (looped (items_inner found (calls held) xs g)) h)))
        (expand_item chart ends_of (gates_of held (ends_of held)) a n x).next (expand_items chart ends_of (gates_of held (ends_of held)) a (expand_item chart ends_of (gates_of held (ends_of held)) a n x).next xs)
        (items_free held quiet a (expand_item chart ends_of (gates_of held (ends_of held)) a n x).next xs (λ z g h. up z g (some_right (looped (inner_of_item found x z g)) (looped (inner_of found xs z g)) h)) (each_right IsQuiet (item_levels x) (items_levels xs) q)))

    item_free : (held : WovenItems) (quiet : (c : Call) → Among c (calls held) → looped (inner_of found held c.name c.gate) ≡ []) (a : Around) (n : ℕ) (x : WovenItem) → IsThere held quiet x → EachLevel IsQuiet (item_levels x)
        → IsFree (OnLevel (item_inner found (calls held) x)) (InLoop (item_inner found (calls held) x)) n (expand_item chart ends_of (gates_of held (ends_of held)) a n x)
    item_free held quiet a n (Single k) there q = event_free (ends_of held) a n k
    item_free held quiet a n (Coregion ks) there q = aside_free (OnLevel (events_inner ks)) (InLoop (events_inner ks)) n (expand_events chart ends_of (ends_of held) a n ks) (events_free (ends_of held) a n ks)
    item_free held quiet a n (Refer part) there q =
        past_free (InGate (expression_inner found part.expression)) (InLoop (expression_inner found part.expression)) (OnLevel (item_inner found (calls held) (Refer part))) (InLoop (item_inner found (calls held) (Refer part))) (past_reference (calls held) part.name part.joins)
        (reference_seen held quiet part there) (reference_loop held quiet part there) n (expand chart ends_of (gates_referred (gates_of held (ends_of held)) part.name part.joins a.gates) n part.expression)
        (expression_free (gates_referred (gates_of held (ends_of held)) part.name part.joins a.gates) n part.expression)
    item_free held quiet a n (Inline form part bs) there q =
        past_free (InGate (inline_inner found form bs)) (InLoop (inline_inner found form bs)) (OnLevel (item_inner found (calls held) (Inline form part bs))) (InLoop (item_inner found (calls held) (Inline form part bs))) (past_inline (calls held) part.name)
        (inline_seen held quiet form part bs there) (inline_loop held quiet form part bs there) n (tree.inline_by form part n (expand_operands chart ends_of (inside (gates_of held (ends_of held)) part.name a) n bs))
        (inline_free form part bs n (expand_operands chart ends_of (inside (gates_of held (ends_of held)) part.name a) n bs) (operands_free (inside (gates_of held (ends_of held)) part.name a) n form bs q))

    operands_free : (a : Around) (n : ℕ) (form : InlineForm) (bs : Bodies) → EachLevel IsQuiet (operands_levels form bs) → AreShut (operands_inner found form bs) n (expand_operands chart ends_of a n bs)
    operands_free a n form no_bodies q = none_free (InGate (operands_inner found form no_bodies)) (InLoop (operands_inner found form no_bodies)) n
    operands_free a n form (body_and b bs) q =
        put_free (InGate (operands_inner found form (body_and b bs))) (InLoop (operands_inner found form (body_and b bs))) n (expand_level chart ends_of a n b) (expand_operands chart ends_of a (expand_level chart ends_of a n b).next bs)
        (shut_in (level_inner found b) (operands_inner found form (body_and b bs)) (λ g h. some_is (listed (operands_inner found form (body_and b bs) g)) (listed (level_inner found b g) ++ listed (operands_inner found form bs g)) (operands_gate form (level_inner found b g) (operands_inner found form bs g)) (some_left (listed (level_inner found b g)) (listed (operands_inner found form bs g)) h))
        (λ g h. some_is (looped (operands_inner found form (body_and b bs) g)) (looped (level_inner found b g) ++ looped (operands_inner found form bs g)) (operands_loop form (level_inner found b g) (operands_inner found form bs g)) (some_left (looped (level_inner found b g)) (looped (operands_inner found form bs g)) h))
        n (expand_level chart ends_of a n b) (level_free a n (Some form) b (each_left IsQuiet (levels_from (Some form) b) (operands_levels form bs) q)))
        (all_in (operands_inner found form bs) (operands_inner found form (body_and b bs)) (λ g h. some_is (listed (operands_inner found form (body_and b bs) g)) (listed (level_inner found b g) ++ listed (operands_inner found form bs g)) (operands_gate form (level_inner found b g) (operands_inner found form bs g)) (some_right (listed (level_inner found b g)) (listed (operands_inner found form bs g)) h))
        (λ g h. some_is (looped (operands_inner found form (body_and b bs) g)) (looped (level_inner found b g) ++ looped (operands_inner found form bs g)) (operands_loop form (level_inner found b g) (operands_inner found form bs g)) (some_right (looped (level_inner found b g)) (looped (operands_inner found form bs g)) h))
        (expand_level chart ends_of a n b).next (expand_operands chart ends_of a (expand_level chart ends_of a n b).next bs) (operands_free a (expand_level chart ends_of a n b).next form bs (each_right IsQuiet (levels_from (Some form) b) (operands_levels form bs) q)))

  -- ---- refining charts, and what they leave of a body

  module _ (Of : GateEvents → List InnerEvent) (beside_of : (x : WovenItem) (a b : GateEvents) → Of (beside x a b) ≡ Of a ++ Of b) where
    both_held : (x : WovenItem) (a b c d : GateEvents) → (HasSome (Of a) → HasSome (Of c)) → (HasSome (Of b) → HasSome (Of d)) → HasSome (Of (beside x a b)) → HasSome (Of (beside x c d))
    both_held x a b c d f h i = some_is (Of (beside x c d)) (Of c ++ Of d) (beside_of x c d) (some_both (Of a) (Of b) (Of c) (Of d) f h (some_is (Of a ++ Of b) (Of (beside x a b)) (sym (beside_of x a b)) i))

    held_behind : (x : WovenItem) (c d : GateEvents) → HasSome (Of d) → HasSome (Of (beside x c d))
    held_behind x c d h = some_is (Of (beside x c d)) (Of c ++ Of d) (beside_of x c d) (some_right (Of c) (Of d) h)

    -- the gates of what is left are those of the whole
    module _ (rs : List Refinement) (g : List ℕ) where
      events_held : (ks : List EventNode) → HasSome (Of (events_inner (left_of rs ks) g)) → HasSome (Of (events_inner ks g))
      events_held [] h = h
      events_held (k ∷ ks) h = by (is_decomposed rs k) h (events_held ks)
        where
          by : (b : Bool) → HasSome (Of (events_inner (cond (not b) (k ∷ left_of rs ks) (left_of rs ks)) g)) → (HasSome (Of (events_inner (left_of rs ks) g)) → HasSome (Of (events_inner ks g))) → HasSome (Of (events_inner (k ∷ ks) g))
          by true h f = held_behind (Single k) (event_inner k g) (events_inner ks g) (f h)
          by false h f = both_held (Single k) (event_inner k g) (events_inner (left_of rs ks) g) (event_inner k g) (events_inner ks g) (λ i. i) f h

      items_held : (called : List Call) (xs : WovenItems) → HasSome (Of (items_inner found called (without_decomposed rs xs) g)) → HasSome (Of (items_inner found called xs g))
      items_held called no_items h = h
      items_held called (item_and (Single k) xs) h = by (is_decomposed rs k) h (items_held called xs)
        where
          by : (b : Bool) → HasSome (Of (items_inner found called (if b then without_decomposed rs xs else item_and (Single k) (without_decomposed rs xs)) g))
              → (HasSome (Of (items_inner found called (without_decomposed rs xs) g)) → HasSome (Of (items_inner found called xs g))) → HasSome (Of (items_inner found called (item_and (Single k) xs) g))
          by true h f = held_behind (Single k) (event_inner k g) (items_inner found called xs g) (f h)
          by false h f = both_held (Single k) (event_inner k g) (items_inner found called (without_decomposed rs xs) g) (event_inner k g) (items_inner found called xs g) (λ i. i) f h
      items_held called (item_and (Coregion ks) xs) h = both_held (Coregion ks) (events_inner (left_of rs ks) g) (items_inner found called (without_decomposed rs xs) g) (events_inner ks g) (items_inner found called xs g) (events_held ks) (items_held called xs) h
      items_held called (item_and (Inline form part bs) xs) h =
          let x = Inline form part bs in both_held x (item_inner found called x g) (items_inner found called (without_decomposed rs xs) g) (item_inner found called x g) (items_inner found called xs g) (λ i. i) (items_held called xs) h
      items_held called (item_and (Refer part) xs) h =
          let x = Refer part in both_held x (item_inner found called x g) (items_inner found called (without_decomposed rs xs) g) (item_inner found called x g) (items_inner found called xs g) (λ i. i) (items_held called xs) h

  module _ (rs : List Refinement) where
    called_held : (z g : List ℕ) (xs : WovenItems) → HasSome (looped (inner_of found (without_decomposed rs xs) z g)) → HasSome (looped (inner_of found xs z g))
    called_held z g no_items h = h
    called_held z g (item_and (Single k) xs) h = by (is_decomposed rs k) h (called_held z g xs)
      where
        by : (b : Bool) → HasSome (looped (inner_of found (if b then without_decomposed rs xs else item_and (Single k) (without_decomposed rs xs)) z g))
            → (HasSome (looped (inner_of found (without_decomposed rs xs) z g)) → HasSome (looped (inner_of found xs z g))) → HasSome (looped (inner_of found xs z g))
        by true h f = f h
        by false h f = f h
    called_held z g (item_and (Coregion ks) xs) h = called_held z g xs h
    called_held z g (item_and (Inline form part bs) xs) h =
        let own = looped (inner_of_item found (Inline form part bs) z g) in
        some_both own (looped (inner_of found (without_decomposed rs xs) z g)) own (looped (inner_of found xs z g)) (λ i. i) (called_held z g xs) h
    called_held z g (item_and (Refer part) xs) h =
        let own = looped (inner_of_item found (Refer part) z g) in
        some_both own (looped (inner_of found (without_decomposed rs xs) z g)) own (looped (inner_of found xs z g)) (λ i. i) (called_held z g xs) h

    levels_left : (xs : WovenItems) → items_levels (without_decomposed rs xs) ≡ items_levels xs
    levels_left no_items = refl
    levels_left (item_and (Single k) xs) = by (is_decomposed rs k) (levels_left xs)
      where
        by : (b : Bool) → items_levels (without_decomposed rs xs) ≡ items_levels xs → items_levels (if b then without_decomposed rs xs else item_and (Single k) (without_decomposed rs xs)) ≡ items_levels xs
        by true e = e
        by false e = e
    levels_left (item_and (Coregion ks) xs) = levels_left xs
    levels_left (item_and (Inline form part bs) xs) = ap (λ l. operands_levels form bs ++ l) (levels_left xs)
    levels_left (item_and (Refer part) xs) = levels_left xs

  -- above a refining chart all tags are the level's own
  stands_seen : (F : List ℕ → GateEvents) (ms : List Match) (d : ℕ) (a : Tag) → Among a (stands_for ms d) → OnLevel F a
  stands_seen F [] d a i = elim i [ ]
  stands_seen F (m ∷ ms) d a i = by (m.inner.number == d) i (stands_seen F ms d a)
    where
      by : (b : Bool) → Among a (if b then Own m.event.number ∷ [] else stands_for ms d) → (Among a (stands_for ms d) → OnLevel F a) → OnLevel F a
      by true i f = one_case (OnLevel F) (Own m.event.number) a tt i
      by false i f = f i

  module _ (F G : List ℕ → GateEvents) (ms : List Match) where
    refining_seen : (t : Tag) → OnLevel G t → (a : Tag) → Among a (past_refining ms t) → OnLevel F a
    refining_seen (Own d) h a i = stands_seen F ms d a i
    refining_seen (Via g) h a i = elim i [ ]
    refining_seen (On z g) h a i = elim i [ ]

    refining_loop : (t : Tag) → InLoop G t → (a : Tag) → Among a (past_refining ms t) → InLoop F a
    refining_loop (Own d) h a i = absurd h
    refining_loop (Via g) h a i = elim i [ ]
    refining_loop (On z g) h a i = elim i [ ]

  -- some items of a level, or all, tied as the level
  module _ (held : WovenItems) (pairs : List Pair) where
    abbrev gates_held : List ℕ → GateEvents
    gates_held = items_inner found (calls held) held

    abbrev all_ties : List (Tag × Tag)
    all_ties = ties held pairs (calls held) (ends_of held)

    whole_tied : (n : ℕ) (e : Expanded) → IsFree (OnLevel gates_held) (InLoop gates_held) n e → IsFree (OnLevel gates_held) (InLoop gates_held) n (tied all_ties e)
    whole_tied n e h = tied_free (OnLevel gates_held) (InLoop gates_held) n all_ties e (λ t i. let (u, v) = level_tied held pairs (ends_of held) t i in (no_loop gates_held t.0 u, no_loop gates_held t.1 v)) h

    left_free : (rs : List Refinement) (a : Around) (n : ℕ) → EachLevel IsQuiet (levels_from None (level [] held pairs)) → IsFree (OnLevel gates_held) (InLoop gates_held) n (in_row (expand_items chart ends_of (gates_of held (ends_of held)) a n (without_decomposed rs held)))
    left_free rs a n q =
        let left = without_decomposed rs held in
        let F : List ℕ → GateEvents = items_inner found (calls held) left in
        wider (OnLevel F) (InLoop F) (OnLevel gates_held) (InLoop gates_held) (level_in F gates_held (λ g. items_held listed item_gate rs g (calls held) held)) (loop_in F gates_held (λ g. items_held looped item_loop rs g (calls held) held))
        n (in_row (expand_items chart ends_of (gates_of held (ends_of held)) a n left)) (row_free (OnLevel F) (InLoop F) n (expand_items chart ends_of (gates_of held (ends_of held)) a n left)
        (items_free held q.0 a n left (λ z g. called_held rs z g held) (subst (λ (ls : List BodyLevel). EachLevel IsQuiet ls) (sym (levels_left rs held)) q.1)))

  refinings_free : (F : List ℕ → GateEvents) (far_of : EventNode → Far) (n : ℕ) (rs : List Refining) → AreEachRefining IsQuiet rs → Open F n (expand_refinings chart ends_of far_of n rs)
  refinings_free F far_of n [] q = none_free (OnLevel F) (InLoop F) n
  refinings_free F far_of n (refining (level cover held pairs) ms ∷ rs) (q, qs) =
      let G : List ℕ → GateEvents = items_inner found (calls held) held in
      let row = in_row (expand_items chart ends_of (gates_of held (ends_of held)) (refining_under far_of ms) n held) in
      let whole = tied (ties held pairs (calls held) (ends_of held)) row in
      put_free (OnLevel F) (InLoop F) n (past (past_refining ms) whole) (expand_refinings chart ends_of far_of row.next rs)
      (past_free (OnLevel G) (InLoop G) (OnLevel F) (InLoop F) (past_refining ms) (refining_seen F G ms) (refining_loop F G ms) n whole
      (whole_tied held pairs n row (row_free (OnLevel G) (InLoop G) n (expand_items chart ends_of (gates_of held (ends_of held)) (refining_under far_of ms) n held) (items_free held q.0 (refining_under far_of ms) n held (λ z g h. h) q.1))))
      (refinings_free F far_of row.next rs qs)

  refined_free : (a : Around) (n : ℕ) (cover : List (List ℕ)) (held : WovenItems) (pairs : List Pair) (rs : List Refinement) (refined : List Refining) → EachLevel IsQuiet (levels_from None (level cover held pairs)) → AreEachRefining IsQuiet refined
      → Shut (level_inner found (level cover held pairs)) n (expand_refined chart ends_of a n held pairs rs refined)
  refined_free a n cover held pairs rs refined q qs =
      let F : List ℕ → GateEvents = items_inner found (calls held) held in
      let row = in_row (expand_items chart ends_of (gates_of held (ends_of held)) a n (without_decomposed rs held)) in
      let parts = tree.put row (expand_refinings chart ends_of (far_end (ends_of held) a) row.next refined) in
      past_free (OnLevel F) (InLoop F) (InGate F) (InLoop F) past_level (level_seen F) (level_loop F) n (tied (ties held pairs (calls held) (ends_of held)) (aside parts))
      (whole_tied held pairs n (aside parts) (aside_free (OnLevel F) (InLoop F) n parts
      (put_free (OnLevel F) (InLoop F) n row (expand_refinings chart ends_of (far_end (ends_of held) a) row.next refined) (left_free held pairs rs a n q) (refinings_free F (far_end (ends_of held) a) row.next refined qs))))

-- ---- charts

some_seen : (name : List ℕ) (a : GateEvents) → HasSome (listed a) → HasSome (listed (seen_in name a))
some_seen name no_event h = h
some_seen name (one_event e) h = (in_chart name e, first)
some_seen name (both a b) h = some_both (listed a) (listed b) (listed (seen_in name a)) (listed (seen_in name b)) (some_seen name a) (some_seen name b) h
some_seen name (either a b) h = some_both (listed a) (listed b) (listed (seen_in name a)) (listed (seen_in name b)) (some_seen name a) (some_seen name b) h
some_seen name (in_loop a) h = some_seen name a h

looped_seen : (name : List ℕ) (a : GateEvents) → HasSome (looped a) → HasSome (looped (seen_in name a))
looped_seen name no_event h = h
looped_seen name (one_event e) h = h
looped_seen name (both a b) h = some_both (looped a) (looped b) (looped (seen_in name a)) (looped (seen_in name b)) (looped_seen name a) (looped_seen name b) h
looped_seen name (either a b) h = some_both (looped a) (looped b) (looped (seen_in name a)) (looped (seen_in name b)) (looped_seen name a) (looped_seen name b) h
looped_seen name (in_loop a) h = some_seen name a h

entry_among : (table : Table) (name : List ℕ) (c : ChartEntry) → chart_at table name ≡ Some c → Among c table × (c.name ≡ name)
entry_among [] name c e = absurd cc
entry_among (d ∷ table) name c e = by (bytes_eq d.name name) refl e (entry_among table name c)
  where
    by : (b : Bool) → bytes_eq d.name name ≡ b → (if b then Some d else chart_at table name) ≡ Some c → (chart_at table name ≡ Some c → Among c table × (c.name ≡ name)) → Among c (d ∷ table) × (c.name ≡ name)
    by true q f behind = let same : d ≡ c = cc in (subst (λ (x : ChartEntry). Among c (x ∷ table)) (sym same) first, subst (λ (x : ChartEntry). x.name ≡ name) same ((bytes_eq-Decides d.name name).0 q))
    by false q f behind = let (i, s) = behind f in (later i, s)

module _ (law : EndsAreFound) (table : Table) where
  -- what a chart's body has the chart has
  opened : (k : ℕ) (name : List ℕ) (c : ChartEntry) (b : Body) (g : List ℕ) → chart_at table name ≡ Some c → c.content ≡ Basic b → GoesTo table k name → inner_to table k name g ≡ seen_in name (level_inner (inner_to table k) b g)
  opened k name c b g at is deep =
      let body : body_at table name ≡ Some b = ap body_in at ∙ ap body_in_content is in
      sym (law.same table k (suc k) name g (omega arith) deep) ∙ ap (λ (o : Option Body). body_inner (inner_to table k) name o g) body
    where
      body_in_content : Woven → Option Body
      body_in_content w = body_in (Some (record { name = c.name; decls = c.decls; content = w }))

  module _ (ends_of : WovenItems → List GateEnd) (quiet : IsQuietTable table) where
    nothing_free : (F : List ℕ → GateEvents) (n : ℕ) → Shut F n (in_row (nothing n))
    nothing_free F n = row_free (InGate F) (InLoop F) n (nothing n) (none_free (InGate F) (InLoop F) n)

    refined_quiet : (held : WovenItems) (rs : List Refinement) → AreEachRefining (IsQuietLevel table) (refinings table held rs)
    refined_quiet held [] = tt
    refined_quiet held (r ∷ rs) = entry (chart_at table r.chart) (λ c e. quiet c (entry_among table r.chart c e).0) (refined_quiet held rs)
      where
        content : (c : ChartEntry) (w : Woven) → IsQuietWoven table w → AreEachRefining (IsQuietLevel table) (refinings table held rs)
            → AreEachRefining (IsQuietLevel table) (refining_by r.instance held (body_in (Some (record { name = c.name; decls = c.decls; content = w }))) ++ refinings table held rs)
        content c (Basic (level cover inner pairs)) q qs = (q, qs)
        content c (HighLevel drawn) q qs = qs

        entry : (o : Option ChartEntry) → ((c : ChartEntry) → o ≡ Some c → IsQuietChart table c) → AreEachRefining (IsQuietLevel table) (refinings table held rs) → AreEachRefining (IsQuietLevel table) (refining_by r.instance held (body_in o) ++ refinings table held rs)
        entry None f qs = qs
        entry (Some c) f qs = content c c.content (f c refl).quiet qs

    module _ (depth : ℕ) (name : List ℕ) (gates : GateMap) (n : ℕ) (known : (name : List ℕ) (gates : GateMap) (n : ℕ) → Shut (chart_gates table name) n (expand_charts ends_of table depth name gates n)) where
      -- what a body shows the chart shows
      body_shut : (c : ChartEntry) (b : Body) → chart_at table name ≡ Some c → c.content ≡ Basic b → GoesTo table EXPANDED_NESTING name → (e : Expanded) → Shut (level_inner (chart_gates table) b) n e → Shut (chart_gates table name) n e
      body_shut c b at is deep e h =
          let same : (g : List ℕ) → chart_gates table name g ≡ seen_in name (level_inner (chart_gates table) b g) = λ g. opened EXPANDED_NESTING name c b g at is deep in
          shut_in (level_inner (chart_gates table) b) (chart_gates table name)
          (λ g h. subst (λ (a : GateEvents). HasSome (listed a)) (sym (same g)) (some_seen name (level_inner (chart_gates table) b g) h))
          (λ g h. subst (λ (a : GateEvents). HasSome (looped a)) (sym (same g)) (looped_seen name (level_inner (chart_gates table) b g) h)) n e h

      woven_free : (c : ChartEntry) (rs : List Refinement) (w : Woven) → chart_at table name ≡ Some c → c.content ≡ w → GoesTo table EXPANDED_NESTING name → IsQuietWoven table w
          → Shut (chart_gates table name) n (expand_woven (expand_charts ends_of table depth) ends_of table gates n rs w)
      woven_free c [] (Basic b) at is deep q =
          body_shut c b at is deep (expand_level (expand_charts ends_of table depth) ends_of (under gates) n b) (level_free ends_of (expand_charts ends_of table depth) (chart_gates table) known (under gates) n None b q)
      woven_free c (r ∷ rs) (Basic (level cover held pairs)) at is deep q =
          let refined = refinings table held (r ∷ rs) in
          body_shut c (level cover held pairs) at is deep (expand_refined (expand_charts ends_of table depth) ends_of (refined_under gates pairs refined) n held pairs (r ∷ rs) refined)
          (refined_free ends_of (expand_charts ends_of table depth) (chart_gates table) known (refined_under gates pairs refined) n cover held pairs (r ∷ rs) refined q (refined_quiet held (r ∷ rs)))
      woven_free c [] (HighLevel drawn) at is deep q = graph_free ends_of (expand_charts ends_of table depth) (chart_gates table) known (InGate (chart_gates table name)) (InLoop (chart_gates table name)) n drawn
      woven_free c (r ∷ rs) (HighLevel drawn) at is deep q = graph_free ends_of (expand_charts ends_of table depth) (chart_gates table) known (InGate (chart_gates table name)) (InLoop (chart_gates table name)) n drawn

    charts_free : (depth : ℕ) (name : List ℕ) (gates : GateMap) (n : ℕ) → Shut (chart_gates table name) n (expand_charts ends_of table depth name gates n)
    charts_free zero name gates n = nothing_free (chart_gates table name) n
    charts_free (suc depth) name gates n = entry (charts_free depth) (chart_at table name) (λ c e. (e, entry_among table name c e))
      where
        entry : ((name : List ℕ) (gates : GateMap) (n : ℕ) → Shut (chart_gates table name) n (expand_charts ends_of table depth name gates n)) → (o : Option ChartEntry) → ((c : ChartEntry) → o ≡ Some c → (chart_at table name ≡ Some c) × (Among c table × (c.name ≡ name)))
            → Shut (chart_gates table name) n (expand_entry ends_of table (expand_charts ends_of table depth) gates n o)
        entry known None f = nothing_free (chart_gates table name) n
        entry known (Some c) f =
            let (at, there) = f c refl in
            let is = quiet c there.0 in
            woven_free depth name gates n known c (refinements c.decls) c.content at refl (subst (GoesTo table EXPANDED_NESTING) there.1 is.deep) is.quiet

    pub gate_ties_free : (depth : ℕ) (name : List ℕ) (gates : GateMap) (n : ℕ) → EachTie IsFreeOf (expand_charts ends_of table depth name gates n).part
    gate_ties_free depth name gates n = (charts_free depth name gates n).ties

-- ---- other events with these numbers

module _ (f : NumberedEvent → ExpandedEvent) (keeps : (e : NumberedEvent) → (f e).number ≡ e.number) where
  mutual
    looped_same : (x : Expansion NumberedEvent) → looped_in (map_events f x) ≡ in_loops x
    looped_same (Event e) = refl
    looped_same (InRow xs) = all_looped_same xs
    looped_same (Aside xs) = all_looped_same xs
    looped_same (OneOf xs) = all_looped_same xs
    looped_same (Exception x) = looped_same x
    looped_same (Turns n lower upper x) = mapped_numbers f keeps x
    looped_same (Tied x ps) = looped_same x
    looped_same (Walk n g xs) = mapped_all_numbers f keeps xs

    all_looped_same : (xs : Expansions NumberedEvent) → all_looped_in (map_all_events f xs) ≡ all_in_loops xs
    all_looped_same no_parts = refl
    all_looped_same (part_and x xs) = ap₂ (λ (a b : List ℕ). a ++ b) (looped_same x) (all_looped_same xs)

  mutual
    pub outside_ties : (x : Expansion NumberedEvent) → EachTie IsFreeOf x → EachTie IsOutsideLoops (map_events f x)
    outside_ties (Event e) h = tt
    outside_ties (InRow xs) h = all_outside_ties xs h
    outside_ties (Aside xs) h = all_outside_ties xs h
    outside_ties (OneOf xs) h = all_outside_ties xs h
    outside_ties (Exception x) h = outside_ties x h
    outside_ties (Walk n g xs) h = all_outside_ties xs h
    outside_ties (Turns n lower upper x) h = outside_ties x h
    outside_ties (Tied x ps) (h, i) = ((λ p j. (out p.first (h p j).0, out p.second (h p j).1)), outside_ties x i)
      where
        out : (j : ℕ) → IsFreeOf x j → IsOutsideLoops (map_events f x) j
        out j g k = g (subst (λ (l : List ℕ). Among j l) (looped_same x) k)

    all_outside_ties : (xs : Expansions NumberedEvent) → EachTies IsFreeOf xs → EachTies IsOutsideLoops (map_all_events f xs)
    all_outside_ties no_parts h = tt
    all_outside_ties (part_and x xs) (h, i) = (outside_ties x h, all_outside_ties xs i)
