-- Gates: of a reference, through two levels, between references, and of an inline expression.
use Rattle.std.proofs.Common.{◌≡◌, ℕ, List, [], ◌∷◌, Some, codes, refl, sym, subst}
use Rattle.std.proofs.lemmas.Option.{same_Some}
use Rattle.msc_base.specs.declared.label.Label.{Label}
use Rattle.msc_base.specs.Orders.{first, later}
use Rattle.msc_unfolding.specs.Unfoldings.{Unfolding}
use Rattle.msc_tree.specs.Expressions.{Chart}
use Rattle.msc_meaning.specs.Bodies.{Body, level}
use Rattle.msc_meaning.specs.ChartUnfoldings.{gates_of, under, OfItems, OfWoven, OfExpression, of_level, no_item, item_then, single, reference, chart, of_body}
use Rattle.msc_meaning.specs.FarEnds.{GateMap, no_gates, gates_referred}
use Rattle.msc_meaning.specs.InnerEvents.{InnerEvent, here, in_chart, GateEnd, IsInner, own, inside, passed, IsInnerOfExpression, of_chart, IsInnerOf, of_inline, of_reference, no_ends, end_and}
use Rattle.msc_meaning.specs.Meanings.{Finished}
use Rattle.msc_meaning.specs.Tables.{Table, Basic}
use Rattle.msc_meaning.specs.WorkedCharts as worked
use Rattle.msc_meaning.specs.WorkedCharts.{g, h, i, k, m, p, q, x}
use Rattle.msc_meaning.specs.WorkedLaws.{across, GateUnfolds, GateConforms, InputAcrossFails, GateAloneUnfolds, GateAloneConforms, GateThroughLevelsUnfolds, GateThroughLevelsConforms, InputThroughLevelsFails}
use Rattle.msc_meaning.specs.WorkedParts.{sent, received}
use Rattle.msc_meaning.specs.MeaningLaws.{end_by}
use Rattle.msc_meaning.proofs.KnownEnds.{one_call, level_only}
use Rattle.msc_meaning.proofs.Showing.{Derived, at_entry, drawn, only_one, run, begins_with, in_finished, refused, by_one}

-- ---- a chart with one gate event

abbrev pub R : List ℕ
R = codes "R"

-- its inner event, in any table
gate_inner : {table : Table} {e : InnerEvent} → IsInner table worked.gate_body g e → e.node ≡ worked.gate_in
gate_inner (own first e) = refl
gate_inner (own (later a) e) = elim a [ ]
gate_inner (inside (later a) c h) = elim a [ ]
gate_inner (passed (later a) b e h) = elim a [ ]

-- ---- a gate of a reference

abbrev gate_end : IsInnerOf worked.gate_of_reference worked.gate_items R g (in_chart (codes "B") (here worked.gate_in))
gate_end = of_reference (later first) refl (of_chart first refl (own first refl))

abbrev gate_ends : List GateEnd
gate_ends = end_by R g (here worked.gate_in) ∷ []

abbrev called_chart : Derived (OfExpression worked.gate_of_reference (gates_referred (gates_of worked.gate_items gate_ends) (Some R) [] no_gates) (Chart (codes "B")))
called_chart = record { of = _; is = chart refl (of_body (of_level no_ends (item_then single no_item))) }

abbrev called_items : Derived (OfItems worked.gate_of_reference (gates_of worked.gate_items gate_ends) (under no_gates) worked.gate_items)
called_items = record { of = _; is = item_then single (item_then (reference called_chart.is) no_item) }

abbrev called : Derived (Finished worked.gate_of_reference (codes "A"))
called = record { of = _; is = record { chart = _; is = refl; unfolds = of_body (of_level (end_and _ gate_end no_ends) called_items.is) } }

in_called : {e : InnerEvent} → IsInnerOfExpression worked.gate_of_reference (Chart (codes "B")) g e → e.node ≡ worked.gate_in
in_called (of_chart {body = b} {e = f} first e h) = let P : Body → Type 0 = λ x. IsInner worked.gate_of_reference x g f in gate_inner (subst P (sym (same_Some worked.gate_body b e)) h)
in_called (of_chart (later a) e h) = elim a [ ]

called_inner : {e : InnerEvent} → IsInnerOf worked.gate_of_reference worked.gate_items R g e → e.node ≡ worked.gate_in
called_inner (of_inline (later (later a)) e h) = elim a [ ]
called_inner (of_reference (later first) e h) = in_called h
called_inner (of_reference (later (later a)) e h) = elim a [ ]

gate_only : (u : Unfolding) → Finished worked.gate_of_reference (codes "A") u → u ≡ called.of
gate_only u f = only (in_finished worked.gate_of_reference (codes "A") _ refl u f)
  where
    body : {o : GateMap} {v w : Unfolding} → OfWoven worked.gate_of_reference o [] (Basic worked.gate_body) v → OfWoven worked.gate_of_reference o [] (Basic worked.gate_body) w → v ≡ w
    body (of_body (of_level no_ends (item_then single no_item))) (of_body (of_level no_ends (item_then single no_item))) = refl

    referred : {o : GateMap} {v w : Unfolding} → OfExpression worked.gate_of_reference o (Chart (codes "B")) v → OfExpression worked.gate_of_reference o (Chart (codes "B")) w → v ≡ w
    referred {o} {v} {w} (chart {entry = c} e s) (chart {entry = d} f t) = body (at_entry worked.gate_of_reference (codes "B") _ o refl c v e s) (at_entry worked.gate_of_reference (codes "B") _ o refl d w f t)

    in_items : (v : Unfolding) → OfItems worked.gate_of_reference (gates_of worked.gate_items gate_ends) (under no_gates) worked.gate_items v → v ≡ called_items.of
    in_items v (item_then single (item_then (reference y) no_item)) = let e : _ ≡ called_chart.of = referred y called_chart.is in cc

    only : {u : Unfolding} → OfWoven worked.gate_of_reference no_gates [] (Basic (level (i ∷ k ∷ []) worked.gate_items [])) u → u ≡ called.of
    only (of_body y) = level_only worked.gate_of_reference (under no_gates) (i ∷ k ∷ []) worked.gate_items [] gate_ends
        (one_call worked.gate_of_reference worked.gate_items _ worked.gate_in (λ e h. called_inner h)) (end_and _ gate_end no_ends) called_items.of in_items y

pub gate_unfolds : GateUnfolds
gate_unfolds = only_one across called gate_only (drawn across called.of refl refl)

pub gate_conforms : GateConforms
gate_conforms = run called (0 ∷ 1 ∷ []) refl refl

abbrev input_alone : List Label
input_alone = received k m i ∷ []

pub input_across_fails : InputAcrossFails
input_across_fails = record {
  begins = begins_with [] (sent i m k ∷ received k m i ∷ []) gate_conforms;
  fails = refused worked.gate_of_reference (codes "A") _ _ input_alone refl refl (by_one input_alone called gate_only refl);
}

-- ---- the chart with the gate, by itself

abbrev alone : Derived (Finished worked.gate_of_reference (codes "B"))
alone = record { of = _; is = record { chart = _; is = refl; unfolds = of_body (of_level no_ends (item_then single no_item)) } }

alone_only : (u : Unfolding) → Finished worked.gate_of_reference (codes "B") u → u ≡ alone.of
alone_only u f = only (in_finished worked.gate_of_reference (codes "B") _ refl u f)
  where
    only : {u : Unfolding} → OfWoven worked.gate_of_reference no_gates [] (Basic worked.gate_body) u → u ≡ alone.of
    only (of_body (of_level no_ends (item_then single no_item))) = refl

pub gate_alone_unfolds : GateAloneUnfolds
gate_alone_unfolds = only_one _ alone alone_only (drawn _ alone.of refl refl)

pub gate_alone_conforms : GateAloneConforms
gate_alone_conforms = run alone (0 ∷ []) refl refl

-- ---- a gate through two levels

-- the inner event of gate g of the chart C, in the expression of S
in_c : {e : InnerEvent} → IsInnerOfExpression worked.gate_through_levels (Chart (codes "C")) g e → e.node ≡ worked.gate_in
in_c (of_chart {body = b} {e = f} first e h) = let P : Body → Type 0 = λ x. IsInner worked.gate_through_levels x g f in gate_inner (subst P (sym (same_Some worked.gate_body b e)) h)
in_c (of_chart (later a) e h) = elim a [ ]

-- of gate h of the chart B it is the same
in_b : {e : InnerEvent} → IsInner worked.gate_through_levels worked.passing_body h e → e.node ≡ worked.gate_in
in_b (own a e) = elim a [ ]
in_b (inside (later a) c s) = elim a [ ]
in_b (passed first first e s) = in_c s
in_b (passed first (later b) e s) = elim b [ ]
in_b (passed (later a) b e s) = elim a [ ]

in_r : {e : InnerEvent} → IsInnerOfExpression worked.gate_through_levels (Chart (codes "B")) h e → e.node ≡ worked.gate_in
in_r (of_chart {body = b} {e = f} first e s) = let P : Body → Type 0 = λ x. IsInner worked.gate_through_levels x h f in in_b (subst P (sym (same_Some worked.passing_body b e)) s)
in_r (of_chart (later a) e s) = elim a [ ]

outer_inner : {e : InnerEvent} → IsInnerOf worked.gate_through_levels worked.outer_items R h e → e.node ≡ worked.gate_in
outer_inner (of_inline (later (later a)) e s) = elim a [ ]
outer_inner (of_reference (later first) e s) = in_r s
outer_inner (of_reference (later (later a)) e s) = elim a [ ]

abbrev outer_end : IsInnerOf worked.gate_through_levels worked.outer_items R h (in_chart (codes "B") (in_chart (codes "C") (here worked.gate_in)))
outer_end = of_reference (later first) refl (of_chart first refl (passed first first refl (of_chart first refl (own first refl))))

abbrev outer_ends : List GateEnd
outer_ends = end_by R h (here worked.gate_in) ∷ []

abbrev outer_map : GateMap
outer_map = gates_referred (gates_of worked.outer_items outer_ends) (Some R) [] no_gates

abbrev inner_map : GateMap
inner_map = gates_referred (gates_of worked.passing_items []) (Some (codes "S")) worked.passing_joins outer_map

abbrev chart_c : Derived (OfExpression worked.gate_through_levels inner_map (Chart (codes "C")))
chart_c = record { of = _; is = chart refl (of_body (of_level no_ends (item_then single no_item))) }

abbrev chart_b : Derived (OfExpression worked.gate_through_levels outer_map (Chart (codes "B")))
chart_b = record { of = _; is = chart refl (of_body (of_level no_ends (item_then (reference chart_c.is) no_item))) }

abbrev outer : Derived (OfItems worked.gate_through_levels (gates_of worked.outer_items outer_ends) (under no_gates) worked.outer_items)
outer = record { of = _; is = item_then single (item_then (reference chart_b.is) no_item) }

abbrev through : Derived (Finished worked.gate_through_levels (codes "A"))
through = record { of = _; is = record { chart = _; is = refl; unfolds = of_body (of_level (end_and _ outer_end no_ends) outer.is) } }

chart_c_only : {v : Unfolding} → OfExpression worked.gate_through_levels inner_map (Chart (codes "C")) v → v ≡ chart_c.of
chart_c_only {v} (chart {entry = c} e s) = only (at_entry worked.gate_through_levels (codes "C") _ inner_map refl c v e s)
  where
    only : {v : Unfolding} → OfWoven worked.gate_through_levels inner_map [] (Basic worked.gate_body) v → v ≡ chart_c.of
    only (of_body (of_level no_ends (item_then single no_item))) = refl

chart_b_only : {v : Unfolding} → OfExpression worked.gate_through_levels outer_map (Chart (codes "B")) v → v ≡ chart_b.of
chart_b_only {v} (chart {entry = c} e s) = only (at_entry worked.gate_through_levels (codes "B") _ outer_map refl c v e s)
  where
    only : {v : Unfolding} → OfWoven worked.gate_through_levels outer_map [] (Basic worked.passing_body) v → v ≡ chart_b.of
    only (of_body (of_level no_ends (item_then (reference y) no_item))) = let e : _ ≡ chart_c.of = chart_c_only y in cc

through_only : (u : Unfolding) → Finished worked.gate_through_levels (codes "A") u → u ≡ through.of
through_only u f = only (in_finished worked.gate_through_levels (codes "A") _ refl u f)
  where
    in_items : (v : Unfolding) → OfItems worked.gate_through_levels (gates_of worked.outer_items outer_ends) (under no_gates) worked.outer_items v → v ≡ outer.of
    in_items v (item_then single (item_then (reference y) no_item)) = let e : _ ≡ chart_b.of = chart_b_only y in cc

    only : {u : Unfolding} → OfWoven worked.gate_through_levels no_gates [] (Basic (level (i ∷ k ∷ []) worked.outer_items [])) u → u ≡ through.of
    only (of_body y) = level_only worked.gate_through_levels (under no_gates) (i ∷ k ∷ []) worked.outer_items [] outer_ends
        (one_call worked.gate_through_levels worked.outer_items _ worked.gate_in (λ e s. outer_inner s)) (end_and _ outer_end no_ends) outer.of in_items y

pub gate_through_levels_unfolds : GateThroughLevelsUnfolds
gate_through_levels_unfolds = only_one across through through_only (drawn across through.of refl refl)

pub gate_through_levels_conforms : GateThroughLevelsConforms
gate_through_levels_conforms = run through (0 ∷ 1 ∷ []) refl refl

pub input_through_levels_fails : InputThroughLevelsFails
input_through_levels_fails = record {
  begins = begins_with [] (sent i m k ∷ received k m i ∷ []) gate_through_levels_conforms;
  fails = refused worked.gate_through_levels (codes "A") _ _ input_alone refl refl (by_one input_alone through through_only refl);
}
