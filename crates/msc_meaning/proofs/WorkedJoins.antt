-- Gates of two references that are joined, and a gate of an inline expression.
use Rattle.std.proofs.Common.{◌≡◌, ◌⊎◌, ℕ, Bool, true, false, List, [], ◌∷◌, Option, Some, None, codes, refl, sym, ap, subst, inl, inr}
use Rattle.std.proofs.lemmas.Option.{same_Some}
use Rattle.std.specs.Str.{bytes_eq}
use Rattle.msc_base.specs.Orders.{first, later}
use Rattle.msc_unfolding.specs.Unfoldings.{Unfolding}
use Rattle.msc_tree.specs.declared.event.Target.{Target}
use Rattle.msc_tree.specs.declared.event.Target.TheVariants.{Env}
use Rattle.msc_tree.specs.Expressions.{Chart}
use Rattle.msc_meaning.specs.Bodies.{Body, level}
use Rattle.msc_meaning.specs.ChartUnfoldings.{gates_of, under, OfItems, OfWoven, OfExpression, of_level, no_item, item_then, single, inline_part, reference, alternative, chart, of_body}
use Rattle.msc_meaning.specs.ChartUnfoldings as unfolds
use Rattle.msc_meaning.specs.FarEnds.{GateMap, no_gates, gates_referred}
use Rattle.msc_meaning.specs.InnerEvents.{InnerEvent, here, in_chart, GateEnd, IsInner, own, inside, passed, this, that, IsInnerOfExpression, of_chart, IsInnerOf, of_inline, of_reference, no_ends, end_and}
use Rattle.msc_meaning.specs.MeaningLaws.{end_by}
use Rattle.msc_meaning.specs.Meanings.{Finished}
use Rattle.msc_meaning.specs.Tables.{Basic}
use Rattle.msc_meaning.specs.WorkedCharts as worked
use Rattle.msc_meaning.specs.WorkedCharts.{g, h, i, k, m, p, q, x}
use Rattle.msc_meaning.specs.WorkedLaws.{across, JoinedGatesUnfold, JoinedGatesConform, InlineGateUnfolds, CallerAloneConforms}
use Rattle.msc_meaning.proofs.Deciding.{not_so}
use Rattle.msc_meaning.proofs.KnownEnds.{one_call, two_calls, level_only, level_either}
use Rattle.msc_meaning.proofs.Showing.{Derived, at_entry, drawn, only_one, only_two, run, in_finished}

abbrev R : List ℕ
R = codes "R"

abbrev S : List ℕ
S = codes "S"

abbrev is_named : List ℕ → Option (List ℕ) → Bool
is_named name None = false
is_named name (Some other) = bytes_eq name other

not_s : Some R ≡ Some S → ⊥
not_s e = not_so (sym (ap (is_named R) e))

not_r : Some S ≡ Some R → ⊥
not_r e = not_so (sym (ap (is_named S) e))

-- ---- two references

in_p : {e : InnerEvent} → IsInnerOfExpression worked.gates_joined (Chart (codes "P")) g e → e.node ≡ worked.gate_out
in_p (of_chart {body = b} {e = f} first e s) = let P : Body → Type 0 = λ x. IsInner worked.gates_joined x g f in inner (subst P (sym (same_Some worked.out_body b e)) s)
  where
    inner : {e : InnerEvent} → IsInner worked.gates_joined worked.out_body g e → e.node ≡ worked.gate_out
    inner (own first e) = refl
    inner (own (later a) e) = elim a [ ]
    inner (inside (later a) c h) = elim a [ ]
    inner (passed (later a) b e h) = elim a [ ]
in_p (of_chart (later a) e s) = elim a [ ]

in_q : {e : InnerEvent} → IsInnerOfExpression worked.gates_joined (Chart (codes "Q")) h e → e.node ≡ worked.gate_in_q
in_q (of_chart {body = b} {e = f} first e s) = let P : Body → Type 0 = λ x. IsInner worked.gates_joined x h f in inner (subst P (sym (same_Some worked.in_body b e)) s)
  where
    inner : {e : InnerEvent} → IsInner worked.gates_joined worked.in_body h e → e.node ≡ worked.gate_in_q
    inner (own first e) = refl
    inner (own (later a) e) = elim a [ ]
    inner (inside (later a) c h) = elim a [ ]
    inner (passed (later a) b e h) = elim a [ ]
in_q (of_chart (later a) e s) = elim a [ ]

of_r : {e : InnerEvent} → IsInnerOf worked.gates_joined worked.joined_items R g e → e.node ≡ worked.gate_out
of_r (of_inline (later (later a)) e s) = elim a [ ]
of_r (of_reference first e s) = in_p s
of_r (of_reference (later first) e s) = absurd (not_r e)
of_r (of_reference (later (later a)) e s) = elim a [ ]

of_s : {e : InnerEvent} → IsInnerOf worked.gates_joined worked.joined_items S h e → e.node ≡ worked.gate_in_q
of_s (of_inline (later (later a)) e s) = elim a [ ]
of_s (of_reference first e s) = absurd (not_s e)
of_s (of_reference (later first) e s) = in_q s
of_s (of_reference (later (later a)) e s) = elim a [ ]

abbrev end_r : IsInnerOf worked.gates_joined worked.joined_items R g (in_chart (codes "P") (here worked.gate_out))
end_r = of_reference first refl (of_chart first refl (own first refl))

abbrev end_s : IsInnerOf worked.gates_joined worked.joined_items S h (in_chart (codes "Q") (here worked.gate_in_q))
end_s = of_reference (later first) refl (of_chart first refl (own first refl))

abbrev joined_ends : List GateEnd
joined_ends = end_by S h (here worked.gate_in_q) ∷ end_by R g (here worked.gate_out) ∷ []

abbrev map_p : GateMap
map_p = gates_referred (gates_of worked.joined_items joined_ends) (Some R) worked.joins_of_r no_gates

abbrev map_q : GateMap
map_q = gates_referred (gates_of worked.joined_items joined_ends) (Some S) [] no_gates

abbrev chart_p : Derived (OfExpression worked.gates_joined map_p (Chart (codes "P")))
chart_p = record { of = _; is = chart refl (of_body (of_level no_ends (item_then single no_item))) }

abbrev chart_q : Derived (OfExpression worked.gates_joined map_q (Chart (codes "Q")))
chart_q = record { of = _; is = chart refl (of_body (of_level no_ends (item_then single no_item))) }

abbrev both : Derived (OfItems worked.gates_joined (gates_of worked.joined_items joined_ends) (under no_gates) worked.joined_items)
both = record { of = _; is = item_then (reference chart_p.is) (item_then (reference chart_q.is) no_item) }

abbrev joined : Derived (Finished worked.gates_joined (codes "A"))
joined = record { of = _; is = record { chart = _; is = refl; unfolds = of_body (of_level (end_and _ end_s (end_and _ end_r no_ends)) both.is) } }

chart_p_only : {v : Unfolding} → OfExpression worked.gates_joined map_p (Chart (codes "P")) v → v ≡ chart_p.of
chart_p_only {v} (chart {entry = c} e s) = only (at_entry worked.gates_joined (codes "P") _ map_p refl c v e s)
  where
    only : {v : Unfolding} → OfWoven worked.gates_joined map_p [] (Basic worked.out_body) v → v ≡ chart_p.of
    only (of_body (of_level no_ends (item_then single no_item))) = refl

chart_q_only : {v : Unfolding} → OfExpression worked.gates_joined map_q (Chart (codes "Q")) v → v ≡ chart_q.of
chart_q_only {v} (chart {entry = c} e s) = only (at_entry worked.gates_joined (codes "Q") _ map_q refl c v e s)
  where
    only : {v : Unfolding} → OfWoven worked.gates_joined map_q [] (Basic worked.in_body) v → v ≡ chart_q.of
    only (of_body (of_level no_ends (item_then single no_item))) = refl

joined_only : (u : Unfolding) → Finished worked.gates_joined (codes "A") u → u ≡ joined.of
joined_only u f = only (in_finished worked.gates_joined (codes "A") _ refl u f)
  where
    in_items : (v : Unfolding) → OfItems worked.gates_joined (gates_of worked.joined_items joined_ends) (under no_gates) worked.joined_items v → v ≡ both.of
    in_items v (item_then (reference y) (item_then (reference z) no_item)) = let e : _ ≡ chart_p.of = chart_p_only y in let f : _ ≡ chart_q.of = chart_q_only z in cc

    only : {u : Unfolding} → OfWoven worked.gates_joined no_gates [] (Basic (level (p ∷ q ∷ []) worked.joined_items [])) u → u ≡ joined.of
    only (of_body y) = level_only worked.gates_joined (under no_gates) (p ∷ q ∷ []) worked.joined_items [] joined_ends
        (two_calls worked.gates_joined worked.joined_items _ _ worked.gate_in_q worked.gate_out (λ e s. of_s s) (λ e s. of_r s)) (end_and _ end_s (end_and _ end_r no_ends)) both.of in_items y

pub joined_gates_unfold : JoinedGatesUnfold
joined_gates_unfold = only_one _ joined joined_only (drawn _ joined.of refl refl)

pub joined_gates_conform : JoinedGatesConform
joined_gates_conform = run joined (0 ∷ 1 ∷ []) refl refl

-- ---- an inline expression

abbrev X : List ℕ
X = codes "X"

abbrev is_gate : Target → Bool
is_gate (Env g) = true
is_gate _ = false

inner_with : {e : InnerEvent} → IsInner worked.gate_of_inline worked.with_gate g e → e.node ≡ worked.inner_in
inner_with (own first e) = refl
inner_with (own (later a) e) = elim a [ ]
inner_with (inside (later a) c h) = elim a [ ]
inner_with (passed (later a) b e h) = elim a [ ]

inner_without : {e : InnerEvent} → IsInner worked.gate_of_inline worked.without_gate g e → ⊥
inner_without (own first e) = not_so (ap is_gate e)
inner_without (own (later a) e) = elim a [ ]
inner_without (inside (later a) c h) = elim a [ ]
inner_without (passed (later a) b e h) = elim a [ ]

of_x : {e : InnerEvent} → IsInnerOf worked.gate_of_inline worked.inline_items X g e → e.node ≡ worked.inner_in
of_x (of_inline (later first) e (this s)) = inner_with s
of_x (of_inline (later first) e (that (this s))) = absurd (inner_without s)
of_x (of_inline (later first) e (that (that s))) = elim s [ ]
of_x (of_inline (later (later a)) e s) = elim a [ ]
of_x (of_reference (later (later a)) e s) = elim a [ ]

abbrev end_x : IsInnerOf worked.gate_of_inline worked.inline_items X g (here worked.inner_in)
end_x = of_inline (later first) refl (this (own first refl))

abbrev inline_ends : List GateEnd
inline_ends = end_by X g (here worked.inner_in) ∷ []

abbrev taken : Derived (OfItems worked.gate_of_inline (gates_of worked.inline_items inline_ends) (under no_gates) worked.inline_items)
taken = record { of = _; is = item_then single (item_then (inline_part (alternative (unfolds.this (of_level no_ends (item_then single no_item))))) no_item) }

abbrev passed_by : Derived (OfItems worked.gate_of_inline (gates_of worked.inline_items inline_ends) (under no_gates) worked.inline_items)
passed_by = record { of = _; is = item_then single (item_then (inline_part (alternative (unfolds.that (unfolds.this (of_level no_ends (item_then single no_item)))))) no_item) }

abbrev both_ends : Derived (Finished worked.gate_of_inline (codes "A"))
both_ends = record { of = _; is = record { chart = _; is = refl; unfolds = of_body (of_level (end_and _ end_x no_ends) taken.is) } }

abbrev one_end : Derived (Finished worked.gate_of_inline (codes "A"))
one_end = record { of = _; is = record { chart = _; is = refl; unfolds = of_body (of_level (end_and _ end_x no_ends) passed_by.is) } }

inline_only : (u : Unfolding) → Finished worked.gate_of_inline (codes "A") u → (u ≡ both_ends.of) ⊎ (u ≡ one_end.of)
inline_only u f = only (in_finished worked.gate_of_inline (codes "A") _ refl u f)
  where
    in_items : (v : Unfolding) → OfItems worked.gate_of_inline (gates_of worked.inline_items inline_ends) (under no_gates) worked.inline_items v → (v ≡ taken.of) ⊎ (v ≡ passed_by.of)
    in_items v (item_then single (item_then (inline_part (alternative (unfolds.this (of_level no_ends (item_then single no_item))))) no_item)) = inl refl
    in_items v (item_then single (item_then (inline_part (alternative (unfolds.that (unfolds.this (of_level no_ends (item_then single no_item)))))) no_item)) = inr refl
    in_items v (item_then single (item_then (inline_part (alternative (unfolds.that (unfolds.that s)))) no_item)) = elim s [ ]

    only : {u : Unfolding} → OfWoven worked.gate_of_inline no_gates [] (Basic (level (i ∷ k ∷ []) worked.inline_items [])) u → (u ≡ both_ends.of) ⊎ (u ≡ one_end.of)
    only (of_body y) = level_either worked.gate_of_inline (under no_gates) (i ∷ k ∷ []) worked.inline_items [] inline_ends
        (one_call worked.gate_of_inline worked.inline_items _ worked.inner_in (λ e s. of_x s)) (end_and _ end_x no_ends) taken.of passed_by.of in_items y

pub inline_gate_unfolds : InlineGateUnfolds
inline_gate_unfolds = only_two across _ both_ends one_end inline_only (drawn across both_ends.of refl refl) (drawn _ one_end.of refl refl)

pub caller_alone_conforms : CallerAloneConforms
caller_alone_conforms = run one_end (1 ∷ 0 ∷ []) refl refl
