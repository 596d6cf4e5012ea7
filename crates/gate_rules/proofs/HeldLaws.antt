-- The called gates of a level that breaks no rule.
use Rattle.std.proofs.Common.{◌≡◌, ℕ, Bool, true, false, not, ◌||◌, ◌&&◌, List, [], ◌∷◌, ◌++◌, Option, None, Some, inl, inr, refl, sym, ap, ap₂, ◌∙◌, subst}
use Rattle.std.proofs.lemmas.Bool.{and_parts, or_cases, or_parts}
use Rattle.std.proofs.lemmas.Slice.Eq.{bytes_eq-Decides}
use Rattle.std.specs.List.{flat_map, list_all}
use Rattle.std.specs.Str.{bytes_eq}
use Rattle.chart_text.specs.Gathering.{place_if}
use Rattle.list_facts.proofs.Joining.{left_nil, right_nil}
use Rattle.msc_base.specs.declared.label.Kind.{Kind}
use Rattle.msc_base.specs.declared.label.Kind.TheVariants.{Output, Input, OutputLost, InputFound, Action, TimerStart, TimerStop, Timeout, Create}
use Rattle.msc_base.specs.declared.limits.TheConstants.Limits.{EXPANDED_NESTING}
use Rattle.msc_base.specs.declared.place.Place.{Place}
use Rattle.msc_base.specs.Lists.{IsAmong}
use Rattle.msc_base.specs.Orders.{Among, first, later, Once}
use Rattle.msc_tree.specs.declared.reference.InlineForm.{InlineForm}
use Rattle.msc_tree.specs.declared.reference.JoinEnd.{JoinEnd}
use Rattle.msc_tree.specs.declared.reference.JoinEnd.TheVariants as join_end
use Rattle.msc_unfolding.specs.Unfoldings.{Tag}
use Rattle.msc_meaning.specs.Bodies.{EventNode, Body, level, WovenItems, no_items, item_and, WovenItem, Single, Coregion, Inline, Refer, Bodies, no_bodies, body_and}
use Rattle.msc_meaning.specs.BodyLevels.{BodyLevel, EachLevel, body_levels, levels_from, items_levels, item_levels, operands_levels}
use Rattle.msc_meaning.specs.Calls.{Call, calls}
use Rattle.msc_meaning.specs.InnerEvents.{InnerEvent, IsInnerOf}
use Rattle.msc_meaning.specs.MeaningLaws.{end_by}
use Rattle.msc_meaning.specs.Tables.{Table, ChartEntry, Basic}
use Rattle.gate_ends.proofs.FoundEnds.{all_left, all_right}
use Rattle.gate_ends.specs.EndLaws.{EndsAreFound}
use Rattle.gate_ends.specs.FoundEnds.{AreAll, GoesTo, GateEvents, chart_gates, expression_inner, inner_of, item_names, items_names, level_names, listed, looped, operands_names}
use Rattle.gate_ends.specs.LevelGates.{items_in}
use Rattle.gate_tables.specs.GateFacts.{all_inputs, all_outputs, has_other_text, is_among_events, is_input, is_output}
use Rattle.gate_tables.specs.MessageTexts.{text_parts}
use Rattle.gate_rules.specs.declared.faults.GateRule.{GateRule}
use Rattle.gate_rules.specs.declared.faults.GateRule.TheVariants as rule
use Rattle.gate_ends.specs.LevelGates.{event_tags}
use Rattle.gate_rules.specs.GateLaws.{HasGates, LevelsHaveGates}
use Rattle.gate_rules.specs.GateRules.{BreaksGateRule, Caller, by_event, by_join, GateName, again_by, answer, any_called, breaks, broken_at, called, callers, clash, content_places, gates_joined, goes_along, inner_at, is_empty, is_looped, is_split, items_joined_again, joined_ways, joins_nameless, lacks_own, level_places, levels_places, own_gate, place_of, splits, table_places, taken_places}
use Rattle.gate_rules.proofs.CallLaws.{IsCalledBy, call_by, gate_called, tags_by}
use Rattle.gate_rules.proofs.TwiceLaws.{any_none, none_taken, not_noted, tags_once}

-- ---- lists

no_members : (ps : List Place) → ((p : Place) → IsAmong ps p → ⊥) → ps ≡ []
no_members [] h = refl
no_members (p ∷ ps) h = absurd (h p (inl refl))

piece_none : {A B : Type 0} (f : A → List B) (xs : List A) (x : A) → flat_map f xs ≡ [] → Among x xs → f x ≡ []
piece_none f (x ∷ xs) _ h first = left_nil (f x) (flat_map f xs) h
piece_none f (y ∷ xs) x h (later i) = piece_none f xs x (right_nil (f y) (flat_map f xs) h) i
piece_none f [] x h i = elim i [ ]

all_have : (test : InnerEvent → Bool) (es : List InnerEvent) (e : InnerEvent) → list_all test es ≡ true → Among e es → test e ≡ true
all_have test (x ∷ es) _ h first = (and_parts (test x) (list_all test es) h).0
all_have test (x ∷ es) e h (later i) = all_have test es e (and_parts (test x) (list_all test es) h).1 i
all_have test [] e h i = elim i [ ]

not_false : (b : Bool) → not b ≡ false → b ≡ true
not_false true h = refl
not_false false h = sym h

a_first : (es : List InnerEvent) → not (is_among_events es) ≡ false → (e : InnerEvent) × Among e es
a_first (e ∷ es) h = (e, first)
a_first [] h = absurd cc

no_events : (es : List InnerEvent) → is_among_events es ≡ false → es ≡ []
no_events [] h = refl
no_events (e ∷ es) h = absurd cc

-- ---- one instance

at_first : (x e : InnerEvent) (es : List InnerEvent) → splits (x ∷ es) ≡ false → Among e (x ∷ es) → e.node.at ≡ x.node.at
at_first x e es h i = (bytes_eq-Decides e.node.at x.node.at).0 (not_false (bytes_eq e.node.at x.node.at) (any_none (λ (f : InnerEvent). not (bytes_eq f.node.at x.node.at)) (x ∷ es) e h i))

one_place : (es : List InnerEvent) (e f : InnerEvent) → splits es ≡ false → Among e es → Among f es → e.node.at ≡ f.node.at
one_place (x ∷ es) e f h i j = at_first x e es h i ∙ sym (at_first x f es h j)
one_place [] e f h i j = elim i [ ]

-- ---- one kind

record HasKind (es : List InnerEvent) : Type 0 where
  kind : Kind
  each : (e : InnerEvent) → Among e es → e.node.event.kind ≡ kind

one_kind : (es : List InnerEvent) → HasKind es → (e f : InnerEvent) → Among e es → Among f es → e.node.event.kind ≡ f.node.event.kind
one_kind es h e f i j = h.each e i ∙ sym (h.each f j)

input_kind : (k : Kind) → is_input k ≡ true → k ≡ Input
input_kind Input h = refl
input_kind Output h = absurd cc
input_kind OutputLost h = absurd cc
input_kind InputFound h = absurd cc
input_kind Action h = absurd cc
input_kind TimerStart h = absurd cc
input_kind TimerStop h = absurd cc
input_kind Timeout h = absurd cc
input_kind Create h = absurd cc

output_kind : (k : Kind) → is_output k ≡ true → k ≡ Output
output_kind Output h = refl
output_kind Input h = absurd cc
output_kind OutputLost h = absurd cc
output_kind InputFound h = absurd cc
output_kind Action h = absurd cc
output_kind TimerStart h = absurd cc
output_kind TimerStop h = absurd cc
output_kind Timeout h = absurd cc
output_kind Create h = absurd cc

are_inputs : (es : List InnerEvent) → all_inputs es ≡ true → HasKind es
are_inputs es h = record { kind = Input; each = λ e i. input_kind e.node.event.kind (all_have (λ (f : InnerEvent). is_input f.node.event.kind) es e h i) }

are_outputs : (es : List InnerEvent) → all_outputs es ≡ true → HasKind es
are_outputs es h = record { kind = Output; each = λ e i. output_kind e.node.event.kind (all_have (λ (f : InnerEvent). is_output f.node.event.kind) es e h i) }

answering_kind : (k : Kind) (es : List InnerEvent) → answer k es ≡ true → HasKind es
answering_kind Output es h = are_inputs es h
answering_kind Input es h = are_outputs es h
answering_kind OutputLost es h = absurd cc
answering_kind InputFound es h = absurd cc
answering_kind Action es h = absurd cc
answering_kind TimerStart es h = absurd cc
answering_kind TimerStop es h = absurd cc
answering_kind Timeout es h = absurd cc
answering_kind Create es h = absurd cc

along_kind : (n : EventNode) (es : List InnerEvent) → goes_along n es ≡ false → HasKind es
along_kind n [] h = record { kind = Input; each = λ e i. elim i [ ] }
along_kind n (e ∷ es) h = answering_kind n.event.kind (e ∷ es) (not_false (answer n.event.kind (e ∷ es)) (or_parts (not (answer n.event.kind (e ∷ es))) (has_other_text (text_parts n.event) (e ∷ es)) h).0)

clash_kinds : (es fs : List InnerEvent) → not (is_among_events es) ≡ false → not (is_among_events fs) ≡ false → clash es fs ≡ false → HasKind es × HasKind fs
clash_kinds [] fs h i k = absurd cc
clash_kinds (e ∷ es) [] h i k = absurd cc
clash_kinds (e ∷ es) (f ∷ fs) h i k =
    let out_in : Bool = all_outputs (e ∷ es) && all_inputs (f ∷ fs) in
    let in_out : Bool = all_inputs (e ∷ es) && all_outputs (f ∷ fs) in
    let opposed : (out_in || in_out) ≡ true = not_false (out_in || in_out) (or_parts (not (out_in || in_out)) (has_other_text (text_parts e.node.event) (e ∷ es) || has_other_text (text_parts e.node.event) (f ∷ fs)) k).0 in
    elim (or_cases out_in in_out opposed) [
      | inl a ↦ let (x, y) = and_parts (all_outputs (e ∷ es)) (all_inputs (f ∷ fs)) a in (are_outputs (e ∷ es) x, are_inputs (f ∷ fs) y)
      | inr a ↦ let (x, y) = and_parts (all_inputs (e ∷ es)) (all_outputs (f ∷ fs)) a in (are_inputs (e ∷ es) x, are_outputs (f ∷ fs) y)
    ]

module _ (table : Table) (held : WovenItems) where
  joined_kind : (own : Option (List ℕ)) (gate : List ℕ) (to : JoinEnd) → joins_nameless own to ≡ false → ((x : GateName) → Among x (gates_joined (own_gate own gate) to) → is_empty (inner_at table held x) ≡ false)
      → joined_ways table held own gate to ≡ false → (x : GateName) → Among x (gates_joined (own_gate own gate) to) → HasKind (listed (inner_at table held x))
  joined_kind own gate (join_end.Env to) named there ways x h = elim h [ ]
  joined_kind None gate (join_end.Reference name to) named there ways x h = absurd cc
  joined_kind (Some own) gate (join_end.Reference name to) named there ways x h = by x h
    where
      near : GateName
      near = record { name = own; gate = gate }

      far : GateName
      far = record { name = name; gate = to }

      both : HasKind (listed (inner_at table held near)) × HasKind (listed (inner_at table held far))
      both = clash_kinds (listed (inner_at table held near)) (listed (inner_at table held far)) (there near first) (there far (later first)) ways

      by : (x : GateName) → Among x (near ∷ far ∷ []) → HasKind (listed (inner_at table held x))
      by _ first = both.0
      by _ (later first) = both.1
      by x (later (later h)) = elim h [ ]

  -- of a caller that breaks no rule
  called_kind : (c : Caller) → ((r : GateRule) → breaks table held r c ≡ false) → (x : GateName) → Among x (called c) → HasKind (listed (inner_at table held x))
  called_kind (by_event n name gate) kept _ first = along_kind n (listed (inner_at table held (record { name = name; gate = gate }))) (kept rule.GateWays)
  called_kind (by_event n name gate) kept x (later h) = elim h [ ]
  called_kind (by_join part j) kept x h =
      let c : Caller = by_join part j in
      let there : (any_called table held is_empty c ≡ false) × (lacks_own table c ≡ false) = or_parts (any_called table held is_empty c) (lacks_own table c) (kept rule.NoGate) in
      let named : joins_nameless part.name j.to ≡ false = (or_parts (is_empty (expression_inner (chart_gates table) part.expression j.gate)) (joins_nameless part.name j.to) there.1).1 in
      joined_kind part.name j.gate j.to named (λ y i. any_none (λ z. is_empty (inner_at table held z)) (called c) y there.0 i) (kept rule.GateWays) x h

-- ---- a level

module _ (found : EndsAreFound) (table : Table) (held : WovenItems) (kept : (r : GateRule) → broken_at table held r (callers held) ++ again_by r held ≡ []) (named : AreAll (GoesTo table EXPANDED_NESTING) (items_names held)) where
  caller_keeps : (c : Caller) → Among c (callers held) → (r : GateRule) → breaks table held r c ≡ false
  caller_keeps c h r =
      not_noted (breaks table held r c) (place_of c)
      (piece_none (λ (d : Caller). place_if (breaks table held r d) (place_of d)) (callers held) c (left_nil (broken_at table held r (callers held)) (again_by r held) (kept r)) h)

  module _ (k : Call) (h : Among k (calls held)) where
    caller_of : IsCalledBy k (callers held)
    caller_of = call_by held k h

    keeps : (r : GateRule) → breaks table held r caller_of.caller ≡ false
    keeps = caller_keeps caller_of.caller caller_of.there

    gate_keeps : (test : GateEvents → Bool) → any_called table held test caller_of.caller ≡ false → test (inner_of (chart_gates table) held k.name k.gate) ≡ false
    gate_keeps test none = any_none (λ x. test (inner_at table held x)) (called caller_of.caller) (gate_called k) none caller_of.gate

    has_end : (e : InnerEvent) × IsInnerOf table held k.name k.gate e
    has_end =
        let (e, i) = a_first (listed (inner_of (chart_gates table) held k.name k.gate)) (gate_keeps is_empty (or_parts (any_called table held is_empty caller_of.caller) (lacks_own table caller_of.caller) (keeps rule.NoGate)).0) in
        (e, found.only table EXPANDED_NESTING held k.name k.gate e i)

    has_one : (e f : InnerEvent) → IsInnerOf table held k.name k.gate e → IsInnerOf table held k.name k.gate f → end_by k.name k.gate e ≡ end_by k.name k.gate f
    has_one e f a b =
        let es : List InnerEvent = listed (inner_of (chart_gates table) held k.name k.gate) in
        let i : Among e es = found.all table EXPANDED_NESTING held k.name k.gate e named a in
        let j : Among f es = found.all table EXPANDED_NESTING held k.name k.gate f named b in
        ap₂ (λ (at : List ℕ) (kind : Kind). record { name = k.name; gate = k.gate; at = at; kind = kind }) (one_place es e f (gate_keeps is_split (keeps rule.GateSplit)) i j)
        (one_kind es (called_kind table held caller_of.caller keeps (gate_called k) caller_of.gate) e f i j)

    stands_outside : looped (inner_of (chart_gates table) held k.name k.gate) ≡ []
    stands_outside = no_events (looped (inner_of (chart_gates table) held k.name k.gate)) (gate_keeps is_looped (keeps rule.GateOnLoop))

  called_once : Once (event_tags (calls held))
  called_once =
      let none : taken_places (callers held) ≡ [] = left_nil (taken_places (callers held)) (items_joined_again held) (right_nil (broken_at table held rule.GateTwice (callers held)) (again_by rule.GateTwice held) (kept rule.GateTwice)) in
      subst (λ (ts : List Tag). Once ts) (sym (tags_by held)) (tags_once (callers held) (none_taken (callers held) none))

  level_has : HasGates table held
  level_has = record { there = has_end; one = has_one; outside = stands_outside; once = called_once }

-- ---- the levels of a body

each_joined : (P : BodyLevel → Type 0) (ls ms : List BodyLevel) → EachLevel P ls → EachLevel P ms → EachLevel P (ls ++ ms)
each_joined P [] ms h i = i
each_joined P (l ∷ ls) ms (h, hs) i = (h, each_joined P ls ms hs i)

-- what is so of all names of a body is so of those of its levels
module _ (P : List ℕ → Type 0) where
  mutual
    level_so : (form : Option InlineForm) (b : Body) → AreAll P (level_names b) → EachLevel (λ l. AreAll P (items_names (items_in l.body))) (levels_from form b)
    level_so form (level cover held pairs) h = (h, items_so held h)

    items_so : (held : WovenItems) → AreAll P (items_names held) → EachLevel (λ l. AreAll P (items_names (items_in l.body))) (items_levels held)
    items_so no_items h = tt
    items_so (item_and x xs) h =
        each_joined (λ l. AreAll P (items_names (items_in l.body))) (item_levels x) (items_levels xs) (item_so x (all_left P (item_names x) (items_names xs) h)) (items_so xs (all_right P (item_names x) (items_names xs) h))

    item_so : (x : WovenItem) → AreAll P (item_names x) → EachLevel (λ l. AreAll P (items_names (items_in l.body))) (item_levels x)
    item_so (Single n) h = tt
    item_so (Coregion ns) h = tt
    item_so (Inline form part operands) h = operands_so form operands h
    item_so (Refer part) h = tt

    operands_so : (form : InlineForm) (bs : Bodies) → AreAll P (operands_names bs) → EachLevel (λ l. AreAll P (items_names (items_in l.body))) (operands_levels form bs)
    operands_so form no_bodies h = tt
    operands_so form (body_and b bs) h =
        each_joined (λ l. AreAll P (items_names (items_in l.body))) (levels_from (Some form) b) (operands_levels form bs) (level_so (Some form) b (all_left P (level_names b) (operands_names bs) h)) (operands_so form bs (all_right P (level_names b) (operands_names bs) h))

module _ (found : EndsAreFound) (table : Table) where
  body_has : (b : Body) → ((r : GateRule) → level_places table r b ≡ []) → AreAll (GoesTo table EXPANDED_NESTING) (items_names (items_in b)) → HasGates table (items_in b)
  body_has (level cover held pairs) kept named = level_has found table held kept named

  levels_have : (ls : List BodyLevel) → ((r : GateRule) → levels_places table r ls ≡ []) → EachLevel (λ l. AreAll (GoesTo table EXPANDED_NESTING) (items_names (items_in l.body))) ls → EachLevel (λ l. HasGates table (items_in l.body)) ls
  levels_have [] kept named = tt
  levels_have (l ∷ ls) kept (n, ns) = (
    body_has l.body (λ r. left_nil (level_places table r l.body) (levels_places table r ls) (kept r)) n,
    levels_have ls (λ r. right_nil (level_places table r l.body) (levels_places table r ls) (kept r)) ns,
  )

  chart_has : ((r : GateRule) (p : Place) → BreaksGateRule table r p → ⊥) → (c : ChartEntry) → Among c table → (body : Body) → c.content ≡ Basic body
      → AreAll (GoesTo table EXPANDED_NESTING) (level_names body) → EachLevel (λ l. HasGates table (items_in l.body)) (body_levels body)
  chart_has kept c there body is named = levels_have (body_levels body) none (level_so (GoesTo table EXPANDED_NESTING) None body named)
    where
      none : (r : GateRule) → levels_places table r (body_levels body) ≡ []
      none r = sym (ap (content_places table r) is) ∙ piece_none (λ (d : ChartEntry). content_places table r d.content) table c (no_members (table_places table r table) (kept r)) there

pub levels_have_gates : EndsAreFound → LevelsHaveGates
levels_have_gates found = record { have = chart_has found }
