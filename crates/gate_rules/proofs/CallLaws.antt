-- The calls of a level are those of its callers.
use Rattle.std.proofs.Common.{◌≡◌, ℕ, List, [], ◌∷◌, ◌++◌, Option, None, Some, map, refl, sym, ap, ap₂, ◌∙◌}
use Rattle.std.proofs.lemmas.List.{append_assoc}
use Rattle.std.specs.List.{flat_map}
use Rattle.msc_base.specs.Orders.{Among, first, later}
use Rattle.msc_tree.specs.declared.event.Target.{Target}
use Rattle.msc_tree.specs.declared.event.Target.TheVariants.{Nobody, Env, Instance, Gate}
use Rattle.msc_tree.specs.declared.reference.Join.{Join}
use Rattle.msc_tree.specs.declared.reference.JoinEnd.{JoinEnd}
use Rattle.msc_tree.specs.declared.reference.JoinEnd.TheVariants as join_end
use Rattle.msc_unfolding.specs.Unfoldings.{Tag}
use Rattle.msc_meaning.specs.Bodies.{EventNode, ReferencePart, WovenItems, no_items, item_and, WovenItem, Single, Coregion, Inline, Refer, item_list}
use Rattle.msc_meaning.specs.Calls.{Call, calls, event_calls, events_calls, item_calls, join_calls, joins_calls}
use Rattle.gate_ends.specs.LevelGates.{event_tags, tag_by}
use Rattle.gate_rules.specs.GateRules.{Caller, by_event, by_join, GateName, called, callers, event_caller, events_callers, item_callers}
use Rattle.gate_rules.proofs.TwiceLaws.{caller_tags, from_pieces, into_pieces}

-- the gate that is called
abbrev pub gate_called : Call → GateName
gate_called k = record { name = k.name; gate = k.gate }

-- one of the callers calls the gate
pub record IsCalledBy (k : Call) (cs : List Caller) : Type 0 where
  pub caller : Caller
  pub there : Among caller cs
  pub gate : Among (gate_called k) (called caller)

event_called : (n : EventNode) (t : Target) (k : Call) → Among k (event_calls n t) → IsCalledBy k (event_caller n t)
event_called n (Gate name gate) _ first = record { caller = by_event n name gate; there = first; gate = first }
event_called n (Gate name gate) k (later h) = elim h [ ]
event_called n Nobody k h = elim h [ ]
event_called n (Env gate) k h = elim h [ ]
event_called n (Instance far) k h = elim h [ ]

-- of one item of a list, and of the list
within : {A : Type 0} (f : A → List Caller) (xs : List A) (x : A) (k : Call) → Among x xs → IsCalledBy k (f x) → IsCalledBy k (flat_map f xs)
within f xs x k h by = record { caller = by.caller; there = into_pieces f xs x by.caller h by.there; gate = by.gate }

events_called : (ns : List EventNode) (k : Call) → Among k (events_calls ns) → IsCalledBy k (events_callers ns)
events_called ns k h =
    let (n, i, j) = from_pieces (λ (n : EventNode). event_calls n n.event.target) ns k h in
    within (λ (n : EventNode). event_caller n n.event.target) ns n k i (event_called n n.event.target k j)

join_called : (part : ReferencePart) (j : Join) (own : Option (List ℕ)) (to : JoinEnd) (k : Call) → part.name ≡ own → j.to ≡ to → Among k (join_calls own j.gate to) → Among (gate_called k) (called (by_join part j))
join_called part j own (join_end.Env to) k e f h = elim h [ ]
join_called part j None (join_end.Reference name to) _ e f first = rw (e, f) first
join_called part j None (join_end.Reference name to) k e f (later h) = elim h [ ]
join_called part j (Some own) (join_end.Reference name to) _ e f first = rw (e, f) (later first)
join_called part j (Some own) (join_end.Reference name to) _ e f (later first) = rw (e, f) first
join_called part j (Some own) (join_end.Reference name to) k e f (later (later h)) = elim h [ ]

joins_called : (part : ReferencePart) (js : List Join) (k : Call) → Among k (joins_calls part.name js) → IsCalledBy k (map (by_join part) js)
joins_called part js k h =
    let (j, i, here) = from_pieces (λ (j : Join). join_calls part.name j.gate j.to) js k h in
    record { caller = by_join part j; there = mapped js i; gate = join_called part j part.name j.to k refl refl here }
  where
    mapped : {j : Join} (js : List Join) → Among j js → Among (by_join part j) (map (by_join part) js)
    mapped (x ∷ js) first = first
    mapped (x ∷ js) (later h) = later (mapped js h)
    mapped [] h = elim h [ ]

item_called : (x : WovenItem) (k : Call) → Among k (item_calls x) → IsCalledBy k (item_callers x)
item_called (Single n) k h = event_called n n.event.target k h
item_called (Coregion ns) k h = events_called ns k h
item_called (Inline form part operands) k h = elim h [ ]
item_called (Refer part) k h = joins_called part part.joins k h

pub call_by : (held : WovenItems) (k : Call) → Among k (calls held) → IsCalledBy k (callers held)
call_by held k h =
    let (x, i, j) = from_pieces item_calls (item_list held) k h in
    within item_callers (item_list held) x k i (item_called x k j)

-- ---- the gates that events call

pieces_joined : {A B : Type 0} (f : A → List B) (xs ys : List A) → flat_map f (xs ++ ys) ≡ flat_map f xs ++ flat_map f ys
pieces_joined f [] ys = refl
pieces_joined f (x ∷ xs) ys = ap (λ l. f x ++ l) (pieces_joined f xs ys) ∙ sym (append_assoc (f x) (flat_map f xs) (flat_map f ys))

event_tag : (n : EventNode) (t : Target) → event_tags (event_calls n t) ≡ flat_map caller_tags (event_caller n t)
event_tag n Nobody = refl
event_tag n (Env gate) = refl
event_tag n (Instance far) = refl
event_tag n (Gate name gate) = refl

events_tags : (ns : List EventNode) → event_tags (events_calls ns) ≡ flat_map caller_tags (events_callers ns)
events_tags [] = refl
events_tags (n ∷ ns) =
    pieces_joined (λ (c : Call). tag_by c c.by) (event_calls n n.event.target) (events_calls ns)
    ∙ ap₂ (λ (a b : List Tag). a ++ b) (event_tag n n.event.target) (events_tags ns)
    ∙ sym (pieces_joined caller_tags (event_caller n n.event.target) (events_callers ns))

join_tag : (own : Option (List ℕ)) (gate : List ℕ) (to : JoinEnd) → event_tags (join_calls own gate to) ≡ []
join_tag own gate (join_end.Env to) = refl
join_tag None gate (join_end.Reference name to) = refl
join_tag (Some own) gate (join_end.Reference name to) = refl

joins_tags : (part : ReferencePart) (js : List Join) → event_tags (joins_calls part.name js) ≡ flat_map caller_tags (map (by_join part) js)
joins_tags part [] = refl
joins_tags part (j ∷ js) =
    pieces_joined (λ (c : Call). tag_by c c.by) (join_calls part.name j.gate j.to) (joins_calls part.name js)
    ∙ ap₂ (λ (a b : List Tag). a ++ b) (join_tag part.name j.gate j.to) (joins_tags part js)

item_tags : (x : WovenItem) → event_tags (item_calls x) ≡ flat_map caller_tags (item_callers x)
item_tags (Single n) = event_tag n n.event.target
item_tags (Coregion ns) = events_tags ns
item_tags (Inline form part operands) = refl
item_tags (Refer part) = joins_tags part part.joins

pub tags_by : (held : WovenItems) → event_tags (calls held) ≡ flat_map caller_tags (callers held)
tags_by no_items = refl
tags_by (item_and x xs) =
    pieces_joined (λ (c : Call). tag_by c c.by) (item_calls x) (calls xs)
    ∙ ap₂ (λ (a b : List Tag). a ++ b) (item_tags x) (tags_by xs)
    ∙ sym (pieces_joined caller_tags (item_callers x) (callers xs))
