-- Decomposed instances: which event of a refining chart stands for which event of the instance, and what far ends change by it.
use Rattle.std.specs.Prelude.{ℕ, Bool, true, false, not, filter, List, [], ◌∷◌, ◌++◌, Option, Some, None, ◌&&◌, ◌==◌, if◌then◌else◌, slice_get, option_map, option_and_then}
use Rattle.std.specs.List.{count_by, find, flat_map, list_any}
use Rattle.std.specs.Str.{bytes_eq}
use Rattle.msc_base.specs.declared.label.Far.{Far}
use Rattle.msc_base.specs.declared.label.Far.TheVariants as far
use Rattle.msc_base.specs.declared.label.Kind.{Kind}
use Rattle.msc_base.specs.declared.label.Kind.TheVariants.{Output, Input}
use Rattle.msc_base.specs.declared.label.Pair.{Pair}
use Rattle.msc_unfolding.specs.Unfoldings.{Tag, Own, Via, On, Tie}
use Rattle.msc_tree.specs.declared.event.Target.{Target}
use Rattle.msc_tree.specs.declared.event.Target.TheVariants.{Env}
use Rattle.msc_meaning.specs.Bodies.{EventNode, Body, level, WovenItems, no_items, item_and, Single, Coregion, Inline, Refer, events}
use Rattle.msc_meaning.specs.EventLabels.{text_of}
use Rattle.msc_meaning.specs.Tables.{Table, body_at, Refinement}

-- an event of a decomposed instance, and the event that stands for it
pub record Match : Type 0 where
  pub event : EventNode
  pub inner : EventNode

-- ---- the k-th event with the k-th

abbrev pub same_way : Kind → Kind → Bool
same_way Output Output = true
same_way Input Input = true
same_way _ _ = false

-- they have the same direction and text
abbrev pub is_like : EventNode → EventNode → Bool
is_like e d = same_way e.event.kind d.event.kind && bytes_eq (text_of e) (text_of d)

-- those like it
abbrev pub all_like : EventNode → List EventNode → List EventNode
all_like e ds = filter (is_like e) ds

abbrev pub is_env : Target → Bool
is_env (Env gate) = true
is_env _ = false

-- the events of a refining chart that are written with the environment as their other end
abbrev pub env_events : List EventNode → List EventNode
env_events ds = filter (λ d. is_env d.event.target) ds

-- the events of an instance
abbrev pub events_at : List ℕ → List EventNode → List EventNode
events_at i es = filter (λ e. bytes_eq e.at i) es

abbrev pub match_list : EventNode → Option EventNode → List Match
match_list e None = []
match_list e (Some d) = record { event = e; inner = d } ∷ []

-- of the events behind those that were before, each with the one that has as many like it before it
abbrev pub matches_behind : List EventNode → List EventNode → List EventNode → List Match
matches_behind inner before [] = []
matches_behind inner before (e ∷ es) = match_list e (slice_get (all_like e inner) (count_by (is_like e) before)) ++ matches_behind inner (before ++ e ∷ []) es

-- of a direction and text the k-th event of the instance is matched with the k-th of the refining chart
abbrev pub matches : List ℕ → WovenItems → WovenItems → List Match
matches i held inner = matches_behind (env_events (events inner)) [] (events_at i (events held))

-- ---- refining charts

-- the body of a refining chart, and its matched events
pub data Refining : Type 0 where
  refining : Body → List Match → Refining

abbrev pub refining_by : List ℕ → WovenItems → Option Body → List Refining
refining_by i held None = []
refining_by i held (Some (level cover inner pairs)) = refining (level cover inner pairs) (matches i held inner) ∷ []

-- of each decomposed instance of a level
abbrev pub refinings : Table → WovenItems → List Refinement → List Refining
refinings table held rs = flat_map (λ r. refining_by r.instance held (body_at table r.chart)) rs

abbrev pub all_matches : List Refining → List Match
all_matches [] = []
all_matches (refining body ms ∷ rs) = ms ++ all_matches rs

-- ---- far ends

-- the event that a message pairs with that one
abbrev pub partner : List Pair → ℕ → Option ℕ
partner [] n = None
partner (p ∷ ps) n = if p.first == n then Some p.second else (if p.second == n then Some p.first else partner ps n)

-- the event that stands for the one of that number
abbrev pub standing_for : List Match → ℕ → Option EventNode
standing_for ms n = option_map (λ m. m.inner) (find (λ m. m.event.number == n) ms)

abbrev pub far_by : List Match → Option ℕ → Option Far
far_by ms n = option_map (λ d. far.Instance d.at) (option_and_then (standing_for ms) n)

-- where the partner of an event is matched, the far end is the instance of the event that stands for the partner
abbrev pub refined_far : List Pair → List Match → ℕ → Option Far
refined_far pairs ms n = far_by ms (partner pairs n)

-- an event that stands for another has that one's far end
abbrev pub inner_far : (EventNode → Far) → List Match → ℕ → Option Far
inner_far far_of ms d = option_map (λ m. far_of m.event) (find (λ m. m.inner.number == d) ms)

-- ---- what is left, and tags

abbrev pub is_decomposed : List Refinement → EventNode → Bool
is_decomposed rs n = list_any (λ r. bytes_eq r.instance n.at) rs

abbrev pub left_of : List Refinement → List EventNode → List EventNode
left_of rs ns = filter (λ n. not (is_decomposed rs n)) ns

-- the items without the events of decomposed instances
abbrev pub without_decomposed : List Refinement → WovenItems → WovenItems
without_decomposed rs no_items = no_items
without_decomposed rs (item_and (Single n) xs) = if is_decomposed rs n then without_decomposed rs xs else item_and (Single n) (without_decomposed rs xs)
without_decomposed rs (item_and (Coregion ns) xs) = item_and (Coregion (left_of rs ns)) (without_decomposed rs xs)
without_decomposed rs (item_and (Inline form part operands) xs) = item_and (Inline form part operands) (without_decomposed rs xs)
without_decomposed rs (item_and (Refer part) xs) = item_and (Refer part) (without_decomposed rs xs)

-- the number of the event that one stands for
abbrev pub stands_for : List Match → ℕ → List Tag
stands_for [] d = []
stands_for (m ∷ ms) d = if m.inner.number == d then Own m.event.number ∷ [] else stands_for ms d

-- above a refining chart an event that stands for another has that one's number; no other tag is left
abbrev pub past_refining : List Match → Tag → List Tag
past_refining ms (Own d) = stands_for ms d
past_refining ms (Via g) = []
past_refining ms (On name g) = []

abbrev pub refining_tie : List Match → List (Tag × Tag) → Tie
refining_tie ms pairs = record { pairs = pairs; past = past_refining ms }
