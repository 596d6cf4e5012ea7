-- The certificate of a message holds for its run, and none for its labels the other way round.
use Rattle.std.specs.Prelude.{ℕ, zero, suc, ◌<◌, List, [], ◌∷◌, ◌≡◌, Some, false, slice_get, refl}
use Rattle.std.proofs.Common.{arith, inl, inr}
use Rattle.msc_base.specs.Patterns.{seq, Position, Before, one, join, bind, empty}
use Rattle.chart_term.specs.TermMeanings.{HasPattern, holds_tie, has_join, one_part, has_event}
use Rattle.chart_term.specs.TermPatterns.{HasNoEvent, Shape}
use Rattle.chart_term.specs.Terms.{TermEvent, Event, Join, none, more}
use Rattle.certificates.specs.Certificates.{Certificate, PlacedShape, placed, place_at, label_at, HasEmpty, Shows, shows_empty, shows_event, shows_parts, shows_inner, shows_part, shows_no_part, Holds}
use Rattle.certificates.specs.Examples.{output, input, message, no_nets, events_at, MessageIsCertified}

-- the two events at these places
abbrev sent_at : ℕ → ℕ → PlacedShape
sent_at m n = bind (join seq (one (record { event = output; place = m })) (join seq (one (record { event = input; place = n })) empty)) ((1, 2) ∷ [])

shows_sent : (m n : ℕ) → Shows no_nets message (events_at m n) (sent_at m n)
shows_sent m n = shows_inner (shows_parts (shows_part shows_event (shows_part shows_event shows_no_part)))

holds : Holds no_nets message (0 ∷ 1 ∷ []) (events_at 1 2)
holds = record {
  pattern = sent_at 1 2;
  shows = shows_sent 1 2;
  labelled = labelled;
  once = once;
  every = every;
  forward = forward;
}
  where
    labelled : (i : Position (sent_at 1 2)) → (k : ℕ) × (place_at (sent_at 1 2) i ≡ suc k) × (slice_get (0 ∷ 1 ∷ []) k ≡ Some (label_at (sent_at 1 2) i))
    labelled (inl i) = (0, refl, refl)
    labelled (inr (inl i)) = (1, refl, refl)
    labelled (inr (inr i)) = absurd i

    once : (i j : Position (sent_at 1 2)) → place_at (sent_at 1 2) i ≡ place_at (sent_at 1 2) j → i ≡ j
    once (inl i) (inl j) e = refl
    once (inl i) (inr (inl j)) e = absurd (omega (arith, e))
    once (inr (inl i)) (inl j) e = absurd (omega (arith, e))
    once (inr (inl i)) (inr (inl j)) e = refl
    once (inr (inr i)) j e = absurd i
    once i (inr (inr j)) e = absurd j

    every : (k : ℕ) → k < 2 → (i : Position (sent_at 1 2)) × (place_at (sent_at 1 2) i ≡ suc k)
    every zero h = (inl tt, refl)
    every (suc zero) h = (inr (inl tt), refl)
    every (suc (suc k)) h = absurd (omega (arith, h))

    forward : (i j : Position (sent_at 1 2)) → Before placed (sent_at 1 2) i j → place_at (sent_at 1 2) i < place_at (sent_at 1 2) j
    forward (inl i) (inr (inl j)) b = omega arith
    forward (inl i) (inl j) (inl b) = absurd b
    forward (inl i) (inl j) (inr b) = cc
    forward (inr (inl i)) (inl j) (inl b) = absurd b
    forward (inr (inl i)) (inl j) (inr b) = cc
    forward (inr (inl i)) (inr (inl j)) (inl b) = absurd b
    forward (inr (inl i)) (inr (inl j)) (inr b) = cc
    forward (inr (inr i)) j b = absurd i
    forward i (inr (inr j)) b = absurd j

-- an event has no empty pattern, and so has a message none
event_not_empty : (e : TermEvent) → HasEmpty no_nets (Event e) → ⊥
event_not_empty e h = go h.pattern h.has h.none
  where
    go : (s : Shape) → HasPattern no_nets false (Event e) s → HasNoEvent s → ⊥
    go s has_event n = n

parts_not_empty : HasEmpty no_nets (Join seq (more (Event output) (more (Event input) none))) → ⊥
parts_not_empty h = go h.pattern h.has h.none
  where
    go : (s : Shape) → HasPattern no_nets false (Join seq (more (Event output) (more (Event input) none))) s → HasNoEvent s → ⊥
    go s (has_join (one_part has_event r)) n = n.0

message_not_empty : HasEmpty no_nets message → ⊥
message_not_empty h = go h.pattern h.has h.none
  where
    go : (s : Shape) → HasPattern no_nets false message s → HasNoEvent s → ⊥
    go s (holds_tie {s = t} a) n = parts_not_empty (record { pattern = t; has = a; none = n })

-- so each certificate of it shows the two events at some places
shown : {c : Certificate} {p : PlacedShape} → Shows no_nets message c p → (m : ℕ) × (n : ℕ) × (p ≡ sent_at m n)
shown (shows_empty h) = absurd (message_not_empty h)
shown (shows_inner (shows_empty h)) = absurd (parts_not_empty h)
shown (shows_inner (shows_parts (shows_part (shows_empty h) r))) = absurd (event_not_empty output h)
shown (shows_inner (shows_parts (shows_part (shows_event {n = m}) (shows_part (shows_empty h) r)))) = absurd (event_not_empty input h)
shown (shows_inner (shows_parts (shows_part (shows_event {n = m}) (shows_part (shows_event {n = n}) shows_no_part)))) = (m, n, refl)

-- labels the other way round have the output at the later place
abbrev reversed : List ℕ
reversed = 1 ∷ 0 ∷ []

output_index : (k : ℕ) → slice_get reversed k ≡ Some 0 → k ≡ 1
output_index zero e = cc
output_index (suc zero) e = refl
output_index (suc (suc k)) e = cc

input_index : (k : ℕ) → slice_get reversed k ≡ Some 1 → k ≡ 0
input_index zero e = refl
input_index (suc zero) e = cc
input_index (suc (suc k)) e = cc

wrong : (m n : ℕ) → ((i : Position (sent_at m n)) → (k : ℕ) × (place_at (sent_at m n) i ≡ suc k) × (slice_get reversed k ≡ Some (label_at (sent_at m n) i)))
    → ((i j : Position (sent_at m n)) → Before placed (sent_at m n) i j → place_at (sent_at m n) i < place_at (sent_at m n) j) → ⊥
wrong m n labelled forward =
    let (k, e, f) = labelled (inl tt) in
    let (l, g, i) = labelled (inr (inl tt)) in
    let a = output_index k f in
    let b = input_index l i in
    let c = forward (inl tt) (inr (inl tt)) (inr refl) in
    omega (arith, e, g, a, b, c)

fails : (c : Certificate) → Holds no_nets message reversed c → ⊥
fails c h = let (m, n, e) = shown h.shows in wrong m n (rw e at h.labelled) (rw e at h.forward)

pub message_is_certified : MessageIsCertified
message_is_certified = record { holds = holds; fails = fails }
