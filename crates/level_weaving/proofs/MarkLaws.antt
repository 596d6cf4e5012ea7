-- What is so of the marks is so of their events.
use Rattle.std.proofs.Common.{◌≡◌, ℕ, ◌<◌, ◌+◌, List, [], ◌∷◌, ◌++◌, map, Option, Some, None, slice_get, take, length, Bool, true, zero, suc, refl, sym, ap, ap₂, ◌∙◌, subst, if◌then◌else◌, ◌&&◌, get_or, Bor}
use Rattle.std.specs.List.{position, count_by}
use Rattle.std.proofs.lemmas.List.{take_more, map_push}
use Rattle.std.proofs.lemmas.Option.{slice_get_within}
use Rattle.level_weaving.specs.declared.events.PlacedEvent as code
use Rattle.msc_meaning.specs.Bodies.{EventNode}
use Rattle.level_weaving.specs.EventViews.{event_view}
use Rattle.level_weaving.specs.declared.matching.Mark.{Mark}
use Rattle.level_weaving.specs.declared.matching.MessageKey.{MessageKey}
use Rattle.level_weaving.specs.contracts.matching.MessageKeyPartialEq.TheImpl.{eq-value}
use Rattle.msc_tree.specs.declared.event.Direction.{Direction}
use Rattle.msc_meaning.specs.Pairing.{Key}
use Rattle.level_weaving.specs.Messages.{way, key_of, is_key, goes, ends_of}
use Rattle.level_weaving.specs.Marks.{IsMark, AreMarks, KeepsNumbers, key_view, is_end}
use Rattle.level_weaving.proofs.Counts.{count_cons}
use Rattle.level_weaving.proofs.Keys.{same_test, key_same}
use Rattle.level_pieces.proofs.Positions.{position_map, position_passes}

-- two keys are the same where their plain keys are
pub same_key : (a b : MessageKey) → is_key (key_view a) (key_view b) ≡ eq-value.it a b
same_key a b = by a.pairing b.pairing
  where
    by : (x y : Option (Bor (List ℕ))) → is_key (key_view (record { sender = a.sender; receiver = a.receiver; text = a.text; pairing = x })) (key_view (record { sender = b.sender; receiver = b.receiver; text = b.text; pairing = y }))
        ≡ eq-value.it (record { sender = a.sender; receiver = a.receiver; text = a.text; pairing = x }) (record { sender = b.sender; receiver = b.receiver; text = b.text; pairing = y })
    by None None = refl
    by None (Some w) = refl
    by (Some v) None = refl
    by (Some v) (Some w) = refl

-- a known key keeps its number
mark_kept : (old new : List Key) (e : EventNode) (m : Option Mark) → KeepsNumbers old new → IsMark old e m → IsMark new e m
mark_kept old new e None keeps h = h
mark_kept old new e (Some m) keeps h = (h.0, keeps (key_of e) m.class h.1)

marks_kept : (old new : List Key) (es : List EventNode) (ms : List (Option Mark)) → KeepsNumbers old new → AreMarks old es ms → AreMarks new es ms
marks_kept old new [] [] keeps h = h
marks_kept old new [] (m ∷ ms) keeps h = h
marks_kept old new (e ∷ es) [] keeps h = h
marks_kept old new (e ∷ es) (m ∷ ms) keeps h = (mark_kept old new e m keeps h.0, marks_kept old new es ms keeps h.1)

marks_snoc : (keys : List Key) (es : List EventNode) (ms : List (Option Mark)) (e : EventNode) (m : Option Mark) → AreMarks keys es ms → IsMark keys e m → AreMarks keys (es ++ e ∷ []) (ms ++ m ∷ [])
marks_snoc keys [] [] e m h is = (is, h)
marks_snoc keys [] (n ∷ ms) e m h is = absurd h
marks_snoc keys (k ∷ es) [] e m h is = absurd h
marks_snoc keys (k ∷ es) (n ∷ ms) e m h is = (h.0, marks_snoc keys es ms e m h.1 is)

-- one more event, and the marks so far
pub marks_more : (old new : List Key) (list : List code.PlacedEvent) (i : ℕ) (e : code.PlacedEvent) (ms after : List (Option Mark)) (m : Option Mark) → i < length list → e ≡ get_or list i e
    → KeepsNumbers old new → AreMarks old (map event_view (take i list)) ms → IsMark new (event_view e) m → after ≡ ms ++ m ∷ [] → AreMarks new (map event_view (take (i + 1) list)) after
marks_more old new list i e ms after m lt at keeps h is same =
    let more : map event_view (take (i + 1) list) ≡ map event_view (take i list) ++ event_view e ∷ [] =
    ap (map event_view) (take_more list i e lt ∙ ap (λ (x : code.PlacedEvent). take i list ++ x ∷ []) (sym at)) ∙ map_push event_view (take i list) e in
    subst (λ (xs : List (Option Mark)). AreMarks new (map event_view (take (i + 1) list)) xs) (sym same)
    (subst (λ (es : List EventNode). AreMarks new es (ms ++ m ∷ [])) (sym more)
    (marks_snoc new (map event_view (take i list)) ms (event_view e) m (marks_kept old new (map event_view (take i list)) ms keeps h) is))

-- the number of a key that was inserted
pub inserted_number : (keys : List MessageKey) (key : MessageKey) (k : Key) (class : ℕ) → key_view key ≡ k → position (eq-value.it key) keys ≡ Some class
    → position (is_key k) (map key_view keys) ≡ Some class
inserted_number keys key k class same at =
    subst (λ (x : Key). position (is_key x) (map key_view keys) ≡ Some class) same
    (position_map key_view (is_key (key_view key)) (eq-value.it key) (same_key key) keys ∙ at)

pub passes_itself : (key : MessageKey) → eq-value.it key key ≡ true
passes_itself key = sym (same_key key key) ∙ key_same (key_view key)

-- the mark at a place, and the event
pub mark_at : (keys : List Key) (es : List EventNode) (ms : List (Option Mark)) (i : ℕ) (e : EventNode) → AreMarks keys es ms → slice_get es i ≡ Some e
    → (m : Option Mark) × (slice_get ms i ≡ Some m) × IsMark keys e m
mark_at keys [] ms i e h at = cc
mark_at keys (k ∷ es) [] i e h at = absurd h
mark_at keys (k ∷ es) (m ∷ ms) zero e h at = let is : k ≡ e = cc in (m, refl, subst (λ (x : EventNode). IsMark keys x m) is h.0)
mark_at keys (k ∷ es) (m ∷ ms) (suc i) e h at = mark_at keys es ms i e h.1 at

pub event_at : (keys : List Key) (es : List EventNode) (ms : List (Option Mark)) (i : ℕ) (m : Option Mark) → AreMarks keys es ms → slice_get ms i ≡ Some m
    → (e : EventNode) × (slice_get es i ≡ Some e) × IsMark keys e m
event_at keys es [] i m h at = cc
event_at keys [] (k ∷ ms) i m h at = absurd h
event_at keys (e ∷ es) (k ∷ ms) zero m h at = let is : k ≡ m = cc in (e, refl, subst (λ (x : Option Mark). IsMark keys e x) is h.0)
event_at keys (e ∷ es) (k ∷ ms) (suc i) m h at = event_at keys es ms i m h.1 at

-- the test of an event is that of its mark
tested : (keys : List Key) (b : Direction) (k : Key) (c : ℕ) (e : EventNode) (m : Option Mark) → position (is_key k) keys ≡ Some c → IsMark keys e m
    → (goes b (way e) && is_key k (key_of e)) ≡ is_end c b m
tested keys b k c e None at h = ap (λ w. goes b w && is_key k (key_of e)) h
tested keys b k c e (Some m) at h = ap₂ (λ (x y : Bool). x && y) (ap (goes b) h.0) (same_test keys k (key_of e) c m.class at h.1)

pub counted : (keys : List Key) (b : Direction) (k : Key) (c : ℕ) (n : ℕ) (es : List EventNode) (ms : List (Option Mark)) → position (is_key k) keys ≡ Some c
    → AreMarks keys es ms → ends_of b k (take n es) ≡ count_by (is_end c b) (take n ms)
counted keys b k c zero es ms at h = refl
counted keys b k c (suc n) [] [] at h = refl
counted keys b k c (suc n) [] (m ∷ ms) at h = absurd h
counted keys b k c (suc n) (e ∷ es) [] at h = absurd h
counted keys b k c (suc n) (e ∷ es) (m ∷ ms) at h =
    count_cons (λ x. goes b (way x) && is_key k (key_of x)) e (take n es)
    ∙ ap₂ (λ (t : Bool) (x : ℕ). (if t then 1 else 0) + x) (tested keys b k c e m at h.0) (counted keys b k c n es ms at h.1)
    ∙ sym (count_cons (is_end c b) m (take n ms))

-- each class is one of the keys
pub class_low : (keys : List Key) (es : List EventNode) (ms : List (Option Mark)) (i : ℕ) (m : Mark) → AreMarks keys es ms → slice_get ms i ≡ Some (Some m) → m.class < length keys
class_low keys es ms i m h at =
    let e = event_at keys es ms i (Some m) h at in
    let found = position_passes (is_key (key_of e.0)) keys m.class e.2.1 in
    slice_get_within keys m.class found.0 found.1
