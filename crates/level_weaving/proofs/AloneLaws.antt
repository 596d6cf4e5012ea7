-- Events that no pair has are those without partner.
use Rattle.std.proofs.Common.{◌≡◌, ◌⊎◌, ◌↔◌, ◌&&◌, inl, inr, ℕ, ◌<◌, ◌+◌, zero, suc, Bool, true, false, not, List, [], ◌∷◌, Option, Some, None, All, slice_get, slice_set, get_or, replicate, length, drop, map, refl, sym, subst, ap, ◌∙◌, arith}
use Rattle.std.proofs.lemmas.Bool.{and_parts, true≢false, not-true, false_from_ne_true}
use Rattle.std.proofs.lemmas.List.{length-set}
use Rattle.std.proofs.lemmas.Option.{slice_get_within, slice_get-get_or}
use Rattle.msc_base.specs.declared.place.Place.{Place}
use Rattle.column_order.specs.declared.edge.Edge.{Edge}
use Rattle.column_order.specs.Counts.{EdgeLeads}
use Rattle.msc_base.specs.Places.{IsLeast, earliest_if}
use Rattle.msc_base.proofs.Narrowing.{Narrows, narrows_end, narrows_step}
use Rattle.list_facts.proofs.Reading.{drop_read, drop_end}
use Rattle.msc_tree.specs.declared.event.Direction.{Direction}
use Rattle.level_weaving.specs.Alone.{AreTold, HasEnd, IsAlone, is_message}
use Rattle.msc_meaning.specs.Bodies.{EventNode}
use Rattle.level_weaving.specs.EventViews.{event_view}
use Rattle.level_weaving.specs.Marks.{LeadsPairs}
use Rattle.level_weaving.specs.Messages.{IsUnmatched, way}
use Rattle.level_weaving.specs.declared.events.PlacedEvent as code
use Rattle.level_pieces.proofs.LeastLaws.{least_same}

-- ---- telling which numbers pairs have

pub set_told : (told : List Bool) (i p : ℕ) → i < length told → (get_or (slice_set told i true) p false ≡ true) ↔ ((i ≡ p) ⊎ (get_or told p false ≡ true))
set_told [] i p lt = absurd (omega arith)
set_told (t ∷ told) zero zero lt = (λ h. inl refl, λ h. refl)
set_told (t ∷ told) zero (suc p) lt = (λ h. inr h, λ h. elim h [ inl e ↦ absurd (omega arith) | inr g ↦ g ])
set_told (t ∷ told) (suc i) zero lt = (λ h. inr h, λ h. elim h [ inl e ↦ absurd (omega arith) | inr g ↦ g ])
set_told (t ∷ told) (suc i) (suc p) lt =
    let rest = set_told told i p (omega arith) in
    (λ h. elim (rest.0 h) [ inl e ↦ inl (ap suc e) | inr g ↦ inr g ], λ h. rest.1 (elim h [ inl e ↦ inl (omega arith) | inr g ↦ inr g ]))

none_told : (n p : ℕ) → get_or (replicate n false) p false ≡ false
none_told zero p = refl
none_told (suc n) zero = refl
none_told (suc n) (suc p) = none_told n p

pub told_start : (n : ℕ) (told : List Bool) (pairs : List Edge) → told ≡ replicate n false → (p : ℕ) → ((get_or told p false ≡ true) ⊎ HasEnd pairs p) ↔ HasEnd pairs p
told_start n told pairs is p = (
  λ h. elim h [ inl t ↦ absurd (true≢false (sym t ∙ ap (λ (l : List Bool). get_or l p false) is ∙ none_told n p)) | inr e ↦ e ],
  λ e. inr e,
)

-- one pair more
pub told_step : (told : List Bool) (pairs : List Edge) (k : ℕ) (e : Edge) (all : List Edge) → k < length pairs → e ≡ get_or pairs k e → e.from < length told → e.to < length told
    → ((p : ℕ) → ((get_or told p false ≡ true) ⊎ HasEnd (drop k pairs) p) ↔ HasEnd all p)
    → (p : ℕ) → ((get_or (slice_set (slice_set told e.from true) e.to true) p false ≡ true) ⊎ HasEnd (drop (k + 1) pairs) p) ↔ HasEnd all p
told_step told pairs k e all low is from to inv p =
    let split : drop k pairs ≡ e ∷ drop (k + 1) pairs = drop_read pairs k e low is in
    let first = set_told told e.from p from in
    let second = set_told (slice_set told e.from true) e.to p (omega (arith, to, length-set told e.from true)) in
    let whole : ((get_or told p false ≡ true) ⊎ ((e.from ≡ p) ⊎ ((e.to ≡ p) ⊎ HasEnd (drop (k + 1) pairs) p))) ↔ HasEnd all p =
    subst (λ (es : List Edge). ((get_or told p false ≡ true) ⊎ HasEnd es p) ↔ HasEnd all p) split (inv p) in (
      λ h. elim h [
        | inl t ↦ elim (second.0 t) [
          | inl b ↦ whole.0 (inr (inr (inl b)))
          | inr u ↦ elim (first.0 u) [ inl a ↦ whole.0 (inr (inl a)) | inr v ↦ whole.0 (inl v) ]
        ]
        | inr r ↦ whole.0 (inr (inr (inr r)))
      ],
      λ h. elim (whole.1 h) [
        | inl v ↦ inl (second.1 (inr (first.1 (inr v))))
        | inr m ↦ elim m [
          | inl a ↦ inl (second.1 (inr (first.1 (inl a))))
          | inr n ↦ elim n [ inl b ↦ inl (second.1 (inl b)) | inr r ↦ inr r ]
        ]
      ],
    )

pub told_end : (told : List Bool) (pairs : List Edge) (k count : ℕ) → (k < length pairs → ⊥) → length told ≡ count
    → ((p : ℕ) → ((get_or told p false ≡ true) ⊎ HasEnd (drop k pairs) p) ↔ HasEnd pairs p) → AreTold pairs count told
told_end told pairs k count n long inv = record {
  each = long;
  are = λ p.
      let whole : ((get_or told p false ≡ true) ⊎ ⊥) ↔ HasEnd pairs p = subst (λ (es : List Edge). ((get_or told p false ≡ true) ⊎ HasEnd es p) ↔ HasEnd pairs p) (drop_end pairs k n) (inv p) in
      (λ t. whole.0 (inl t), λ h. elim (whole.1 h) [ inl t ↦ t | inr b ↦ absurd b ]);
}

-- ---- the walk

pub alone_step : (all : Place → Type 0) (events : List code.PlacedEvent) (told : List Bool) (i : ℕ) (item : code.PlacedEvent) (flag b : Bool) (best next : Option Place)
    → Narrows all (IsAlone (map event_view (drop i events)) (drop i told)) best → i < length events → item ≡ get_or events i item → i < length told → flag ≡ get_or told i flag
    → b ≡ (is_message (way (event_view item)) && not flag) → next ≡ earliest_if b best item.event.now.place
    → Narrows all (IsAlone (map event_view (drop (i + 1) events)) (drop (i + 1) told)) next
alone_step all events told i item flag b best next k low is short at so made =
    let es : map event_view (drop i events) ≡ event_view item ∷ map event_view (drop (i + 1) events) = ap (map event_view) (drop_read events i item low is) in
    let ts : drop i told ≡ flag ∷ drop (i + 1) told = drop_read told i flag short at in
    let now : Narrows all (IsAlone (event_view item ∷ map event_view (drop (i + 1) events)) (flag ∷ drop (i + 1) told)) best =
    subst (λ (xs : List EventNode). Narrows all (IsAlone xs (flag ∷ drop (i + 1) told)) best) es (subst (λ (fs : List Bool). Narrows all (IsAlone (map event_view (drop i events)) fs) best) ts k) in
    subst (λ (o : Option Place). Narrows all (IsAlone (map event_view (drop (i + 1) events)) (drop (i + 1) told)) o) (sym made)
    (narrows_step all (IsAlone (map event_view (drop (i + 1) events)) (drop (i + 1) told)) best item.event.now.place b ((is_message (way (event_view item)) && not flag) ≡ true) now (λ t. sym so ∙ t) (λ t. so ∙ t))

pub alone_end : (all : Place → Type 0) (events : List code.PlacedEvent) (told : List Bool) (i : ℕ) (best : Option Place) → Narrows all (IsAlone (map event_view (drop i events)) (drop i told)) best
    → (i < length events → ⊥) → IsLeast all best
alone_end all events told i best k n =
    narrows_end all (IsAlone (map event_view (drop i events)) (drop i told)) best k
    (λ q h. subst (λ (xs : List code.PlacedEvent). IsAlone (map event_view xs) (drop i told) q) (drop_end events i n) h)

-- ---- alone and unmatched

record IsAt (events : List EventNode) (told : List Bool) (place : Place) : Type 0 where
  pub number : ℕ
  pub event : EventNode
  pub event_at : slice_get events number ≡ Some event
  pub message : is_message (way event) ≡ true
  pub untold : get_or told number false ≡ false
  pub there : event.event.place ≡ place

found : (events : List EventNode) (told : List Bool) (q : Place) → IsAlone events told q → IsAt events told q
found [] told q h = absurd h
found (e ∷ events) [] q h = absurd h
found (e ∷ events) (t ∷ told) q (inl h) =
    let both = and_parts (is_message (way e)) (not t) h.1 in
    record { number = zero; event = e; event_at = refl; message = both.0; untold = not-true t both.1; there = h.0 }
found (e ∷ events) (t ∷ told) q (inr h) =
    let r = found events told q h in
    record { number = suc r.number; event = r.event; event_at = r.event_at; message = r.message; untold = r.untold; there = r.there }

alone_at : (events : List EventNode) (told : List Bool) (i : ℕ) (e : EventNode) → length told ≡ length events → slice_get events i ≡ Some e → is_message (way e) ≡ true → get_or told i false ≡ false → IsAlone events told e.event.place
alone_at [] told i e long at m u = cc
alone_at (d ∷ events) [] i e long at m u = absurd (omega arith)
alone_at (d ∷ events) (t ∷ told) zero e long at m u =
    let same : d ≡ e = cc in
    let message : is_message (way d) ≡ true = ap (λ (x : EventNode). is_message (way x)) same ∙ m in
    inl (ap (λ (x : EventNode). x.event.place) same, ap (λ (b : Bool). b && not t) message ∙ ap not u)
alone_at (d ∷ events) (t ∷ told) (suc i) e long at m u = inr (alone_at events told i e (omega arith) at m u)

end_left : (pairs : List Edge) (p q : ℕ) → EdgeLeads pairs p q → HasEnd pairs p
end_left [] p q h = absurd h
end_left (e ∷ pairs) p q (inl h) = inl h.0
end_left (e ∷ pairs) p q (inr h) = inr (inr (end_left pairs p q h))

end_right : (pairs : List Edge) (p q : ℕ) → EdgeLeads pairs p q → HasEnd pairs q
end_right [] p q h = absurd h
end_right (e ∷ pairs) p q (inl h) = inr (inl h.1)
end_right (e ∷ pairs) p q (inr h) = inr (inr (end_right pairs p q h))

end_of : (pairs : List Edge) (p : ℕ) → HasEnd pairs p → (q : ℕ) × (EdgeLeads pairs p q ⊎ EdgeLeads pairs q p)
end_of [] p h = absurd h
end_of (e ∷ pairs) p (inl h) = (e.to, inl (inl (h, refl)))
end_of (e ∷ pairs) p (inr (inl h)) = (e.from, inr (inl (refl, h)))
end_of (e ∷ pairs) p (inr (inr h)) = let r = end_of pairs p h in (r.0, elim r.1 [ inl l ↦ inl (inr l) | inr l ↦ inr (inr l) ])

message_of : (w : Option Direction) → is_message w ≡ true → (b : Direction) × (w ≡ Some b)
message_of None h = absurd (true≢false (sym h))
message_of (Some b) h = (b, refl)

pub alone_unmatched : (events : List EventNode) (pairs : List Edge) (told : List Bool) → LeadsPairs events pairs → AreTold pairs (length events) told → (q : Place) → IsAlone events told q → IsUnmatched events q
alone_unmatched events pairs told leads are q h =
    let a = found events told q h in
    let w = message_of (way a.event) a.message in
    let no_end : HasEnd pairs a.number → ⊥ = λ e. true≢false (sym ((are.are a.number).1 e) ∙ a.untold) in
    record {
      number = a.number;
      event = a.event;
      direction = w.0;
      event_at = a.event_at;
      message = w.1;
      alone = λ r m. elim m [ inl l ↦ no_end (end_left pairs a.number r ((leads a.number r).1 l)) | inr l ↦ no_end (end_right pairs r a.number ((leads r a.number).1 l)) ];
      there = a.there;
    }

is_message_so : (w : Option Direction) (b : Direction) → w ≡ Some b → is_message w ≡ true
is_message_so w b e = ap is_message e

pub unmatched_alone : (events : List EventNode) (pairs : List Edge) (told : List Bool) → LeadsPairs events pairs → AreTold pairs (length events) told → (q : Place) → IsUnmatched events q → IsAlone events told q
unmatched_alone events pairs told leads are q u =
    let untold : get_or told u.number false ≡ false = false_from_ne_true (get_or told u.number false) (λ t.
    let e = end_of pairs u.number ((are.are u.number).0 t) in
    u.alone e.0 (elim e.1 [ inl l ↦ inl ((leads u.number e.0).0 l) | inr l ↦ inr ((leads e.0 u.number).0 l) ])) in
    subst (IsAlone events told) u.there (alone_at events told u.number u.event are.each u.event_at (is_message_so (way u.event) u.direction u.message) untold)

pub least_unmatched : (events : List EventNode) (pairs : List Edge) (told : List Bool) (best : Option Place) → LeadsPairs events pairs → AreTold pairs (length events) told → IsLeast (IsAlone events told) best → IsLeast (IsUnmatched events) best
least_unmatched events pairs told best leads are k =
    least_same (IsAlone events told) (IsUnmatched events) best (alone_unmatched events pairs told leads are) (unmatched_alone events pairs told leads are) k

leads_at : (pairs : List Edge) (k : ℕ) (e : Edge) → slice_get pairs k ≡ Some e → EdgeLeads pairs e.from e.to
leads_at [] k e is = cc
leads_at (d ∷ pairs) zero e is = let same : d ≡ e = cc in inl (ap (λ (x : Edge). x.from) same, ap (λ (x : Edge). x.to) same)
leads_at (d ∷ pairs) (suc k) e is = inr (leads_at pairs k e is)

-- the ends of the pairs are events
pub pairs_within : (events : List EventNode) (pairs : List Edge) (count : ℕ) → length events ≡ count → LeadsPairs events pairs → All (λ (e : Edge). (e.from < count) × (e.to < count)) pairs
pairs_within events pairs count long h = λ k d lt.
    let e = get_or pairs k d in
    let pair = (h e.from e.to).0 (leads_at pairs k e (slice_get-get_or pairs k d lt)) in
    (omega (arith, slice_get_within events e.from pair.output pair.output_at, long), omega (arith, slice_get_within events e.to pair.input pair.input_at, long))
