-- Counts and placed events when one more event comes.
use Rattle.std.proofs.Common.{◌≡◌, ◌∙◌, ◌&&◌, ◌+◌, inl, inr, ℕ, zero, suc, Bool, true, false, if◌then◌else◌, List, [], ◌∷◌, ◌++◌, Option, None, Some, refl, sym, ap, ap₂, arith, filter, length, nat_eq, slice_get, append-nil}
use Rattle.std.specs.List.{count_by}
use Rattle.std.specs.Map.{lookup}
use Rattle.std.specs.Option.{unwrap_or}
use Rattle.indexmap.specs.IndexMap.{insert_entry}
use Rattle.refined_events.proofs.MapLaws.{put_in}
use Rattle.std.proofs.lemmas.Bool.{cases_eq, eq-eqb, ne_eqb}
use Rattle.std.proofs.lemmas.List.Elements.{filter-append}
use Rattle.std.proofs.lemmas.List.Sums.{length-filter, sum_by-append}
use Rattle.std.specs.Borrow.{Bor}
use Rattle.std.specs.Prelude.{option_map}
use Rattle.std.proofs.lemmas.Bool.{and_parts}
use Rattle.std.proofs.lemmas.Bool.Decides.{Decides-eqb}
use Rattle.msc_meaning.specs.Bodies.{EventNode}
use Rattle.msc_meaning.specs.Views.{node_view}
use Rattle.msc_meaning.specs.declared.body.EventNode as code
use Rattle.refined_events.specs.Keys.{IsKeyOf, Key, is_of, is_same_key, key_view}
use Rattle.refined_events.specs.Sorted.{AreCounts, AreSorted, IsPlaced, count_of, is_place, placed_at}
use Rattle.refined_events.specs.declared.counts.Counts.{Counts}
use Rattle.refined_events.specs.declared.keys.EventKey.{EventKey}
use Rattle.refined_events.specs.declared.placed.PlaceKey.{PlaceKey}
use Rattle.refined_events.specs.declared.placed.PlacedEvents.{PlacedEvents}
use Rattle.refined_events.proofs.KeyLaws.{key_itself, keys_same, of_key, of_none}

module _ {X : Type 0} (p : X → Bool) where
  pub count_snoc : (xs : List X) (x : X) → count_by p (xs ++ x ∷ []) ≡ count_by p xs + (if p x then 1 else 0)
  count_snoc xs x = sum_by-append (λ y. if p y then 1 else 0) xs (x ∷ []) ∙ ap (λ (n : ℕ). count_by p xs + n) (omega arith)

  end_at : (xs : List X) (x : X) → slice_get (xs ++ x ∷ []) (length xs) ≡ Some x
  end_at [] x = refl
  end_at (y ∷ xs) x = end_at xs x

  other_at : (xs : List X) (x : X) (n : ℕ) → (n ≡ length xs → ⊥) → slice_get (xs ++ x ∷ []) n ≡ slice_get xs n
  other_at [] x zero h = absurd (h refl)
  other_at [] x (suc n) h = refl
  other_at (y ∷ xs) x zero h = refl
  other_at (y ∷ xs) x (suc n) h = other_at xs x n (λ e. h (ap suc e))

  -- one more stands at the end
  at_snoc : (xs : List X) (x : X) (n : ℕ) → slice_get (xs ++ x ∷ []) n ≡ (if nat_eq n (length xs) then Some x else slice_get xs n)
  at_snoc xs x n = elim (cases_eq n (length xs)) [
    | inl is ↦ ap (slice_get (xs ++ x ∷ [])) is ∙ end_at xs x ∙ ap (λ (b : Bool). if b then Some x else slice_get xs n) (sym (eq-eqb n (length xs) is))
    | inr ne ↦ other_at xs x n ne ∙ ap (λ (b : Bool). if b then Some x else slice_get xs n) (sym (ne_eqb n (length xs) ne))
  ]

  passed_snoc : (xs : List X) (x : X) (n : ℕ) → slice_get (filter p (xs ++ x ∷ [])) n ≡ (if p x && nat_eq n (count_by p xs) then Some x else slice_get (filter p xs) n)
  passed_snoc xs x n = ap (λ (l : List X). slice_get l n) (filter-append p xs (x ∷ [])) ∙ by (p x)
    where
      by : (b : Bool) → slice_get (filter p xs ++ (if b then x ∷ [] else [])) n ≡ (if b && nat_eq n (count_by p xs) then Some x else slice_get (filter p xs) n)
      by true = at_snoc (filter p xs) x n ∙ ap (λ (m : ℕ). if nat_eq n m then Some x else slice_get (filter p xs) n) (length-filter p xs)
      by false = ap (λ (l : List X). slice_get l n) (append-nil (filter p xs))

-- ---- counts

pub counted_none : (es : List EventNode) (e : EventNode) (c : Counts) → IsKeyOf e None → AreCounts es c → AreCounts (es ++ e ∷ []) c
counted_none es e c none h k = let same : ◌≡◌ {A = ℕ} (if is_of k e then 1 else 0) 0 = ap (λ (b : Bool). if b then 1 else 0) (of_none k e none) in omega (arith, h k, count_snoc (is_of k) es e, same)

pub counted_key : (es : List EventNode) (e : EventNode) (key : EventKey) (old new : Counts) → IsKeyOf e (Some key) → AreCounts es old
    → ((k : Key) → count_of new k ≡ (if is_same_key k (key_view key) then 1 else 0) + count_of old k) → AreCounts (es ++ e ∷ []) new
counted_key es e key old new is h grows k =
    let same : ◌≡◌ {A = ℕ} (if is_of k e then 1 else 0) (if is_same_key k (key_view key) then 1 else 0) = ap (λ (b : Bool). if b then 1 else 0) (of_key k e key is) in
    omega (arith, h k, grows k, count_snoc (is_of k) es e, same)

-- ---- placed events

pub sorted_none : (ds : List EventNode) (d : EventNode) (p : PlacedEvents) → IsKeyOf d None → AreSorted ds p → AreSorted (ds ++ d ∷ []) p
sorted_none ds d p none h = record {
  counts = counted_none ds d p.counts none h.counts;
  placed = λ k n. h.placed k n ∙ sym (passed_snoc (is_of k) ds d n ∙ ap (λ (b : Bool). if b && nat_eq n (count_by (is_of k) ds) then Some d else slice_get (filter (is_of k) ds) n) (of_none k d none));
}

pub sorted_key : (ds : List EventNode) (d : EventNode) (key : EventKey) (old new : PlacedEvents) → IsKeyOf d (Some key) → IsPlaced old (key_view key) d new → AreSorted ds old → AreSorted (ds ++ d ∷ []) new
sorted_key ds d key old new is put h = record {
  counts = counted_key ds d key old.counts new.counts is h.counts put.counts;
  placed = λ k n. put.placed k n ∙ by (is_same_key k (key_view key)) k n (of_key k d key is) refl;
}
  where
    by : (b : Bool) (k : Key) (n : ℕ) → is_of k d ≡ is_same_key k (key_view key) → is_same_key k (key_view key) ≡ b
        → (if is_same_key k (key_view key) && nat_eq n (count_of old.counts (key_view key)) then Some d else placed_at old k n) ≡ slice_get (filter (is_of k) (ds ++ d ∷ [])) n
    by true k n one q =
        ap (λ (b : Bool). if b && nat_eq n (count_of old.counts (key_view key)) then Some d else placed_at old k n) q
        ∙ ap₂ (λ (m : ℕ) (o : Option EventNode). if nat_eq n m then Some d else o) (ap (count_of old.counts) (sym (keys_same k (key_view key) q)) ∙ h.counts k) (h.placed k n)
        ∙ sym (passed_snoc (is_of k) ds d n ∙ ap (λ (b : Bool). if b && nat_eq n (count_by (is_of k) ds) then Some d else slice_get (filter (is_of k) ds) n) (one ∙ q))
    by false k n one q =
        ap (λ (b : Bool). if b && nat_eq n (count_of old.counts (key_view key)) then Some d else placed_at old k n) q
        ∙ h.placed k n
        ∙ sym (passed_snoc (is_of k) ds d n ∙ ap (λ (b : Bool). if b && nat_eq n (count_by (is_of k) ds) then Some d else slice_get (filter (is_of k) ds) n) (one ∙ q))

-- ---- entries

abbrev pub count_in : List (EventKey × ℕ) → Key → ℕ
count_in es k = unwrap_or (lookup (λ key. is_same_key k (key_view key)) es) 0

pub added : (es : List (EventKey × ℕ)) (key : EventKey) (n : ℕ) (k : Key) → n ≡ 1 + count_in es (key_view key)
    → count_in (insert_entry (λ (x y : EventKey). is_same_key (key_view x) (key_view y)) es key n) k ≡ (if is_same_key k (key_view key) then 1 else 0) + count_in es k
added es key n k h = ap (λ (o : Option ℕ). unwrap_or o 0) (put_in key_view is_same_key keys_same key_itself k es key n) ∙ by (is_same_key k (key_view key)) refl
  where
    by : (b : Bool) → is_same_key k (key_view key) ≡ b → unwrap_or (if b then Some n else lookup (λ x. is_same_key k (key_view x)) es) 0 ≡ (if b then 1 else 0) + count_in es k
    by true q = let same : count_in es k ≡ count_in es (key_view key) = ap (count_in es) (keys_same k (key_view key) q) in omega (arith, h, same)
    by false q = omega arith

abbrev place_of : PlaceKey → Key × ℕ
place_of p = (key_view p.key, p.before)

abbrev is_same_place : Key × ℕ → Key × ℕ → Bool
is_same_place a b = is_same_key a.0 b.0 && nat_eq a.1 b.1

places_same : (a b : Key × ℕ) → is_same_place a b ≡ true → a ≡ b
places_same a b e =
    let (k, n) = and_parts (is_same_key a.0 b.0) (nat_eq a.1 b.1) e in
    ap₂ (λ (x : Key) (y : ℕ). let r : Key × ℕ = (x, y) in r) (keys_same a.0 b.0 k) ((Decides-eqb a.1 b.1).0 n)

place_itself : (a : Key × ℕ) → is_same_place a a ≡ true
place_itself a = ap₂ (λ x y. x && y) (key_itself a.0) (eq-eqb a.1 a.1 refl)

abbrev pub placed_in : List (PlaceKey × Bor code.EventNode) → Key → ℕ → Option EventNode
placed_in es k n = option_map (λ (b : Bor code.EventNode). node_view b.now) (lookup (is_place k n) es)

pub placed_more : (es : List (PlaceKey × Bor code.EventNode)) (place : PlaceKey) (node : Bor code.EventNode) (k : Key) (n : ℕ)
    → placed_in (insert_entry (λ (x y : PlaceKey). is_same_place (place_of x) (place_of y)) es place node) k n ≡ (if is_same_key k (key_view place.key) && nat_eq n place.before then Some (node_view node.now) else placed_in es k n)
placed_more es place node k n = ap (λ (o : Option (Bor code.EventNode)). option_map (λ (b : Bor code.EventNode). node_view b.now) o) (put_in place_of is_same_place places_same place_itself (k, n) es place node) ∙ by (is_place k n place)
  where
    by : (b : Bool) → option_map (λ (b : Bor code.EventNode). node_view b.now) (if b then Some node else lookup (is_place k n) es) ≡ (if b then Some (node_view node.now) else placed_in es k n)
    by true = refl
    by false = refl
