-- Sessions in a list: the one at a place is written, and one more is added.
use Rattle.std.proofs.Common.{◌≡◌, ◌⊎◌, ◌≤◌, ◌<◌, ◌+◌, ◌-◌, ◌++◌, ◌∷◌, ℕ, zero, suc, List, [], map, Some, slice_get, slice_set, get_or, length, refl, sym, ap, ◌∙◌, subst, inl, inr, arith}
use Rattle.msc_base.specs.Lists.{AreDifferent, IsAmong}
use Rattle.list_facts.proofs.Members.{among_snoc, at_among}
use Rattle.session_judge.specs.Tracks.{SessionValue, keys_in, HaveAtMost}

-- what is read at a place stands there
pub at_read : {A : Type 0} (xs : List A) (i : ℕ) (x : A) → i < length xs → x ≡ get_or xs i x → slice_get xs i ≡ Some x
at_read [] i x below is = absurd (omega (arith, below))
at_read (y ∷ ys) zero x below is = ap (λ (z : _). Some z) (sym is)
at_read (y ∷ ys) (suc i) x below is = at_read ys i x (omega (arith, below)) is

-- what a list lacks at each place it lacks
pub lacked : {A : Type 0} (xs : List A) (m : ℕ) (x : A) → length xs ≤ m → ((n : ℕ) → n < m → slice_get xs n ≡ Some x → ⊥) → IsAmong xs x → ⊥
lacked [] m x few none h = h
lacked (y ∷ ys) m x few none (inl e) = none zero (omega (arith, few)) (ap (λ (z : _). Some z) (sym e))
lacked (y ∷ ys) m x few none (inr h) = lacked ys (m - 1) x (omega (arith, few)) (λ n below. none (suc n) (omega (arith, below, few))) h

-- what stands at a place of a list that is mapped
pub at_mapped : {A B : Type 0} (f : A → B) (xs : List A) (i : ℕ) (y : B) → slice_get (map f xs) i ≡ Some y → (x : A) × (slice_get xs i ≡ Some x) × (f x ≡ y)
at_mapped f [] i y at = cc
at_mapped f (x ∷ xs) zero y at = (x, refl, (let e : Some (f x) ≡ Some y = at in cc))
at_mapped f (x ∷ xs) (suc i) y at = at_mapped f xs i y at

-- an item of the list with another at a place
pub written : {A : Type 0} (xs : List A) (i : ℕ) (y z : A) → IsAmong (slice_set xs i y) z → (z ≡ y) ⊎ IsAmong xs z
written [] i y z h = absurd h
written (x ∷ xs) zero y z (inl e) = inl e
written (x ∷ xs) zero y z (inr h) = inr (inr h)
written (x ∷ xs) (suc i) y z (inl e) = inr (inl e)
written (x ∷ xs) (suc i) y z (inr h) = elim (written xs i y z h) [ inl e ↦ inl e | inr r ↦ inr (inr r) ]

module _ {S : Type 0} where
  pub key_among : (ss : List (SessionValue S)) (s : SessionValue S) → IsAmong ss s → IsAmong (keys_in ss) s.key
  key_among [] s h = absurd h
  key_among (t ∷ ss) s (inl e) = inl (ap (λ (r : SessionValue S). r.key) e)
  key_among (t ∷ ss) s (inr h) = inr (key_among ss s h)

  pub keys_long : (ss : List (SessionValue S)) → length (keys_in ss) ≡ length ss
  keys_long [] = refl
  keys_long (s ∷ ss) = ap suc (keys_long ss)

  -- a session beside the one that is written has another key
  pub beside : (ss : List (SessionValue S)) (i : ℕ) (s t z : SessionValue S) → AreDifferent (keys_in ss) → slice_get ss i ≡ Some s → IsAmong (slice_set ss i t) z
      → (z ≡ t) ⊎ (IsAmong ss z × (s.key ≡ z.key → ⊥))
  beside [] i s t z d at h = absurd h
  beside (u ∷ ss) zero s t z d at (inl e) = inl e
  beside (u ∷ ss) zero s t z d at (inr h) =
      let e : Some u ≡ Some s = at in
      let same : u ≡ s = cc in
      inr (inr h, λ q. d.0 (subst (λ (k : List ℕ). IsAmong (keys_in ss) k) (sym (ap (λ (r : SessionValue S). r.key) same ∙ q)) (key_among ss z h)))
  beside (u ∷ ss) (suc i) s t z d at (inl e) =
      inr (inl e, λ q. d.0 (subst (λ (k : List ℕ). IsAmong (keys_in ss) k) (q ∙ ap (λ (r : SessionValue S). r.key) e) (key_among ss s (at_among ss i s at))))
  beside (u ∷ ss) (suc i) s t z d at (inr h) = elim (beside ss i s t z d.1 at h) [ inl e ↦ inl e | inr r ↦ inr (inr r.0, r.1) ]

  -- the keys stay where a session is written that has the key of the one before
  pub keys_written : (ss : List (SessionValue S)) (i : ℕ) (s t : SessionValue S) → slice_get ss i ≡ Some s → t.key ≡ s.key → keys_in (slice_set ss i t) ≡ keys_in ss
  keys_written [] i s t at e = refl
  keys_written (u ∷ ss) zero s t at e =
      let q : Some u ≡ Some s = at in
      let same : u ≡ s = cc in
      ap (λ (k : List ℕ). k ∷ keys_in ss) (e ∙ ap (λ (r : SessionValue S). r.key) (sym same))
  keys_written (u ∷ ss) (suc i) s t at e = ap (λ (ks : List (List ℕ)). u.key ∷ ks) (keys_written ss i s t at e)

  pub keys_added : (ss : List (SessionValue S)) (t : SessionValue S) → keys_in (ss ++ t ∷ []) ≡ keys_in ss ++ t.key ∷ []
  keys_added [] t = refl
  keys_added (u ∷ ss) t = ap (λ (ks : List (List ℕ)). u.key ∷ ks) (keys_added ss t)

  -- how many events each has taken at most
  pub few_written : (n : ℕ) (ss : List (SessionValue S)) (i : ℕ) (s t : SessionValue S) → slice_get ss i ≡ Some s → t.track.events ≡ s.track.events + 1 → HaveAtMost n ss → HaveAtMost (n + 1) (slice_set ss i t)
  few_written n ss i s t at count few z h = elim (written ss i t z h) [
    | inl e ↦ (let q : z.track.events ≡ t.track.events = ap (λ (r : SessionValue S). r.track.events) e in omega (arith, q, count, few s (at_among ss i s at)))
    | inr r ↦ (let q = few z r in omega (arith, q))
  ]

  pub few_added : (n : ℕ) (ss : List (SessionValue S)) (t : SessionValue S) → t.track.events ≡ 1 → HaveAtMost n ss → HaveAtMost (n + 1) (ss ++ t ∷ [])
  few_added n ss t count few z h = elim (among_snoc ss t z h) [
    | inl r ↦ (let q = few z r in omega (arith, q))
    | inr e ↦ (let q : z.track.events ≡ t.track.events = ap (λ (r : SessionValue S). r.track.events) e in omega (arith, q, count))
  ]
