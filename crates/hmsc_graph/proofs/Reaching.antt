-- The test for a walk is exact.
use Rattle.std.specs.List.{list_any}
use Rattle.std.specs.Prelude.{ℕ, Bool, true, false, List, [], ◌∷◌, ◌≡◌, ◌||◌, ◌⊎◌, refl}
use Rattle.std.proofs.Common.{inl, inr, ⊎_elim}
use Rattle.std.proofs.lemmas.Bool.{eqb-true, eq-eqb, or_cases, and_parts, and_from}
use Rattle.hmsc_graph.specs.Graphs.{Spot, At, Goal, To, Net, behind, arrives, WalkThrough, last, step, reach, ReachIsExact}
use Rattle.msc_base.specs.Lists.{IsIn}
use Rattle.list_facts.proofs.Bools.{or_true}

some_arrives : (g : Net) (t : Goal) (ms : List ℕ) → list_any (arrives g t) ms ≡ true → (m : ℕ) × IsIn m ms × (arrives g t m ≡ true)
some_arrives g t [] h = cc
some_arrives g t (m ∷ ms) h = go (arrives g t m) refl (λ e. some_arrives g t ms (rw e at h))
  where
    go : (b : Bool) → arrives g t m ≡ b → (arrives g t m ≡ false → (n : ℕ) × IsIn n ms × (arrives g t n ≡ true)) → (n : ℕ) × IsIn n (m ∷ ms) × (arrives g t n ≡ true)
    go true e f = (m, inl refl, e)
    go false e f = let r = f e in (r.0, inr r.1, r.2)

arrives_some : (g : Net) (t : Goal) (ms : List ℕ) (m : ℕ) → IsIn m ms → arrives g t m ≡ true → list_any (arrives g t) ms ≡ true
arrives_some g t (n ∷ ms) m (inl e) h = let h' : arrives g t n ≡ true = rw e at h in rw h'
arrives_some g t (n ∷ ms) m (inr i) h = rw (arrives_some g t ms m i h) (or_true (arrives g t n))
arrives_some g t [] m i h = absurd i

-- more nodes are allowed
pub more_allowed : {g : Net} {ks js : List ℕ} {s : Spot} {t : Goal} → ((m : ℕ) → IsIn m ks → IsIn m js) → WalkThrough g ks s t → WalkThrough g js s t
more_allowed f (last m i a) = last m i a
more_allowed f (step m i j w) = step m i (f m j) (more_allowed f w)

-- one walk and then another
pub glue : {g : Net} {ks : List ℕ} {s : Spot} {t : Goal} {k : ℕ} → IsIn k ks → WalkThrough g ks s (To k) → WalkThrough g ks (At k) t → WalkThrough g ks s t
glue {k = k} j (last m i a) w = step m i (rw (eqb-true m k a) j) (rw (eqb-true m k a) w)
glue j (step m i l u) w = step m i l (glue j u w)

-- a walk passes k, or it does not
split : {g : Net} (k : ℕ) (ks : List ℕ) {s : Spot} {t : Goal} → WalkThrough g (k ∷ ks) s t → WalkThrough g ks s t ⊎ (WalkThrough g ks s (To k) × WalkThrough g ks (At k) t)
split k ks (last m i a) = inl (last m i a)
split {g} k ks {s} {t} (step m i (inl e) w) = inr (via (split k ks w))
  where
    via : WalkThrough g ks (At m) t ⊎ (WalkThrough g ks (At m) (To k) × WalkThrough g ks (At k) t) → WalkThrough g ks s (To k) × WalkThrough g ks (At k) t
    via (inl v) = (last m i (eq-eqb m k e), rw e at v)
    via (inr v) = (last m i (eq-eqb m k e), v.1)
split {g} k ks {s} {t} (step m i (inr j) w) = via (split k ks w)
  where
    via : WalkThrough g ks (At m) t ⊎ (WalkThrough g ks (At m) (To k) × WalkThrough g ks (At k) t) → WalkThrough g ks s t ⊎ (WalkThrough g ks s (To k) × WalkThrough g ks (At k) t)
    via (inl v) = inl (step m i j v)
    via (inr v) = inr (step m i j v.0, v.1)

or_from : (a b : Bool) → (a ≡ true) ⊎ (b ≡ true) → (a || b) ≡ true
or_from true b h = refl
or_from false b (inl h) = cc
or_from false b (inr h) = h

pub reach_sound : (g : Net) (ks : List ℕ) (s : Spot) (t : Goal) → reach g ks s t ≡ true → WalkThrough g ks s t
reach_sound g [] s t h = let r = some_arrives g t (behind g s) h in last r.0 r.1 r.2
reach_sound g (k ∷ ks) s t h =
    ⊎_elim (λ p. more_allowed (λ m j. inr j) (reach_sound g ks s t p))
    (λ p. let q = and_parts _ _ p in glue (inl refl) (more_allowed (λ m j. inr j) (reach_sound g ks s (To k) q.0)) (more_allowed (λ m j. inr j) (reach_sound g ks (At k) t q.1)))
    (or_cases _ _ h)

reach_via : (g : Net) (k : ℕ) (ks : List ℕ) (s : Spot) (t : Goal)
    → (WalkThrough g ks s t → reach g ks s t ≡ true) → (WalkThrough g ks s (To k) → reach g ks s (To k) ≡ true) → (WalkThrough g ks (At k) t → reach g ks (At k) t ≡ true)
    → WalkThrough g ks s t ⊎ (WalkThrough g ks s (To k) × WalkThrough g ks (At k) t) → reach g (k ∷ ks) s t ≡ true
reach_via g k ks s t f p q (inl v) = or_from _ _ (inl (f v))
reach_via g k ks s t f p q (inr v) = or_from _ _ (inr (and_from _ _ (p v.0) (q v.1)))

pub reach_whole : (g : Net) (ks : List ℕ) (s : Spot) (t : Goal) → WalkThrough g ks s t → reach g ks s t ≡ true
reach_whole g [] s t (last m i a) = arrives_some g t (behind g s) m i a
reach_whole g [] s t (step m i j w) = absurd j
reach_whole g (k ∷ ks) s t w = reach_via g k ks s t (reach_whole g ks s t) (reach_whole g ks s (To k)) (reach_whole g ks (At k) t) (split k ks w)

pub reach_is_exact : ReachIsExact
reach_is_exact = record { sound = reach_sound; whole = reach_whole }
