-- Two minimal events can be taken out in either order.
use Rattle.std.specs.Prelude.{ℕ, List, ◌∷◌, ◌≡◌, ◌⊎◌, refl}
use Rattle.std.proofs.Common.{ap, inl, inr}
use Rattle.msc_base.specs.Patterns.{Mode, seq, par, join, bind}
use Rattle.chart_term.specs.TermPatterns.{Shape, Avoids, Lets, instances_of, earlier, Takes, take_one, take_first, take_later, take_bind, HasNoEvent}
use Rattle.chart_term.specs.TermRuns.{Runs, run_end, run_take}
use Rattle.chart_term.specs.Terms.{TermEvent}
use Rattle.chart_term.proofs.Sameness.{avoids_left}

lets_left : (m : Mode) {x x' : Shape} {e : TermEvent} (f : TermEvent) → Takes x e x' → Lets m f x → Lets m f x'
lets_left seq f h l = avoids_left (instances_of f) h l
lets_left par f h l = tt

abbrev Meets : Shape → TermEvent → Shape → TermEvent → Type 0
Meets t f u e = (t ≡ u) ⊎ ((v : Shape) × Takes t f v × Takes u e v)

first_first : {m : Mode} {y : Shape} {t u : Shape} {e f : TermEvent} → Meets t f u e → Meets (join m t y) f (join m u y) e
first_first {m} {y} (inl p) = inl (ap (λ z. join m z y) p)
first_first (inr (v, h, k)) = inr (_, take_first h, take_first k)

later_later : {m : Mode} {x : Shape} {t u : Shape} {e f : TermEvent} → Lets m e x → Lets m f x → Meets t f u e → Meets (join m x t) f (join m x u) e
later_later {m} {x} a b (inl p) = inl (ap (λ z. join m x z) p)
later_later a b (inr (v, h, k)) = inr (_, take_later b h, take_later a k)

in_bound : {q : List (ℕ × ℕ)} {t u : Shape} {e f : TermEvent} → Avoids (earlier q f) t → Avoids (earlier q e) u → Meets t f u e → Meets (bind t q) f (bind u q) e
in_bound {q} a b (inl p) = inl (ap (λ z. bind z q) p)
in_bound a b (inr (v, h, k)) = inr (_, take_bind h a, take_bind k b)

pub diamond : {s t u : Shape} {e f : TermEvent} → Takes s e t → Takes s f u → Meets t f u e
diamond take_one take_one = inl refl
diamond (take_first h) (take_first k) = first_first (diamond h k)
diamond (take_first h) (take_later {m = m} {e = f} l k) = inr (_, take_later (lets_left m f h l) k, take_first h)
diamond (take_later {m = m} {e = e} l h) (take_first k) = inr (_, take_first k, take_later (lets_left m e k l) h)
diamond (take_later l h) (take_later m k) = later_later l m (diamond h k)
diamond (take_bind {e = e} {q = q} h a) (take_bind {e = f} k b) = in_bound (avoids_left (earlier q f) h b) (avoids_left (earlier q e) k a) (diamond h k)

none_taken : {s t : Shape} {e : TermEvent} → HasNoEvent s → Takes s e t → ⊥
none_taken h take_one = h
none_taken h (take_first k) = none_taken h.0 k
none_taken h (take_later l k) = none_taken h.1 k
none_taken h (take_bind k a) = none_taken h k

-- what is left of a pattern with a run has a run
pub left_runs : {s : Shape} {l : List ℕ} → Runs s l → (e : TermEvent) (t : Shape) → Takes s e t → (k : List ℕ) × Runs t k
left_runs (run_end h) e t k = absurd (none_taken h k)
left_runs (run_take {t = u} {e = f} {l = l} h r) e t k = meet (diamond k h) (λ v q. left_runs r e v q)
  where
    again : (v : Shape) → Takes t f v → (m : List ℕ) × Runs v m → (m : List ℕ) × Runs t m
    again v p i = (f.label ∷ i.0, run_take p i.1)

    meet : Meets t f u e → ((v : Shape) → Takes u e v → (m : List ℕ) × Runs v m) → (m : List ℕ) × Runs t m
    meet (inl p) g = (l, rw p r)
    meet (inr (v, p, q)) g = again v p (g v q)
