-- Positions of a pattern, and taking out a minimal one.
use Rattle.std.specs.Prelude.{ℕ, Bool, true, false, List, ◌≡◌, refl}
use Rattle.std.proofs.Common.{ap, sym, ◌∙◌, inl, inr}
use Rattle.std.proofs.lemmas.Bool.{both_ways, false_from_ne_true}
use Rattle.msc_base.specs.Patterns.{Mode, seq, par, Position, event_at, Crosses, empty, one, join, bind}
use Rattle.chart_term.specs.TermPatterns.{numbered, Shape, Avoids, Lets, instances_of, earlier, Takes, take_one, take_first, take_later, take_bind}
use Rattle.chart_term.specs.Terms.{TermEvent, Block, hits}
use Rattle.chart_term.proofs.Sameness.{hits_earlier}
use Rattle.chart_term.specs.TermRuns.{IsMinimal, taken_out, TakesMinimal}

avoids_at : (b : Block) (s : Shape) → ((p : Position s) → hits b (event_at numbered s p) ≡ true → ⊥) → Avoids b s
avoids_at b empty h = tt
avoids_at b (one e) h = false_from_ne_true (hits b e) (h tt)
avoids_at b (join m x y) h = (avoids_at b x (λ p. h (inl p)), avoids_at b y (λ p. h (inr p)))
avoids_at b (bind x r) h = avoids_at b x h

at_avoids : (b : Block) (s : Shape) → Avoids b s → (p : Position s) → hits b (event_at numbered s p) ≡ true → ⊥
at_avoids b empty h p i = absurd p
at_avoids b (one e) h p i = both_ways (hits b e) h i
at_avoids b (join m x y) h (inl p) i = at_avoids b x h.0 p i
at_avoids b (join m x y) h (inr p) i = at_avoids b y h.1 p i
at_avoids b (bind x r) h p i = at_avoids b x h p i

lets_at : (m : Mode) (e : TermEvent) (x : Shape) → ((p : Position x) → Crosses numbered m (event_at numbered x p) e → ⊥) → Lets m e x
lets_at seq e x h = avoids_at (instances_of e) x h
lets_at par e x h = tt

at_lets : (m : Mode) (e : TermEvent) (x : Shape) → Lets m e x → (p : Position x) → Crosses numbered m (event_at numbered x p) e → ⊥
at_lets seq e x h p i = at_avoids (instances_of e) x h p i
at_lets par e x h p i = i

-- a minimal position can be taken
pub minimal_taken : (s : Shape) (p : Position s) → IsMinimal s p → Takes s (event_at numbered s p) (taken_out s p)
minimal_taken empty p h = absurd p
minimal_taken (one e) p h = take_one
minimal_taken (join m x y) (inl p) h = take_first (minimal_taken x p (λ q. h (inl q)))
minimal_taken (join m x y) (inr p) h = take_later (lets_at m (event_at numbered y p) x (λ q. h (inl q))) (minimal_taken y p (λ q. h (inr q)))
minimal_taken (bind x r) p h =
    take_bind (minimal_taken x p (λ q i. h q (inl i))) (avoids_at (earlier r (event_at numbered x p)) x (λ q i. h q (inr (sym (hits_earlier r (event_at numbered x p) (event_at numbered x q)) ∙ i))))

-- what can be taken is at a minimal position
pub taken_minimal : {s t : Shape} {e : TermEvent} → Takes s e t → (p : Position s) × (event_at numbered s p ≡ e) × (taken_out s p ≡ t) × IsMinimal s p
taken_minimal take_one = (tt, refl, refl, λ q h. h)
taken_minimal (take_first {m = m} {x = x} {y = y} h) = let i = taken_minimal h in (inl i.0, i.1, ap (λ z. join m z y) i.2, first m x y i.0 i.3)
  where
    first : (m : Mode) (x y : Shape) (p : Position x) → IsMinimal x p → IsMinimal (join m x y) (inl p)
    first m x y p f (inl q) h = f q h
    first m x y p f (inr q) h = h
taken_minimal (take_later {m = m} {x = x} {y = y} {e = e} l h) = let i = taken_minimal h in (inr i.0, i.1, ap (λ z. join m x z) i.2, later m x y i.0 (rw (← i.1) at l) i.3)
  where
    later : (m : Mode) (x y : Shape) (p : Position y) → Lets m (event_at numbered y p) x → IsMinimal y p → IsMinimal (join m x y) (inr p)
    later m x y p l f (inl q) h = at_lets m (event_at numbered y p) x l q h
    later m x y p l f (inr q) h = f q h
taken_minimal (take_bind {x = x} {q = r} h a) = let i = taken_minimal h in (i.0, i.1, ap (λ z. bind z r) i.2, tied x r i.0 (rw (← i.1) at a) i.3)
  where
    tied : (x : Shape) (r : List (ℕ × ℕ)) (p : Position x) → Avoids (earlier r (event_at numbered x p)) x → IsMinimal x p → IsMinimal (bind x r) p
    tied x r p a f q (inl h) = f q h
    tied x r p a f q (inr h) = at_avoids (earlier r (event_at numbered x p)) x a q (hits_earlier r (event_at numbered x p) (event_at numbered x q) ∙ h)

pub takes_at : TakesMinimal
takes_at = record {
  exact = λ s e t. record {
    to = λ h. let (p, i, j, m) = taken_minimal h in record { position = p; event = i; left = j; minimal = m };
    from = λ h. left_as s e (taken_out s h.position) t h.left (event_as s (event_at numbered s h.position) e (taken_out s h.position) h.event (minimal_taken s h.position h.minimal));
  };
}
  where
    left_as : (s : Shape) (e : TermEvent) (u t : Shape) → u ≡ t → Takes s e u → Takes s e t
    left_as s e u t q h = rw q at h

    event_as : (s : Shape) (e f : TermEvent) (t : Shape) → e ≡ f → Takes s e t → Takes s f t
    event_as s e f t q h = rw q at h
