-- A log of any kind has few events.
use Rattle.std.specs.Prelude.{ℕ, zero, suc, ◌≡◌, ◌≤◌, ◌<◌, Bool, List, [], ◌∷◌, ◌++◌, length, Some, None, slice_get}
use Rattle.std.proofs.Common.{ap, arith, inl, inr, length-append}
use Rattle.msc_base.specs.Stored.{most_stored}
use Rattle.msc_base.specs.declared.limits.TheConstants.Limits.{LOG_EVENTS}
use Rattle.event_log.specs.Lines.{lines_of}
use Rattle.event_log.specs.RuledLogs.{Stage, first_stage, After, Reaches, HoldsEvent}
use Rattle.event_log.specs.Rules.{Rules}
use Rattle.event_log.specs.declared.event.LogForm.{LogForm}
use Rattle.event_log.specs.declared.line.Line.{Line}
use Rattle.event_log.specs.declared.line.Line.TheVariants.{Blank, VersionLine, Event, NoEvent}

at_below : {E : Type 0} (es : List E) (n : ℕ) (e : E) → slice_get es n ≡ Some e → n < length es
at_below [] n e h = cc
at_below (x ∷ es) zero e h = omega arith
at_below (x ∷ es) (suc n) e h = omega (arith, at_below es n e h)

module _ {S E K : Type 0} (r : Rules S E K) where
  after_few : (s t : Stage E K) (m : Line S) → After r s m t → length s.events ≤ LOG_EVENTS → length t.events ≤ LOG_EVENTS
  after_few s t Blank h l = let q : length t.events ≡ length s.events = ap (λ (u : Stage E K). length u.events) h in omega arith
  after_few s t (VersionLine (Some v)) h l = let q : length t.events ≡ length s.events = ap (λ (u : Stage E K). length u.events) h in omega arith
  after_few s t (VersionLine None) h l = absurd h
  after_few s t (Event event) h l =
      let q : length t.events ≡ length (s.events ++ r.event_at event s.number ∷ []) = ap (λ (u : Stage E K). length u.events) h.1 in
      omega (arith, h.0, length-append s.events (r.event_at event s.number ∷ []))
  after_few s t NoEvent h l = absurd h

  reaches_few : (form : LogForm) (s t : Stage E K) (ls : List (List ℕ)) → Reaches r form s ls t → length s.events ≤ LOG_EVENTS → length t.events ≤ LOG_EVENTS
  reaches_few form s t [] h l = let q : length t.events ≡ length s.events = ap (λ (u : Stage E K). length u.events) h in omega arith
  reaches_few form s t (k ∷ ls) (inl h) l = let q : length t.events ≡ length s.events = ap (λ (u : Stage E K). length u.events) h in omega arith
  reaches_few form s t (k ∷ ls) (inr h) l = reaches_few form h.0 t ls h.2 (after_few s h.0 h.1.meaning h.1.after l)

  -- the number of an event of a log has 64 bits, and so has the next
  pub held_few : (form : LogForm) (g : Bool) (b : List ℕ) (n : ℕ) (e : E) → HoldsEvent r form g b n e → n < most_stored
  held_few form g b n e h =
      let l = reaches_few form (first_stage r) h.stage (lines_of g b) h.reaches (omega arith) in
      omega (arith, at_below h.stage.events n e h.at, l)
