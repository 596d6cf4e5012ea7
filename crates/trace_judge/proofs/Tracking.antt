-- The steps of a track.
use Rattle.std.specs.Prelude.{ℕ, ◌+◌, ◌≡◌, List, [], ◌∷◌, ◌++◌, Option, Some, None, Result, Ok, Err, OnErr, IfOk, refl}
use Rattle.std.proofs.Common.{ap, sym, ◌∙◌, subst}
use Rattle.std.proofs.lemmas.Result.{IfOk-weaker}
use Rattle.msc_base.specs.declared.label.Label.{Label}
use Rattle.msc_base.specs.declared.verdict.Verdict.{Verdict}
use Rattle.msc_base.specs.declared.verdict.Verdict.TheVariants.{Conforms, Fails, Early, TooLarge}
use Rattle.line_events.specs.declared.event.LineEvent.{LineEvent}
use Rattle.term_tables.specs.NetValues.{NetsValue, label_number}
use Rattle.chart_term.specs.Terms.{Tree}
use Rattle.trace_judge.specs.Advances.{Advances, Follows, FollowsOpen, IsOpenVerdict, settled, risen}
use Rattle.trace_judge.specs.Steps.{ForLabels}
use Rattle.trace_judge.specs.declared.advance.Outcome.{Outcome}
use Rattle.trace_judge.specs.Sets.{SetValue}
use Rattle.trace_judge.specs.Tracks.{TrackValue, AreSame, Fed, IsGoing, IsSame, Stands}
use Rattle.trace_judge.specs.Verdicts.{IsLargest, IsTermVerdict, TellsRuns}
use Rattle.trace_judge.proofs.TrackFacts.{take_settled, take_going, verdict_settled, verdict_conforms, verdict_early, none_settled}
use Rattle.trace_judge.proofs.VerdictLaws.{tells_runs}

module _ {S : Type 0} (holds : S → SetValue) (v : NetsValue) (x : Tree) (budget : ℕ) (events : List LineEvent) where
  pub take_fed : (number : Option ℕ) (a : Label) (line : ℕ) (old mid new : TrackValue S) → number ≡ label_number v.labels a → FollowsOpen holds v number line old.ended old mid → new ≡ record mid { events = mid.events + 1 }
      → Fed holds v x budget events old → Fed holds v x budget (events ++ record { label = a; line = line } ∷ []) new
  take_fed number a line old mid new is h q f = go old.ended old.set refl refl h
    where
      go : (ended : Option Verdict) (set : Option S) → old.ended ≡ ended → old.set ≡ set → FollowsOpen holds v number line ended (record old { set = set }) mid → Fed holds v x budget (events ++ record { label = a; line = line } ∷ []) new
      go None None p r h = absurd (none_settled holds v x budget events old f p r)
      go None (Some s) p r h =
          take_going holds v x budget events (record { label = a; line = line }) old new s h.set h.outcome f p r (h.advances a is)
          (q ∙ (λ i. record { set = h.is i; events = h.events i + 1; ended = h.ended i; largest = h.largest i }))
      go (Some w) set p r h =
          take_settled holds v x budget events (record { label = a; line = line }) old new w f p
          (q ∙ ap (λ (t : TrackValue S). record t { events = t.events + 1 }) (h ∙ (λ i. record old { set = sym r i })))

  open_is : (t : TrackValue S) (s : S) → Fed holds v x budget events t → t.ended ≡ None → t.set ≡ Some s → (verdict : Verdict) → IsOpenVerdict v (holds s) t.events verdict → IsTermVerdict v x budget events verdict
  open_is t s f p q (Conforms n) h = subst (λ (m : ℕ). IsTermVerdict v x budget events (Conforms m)) (sym h.0) (verdict_conforms holds v x budget events t s f p q h.1)
  open_is t s f p q (Fails n k) h = absurd h
  open_is t s f p q (Early n) h = subst (λ (m : ℕ). IsTermVerdict v x budget events (Early m)) (sym h.0) (verdict_early holds v x budget events t s f p q h.1)
  open_is t s f p q (TooLarge n) h = absurd h

  pub open_verdict_is : {E : Type 0} (t : TrackValue S) (s : S) (r : Result Verdict E) → t.ended ≡ None → t.set ≡ Some s → IfOk r (IsOpenVerdict v (holds s) t.events) → Fed holds v x budget events t → IfOk r (IsTermVerdict v x budget events)
  open_verdict_is t s r p q h f = IfOk-weaker r _ _ (open_is t s f p q) h

  pub open_verdict_tells : {E : Type 0} (t : TrackValue S) (s : S) (r : Result Verdict E) → t.ended ≡ None → t.set ≡ Some s → IfOk r (IsOpenVerdict v (holds s) t.events) → Fed holds v x budget events t → IfOk r (TellsRuns v x events)
  open_verdict_tells t s r p q h f = IfOk-weaker r _ _ (λ w i. tells_runs v x budget events w f.sound (open_is t s f p q w i)) h

  pub settled_is : (t : TrackValue S) (verdict : Verdict) → t.ended ≡ Some verdict → Fed holds v x budget events t → IsTermVerdict v x budget events verdict
  settled_is t verdict p f = verdict_settled holds v x budget events t verdict f p

  pub settled_tells : (t : TrackValue S) (verdict : Verdict) → t.ended ≡ Some verdict → Fed holds v x budget events t → TellsRuns v x events verdict
  settled_tells t verdict p f = tells_runs v x budget events verdict f.sound (settled_is t verdict p f)

-- a track whose set took an event
pub followed : {S : Type 0} (holds : S → SetValue) (v : NetsValue) (number : Option ℕ) (line : ℕ) (old new : TrackValue S) (s set : S) (outcome : Outcome) → old.set ≡ Some s → ForLabels v number (λ label. Advances v label (holds s) (holds set) outcome)
    → new ≡ record { set = Some set; events = old.events; ended = settled outcome (old.events + 1) line; largest = risen outcome old.largest } → Follows holds v number line old.set old new
followed holds v number line old new s set outcome e a n = subst (λ (o : Option _). Follows holds v number line o old new) (sym e) (record {
  set = set;
  outcome = outcome;
  is = ap (λ (t : TrackValue _). t.set) n;
  advances = a;
  ended = ap (λ (t : TrackValue _). t.ended) n;
  largest = ap (λ (t : TrackValue _). t.largest) n;
  events = ap (λ (t : TrackValue _). t.events) n;
})

-- after want of memory a track stays as it was
module _ {S : Type 0} (holds : S → SetValue) (v : NetsValue) (x : Tree) (budget : ℕ) (events : List LineEvent) where
  stands_same : (a b : Option S) (p : Option Verdict) → AreSame holds a b → Stands holds v x budget events a p → Stands holds v x budget events b p
  stands_same None None None s h = absurd h
  stands_same None None (Some w) s h = h
  stands_same None (Some t) p s h = absurd s
  stands_same (Some u) None p s h = absurd s
  stands_same (Some u) (Some t) None s h = subst (IsGoing v x budget events) (sym s) h
  stands_same (Some u) (Some t) (Some w) s h = h

  none_kept : (a b : Option S) → AreSame holds a b → a ≡ None → b ≡ None
  none_kept None None s e = refl
  none_kept None (Some t) s e = absurd s
  none_kept (Some u) None s e = refl
  none_kept (Some u) (Some t) s e = cc

  none_was : (a b : Option S) → AreSame holds a b → b ≡ None → a ≡ None
  none_was None b s e = refl
  none_was (Some u) None s e = absurd s
  none_was (Some u) (Some t) s e = cc

  pub same_fed : (old new : TrackValue S) → IsSame holds old new → Fed holds v x budget events old → Fed holds v x budget events new
  same_fed old new h f = record {
    sound = f.sound;
    count = h.events ∙ f.count;
    stands = subst (Stands holds v x budget events new.set) (sym h.ended) (stands_same old.set new.set old.ended h.set f.stands);
    without = record { to = λ e. f.without.to (none_was old.set new.set h.set e); from = λ l. none_kept old.set new.set h.set (f.without.from l) };
    largest = subst (IsLargest v x budget events) (sym h.largest) f.largest;
  }

pub on_err : {T E P : Type 0} (r : Result T E) → P → OnErr r P
on_err (Ok t) p = tt
on_err (Err e) p = p
