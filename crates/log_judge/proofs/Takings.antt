-- Taking the events of a log of any kind from its reader.
use Rattle.std.specs.Prelude.{ℕ, zero, suc, ◌+◌, ◌≡◌, ◌⊎◌, Bool, true, false, List, [], ◌∷◌, ◌++◌, length, Option, Some, None, slice_get, refl}
use Rattle.std.proofs.Common.{ap, sym, ◌∙◌, subst, inl, inr, length-append, Result, Ok, Err, OnOk, OnErr}
use Rattle.term_tables.specs.NetValues.{NetsValue}
use Rattle.chart_term.specs.Terms.{Tree}
use Rattle.event_log.specs.RuledLogs.{HoldsEvent}
use Rattle.msc_base.specs.Only.{Never, Only}
use Rattle.event_log.specs.RuledStates.{ReaderState, IsFaultOf, Fed}
use Rattle.event_log.specs.Rules.{Rules}
use Rattle.line_events.specs.declared.event.LineEvent.{LineEvent}
use Rattle.event_log.specs.declared.event.LogFault.{LogFault}
use Rattle.event_log.specs.declared.event.LogFault.TheVariants as fault
use Rattle.event_log.specs.declared.event.LogForm.{LogForm}
use Rattle.event_log.proofs.Answers.{fed_answer}
use Rattle.trace_judge.specs.Sets.{SetValue}
use Rattle.trace_judge.specs.Tracks.{TrackValue}
use Rattle.trace_judge.specs.Tracks as track
use Rattle.log_judge.specs.RuledTaking.{HoldsFirst, TakesSome, TakesAll, TakesLog}
use Rattle.log_judge.specs.Taking.{IsFollowing}

-- ---- lists

module _ {E : Type 0} where
  -- an element of a list with one more at its end
  at_end : (es : List E) (x : E) (n : ℕ) (e : E) → slice_get (es ++ x ∷ []) n ≡ Some e → (slice_get es n ≡ Some e) ⊎ ((n ≡ length es) × (e ≡ x))
  at_end [] x zero e h = inr (refl, (let same : Some e ≡ Some x = sym h in cc))
  at_end [] x (suc n) e h = absurd (no h)
    where
      no : slice_get (x ∷ []) (suc n) ≡ Some e → ⊥
      no q = cc
  at_end (y ∷ es) x zero e h = inl h
  at_end (y ∷ es) x (suc n) e h = elim (at_end es x n e h) [ inl a ↦ inl a | inr b ↦ inr (ap suc b.0, b.1) ]

  -- lists with the same elements are the same
  same_lists : (xs ys : List E) → ((n : ℕ) (e : E) → slice_get xs n ≡ Some e → slice_get ys n ≡ Some e) → ((e : E) → slice_get ys (length xs) ≡ Some e → ⊥) → ys ≡ xs
  same_lists [] [] h none = refl
  same_lists [] (y ∷ ys) h none = absurd (none y refl)
  same_lists (x ∷ xs) [] h none = absurd (no (h zero x refl))
    where
      no : slice_get [] zero ≡ Some x → ⊥
      no q = cc
  same_lists (x ∷ xs) (y ∷ ys) h none =
      let first : Some y ≡ Some x = h zero x refl in
      let head : y ≡ x = cc in
      let rest : ys ≡ xs = same_lists xs ys (λ n e at. h (suc n) e at) (λ e at. none e at) in
      ap (λ (z : E). z ∷ ys) head ∙ ap (λ (zs : List E). x ∷ zs) rest

-- without a fault there is no want of memory
pub no_want : (x : Option LogFault) → x ≡ None → x ≡ Some fault.NoMemory → ⊥
no_want x is want = no (sym is ∙ want)
  where
    no : ◌≡◌ {A = Option LogFault} None (Some fault.NoMemory) → ⊥
    no q = cc

-- ---- the events of a reader

module _ {S E K : Type 0} (r : Rules S E K) where
  -- where no event is left, those that were taken are the log's
  pub log_is : (form : LogForm) (g : Bool) (b : List ℕ) (es : List E) (h : IsFaultOf r form g b None) → HoldsFirst r form g b es → Never (HoldsEvent r form g b (length es)) → h.events ≡ es
  log_is form g b es h first none = same_lists es h.events (λ n e at. (h.held n e).0 (first n e at)) (λ e at. none e ((h.held (length es) e).1 at))

  module _ {T : Type 0} (Took : List E → T → Type 0) (form : LogForm) where
    -- one more event has been taken
    pub event_taken : (g : Bool) (b : List ℕ) (s u : ReaderState E K) (t w : T) (e : E) → ((n : ℕ) → Fed r form b n s → Fed r form b (n + 1) u) → ((n : ℕ) → Fed r form b n s → Only (HoldsEvent r form g b n) e) → u.fault ≡ s.fault
        → ((events : List E) → Took events t → Took (events ++ e ∷ []) w) → TakesSome r Took form g b s t → TakesSome r Took form g b u w
    event_taken g b s u t w e feeds holds_it same takes h = record {
      events = h.events ++ e ∷ [];
      has = record {
        fed = subst (λ (n : ℕ). Fed r form b n u) (sym (length-append h.events (e ∷ []))) (feeds (length h.events) h.has.fed);
        first = λ n d at. first_of n d (at_end h.events e n d at);
        faultless = same ∙ h.has.faultless;
        taken = takes h.events h.has.taken;
      };
    }
      where
        first_of : (n : ℕ) (d : E) → (slice_get h.events n ≡ Some d) ⊎ ((n ≡ length h.events) × (d ≡ e)) → HoldsEvent r form g b n d
        first_of n d (inl a) = h.has.first n d a
        first_of n d (inr a) = subst (λ (k : ℕ). HoldsEvent r form g b k d) (sym a.0) (subst (λ (c : E). HoldsEvent r form g b (length h.events) c) (sym a.1) (holds_it (length h.events) h.has.fed).holds)

    -- no event is left
    pub all_taken : (g : Bool) (b : List ℕ) (s u : ReaderState E K) (t : T) → ((n : ℕ) → Fed r form b n s → (s.fault ≡ Some fault.NoMemory → ⊥) → Never (HoldsEvent r form g b n)) → u ≡ s → TakesSome r Took form g b s t → TakesAll r Took form g b u t
    all_taken g b s u t none same h = subst (λ (q : ReaderState E K). TakesAll r Took form g b q t) (sym same) (record {
      events = h.events;
      has = h.has;
      all = none (length h.events) h.has.fed (no_want s.fault h.has.faultless);
    })

    -- the reader has been fed more, or has ended
    pub piece_taken : (g : Bool) (b c : List ℕ) (s u : ReaderState E K) (t : T) → ((n : ℕ) → Fed r form b n s → Fed r form c n u) → ((n : ℕ) (e : E) → HoldsEvent r form true b n e → HoldsEvent r form g c n e) → u.fault ≡ None
        → TakesAll r Took form true b s t → TakesSome r Took form g c u t
    piece_taken g b c s u t feeds stays faultless h = record {
      events = h.events;
      has = record { fed = feeds (length h.events) h.has.fed; first = λ n e at. stays n e (h.has.first n e at); faultless = faultless; taken = h.has.taken };
    }

    -- the whole log
    pub log_taken : (b : List ℕ) (s u : ReaderState E K) (t w : T) → ((n : ℕ) → Fed r form b n s → IsFaultOf r form false b None) → TakesAll r Took form true b s t → TakesAll r Took form false b u w → TakesLog r Took form b w
    log_taken b s u t w decided h k =
        let log = decided (length h.events) h.has.fed in
        record { log = log; taken = subst (λ (es : List E). Took es w) (sym (log_is form false b k.events log k.has.first k.all)) k.has.taken }

    -- the bytes so far have no fault
    pub takes_decided : (b : List ℕ) (s : ReaderState E K) (t : T) → s.finished ≡ false → TakesAll r Took form true b s t → IsFaultOf r form true b None
    takes_decided b s t e h = fed_answer r None false form b (length h.events) s h.has.faultless e h.has.fed

-- ---- a track

-- a track goes on following, whether it took an event or not
pub follows_on : {S T E : Type 0} (holds : S → SetValue) (v : NetsValue) (x : Tree) (budget : ℕ) (old new : TrackValue S) (at : LineEvent) (r : Result T E) → ((events : List LineEvent) → track.Fed holds v x budget events old → OnOk r (track.Fed holds v x budget (events ++ at ∷ []) new))
    → ((events : List LineEvent) → track.Fed holds v x budget events old → OnErr r (track.Fed holds v x budget events new)) → IsFollowing holds v x budget old → IsFollowing holds v x budget new
follows_on holds v x budget old new at (Ok t) takes stays h = record { events = h.events ++ at ∷ []; taken = takes h.events h.taken }
follows_on holds v x budget old new at (Err e) takes stays h = record { events = h.events; taken = stays h.events h.taken }

-- what an answer without a fault says
pub ok_of : {T E P Q : Type 0} (r : Result T E) → (P → Q) → OnOk r P → OnOk r Q
ok_of (Ok t) f h = f h
ok_of (Err e) f h = tt
