-- Lines that lie whole in a piece.
use Rattle.std.proofs.Common.{inl, inr, ◌⊎◌, Result, Ok, Err, IfErr, OnOk, OnErr, ◌≡◌, ◌≢◌, ◌<◌, ◌≤◌, ◌+◌, ◌++◌, List, ℕ, length, [], ◌∷◌, All, arith, sym, refl, ap, ◌∙◌, subst, take, append_assoc, Option, Some, None, MatchOption, zero, suc, slice_index, false}
use Rattle.std.proofs.lemmas.Bool.Decides.{Decides-eqb}
use Rattle.std.proofs.lemmas.List.Elements.{All-nil, All-cons, All-from_get_or}
use Rattle.memchr.specs.Find.{IsFirstByte, is_byte}
use Rattle.msc_base.specs.declared.limits.TheConstants.Limits.{LINE_BYTES, LOG_BYTES}
use Rattle.event_log.specs.Faults.{IsLogFault}
use Rattle.event_log.specs.Meanings.{LineSays}
use Rattle.event_log.specs.RuledStates.{ReaderState, Refuses, TakesLine, RefusesLine, Grows, IsTooLong, counted, whole, IsGoing, HoldsAt}
use Rattle.event_log.specs.declared.event.LogFault.{LogFault}
use Rattle.event_log.specs.declared.event.LogFault.TheVariants as fault
use Rattle.event_log.specs.declared.event.LogForm.{LogForm}
use Rattle.event_log.specs.declared.line.Line.{Line}
use Rattle.event_log.specs.declared.line.Line.TheVariants.{Blank, VersionLine, Event, NoEvent}
use Rattle.event_log.proofs.Feeding.{append_fails, going_grows, line_going, line_fails}
use Rattle.event_log.specs.Rules.{Rules}

taken_free : (n : ℕ) (bytes : List ℕ) → n ≤ length bytes → ((i : ℕ) → i < n → slice_index bytes i ≢ 10) → All (λ b. b ≢ 10) (take n bytes)
taken_free zero bytes le free = All-nil (λ b. b ≢ 10)
taken_free (suc n) [] le free = absurd (omega arith)
taken_free (suc n) (b ∷ bytes) le free = All-cons (λ x. x ≢ 10) b (take n bytes) (free 0 (omega arith)) (taken_free n bytes (omega arith) (λ i lt. free (suc i) (omega arith)))

-- the first line feed
pub first_feed : (bytes : List ℕ) (found : Option ℕ) → IsFirstByte (is_byte 10) bytes found
    → MatchOption found (All (λ b. b ≢ 10) bytes) (λ n. (n < length bytes) × All (λ b. b ≢ 10) (take n bytes) × (slice_index bytes n ≡ 10))
first_feed bytes None none = All-from_get_or (λ b. b ≢ 10) bytes 0 (λ i lt is. none i (omega arith) lt (ap (is_byte 10) is))
first_feed bytes (Some n) first = (
  first.0.high,
  taken_free n bytes (omega (arith, first.0.high)) (λ i lt is. first.0.before i (omega arith) lt (ap (is_byte 10) is)),
  (Decides-eqb (slice_index bytes n) 10).0 first.1,
)

module _ {S E K : Type 0} (rules : Rules S E K) where
  -- with a fault the state holds no more than events of a form
  holds_alike : (x : LogFault) (form : LogForm) (b : List ℕ) (n : ℕ) (s t : ReaderState E K) → t.form ≡ s.form → t.waiting ≡ s.waiting → HoldsAt rules (Some x) false form b n s → HoldsAt rules (Some x) false form b n t
  holds_alike fault.NoMemory form b n s t f w h = record { form_is = f ∙ h.form_is; stage = h.stage; reaches = h.reaches; hands = rw w h.hands }
  holds_alike x form b n s t f w h = record { form_is = f ∙ h.form_is; events = h.events; log = h.log; hands = rw w h.hands }

  -- the state with this line taken
  abbrev grown : ReaderState E K → List ℕ → ReaderState E K
  grown s f = record s { line = f; count = s.count + length f }

  whole_grows : (s : ReaderState E K) (f : List ℕ) → s.line ≡ [] → length f ≤ LINE_BYTES → Grows s f (grown s f)
  whole_grows s f none short = record {
    short = omega (arith, ap length none);
    is = ap (λ (l : List ℕ). (let t : ReaderState E K = record s { line = l ++ f; count = s.count + length f } in t)) (sym none);
  }

  -- a whole line was taken
  pub whole_going : {T : Type 0} (s u : ReaderState E K) (f : List ℕ) (answer : Result T LogFault) → s.line ≡ [] → length f ≤ LINE_BYTES → All (λ b. b ≢ 10) f → s.count + length f < LOG_BYTES
      → OnOk answer (TakesLine rules (whole s f) u) → (form : LogForm) (b : List ℕ) (n : ℕ) → IsGoing rules form b n s → OnOk answer (IsGoing rules form (b ++ (f ++ 10 ∷ [])) n u)
  whole_going s u f answer none short free room takes form b n h =
      subst (λ bytes. OnOk answer (IsGoing rules form bytes n u)) (append_assoc b f (10 ∷ []))
      (line_going rules (grown s f) u answer takes room form (b ++ f) n (going_grows rules form b f n s (grown s f) h (whole_grows s f none short) free (omega arith)))

  -- a whole line wasn't taken
  pub whole_fails : {T : Type 0} (s u : ReaderState E K) (f : List ℕ) (answer : Result T LogFault) → s.line ≡ [] → length f ≤ LINE_BYTES → All (λ b. b ≢ 10) f → s.count + length f < LOG_BYTES
      → OnErr answer (u ≡ record s { met = u.met; count = s.count + length f + 1 }) → IfErr answer (λ x. IsLogFault x → RefusesLine rules (whole s f) x)
      → (form : LogForm) (b : List ℕ) (n : ℕ) (more : List ℕ) → IsGoing rules form b n s → IfErr answer (λ x. HoldsAt rules (Some x) false form (b ++ (f ++ 10 ∷ more)) n u)
  whole_fails s u f (Ok r) none short free room same refuses form b n more h = tt
  whole_fails {T = T} s u f (Err x) none short free room same refuses form b n more h =
      let going : IsGoing rules form (b ++ f) n (grown s f) = going_grows rules form b f n s (grown s f) h (whole_grows s f none short) free (omega arith) in
      let there : HoldsAt rules (Some x) false form ((b ++ f) ++ 10 ∷ more) n (counted (grown s f)) = line_fails rules {T = T} (grown s f) (counted (grown s f)) (Err x) refl refuses room form (b ++ f) n more going in
      subst (λ bytes. HoldsAt rules (Some x) false form bytes n u) (append_assoc b f (10 ∷ more))
      (holds_alike x form ((b ++ f) ++ 10 ∷ more) n (counted (grown s f)) u (ap (λ (t : ReaderState E K). t.form) same) (ap (λ (t : ReaderState E K). t.waiting) same) there)

  -- a whole line that is too long wasn't taken
  pub whole_long : (s : ReaderState E K) (f : List ℕ) → s.line ≡ [] → LINE_BYTES < length f → All (λ b. b ≢ 10) f → s.count + length f < LOG_BYTES
      → (form : LogForm) (b : List ℕ) (n : ℕ) (more : List ℕ) → IsGoing rules form b n s → HoldsAt rules (Some (fault.LongLine s.number)) false form (b ++ (f ++ 10 ∷ more)) n s
  whole_long s f none long free room form b n more h =
      let too_long : IsTooLong s f (fault.LongLine s.number) = record { long = omega (arith, long); is = refl } in
      append_fails rules {T = ℕ} s s f (Err (fault.LongLine s.number)) refl (λ is. too_long) free (omega arith) form b n (10 ∷ more) h

  refuses_alike : (s t : ReaderState E K) (m : Line S) (x : LogFault) → s.number ≡ t.number → s.read ≡ t.read → s.met ≡ t.met → Refuses rules s m x → Refuses rules t m x
  refuses_alike s t Blank x n d e h = h
  refuses_alike s t (VersionLine None) x n d e h = h ∙ ap (λ (k : ℕ). fault.Version k) n
  refuses_alike s t (VersionLine (Some v)) x n d e h = h
  refuses_alike s t (Event a) x n d e (inl h) = inl (omega (arith, h.0, d), h.1 ∙ ap (λ (k : ℕ). fault.LogLimit k) n)
  refuses_alike s t (Event a) x n d e (inr h) = inr (
    omega (arith, h.0, d),
    (λ room. h.1 (subst (λ (met : K). rules.has_room met a) (sym e) room)),
    h.2 ∙ ap (λ (k : ℕ). fault.TooManySessions k) n,
  )
  refuses_alike s t NoEvent x n d e h = h ∙ ap (λ (k : ℕ). fault.Syntax k) n

  -- a line that is refused where the number and the events are the same
  pub refuses_there : {T : Type 0} (s t : ReaderState E K) (m : Line S) (answer : Result T LogFault) → s.number ≡ t.number → s.read ≡ t.read → s.met ≡ t.met → LineSays rules t.form t.version t.number t.line m
      → IfErr answer (λ x. IsLogFault x → Refuses rules s m x) → IfErr answer (λ x. IsLogFault x → RefusesLine rules t x)
  refuses_there s t m (Ok r) n d e says h = tt
  refuses_there s t m (Err x) n d e says h = λ is. record { meaning = m; says = says; refuses = refuses_alike s t m x n d e (h is) }
