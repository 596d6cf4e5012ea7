-- What a reader holds behind each step.
use Rattle.std.proofs.Common.{Result, Ok, Err, IfErr, OnOk, OnErr, ◌≡◌, ◌≢◌, ◌<◌, ◌≤◌, ◌+◌, ◌++◌, Bool, true, false, List, ℕ, length, [], ◌∷◌, All, arith, sym, refl, ap, ◌∙◌, subst, take, drop, append-nil, append_assoc, length-append, Option, Some, None, zero, suc, ◌⊎◌, inl, inr, slice_index}
use Rattle.std.proofs.lemmas.Bool.Decides.{nat_tests}
use Rattle.msc_base.specs.declared.limits.TheConstants.Limits.{LINE_BYTES, LOG_BYTES}
use Rattle.event_log.specs.Faults.{IsLogFault}
use Rattle.event_log.specs.Lines.{Cut, nothing_cut, cut_of, decided, decided_tail, is_within, lines_of}
use Rattle.event_log.specs.Meanings.{LineSays}
use Rattle.event_log.specs.RuledLogs.{Stage, first_stage, After, BreaksLog, Passes, HasLineFault, too_long, of_meaning, PassesLines, Reaches, limited, LogOf}
use Rattle.event_log.specs.RuledStates.{ReaderState, HandsOut, StandsAt, next_line, Takes, Refuses, TakesLine, RefusesLine, Grows, IsTooLong, counted, with_met, IsGoing, IsSettled, IsWanting, HoldsAt}
use Rattle.event_log.specs.declared.event.LogFault.{LogFault}
use Rattle.event_log.specs.declared.event.LogFault.TheVariants as fault
use Rattle.event_log.specs.declared.event.LogForm.{LogForm}
use Rattle.event_log.specs.declared.event.Version.{Version}
use Rattle.event_log.specs.declared.line.Line.{Line}
use Rattle.event_log.specs.declared.line.Line.TheVariants.{Blank, VersionLine, Event, NoEvent}
use Rattle.event_log.proofs.Cuts.{with_append, with_free, short_line, too_long_line, within_is, beyond_is, lines_within, lines_beyond, lines_grow, take_front}
use Rattle.event_log.proofs.Readings.{reading_pass, reading_fault, fault_stays, reading_reaches, reach_stays}
use Rattle.event_log.specs.Rules.{Rules}

-- a text cut at its first line feed
pub cut_there : (n : ℕ) (rest prefix behind after : List ℕ) → n < length rest → prefix ≡ take n rest → behind ≡ drop n rest → after ≡ drop 1 behind → slice_index rest n ≡ 10 → rest ≡ prefix ++ 10 ∷ after
cut_there n rest prefix behind after lt f b a ten = rw (f, a, b) (cut_at n rest lt ten)
  where
    cut_at : (k : ℕ) (xs : List ℕ) → k < length xs → slice_index xs k ≡ 10 → xs ≡ take k xs ++ 10 ∷ drop 1 (drop k xs)
    cut_at k [] lt ten = absurd (omega arith)
    cut_at zero (x ∷ xs) lt ten = ap (λ (y : ℕ). y ∷ xs) ten
    cut_at (suc k) (x ∷ xs) lt ten = ap (λ (ys : List ℕ). x ∷ ys) (cut_at k xs (omega arith) ten)

module _ {S E K : Type 0} (rules : Rules S E K) where
  -- a fault that is decided stays, whatever follows
  limited_some : (b : List ℕ) (t : Stage E K) (found : Option LogFault) (x : LogFault) (w : Bool) → is_within b ≡ w → Some x ≡ limited b t found → (found ≡ Some x) ⊎ ((found ≡ None) × (w ≡ false) × (x ≡ fault.LogLimit t.number))
  limited_some b t (Some y) x w e h = inl (let same : y ≡ x = cc in ap (λ (z : LogFault). Some z) same)
  limited_some b t None x true e h = let none : Some x ≡ None = h ∙ (rw e refl) in absurd (cc)
  limited_some b t None x false e h = let limit : Some x ≡ Some (fault.LogLimit t.number) = h ∙ (rw e refl) in let same : x ≡ fault.LogLimit t.number = cc in inr (refl, refl, same)

  beyond_less : (b : List ℕ) → is_within b ≡ false → LOG_BYTES < length b
  beyond_less b e = grind (arith, nat_tests)

  same_lines : (g : Bool) (b c : List ℕ) → LOG_BYTES < length b → lines_of true b ≡ lines_of g (b ++ c)
  same_lines g b c lt =
      let far : LOG_BYTES < length (b ++ c) = omega (arith, length-append b c) in
      let prefix : take LOG_BYTES (b ++ c) ≡ take LOG_BYTES b = take_front LOG_BYTES b c (omega arith) in
      lines_beyond true b lt ∙ ap (λ (t : List ℕ). decided true t) (sym prefix) ∙ sym (lines_beyond g (b ++ c) far)

  pub limited_beyond : (b : List ℕ) (t : Stage E K) → LOG_BYTES < length b → limited b t None ≡ Some (fault.LogLimit t.number)
  limited_beyond b t lt = rw (beyond_is b lt) refl

  pub limited_within : (b : List ℕ) (t : Stage E K) (found : Option LogFault) → length b ≤ LOG_BYTES → found ≡ limited b t found
  limited_within b t (Some x) le = refl
  limited_within b t None le = rw (within_is b le) refl

  pub log_stays : (form : LogForm) (g : Bool) (b c : List ℕ) (es : List E) (x : LogFault) → LogOf rules form true b es (Some x) → LogOf rules form g (b ++ c) es (Some x)
  log_stays form g b c es x h = elim (limited_some b h.stage h.found x (is_within b) refl h.fault_is) [
    | inl e ↦ record {
      stage = h.stage;
      found = Some x;
      reads = fault_stays rules form (first_stage rules) (lines_of true b) (lines_of g (b ++ c)) h.stage x (lines_grow g b c) (subst (λ f. PassesLines rules form (first_stage rules) (lines_of true b) h.stage f) e h.reads);
      events_are = h.events_are;
      fault_is = refl;
    }
    | inr e ↦
        let lt : LOG_BYTES < length b = beyond_less b e.1 in
        let far : LOG_BYTES < length (b ++ c) = omega (arith, length-append b c, lt) in
        record {
          stage = h.stage;
          found = None;
          reads = subst (λ f. PassesLines rules form (first_stage rules) (lines_of g (b ++ c)) h.stage f) e.0 (subst (λ ls. PassesLines rules form (first_stage rules) ls h.stage h.found) (same_lines g b c lt) h.reads);
          events_are = h.events_are;
          fault_is = ap (λ (z : LogFault). Some z) e.2 ∙ sym (limited_beyond (b ++ c) h.stage far);
        }
  ]

  settled_stays : (form : LogForm) (b c : List ℕ) (n : ℕ) (x : LogFault) (s : ReaderState E K) → IsSettled rules form true b n (Some x) s → IsSettled rules form true (b ++ c) n (Some x) s
  settled_stays form b c n x s h = record { form_is = h.form_is; events = h.events; log = log_stays form true b c h.events x h.log; hands = h.hands }

  wanting_stays : (form : LogForm) (g : Bool) (b c : List ℕ) (n : ℕ) (s : ReaderState E K) → IsWanting rules form true b n s → IsWanting rules form g (b ++ c) n s
  wanting_stays form g b c n s h = record {
    form_is = h.form_is;
    stage = h.stage;
    reaches = reach_stays rules form (first_stage rules) (lines_of true b) (lines_of g (b ++ c)) h.stage (lines_grow g b c) h.reaches;
    hands = h.hands;
  }

  -- with a fault the reader holds the same of whatever it is fed
  pub holds_on : (form : LogForm) (b c : List ℕ) (n : ℕ) (x : LogFault) (s : ReaderState E K) → HoldsAt rules (Some x) false form b n s → HoldsAt rules (Some x) false form (b ++ c) n s
  holds_on form b c n fault.NoMemory s h = wanting_stays form true b c n s h
  holds_on form b c n x s h = settled_stays form b c n x s h

  -- with a fault the reader holds the same of the whole text
  pub holds_end : (form : LogForm) (b : List ℕ) (n : ℕ) (x : LogFault) (s : ReaderState E K) → HoldsAt rules (Some x) false form b n s → HoldsAt rules (Some x) true form b n s
  holds_end form b n fault.NoMemory s h = subst (λ t. IsWanting rules form false t n s) (append-nil b) (wanting_stays form false b [] n s h)
  holds_end form b n x s h = record { form_is = h.form_is; events = h.events; log = subst (λ t. LogOf rules form false t h.events (Some x)) (append-nil b) (log_stays form false b [] h.events x h.log); hands = h.hands }

  -- nothing has been fed
  pub going_first : (form : LogForm) (s : ReaderState E K) → s.form ≡ form → s.version ≡ (first_stage rules).version → s.number ≡ 1 → s.read ≡ 0 → s.met ≡ rules.none_met → s.waiting ≡ [] → s.line ≡ [] → s.count ≡ 0 → IsGoing rules form [] 0 s
  going_first form s f v k d m w l c = record {
    form_is = f;
    stage = (first_stage rules);
    reads = (refl, refl);
    stands = record { version_is = v; number_is = k; read_is = d; met_is = m; events = record { handed = []; are = sym w; count = refl } };
    line_is = l;
    short = omega (arith, ap length l);
    count_is = c;
    within = omega (arith, c);
  }

  -- the decided lines of a text that goes on and whose last line isn't too long are those that have ended
  pub going_lines : (b : List ℕ) → length (cut_of b).tail ≤ LINE_BYTES → length b ≤ LOG_BYTES → lines_of true b ≡ (cut_of b).ended
  going_lines b short le = lines_within true b le ∙ ap (λ (ls : List (List ℕ)). (cut_of b).ended ++ ls) (short_line (cut_of b).tail short) ∙ append-nil (cut_of b).ended

  -- what the decided lines of a text tell at a state in which the log goes on
  pub settled_at : (form : LogForm) (b text : List ℕ) (g : Bool) (n : ℕ) (s : ReaderState E K) (x found : Option LogFault) (h : IsGoing rules form b n s)
      → PassesLines rules form (first_stage rules) (lines_of g text) h.stage found → x ≡ limited text h.stage found → IsSettled rules form g text n x s
  settled_at form b text g n s x found h reads is = record {
    form_is = h.form_is;
    events = h.stage.events;
    log = record { stage = h.stage; found = found; reads = reads; events_are = refl; fault_is = is };
    hands = h.stands.events;
  }

  -- no fault is decided so far
  pub going_log : (form : LogForm) (b : List ℕ) (n : ℕ) (s : ReaderState E K) → IsGoing rules form b n s → IsSettled rules form true b n None s
  going_log form b n s h =
      let short : length (cut_of b).tail ≤ LINE_BYTES = subst (λ (t : List ℕ). length t ≤ LINE_BYTES) h.line_is h.short in
      let le : length b ≤ LOG_BYTES = omega (arith, h.count_is, h.within) in
      settled_at form b b true n s None None h (subst (λ ls. PassesLines rules form (first_stage rules) ls h.stage None) (sym (going_lines b short le)) h.reads) (limited_within b h.stage None le)

  pub settled_wants : (form : LogForm) (g : Bool) (b : List ℕ) (n : ℕ) (x : Option LogFault) (s : ReaderState E K) → IsSettled rules form g b n x s → IsWanting rules form g b n s
  settled_wants form g b n x s h = record {
    form_is = h.form_is;
    stage = h.log.stage;
    reaches = subst (λ ls. Reaches rules form (first_stage rules) ls h.log.stage) (append-nil (lines_of g b)) (reading_reaches rules form (first_stage rules) (lines_of g b) [] h.log.stage h.log.found h.log.reads);
    hands = subst (λ (es : List E). HandsOut es n s.waiting) h.log.events_are h.hands;
  }

  -- where memory is wanting, what has been read is some of the log, whatever follows
  pub going_wants : (form : LogForm) (g : Bool) (b c : List ℕ) (n : ℕ) (s : ReaderState E K) → IsGoing rules form b n s → IsWanting rules form g (b ++ c) n s
  going_wants form g b c n s h = wanting_stays form g b c n s (settled_wants form true b n None s (going_log form b n s h))

  cut_front : (b f : List ℕ) → All (λ x. x ≢ 10) f → cut_of (b ++ f) ≡ record { ended = (cut_of b).ended; tail = (cut_of b).tail ++ f }
  cut_front b f free = with_append nothing_cut b f ∙ with_free (cut_of b) f free

  cut_end : (b : List ℕ) → cut_of (b ++ 10 ∷ []) ≡ record { ended = (cut_of b).ended ++ (cut_of b).tail ∷ []; tail = [] }
  cut_end b = with_append nothing_cut b (10 ∷ [])

  -- bytes of a line have been taken
  pub going_grows : (form : LogForm) (b f : List ℕ) (n : ℕ) (s t : ReaderState E K) → IsGoing rules form b n s → Grows s f t → All (λ x. x ≢ 10) f → s.count + length f ≤ LOG_BYTES → IsGoing rules form (b ++ f) n t
  going_grows form b f n s t h g free room =
      let cut = cut_front b f free in
      let line : s.line ++ f ≡ (cut_of (b ++ f)).tail = ap (λ (l : List ℕ). l ++ f) h.line_is ∙ sym (ap (λ (c : Cut). c.tail) cut) in
      subst (λ u. IsGoing rules form (b ++ f) n u) (sym g.is) (record {
        form_is = h.form_is;
        stage = h.stage;
        reads = subst (λ ls. PassesLines rules form (first_stage rules) ls h.stage None) (sym (ap (λ (c : Cut). c.ended) cut)) h.reads;
        stands = record { version_is = h.stands.version_is; number_is = h.stands.number_is; read_is = h.stands.read_is; met_is = h.stands.met_is; events = h.stands.events };
        line_is = line;
        short = omega (arith, g.short, length-append s.line f);
        count_is = omega (arith, h.count_is, length-append b f);
        within = omega (arith, room);
      })

  -- bytes of a line made it too long
  going_long : (form : LogForm) (b f : List ℕ) (n : ℕ) (s : ReaderState E K) (x : LogFault) → IsGoing rules form b n s → IsTooLong s f x → All (λ y. y ≢ 10) f → s.count + length f ≤ LOG_BYTES
      → IsSettled rules form true (b ++ f) n (Some x) s
  going_long form b f n s x h g free room =
      let le : length (b ++ f) ≤ LOG_BYTES = omega (arith, h.count_is, length-append b f) in
      let line = (cut_of b).tail ++ f in
      let long : LINE_BYTES < length line = omega (arith, g.long, ap length h.line_is, length-append (cut_of b).tail f) in
      let is : lines_of true (b ++ f) ≡ (cut_of b).ended ++ line ∷ [] =
      lines_within true (b ++ f) le ∙ ap (λ (c : Cut). c.ended ++ decided_tail true c.tail) (cut_front b f free) ∙ ap (λ (ls : List (List ℕ)). (cut_of b).ended ++ ls) (too_long_line line long) in
      let found : HasLineFault rules form h.stage line x = too_long long (g.is ∙ ap (λ (k : ℕ). fault.LongLine k) h.stands.number_is) in
      settled_at form b (b ++ f) true n s (Some x) (Some x) h (subst (λ ls. PassesLines rules form (first_stage rules) ls h.stage (Some x)) (sym is) (reading_fault rules form (first_stage rules) (cut_of b).ended line h.stage x h.reads found)) refl

  handed_more : (es : List E) (n : ℕ) (w : List E) (e : E) → HandsOut es n w → HandsOut (es ++ e ∷ []) n (w ++ e ∷ [])
  handed_more es n w e h = record { handed = h.handed; are = ap (λ (xs : List E). xs ++ e ∷ []) h.are ∙ append_assoc h.handed w (e ∷ []); count = h.count }

  -- a stage behind this one, at which the state stands
  pub record Stands (t : Stage E K) (m : Line S) (n : ℕ) (s : ReaderState E K) : Type 0 where
    pub stage : Stage E K
    pub after : After rules t m stage
    pub stands : StandsAt stage n s

  stands_next : (t : Stage E K) (n : ℕ) (s u : ReaderState E K) (m : Line S) → StandsAt t n s → Takes rules s m u → Stands t m n u
  stands_next t n s u Blank h k = subst (λ v. Stands t Blank n v) (sym k) (record {
    stage = record { version = t.version; number = t.number + 1; events = t.events; met = t.met };
    after = refl;
    stands = record { version_is = h.version_is; number_is = ap (λ (i : ℕ). i + 1) h.number_is; read_is = h.read_is; met_is = h.met_is; events = h.events };
  })
  stands_next t n s u (VersionLine None) h k = absurd k
  stands_next t n s u (VersionLine (Some v)) h k = subst (λ w. Stands t (VersionLine (Some v)) n w) (sym k) (record {
    stage = record { version = v; number = t.number + 1; events = t.events; met = t.met };
    after = refl;
    stands = record { version_is = refl; number_is = ap (λ (i : ℕ). i + 1) h.number_is; read_is = h.read_is; met_is = h.met_is; events = h.events };
  })
  stands_next t n s u (Event a) h k =
      let e : E = rules.event_at a s.number in
      let d : E = rules.event_at a t.number in
      let same : e ≡ d = ap (λ (i : ℕ). rules.event_at a i) h.number_is in
      let more : HandsOut (t.events ++ d ∷ []) n (s.waiting ++ e ∷ []) = subst (λ (f : E). HandsOut (t.events ++ d ∷ []) n (s.waiting ++ f ∷ [])) (sym same) (handed_more t.events n s.waiting d h.events) in
      subst (λ w. Stands t (Event a) n w) (sym k.1) (record {
        stage = record { version = t.version; number = t.number + 1; events = t.events ++ d ∷ []; met = rules.with_event t.met a };
        after = (omega (arith, k.0, h.read_is), refl, subst (λ (met : K). rules.has_room met a) h.met_is k.2);
        stands = record {
          version_is = h.version_is;
          number_is = ap (λ (i : ℕ). i + 1) h.number_is;
          read_is = omega (arith, h.read_is, length-append t.events (d ∷ []));
          met_is = ap (λ (met : K). rules.with_event met a) h.met_is;
          events = more;
        };
      })
  stands_next t n s u NoEvent h k = absurd k

  breaks_too : (t : Stage E K) (n : ℕ) (s : ReaderState E K) (m : Line S) (x : LogFault) → StandsAt t n s → Refuses rules s m x → BreaksLog rules t m x
  breaks_too t n s Blank x h k = k
  breaks_too t n s (VersionLine None) x h k = k ∙ ap (λ (i : ℕ). fault.Version i) h.number_is
  breaks_too t n s (VersionLine (Some v)) x h k = k
  breaks_too t n s (Event a) x h (inl k) = inl (omega (arith, k.0, h.read_is), k.1 ∙ ap (λ (i : ℕ). fault.LogLimit i) h.number_is)
  breaks_too t n s (Event a) x h (inr k) = inr (
    omega (arith, k.0, h.read_is),
    (λ room. k.1 (subst (λ (met : K). rules.has_room met a) (sym h.met_is) room)),
    k.2 ∙ ap (λ (i : ℕ). fault.TooManySessions i) h.number_is,
  )
  breaks_too t n s NoEvent x h k = k ∙ ap (λ (i : ℕ). fault.Syntax i) h.number_is

  says_there : (form : LogForm) (t : Stage E K) (n : ℕ) (s : ReaderState E K) (line : List ℕ) (m : Line S) → s.form ≡ form → StandsAt t n s → s.line ≡ line → LineSays rules s.form s.version s.number s.line m → LineSays rules form t.version t.number line m
  says_there form t n s line m f h l says =
      subst (λ g. LineSays rules g t.version t.number line m) f (subst (λ v. LineSays rules s.form v t.number line m) h.version_is
      (subst (λ k. LineSays rules s.form s.version k line m) h.number_is (subst (λ b. LineSays rules s.form s.version s.number b m) l says)))

  -- the state has taken its line
  pub record Passed (form : LogForm) (t : Stage E K) (n : ℕ) (line : List ℕ) (s : ReaderState E K) : Type 0 where
    pub stage : Stage E K
    pub passes : Passes rules form t line stage
    pub stands : StandsAt stage n s

  pub passed : (form : LogForm) (t : Stage E K) (n : ℕ) (s u : ReaderState E K) (line : List ℕ) → s.form ≡ form → StandsAt t n s → s.line ≡ line → length line ≤ LINE_BYTES → TakesLine rules s u → Passed form t n line u
  passed form t n s u line f h l short k =
      let r = stands_next t n s u k.meaning h k.takes in
      record {
        stage = r.stage;
        passes = record { short = short; meaning = k.meaning; says = says_there form t n s line k.meaning f h l k.says; after = r.after };
        stands = r.stands;
      }

  pub refused : (form : LogForm) (t : Stage E K) (n : ℕ) (s : ReaderState E K) (line : List ℕ) (x : LogFault) → s.form ≡ form → StandsAt t n s → s.line ≡ line → length line ≤ LINE_BYTES → RefusesLine rules s x → HasLineFault rules form t line x
  refused form t n s line x f h l short k = of_meaning short k.meaning (says_there form t n s line k.meaning f h l k.says) (breaks_too t n s k.meaning x h k.refuses)

  -- what a line that is taken leaves
  pub record Left (s u : ReaderState E K) : Type 0 where
    pub form_is : u.form ≡ s.form
    pub line_is : u.line ≡ []
    pub count_is : u.count ≡ s.count
    pub fault_is : u.fault ≡ s.fault
    pub finished_is : u.finished ≡ s.finished

  left_next : (s u : ReaderState E K) (v : Version) (d : ℕ) (m : K) (w : List E) → u ≡ next_line s v d m w → Left s u
  left_next s u v d m w e = record {
    form_is = ap (λ (x : ReaderState E K). x.form) e;
    line_is = ap (λ (x : ReaderState E K). x.line) e;
    count_is = ap (λ (x : ReaderState E K). x.count) e;
    fault_is = ap (λ (x : ReaderState E K). x.fault) e;
    finished_is = ap (λ (x : ReaderState E K). x.finished) e;
  }

  left_by : (s u : ReaderState E K) (m : Line S) → Takes rules s m u → Left s u
  left_by s u Blank k = left_next s u s.version s.read s.met s.waiting k
  left_by s u (VersionLine None) k = absurd k
  left_by s u (VersionLine (Some v)) k = left_next s u v s.read s.met s.waiting k
  left_by s u (Event a) k = left_next s u s.version (s.read + 1) (rules.with_event s.met a) (s.waiting ++ rules.event_at a s.number ∷ []) k.1
  left_by s u NoEvent k = absurd k

  pub left_line : (s u : ReaderState E K) → TakesLine rules s u → Left s u
  left_line s u k = left_by s u k.meaning k.takes

  stands_counted : (t : Stage E K) (n : ℕ) (s : ReaderState E K) → StandsAt t n s → StandsAt t n (counted s)
  stands_counted t n s h = record { version_is = h.version_is; number_is = h.number_is; read_is = h.read_is; met_is = h.met_is; events = h.events }

  -- a line has ended, and was taken
  pub going_ends : (form : LogForm) (b : List ℕ) (n : ℕ) (s u : ReaderState E K) → IsGoing rules form b n s → TakesLine rules (counted s) u → s.count < LOG_BYTES → IsGoing rules form (b ++ 10 ∷ []) n u
  going_ends form b n s u h k lt =
      let cut = cut_end b in
      let short : length (cut_of b).tail ≤ LINE_BYTES = subst (λ (t : List ℕ). length t ≤ LINE_BYTES) h.line_is h.short in
      let p = passed form h.stage n (counted s) u (cut_of b).tail h.form_is (stands_counted h.stage n s h.stands) h.line_is short k in
      let r = left_line (counted s) u k in
      record {
        form_is = r.form_is ∙ h.form_is;
        stage = p.stage;
        reads = subst (λ ls. PassesLines rules form (first_stage rules) ls p.stage None) (sym (ap (λ (c : Cut). c.ended) cut)) (reading_pass rules form (first_stage rules) (cut_of b).ended (cut_of b).tail h.stage p.stage h.reads p.passes);
        stands = p.stands;
        line_is = r.line_is ∙ sym (ap (λ (c : Cut). c.tail) cut);
        short = omega (arith, ap length r.line_is);
        count_is = omega (arith, r.count_is, h.count_is, length-append b (10 ∷ []));
        within = omega (arith, r.count_is);
      }

  -- a line has ended, and was refused
  going_refused : (form : LogForm) (b : List ℕ) (n : ℕ) (s : ReaderState E K) (x : LogFault) → IsGoing rules form b n s → RefusesLine rules (counted s) x → s.count < LOG_BYTES → IsSettled rules form true (b ++ 10 ∷ []) n (Some x) s
  going_refused form b n s x h k lt =
      let cut = cut_end b in
      let short : length (cut_of b).tail ≤ LINE_BYTES = subst (λ (t : List ℕ). length t ≤ LINE_BYTES) h.line_is h.short in
      let le : length (b ++ 10 ∷ []) ≤ LOG_BYTES = omega (arith, h.count_is, length-append b (10 ∷ [])) in
      let is : lines_of true (b ++ 10 ∷ []) ≡ (cut_of b).ended ++ (cut_of b).tail ∷ [] =
      going_lines (b ++ 10 ∷ []) (omega (arith, ap (λ (c : Cut). length c.tail) cut)) le ∙ ap (λ (c : Cut). c.ended) cut in
      let found = refused form h.stage n (counted s) (cut_of b).tail x h.form_is (stands_counted h.stage n s h.stands) h.line_is short k in
      settled_at form b (b ++ 10 ∷ []) true n s (Some x) (Some x) h (subst (λ ls. PassesLines rules form (first_stage rules) ls h.stage (Some x)) (sym is) (reading_fault rules form (first_stage rules) (cut_of b).ended (cut_of b).tail h.stage x h.reads found)) refl

  -- bytes of a line weren't taken
  pub append_fails : {T : Type 0} (s t : ReaderState E K) (f : List ℕ) (answer : Result T LogFault) → OnErr answer (t ≡ s) → IfErr answer (λ x. IsLogFault x → IsTooLong s f x) → All (λ y. y ≢ 10) f
      → s.count + length f ≤ LOG_BYTES → (form : LogForm) (b : List ℕ) (n : ℕ) (more : List ℕ) → IsGoing rules form b n s → IfErr answer (λ x. HoldsAt rules (Some x) false form (b ++ (f ++ more)) n t)
  append_fails s t f (Ok r) same long free room form b n more h = tt
  append_fails s t f (Err fault.NoMemory) same long free room form b n more h = subst (λ u. IsWanting rules form true (b ++ (f ++ more)) n u) (sym same) (going_wants form true b (f ++ more) n s h)
  append_fails s t f (Err x) same long free room form b n more h =
      subst (λ u. IsSettled rules form true (b ++ (f ++ more)) n (Some x) u) (sym same)
      (subst (λ c. IsSettled rules form true c n (Some x) s) (append_assoc b f more) (settled_stays form (b ++ f) more n x s (going_long form b f n s x h (long tt) free room)))

  pub append_going : {T : Type 0} (s t : ReaderState E K) (f : List ℕ) (answer : Result T LogFault) → OnOk answer (Grows s f t) → All (λ y. y ≢ 10) f → s.count + length f ≤ LOG_BYTES
      → (form : LogForm) (b : List ℕ) (n : ℕ) → IsGoing rules form b n s → OnOk answer (IsGoing rules form (b ++ f) n t)
  append_going s t f (Ok r) grows free room form b n h = going_grows form b f n s t h grows free room
  append_going s t f (Err x) grows free room form b n h = tt

  -- what is wanting or settled stays so whatever has been met and counted
  counted_wants : (form : LogForm) (g : Bool) (b : List ℕ) (n : ℕ) (s : ReaderState E K) (met : K) → IsWanting rules form g b n s → IsWanting rules form g b n (with_met (counted s) met)
  counted_wants form g b n s met h = record { form_is = h.form_is; stage = h.stage; reaches = h.reaches; hands = h.hands }

  counted_settled : (form : LogForm) (g : Bool) (b : List ℕ) (n : ℕ) (x : Option LogFault) (s : ReaderState E K) (met : K) → IsSettled rules form g b n x s → IsSettled rules form g b n x (with_met (counted s) met)
  counted_settled form g b n x s met h = record { form_is = h.form_is; events = h.events; log = h.log; hands = h.hands }

  -- a line with its end was taken
  pub line_going : {T : Type 0} (s t : ReaderState E K) (answer : Result T LogFault) → OnOk answer (TakesLine rules (counted s) t) → s.count < LOG_BYTES
      → (form : LogForm) (b : List ℕ) (n : ℕ) → IsGoing rules form b n s → OnOk answer (IsGoing rules form (b ++ 10 ∷ []) n t)
  line_going s t (Ok r) takes lt form b n h = going_ends form b n s t h takes lt
  line_going s t (Err x) takes lt form b n h = tt

  -- a line with its end wasn't taken
  pub line_fails : {T : Type 0} (s t : ReaderState E K) (answer : Result T LogFault) → OnErr answer (t ≡ with_met (counted s) t.met) → IfErr answer (λ x. IsLogFault x → RefusesLine rules (counted s) x) → s.count < LOG_BYTES
      → (form : LogForm) (b : List ℕ) (n : ℕ) (more : List ℕ) → IsGoing rules form b n s → IfErr answer (λ x. HoldsAt rules (Some x) false form (b ++ 10 ∷ more) n t)
  line_fails s t (Ok r) same refuses lt form b n more h = tt
  line_fails s t (Err fault.NoMemory) same refuses lt form b n more h =
      subst (λ u. IsWanting rules form true (b ++ 10 ∷ more) n u) (sym same) (counted_wants form true (b ++ 10 ∷ more) n s t.met (going_wants form true b (10 ∷ more) n s h))
  line_fails s t (Err x) same refuses lt form b n more h =
      subst (λ u. IsSettled rules form true (b ++ 10 ∷ more) n (Some x) u) (sym same)
      (counted_settled form true (b ++ 10 ∷ more) n (Some x) s t.met (subst (λ c. IsSettled rules form true c n (Some x) s) (append_assoc b (10 ∷ []) more)
      (settled_stays form (b ++ 10 ∷ []) more n x s (going_refused form b n s x h (refuses tt) lt))))

  -- of the piece a prefix has been taken
  pub record HasTaken (old : ReaderState E K) (piece rest : List ℕ) (s : ReaderState E K) : Type 0 where
    pub taken : List ℕ
    pub are : piece ≡ taken ++ rest
    pub going : (form : LogForm) (b : List ℕ) (n : ℕ) → IsGoing rules form b n old → IsGoing rules form (b ++ taken) n s
    pub count_is : s.count ≡ old.count + length taken
    pub fault_is : s.fault ≡ old.fault
    pub finished_is : s.finished ≡ old.finished

  pub taken_none : (s : ReaderState E K) (piece : List ℕ) → HasTaken s piece piece s
  taken_none s piece = record {
    taken = [];
    are = refl;
    going = λ form b n h. subst (λ t. IsGoing rules form t n s) (sym (append-nil b)) h;
    count_is = omega arith;
    fault_is = refl;
    finished_is = refl;
  }

  -- one more line has been taken
  pub taken_line : {T : Type 0} (old s u : ReaderState E K) (piece rest f after : List ℕ) (answer : Result T LogFault) (v : T) → answer ≡ Ok v → HasTaken old piece rest s → rest ≡ f ++ 10 ∷ after
      → ((form : LogForm) (b : List ℕ) (n : ℕ) → IsGoing rules form b n s → OnOk answer (IsGoing rules form (b ++ (f ++ 10 ∷ [])) n u))
      → u.count ≡ s.count + length f + 1 → u.fault ≡ s.fault → u.finished ≡ s.finished → HasTaken old piece after u
  taken_line old s u piece rest f after answer v ok h e going count x fin =
      let tail = f ++ 10 ∷ [] in
      record {
        taken = h.taken ++ tail;
        are = h.are ∙ ap (λ (t : List ℕ). h.taken ++ t) (e ∙ sym (append_assoc f (10 ∷ []) after)) ∙ sym (append_assoc h.taken tail after);
        going = λ form b n g. subst (λ t. IsGoing rules form t n u) (append_assoc b h.taken tail) (subst (λ r. OnOk r (IsGoing rules form ((b ++ h.taken) ++ tail) n u)) ok (going form (b ++ h.taken) n (h.going form b n g)));
        count_is = omega (arith, count, h.count_is, length-append h.taken tail, length-append f (10 ∷ []));
        fault_is = x ∙ h.fault_is;
        finished_is = fin ∙ h.finished_is;
      }

  -- the next line wasn't taken
  pub taken_fails : {T : Type 0} (old s u : ReaderState E K) (piece rest f after : List ℕ) (answer : Result T LogFault) → HasTaken old piece rest s → rest ≡ f ++ 10 ∷ after
      → ((form : LogForm) (b : List ℕ) (n : ℕ) (more : List ℕ) → IsGoing rules form b n s → IfErr answer (λ x. HoldsAt rules (Some x) false form (b ++ (f ++ 10 ∷ more)) n u))
      → (form : LogForm) (b : List ℕ) (n : ℕ) → IsGoing rules form b n old → IfErr answer (λ x. HoldsAt rules (Some x) false form (b ++ piece) n u)
  taken_fails old s u piece rest f after answer h e fails form b n g =
      let all : (b ++ h.taken) ++ (f ++ 10 ∷ after) ≡ b ++ piece = append_assoc b h.taken (f ++ 10 ∷ after) ∙ ap (λ (t : List ℕ). b ++ (h.taken ++ t)) (sym e) ∙ ap (λ (t : List ℕ). b ++ t) (sym h.are) in
      subst (λ t. IfErr answer (λ x. HoldsAt rules (Some x) false form t n u)) all (fails form (b ++ h.taken) n after (h.going form b n g))

  -- the rest has been taken
  pub taken_rest : {T : Type 0} (old s u : ReaderState E K) (piece rest : List ℕ) (answer : Result T LogFault) → HasTaken old piece rest s
      → ((form : LogForm) (b : List ℕ) (n : ℕ) → IsGoing rules form b n s → OnOk answer (IsGoing rules form (b ++ rest) n u))
      → (form : LogForm) (b : List ℕ) (n : ℕ) → IsGoing rules form b n old → OnOk answer (IsGoing rules form (b ++ piece) n u)
  taken_rest old s u piece rest answer h going form b n g =
      let all : (b ++ h.taken) ++ rest ≡ b ++ piece = append_assoc b h.taken rest ∙ ap (λ (t : List ℕ). b ++ t) (sym h.are) in
      subst (λ t. OnOk answer (IsGoing rules form t n u)) all (going form (b ++ h.taken) n (h.going form b n g))

  pub rest_fails : {T : Type 0} (old s u : ReaderState E K) (piece rest : List ℕ) (answer : Result T LogFault) → HasTaken old piece rest s
      → ((form : LogForm) (b : List ℕ) (n : ℕ) (more : List ℕ) → IsGoing rules form b n s → IfErr answer (λ x. HoldsAt rules (Some x) false form (b ++ (rest ++ more)) n u))
      → (form : LogForm) (b : List ℕ) (n : ℕ) → IsGoing rules form b n old → IfErr answer (λ x. HoldsAt rules (Some x) false form (b ++ piece) n u)
  rest_fails old s u piece rest answer h fails form b n g =
      let all : (b ++ h.taken) ++ (rest ++ []) ≡ b ++ piece = ap (λ (t : List ℕ). (b ++ h.taken) ++ t) (append-nil rest) ∙ append_assoc b h.taken rest ∙ ap (λ (t : List ℕ). b ++ t) (sym h.are) in
      subst (λ t. IfErr answer (λ x. HoldsAt rules (Some x) false form t n u)) all (fails form (b ++ h.taken) n [] (h.going form b n g))
