-- What a reader's answers say.
use Rattle.std.proofs.Common.{Result, Ok, Err, IfErr, OnOk, OnErr, IfSome, MatchOption, ◌≡◌, ◌<◌, ◌≤◌, ◌+◌, ◌++◌, inl, inr, Bool, true, false, not, List, ℕ, length, [], ◌∷◌, arith, sym, refl, ap, ◌∙◌, subst, take, drop, append-nil, append_assoc, length-append, Option, Some, None, slice_get, zero, suc, option_to_list, map, ◌↔◌}
use Rattle.std.proofs.lemmas.List.{take_all, nil_from_length}
use Rattle.std.proofs.lemmas.Option.{slice_get_within}
use Rattle.msc_base.specs.declared.limits.TheConstants.Limits.{LINE_BYTES, LOG_BYTES}
use Rattle.event_log.specs.Faults.{IsLogFault}
use Rattle.event_log.specs.Lines.{cut_of, decided, last_line, lines_of}
use Rattle.msc_base.specs.Only.{Never, Only}
use Rattle.list_facts.proofs.Reading.{get_behind}
use Rattle.event_log.specs.RuledLogs.{Stage, first_stage, HasLineFault, PassesLines, Reaches, limited, LogOf, HoldsEvent}
use Rattle.event_log.specs.RuledStates.{ReaderState, HandsOut, TakesLine, RefusesLine, with_met, IsGoing, IsSettled, IsWanting, HoldsAt, Fed, IsFaultOf, IsAnswer}
use Rattle.event_log.specs.declared.event.LogFault.{LogFault}
use Rattle.event_log.specs.declared.event.LogFault.TheVariants as fault
use Rattle.event_log.specs.declared.event.LogForm.{LogForm}
use Rattle.event_log.proofs.Cuts.{whole_line, lines_within, lines_beyond, lines_grow, take_front}
use Rattle.event_log.proofs.Readings.{GoesOn, one_reading, reading_pass, reading_fault, reading_reaches, reach_stays, reached_first, reached_both, at_going_on}
use Rattle.event_log.proofs.Feeding.{going_log, settled_wants, going_wants, holds_on, holds_end, going_lines, limited_within, limited_beyond, passed, refused, left_line, settled_at}
use Rattle.event_log.specs.Rules.{Rules}

-- a text cut in two
pub split_there : (k : ℕ) (piece prefix back : List ℕ) → prefix ≡ take k piece → back ≡ drop k piece → piece ≡ prefix ++ back
split_there k piece prefix back f b = rw (f, b) (both k piece)
  where
    both : (j : ℕ) (xs : List ℕ) → xs ≡ take j xs ++ drop j xs
    both zero xs = refl
    both (suc j) [] = refl
    both (suc j) (x ∷ xs) = ap (λ (ys : List ℕ). x ∷ ys) (both j xs)

module _ {S E K : Type 0} (rules : Rules S E K) where
  -- a log has one list of events and one fault
  pub record SameLog (es ds : List E) (x y : Option LogFault) : Type 0 where
    pub events : es ≡ ds
    pub faults : x ≡ y

  pub one_log : (form : LogForm) (g : Bool) (b : List ℕ) (es ds : List E) (x y : Option LogFault) → LogOf rules form g b es x → LogOf rules form g b ds y → SameLog es ds x y
  one_log form g b es ds x y h k =
      let r = one_reading rules form (first_stage rules) (lines_of g b) h.stage k.stage h.found k.found h.reads k.reads in
      record {
        events = h.events_are ∙ ap (λ (t : Stage E K). t.events) r.stage ∙ sym k.events_are;
        faults = h.fault_is ∙ ap (λ (t : Stage E K). limited b t h.found) r.stage ∙ ap (λ (f : Option LogFault). limited b k.stage f) r.found_is ∙ sym k.fault_is;
      }

  -- the events of a log are those that its bytes hold
  held_event : (form : LogForm) (g : Bool) (b : List ℕ) (es : List E) (x : Option LogFault) → LogOf rules form g b es x → (n : ℕ) (e : E) → HoldsEvent rules form g b n e ↔ (slice_get es n ≡ Some e)
  held_event form g b es x h n e = (forth, back)
    where
      same : slice_get es n ≡ slice_get h.stage.events n
      same = ap (λ (xs : List E). slice_get xs n) h.events_are

      forth : HoldsEvent rules form g b n e → slice_get es n ≡ Some e
      forth k = same ∙ at_going_on rules k.stage.events h.stage.events n e (reached_first rules form (first_stage rules) (lines_of g b) h.stage k.stage h.found h.reads k.reaches) k.at

      back : slice_get es n ≡ Some e → HoldsEvent rules form g b n e
      back k = record {
        stage = h.stage;
        reaches = subst (λ ls. Reaches rules form (first_stage rules) ls h.stage) (append-nil (lines_of g b)) (reading_reaches rules form (first_stage rules) (lines_of g b) [] h.stage h.found h.reads);
        at = sym same ∙ k;
      }

  -- an event that the bytes hold stays the one of its number
  stays_on : (form : LogForm) (g : Bool) (b c : List ℕ) (n : ℕ) (e : E) → HoldsEvent rules form true b n e → HoldsEvent rules form g (b ++ c) n e
  stays_on form g b c n e h = record { stage = h.stage; reaches = reach_stays rules form (first_stage rules) (lines_of true b) (lines_of g (b ++ c)) h.stage (lines_grow g b c) h.reaches; at = h.at }

  pub event_stays : (form : LogForm) (b c : List ℕ) (n : ℕ) (e : E) → HoldsEvent rules form true b n e → HoldsEvent rules form true (b ++ c) n e
  event_stays form b c n e h = stays_on form true b c n e h

  pub event_stays_whole : (form : LogForm) (b : List ℕ) (n : ℕ) (e : E) → HoldsEvent rules form true b n e → HoldsEvent rules form false b n e
  event_stays_whole form b n e h = subst (λ (c : List ℕ). HoldsEvent rules form false c n e) (append-nil b) (stays_on form false b [] n e h)

  settled_answer : (form : LogForm) (g : Bool) (b : List ℕ) (n : ℕ) (x : Option LogFault) (s : ReaderState E K) → IsSettled rules form g b n x s → IsFaultOf rules form g b x
  settled_answer form g b n x s h = record {
    events = h.events;
    log = h.log;
    alone = λ es other k. let r = one_log form g b es h.events other x k h.log in (r.events, r.faults);
    held = held_event form g b h.events x h.log;
  }

  -- what the state holds is what the answer says
  pub holds_answer : (x : Option LogFault) (finished : Bool) (form : LogForm) (b : List ℕ) (n : ℕ) (s : ReaderState E K) → HoldsAt rules x finished form b n s → IsAnswer rules form (not finished) b x
  holds_answer None false form b n s h = settled_answer form true b n None s (going_log rules form b n s h)
  holds_answer None true form b n s h = settled_answer form false b n None s h
  holds_answer (Some fault.NoMemory) finished form b n s h = tt
  holds_answer (Some x) finished form b n s h = settled_answer form (not finished) b n (Some x) s h

  -- the answer of a reader that has been fed
  pub fed_answer : (x : Option LogFault) (finished : Bool) (form : LogForm) (b : List ℕ) (n : ℕ) (s : ReaderState E K) → s.fault ≡ x → s.finished ≡ finished → Fed rules form b n s → IsAnswer rules form (not finished) b x
  fed_answer x finished form b n s e f h = holds_answer x finished form b n s (subst (λ y. HoldsAt rules y finished form b n s) e (subst (λ y. HoldsAt rules s.fault y form b n s) f h))

  -- what a reader was fed, by its fault and whether it has finished
  pub fed_is : (x : Option LogFault) (finished : Bool) (form : LogForm) (b : List ℕ) (n : ℕ) (s : ReaderState E K) → s.fault ≡ x → s.finished ≡ finished → HoldsAt rules x finished form b n s → Fed rules form b n s
  fed_is x finished form b n s e f h = subst (λ y. HoldsAt rules s.fault y form b n s) (sym f) (subst (λ y. HoldsAt rules y finished form b n s) (sym e) h)

  pub is_fed : (x : Option LogFault) (finished : Bool) (form : LogForm) (b : List ℕ) (n : ℕ) (s : ReaderState E K) → s.fault ≡ x → s.finished ≡ finished → Fed rules form b n s → HoldsAt rules x finished form b n s
  is_fed x finished form b n s e f h = subst (λ y. HoldsAt rules y finished form b n s) e (subst (λ y. HoldsAt rules s.fault y form b n s) f h)

  -- two states with the same events that wait
  pub record SameWaiting (s t : ReaderState E K) : Type 0 where
    pub form_is : t.form ≡ s.form
    pub waiting_is : t.waiting ≡ s.waiting

  settled_same : (form : LogForm) (g : Bool) (b : List ℕ) (n : ℕ) (x : Option LogFault) (s t : ReaderState E K) → SameWaiting s t → IsSettled rules form g b n x s → IsSettled rules form g b n x t
  settled_same form g b n x s t e h = record { form_is = e.form_is ∙ h.form_is; events = h.events; log = h.log; hands = subst (λ w. HandsOut h.events n w) (sym e.waiting_is) h.hands }

  wanting_same : (form : LogForm) (g : Bool) (b : List ℕ) (n : ℕ) (s t : ReaderState E K) → SameWaiting s t → IsWanting rules form g b n s → IsWanting rules form g b n t
  wanting_same form g b n s t e h = record { form_is = e.form_is ∙ h.form_is; stage = h.stage; reaches = h.reaches; hands = subst (λ w. HandsOut h.stage.events n w) (sym e.waiting_is) h.hands }

  pub fault_same : (x : LogFault) (form : LogForm) (b : List ℕ) (n : ℕ) (s t : ReaderState E K) → SameWaiting s t → HoldsAt rules (Some x) false form b n s → HoldsAt rules (Some x) false form b n t
  fault_same fault.NoMemory form b n s t e h = wanting_same form true b n s t e h
  fault_same x form b n s t e h = settled_same form true b n (Some x) s t e h

  pub end_same : (x : Option LogFault) (form : LogForm) (b : List ℕ) (n : ℕ) (s t : ReaderState E K) → SameWaiting s t → HoldsAt rules x true form b n s → HoldsAt rules x true form b n t
  end_same None form b n s t e h = settled_same form false b n None s t e h
  end_same (Some fault.NoMemory) form b n s t e h = wanting_same form false b n s t e h
  end_same (Some x) form b n s t e h = settled_same form false b n (Some x) s t e h

  -- the first byte behind the limit
  pub limit_reached : (form : LogForm) (b piece prefix rest : List ℕ) (n : ℕ) (s : ReaderState E K) → IsGoing rules form (b ++ prefix) n s → piece ≡ prefix ++ rest → 0 < length rest → LOG_BYTES ≤ s.count
      → HoldsAt rules (Some (fault.LogLimit s.number)) false form (b ++ piece) n s
  limit_reached form b piece prefix rest n s h e some full =
      let text = b ++ prefix in
      let is : b ++ piece ≡ text ++ rest = ap (λ (t : List ℕ). b ++ t) e ∙ sym (append_assoc b prefix rest) in
      let le : length text ≤ LOG_BYTES = omega (arith, h.count_is, h.within) in
      let full_text : LOG_BYTES ≤ length text = omega (arith, h.count_is, full) in
      let far : LOG_BYTES < length (text ++ rest) = omega (arith, length-append text rest, some, full_text) in
      let short : length (cut_of text).tail ≤ LINE_BYTES = subst (λ (t : List ℕ). length t ≤ LINE_BYTES) h.line_is h.short in
      let front_is : take LOG_BYTES (text ++ rest) ≡ text = take_front LOG_BYTES text rest full_text ∙ take_all LOG_BYTES text le in
      let lines : lines_of true (text ++ rest) ≡ (cut_of text).ended =
      lines_beyond true (text ++ rest) far ∙ ap (λ (t : List ℕ). decided true t) front_is ∙ sym (lines_within true text le) ∙ going_lines rules text short le in
      let limit : Some (fault.LogLimit s.number) ≡ limited (text ++ rest) h.stage None =
      ap (λ (k : ℕ). Some (fault.LogLimit k)) h.stands.number_is ∙ sym (limited_beyond rules (text ++ rest) h.stage far) in
      subst (λ t. IsSettled rules form true t n (Some (fault.LogLimit s.number)) s) (sym is) (settled_at rules form text (text ++ rest) true n s (Some (fault.LogLimit s.number)) None h (subst (λ ls. PassesLines rules form (first_stage rules) ls h.stage None) (sym lines) h.reads) limit)

  -- the text ends, and its last line has its end
  pub ends_empty : (form : LogForm) (b : List ℕ) (n : ℕ) (s : ReaderState E K) → IsGoing rules form b n s → length s.line ≡ 0 → IsSettled rules form false b n None s
  ends_empty form b n s h e =
      let le : length b ≤ LOG_BYTES = omega (arith, h.count_is, h.within) in
      let tail : (cut_of b).tail ≡ [] = nil_from_length (cut_of b).tail (omega (arith, e, ap length h.line_is)) in
      let lines : lines_of false b ≡ (cut_of b).ended =
      lines_within false b le ∙ ap (λ (t : List ℕ). (cut_of b).ended ++ last_line t) tail ∙ append-nil (cut_of b).ended in
      settled_at rules form b b false n s None None h (subst (λ ls. PassesLines rules form (first_stage rules) ls h.stage None) (sym lines) h.reads) (limited_within rules b h.stage None le)

  last_lines : (b : List ℕ) → length b ≤ LOG_BYTES → 0 < length (cut_of b).tail → lines_of false b ≡ (cut_of b).ended ++ (cut_of b).tail ∷ []
  last_lines b le some = lines_within false b le ∙ ap (λ (ls : List (List ℕ)). (cut_of b).ended ++ ls) (whole_line (cut_of b).tail some)

  -- the text ends, and its last line is taken
  pub ends_line : {T : Type 0} (s u : ReaderState E K) (answer : Result T LogFault) → OnOk answer (TakesLine rules s u) → 0 < length s.line
      → (form : LogForm) (b : List ℕ) (n : ℕ) → IsGoing rules form b n s → OnOk answer (HoldsAt rules None true form b n u)
  ends_line s u (Ok v) k some form b n h =
      let le : length b ≤ LOG_BYTES = omega (arith, h.count_is, h.within) in
      let short : length (cut_of b).tail ≤ LINE_BYTES = subst (λ (t : List ℕ). length t ≤ LINE_BYTES) h.line_is h.short in
      let p = passed rules form h.stage n s u (cut_of b).tail h.form_is h.stands h.line_is short k in
      let r = left_line rules s u k in
      record {
        form_is = r.form_is ∙ h.form_is;
        events = p.stage.events;
        log = record {
          stage = p.stage;
          found = None;
          reads = subst (λ ls. PassesLines rules form (first_stage rules) ls p.stage None) (sym (last_lines b le (omega (arith, some, ap length h.line_is))))
              (reading_pass rules form (first_stage rules) (cut_of b).ended (cut_of b).tail h.stage p.stage h.reads p.passes);
          events_are = refl;
          fault_is = limited_within rules b p.stage None le;
        };
        hands = p.stands.events;
      }
  ends_line s u (Err x) k some form b n h = tt

  end_refused : (form : LogForm) (b : List ℕ) (n : ℕ) (s : ReaderState E K) (x : LogFault) → IsGoing rules form b n s → RefusesLine rules s x → 0 < length s.line → IsSettled rules form false b n (Some x) s
  end_refused form b n s x h k some =
      let le : length b ≤ LOG_BYTES = omega (arith, h.count_is, h.within) in
      let short : length (cut_of b).tail ≤ LINE_BYTES = subst (λ (t : List ℕ). length t ≤ LINE_BYTES) h.line_is h.short in
      let found : HasLineFault rules form h.stage (cut_of b).tail x = refused rules form h.stage n s (cut_of b).tail x h.form_is h.stands h.line_is short k in
      settled_at rules form b b false n s (Some x) (Some x) h (subst (λ ls. PassesLines rules form (first_stage rules) ls h.stage (Some x)) (sym (last_lines b le (omega (arith, some, ap length h.line_is)))) (reading_fault rules form (first_stage rules) (cut_of b).ended (cut_of b).tail h.stage x h.reads found)) refl

  met_wants : (form : LogForm) (g : Bool) (b : List ℕ) (n : ℕ) (s : ReaderState E K) (met : K) → IsWanting rules form g b n s → IsWanting rules form g b n (with_met s met)
  met_wants form g b n s met h = record { form_is = h.form_is; stage = h.stage; reaches = h.reaches; hands = h.hands }

  met_settled : (form : LogForm) (g : Bool) (b : List ℕ) (n : ℕ) (x : Option LogFault) (s : ReaderState E K) (met : K) → IsSettled rules form g b n x s → IsSettled rules form g b n x (with_met s met)
  met_settled form g b n x s met h = record { form_is = h.form_is; events = h.events; log = h.log; hands = h.hands }

  -- the text ends, and its last line isn't taken
  pub end_fails : {T : Type 0} (s u : ReaderState E K) (answer : Result T LogFault) → OnErr answer (u ≡ with_met s u.met) → IfErr answer (λ x. IsLogFault x → RefusesLine rules s x) → 0 < length s.line
      → (form : LogForm) (b : List ℕ) (n : ℕ) → IsGoing rules form b n s → IfErr answer (λ x. HoldsAt rules (Some x) true form b n u)
  end_fails s u (Ok v) same k some form b n h = tt
  end_fails s u (Err fault.NoMemory) same k some form b n h =
      subst (λ w. IsWanting rules form false b n w) (sym same) (met_wants form false b n s u.met (subst (λ t. IsWanting rules form false t n s) (append-nil b) (going_wants rules form false b [] n s h)))
  end_fails s u (Err x) same k some form b n h = subst (λ w. IsSettled rules form false b n (Some x) w) (sym same) (met_settled form false b n (Some x) s u.met (end_refused form b n s x h (k tt) some))

  -- an event is handed out
  handed_next : (es : List E) (n : ℕ) (w v : List E) (e : E) → HandsOut es n w → w ≡ e ∷ v → HandsOut es (n + 1) v
  handed_next es n w v e h is = record {
    handed = h.handed ++ e ∷ [];
    are = h.are ∙ ap (λ (xs : List E). h.handed ++ xs) is ∙ sym (append_assoc h.handed (e ∷ []) v);
    count = omega (arith, h.count, length-append h.handed (e ∷ []));
  }

  abbrev pub with_waiting : ReaderState E K → List E → ReaderState E K
  with_waiting s v = record s { waiting = v }

  settled_next : (form : LogForm) (g : Bool) (b : List ℕ) (n : ℕ) (x : Option LogFault) (s : ReaderState E K) (v : List E) (e : E) → IsSettled rules form g b n x s → s.waiting ≡ e ∷ v
      → IsSettled rules form g b (n + 1) x (with_waiting s v)
  settled_next form g b n x s v e h is = record { form_is = h.form_is; events = h.events; log = h.log; hands = handed_next h.events n s.waiting v e h.hands is }

  wanting_next : (form : LogForm) (g : Bool) (b : List ℕ) (n : ℕ) (s : ReaderState E K) (v : List E) (e : E) → IsWanting rules form g b n s → s.waiting ≡ e ∷ v → IsWanting rules form g b (n + 1) (with_waiting s v)
  wanting_next form g b n s v e h is = record { form_is = h.form_is; stage = h.stage; reaches = h.reaches; hands = handed_next h.stage.events n s.waiting v e h.hands is }

  going_next : (form : LogForm) (b : List ℕ) (n : ℕ) (s : ReaderState E K) (v : List E) (e : E) → IsGoing rules form b n s → s.waiting ≡ e ∷ v → IsGoing rules form b (n + 1) (with_waiting s v)
  going_next form b n s v e h is = record {
    form_is = h.form_is;
    stage = h.stage;
    reads = h.reads;
    stands = record { version_is = h.stands.version_is; number_is = h.stands.number_is; read_is = h.stands.read_is; met_is = h.stands.met_is; events = handed_next h.stage.events n s.waiting v e h.stands.events is };
    line_is = h.line_is;
    short = h.short;
    count_is = h.count_is;
    within = h.within;
  }

  holds_next : (x : Option LogFault) (finished : Bool) (form : LogForm) (b : List ℕ) (n : ℕ) (s : ReaderState E K) (v : List E) (e : E) → HoldsAt rules x finished form b n s → s.waiting ≡ e ∷ v
      → HoldsAt rules x finished form b (n + 1) (with_waiting s v)
  holds_next None false form b n s v e h is = going_next form b n s v e h is
  holds_next None true form b n s v e h is = settled_next form false b n None s v e h is
  holds_next (Some fault.NoMemory) finished form b n s v e h is = wanting_next form (not finished) b n s v e h is
  holds_next (Some x) finished form b n s v e h is = settled_next form (not finished) b n (Some x) s v e h is

  -- what is held behind an event that was handed out
  pub fed_next : (s t : ReaderState E K) (e : E) → s.waiting ≡ e ∷ t.waiting → t ≡ with_waiting s t.waiting → (form : LogForm) (b : List ℕ) (n : ℕ) → Fed rules form b n s → Fed rules form b (n + 1) t
  fed_next s t e is same form b n h =
      let next : HoldsAt rules s.fault s.finished form b (n + 1) t = subst (λ u. HoldsAt rules s.fault s.finished form b (n + 1) u) (sym same) (holds_next s.fault s.finished form b n s t.waiting e h is) in
      fed_is s.fault s.finished form b (n + 1) t (ap (λ (u : ReaderState E K). u.fault) same) (ap (λ (u : ReaderState E K). u.finished) same) next

  holds_wants : (x : Option LogFault) (finished : Bool) (form : LogForm) (b : List ℕ) (n : ℕ) (s : ReaderState E K) → HoldsAt rules x finished form b n s → IsWanting rules form (not finished) b n s
  holds_wants None false form b n s h = settled_wants rules form true b n None s (going_log rules form b n s h)
  holds_wants None true form b n s h = settled_wants rules form false b n None s h
  holds_wants (Some fault.NoMemory) finished form b n s h = h
  holds_wants (Some x) finished form b n s h = settled_wants rules form (not finished) b n (Some x) s h

  holds_settled : (x : Option LogFault) (finished : Bool) (form : LogForm) (b : List ℕ) (n : ℕ) (s : ReaderState E K) → (x ≡ Some fault.NoMemory → ⊥) → HoldsAt rules x finished form b n s → IsSettled rules form (not finished) b n x s
  holds_settled None false form b n s no_want h = going_log rules form b n s h
  holds_settled None true form b n s no_want h = h
  holds_settled (Some fault.NoMemory) finished form b n s no_want h = absurd (no_want refl)
  holds_settled (Some x) finished form b n s no_want h = h

  same_at : (es ds : List E) (n : ℕ) (e d : E) → GoesOn rules es ds → slice_get es n ≡ Some e → slice_get ds n ≡ Some d → d ≡ e
  same_at es ds n e d g h k = let there : Some d ≡ Some e = sym k ∙ at_going_on rules es ds n e g h in cc

  one_held : (form : LogForm) (g : Bool) (b : List ℕ) (n : ℕ) (e d : E) → HoldsEvent rules form g b n e → HoldsEvent rules form g b n d → d ≡ e
  one_held form g b n e d h k = elim (reached_both rules form (first_stage rules) (lines_of g b) h.stage k.stage h.reaches k.reaches) [
    | inl on ↦ same_at h.stage.events k.stage.events n e d on h.at k.at
    | inr on ↦ sym (same_at k.stage.events h.stage.events n d e on k.at h.at)
  ]

  wants_event : (form : LogForm) (g : Bool) (b : List ℕ) (n : ℕ) (s : ReaderState E K) (v : List E) (e : E) → IsWanting rules form g b n s → s.waiting ≡ e ∷ v → HoldsEvent rules form g b n e
  wants_event form g b n s v e h is = record {
    stage = h.stage;
    reaches = h.reaches;
    at = ap (λ (xs : List E). slice_get xs n) (h.hands.are ∙ ap (λ (xs : List E). h.hands.handed ++ xs) is)
        ∙ ap (λ (k : ℕ). slice_get (h.hands.handed ++ e ∷ v) k) (sym h.hands.count) ∙ get_behind h.hands.handed e v;
  }

  -- the event that is handed out is the next one
  pub fed_event : (s : ReaderState E K) (v : List E) (e : E) → s.waiting ≡ e ∷ v → (form : LogForm) (b : List ℕ) (n : ℕ) → Fed rules form b n s → Only (HoldsEvent rules form (not s.finished) b n) e
  fed_event s v e is form b n h =
      let this : HoldsEvent rules form (not s.finished) b n e = wants_event form (not s.finished) b n s v e (holds_wants s.fault s.finished form b n s h) is in
      record { holds = this; alone = λ d k. one_held form (not s.finished) b n e d this k }

  -- where no event waits, there is none
  pub fed_none : (s : ReaderState E K) → s.waiting ≡ [] → (s.fault ≡ Some fault.NoMemory → ⊥) → (form : LogForm) (b : List ℕ) (n : ℕ) → Fed rules form b n s → Never (HoldsEvent rules form (not s.finished) b n)
  fed_none s is no_want form b n h =
      let r = holds_settled s.fault s.finished form b n s no_want h in
      let count : length r.log.stage.events ≡ n =
      ap (λ (xs : List E). length xs) (sym r.log.events_are ∙ r.hands.are ∙ ap (λ (xs : List E). r.hands.handed ++ xs) is ∙ append-nil r.hands.handed) ∙ r.hands.count in
      λ e k.
      let on = reached_first rules form (first_stage rules) (lines_of (not s.finished) b) r.log.stage k.stage r.log.found r.log.reads k.reaches in
      omega (arith, count, slice_get_within r.log.stage.events n e (at_going_on rules k.stage.events r.log.stage.events n e on k.at))

  -- a fault that has been answered is answered again
  pub fed_again : (x : LogFault) (form : LogForm) (b p : List ℕ) (n : ℕ) (s : ReaderState E K) → s.fault ≡ Some x → s.finished ≡ false → Fed rules form b n s → HoldsAt rules (Some x) false form (b ++ p) n s
  fed_again x form b p n s e f h = holds_on rules form b p n x s (is_fed (Some x) false form b n s e f h)

  -- a fault within the prefix of a piece is one of the piece
  pub front_fails : {T : Type 0} (form : LogForm) (b piece prefix back : List ℕ) (n : ℕ) (s : ReaderState E K) (answer : Result T LogFault) → piece ≡ prefix ++ back
      → IfErr answer (λ x. HoldsAt rules (Some x) false form (b ++ prefix) n s) → IfErr answer (λ x. HoldsAt rules (Some x) false form (b ++ piece) n s)
  front_fails form b piece prefix back n s (Ok v) e h = tt
  front_fails form b piece prefix back n s (Err x) e h =
      subst (λ t. HoldsAt rules (Some x) false form t n s) (append_assoc b prefix back ∙ ap (λ (t : List ℕ). b ++ t) (sym e)) (holds_on rules form (b ++ prefix) back n x s h)

  -- what is held behind the answer, an entry or none
  pub next_fed : {Q : Type 0} (event_of : Q → E) (o : Option Q) (s t : ReaderState E K) → s.waiting ≡ map event_of (option_to_list o) ++ t.waiting → t ≡ with_waiting s t.waiting
      → (form : LogForm) (b : List ℕ) (n : ℕ) → Fed rules form b n s → MatchOption o (Fed rules form b n t) (λ _. Fed rules form b (n + 1) t)
  next_fed event_of None s t is same form b n h = let whole : t ≡ s = same ∙ ap (λ (w : List E). with_waiting s w) (sym is) in subst (λ u. Fed rules form b n u) (sym whole) h
  next_fed event_of (Some e) s t is same form b n h = fed_next s t (event_of e) is same form b n h

  pub next_is : {Q : Type 0} (event_of : Q → E) (o : Option Q) (s t : ReaderState E K) → s.waiting ≡ map event_of (option_to_list o) ++ t.waiting
      → (form : LogForm) (b : List ℕ) (n : ℕ) → Fed rules form b n s → IfSome o (λ e. Only (HoldsEvent rules form (not s.finished) b n) (event_of e))
  next_is event_of None s t is form b n h = tt
  next_is event_of (Some e) s t is form b n h = fed_event s t.waiting (event_of e) is form b n h

  -- a fault is that of every whole log that begins with these bytes
  pub holds_lasting : (x : LogFault) (form : LogForm) (b more : List ℕ) (n : ℕ) (s : ReaderState E K) → HoldsAt rules (Some x) false form b n s → IsAnswer rules form false (b ++ more) (Some x)
  holds_lasting x form b more n s h = holds_answer (Some x) true form (b ++ more) n s (holds_end rules form (b ++ more) n x s (holds_on rules form b more n x s h))
