-- The events and the ties that are held, mark by mark.
use Rattle.std.specs.Prelude.{ℕ, zero, suc, ◌+◌, ◌<◌, ◌≤◌, ◌≡◌, ◌↔◌, Bool, true, false, List, [], ◌∷◌, ◌++◌, Some, refl, IsTrue, length, reverse, drop, get_or, slice_get}
use Rattle.std.proofs.Common.{ap, ap₂, sym, subst, ◌∙◌, arith, inl, inr}
use Rattle.std.proofs.lemmas.List.{reverse-append}
use Rattle.list_facts.proofs.Reading.{drop_end, drop_get}
use Rattle.msc_base.specs.Lists.{IsAmong}
use Rattle.chart_term.specs.TermPatterns.{pairs}
use Rattle.chart_term.specs.Terms.{Tree}
use Rattle.chart_term.specs.Views.{event_of}
use Rattle.chart_term.specs.declared.event.Event.{Event}
use Rattle.certificates.specs.Certificates.{PlacedEvent}
use Rattle.pattern_marks.specs.HeldMeetings.{HeldMeetings, AreHeld, AreLinked, AreOf, DoMetGo, HasEnded, IsLatest, IsOf, latest_of, LeadsOn, met_one, TakesOn}
use Rattle.pattern_marks.specs.Marks.{Sign, pairs_at, sign_of, signs_of, stands, opens, turns, closes, tie_opens, tie_closes}
use Rattle.pattern_marks.specs.Tests.{DoPairsGo, DoTiesGo}
use Rattle.pattern_marks.specs.declared.mark.Mark.{Mark}
use Rattle.pattern_marks.specs.declared.mark.Mark.TheVariants as mark
use Rattle.pattern_marks.specs.declared.ties.Met.{Met}
use Rattle.pattern_marks.proofs.MarkReading.{mark_at}
use Rattle.pattern_marks.proofs.Tying.{linked_begun, linked_meet}

-- ---- events and what is held of them

of_more : (ds : List PlacedEvent) (ms : List Met) (d : PlacedEvent) (m : Met) → AreOf ds ms → IsOf d m → AreOf (ds ++ d ∷ []) (ms ++ m ∷ [])
of_more [] [] d m h i = (i, tt)
of_more [] (k ∷ ms) d m h i = absurd h
of_more (e ∷ ds) [] d m h i = absurd h
of_more (e ∷ ds) (k ∷ ms) d m h i = (h.0, of_more ds ms d m h.1 i)

of_length : (ds : List PlacedEvent) (ms : List Met) → AreOf ds ms → length ds ≡ length ms
of_length [] [] h = refl
of_length [] (m ∷ ms) h = absurd h
of_length (d ∷ ds) [] h = absurd h
of_length (d ∷ ds) (m ∷ ms) h = ap suc (of_length ds ms h.1)

of_event : (ds : List PlacedEvent) (ms : List Met) (i : ℕ) (d : PlacedEvent) → AreOf ds ms → slice_get ds i ≡ Some d → (m : Met) × (slice_get ms i ≡ Some m) × IsOf d m
of_event [] ms i d h e = cc
of_event (c ∷ ds) [] i d h e = absurd h
of_event (c ∷ ds) (m ∷ ms) zero d h e = let s : c ≡ d = cc in (m, refl, subst (λ (z : PlacedEvent). IsOf z m) s h.0)
of_event (c ∷ ds) (m ∷ ms) (suc i) d h e = of_event ds ms i d h.1 e

event_of_it : (ds : List PlacedEvent) (ms : List Met) (i : ℕ) (m : Met) → AreOf ds ms → slice_get ms i ≡ Some m → (d : PlacedEvent) × (slice_get ds i ≡ Some d) × IsOf d m
event_of_it ds [] i m h e = cc
event_of_it [] (k ∷ ms) i m h e = absurd h
event_of_it (d ∷ ds) (k ∷ ms) zero m h e = let s : k ≡ m = cc in (d, refl, subst (λ (z : Met). IsOf d z) s h.0)
event_of_it (d ∷ ds) (k ∷ ms) (suc i) m h e = event_of_it ds ms i m h.1 e

drop_at : (ds : List PlacedEvent) (n : ℕ) (d : PlacedEvent) → IsAmong (drop n ds) d → (i : ℕ) × (n ≤ i) × (slice_get ds i ≡ Some d)
drop_at [] zero d h = absurd h
drop_at [] (suc n) d h = absurd h
drop_at (e ∷ ds) zero d (inl q) = (0, omega arith, ap (λ (z : PlacedEvent). Some z) (sym q))
drop_at (e ∷ ds) zero d (inr h) = let (i, l, g) = drop_at ds zero d (all_dropped ds d h) in (suc i, omega arith, g)
  where
    all_dropped : (ds : List PlacedEvent) (d : PlacedEvent) → IsAmong ds d → IsAmong (drop zero ds) d
    all_dropped ds d h = h
drop_at (e ∷ ds) (suc n) d h = let (i, l, g) = drop_at ds n d h in (suc i, omega (arith, l), g)

at_drop : (ds : List PlacedEvent) (n i : ℕ) (d : PlacedEvent) → n ≤ i → slice_get ds i ≡ Some d → IsAmong (drop n ds) d
at_drop [] n i d l g = cc
at_drop (e ∷ ds) zero zero d l g = let s : e ≡ d = cc in inl (sym s)
at_drop (e ∷ ds) zero (suc i) d l g = inr (at_drop ds zero i d (omega arith) g)
at_drop (e ∷ ds) (suc n) zero d l g = absurd (omega (arith, l))
at_drop (e ∷ ds) (suc n) (suc i) d l g = at_drop ds n i d (omega (arith, l)) g

pairs_met : (q : List (ℕ × ℕ)) (n : ℕ) (ds : List PlacedEvent) (ms : List Met) → AreOf ds ms → DoPairsGo q (drop n ds) → DoMetGo q n ms
pairs_met q n ds ms h go i k m l a b gm gl p =
    let (d, gd, od) = event_of_it ds ms i m h gm in
    let (e, ge, oe) = event_of_it ds ms k l h gl in
    let r = go d e (at_drop ds n i d a gd) (at_drop ds n k e b ge) (subst (λ (u : ℕ). pairs q u e.event.number ≡ true) od.0 (subst (λ (v : ℕ). pairs q m.number v ≡ true) oe.0 p)) in
    omega (arith, r, od.1, oe.1)

met_pairs : (q : List (ℕ × ℕ)) (n : ℕ) (ds : List PlacedEvent) (ms : List Met) → AreOf ds ms → DoMetGo q n ms → DoPairsGo q (drop n ds)
met_pairs q n ds ms h go d e i k p =
    let (x, lx, gx) = drop_at ds n d i in
    let (y, ly, gy) = drop_at ds n e k in
    let (m, gm, om) = of_event ds ms x d h gx in
    let (l, gl, ol) = of_event ds ms y e h gy in
    let r = go x y m l lx ly gm gl (subst (λ (u : ℕ). pairs q u l.number ≡ true) (sym om.0) (subst (λ (v : ℕ). pairs q d.event.number v ≡ true) (sym ol.0) p)) in
    omega (arith, r, om.1, ol.1)

-- ---- mark by mark

last_first : (ns : List ℕ) (n : ℕ) → reverse (ns ++ n ∷ []) ≡ n ∷ reverse ns
last_first ns n = reverse-append ns (n ∷ [])

event_leads : (e : Event) (p : ℕ) (old new : HeldMeetings) → AreLinked old → new ≡ met_one e.number p old → TakesOn true (stands (event_of e) p) old new
event_leads e p old new l is ds ns h = subst (λ (s : HeldMeetings). LeadsOn (stands (event_of e) p) ds ns s) (sym is) (record {
  linked = linked_meet e.number p old (met_one e.number p old) l refl;
  events = ds ++ record { event = event_of e; place = p } ∷ [];
  counts = ns;
  held = record { events = of_more ds old.met (record { event = event_of e; place = p }) (record { place = p; number = e.number; before = latest_of old e.number }) h.events (refl, refl); begun = h.begun };
  same = λ ms. (λ d. d, λ d. d);
})

begin_leads : (old new : HeldMeetings) → AreLinked old → new ≡ record old { begun = old.begun ++ length old.met ∷ [] } → TakesOn true tie_opens old new
begin_leads old new l is ds ns h = subst (λ (s : HeldMeetings). LeadsOn tie_opens ds ns s) (sym is) (record {
  linked = linked_begun (old.begun ++ length old.met ∷ []) old (record old { begun = old.begun ++ length old.met ∷ [] }) l refl;
  events = ds;
  counts = length ds ∷ ns;
  held = record { events = h.events; begun = last_first old.begun (length old.met) ∙ ap₂ (λ (k : ℕ) (ks : List ℕ). k ∷ ks) (sym (of_length ds old.met h.events)) h.begun };
  same = λ ms. (λ d. d, λ d. d);
})

stay_leads : (m : Sign) (s : HeldMeetings) → AreLinked s → ((ds : List PlacedEvent) (ns : List ℕ) (ms : List Sign) → DoTiesGo ds ns (m ∷ ms) ↔ DoTiesGo ds ns ms) → TakesOn true m s s
stay_leads m s l e ds ns h = record { linked = l; events = ds; counts = ns; held = h; same = e ds ns }

pub ended_linked : (from : ℕ) (old new : HeldMeetings) → AreLinked old → HasEnded from old new → AreLinked new
ended_linked from old new l e = record {
  from_number = subst (λ (ms : List Met). (n : ℕ) → IsLatest ms n (length ms) (latest_of new n)) (sym e.met) (subst (λ (ks : List ℕ). (n : ℕ) → IsLatest old.met n (length old.met) (get_or ks n 0)) (sym e.latest) l.from_number);
  from_event = subst (λ (ms : List Met). (k : ℕ) (m : Met) → slice_get ms k ≡ Some m → IsLatest ms m.number k m.before) (sym e.met) l.from_event;
}

counts_are : (from : ℕ) (ns : List ℕ) (old new : HeldMeetings) → HasEnded from old new → reverse old.begun ≡ ns → ns ≡ from ∷ reverse new.begun
counts_are from ns old new e b = sym b ∙ (ap (λ (l : List ℕ). reverse l) e.begun ∙ last_first new.begun from)

end_leads : (q : List (ℕ × ℕ)) (from : ℕ) (goes : Bool) (old new : HeldMeetings) → AreLinked old → HasEnded from old new → IsTrue goes ↔ DoMetGo q from new.met → TakesOn goes (tie_closes q) old new
end_leads q from true old new l e g ds ns h = subst (λ (ks : List ℕ). LeadsOn (tie_closes q) ds ks new) (sym (counts_are from ns old new e h.begun)) (record {
  linked = ended_linked from old new l e;
  events = ds;
  counts = reverse new.begun;
  held = record { events = events; begun = refl };
  same = λ ms. (λ d. d.1, λ d. (met_pairs q from ds new.met events (g.0 refl), d));
})
  where
    events : AreOf ds new.met
    events = subst (λ (ms : List Met). AreOf ds ms) (sym e.met) h.events
end_leads q from false old new l e g ds ns h = subst (λ (ks : List ℕ). (ms : List Sign) → DoTiesGo ds ks (tie_closes q ∷ ms) → ⊥) (sym (counts_are from ns old new e h.begun)) (λ ms d. no (g.1 (pairs_met q from ds new.met events d.0)))
  where
    events : AreOf ds new.met
    events = subst (λ (ms : List Met). AreOf ds ms) (sym e.met) h.events

    no : false ≡ true → ⊥
    no q = cc

none_leads : (q : List (ℕ × ℕ)) (old new : HeldMeetings) → old.begun ≡ [] → TakesOn false (tie_closes q) old new
none_leads q old new e ds ns h = subst (λ (ks : List ℕ). (ms : List Sign) → DoTiesGo ds ks (tie_closes q ∷ ms) → ⊥) (ap (λ (l : List ℕ). reverse l) (sym e) ∙ h.begun) (λ ms d. d)

-- ---- marks

pub on_event : (ts : List Tree) (m : Mark) (e : Event) (p : ℕ) (old new : HeldMeetings) → m ≡ mark.Event e p → AreLinked old → new ≡ met_one e.number p old → TakesOn true (sign_of ts m) old new
on_event ts m e p old new q l is = subst (λ (z : Mark). TakesOn true (sign_of ts z) old new) (sym q) (event_leads e p old new l is)

pub on_tie : (ts : List Tree) (m : Mark) (old new : HeldMeetings) → m ≡ mark.OpenTie → AreLinked old → new ≡ record old { begun = old.begun ++ length old.met ∷ [] } → TakesOn true (sign_of ts m) old new
on_tie ts m old new q l is = subst (λ (z : Mark). TakesOn true (sign_of ts z) old new) (sym q) (begin_leads old new l is)

pub on_end : (ts : List Tree) (m : Mark) (k from : ℕ) (goes : Bool) (old new : HeldMeetings) → m ≡ mark.CloseTie k → AreLinked old → HasEnded from old new → IsTrue goes ↔ DoMetGo (pairs_at (slice_get ts k)) from new.met → TakesOn goes (sign_of ts m) old new
on_end ts m k from goes old new q l e g = subst (λ (z : Mark). TakesOn goes (sign_of ts z) old new) (sym q) (end_leads (pairs_at (slice_get ts k)) from goes old new l e g)

pub on_none : (ts : List Tree) (m : Mark) (k : ℕ) (old new : HeldMeetings) → m ≡ mark.CloseTie k → old.begun ≡ [] → TakesOn false (sign_of ts m) old new
on_none ts m k old new q e = subst (λ (z : Mark). TakesOn false (sign_of ts z) old new) (sym q) (none_leads (pairs_at (slice_get ts k)) old new e)

pub on_open : (ts : List Tree) (m : Mark) (s : HeldMeetings) → m ≡ mark.Open → AreLinked s → TakesOn true (sign_of ts m) s s
on_open ts m s q l = subst (λ (z : Mark). TakesOn true (sign_of ts z) s s) (sym q) (stay_leads opens s l (λ ds ns ms. (λ d. d, λ d. d)))

pub on_next : (ts : List Tree) (m : Mark) (s : HeldMeetings) → m ≡ mark.Next → AreLinked s → TakesOn true (sign_of ts m) s s
on_next ts m s q l = subst (λ (z : Mark). TakesOn true (sign_of ts z) s s) (sym q) (stay_leads turns s l (λ ds ns ms. (λ d. d, λ d. d)))

pub on_close : (ts : List Tree) (m : Mark) (s : HeldMeetings) → m ≡ mark.Close → AreLinked s → TakesOn true (sign_of ts m) s s
on_close ts m s q l = subst (λ (z : Mark). TakesOn true (sign_of ts z) s s) (sym q) (stay_leads closes s l (λ ds ns ms. (λ d. d, λ d. d)))

pub ruleset takes_on = (on_event, on_tie, on_end, on_none, on_open, on_next, on_close)

-- ---- all of them

-- what the test says of all marks is what it says of those that are left, from what is held on
pub record IsHeldFor (ts : List Tree) (ms left : List Mark) (s : HeldMeetings) : Type 0 where
  pub linked : AreLinked s
  pub events : List PlacedEvent
  pub counts : List ℕ
  pub held : AreHeld events counts s
  pub same : DoTiesGo [] [] (signs_of ts ms) ↔ DoTiesGo events counts (signs_of ts left)

pub held_first : (ts : List Tree) (ms : List Mark) (s : HeldMeetings) → s ≡ record { met = []; latest = []; begun = [] } → IsHeldFor ts ms (drop 0 ms) s
held_first ts ms s e = subst (λ (z : HeldMeetings). IsHeldFor ts ms ms z) (sym e) (record {
  linked = record {
    from_number = λ n. record { within = omega arith; here = λ i q. absurd (omega (arith, q)); none = λ i m low high g q. absurd (omega (arith, high)) };
    from_event = λ k m g. absurd (nothing k m g);
  };
  events = [];
  counts = [];
  held = record { events = tt; begun = refl };
  same = (λ d. d, λ d. d);
})
  where
    nothing : (k : ℕ) (m : Met) → slice_get [] k ≡ Some m → ⊥
    nothing k m g = cc

pub held_more : (ts : List Tree) (ms : List Mark) (i : ℕ) (d : Mark) (goes : Bool) (old new : HeldMeetings) → i < length ms → goes ≡ true → TakesOn goes (sign_of ts (get_or ms i d)) old new → IsHeldFor ts ms (drop i ms) old → IsHeldFor ts ms (drop (i + 1) ms) new
held_more ts ms i d false old new lt g t u = cc
held_more ts ms i d true old new lt g t u =
    let l = t u.events u.counts u.held in
    let e : drop i ms ≡ get_or ms i d ∷ drop (i + 1) ms = drop_get ms i (get_or ms i d) (mark_at ms i d lt) in
    record {
      linked = l.linked;
      events = l.events;
      counts = l.counts;
      held = l.held;
      same = (
        λ h. (l.same (signs_of ts (drop (i + 1) ms))).0 (subst (λ (k : List Mark). DoTiesGo u.events u.counts (signs_of ts k)) e (u.same.0 h)),
        λ h. u.same.1 (subst (λ (k : List Mark). DoTiesGo u.events u.counts (signs_of ts k)) (sym e) ((l.same (signs_of ts (drop (i + 1) ms))).1 h)),
      );
    }

-- a mark that can't stand spoils all
pub held_not : (ts : List Tree) (ms : List Mark) (i : ℕ) (d : Mark) (goes : Bool) (old new : HeldMeetings) → i < length ms → goes ≡ false → TakesOn goes (sign_of ts (get_or ms i d)) old new → IsHeldFor ts ms (drop i ms) old → IsTrue false ↔ DoTiesGo [] [] (signs_of ts ms)
held_not ts ms i d true old new lt g t u = cc
held_not ts ms i d false old new lt g t u = (
  λ q. absurd (no q),
  λ h. absurd (t u.events u.counts u.held (signs_of ts (drop (i + 1) ms)) (subst (λ (k : List Mark). DoTiesGo u.events u.counts (signs_of ts k)) (drop_get ms i (get_or ms i d) (mark_at ms i d lt)) (u.same.0 h))),
)
  where
    no : false ≡ true → ⊥
    no q = cc

pub held_all : (ts : List Tree) (ms : List Mark) (i : ℕ) (s : HeldMeetings) → (i < length ms → ⊥) → IsHeldFor ts ms (drop i ms) s → IsTrue true ↔ DoTiesGo [] [] (signs_of ts ms)
held_all ts ms i s l u = (λ q. u.same.1 (subst (λ (k : List Mark). DoTiesGo u.events u.counts (signs_of ts k)) (sym (drop_end ms i l)) tt), λ h. refl)
