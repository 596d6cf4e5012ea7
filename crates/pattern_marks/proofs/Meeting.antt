-- Meeting the places of events.
use Rattle.std.specs.Prelude.{ℕ, zero, suc, ◌+◌, ◌<◌, ◌≤◌, ◌≡◌, ◌⊎◌, ◌↔◌, Bool, true, false, List, [], ◌∷◌, ◌++◌, Some, refl, IsTrue, length, map, slice_get, slice_set, nat_eq, take, drop, replicate}
use Rattle.std.proofs.Common.{ap, sym, subst, ◌∙◌, arith, inl, inr, get_or, append-nil}
use Rattle.std.proofs.lemmas.Bool.Decides.{nat_tests}
use Rattle.std.proofs.lemmas.List.{take_all}
use Rattle.std.proofs.lemmas.Option.{slice_get_within}
use Rattle.list_facts.proofs.Members.{among_right, among_snoc, snoc_among, different_snoc}
use Rattle.list_facts.proofs.Reading.{take_step, drop_get}
use Rattle.msc_base.specs.Lists.{AreDifferent, IsAmong}
use Rattle.chart_term.specs.Terms.{Tree}
use Rattle.chart_term.specs.Views.{event_of}
use Rattle.chart_term.specs.declared.event.Event.{Event}
use Rattle.certificates.specs.Certificates.{PlacedEvent}
use Rattle.pattern_marks.specs.Marks.{Sign, sign_of, signs_of, stands, opens, turns, closes, tie_opens, tie_closes}
use Rattle.pattern_marks.specs.Meetings.{yes_count, AreCounted, HaveMet, IsFree, HasMet, Stands, Takes}
use Rattle.pattern_marks.specs.Tests.{ArePlaced, IsPlaced, events_in}
use Rattle.pattern_marks.specs.declared.mark.Mark.{Mark}
use Rattle.pattern_marks.specs.declared.mark.Mark.TheVariants as mark
use Rattle.pattern_marks.proofs.MarkReading.{mark_at}
use Rattle.pattern_marks.specs.declared.places.Places.{Places}

abbrev places : List PlacedEvent → List ℕ
places ds = map (λ d. d.place) ds

places_append : (a b : List PlacedEvent) → places (a ++ b) ≡ places a ++ places b
places_append [] b = refl
places_append (d ∷ a) b = ap (λ l. d.place ∷ l) (places_append a b)

place_among : (ds : List PlacedEvent) (d : PlacedEvent) → IsAmong ds d → IsAmong (places ds) d.place
place_among [] d h = absurd h
place_among (e ∷ ds) d (inl h) = inl (ap (λ (z : PlacedEvent). z.place) h)
place_among (e ∷ ds) d (inr h) = inr (place_among ds d h)

among_place : (ds : List PlacedEvent) (n : ℕ) → IsAmong (places ds) n → (d : PlacedEvent) × IsAmong ds d × (d.place ≡ n)
among_place [] n h = absurd h
among_place (e ∷ ds) n (inl h) = (e, inl refl, sym h)
among_place (e ∷ ds) n (inr h) = let (d, i, q) = among_place ds n h in (d, inr i, q)

-- ---- counting

get_set_same : (bs : List Bool) (k : ℕ) → k < length bs → get_or (slice_set bs k true) k false ≡ true
get_set_same [] k l = absurd (omega arith)
get_set_same (c ∷ bs) zero l = refl
get_set_same (c ∷ bs) (suc k) l = get_set_same bs k (omega arith)

get_set_other : (bs : List Bool) (k i : ℕ) → (i ≡ k → ⊥) → get_or (slice_set bs k true) i false ≡ get_or bs i false
get_set_other [] k i n = refl
get_set_other (c ∷ bs) zero zero n = absurd (n refl)
get_set_other (c ∷ bs) zero (suc i) n = refl
get_set_other (c ∷ bs) (suc k) zero n = refl
get_set_other (c ∷ bs) (suc k) (suc i) n = get_set_other bs k i (λ e. n (ap suc e))

length_set : (bs : List Bool) (k : ℕ) → length (slice_set bs k true) ≡ length bs
length_set [] k = refl
length_set (c ∷ bs) zero = refl
length_set (c ∷ bs) (suc k) = let e = length_set bs k in omega arith

count_set : (bs : List Bool) (k : ℕ) → k < length bs → get_or bs k false ≡ false → yes_count (slice_set bs k true) ≡ yes_count bs + 1
count_set [] k l e = absurd (omega arith)
count_set (true ∷ bs) zero l e = cc
count_set (false ∷ bs) zero l e = omega arith
count_set (true ∷ bs) (suc k) l e = let q = count_set bs k (omega arith) e in omega arith
count_set (false ∷ bs) (suc k) l e = count_set bs k (omega arith) e

pub count_most : (bs : List Bool) → yes_count bs ≤ length bs
count_most [] = omega arith
count_most (true ∷ bs) = let l = count_most bs in omega arith
count_most (false ∷ bs) = let l = count_most bs in omega arith

count_free : (bs : List Bool) (k : ℕ) → k < length bs → get_or bs k false ≡ false → yes_count bs < length bs
count_free bs k l e = let a = count_set bs k l e in let b = count_most (slice_set bs k true) in omega (arith, a, b, length_set bs k)

all_yes : (bs : List Bool) → yes_count bs ≡ length bs → (k : ℕ) → k < length bs → get_or bs k false ≡ true
all_yes [] e k l = absurd (omega arith)
all_yes (true ∷ bs) e zero l = refl
all_yes (true ∷ bs) e (suc k) l = all_yes bs (omega arith) k (omega arith)
all_yes (false ∷ bs) e k l = absurd (let m = count_most bs in omega arith)

yes_all : (bs : List Bool) → ((k : ℕ) → k < length bs → get_or bs k false ≡ true) → yes_count bs ≡ length bs
yes_all [] h = refl
yes_all (true ∷ bs) h = let e = yes_all bs (λ k l. h (suc k) (omega arith)) in omega arith
yes_all (false ∷ bs) h = let e : false ≡ true = h 0 (omega arith) in cc

-- ---- meeting

pub none_met : (c : ℕ) (p : Places) → p.count ≡ 0 → p.met.items ≡ replicate c false → (run : List ℕ) → length run ≡ c → HaveMet run [] p
none_met c p e m run l = record {
  counted = record { size = ap length m ∙ (size c ∙ sym l); count = e ∙ sym (ap yes_count m ∙ none c) };
  labelled = λ d h. absurd h;
  once = tt;
  met = λ k. (λ i. absurd (let q : false ≡ true = sym (get c k) ∙ (ap (λ (bs : List Bool). get_or bs k false) (sym m) ∙ i) in no q), λ h. absurd h);
}
  where
    no : false ≡ true → ⊥
    no q = cc

    size : (n : ℕ) → length (replicate n false) ≡ n
    size zero = refl
    size (suc n) = let e = size n in omega arith

    none : (n : ℕ) → yes_count (replicate n false) ≡ 0
    none zero = refl
    none (suc n) = none n

    get : (n k : ℕ) → get_or (replicate n false) k false ≡ false
    get zero k = refl
    get (suc n) zero = refl
    get (suc n) (suc k) = get n k

pub free_within : (run : List ℕ) (n a : ℕ) (p : Places) → AreCounted run p → IsFree run n a p → (0 < n) × (n ≤ length p.met.items) × (p.count < length p.met.items)
free_within run n a p c h =
    let l = slice_get_within run h.index a h.label in
    let q : h.index < length p.met.items = omega (arith, c.size) in
    let r = count_free p.met.items h.index q h.free in
    (omega (arith, h.place), omega (arith, h.place), omega (arith, c.count, r))

pub met_counted : (run : List ℕ) (n a : ℕ) (old new : Places) → AreCounted run old → IsFree run n a old → HasMet n old new → AreCounted run new
met_counted run n a old new c f m =
    let l = slice_get_within run f.index a f.label in
    let same : m.index ≡ f.index = omega (arith, f.place, m.place) in
    let set : new.met.items ≡ slice_set old.met.items f.index true = m.met ∙ ap (λ (k : ℕ). slice_set old.met.items k true) same in
    record {
      size = ap length set ∙ (length_set old.met.items f.index ∙ c.size);
      count = omega (arith, m.count, c.count, ap yes_count set, count_set old.met.items f.index (omega (arith, c.size)) f.free);
    }

pub one_met : (run : List ℕ) (ds : List PlacedEvent) (d : PlacedEvent) (old new : Places) → HaveMet run ds old → IsFree run d.place d.event.label old → HasMet d.place old new → HaveMet run (ds ++ d ∷ []) new
one_met run ds d old new h f m = record {
  counted = met_counted run d.place d.event.label old new h.counted f m;
  labelled = λ e i. elim (among_snoc ds d e i) [ inl j ↦ h.labelled e j | inr q ↦ subst (IsPlaced run) (sym q) (f.index, f.place, f.label) ];
  once = subst AreDifferent (sym (places_append ds (d ∷ []))) (different_snoc (places ds) d.place h.once new_place);
  met = λ k. subst (λ (l : List ℕ). IsTrue (get_or new.met.items k false) ↔ IsAmong l (suc k)) (sym (places_append ds (d ∷ []))) (by k (this_or k f.index));
}
  where
    same : m.index ≡ f.index
    same = omega (arith, f.place, m.place)

    set : new.met.items ≡ slice_set old.met.items f.index true
    set = m.met ∙ ap (λ (k : ℕ). slice_set old.met.items k true) same

    within : f.index < length old.met.items
    within = let l = slice_get_within run f.index d.event.label f.label in omega (arith, h.counted.size)

    new_place : IsAmong (places ds) d.place → ⊥
    new_place i = let y = (h.met f.index).1 (subst (IsAmong (places ds)) f.place i) in let q : false ≡ true = sym f.free ∙ y in cc

    this_or : (k i : ℕ) → (k ≡ i) ⊎ (k ≡ i → ⊥)
    this_or k i = grind arith

    by : (k : ℕ) → (k ≡ f.index) ⊎ (k ≡ f.index → ⊥) → IsTrue (get_or new.met.items k false) ↔ IsAmong (places ds ++ d.place ∷ []) (suc k)
    by k (inl q) = (
      λ i. snoc_among (places ds) d.place (suc k) (inr (ap suc q ∙ sym f.place)),
      λ i. ap (λ (bs : List Bool). get_or bs k false) set ∙ (ap (λ (j : ℕ). get_or (slice_set old.met.items f.index true) j false) q ∙ get_set_same old.met.items f.index within),
    )
    by k (inr n) =
        let e : get_or new.met.items k false ≡ get_or old.met.items k false = ap (λ (bs : List Bool). get_or bs k false) set ∙ get_set_other old.met.items f.index k n in (
          λ i. snoc_among (places ds) d.place (suc k) (inl ((h.met k).0 (sym e ∙ i))),
          λ i. e ∙ (h.met k).1 (elim (among_snoc (places ds) d.place (suc k) i) [ inl j ↦ j | inr q ↦ absurd (n (let r = f.place in omega arith)) ]),
        )

-- an event that can't stand spoils all that goes on from it
pub no_place : (run : List ℕ) (ds es : List PlacedEvent) (d : PlacedEvent) (p : Places) → HaveMet run ds p → (IsFree run d.place d.event.label p → ⊥) → ArePlaced run (ds ++ d ∷ es) → ⊥
no_place run ds es d p h n a =
    let (k, e, l) = a.labelled d (among_right ds (d ∷ es) d (inl refl)) in
    by k e l (get_or p.met.items k false) refl
  where
    twice : (ns ms : List ℕ) (n : ℕ) → AreDifferent (ns ++ n ∷ ms) → IsAmong ns n → ⊥
    twice [] ms n h i = i
    twice (m ∷ ns) ms n h (inl e) = h.0 (among_right ns (n ∷ ms) m (inl (sym e)))
    twice (m ∷ ns) ms n h (inr i) = twice ns ms n h.1 i

    by : (k : ℕ) → d.place ≡ suc k → slice_get run k ≡ Some d.event.label → (b : Bool) → get_or p.met.items k false ≡ b → ⊥
    by k e l false q = n (record { index = k; place = e; label = l; free = q })
    by k e l true q = twice (places ds) (places es) d.place (subst AreDifferent (places_append ds (d ∷ es)) a.once) (subst (IsAmong (places ds)) (sym e) ((h.met k).0 q))

-- in the end all places are met exactly where there are as many as the log has
pub all_placed : (run : List ℕ) (ds : List PlacedEvent) (p : Places) → HaveMet run ds p → IsTrue (nat_eq p.count (length run)) ↔ ArePlaced run ds
all_placed run ds p h = (
  λ i. record {
    labelled = h.labelled;
    once = h.once;
    every = λ k l. among_place ds (suc k) ((h.met k).0 (all_yes p.met.items (let e = same p.count (length run) i in omega (arith, h.counted.count, h.counted.size)) k (omega (arith, h.counted.size))));
  },
  λ a. equal p.count (length run) (omega (arith, h.counted.count, h.counted.size, yes_all p.met.items (λ k l. let (d, i, e) = a.every k (omega (arith, h.counted.size)) in (h.met k).1 (subst (IsAmong (places ds)) e (place_among ds d i))))),
)
  where
    same : (m n : ℕ) → IsTrue (nat_eq m n) → m ≡ n
    same m n h = grind (arith, nat_tests)

    equal : (m n : ℕ) → m ≡ n → IsTrue (nat_eq m n)
    equal m n h = grind (arith, nat_tests)

-- ---- marks one by one

events_append : (a b : List Sign) → events_in (a ++ b) ≡ events_in a ++ events_in b
events_append [] b = refl
events_append (stands e n ∷ a) b = ap (λ l. record { event = e; place = n } ∷ l) (events_append a b)
events_append (opens ∷ a) b = events_append a b
events_append (turns ∷ a) b = events_append a b
events_append (closes ∷ a) b = events_append a b
events_append (tie_opens ∷ a) b = events_append a b
events_append (tie_closes q ∷ a) b = events_append a b

signs_append : (ts : List Tree) (a b : List Mark) → signs_of ts (a ++ b) ≡ signs_of ts a ++ signs_of ts b
signs_append ts [] b = refl
signs_append ts (m ∷ a) b = ap (λ (l : List Sign). sign_of ts m ∷ l) (signs_append ts a b)

pub mark_on : (ts : List Tree) (ms : List Mark) (i : ℕ) (m : Mark) → slice_get ms i ≡ Some m → events_in (signs_of ts (take (i + 1) ms)) ≡ events_in (signs_of ts (take i ms)) ++ events_in (sign_of ts m ∷ [])
mark_on ts ms i m g = ap (λ l. events_in (signs_of ts l)) (take_step ms i m g) ∙ (ap events_in (signs_append ts (take i ms) (m ∷ [])) ∙ events_append (signs_of ts (take i ms)) (sign_of ts m ∷ []))

take_drop : {A : Type 0} (xs : List A) (i : ℕ) → take i xs ++ drop i xs ≡ xs
take_drop [] zero = refl
take_drop [] (suc i) = refl
take_drop (x ∷ xs) zero = refl
take_drop (x ∷ xs) (suc i) = ap (λ l. x ∷ l) (take_drop xs i)

pub mark_in : (ts : List Tree) (ms : List Mark) (i : ℕ) (m : Mark) → slice_get ms i ≡ Some m → events_in (signs_of ts ms) ≡ events_in (signs_of ts (take i ms)) ++ events_in (sign_of ts m ∷ signs_of ts (drop (i + 1) ms))
mark_in ts ms i m g =
    ap (λ l. events_in (signs_of ts l)) (sym (take_drop ms i)) ∙ (ap (λ l. events_in (signs_of ts (take i ms ++ l))) (drop_get ms i m g)
    ∙ (ap events_in (signs_append ts (take i ms) (m ∷ drop (i + 1) ms)) ∙ events_append (signs_of ts (take i ms)) (sign_of ts m ∷ signs_of ts (drop (i + 1) ms))))

-- ---- the marks of a loop

pub takes_event : (run : List ℕ) (m : Mark) (e : Event) (n : ℕ) (stands_so : Bool) (old new : Places) → m ≡ mark.Event e n → AreCounted run old → Stands stands_so run n e.label old new → Takes stands_so run m old new
takes_event run m e n true old new q c s =
    subst (λ (z : Mark). Takes true run z old new) (sym q)
    (met_counted run n e.label old new c s.0 s.1, λ ts ds h. one_met run ds (record { event = event_of e; place = n }) old new h s.0 s.1)
takes_event run m e n false old new q c s =
    subst (λ (z : Mark). Takes false run z old new) (sym q)
    (λ ts ds rest h a. no_place run ds (events_in rest) (record { event = event_of e; place = n }) old h s a)

takes_other : (run : List ℕ) (m : Mark) (p : Places) → AreCounted run p → ((ts : List Tree) → events_in (sign_of ts m ∷ []) ≡ []) → Takes true run m p p
takes_other run m p c e = (c, λ ts ds h. subst (λ (l : List PlacedEvent). HaveMet run l p) (sym (ap (λ (l : List PlacedEvent). ds ++ l) (e ts) ∙ append-nil ds)) h)

pub takes_open : (run : List ℕ) (m : Mark) (p : Places) → m ≡ mark.Open → AreCounted run p → Takes true run m p p
takes_open run m p q c = takes_other run m p c (λ ts. ap (λ (z : Mark). events_in (sign_of ts z ∷ [])) q)

pub takes_next : (run : List ℕ) (m : Mark) (p : Places) → m ≡ mark.Next → AreCounted run p → Takes true run m p p
takes_next run m p q c = takes_other run m p c (λ ts. ap (λ (z : Mark). events_in (sign_of ts z ∷ [])) q)

pub takes_close : (run : List ℕ) (m : Mark) (p : Places) → m ≡ mark.Close → AreCounted run p → Takes true run m p p
takes_close run m p q c = takes_other run m p c (λ ts. ap (λ (z : Mark). events_in (sign_of ts z ∷ [])) q)

pub takes_tie : (run : List ℕ) (m : Mark) (p : Places) → m ≡ mark.OpenTie → AreCounted run p → Takes true run m p p
takes_tie run m p q c = takes_other run m p c (λ ts. ap (λ (z : Mark). events_in (sign_of ts z ∷ [])) q)

pub takes_tie_end : (run : List ℕ) (m : Mark) (k : ℕ) (p : Places) → m ≡ mark.CloseTie k → AreCounted run p → Takes true run m p p
takes_tie_end run m k p q c = takes_other run m p c (λ ts. ap (λ (z : Mark). events_in (sign_of ts z ∷ [])) q)

pub ruleset takes = (takes_event, takes_open, takes_next, takes_close, takes_tie, takes_tie_end)

pub counted_more : (run : List ℕ) (m : Mark) (taken : Bool) (old new : Places) → taken ≡ true → Takes taken run m old new → AreCounted run new
counted_more run m true old new g t = t.0
counted_more run m false old new g t = cc

pub met_more : (run : List ℕ) (ms : List Mark) (i : ℕ) (d : Mark) (taken : Bool) (old new : Places) → i < length ms → taken ≡ true → Takes taken run (get_or ms i d) old new
    → ((ts : List Tree) → HaveMet run (events_in (signs_of ts (take i ms))) old) → (ts : List Tree) → HaveMet run (events_in (signs_of ts (take (i + 1) ms))) new
met_more run ms i d false old new l g t h ts = cc
met_more run ms i d true old new l g t h ts =
    subst (λ (ds : List PlacedEvent). HaveMet run ds new) (sym (mark_on ts ms i (get_or ms i d) (mark_at ms i d l))) (t.1 ts (events_in (signs_of ts (take i ms))) (h ts))

pub not_met : (run : List ℕ) (ms : List Mark) (i : ℕ) (d : Mark) (taken : Bool) (old new : Places) → i < length ms → taken ≡ false → Takes taken run (get_or ms i d) old new
    → ((ts : List Tree) → HaveMet run (events_in (signs_of ts (take i ms))) old) → (ts : List Tree) → IsTrue false ↔ ArePlaced run (events_in (signs_of ts ms))
not_met run ms i d true old new l g t h ts = cc
not_met run ms i d false old new l g t h ts = (
  λ q. absurd (no q),
  λ a. absurd (t ts (events_in (signs_of ts (take i ms))) (signs_of ts (drop (i + 1) ms)) (h ts) (subst (ArePlaced run) (mark_in ts ms i (get_or ms i d) (mark_at ms i d l)) a)),
)
  where
    no : false ≡ true → ⊥
    no q = cc

pub all_met : (run : List ℕ) (ms : List Mark) (i n : ℕ) (p : Places) → length ms ≤ i → n ≡ length run → ((ts : List Tree) → HaveMet run (events_in (signs_of ts (take i ms))) p) → (ts : List Tree) → IsTrue (nat_eq p.count n) ↔ ArePlaced run (events_in (signs_of ts ms))
all_met run ms i n p l e h ts =
    subst (λ (k : ℕ). IsTrue (nat_eq p.count k) ↔ ArePlaced run (events_in (signs_of ts ms))) (sym e)
    (all_placed run (events_in (signs_of ts ms)) p (subst (λ (ks : List Mark). HaveMet run (events_in (signs_of ts ks)) p) (take_all i ms l) (h ts)))
