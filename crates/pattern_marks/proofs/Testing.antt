-- The tests on signs are those of the pattern.
use Rattle.std.specs.Prelude.{ℕ, suc, ◌<◌, ◌≡◌, ◌⊎◌, ◌↔◌, Bool, false, true, IsTrue, Result, Ok, Err, IfOk, List, [], ◌∷◌, ◌++◌, refl, length, map, drop}
use Rattle.std.proofs.Common.{ap, ap₂, sym, subst, ◌∙◌, arith, inl, inr, append_assoc}
use Rattle.list_facts.proofs.Members.{among_left, among_right, among_either}
use Rattle.msc_base.specs.Lists.{AreDifferent, IsAmong}
use Rattle.msc_base.specs.Patterns.{seq, par, Position, empty, one, join, bind, event_at}
use Rattle.chart_term.specs.TermPatterns.{pairs}
use Rattle.certificates.specs.Certificates.{PlacedEvent, PlacedShape, placed, place_at}
use Rattle.certificates.specs.CheckLaws.{ChecksAreExact}
use Rattle.certificates.specs.Floors.{Floors, floors_behind, IsAbove, DoPairsRise, Stands}
use Rattle.pattern_marks.specs.Marks.{Sign, stands, opens, turns, closes, tie_opens, tie_closes, signs}
use Rattle.pattern_marks.specs.Runs.{IsRunOf}
use Rattle.pattern_marks.specs.Tests.{before, behind, events_in, IsPlaced, ArePlaced, DoRise, DoPairsGo, DoTiesGo, Waiting}

-- ---- floors

-- each event stands above the floors before it, ties aside
abbrev Stand : Floors → PlacedShape → Type 0
Stand f empty = Unit {0}
Stand f (one d) = IsAbove f d.event d.place
Stand f (join seq x y) = Stand f x × Stand (floors_behind f x) y
Stand f (join par x y) = Stand f x × Stand f y
Stand f (bind x q) = Stand f x

beside : (x y : PlacedShape) (ms : List Sign) → (signs x ++ turns ∷ (signs y ++ closes ∷ [])) ++ ms ≡ signs x ++ turns ∷ (signs y ++ closes ∷ ms)
beside x y ms = append_assoc (signs x) (turns ∷ (signs y ++ closes ∷ [])) ms ∙ ap (λ (l : List Sign). signs x ++ turns ∷ l) (append_assoc (signs y) (closes ∷ []) ms)

tied : (x : PlacedShape) (q : List (ℕ × ℕ)) (ms : List Sign) → (signs x ++ tie_closes q ∷ []) ++ ms ≡ signs x ++ tie_closes q ∷ ms
tied x q ms = append_assoc (signs x) (tie_closes q ∷ []) ms

rise_out : (f : Floors) (gs : List Waiting) (p : PlacedShape) (ms : List Sign) → DoRise f gs (signs p ++ ms) → Stand f p × DoRise (floors_behind f p) gs ms
rise_out f gs empty ms h = (tt, h)
rise_out f gs (one d) ms h = h
rise_out f gs (join seq x y) ms h =
    let a = rise_out f gs x (signs y ++ ms) (subst (λ (l : List Sign). DoRise f gs l) (append_assoc (signs x) (signs y) ms) h) in
    let b = rise_out (floors_behind f x) gs y ms a.1 in
    ((a.0, b.0), b.1)
rise_out f gs (join par x y) ms h =
    let a = rise_out f (before f ∷ gs) x (turns ∷ (signs y ++ closes ∷ ms)) (subst (λ (l : List Sign). DoRise f (before f ∷ gs) l) (beside x y ms) h) in
    let b = rise_out f (behind (floors_behind f x) ∷ gs) y (closes ∷ ms) a.1 in
    ((a.0, b.0), b.1)
rise_out f gs (bind x q) ms h = rise_out f gs x (tie_closes q ∷ ms) (subst (λ (l : List Sign). DoRise f gs l) (tied x q ms) h)

rise_in : (f : Floors) (gs : List Waiting) (p : PlacedShape) (ms : List Sign) → Stand f p → DoRise (floors_behind f p) gs ms → DoRise f gs (signs p ++ ms)
rise_in f gs empty ms s h = h
rise_in f gs (one d) ms s h = (s, h)
rise_in f gs (join seq x y) ms s h = subst (λ (l : List Sign). DoRise f gs l) (sym (append_assoc (signs x) (signs y) ms)) (rise_in f gs x (signs y ++ ms) s.0 (rise_in (floors_behind f x) gs y ms s.1 h))
rise_in f gs (join par x y) ms s h =
    subst (λ (l : List Sign). DoRise f (before f ∷ gs) l) (sym (beside x y ms))
    (rise_in f (before f ∷ gs) x (turns ∷ (signs y ++ closes ∷ ms)) s.0 (rise_in f (behind (floors_behind f x) ∷ gs) y (closes ∷ ms) s.1 h))
rise_in f gs (bind x q) ms s h = subst (λ (l : List Sign). DoRise f gs l) (sym (tied x q ms)) (rise_in f gs x (tie_closes q ∷ ms) s h)

append_none : {A : Type 0} (xs : List A) → xs ++ [] ≡ xs
append_none [] = refl
append_none (x ∷ xs) = ap (λ l. x ∷ l) (append_none xs)

rise_is : (f : Floors) (p : PlacedShape) → DoRise f [] (signs p) ↔ Stand f p
rise_is f p = (
  λ h. (rise_out f [] p [] (subst (λ (l : List Sign). DoRise f [] l) (sym (append_none (signs p))) h)).0,
  λ h. subst (λ (l : List Sign). DoRise f [] l) (append_none (signs p)) (rise_in f [] p [] h tt),
)

-- ---- events

events_append : (a b : List Sign) → events_in (a ++ b) ≡ events_in a ++ events_in b
events_append [] b = refl
events_append (stands e n ∷ a) b = ap (λ l. record { event = e; place = n } ∷ l) (events_append a b)
events_append (opens ∷ a) b = events_append a b
events_append (turns ∷ a) b = events_append a b
events_append (closes ∷ a) b = events_append a b
events_append (tie_opens ∷ a) b = events_append a b
events_append (tie_closes q ∷ a) b = events_append a b

abbrev events_of : PlacedShape → List PlacedEvent
events_of empty = []
events_of (one d) = d ∷ []
events_of (join m x y) = events_of x ++ events_of y
events_of (bind x q) = events_of x

pub events_are : (p : PlacedShape) → events_in (signs p) ≡ events_of p
events_are empty = refl
events_are (one d) = refl
events_are (join seq x y) = events_append (signs x) (signs y) ∙ ap₂ (λ u v. u ++ v) (events_are x) (events_are y)
events_are (join par x y) =
    events_append (signs x) (turns ∷ (signs y ++ closes ∷ []))
    ∙ ap₂ (λ u v. u ++ v) (events_are x) (events_append (signs y) (closes ∷ []) ∙ (append_none (events_in (signs y)) ∙ events_are y))
events_are (bind x q) = events_append (signs x) (tie_closes q ∷ []) ∙ (append_none (events_in (signs x)) ∙ events_are x)

-- the event of a position is among them, and each of them is that of a position
at_position : (p : PlacedShape) (i : Position p) → IsAmong (events_of p) (event_at placed p i)
at_position empty i = absurd i
at_position (one d) i = inl refl
at_position (join m x y) (inl i) = among_left (events_of x) (events_of y) (event_at placed x i) (at_position x i)
at_position (join m x y) (inr i) = among_right (events_of x) (events_of y) (event_at placed y i) (at_position y i)
at_position (bind x q) i = at_position x i

position_of : (p : PlacedShape) (d : PlacedEvent) → IsAmong (events_of p) d → (i : Position p) × (event_at placed p i ≡ d)
position_of empty d h = absurd h
position_of (one e) d (inl h) = (tt, sym h)
position_of (one e) d (inr h) = absurd h
position_of (join m x y) d h = elim (among_either (events_of x) (events_of y) d h) [
  | inl g ↦ let (i, e) = position_of x d g in (inl i, e)
  | inr g ↦ let (i, e) = position_of y d g in (inr i, e)
]
position_of (bind x q) d h = position_of x d h

-- ---- ties

abbrev TiesGo : PlacedShape → Type 0
TiesGo empty = Unit {0}
TiesGo (one d) = Unit {0}
TiesGo (join m x y) = TiesGo x × TiesGo y
TiesGo (bind x q) = TiesGo x × DoPairsGo q (events_of x)

drop_front : {A : Type 0} (xs ys : List A) → drop (length xs) (xs ++ ys) ≡ ys
drop_front [] ys = refl
drop_front (x ∷ xs) ys = drop_front xs ys

ties_out : (ds : List PlacedEvent) (ns : List ℕ) (p : PlacedShape) (ms : List Sign) → DoTiesGo ds ns (signs p ++ ms) → TiesGo p × DoTiesGo (ds ++ events_of p) ns ms
ties_out ds ns empty ms h = (tt, subst (λ (l : List PlacedEvent). DoTiesGo l ns ms) (sym (append_none ds)) h)
ties_out ds ns (one d) ms h = (tt, h)
ties_out ds ns (join seq x y) ms h =
    let a = ties_out ds ns x (signs y ++ ms) (subst (λ (l : List Sign). DoTiesGo ds ns l) (append_assoc (signs x) (signs y) ms) h) in
    let b = ties_out (ds ++ events_of x) ns y ms a.1 in
    ((a.0, b.0), subst (λ (l : List PlacedEvent). DoTiesGo l ns ms) (append_assoc ds (events_of x) (events_of y)) b.1)
ties_out ds ns (join par x y) ms h =
    let a = ties_out ds ns x (turns ∷ (signs y ++ closes ∷ ms)) (subst (λ (l : List Sign). DoTiesGo ds ns l) (beside x y ms) h) in
    let b = ties_out (ds ++ events_of x) ns y (closes ∷ ms) a.1 in
    ((a.0, b.0), subst (λ (l : List PlacedEvent). DoTiesGo l ns ms) (append_assoc ds (events_of x) (events_of y)) b.1)
ties_out ds ns (bind x q) ms h =
    let a = ties_out ds (length ds ∷ ns) x (tie_closes q ∷ ms) (subst (λ (l : List Sign). DoTiesGo ds (length ds ∷ ns) l) (tied x q ms) h) in
    ((a.0, subst (DoPairsGo q) (drop_front ds (events_of x)) a.1.0), a.1.1)

ties_in : (ds : List PlacedEvent) (ns : List ℕ) (p : PlacedShape) (ms : List Sign) → TiesGo p → DoTiesGo (ds ++ events_of p) ns ms → DoTiesGo ds ns (signs p ++ ms)
ties_in ds ns empty ms t h = subst (λ (l : List PlacedEvent). DoTiesGo l ns ms) (append_none ds) h
ties_in ds ns (one d) ms t h = h
ties_in ds ns (join seq x y) ms t h =
    subst (λ (l : List Sign). DoTiesGo ds ns l) (sym (append_assoc (signs x) (signs y) ms))
    (ties_in ds ns x (signs y ++ ms) t.0 (ties_in (ds ++ events_of x) ns y ms t.1 (subst (λ (l : List PlacedEvent). DoTiesGo l ns ms) (sym (append_assoc ds (events_of x) (events_of y))) h)))
ties_in ds ns (join par x y) ms t h =
    subst (λ (l : List Sign). DoTiesGo ds ns l) (sym (beside x y ms))
    (ties_in ds ns x (turns ∷ (signs y ++ closes ∷ ms)) t.0 (ties_in (ds ++ events_of x) ns y (closes ∷ ms) t.1 (subst (λ (l : List PlacedEvent). DoTiesGo l ns ms) (sym (append_assoc ds (events_of x) (events_of y))) h)))
ties_in ds ns (bind x q) ms t h =
    subst (λ (l : List Sign). DoTiesGo ds (length ds ∷ ns) l) (sym (tied x q ms))
    (ties_in ds (length ds ∷ ns) x (tie_closes q ∷ ms) t.0 (subst (DoPairsGo q) (sym (drop_front ds (events_of x))) t.1, h))

ties_are : (p : PlacedShape) → DoTiesGo [] [] (signs p) ↔ TiesGo p
ties_are p = (
  λ h. (ties_out [] [] p [] (subst (λ (l : List Sign). DoTiesGo [] [] l) (sym (append_none (signs p))) h)).0,
  λ h. subst (λ (l : List Sign). DoTiesGo [] [] l) (append_none (signs p)) (ties_in [] [] p [] h tt),
)

-- ---- both are the test by floors

pairs_out : (x : PlacedShape) (q : List (ℕ × ℕ)) → DoPairsRise x q → DoPairsGo q (events_of x)
pairs_out x q h d e i j s =
    let (a, u) = position_of x d i in
    let (b, v) = position_of x e j in
    subst (λ (z : PlacedEvent). z.place < e.place) u (subst (λ (z : PlacedEvent). place_at x a < z.place) v
    (h a b (subst (λ (z : PlacedEvent). pairs q z.event.number (event_at placed x b).event.number ≡ true) (sym u) (subst (λ (z : PlacedEvent). pairs q d.event.number z.event.number ≡ true) (sym v) s))))

pairs_in : (x : PlacedShape) (q : List (ℕ × ℕ)) → DoPairsGo q (events_of x) → DoPairsRise x q
pairs_in x q h i j s = h (event_at placed x i) (event_at placed x j) (at_position x i) (at_position x j) s

pub stands_out : (f : Floors) (p : PlacedShape) → Stands f p → Stand f p × TiesGo p
stands_out f empty h = (tt, tt)
stands_out f (one d) h = (h, tt)
stands_out f (join seq x y) h = let a = stands_out f x h.0 in let b = stands_out (floors_behind f x) y h.1 in ((a.0, b.0), (a.1, b.1))
stands_out f (join par x y) h = let a = stands_out f x h.0 in let b = stands_out f y h.1 in ((a.0, b.0), (a.1, b.1))
stands_out f (bind x q) h = let a = stands_out f x h.0 in (a.0, (a.1, pairs_out x q h.1))

pub stands_in : (f : Floors) (p : PlacedShape) → Stand f p → TiesGo p → Stands f p
stands_in f empty h t = tt
stands_in f (one d) h t = h
stands_in f (join seq x y) h t = (stands_in f x h.0 t.0, stands_in (floors_behind f x) y h.1 t.1)
stands_in f (join par x y) h t = (stands_in f x h.0 t.0, stands_in f y h.1 t.1)
stands_in f (bind x q) h t = (stands_in f x h t.0, pairs_in x q t.1)

-- ---- places

abbrev places : List PlacedEvent → List ℕ
places ds = map (λ d. d.place) ds

place_among : (ds : List PlacedEvent) (d : PlacedEvent) → IsAmong ds d → IsAmong (places ds) d.place
place_among [] d h = absurd h
place_among (e ∷ ds) d (inl h) = inl (ap (λ (z : PlacedEvent). z.place) h)
place_among (e ∷ ds) d (inr h) = inr (place_among ds d h)

among_place : (ds : List PlacedEvent) (n : ℕ) → IsAmong (places ds) n → (d : PlacedEvent) × IsAmong ds d × (d.place ≡ n)
among_place [] n h = absurd h
among_place (e ∷ ds) n (inl h) = (e, inl refl, sym h)
among_place (e ∷ ds) n (inr h) = let (d, i, q) = among_place ds n h in (d, inr i, q)

places_append : (a b : List PlacedEvent) → places (a ++ b) ≡ places a ++ places b
places_append [] b = refl
places_append (d ∷ a) b = ap (λ l. d.place ∷ l) (places_append a b)

different_both : (a b : List ℕ) → AreDifferent a → AreDifferent b → ((n : ℕ) → IsAmong a n → IsAmong b n → ⊥) → AreDifferent (a ++ b)
different_both [] b h g f = g
different_both (x ∷ a) b h g f = (λ i. elim (among_either a b x i) [ inl j ↦ h.0 j | inr j ↦ f x (inl refl) j ], different_both a b h.1 g (λ n i j. f n (inr i) j))

different_out : (a b : List ℕ) → AreDifferent (a ++ b) → AreDifferent a × AreDifferent b × ((n : ℕ) → IsAmong a n → IsAmong b n → ⊥)
different_out [] b h = (tt, h, λ n i j. i)
different_out (x ∷ a) b h =
    let (c, d, f) = different_out a b h.1 in
    ((λ i. h.0 (among_left a b x i), c), d, λ n i j. by n i j f)
  where
    by : (n : ℕ) → (n ≡ x) ⊎ IsAmong a n → IsAmong b n → ((n : ℕ) → IsAmong a n → IsAmong b n → ⊥) → ⊥
    by n (inl e) j f = h.0 (among_right a b x (subst (λ (m : ℕ). IsAmong b m) e j))
    by n (inr i) j f = f n i j

abbrev IsOnce : PlacedShape → Type 0
IsOnce p = (i j : Position p) → place_at p i ≡ place_at p j → i ≡ j

once_out : (p : PlacedShape) → IsOnce p → AreDifferent (places (events_of p))
once_out empty h = tt
once_out (one d) h = (λ i. i, tt)
once_out (join m x y) h = subst AreDifferent (sym (places_append (events_of x) (events_of y))) (different_both (places (events_of x)) (places (events_of y))
    (once_out x (λ i j e. let q : ◌≡◌ {A = Position (join m x y)} (inl i) (inl j) = h (inl i) (inl j) e in cc)) (once_out y (λ i j e. let q : ◌≡◌ {A = Position (join m x y)} (inr i) (inr j) = h (inr i) (inr j) e in cc)) apart)
  where
    apart : (n : ℕ) → IsAmong (places (events_of x)) n → IsAmong (places (events_of y)) n → ⊥
    apart n i j =
        let (d, u, a) = among_place (events_of x) n i in
        let (e, v, b) = among_place (events_of y) n j in
        let (k, r) = position_of x d u in
        let (l, s) = position_of y e v in
        let q : place_at x k ≡ place_at y l = ap (λ (z : PlacedEvent). z.place) r ∙ (a ∙ (sym b ∙ ap (λ (z : PlacedEvent). z.place) (sym s))) in
        let no : ◌≡◌ {A = Position (join m x y)} (inl k) (inr l) = h (inl k) (inr l) q in
        cc
once_out (bind x q) h = once_out x h

once_in : (p : PlacedShape) → AreDifferent (places (events_of p)) → IsOnce p
once_in empty h = λ i j e. absurd i
once_in (one d) h = λ i j e. refl
once_in (join m x y) h =
    let (a, b, f) = different_out (places (events_of x)) (places (events_of y)) (subst AreDifferent (places_append (events_of x) (events_of y)) h) in
    either (once_in x a) (once_in y b) f
  where
    either : IsOnce x → IsOnce y → ((n : ℕ) → IsAmong (places (events_of x)) n → IsAmong (places (events_of y)) n → ⊥) → IsOnce (join m x y)
    either a b f (inl i) (inl j) e = ap inl (a i j e)
    either a b f (inl i) (inr j) e =
        absurd (f (place_at x i) (place_among (events_of x) (event_at placed x i) (at_position x i)) (subst (IsAmong (places (events_of y))) (sym e) (place_among (events_of y) (event_at placed y j) (at_position y j))))
    either a b f (inr i) (inl j) e =
        absurd (f (place_at x j) (place_among (events_of x) (event_at placed x j) (at_position x j)) (subst (IsAmong (places (events_of y))) e (place_among (events_of y) (event_at placed y i) (at_position y i))))
    either a b f (inr i) (inr j) e = ap inr (b i j e)
once_in (bind x q) h = once_in x h

-- ---- the whole

-- what the tests ask of signs
pub record AreTested (run : List ℕ) (ms : List Sign) : Type 0 where
  pub placed : ArePlaced run (events_in ms)
  pub rise : DoRise (λ i. 0) [] ms
  pub tied : DoTiesGo [] [] ms

no : false ≡ true → ⊥
no q = cc

pub if_ok : {A E : Type 0} (r : Result A E) (P Q : A → Type 0) → ((x : A) → P x → Q x) → IfOk r P → IfOk r Q
if_ok (Ok x) P Q f h = f x h
if_ok (Err e) P Q f h = tt

module _ (checks : ChecksAreExact) where
  to_tests : (run : List ℕ) (p : PlacedShape) → IsRunOf run p → AreTested run (signs p)
  to_tests run p h = record {
    placed = subst (λ (ds : List PlacedEvent). ArePlaced run ds) (sym (events_are p)) (record { labelled = labelled; once = once_out p h.once; every = every });
    rise = (rise_is (λ i. 0) p).1 (stands_out (λ i. 0) p stand).0;
    tied = (ties_are p).1 (stands_out (λ i. 0) p stand).1;
  }
    where
      stand : Stands (λ i. 0) p
      stand = (checks.floors p (λ i. let r = h.labelled i in omega (arith, r.1))).to h.forward

      labelled : (d : PlacedEvent) → IsAmong (events_of p) d → IsPlaced run d
      labelled d i = let (j, e) = position_of p d i in subst (IsPlaced run) e (h.labelled j)

      every : (k : ℕ) → k < length run → (d : PlacedEvent) × IsAmong (events_of p) d × (d.place ≡ suc k)
      every k l = let (i, e) = h.every k l in (event_at placed p i, at_position p i, e)

  from_tests : (run : List ℕ) (p : PlacedShape) → AreTested run (signs p) → IsRunOf run p
  from_tests run p t = of (subst (ArePlaced run) (events_are p) t.placed) ((rise_is (λ i. 0) p).0 t.rise) ((ties_are p).0 t.tied)
    where
      of : ArePlaced run (events_of p) → Stand (λ i. 0) p → TiesGo p → IsRunOf run p
      of a r g = record {
        labelled = λ i. a.labelled (event_at placed p i) (at_position p i);
        once = once_in p a.once;
        every = λ k l. let (e, i, q) = a.every k l in let (j, u) = position_of p e i in (j, ap (λ (z : PlacedEvent). z.place) u ∙ q);
        forward = (checks.floors p (λ i. let b = a.labelled (event_at placed p i) (at_position p i) in omega (arith, b.1))).from (stands_in (λ i. 0) p r g);
      }

  -- a pattern is a run of the log exactly where its signs meet the tests
  pub runs_are_tested : (run : List ℕ) (p : PlacedShape) (ms : List Sign) → ms ≡ signs p → AreTested run ms ↔ IsRunOf run p
  runs_are_tested run p ms e = (λ t. from_tests run p (subst (AreTested run) e t), λ h. subst (AreTested run) (sym e) (to_tests run p h))

  -- the tests one after another
  pub not_placed : (run : List ℕ) (p : PlacedShape) (ms : List Sign) (r : Bool) → ms ≡ signs p → IsTrue r ↔ ArePlaced run (events_in ms) → r ≡ false → IsTrue false ↔ IsRunOf run p
  not_placed run p ms r e h f = (λ q. absurd (no q), λ i. absurd (no (sym f ∙ h.1 ((runs_are_tested run p ms e).1 i).placed)))

  pub not_rising : (run : List ℕ) (p : PlacedShape) (ms : List Sign) (r : Bool) → ms ≡ signs p → IsTrue r ↔ DoRise (λ i. 0) [] ms → r ≡ false → IsTrue false ↔ IsRunOf run p
  not_rising run p ms r e h f = (λ q. absurd (no q), λ i. absurd (no (sym f ∙ h.1 ((runs_are_tested run p ms e).1 i).rise)))

  pub tied_run : (run : List ℕ) (p : PlacedShape) (ms : List Sign) (r : Bool) → ms ≡ signs p → ArePlaced run (events_in ms) → DoRise (λ i. 0) [] ms → IsTrue r ↔ DoTiesGo [] [] ms → IsTrue r ↔ IsRunOf run p
  tied_run run p ms r e a b h = (λ q. (runs_are_tested run p ms e).0 (record { placed = a; rise = b; tied = h.0 q }), λ i. h.1 ((runs_are_tested run p ms e).1 i).tied)
