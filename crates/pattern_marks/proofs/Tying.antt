-- The events that were met, by number, and the pairs of ties.
use Rattle.std.specs.Prelude.{ℕ, zero, suc, ◌+◌, ◌-◌, ◌<◌, ◌≤◌, ◌≡◌, ◌≢◌, ◌⊎◌, ◌↔◌, ◌==◌, ◌||◌, ◌&&◌, Bool, true, false, List, [], ◌∷◌, ◌++◌, Option, Some, None, cond, max, min, refl, IsTrue, length, nat_lt, slice_get}
use Rattle.std.proofs.Common.{ap, ap₂, sym, subst, ◌∙◌, arith, inl, inr}
use Rattle.std.proofs.lemmas.Bool.{cases_eq, cases_lt}
use Rattle.std.proofs.lemmas.Bool.Decides.{nat_tests}
use Rattle.std.proofs.lemmas.List.{length_push}
use Rattle.std.proofs.lemmas.Option.{slice_get_past, slice_get_within}
use Rattle.list_facts.proofs.Reading.{get_behind, get_left}
use Rattle.msc_base.specs.declared.label.Pair.{Pair}
use Rattle.chart_term.specs.TermPatterns.{pairs}
use Rattle.chart_term.specs.Terms.{Tree, Tied}
use Rattle.chart_term.specs.Views.{pairs_of}
use Rattle.pattern_marks.specs.HeldMeetings.{HeldMeetings, AreLinked, DoMetGo, GoesForward, GoForward, HasPlace, IsLatest, IsSought, IsSpan, latest_of, met_one, Precede, SpansThem, wider}
use Rattle.pattern_marks.specs.Marks.{pairs_at, tie_pairs}
use Rattle.pattern_marks.specs.declared.ties.Met.{Met}
use Rattle.pattern_marks.specs.declared.ties.Span.{Span}
use Rattle.pattern_marks.proofs.Raising.{is_same, is_other, same_is, put_read}

-- ---- one event more

before_or : (n k : ℕ) → n < k + 1 → (n < k) ⊎ (n ≡ k)
before_or n k l = grind arith

get_back : (xs ys : List Met) (i : ℕ) (x : Met) → i < length xs → slice_get (xs ++ ys) i ≡ Some x → slice_get xs i ≡ Some x
get_back [] ys i x l e = absurd (omega arith)
get_back (z ∷ xs) ys zero x l e = e
get_back (z ∷ xs) ys (suc i) x l e = get_back xs ys i x (omega (arith, l)) e

one_at : (ms : List Met) (i : ℕ) (m l : Met) → slice_get ms i ≡ Some m → slice_get ms i ≡ Some l → m ≡ l
one_at ms i m l g h = let e : Some m ≡ Some l = sym g ∙ h in cc

at_end : (ms : List Met) (x m : Met) (i : ℕ) → i ≡ length ms → slice_get (ms ++ x ∷ []) i ≡ Some m → m ≡ x
at_end ms x m i e g = one_at (ms ++ x ∷ []) i m x g (subst (λ (k : ℕ). slice_get (ms ++ x ∷ []) k ≡ Some x) (sym e) (get_behind ms x []))

latest_grown : (ms : List Met) (x : Met) (n k b : ℕ) → k ≤ length ms → IsLatest ms n k b → IsLatest (ms ++ x ∷ []) n k b
latest_grown ms x n k b l h = record {
  within = h.within;
  here = λ i e. let (m, g, q) = h.here i e in (m, get_left ms (x ∷ []) i m g, q);
  none = λ i m low high g. h.none i m low high (get_back ms (x ∷ []) i m (omega (arith, l, high)) g);
}

latest_other : (ms : List Met) (x : Met) (n b : ℕ) → IsLatest ms n (length ms) b → (x.number ≡ n → ⊥) → IsLatest (ms ++ x ∷ []) n (length (ms ++ x ∷ [])) b
latest_other ms x n b h d = record {
  within = omega (arith, h.within, length_push ms x);
  here = λ i e. let (m, g, q) = h.here i e in (m, get_left ms (x ∷ []) i m g, q);
  none = λ i m low high g q. elim (before_or i (length ms) (omega (arith, high, length_push ms x))) [
    | inl l ↦ h.none i m low l (get_back ms (x ∷ []) i m l g) q
    | inr e ↦ d (ap (λ (z : Met). z.number) (sym (at_end ms x m i e g)) ∙ q)
  ];
}

latest_same : (ms : List Met) (x : Met) (n c : ℕ) → c ≡ length ms + 1 → x.number ≡ n → IsLatest (ms ++ x ∷ []) n (length (ms ++ x ∷ [])) c
latest_same ms x n c e same = record {
  within = omega (arith, e, length_push ms x);
  here = λ i q. (x, subst (λ (k : ℕ). slice_get (ms ++ x ∷ []) k ≡ Some x) (let k : length ms ≡ i = omega (arith, e, q) in k) (get_behind ms x []), same);
  none = λ i m low high g q. absurd (omega (arith, e, low, high, length_push ms x));
}

linked_one : (x : Met) (s new : HeldMeetings) → AreLinked s → x.before ≡ latest_of s x.number → new.met ≡ s.met ++ x ∷ [] → ((k : ℕ) → latest_of new k ≡ cond (x.number == k) (length s.met + 1) (latest_of s k)) → AreLinked new
linked_one x s new h b e l = record {
  from_number = λ k. subst (λ (ms : List Met). IsLatest ms k (length ms) (latest_of new k)) (sym e) (by k (cases_eq x.number k));
  from_event = λ k m g. subst (λ (ms : List Met). IsLatest ms m.number k m.before) (sym e) (event k m (subst (λ (ms : List Met). slice_get ms k ≡ Some m) e g));
}
  where
    by : (k : ℕ) → (x.number ≡ k) ⊎ (x.number ≢ k) → IsLatest (s.met ++ x ∷ []) k (length (s.met ++ x ∷ [])) (latest_of new k)
    by k (inl q) = latest_same s.met x k (latest_of new k) (l k ∙ ap (λ t. cond t (length s.met + 1) (latest_of s k)) (is_same x.number k q)) q
    by k (inr d) = subst (λ (c : ℕ). IsLatest (s.met ++ x ∷ []) k (length (s.met ++ x ∷ [])) c) (sym (l k ∙ ap (λ t. cond t (length s.met + 1) (latest_of s k)) (is_other x.number k d))) (latest_other s.met x k (latest_of s k) (h.from_number k) d)

    old_or_new : (k : ℕ) (m : Met) → slice_get (s.met ++ x ∷ []) k ≡ Some m → (k < length s.met) ⊎ (k ≡ length s.met) → IsLatest (s.met ++ x ∷ []) m.number k m.before
    old_or_new k m g (inl q) = latest_grown s.met x m.number k m.before (omega (arith, q)) (h.from_event k m (get_back s.met (x ∷ []) k m q g))
    old_or_new k m g (inr q) =
        let same : m ≡ x = at_end s.met x m k q g in
        subst (λ (z : Met). IsLatest (s.met ++ x ∷ []) z.number k z.before) (sym same)
        (subst (λ (c : ℕ). IsLatest (s.met ++ x ∷ []) x.number k c) (sym b)
        (subst (λ (j : ℕ). IsLatest (s.met ++ x ∷ []) x.number j (latest_of s x.number)) (sym q) (latest_grown s.met x x.number (length s.met) (latest_of s x.number) (omega arith) (h.from_number x.number))))

    event : (k : ℕ) (m : Met) → slice_get (s.met ++ x ∷ []) k ≡ Some m → IsLatest (s.met ++ x ∷ []) m.number k m.before
    event k m g = old_or_new k m g (before_or k (length s.met) (let l = slice_get_within (s.met ++ x ∷ []) k m g in omega (arith, l, length_push s.met x)))

pub linked_meet : (n p : ℕ) (s new : HeldMeetings) → AreLinked s → new ≡ met_one n p s → AreLinked new
linked_meet n p s new h e = subst AreLinked (sym e) (linked_one (record { place = p; number = n; before = latest_of s n }) s (met_one n p s) h refl refl (put_read s.latest (record { instance = n; place = length s.met + 1 })))

pub linked_begun : (ns : List ℕ) (s new : HeldMeetings) → AreLinked s → new ≡ record s { begun = ns } → AreLinked new
linked_begun ns s new h e = subst AreLinked (sym e) (record { from_number = h.from_number; from_event = h.from_event })

-- ---- spans

pub sought_first : (s : HeldMeetings) (n b : ℕ) → AreLinked s → b ≡ latest_of s n → IsSought s.met n b
sought_first s n b h e = subst (λ (k : ℕ). IsSought s.met n k) (sym e) (λ i q. (h.from_number n).here i q)

pub span_first : (s : HeldMeetings) (n from b : ℕ) → AreLinked s → b ≡ latest_of s n → IsSpan s.met n (max from b) None
span_first s n from b h e i m low g q = (h.from_number n).none i m (omega (arith, low, e)) (slice_get_within s.met i m g) g q

pub sought_within : (ms : List Met) (n b from : ℕ) → IsSought ms n b → from < b → b - 1 < length ms
sought_within ms n b from h l = let (m, g, q) = h (b - 1) (omega (arith, l)) in slice_get_within ms (b - 1) m g

pub before_lower : (s : HeldMeetings) (b from : ℕ) (m : Met) → AreLinked s → from < b → slice_get s.met (b - 1) ≡ Some m → m.before < b
before_lower s b from m h l g = let r = (h.from_event (b - 1) m g).within in omega (arith, r, l)

sought_number : (ms : List Met) (n b from : ℕ) (m : Met) → IsSought ms n b → from < b → slice_get ms (b - 1) ≡ Some m → m.number ≡ n
sought_number ms n b from m h l g = let (z, gz, q) = h (b - 1) (omega (arith, l)) in ap (λ (u : Met). u.number) (one_at ms (b - 1) m z g gz) ∙ q

pub sought_next : (s : HeldMeetings) (n b from : ℕ) (m : Met) → AreLinked s → from < b → IsSought s.met n b → slice_get s.met (b - 1) ≡ Some m → IsSought s.met n m.before
sought_next s n b from m h l k g = subst (λ (j : ℕ). IsSought s.met j m.before) (sought_number s.met n b from m k l g) (λ i q. (h.from_event (b - 1) m g).here i q)

place_from : (ms : List Met) (n from to p q : ℕ) → to ≤ from → p ≡ q → HasPlace ms n from p → HasPlace ms n to q
place_from ms n from to p q l e h = record { index = h.index; event = h.event; behind = omega (arith, h.behind, l); held = h.held; number = h.number; place = h.place ∙ e }

-- an event of the number stands from there on, or it is the one at hand
which : (s : HeldMeetings) (n from b : ℕ) (m : Met) → AreLinked s → from < b → IsSought s.met n b → slice_get s.met (b - 1) ≡ Some m → (i : ℕ) (z : Met) → max from m.before ≤ i → slice_get s.met i ≡ Some z → z.number ≡ n → (z ≡ m) ⊎ (max from b ≤ i)
which s n from b m h l k g i z low gz q = by (cases_lt i (b - 1))
  where
    same : i ≡ b - 1 → z ≡ m
    same e = one_at s.met (b - 1) z m (subst (λ (j : ℕ). slice_get s.met j ≡ Some z) e gz) g

    later : b - 1 ≤ i → (i ≡ b - 1) ⊎ (max from b ≤ i)
    later r = grind arith

    by : (i < b - 1) ⊎ (b - 1 ≤ i) → (z ≡ m) ⊎ (max from b ≤ i)
    by (inl r) = absurd ((h.from_event (b - 1) m g).none i z (omega (arith, low)) r gz (q ∙ sym (sought_number s.met n b from m k l g)))
    by (inr r) = elim (later r) [ inl e ↦ inl (same e) | inr u ↦ inr u ]

span_lower : (s : HeldMeetings) (from b : ℕ) (m : Met) → AreLinked s → from < b → slice_get s.met (b - 1) ≡ Some m → (max from m.before ≤ b - 1) × (max from m.before ≤ max from b)
span_lower s from b m h l g = let r = (h.from_event (b - 1) m g).within in (omega (arith, r, l), omega (arith, r, l))

pub span_next : (s : HeldMeetings) (n from b : ℕ) (m : Met) (old : Option Span) → AreLinked s → from < b → IsSought s.met n b → slice_get s.met (b - 1) ≡ Some m → IsSpan s.met n (max from b) old → SpansThem s.met n (max from m.before) (wider old m.place)
span_next s n from b m None h l k g o = record {
  least = place;
  greatest = place;
  between = λ i z low gz q. elim (which s n from b m h l k g i z low gz q) [
    | inl e ↦ let p : z.place ≡ m.place = ap (λ (u : Met). u.place) e in (omega (arith, p), omega (arith, p))
    | inr r ↦ absurd (o i z r gz q)
  ];
}
  where
    place : HasPlace s.met n (max from m.before) m.place
    place = record { index = b - 1; event = m; behind = (span_lower s from b m h l g).0; held = g; number = sought_number s.met n b from m k l g; place = refl }
span_next s n from b m (Some o) h l k g t = record {
  least = elim (cases_lt m.place o.least) [
    | inl r ↦ place_from s.met n (max from m.before) (max from m.before) m.place (min o.least m.place) (omega arith) (omega (arith, r)) place
    | inr r ↦ place_from s.met n (max from b) (max from m.before) o.least (min o.least m.place) (span_lower s from b m h l g).1 (omega (arith, r)) t.least
  ];
  greatest = elim (cases_lt o.greatest m.place) [
    | inl r ↦ place_from s.met n (max from m.before) (max from m.before) m.place (max o.greatest m.place) (omega arith) (omega (arith, r)) place
    | inr r ↦ place_from s.met n (max from b) (max from m.before) o.greatest (max o.greatest m.place) (span_lower s from b m h l g).1 (omega (arith, r)) t.greatest
  ];
  between = λ i z low gz q. elim (which s n from b m h l k g i z low gz q) [
    | inl e ↦ let p : z.place ≡ m.place = ap (λ (u : Met). u.place) e in (omega (arith, p), omega (arith, p))
    | inr r ↦ let w = t.between i z r gz q in (omega (arith, w.0), omega (arith, w.1))
  ];
}
  where
    place : HasPlace s.met n (max from m.before) m.place
    place = record { index = b - 1; event = m; behind = (span_lower s from b m h l g).0; held = g; number = sought_number s.met n b from m k l g; place = refl }

pub span_last : (ms : List Met) (n from b : ℕ) (o : Option Span) → b ≤ from → IsSpan ms n (max from b) o → IsSpan ms n from o
span_last ms n from b o l h = let e : max from b ≡ from = omega (arith, l) in subst (λ (k : ℕ). IsSpan ms n k o) e h

-- ---- pairs

pub precede_none : (s t : Option Span) → s ≡ None → IsTrue true ↔ Precede s t
precede_none None t e = (λ q. tt, λ h. refl)
precede_none (Some s) t e = cc

pub precede_one : (s t : Option Span) (a : Span) → s ≡ Some a → t ≡ None → IsTrue true ↔ Precede s t
precede_one None t a e f = cc
precede_one (Some s) None a e f = (λ q. tt, λ h. refl)
precede_one (Some s) (Some t) a e f = cc

pub precede_both : (s t : Option Span) (a b : Span) → s ≡ Some a → t ≡ Some b → IsTrue (nat_lt a.greatest b.least) ↔ Precede s t
precede_both s t a b e f = subst (λ (u : Option Span). IsTrue (nat_lt a.greatest b.least) ↔ Precede u t) (sym e) (subst (λ (u : Option Span). IsTrue (nat_lt a.greatest b.least) ↔ Precede (Some a) u) (sym f) (lower a.greatest b.least, less a.greatest b.least))
  where
    lower : (x y : ℕ) → nat_lt x y ≡ true → x < y
    lower x y t = grind (arith, nat_tests)

    less : (x y : ℕ) → x < y → nat_lt x y ≡ true
    less x y l = grind (arith, nat_tests)

pub ruleset preceding = (precede_none, precede_one, precede_both)

precede_goes : (ms : List Met) (from : ℕ) (p : Pair) (s t : Option Span) → IsSpan ms p.first from s → IsSpan ms p.second from t → Precede s t → GoesForward ms from p
precede_goes ms from p None t h k r i j m l a b gm gl em el = absurd (h i m a gm em)
precede_goes ms from p (Some s) None h k r i j m l a b gm gl em el = absurd (k j l b gl el)
precede_goes ms from p (Some s) (Some t) h k r i j m l a b gm gl em el = let x = h.between i m a gm em in let y = k.between j l b gl el in omega (arith, x.1, y.0, r)

goes_precede : (ms : List Met) (from : ℕ) (p : Pair) (s t : Option Span) → IsSpan ms p.first from s → IsSpan ms p.second from t → GoesForward ms from p → Precede s t
goes_precede ms from p None t h k g = tt
goes_precede ms from p (Some s) None h k g = tt
goes_precede ms from p (Some s) (Some t) h k g =
    let x = h.greatest in
    let y = k.least in
    let r = g x.index y.index x.event y.event x.behind y.behind x.held y.held x.number y.number in
    omega (arith, r, x.place, y.place)

pub pair_goes : (ms : List Met) (from : ℕ) (p : Pair) (s t : Option Span) (r : Bool) → IsSpan ms p.first from s → IsSpan ms p.second from t → IsTrue r ↔ Precede s t → IsTrue r ↔ GoesForward ms from p
pair_goes ms from p s t r h k e = (λ q. precede_goes ms from p s t h k (e.0 q), λ g. e.1 (goes_precede ms from p s t h k g))

and_first : (a b c d : ℕ) (r : Bool) → a ≡ b → c ≡ d → (((a == b) && (c == d)) || r) ≡ true
and_first a b c d r e f = ap₂ (λ u v. (u && v) || r) (is_same a b e) (is_same c d f)

or_later : (a b : Bool) → b ≡ true → (a || b) ≡ true
or_later true b e = refl
or_later false b e = e

or_split : (a b : Bool) → (a || b) ≡ true → (a ≡ true) ⊎ (b ≡ true)
or_split true b e = inl refl
or_split false b e = inr e

and_split : (a b : Bool) → (a && b) ≡ true → (a ≡ true) × (b ≡ true)
and_split true b e = (refl, e)
and_split false b e = cc

pair_in : (ps : List Pair) (j : ℕ) (p : Pair) → slice_get ps j ≡ Some p → pairs (pairs_of ps) p.first p.second ≡ true
pair_in [] j p e = cc
pair_in (x ∷ ps) zero p e = let s : x ≡ p = cc in and_first p.first x.first p.second x.second (pairs (pairs_of ps) p.first p.second) (ap (λ (z : Pair). z.first) (sym s)) (ap (λ (z : Pair). z.second) (sym s))
pair_in (x ∷ ps) (suc j) p e = or_later ((p.first == x.first) && (p.second == x.second)) (pairs (pairs_of ps) p.first p.second) (pair_in ps j p e)

in_pair : (ps : List Pair) (m n : ℕ) → pairs (pairs_of ps) m n ≡ true → (j : ℕ) × (p : Pair) × (slice_get ps j ≡ Some p) × (m ≡ p.first) × (n ≡ p.second)
in_pair [] m n h = cc
in_pair (x ∷ ps) m n h = elim (or_split ((m == x.first) && (n == x.second)) (pairs (pairs_of ps) m n) h) [
  | inl q ↦ let (a, b) = and_split (m == x.first) (n == x.second) q in (0, x, refl, same_is m x.first a, same_is n x.second b)
  | inr r ↦ let (j, p, g, a, b) = in_pair ps m n r in (suc j, p, g, a, b)
]

forward_met : (ms : List Met) (from : ℕ) (ps : List Pair) → ((j : ℕ) (p : Pair) → slice_get ps j ≡ Some p → GoesForward ms from p) → DoMetGo (pairs_of ps) from ms
forward_met ms from ps w i k m l a b gm gl h = let (j, p, g, q, r) = in_pair ps m.number l.number h in w j p g i k m l a b gm gl q r

met_forward : (ms : List Met) (from : ℕ) (ps : List Pair) (j : ℕ) (p : Pair) → slice_get ps j ≡ Some p → DoMetGo (pairs_of ps) from ms → GoesForward ms from p
met_forward ms from ps j p g d i k m l a b gm gl q r = d i k m l a b gm gl (subst (λ (u : ℕ). pairs (pairs_of ps) u l.number ≡ true) (sym q) (subst (λ (v : ℕ). pairs (pairs_of ps) p.first v ≡ true) (sym r) (pair_in ps j p g)))

pub pairs_first : (ms : List Met) (from : ℕ) (ps : List Pair) → GoForward ms from ps 0
pairs_first ms from ps j p l g = absurd (omega (arith, l))

pub pairs_more : (ms : List Met) (from : ℕ) (ps : List Pair) (i : ℕ) (p : Pair) (r : Bool) → slice_get ps i ≡ Some p → IsTrue r ↔ GoesForward ms from p → r ≡ true → GoForward ms from ps i → GoForward ms from ps (i + 1)
pairs_more ms from ps i p r g h e w j x l gx = by (before_or j i l)
  where
    by : (j < i) ⊎ (j ≡ i) → GoesForward ms from x
    by (inl q) = w j x q gx
    by (inr q) =
        let s : Some p ≡ Some x = sym g ∙ (ap (slice_get ps) (sym q) ∙ gx) in
        let t : p ≡ x = cc in
        subst (λ (z : Pair). GoesForward ms from z) t (h.0 e)

pub pairs_not : (ms : List Met) (from : ℕ) (ps : List Pair) (i : ℕ) (p : Pair) (r : Bool) → slice_get ps i ≡ Some p → IsTrue r ↔ GoesForward ms from p → r ≡ false → IsTrue false ↔ DoMetGo (pairs_of ps) from ms
pairs_not ms from ps i p r g h e = (λ q. absurd (no q), λ d. absurd (no (sym e ∙ h.1 (met_forward ms from ps i p g d))))
  where
    no : false ≡ true → ⊥
    no q = cc

pub pairs_all : (ms : List Met) (from : ℕ) (ps : List Pair) (n : ℕ) → length ps ≤ n → GoForward ms from ps n → IsTrue true ↔ DoMetGo (pairs_of ps) from ms
pairs_all ms from ps n l w = (λ q. forward_met ms from ps (λ j p g. w j p (let k = slice_get_within ps j p g in omega (arith, k, l)) g), λ d. refl)

-- ---- the tie that a term is

none_go : (from : ℕ) (ms : List Met) → IsTrue true ↔ DoMetGo [] from ms
none_go from ms = (λ q i k m l a b gm gl h. absurd (no h), λ d. refl)
  where
    no : false ≡ true → ⊥
    no q = cc

go_at : (ts : List Tree) (k from : ℕ) (ms : List Met) (q : List (ℕ × ℕ)) (r : Bool) → pairs_at (slice_get ts k) ≡ q → IsTrue r ↔ DoMetGo q from ms → IsTrue r ↔ DoMetGo (pairs_at (slice_get ts k)) from ms
go_at ts k from ms q r e h = subst (λ (p : List (ℕ × ℕ)). IsTrue r ↔ DoMetGo p from ms) (sym e) h

pub tie_past : (ts : List Tree) (k from : ℕ) (ms : List Met) → length ts ≤ k → IsTrue true ↔ DoMetGo (pairs_at (slice_get ts k)) from ms
tie_past ts k from ms l = go_at ts k from ms [] true (ap pairs_at (slice_get_past ts k l)) (none_go from ms)

pub tie_tied : (ts : List Tree) (k from : ℕ) (ms : List Met) (x y : Tree) (q : List (ℕ × ℕ)) (r : Bool) → slice_get ts k ≡ Some x → x ≡ Tied y q → IsTrue r ↔ DoMetGo q from ms → IsTrue r ↔ DoMetGo (pairs_at (slice_get ts k)) from ms
tie_tied ts k from ms x y q r g e h = go_at ts k from ms q r (ap pairs_at (g ∙ ap (λ (z : Tree). Some z) e)) h

pub tie_none : (ts : List Tree) (k from : ℕ) (ms : List Met) (x : Tree) → slice_get ts k ≡ Some x → tie_pairs x ≡ [] → IsTrue true ↔ DoMetGo (pairs_at (slice_get ts k)) from ms
tie_none ts k from ms x g e = go_at ts k from ms [] true (ap pairs_at g ∙ e) (none_go from ms)
