-- The chart of many statements is sound, and each label has one event.
use Rattle.std.specs.Prelude.{ℕ, suc, zero, ◌+◌, ◌<◌, ◌==◌, ◌||◌, ◌&&◌, Bool, true, false, List, [], ◌∷◌, ◌++◌, ◌≡◌, length, map, refl}
use Rattle.std.proofs.Common.{ap, sym, ◌∙◌, subst, arith, length-append}
use Rattle.std.proofs.lemmas.Bool.Decides.{nat_tests}
use Rattle.msc_base.specs.Patterns.{seq}
use Rattle.msc_base.specs.declared.label.Pair.{Pair}
use Rattle.chart_term.specs.NormalForms.{join_all, tie_of}
use Rattle.chart_term.specs.Properties.{Each}
use Rattle.chart_term.specs.TermPatterns.{instances_of, pairs}
use Rattle.chart_term.specs.Terms.{TermEvent, Tree, Event}
use Rattle.chart_term.specs.Views.{pairs_of}
use Rattle.sound_terms.specs.RisingRows.{AreNumberedFrom, DoRise, RisingRowsAreSound}
use Rattle.term_laws.specs.FullSoundness.{IsSoundNode}
use Rattle.term_laws.specs.Permission.{permits_of}
use Rattle.term_laws.specs.Placing.{AreEventsPlaced, HaveOnePlace}
use Rattle.term_laws.proofs.Placed.{join-placed, tie-placed}
use Rattle.term_bench.specs.Charts.{event}
use Rattle.term_bench.specs.Statements.{AreLabelledFrom, AreStatements}

-- one event more
pub no_statements : (labels : ℕ) (xs : List Tree) → xs ≡ [] → AreStatements labels xs 0
no_statements labels xs q = record { events = []; are = q; numbered = tt; labelled = tt; long = refl }

pub one_more : (labels n i : ℕ) (xs ys : List Tree) (x : Tree) → ys ≡ xs ++ x ∷ [] → AreStatements labels xs n → x ≡ Event (event n i n) → n < labels → AreStatements labels ys (n + 1)
one_more labels n i xs ys x q h e l = record {
  events = h.events ++ event n i n ∷ [];
  are = q ∙ ap (λ zs. zs ++ x ∷ []) h.are ∙ ap (λ z. map Event h.events ++ z ∷ []) e ∙ sym (mapped h.events (event n i n));
  numbered = behind 0 h.events (event n i n) h.numbered (omega (arith, h.long)) l;
  labelled = labelled_behind 0 h.events (event n i n) h.labelled (omega (arith, h.long));
  long = omega (arith, h.long, length-append h.events (event n i n ∷ []));
}
  where
    mapped : (es : List TermEvent) (f : TermEvent) → map Event (es ++ f ∷ []) ≡ map Event es ++ Event f ∷ []
    mapped [] f = refl
    mapped (e ∷ es) f = ap (λ zs. Event e ∷ zs) (mapped es f)

    behind : (m : ℕ) (es : List TermEvent) (f : TermEvent) → AreNumberedFrom labels m es → f.number ≡ m + length es → f.label < labels → AreNumberedFrom labels m (es ++ f ∷ [])
    behind m [] f h is low = (omega (arith, is), low, tt)
    behind m (e ∷ es) f (at, fits, h) is low = (at, fits, behind (suc m) es f h (omega (arith, is)) low)

    labelled_behind : (m : ℕ) (es : List TermEvent) (f : TermEvent) → AreLabelledFrom m es → f.label ≡ m + length es → AreLabelledFrom m (es ++ f ∷ [])
    labelled_behind m [] f h is = (omega (arith, is), tt)
    labelled_behind m (e ∷ es) f h is = (h.0, labelled_behind (suc m) es f h.1 (omega (arith, is)))

-- one pair more
pub no_pairs : (q : List Pair) → q ≡ [] → DoRise (pairs_of q)
no_pairs q e = subst (λ (r : List Pair). DoRise (pairs_of r)) (sym e) (λ m n h. absurd cc)

or_behind : (b c : Bool) → c ≡ true → (b || c) ≡ true
or_behind true c h = refl
or_behind false c h = h

is_less : (a b m n : ℕ) → a < b → (((m == a) && (n == b)) || false) ≡ true → m < n
is_less a b m n l h = grind (arith, nat_tests)

-- where the first test says yes, so does the list that begins with it; else the rest decides
either : (b c d : Bool) → (P : Type 0) → ((b || c) ≡ true → P) → (d ≡ true → P) → (b || d) ≡ true → P
either true c d P f g h = f refl
either false c d P f g h = g h

rises_behind : (s : List Pair) (p : Pair) → p.first < p.second → DoRise (pairs_of s) → (m n : ℕ) → pairs (pairs_of (s ++ p ∷ [])) m n ≡ true → m < n
rises_behind [] p low h m n i = is_less p.first p.second m n low i
rises_behind (t ∷ s) p low h m n i =
    either ((m == t.first) && (n == t.second)) (pairs (pairs_of s) m n) (pairs (pairs_of (s ++ p ∷ [])) m n) (m < n) (h m n)
    (rises_behind s p low (λ k l j. h k l (or_behind ((k == t.first) && (l == t.second)) (pairs (pairs_of s) k l) j)) m n) i

pub one_pair_more : (q r : List Pair) (p : Pair) → r ≡ q ++ p ∷ [] → p.first < p.second → DoRise (pairs_of q) → DoRise (pairs_of r)
one_pair_more q r p e low h = subst (λ (s : List Pair). DoRise (pairs_of s)) (sym e) (rises_behind q p low h)

pub chart_sound : RisingRowsAreSound → (n : ℕ) (x y : Tree) (xs : List Tree) (q : List (ℕ × ℕ)) → AreStatements n xs n → DoRise q → y ≡ join_all seq xs → x ≡ tie_of y q → IsSoundNode n [] x
chart_sound law n x y xs q h up e f =
    subst (IsSoundNode n []) (sym (f ∙ ap (λ z. tie_of z q) (e ∙ ap (join_all seq) h.are))) (law.sound n 0 [] h.events q tt h.numbered up)

-- the instances of the event at each place
abbrev instances_at : List TermEvent → ℕ → List ℕ
instances_at [] n = []
instances_at (e ∷ es) zero = (instances_of e).instances
instances_at (e ∷ es) (suc n) = instances_at es n

-- as labels rise with places, each label has one event
each_placed : (f : ℕ → List ℕ) (m : ℕ) (es : List TermEvent) → ((i : ℕ) → f (m + i) ≡ instances_at es i) → AreLabelledFrom m es → Each (AreEventsPlaced f) (map Event es)
each_placed f m [] h i = tt
each_placed f m (e ∷ es) h (is, others) =
    (ap f (omega (arith, is)) ∙ h 0, each_placed f (suc m) es (λ i. ap f (omega arith) ∙ h (suc i)) others)

pub chart_placed : (n : ℕ) (x y : Tree) (xs : List Tree) (q : List (ℕ × ℕ)) → AreStatements n xs n → y ≡ join_all seq xs → x ≡ tie_of y q → HaveOnePlace [] x
chart_placed n x y xs q h e f = subst (HaveOnePlace []) (sym (f ∙ ap (λ z. tie_of z q) (e ∙ ap (join_all seq) h.are))) (record {
  places = instances_at h.events;
  nets = tt;
  term = tie-placed (instances_at h.events) (permits_of []) (join_all seq (map Event h.events)) q
      (join-placed (instances_at h.events) (permits_of []) seq (map Event h.events) (each_placed (instances_at h.events) 0 h.events (λ i. ap (instances_at h.events) (omega arith)) h.labelled));
})

pub ruleset statement_rules = (no_statements, one_more)

pub ruleset pair_rules = (no_pairs, one_pair_more)
