-- The numbers that the pairs of a tie put before one, where a search finds the pairs.
use Rattle.std.specs.List.{list_any, position_from}
use Rattle.std.specs.Prelude.{ℕ, ◌+◌, ◌<◌, ◌≤◌, ◌==◌, Bool, true, false, List, [], ◌∷◌, ◌++◌, ◌≡◌, ◌||◌, Some, None, refl, length, drop, slice_get}
use Rattle.std.proofs.Common.{ap, sym, ◌∙◌, arith}
use Rattle.std.proofs.lemmas.Bool.Decides.{nat_tests}
use Rattle.std.proofs.lemmas.List.{append_assoc, length-append}
use Rattle.std.proofs.lemmas.Bool.{or_parts}
use Rattle.msc_base.specs.declared.label.Pair.{Pair}
use Rattle.bit_sets.specs.Blocks.{insert_rising}
use Rattle.list_facts.proofs.Bools.{or_false, or_comm}
use Rattle.tie_list.specs.Names.{has_second}
use Rattle.chart_term.specs.TermPatterns.{before_in, put_if}
use Rattle.chart_term.specs.Terms.{has}
use Rattle.chart_term.specs.Views.{pairs_of}
use Rattle.chart_term.proofs.Instances.{has_added}
use Rattle.term_laws.proofs.Unions.{insert-add}
use Rattle.term_permission.proofs.Retying.{IsFound, drop_front, found_at, get_front, none_at}

-- the numbers before one, pair by pair
before_both : (q r : List Pair) (m n : ℕ) → has (before_in (pairs_of (q ++ r)) m) n ≡ (has (before_in (pairs_of q) m) n || has (before_in (pairs_of r) m) n)
before_both [] r m n = refl
before_both (p ∷ q) r m n = by_case (m == p.second) (before_both q r m n)
  where
    turn : (a b c : Bool) → (a || (b || c)) ≡ ((a || b) || c)
    turn true b c = refl
    turn false b c = refl

    by_case : (b : Bool) → has (before_in (pairs_of (q ++ r)) m) n ≡ (has (before_in (pairs_of q) m) n || has (before_in (pairs_of r) m) n) → has (put_if b p.first (before_in (pairs_of (q ++ r)) m)) n ≡ (has (put_if b p.first (before_in (pairs_of q) m)) n || has (before_in (pairs_of r) m) n)
    by_case true h = ap (λ u. (p.first == n) || u) h ∙ turn (p.first == n) (has (before_in (pairs_of q) m) n) (has (before_in (pairs_of r) m) n)
    by_case false h = h

turned : (i j : ℕ) → (i == j) ≡ false → (j == i) ≡ false
turned i j h = grind (arith, nat_tests)

turned_so : (i j : ℕ) → (i == j) ≡ true → (j == i) ≡ true
turned_so i j h = grind (arith, nat_tests)

before_none : (m : ℕ) (q : List Pair) → list_any (has_second m) q ≡ false → before_in (pairs_of q) m ≡ []
before_none m [] h = refl
before_none m (p ∷ q) h = let (a, b) = or_parts (p.second == m) (list_any (has_second m) q) h in ap (λ t. put_if t p.first (before_in (pairs_of q) m)) (turned p.second m a) ∙ before_none m q b

module _ (m : ℕ) (all : List Pair) where
  -- the numbers of the pairs before an index were added
  pub record IsAdded (from : ℕ) (events : List ℕ) : Type 0 where
    pub before : List Pair
    pub behind : List Pair
    pub are : all ≡ before ++ behind
    pub place : from ≡ length before
    pub added : (n : ℕ) → has events n ≡ has (before_in (pairs_of before) m) n

  pub added_none : (events : List ℕ) → events ≡ [] → IsAdded 0 events
  added_none events e = record { before = []; behind = all; are = refl; place = refl; added = λ n. ap (λ l. has l n) e }

  module _ (from at : ℕ) (events : List ℕ) (w : IsAdded from events) (h : Some at ≡ position_from (has_second m) from (drop from all)) where
    found_next : IsFound (has_second m) from w.behind at
    found_next = found_at (has_second m) from w.behind at (sym (h ∙ ap (position_from (has_second m) from) (ap (drop from) w.are ∙ drop_front w.before w.behind from w.place)))

    pub added_on : from ≤ at
    added_on = omega (arith, found_next.place)

    whole_next : all ≡ (w.before ++ found_next.middle) ++ found_next.item ∷ found_next.behind
    whole_next = w.are ∙ (ap (λ l. w.before ++ l) found_next.are ∙ sym (append_assoc w.before found_next.middle (found_next.item ∷ found_next.behind)))

    here_next : at ≡ length (w.before ++ found_next.middle)
    here_next = omega (arith, w.place, found_next.place, length-append w.before found_next.middle)

    pub added_within : at < length all
    added_within = let l = length-append (w.before ++ found_next.middle) (found_next.item ∷ found_next.behind) in let k = ap length whole_next in omega (arith, here_next, l, k)

    item_next : (p : Pair) → slice_get all at ≡ Some p → found_next.item ≡ p
    item_next p e = got (sym (sym e ∙ (ap (λ l. slice_get l at) whole_next ∙ get_front (w.before ++ found_next.middle) found_next.item found_next.behind at here_next)))
      where
        got : Some found_next.item ≡ Some p → found_next.item ≡ p
        got k = cc

    pub added_more : (p : Pair) (after : ℕ) (new : List ℕ) → slice_get all at ≡ Some p → new ≡ insert_rising events p.first → after ≡ at + 1 → IsAdded after new
    added_more p after new e f k = record {
      before = (w.before ++ found_next.middle) ++ found_next.item ∷ [];
      behind = found_next.behind;
      are = whole_next ∙ sym (append_assoc (w.before ++ found_next.middle) (found_next.item ∷ []) found_next.behind);
      place = omega (arith, k, here_next, length-append (w.before ++ found_next.middle) (found_next.item ∷ []));
      added = λ n. left n ∙ sym (right n);
    }
      where
        left : (n : ℕ) → has new n ≡ ((p.first == n) || has events n)
        left n = ap (λ l. has l n) (f ∙ insert-add p.first events) ∙ has_added p.first events n

        front : (n : ℕ) → has (before_in (pairs_of (w.before ++ found_next.middle)) m) n ≡ has events n
        front n =
            before_both w.before found_next.middle m n
            ∙ (ap (λ l. has (before_in (pairs_of w.before) m) n || has l n) (before_none m found_next.middle found_next.passed) ∙ (or_false (has (before_in (pairs_of w.before) m) n) ∙ sym (w.added n)))

        one : (n : ℕ) → has (before_in (pairs_of (found_next.item ∷ [])) m) n ≡ (p.first == n)
        one n =
            ap (λ t. has (put_if t found_next.item.first []) n) (turned_so found_next.item.second m found_next.there)
            ∙ (or_false (found_next.item.first == n) ∙ ap (λ (r : Pair). r.first == n) (item_next p e))

        right : (n : ℕ) → has (before_in (pairs_of ((w.before ++ found_next.middle) ++ found_next.item ∷ [])) m) n ≡ ((p.first == n) || has events n)
        right n = before_both (w.before ++ found_next.middle) (found_next.item ∷ []) m n ∙ ((λ i. front n i || one n i) ∙ or_comm (has events n) (p.first == n))

  pub added_all : (from : ℕ) (events : List ℕ) → IsAdded from events → None ≡ position_from (has_second m) from (drop from all) → (n : ℕ) → has events n ≡ has (before_in (pairs_of all) m) n
  added_all from events w h n =
      let none = none_at (has_second m) from w.behind (sym (h ∙ ap (position_from (has_second m) from) (ap (drop from) w.are ∙ drop_front w.before w.behind from w.place))) in
      w.added n
      ∙ sym
      (ap (λ l. has (before_in (pairs_of l) m) n) w.are ∙ (before_both w.before w.behind m n ∙ (ap (λ l. has (before_in (pairs_of w.before) m) n || has l n) (before_none m w.behind none) ∙ or_false (has (before_in (pairs_of w.before) m) n))))
