-- What an event leaves of the terms of words.
use Rattle.std.specs.Prelude.{ℕ, zero, suc, ◌+◌, ◌*◌, ◌-◌, ◌/◌, ◌%◌, ◌^◌, ◌<◌, ◌≤◌, Bool, true, false, List, [], ◌∷◌, ◌≡◌, length, map, slice_get, Some}
use Rattle.std.proofs.Common.{ap, sym, ◌∙◌, subst, arith, inl, inr}
use Rattle.std.proofs.Math.Nat.{pow-suc, le-div_iff_mul-le, div-lt_iff_lt-mul}
use Rattle.msc_base.specs.Lists.{AreDifferent, IsAmong}
use Rattle.chart_term.specs.NormalForms.{NetPermits}
use Rattle.chart_term.specs.Terms.{Tree}
use Rattle.term_laws.specs.Listing.{set_weight}
use Rattle.term_sets.specs.Subsets.{AreAllTaken, AreBits, AreSubsets, IsLeft, IsTaken, IsTooMuch, IsWord, all_spelled, picked, spelled, weight_of_size}
use Rattle.term_sets.specs.Words.{IsEachLeft, IsWordLeft}
use Rattle.term_sets.specs.declared.words.Words.{Words}
use Rattle.term_sets.proofs.Holding.{held_word, word_held}
use Rattle.term_sets.proofs.Ordering.{in_order_rises}
use Rattle.term_sets.proofs.Picking.{half_bit, halves, left_picked, lowest_bit, picked_even, picked_left, picked_odd}
use Rattle.term_sets.proofs.Weighing.{all_weigh}

-- without one of its events a word has one less
pub picked_less : (xs : List Tree) (w v i : ℕ) (x : Tree) → slice_get xs i ≡ Some x → (w / 2 ^ i) % 2 ≡ 1 → w ≡ v + 2 ^ i → length (picked xs w) ≡ suc (length (picked xs v))
picked_less [] w v i x there held left = cc
picked_less (y ∷ xs) w v zero x there held left =
    let odd : w % 2 ≡ 1 = sym (lowest_bit w) ∙ held in
    ap length (picked_odd y xs w (w / 2) (omega (arith, odd))) ∙ ap (λ (l : List Tree). suc (length l)) (sym (picked_even y xs v (w / 2) (omega (arith, odd, left))))
picked_less (y ∷ xs) w v (suc i) x there held left = elim (halves w).1 [
  | inl is ↦
      let rest : v ≡ 2 * (v / 2) = omega (arith, left, is, pow-suc 2 i) in
      ap length (picked_even y xs w (halves w).0 is)
      ∙ (picked_less xs (halves w).0 (v / 2) i x there (sym (half_bit w (halves w).0 0 i (omega arith) (omega (arith, is))) ∙ held) (omega (arith, left, is, rest, pow-suc 2 i))
      ∙ ap (λ (l : List Tree). suc (length l)) (sym (picked_even y xs v (v / 2) rest)))
  | inr is ↦
      let rest : v ≡ 2 * (v / 2) + 1 = omega (arith, left, is, pow-suc 2 i) in
      ap length (picked_odd y xs w (halves w).0 is)
      ∙ (ap suc (picked_less xs (halves w).0 (v / 2) i x there (sym (half_bit w (halves w).0 1 i (omega arith) is) ∙ held) (omega (arith, left, is, rest, pow-suc 2 i)))
      ∙ ap (λ (l : List Tree). suc (length l)) (sym (picked_odd y xs v (v / 2) rest)))
]

-- so many terms of a weight are as heavy as is allowed
allowed : (most unit n : ℕ) → 0 < unit → n ≤ most / unit → n * unit ≤ most
allowed most unit n some l = (le-div_iff_mul-le some).0 l

forbidden : (most unit n : ℕ) → 0 < unit → most / unit < n → most < n * unit
forbidden most unit n some l = (div-lt_iff_lt-mul some).0 l

weighs_some : (n : ℕ) → 0 < weight_of_size n
weighs_some zero = omega arith
weighs_some (suc zero) = omega arith
weighs_some (suc (suc n)) = omega arith

module _ (events : List Tree) (size a : ℕ) (words bits : List ℕ) (value : List Tree) (s : AreSubsets events size words) (is : all_spelled events words ≡ value) (b : AreBits events a bits) (old new : Words) (all : Bool) (r : IsEachLeft bits words old new all) where
  word_fits : (v : ℕ) → IsWordLeft bits words v → IsWord events (size - 1) v
  word_fits v l =
      let fits = s.are_words l.word l.among in
      let at = (b.exact l.without.bit).to l.without.among in
      let less = picked_less events l.word v l.without.bit at.0 at.1 l.without.held l.without.left in
      record { below = omega (arith, fits.below, l.without.left); size_is = omega (arith, fits.size_is, less) }

  pub words_left : (list : List ℕ) → ((v : ℕ) → IsAmong list v → IsAmong new.list.items v) → AreDifferent list → AreSubsets events (size - 1) list
  words_left list f d = record {
    each = s.each;
    apart = s.apart;
    few = s.few;
    low = omega (arith, s.low);
    are_words = λ v i. word_fits v (r.each v (f v i));
    different = d;
  }

  left_taken : (k : NetPermits) (v : ℕ) → IsWordLeft bits words v → IsTaken k a value (spelled events v)
  left_taken k v l = record {
    term = spelled events l.word;
    held = subst (λ (t : List Tree). IsAmong t (spelled events l.word)) is (word_held events words l.word l.among);
    left = picked_left k a events l.word v l.without.bit s.each ((b.exact l.without.bit).to l.without.among) l.without.held l.without.left;
  }

  taken_left : (k : NetPermits) (y : Tree) → IsTaken k a value y → (v : ℕ) × IsWordLeft bits words v × (y ≡ spelled events v)
  taken_left k y t =
      let w = held_word events words t.term (subst (λ (l : List Tree). IsAmong l t.term) (sym is) t.held) in
      let p = left_picked k a events w.0 y s.each (subst (λ (x : Tree). IsLeft k a x y) w.2 t.left) in
      (p.rest, record { word = w.0; among = w.1; without = record { bit = p.index; among = (b.exact p.index).from p.labelled; held = p.held; left = p.left } }, p.is)

  module _ (list : List ℕ) (from : (v : ℕ) → IsAmong list v → IsAmong new.list.items v) (to : (v : ℕ) → IsAmong new.list.items v → IsAmong list v) (d : AreDifferent list) where
    each_taken : (k : NetPermits) (y : Tree) → IsAmong (all_spelled events list) y → IsTaken k a value y
    each_taken k y i = let w = held_word events list y i in subst (IsTaken k a value) (sym w.2) (left_taken k w.0 (r.each w.0 (from w.0 w.1)))

    all_there : all ≡ true → (k : NetPermits) (y : Tree) → IsTaken k a value y → IsAmong (all_spelled events list) y
    all_there e k y t = let v = taken_left k y t in subst (IsAmong (all_spelled events list)) (sym v.2) (word_held events list v.0 (to v.0 (r.whole e v.0 v.1)))

    taken_weigh : set_weight (all_spelled events list) ≡ length list * weight_of_size (size - 1)
    taken_weigh = all_weigh events (size - 1) list (words_left list from d)

    -- all of them, not too heavy
    pub all_taken : (most room : ℕ) → room ≡ most / weight_of_size (size - 1) → new.room ≡ room → all ≡ true → length list ≡ length new.list.items → (k : NetPermits) → AreAllTaken k a value most (all_spelled events list)
    all_taken most room e f t long k = record {
      exact = λ y. record { to = each_taken k y; from = all_there t k y };
      within = let l = r.bounded.within t in let w = allowed most (weight_of_size (size - 1)) (length list) (weighs_some (size - 1)) (omega (arith, e, f, l, long)) in omega (arith, taken_weigh, w);
    }

    -- more of them than may be
    pub too_many : (most room : ℕ) → room ≡ most / weight_of_size (size - 1) → new.room ≡ room → all ≡ false → length list ≡ length new.list.items → (k : NetPermits) → IsTooMuch k a value most
    too_many most room e f t long k = record {
      some = all_spelled events list;
      rising = in_order_rises (map (spelled events) list);
      each = each_taken k;
      above = let l = r.bounded.beyond t in let w = forbidden most (weight_of_size (size - 1)) (length list) (weighs_some (size - 1)) (omega (arith, e, f, l, long)) in omega (arith, taken_weigh, w);
    }
