-- Towers of choices, each below a tie, are sound, and their events stand where their labels do.
use Rattle.std.specs.Prelude.{ℕ, suc, zero, ◌+◌, ◌*◌, ◌<◌, ◌==◌, ◌||◌, ◌&&◌, ◌≡◌, Bool, true, false, List, [], ◌∷◌, ◌++◌, Some, refl}
use Rattle.std.proofs.Common.{ap, sym, ◌∙◌, subst, arith}
use Rattle.std.proofs.lemmas.Bool.Decides.{nat_tests}
use Rattle.msc_base.specs.Patterns.{seq, Position, event_at}
use Rattle.chart_term.specs.NormalForms.{join_all, join_of, open_part, choice_of, tie_of, bound_form, with_pair, numbers}
use Rattle.chart_term.specs.Tables.{terms_over}
use Rattle.chart_term.specs.TermMeanings.{HasPattern, has_event, has_join, has_choice, holds_tie, no_part, one_part, this_one, that_one}
use Rattle.chart_term.specs.TermPatterns.{Shape, numbered}
use Rattle.chart_term.specs.Terms.{has, Tree, Event, Join, Choice, Tied, none, more}
use Rattle.term_laws.specs.FullSoundness.{HasOrders}
use Rattle.term_laws.specs.Soundness.{IsOutside, NetLacks}
use Rattle.term_laws.proofs.Keeping.{at_some}
use Rattle.term_laws.proofs.SoundForms.{constructors_keep_soundness}
use Rattle.sound_terms.proofs.Orders.{ranked}
use Rattle.term_bench.specs.Charts.{labels, IsChart, event, with_answer, tied_tower}
use Rattle.term_bench.proofs.Placed.{Placed}
use Rattle.term_bench.proofs.Rising.{IsRising, rising_event, rising_longer, rising_tie}
use Rattle.term_bench.proofs.Sound.{Sound, event_sound}

-- what is within a choice, and the message behind it
abbrev row : ℕ → Tree → Tree
row n x = Join seq (more x (more (Event (event n 1 4)) (more (Event (event (n + 1) 0 5)) none)))

abbrev held : ℕ → Tree → Tree
held n x = Tied (row n x) ((n, n + 1) ∷ [])

-- the constructors make it so

open_tower : (k : ℕ) → open_part seq (tied_tower k) ≡ tied_tower k ∷ []
open_tower zero = refl
open_tower (suc k) = refl

row_is : (n k : ℕ) → join_all seq (tied_tower k ∷ Event (event n 1 4) ∷ Event (event (n + 1) 0 5) ∷ []) ≡ row n (tied_tower k)
row_is n k = ap (λ (l : List Tree). join_of seq (l ++ Event (event n 1 4) ∷ Event (event (n + 1) 0 5) ∷ [])) (open_tower k)

or_true : (b c : Bool) → c ≡ true → (b || c) ≡ true
or_true true c h = refl
or_true false c h = h

has_behind : (ns ms : List ℕ) (m : ℕ) → has ms m ≡ true → has (ns ++ ms) m ≡ true
has_behind [] ms m h = h
has_behind (n ∷ ns) ms m h = or_true (n == m) (has (ns ++ ms) m) (has_behind ns ms m h)

both_true : (b c : Bool) → b ≡ true → c ≡ true → (b && c) ≡ true
both_true true c p q = q
both_true false c p q = p

has_both : (n : ℕ) (ns : List ℕ) → (has (ns ++ (n ∷ (n + 1) ∷ [])) n && has (ns ++ (n ∷ (n + 1) ∷ [])) (n + 1)) ≡ true
has_both n ns = both_true _ _ (has_behind ns (n ∷ (n + 1) ∷ []) n this) (has_behind ns (n ∷ (n + 1) ∷ []) (n + 1) next)
  where
    this : ((n == n) || ((n + 1 == n) || false)) ≡ true
    this = grind (arith, nat_tests)

    next : ((n == n + 1) || ((n + 1 == n + 1) || false)) ≡ true
    next = grind (arith, nat_tests)

tie_is : (n : ℕ) (x : Tree) → tie_of (row n x) ((n, n + 1) ∷ []) ≡ held n x
tie_is n x = ap (λ (b : Bool). bound_form (row n x) (with_pair b (n, n + 1) [])) (has_both n (numbers x))

held_is : (n k : ℕ) → with_answer n (tied_tower k) ≡ held n (tied_tower k)
held_is n k = ap (λ (y : Tree). tie_of y ((n, n + 1) ∷ [])) (row_is n k) ∙ tie_is n (tied_tower k)

-- each pattern rises

pair_rises : (a m n : ℕ) → (((m == a) && (n == a + 1)) || false) ≡ true → m < n
pair_rises a m n h = grind (arith, nat_tests)

rising_row : (n : ℕ) (x : Tree) → ((t : Shape) → HasPattern (terms_over []) true x t → IsRising n t) → (s : Shape) → HasPattern (terms_over []) true (row n x) s → IsRising (n + 2) s
rising_row n x f _ (has_join (one_part {s = t} h (one_part has_event (one_part has_event no_part)))) = rising_longer t n 1 4 0 5 (f t h)

rising_held : (n : ℕ) (x : Tree) → ((t : Shape) → HasPattern (terms_over []) true x t → IsRising n t) → (s : Shape) → HasPattern (terms_over []) true (held n x) s → IsRising (n + 2) s
rising_held n x f _ (holds_tie {s = t} h) = rising_tie (n + 2) t ((n, n + 1) ∷ []) (λ m k. pair_rises n m k) (rising_row n x f t h)

rising_tower : (k : ℕ) (s : Shape) → HasPattern (terms_over []) true (tied_tower k) s → IsRising (2 * k + 1) s
rising_tower zero _ has_event = rising_event (2 * 0 + 1) 0 0 3 (omega arith)
rising_tower (suc k) s (has_choice (this_one h)) =
    subst (λ (m : ℕ). IsRising m s) (omega arith) (rising_held (2 * k + 1) (tied_tower k) (λ t. rising_tower k t) s (subst (λ (y : Tree). HasPattern (terms_over []) true y s) (held_is (2 * k + 1) k) h))
rising_tower (suc k) _ (has_choice (that_one (this_one has_event))) = rising_event (2 * suc k + 1) 0 0 5 (omega arith)
rising_tower (suc k) _ (has_choice (that_one (that_one a))) = elim a [ ]

-- the tower is sound

held_orders : (n : ℕ) (x : Tree) → ((t : Shape) → HasPattern (terms_over []) true x t → IsRising n t) → HasOrders [] (held n x)
held_orders n x f s h = ranked s (λ (i : Position s). (event_at numbered s i).number) (rising_held n x f s h).rises

outside_tower : (k j : ℕ) → IsOutside (NetLacks []) j (tied_tower k)
outside_tower zero j = tt
outside_tower (suc k) j = (subst (IsOutside (NetLacks []) j) (sym (held_is (2 * k + 1) k)) (outside_tower k j, (tt, (tt, tt))), (tt, tt))

row_sound : (n k : ℕ) → Sound (tied_tower k) → Sound (row n (tied_tower k))
row_sound n k h =
    subst Sound (row_is n k)
    (constructors_keep_soundness.join labels [] seq (tied_tower k ∷ Event (event n 1 4) ∷ Event (event (n + 1) 0 5) ∷ []) tt (h, (event_sound (event n 1 4) (omega arith), (event_sound (event (n + 1) 0 5) (omega arith), tt))))

held_sound : (n k : ℕ) → ((t : Shape) → HasPattern (terms_over []) true (tied_tower k) t → IsRising n t) → Sound (tied_tower k) → Sound (held n (tied_tower k))
held_sound n k f h =
    let r = row_sound n k h in
    subst Sound (tie_is n (tied_tower k))
    (constructors_keep_soundness.tied labels [] (row n (tied_tower k)) ((n, n + 1) ∷ []) tt r
    (r.sound.outside, λ j p. (outside_tower k j, (tt, (tt, tt)))) (r.sound.once, λ j p s a. (rising_row n (tied_tower k) f s a).once j) (λ j. not_self j) (held_orders n (tied_tower k) f))
  where
    not_self : (j : ℕ) → (((j == n) && (j == n + 1)) || false) ≡ false
    not_self j = grind (arith, nat_tests)

-- one of the two
abbrev one_of : Tree → Tree
one_of y = Choice (more y (more (Event (event 0 0 5)) none))

choice_is : (n : ℕ) (x y : Tree) → choice_of (held n x ∷ Event (event 0 0 5) ∷ []) ≡ Some y → y ≡ one_of (held n x)
choice_is n x y e = at_some (λ z. z ≡ one_of (held n x)) (choice_of (held n x ∷ Event (event 0 0 5) ∷ [])) y e refl

tower_sound : (k : ℕ) → Sound (tied_tower k)
tower_sound zero = event_sound (event 0 0 3) (omega arith)
tower_sound (suc k) =
    subst (λ (y : Tree). Sound (one_of y)) (sym (held_is (2 * k + 1) k))
    (constructors_keep_soundness.choice labels [] (held (2 * k + 1) (tied_tower k)) (Event (event 0 0 5) ∷ []) tt
    (held_sound (2 * k + 1) k (λ t. rising_tower k t) (tower_sound k), (event_sound (event 0 0 5) (omega arith), tt)))

tower_placed : (k : ℕ) → Placed (tied_tower k)
tower_placed zero = refl
tower_placed (suc k) = (subst Placed (sym (held_is (2 * k + 1) k)) ((tower_placed k, (refl, (refl, tt))), tt), (refl, tt))

pub tower_chart : (x : Tree) (k : ℕ) → x ≡ tied_tower k → IsChart x
tower_chart x k q = subst IsChart (sym q) (record { sound = tower_sound k; placed = tower_placed k })

-- what the code makes of a tower is the next one
pub next_tower : (k : ℕ) (x y a b : Tree) (xs : List Tree) → x ≡ tied_tower k → a ≡ with_answer (2 * k + 1) x → b ≡ Event (event 0 0 5) → xs ≡ a ∷ b ∷ [] → choice_of xs ≡ Some y → y ≡ tied_tower (k + 1)
next_tower k x y a b xs p q r s e =
    let a_is : a ≡ held (2 * k + 1) (tied_tower k) = q ∙ ap (with_answer (2 * k + 1)) p ∙ held_is (2 * k + 1) k in
    let xs_is : xs ≡ held (2 * k + 1) (tied_tower k) ∷ Event (event 0 0 5) ∷ [] = s ∙ (λ i. a_is i ∷ r i ∷ []) in
    choice_is (2 * k + 1) (tied_tower k) y (ap choice_of (sym xs_is) ∙ e) ∙ ap one_of (sym (held_is (2 * k + 1) k)) ∙ ap tied_tower (later k)
  where
    later : (k : ℕ) → suc k ≡ k + 1
    later k = omega arith
