-- The terms of the measured charts are sound.
use Rattle.std.specs.Prelude.{ℕ, ◌≡◌, ◌<◌, ◌==◌, ◌||◌, ◌&&◌, false, [], ◌∷◌}
use Rattle.std.proofs.Common.{arith}
use Rattle.std.proofs.lemmas.Bool.Decides.{nat_tests}
use Rattle.msc_base.specs.Patterns.{par, seq}
use Rattle.chart_term.specs.NormalForms.{join_all}
use Rattle.chart_term.specs.Terms.{TermEvent, Tree, Event}
use Rattle.term_laws.specs.FullSoundness.{IsSoundNode}
use Rattle.term_laws.proofs.SoundForms.{constructors_keep_soundness}
use Rattle.term_bench.specs.Charts.{labels, event, message, answer, exchange, ordered}
use Rattle.term_bench.proofs.Orders.{message_once, first_orders, second_orders, third_orders, exchange_once, exchange_orders, ordered_once, ordered_orders}

abbrev pub Sound : Tree → Type 0
Sound x = IsSoundNode labels [] x

pub event_sound : (e : TermEvent) → e.label < labels → Sound (Event e)
event_sound e l = constructors_keep_soundness.event labels [] e l

pub first_sound : Sound (message 0 0 1)
first_sound =
    constructors_keep_soundness.tied labels [] (join_all seq (Event (event 0 0 0) ∷ Event (event 1 1 1) ∷ [])) ((0, 1) ∷ []) tt
    (constructors_keep_soundness.join labels [] seq (Event (event 0 0 0) ∷ Event (event 1 1 1) ∷ []) tt (event_sound (event 0 0 0) (omega arith), (event_sound (event 1 1 1) (omega arith), tt)))
    ((tt, (tt, tt)), λ j p. (tt, (tt, tt))) ((tt, (tt, tt)), λ j p s a. message_once (event 0 0 0) (event 1 1 1) (λ q. omega arith) j s a) (λ j. not_self j) first_orders
  where
    not_self : (j : ℕ) → (((j == 0) && (j == 1)) || false) ≡ false
    not_self j = grind (arith, nat_tests)

pub second_sound : Sound (message 2 1 0)
second_sound =
    constructors_keep_soundness.tied labels [] (join_all seq (Event (event 2 1 2) ∷ Event (event 3 0 3) ∷ [])) ((2, 3) ∷ []) tt
    (constructors_keep_soundness.join labels [] seq (Event (event 2 1 2) ∷ Event (event 3 0 3) ∷ []) tt (event_sound (event 2 1 2) (omega arith), (event_sound (event 3 0 3) (omega arith), tt)))
    ((tt, (tt, tt)), λ j p. (tt, (tt, tt))) ((tt, (tt, tt)), λ j p s a. message_once (event 2 1 2) (event 3 0 3) (λ q. omega arith) j s a) (λ j. not_self j) second_orders
  where
    not_self : (j : ℕ) → (((j == 2) && (j == 3)) || false) ≡ false
    not_self j = grind (arith, nat_tests)

pub third_sound : Sound (message 4 1 0)
third_sound =
    constructors_keep_soundness.tied labels [] (join_all seq (Event (event 4 1 4) ∷ Event (event 5 0 5) ∷ [])) ((4, 5) ∷ []) tt
    (constructors_keep_soundness.join labels [] seq (Event (event 4 1 4) ∷ Event (event 5 0 5) ∷ []) tt (event_sound (event 4 1 4) (omega arith), (event_sound (event 5 0 5) (omega arith), tt)))
    ((tt, (tt, tt)), λ j p. (tt, (tt, tt))) ((tt, (tt, tt)), λ j p s a. message_once (event 4 1 4) (event 5 0 5) (λ q. omega arith) j s a) (λ j. not_self j) third_orders
  where
    not_self : (j : ℕ) → (((j == 4) && (j == 5)) || false) ≡ false
    not_self j = grind (arith, nat_tests)

pub answer_sound : Sound answer
answer_sound = constructors_keep_soundness.choice labels [] (message 2 1 0) (message 4 1 0 ∷ []) tt (second_sound, (third_sound, tt))

pub exchange_sound : Sound exchange
exchange_sound =
    constructors_keep_soundness.tied labels [] (join_all seq (Event (event 0 0 0) ∷ Event (event 1 1 1) ∷ answer ∷ [])) ((0, 1) ∷ []) tt
    (constructors_keep_soundness.join labels [] seq (Event (event 0 0 0) ∷ Event (event 1 1 1) ∷ answer ∷ []) tt (event_sound (event 0 0 0) (omega arith), (event_sound (event 1 1 1) (omega arith), (answer_sound, tt))))
    ((tt, (tt, (answer_sound.sound.outside, tt))), λ j p. (tt, (tt, (((tt, (tt, tt)), ((tt, (tt, tt)), tt)), tt)))) ((tt, (tt, (answer_sound.sound.once, tt))), λ j p s a. exchange_once j p s a) (λ j. not_self j) exchange_orders
  where
    not_self : (j : ℕ) → (((j == 0) && (j == 1)) || false) ≡ false
    not_self j = grind (arith, nat_tests)

pub ordered_sound : Sound ordered
ordered_sound =
    constructors_keep_soundness.tied labels [] (join_all par (Event (event 0 0 6) ∷ Event (event 1 0 6) ∷ Event (event 2 0 7) ∷ [])) ((1, 2) ∷ []) tt
    (constructors_keep_soundness.join labels [] par (Event (event 0 0 6) ∷ Event (event 1 0 6) ∷ Event (event 2 0 7) ∷ []) tt (event_sound (event 0 0 6) (omega arith), (event_sound (event 1 0 6) (omega arith), (event_sound (event 2 0 7) (omega arith), tt))))
    ((tt, (tt, (tt, tt))), λ j p. (tt, (tt, (tt, tt)))) ((tt, (tt, (tt, tt))), λ j p s a. ordered_once j p s a) (λ j. not_self j) ordered_orders
  where
    not_self : (j : ℕ) → (((j == 1) && (j == 2)) || false) ≡ false
    not_self j = grind (arith, nat_tests)
