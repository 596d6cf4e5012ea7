-- The patterns of the measured charts: how often a number stands in them, and a linear order of each.
use Rattle.std.specs.Prelude.{ℕ, ◌+◌, ◌≤◌, ◌==◌, ◌≡◌, ◌⊎◌, Bool, true, false, cond, [], ◌∷◌, refl}
use Rattle.std.proofs.Common.{sym, subst, arith, inl, inr}
use Rattle.std.proofs.lemmas.Bool.Decides.{nat_tests}
use Rattle.msc_base.specs.Patterns.{par, seq, empty, one, join, bind}
use Rattle.chart_term.specs.Tables.{terms_over}
use Rattle.chart_term.specs.TermMeanings.{HasPattern, has_event, has_join, has_choice, holds_tie, no_part, one_part, this_one, that_one}
use Rattle.chart_term.specs.TermPatterns.{Shape, InPairs, take_one, take_first, take_later, take_bind}
use Rattle.chart_term.specs.TermRuns.{Runs, run_end, run_take}
use Rattle.chart_term.specs.Terms.{TermEvent, Tree, Event, Join, Tied, none, more}
use Rattle.term_laws.specs.FullSoundness.{times, HasOrders}
use Rattle.term_laws.proofs.SoundLaws.{order_of}
use Rattle.term_bench.specs.Charts.{event, answer}

-- A message

abbrev pub pair_of_events : TermEvent → TermEvent → Tree
pair_of_events e f = Join seq (more (Event e) (more (Event f) none))

pub message_once : (e f : TermEvent) → (e.number ≡ f.number → ⊥) → (j : ℕ) → (s : Shape) → HasPattern (terms_over []) true (pair_of_events e f) s → times j s ≤ 1
message_once e f d j s (has_join (one_part has_event (one_part has_event no_part))) = go (e.number == j) (f.number == j) refl refl
  where
    go : (t u : Bool) → (e.number == j) ≡ t → (f.number == j) ≡ u → cond t 1 0 + (cond u 1 0 + 0) ≤ 1
    go true true p q = absurd (d grind (arith, nat_tests))
    go true false p q = omega arith
    go false true p q = omega arith
    go false false p q = omega arith

pub first_orders : HasOrders [] (Tied (pair_of_events (event 0 0 0) (event 1 1 1)) ((0, 1) ∷ []))
first_orders s (holds_tie (has_join (one_part has_event (one_part has_event no_part)))) =
    order_of s (0 ∷ 1 ∷ []) (run_take (take_bind (take_first take_one) (refl, (refl, tt))) (run_take (take_bind (take_later tt (take_first take_one)) (tt, (refl, tt))) (run_end (tt, (tt, tt)))))

pub second_orders : HasOrders [] (Tied (pair_of_events (event 2 1 2) (event 3 0 3)) ((2, 3) ∷ []))
second_orders s (holds_tie (has_join (one_part has_event (one_part has_event no_part)))) =
    order_of s (2 ∷ 3 ∷ []) (run_take (take_bind (take_first take_one) (refl, (refl, tt))) (run_take (take_bind (take_later tt (take_first take_one)) (tt, (refl, tt))) (run_end (tt, (tt, tt)))))

pub third_orders : HasOrders [] (Tied (pair_of_events (event 4 1 4) (event 5 0 5)) ((4, 5) ∷ []))
third_orders s (holds_tie (has_join (one_part has_event (one_part has_event no_part)))) =
    order_of s (4 ∷ 5 ∷ []) (run_take (take_bind (take_first take_one) (refl, (refl, tt))) (run_take (take_bind (take_later tt (take_first take_one)) (tt, (refl, tt))) (run_end (tt, (tt, tt)))))

-- A request and an answer: two patterns

abbrev pub parts : Tree
parts = Join seq (more (Event (event 0 0 0)) (more (Event (event 1 1 1)) (more answer none)))

abbrev yes : Shape
yes = bind (join seq (one (event 2 1 2)) (join seq (one (event 3 0 3)) empty)) ((2, 3) ∷ [])

abbrev no : Shape
no = bind (join seq (one (event 4 1 4)) (join seq (one (event 5 0 5)) empty)) ((4, 5) ∷ [])

abbrev whole : Shape → Shape
whole t = join seq (one (event 0 0 0)) (join seq (one (event 1 1 1)) (join seq t empty))

two_patterns : (s : Shape) → HasPattern (terms_over []) true parts s → (s ≡ whole yes) ⊎ (s ≡ whole no)
two_patterns s (has_join (one_part has_event (one_part has_event (one_part (has_choice (this_one (holds_tie (has_join (one_part has_event (one_part has_event no_part)))))) no_part)))) = inl refl
two_patterns s (has_join (one_part has_event (one_part has_event (one_part (has_choice (that_one (this_one (holds_tie (has_join (one_part has_event (one_part has_event no_part))))))) no_part)))) = inr refl
two_patterns s (has_join (one_part has_event (one_part has_event (one_part (has_choice (that_one (that_one a))) no_part)))) = elim a [ ]

whole_once : (j : ℕ) → InPairs j ((0, 1) ∷ []) → (t : Shape) → times 0 t ≡ 0 → times 1 t ≡ 0 → times j (whole t) ≤ 1
whole_once j (inl (inl p)) t a b = subst (λ (k : ℕ). times k (whole t) ≤ 1) (sym p) (omega arith)
whole_once j (inl (inr p)) t a b = subst (λ (k : ℕ). times k (whole t) ≤ 1) (sym p) (omega arith)
whole_once j (inr p) t a b = elim p [ ]

pub exchange_once : (j : ℕ) → InPairs j ((0, 1) ∷ []) → (s : Shape) → HasPattern (terms_over []) true parts s → times j s ≤ 1
exchange_once j p s a =
    elim (two_patterns s a) [
      | inl q ↦ subst (λ (t : Shape). times j t ≤ 1) (sym q) (whole_once j p yes refl refl)
      | inr q ↦ subst (λ (t : Shape). times j t ≤ 1) (sym q) (whole_once j p no refl refl)
    ]

yes_run : Runs (bind (whole yes) ((0, 1) ∷ [])) (0 ∷ 1 ∷ 2 ∷ 3 ∷ [])
yes_run =
    run_take (take_bind (take_first take_one) (refl, (refl, ((refl, (refl, tt)), tt))))
    (run_take (take_bind (take_later tt (take_first take_one)) (tt, (refl, ((refl, (refl, tt)), tt))))
    (run_take (take_bind (take_later tt (take_later tt (take_first (take_bind (take_first take_one) (refl, (refl, tt)))))) (tt, (tt, ((refl, (refl, tt)), tt))))
    (run_take (take_bind (take_later tt (take_later tt (take_first (take_bind (take_later tt (take_first take_one)) (tt, (refl, tt)))))) (tt, (tt, ((tt, (refl, tt)), tt))))
    (run_end (tt, (tt, ((tt, (tt, tt)), tt)))))))

no_run : Runs (bind (whole no) ((0, 1) ∷ [])) (0 ∷ 1 ∷ 4 ∷ 5 ∷ [])
no_run =
    run_take (take_bind (take_first take_one) (refl, (refl, ((refl, (refl, tt)), tt))))
    (run_take (take_bind (take_later tt (take_first take_one)) (tt, (refl, ((refl, (refl, tt)), tt))))
    (run_take (take_bind (take_later tt (take_later tt (take_first (take_bind (take_first take_one) (refl, (refl, tt)))))) (tt, (tt, ((refl, (refl, tt)), tt))))
    (run_take (take_bind (take_later tt (take_later tt (take_first (take_bind (take_later tt (take_first take_one)) (tt, (refl, tt)))))) (tt, (tt, ((tt, (refl, tt)), tt))))
    (run_end (tt, (tt, ((tt, (tt, tt)), tt)))))))

pub exchange_orders : HasOrders [] (Tied parts ((0, 1) ∷ []))
exchange_orders s (holds_tie {s = t} a) =
    elim (two_patterns t a) [
      | inl q ↦ order_of (bind t ((0, 1) ∷ [])) (0 ∷ 1 ∷ 2 ∷ 3 ∷ []) (subst (λ (u : Shape). Runs (bind u ((0, 1) ∷ [])) (0 ∷ 1 ∷ 2 ∷ 3 ∷ [])) (sym q) yes_run)
      | inr q ↦ order_of (bind t ((0, 1) ∷ [])) (0 ∷ 1 ∷ 4 ∷ 5 ∷ []) (subst (λ (u : Shape). Runs (bind u ((0, 1) ∷ [])) (0 ∷ 1 ∷ 4 ∷ 5 ∷ [])) (sym q) no_run)
    ]

-- Two equal actions and another one side by side

abbrev three_aside : Tree
three_aside = Join par (more (Event (event 0 0 6)) (more (Event (event 1 0 6)) (more (Event (event 2 0 7)) none)))

abbrev aside : Shape
aside = join par (one (event 0 0 6)) (join par (one (event 1 0 6)) (join par (one (event 2 0 7)) empty))

pub ordered_once : (j : ℕ) → InPairs j ((1, 2) ∷ []) → (s : Shape) → HasPattern (terms_over []) true three_aside s → times j s ≤ 1
ordered_once j (inl (inl p)) s (has_join (one_part has_event (one_part has_event (one_part has_event no_part)))) = subst (λ (k : ℕ). times k aside ≤ 1) (sym p) (omega arith)
ordered_once j (inl (inr p)) s (has_join (one_part has_event (one_part has_event (one_part has_event no_part)))) = subst (λ (k : ℕ). times k aside ≤ 1) (sym p) (omega arith)
ordered_once j (inr p) s a = elim p [ ]

pub ordered_orders : HasOrders [] (Tied three_aside ((1, 2) ∷ []))
ordered_orders s (holds_tie (has_join (one_part has_event (one_part has_event (one_part has_event no_part))))) =
    order_of s (6 ∷ 6 ∷ 7 ∷ [])
    (run_take (take_bind (take_first take_one) (refl, (refl, (refl, tt))))
    (run_take (take_bind (take_later tt (take_first take_one)) (tt, (refl, (refl, tt))))
    (run_take (take_bind (take_later tt (take_later tt (take_first take_one))) (tt, (tt, (refl, tt))))
    (run_end (tt, (tt, (tt, tt)))))))
