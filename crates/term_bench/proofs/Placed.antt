-- The events of the measured charts stand where their labels do.
use Rattle.std.specs.Prelude.{ℕ, ◌+◌, ◌≡◌, List, [], ◌∷◌, Option, Some, refl}
use Rattle.msc_base.specs.Patterns.{Mode, par, seq}
use Rattle.chart_term.specs.NormalForms.{join_all, choice_of, tie_of}
use Rattle.chart_term.specs.Properties.{Each}
use Rattle.chart_term.specs.Terms.{Tree, Event, Gap}
use Rattle.term_laws.specs.FullSoundness.{fresh_loop}
use Rattle.term_laws.specs.Permission.{permits_of}
use Rattle.term_laws.specs.Placing.{IsPlaced, AreEventsPlaced}
use Rattle.term_laws.proofs.EveryPart.{fresh_part}
use Rattle.term_laws.proofs.Keeping.{at_some}
use Rattle.term_laws.proofs.Placed.{choice-placed, join-placed, tie-placed}
use Rattle.term_bench.specs.Charts.{places, event, message, answer, exchange, ordered}

abbrev pub Placed : Tree → Type 0
Placed x = AreEventsPlaced places x

pub join_placed : (m : Mode) (xs : List Tree) → Each Placed xs → Placed (join_all m xs)
join_placed = join-placed places (permits_of [])

pub choice_placed : (x : Tree) (xs : List Tree) → choice_of xs ≡ Some x → Each Placed xs → Placed x
choice_placed x xs q h = at_some Placed (choice_of xs) x q (choice-placed places (permits_of []) xs h)

pub tie_placed : (x : Tree) (q : List (ℕ × ℕ)) → Placed x → Placed (tie_of x q)
tie_placed = tie-placed places (permits_of [])

pub loop_placed : (x y : Tree) (hi : Option ℕ) → fresh_loop [] x 1 hi ≡ Some y → Placed x → Placed y
loop_placed x y hi q h =
    at_some Placed (fresh_loop [] x 1 hi) y q
    (fresh_part (IsPlaced places) (λ y q. Unit {0}) (λ y. Unit {0}) (λ n f t. Unit {0}) (permits_of []) (λ n f g t u h s a. tt) (λ x q h. tt) (λ b x z e q h. tt) (λ x y z b e a p q h. tt) x 1 hi (Gap [] ∷ []) h tt tt)

pub message_placed : (n i j : ℕ) → IsPlaced places (event n i n) → IsPlaced places (event (n + 1) j (n + 1)) → Placed (message n i j)
message_placed n i j p q =
    tie_placed (join_all seq (Event (event n i n) ∷ Event (event (n + 1) j (n + 1)) ∷ [])) ((n, n + 1) ∷ []) (join_placed seq (Event (event n i n) ∷ Event (event (n + 1) j (n + 1)) ∷ []) (p, (q, tt)))

pub ordered_placed : Placed ordered
ordered_placed =
    tie_placed (join_all par (Event (event 0 0 6) ∷ Event (event 1 0 6) ∷ Event (event 2 0 7) ∷ [])) ((1, 2) ∷ [])
    (join_placed par (Event (event 0 0 6) ∷ Event (event 1 0 6) ∷ Event (event 2 0 7) ∷ []) (refl, (refl, (refl, tt))))

pub answer_placed : Placed answer
answer_placed = (message_placed 2 1 0 refl refl, (message_placed 4 1 0 refl refl, tt))

pub exchange_placed : Placed exchange
exchange_placed =
    tie_placed (join_all seq (Event (event 0 0 0) ∷ Event (event 1 1 1) ∷ answer ∷ [])) ((0, 1) ∷ [])
    (join_placed seq (Event (event 0 0 0) ∷ Event (event 1 1 1) ∷ answer ∷ []) (refl, (refl, (answer_placed, tt))))
