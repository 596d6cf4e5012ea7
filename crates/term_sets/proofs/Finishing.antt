-- Events side by side may end exactly where there are none.
use Rattle.std.specs.Prelude.{ℕ, List, [], ◌∷◌, ◌≡◌, length, refl}
use Rattle.std.proofs.Common.{arith, subst}
use Rattle.msc_base.specs.Patterns.{par}
use Rattle.chart_term.specs.NormalForms.{join_of}
use Rattle.chart_term.specs.Properties.{Each}
use Rattle.chart_term.specs.TermMeanings.{NetTerms}
use Rattle.chart_term.specs.TermPatterns.{Both}
use Rattle.chart_term.specs.Terms.{TermEvent, Tree, Trees, Event, Join, more, trees}
use Rattle.term_laws.specs.Taking.{MayEnd, end_nil, end_join, end_more}
use Rattle.term_sets.specs.Subsets.{picked, spelled, IsEvent}
use Rattle.term_sets.proofs.Picking.{each_picked}

module _ (w : NetTerms) where
  event_goes_on : (e : TermEvent) → MayEnd w (Event e) → ⊥
  event_goes_on e h = elim h [ ]

  -- an event is still to come
  goes_on : (x : Tree) → IsEvent x → MayEnd w x → ⊥
  goes_on x h m = event_goes_on h.0 (subst (MayEnd w) h.1 m)

  join_goes_on : (x : Tree) (xs : Trees) → IsEvent x → MayEnd w (Join par (more x xs)) → ⊥
  join_goes_on x xs h (end_join (end_more m r)) = goes_on x h m

  -- events side by side may end exactly where there are none
  pub events_end : (xs : List Tree) → Each IsEvent xs → Both (MayEnd w (join_of par xs)) (length xs ≡ 0)
  events_end [] h = record { to = λ m. refl; from = λ e. end_nil }
  events_end (x ∷ []) h = record { to = λ m. absurd (goes_on x h.0 m); from = λ e. absurd (omega arith) }
  events_end (x ∷ y ∷ ys) h = record { to = λ m. absurd (join_goes_on x (trees (y ∷ ys)) h.0 m); from = λ e. absurd (omega arith) }

-- the term of a word may end exactly where the word has no event
pub spelled_ends : (w : NetTerms) (events : List Tree) (v : ℕ) → Each IsEvent events → Both (MayEnd w (spelled events v)) (length (picked events v) ≡ 0)
spelled_ends w events v h = events_end w (picked events v) (each_picked IsEvent events v h)
