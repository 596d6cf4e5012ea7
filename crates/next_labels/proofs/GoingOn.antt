-- Whether a set goes on with a label: what is gathered of it within no weight is nothing, and what weighs more is something.
use Rattle.std.specs.Option.{is_some}
use Rattle.std.specs.Prelude.{◌≡◌, ◌≤◌, ◌<◌, ◌↔◌, Bool, true, false, not, IsTrue, List, [], ◌∷◌, Option, Some, None, refl}
use Rattle.std.proofs.Common.{arith, inl, inr}
use Rattle.msc_base.specs.declared.label.Label.{Label}
use Rattle.msc_base.specs.Lists.{IsAmong}
use Rattle.chart_term.specs.Terms.{Tree}
use Rattle.term_laws.specs.Listing.{set_weight}
use Rattle.term_sets.specs.Gathers.{IsGathered}
use Rattle.term_step.proofs.Searching.{some_weight}
use Rattle.term_tables.specs.NetValues.{NetsValue}
use Rattle.trace_judge.specs.Sets.{GoesOnWith}

first_of : (terms : List Tree) → 0 < set_weight terms → (x : Tree) × IsAmong terms x
first_of [] h = absurd (omega (arith, h))
first_of (x ∷ xs) h = (x, inl refl)

none_of : (terms : List Tree) → set_weight terms ≤ 0 → (x : Tree) → IsAmong terms x → ⊥
none_of [] h x i = i
none_of (y ∷ ys) h x i = omega (arith, h, some_weight y)

pub goes : (v : NetsValue) (a : Label) (terms : List Tree) (found : Option (List Tree)) (none : Bool) → IsGathered v a terms 0 found → is_some found ≡ not none → IsTrue none ↔ GoesOnWith v a terms
goes v a terms None true h e = (λ t. let some = first_of h.next h.above in record { term = some.0; left = (h.are.exact some.0).to some.1 }, λ g. refl)
goes v a terms None false h e = cc
goes v a terms (Some all) true h e = cc
goes v a terms (Some all) false h e = (λ t. cc, λ g. absurd (none_of all h.within g.term ((h.exact g.term).from (inr g.left))))
