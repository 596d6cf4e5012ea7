-- Ready terms are made of ready terms, and stay ready with one more net.
use Rattle.std.specs.Prelude.{ℕ, List, ◌∷◌}
use Rattle.msc_base.specs.Patterns.{Mode}
use Rattle.chart_term.specs.NormalForms.{join_all, choice_of, tie_of}
use Rattle.chart_term.specs.Properties.{Each, MayHave}
use Rattle.chart_term.specs.Tables.{Tables, NetEntry}
use Rattle.chart_term.specs.Terms.{TermEvent, Tree, Nil, Event}
use Rattle.term_permission.specs.Ready.{IsReady}

-- the normalising constructors make ready terms of ready terms
pub record ReadyIsKept : Type 0 where
  pub nil : (w : Tables) → IsReady w Nil
  pub event : (w : Tables) (e : TermEvent) → IsReady w (Event e)
  pub join : (w : Tables) (m : Mode) (xs : List Tree) → Each (IsReady w) xs → IsReady w (join_all m xs)
  pub choice : (w : Tables) (xs : List Tree) → Each (IsReady w) xs → MayHave (IsReady w) (choice_of xs)
  pub tied : (w : Tables) (x : Tree) (q : List (ℕ × ℕ)) → IsReady w x → IsReady w (tie_of x q)
  pub later : (w : Tables) (e : NetEntry) (x : Tree) → IsReady w x → IsReady (e ∷ w) x
