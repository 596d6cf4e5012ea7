-- Ready terms are made of ready terms, and stay ready with one more net.
use Rattle.std.specs.Prelude.{ℕ, List, [], ◌∷◌}
use Rattle.msc_base.specs.Patterns.{Mode}
use Rattle.chart_term.specs.NormalForms.{join_all, choice_of, tie_of}
use Rattle.chart_term.specs.Properties.{Each}
use Rattle.chart_term.specs.Tables.{Tables}
use Rattle.chart_term.specs.Terms.{TermEvent, Tree, Event}
use Rattle.term_laws.specs.Normality.{IsNormalOver}
use Rattle.term_laws.specs.Permission.{permits_of}
use Rattle.term_permission.specs.Ready.{IsReady, IsWithin}
use Rattle.term_permission.specs.ReadyLaws.{ReadyIsKept}
use Rattle.term_permission.proofs.NodeTerms.{up_ready}
use Rattle.term_laws.proofs.Normalising.{join_normal, choice_normal, bound_normal}
use Rattle.term_permission.proofs.Within.{join_in, choice_in, bound_in, may_both}

module _ (w : Tables) where
  each_within : (xs : List Tree) → Each (IsReady w) xs → Each (IsWithin w) xs
  each_within [] h = tt
  each_within (x ∷ xs) h = (h.0.within, each_within xs h.1)

  each_normal : (xs : List Tree) → Each (IsReady w) xs → Each (IsNormalOver w) xs
  each_normal [] h = tt
  each_normal (x ∷ xs) h = (h.0.normal, each_normal xs h.1)

  ready_join : (m : Mode) (xs : List Tree) → Each (IsReady w) xs → IsReady w (join_all m xs)
  ready_join m xs h = record { within = join_in w m xs (each_within xs h); normal = join_normal (permits_of w) m xs (each_normal xs h) }

  ready_bound : (x : Tree) (q : List (ℕ × ℕ)) → IsReady w x → IsReady w (tie_of x q)
  ready_bound x q h = record { within = bound_in w x q h.within; normal = bound_normal (permits_of w) x q h.normal }

  ready_event : (e : TermEvent) → IsReady w (Event e)
  ready_event e = record { within = tt; normal = tt }

pub ready_is_kept : ReadyIsKept
ready_is_kept = record {
  nil = λ w. record { within = tt; normal = tt };
  event = ready_event;
  join = ready_join;
  choice = λ w xs h. may_both w (choice_of xs) (choice_in w xs (each_within w xs h)) (choice_normal (permits_of w) xs (each_normal w xs h));
  tied = ready_bound;
  later = λ w e x h. up_ready e w x h;
}
