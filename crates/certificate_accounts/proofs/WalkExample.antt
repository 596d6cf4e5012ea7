-- The way, the account and the certificate of a walk through a graph of one node.
use Rattle.std.specs.Prelude.{ℕ, zero, suc, ◌==◌, true, false, List, [], ◌∷◌, ◌≡◌, refl}
use Rattle.std.proofs.Common.{arith, inl, inr, get_or}
use Rattle.std.proofs.lemmas.Bool.Decides.{nat_tests}
use Rattle.msc_base.specs.Lists.{IsIn}
use Rattle.msc_base.specs.Patterns.{empty}
use Rattle.hmsc_graph.specs.Graphs.{Spot, Start, At, Goal, behind, last}
use Rattle.chart_term.specs.Tables.{terms_over}
use Rattle.chart_term.specs.TermMeanings.{HasPattern, has_nil, has_event, holds_walk, HasWalk, walk_stop, walk_last, walk_step}
use Rattle.chart_term.specs.TermPatterns.{Shape, HasNoEvent}
use Rattle.chart_term.specs.Terms.{Nil, Event, Walk}
use Rattle.term_laws.specs.Permission.{permits_of}
use Rattle.term_laws.specs.Soundness.{AreTidyTables, LeadsWithin}
use Rattle.term_laws.specs.Taking.{after_event, after_walk}
use Rattle.certificates.specs.Certificates.{HasEmpty}
use Rattle.certificates.specs.CertificateLaws.{IsUnbegun, AreUnbegunNets, HasCertificate}
use Rattle.certificates.specs.Examples.{output}
use Rattle.certificates.proofs.Unbegun.{never_stops}
use Rattle.certificate_accounts.specs.Accounts.{nothing, at_place, of_walk, arrived, visit, TellsWalk, tells_arrived}
use Rattle.certificate_accounts.specs.Paths.{Path, path_end, path_step, account_back}
use Rattle.certificate_accounts.specs.AccountLaws.{nodes_over, FindsWays}
use Rattle.certificate_accounts.specs.Examples.{entry, one_net, walk, edges}
use Rattle.certificate_accounts.proofs.TablesBack.{accounts_go_back}

-- the action, and nothing before and behind it
pub walked : Path (permits_of one_net) walk (output ∷ []) Nil
walked = path_step (after_walk 0 {x = Event output} {y = Nil} {u = Nil} {v = Nil} refl after_event (last 0 (inl refl) refl) (last 1 (inl refl) refl) refl refl) path_end

pub walk_account : account_back (permits_of one_net) (nodes_over one_net edges) walked 1 nothing ≡ of_walk (visit 0 (at_place 1) (arrived 1))
unfolding walked
walk_account = refl

-- the graph leads to its nodes
within : LeadsWithin entry
within Start m (inl e) = inl e
within Start m (inr h) = absurd h
within (At zero) m (inl e) = inr (inl e)
within (At zero) m (inr h) = absurd h
within (At (suc zero)) m h = absurd h
within (At (suc (suc zero))) m h = absurd h
within (At (suc (suc (suc i)))) m h = absurd h

tidy : AreTidyTables one_net
tidy = (tt, (tt, (tt, tt)), (tt, (tt, tt)), within)

-- there is no other net
not_zero : (n : ℕ) → (suc n == 0) ≡ false
not_zero n = grind (arith, nat_tests)

no_net : (n : ℕ) (f : Spot) (m : ℕ) → IsIn m (behind ((terms_over one_net).net (suc n)) f) → ⊥
no_net n f m h = nowhere f m (rw (not_zero n) at h)
  where
    nowhere : (f : Spot) (m : ℕ) → IsIn m (behind ((terms_over []).net (suc n)) f) → ⊥
    nowhere Start m h = h
    nowhere (At zero) m h = h
    nowhere (At (suc i)) m h = h

unbegun : AreUnbegunNets (terms_over one_net)
unbegun = record { nodes = nodes; over = over }
  where
    nodes : (n m : ℕ) → IsUnbegun ((terms_over one_net).node n m)
    nodes zero zero = tt
    nodes zero (suc zero) = tt
    nodes zero (suc (suc m)) = tt
    nodes (suc n) m = rw (not_zero n) tt

    over : (n m : ℕ) → get_or ((terms_over one_net).net n).ends m false ≡ true → (terms_over one_net).node n m ≡ Nil
    over zero zero e = cc
    over zero (suc zero) e = refl
    over zero (suc (suc m)) e = refl
    over (suc n) m e = rw (not_zero n) refl

-- a walk that leads nowhere
stuck : (n : ℕ) (f : Spot) (t : Goal) (c : List ℕ) (s : Shape) → ((m : ℕ) → IsIn m (behind ((terms_over one_net).net n) f) → ⊥) → HasWalk (terms_over one_net) false n f t c s → ⊥
stuck n f t c s nowhere (walk_stop h) = never_stops t h
stuck n f t c s nowhere (walk_last m i a) = nowhere m i
stuck n f t c s nowhere (walk_step m i a av r) = nowhere m i

no_action : (s : Shape) → HasPattern (terms_over one_net) false (Event output) s → HasNoEvent s → ⊥
no_action s has_event n = n

end_stuck : (m : ℕ) → IsIn m (behind entry.net (At 1)) → ⊥
end_stuck m h = h

-- without events there is one edge
by_edge : (n : ℕ) (f : Spot) (t : Goal) (c : List ℕ) (s : Shape) → HasWalk (terms_over one_net) false n f t c s → HasNoEvent s
    → (u : Shape) × TellsWalk (terms_over one_net) (λ n. output) n f t c (edges n f t) u × HasNoEvent u
by_edge n f t c s (walk_stop h) e = absurd (never_stops t h)
by_edge zero Start t c s (walk_last m (inl i) a) e = (empty, tells_arrived 0 (inl refl) (rw i at a), tt)
by_edge zero Start t c s (walk_last m (inr i) a) e = absurd i
by_edge zero Start t c s (walk_step m {s = u} (inl i) a av r) e = absurd (no_action u (rw i at a) e.0)
by_edge zero Start t c s (walk_step m (inr i) a av r) e = absurd i
by_edge zero (At zero) t c s (walk_last m (inl i) a) e = (empty, tells_arrived 1 (inl refl) (rw i at a), tt)
by_edge zero (At zero) t c s (walk_last m (inr i) a) e = absurd i
by_edge zero (At zero) t c s (walk_step m {u = u} (inl i) a av r) e = absurd (stuck 0 (At 1) t c u end_stuck (rw i at r))
by_edge zero (At zero) t c s (walk_step m (inr i) a av r) e = absurd i
by_edge zero (At (suc zero)) t c s r e = absurd (stuck zero (At (suc zero)) t c s (λ m h. h) r)
by_edge zero (At (suc (suc zero))) t c s r e = absurd (stuck zero (At (suc (suc zero))) t c s (λ m h. h) r)
by_edge zero (At (suc (suc (suc i)))) t c s r e = absurd (stuck zero (At (suc (suc (suc i)))) t c s (λ m h. h) r)
by_edge (suc n) f t c s r e = absurd (stuck (suc n) f t c s (no_net n f) r)

finds : FindsWays one_net (λ n. output) edges
finds n f t c h = go h.pattern h.has h.none
  where
    go : (s : Shape) → HasPattern (terms_over one_net) false (Walk n f t c) s → HasNoEvent s → (u : Shape) × TellsWalk (terms_over one_net) (λ n. output) n f t c (edges n f t) u × HasNoEvent u
    go s (holds_walk r) e = by_edge n f t c s r e

nil_empty : HasEmpty (terms_over one_net) Nil
nil_empty = record { pattern = empty; has = has_nil; none = tt }

pub walk_certified : HasCertificate (terms_over one_net) walk (0 ∷ [])
walk_certified =
    let (t, a, r) = accounts_go_back.way one_net (λ n. output) edges walk Nil (output ∷ []) walked tidy (omega arith) finds (refl, tt) nil_empty in
    accounts_go_back.certificate one_net (λ n. output) walk (account_back (permits_of one_net) (nodes_over one_net edges) walked 1 nothing) t (output ∷ []) unbegun (refl, refl, refl) (refl, tt) a r
