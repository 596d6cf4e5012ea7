-- From an account of what is left after an event to one of the term before it: the part that had the event gets the place.
use Rattle.std.specs.Prelude.{ℕ, zero, Bool, List, [], ◌∷◌}
use Rattle.hmsc_graph.specs.Graphs.{Spot, At, Goal, To}
use Rattle.msc_base.specs.Patterns.{Mode, seq, par}
use Rattle.chart_term.specs.NormalForms.{NetPermits, only}
use Rattle.chart_term.specs.Spreads.{touch}
use Rattle.chart_term.specs.TermPatterns.{instances_of, earlier}
use Rattle.chart_term.specs.Terms.{TermEvent, Tree, Trees, Part}
use Rattle.term_laws.specs.Permission.{permit}
use Rattle.term_laws.specs.Taking.{fewer, IsAfter, after_event, after_choice, after_join, after_tied, after_loop, after_walk, IsAfterOne, first_one, later_one, IsAfterJoin, first_part, later_part, IsAfterRow, in_turn, in_gap, past_turn, past_gap}
use Rattle.certificate_accounts.specs.Accounts.{Account, nothing, at_place, of_parts, of_branch, of_row, of_walk, Accounts, no_accounts, account_and, RowAccount, row_over, turns_in_gap, begun_turn, Visits, arrived, visit}
use Rattle.certificate_accounts.specs.JoinsBack.{first_of, rest_of, parts_back}
use Rattle.certificate_accounts.specs.RowsBack.{loop_back, put_gap, put_begun}
use Rattle.certificate_accounts.specs.PermitsBack.{later_branch, permit_back}

-- one list of accounts and another
abbrev pub accounts_and : Accounts → Accounts → Accounts
accounts_and no_accounts vs = vs
accounts_and (account_and a us) vs = account_and a (accounts_and us vs)

-- a walk, from the node where it arrives on as the other says
abbrev pub visits_and : Visits → Visits → Visits
visits_and (arrived m) v = v
visits_and (visit m a u) v = visit m a (visits_and u v)

-- the account of an earlier part of a join, which let the event pass
abbrev pub stay_back : NetPermits → Mode → TermEvent → Tree → Account → Account
stay_back k seq e x a = permit_back k (only (instances_of e).instances) x a
stay_back k par e x a = a

-- the begun turn that had the event
abbrev pub turn_with : (Account → Account) → RowAccount → RowAccount
turn_with f row_over = row_over
turn_with f (turns_in_gap us b) = turns_in_gap us b
turn_with f (begun_turn a b) = begun_turn (f a) b

-- the gap in which a turn began: it and the two gaps beside it are one again
abbrev pub gap_with_rest : (Account → Account) → Accounts → Account → RowAccount → RowAccount
gap_with_rest f us a row_over = row_over
gap_with_rest f us a (turns_in_gap vs b) = turns_in_gap (accounts_and us (account_and (f a) vs)) b
gap_with_rest f us a (begun_turn c b) = begun_turn c b

abbrev pub gap_with_turn : (Account → Account) → Accounts → RowAccount → RowAccount
gap_with_turn f us row_over = row_over
gap_with_turn f us (turns_in_gap vs b) = turns_in_gap vs b
gap_with_turn f us (begun_turn a b) = gap_with_rest f us a b

abbrev pub gap_with : (Account → Account) → RowAccount → RowAccount
gap_with f row_over = row_over
gap_with f (turns_in_gap us b) = gap_with_turn f us b
gap_with f (begun_turn a b) = begun_turn a b

-- the visits in the account of a walk; where it has no event, a walk through nodes without events
abbrev pub visits_in : Visits → Account → Visits
visits_in v nothing = v
visits_in v (at_place n) = v
visits_in v (of_parts us) = v
visits_in v (of_branch i a) = v
visits_in v (of_row b) = v
visits_in v (of_walk u) = u

-- what a walk through nodes without events visits, and the account of a node's term from that of what a walk's block leaves of it
pub record NodeAccounts : Type 0 where
  pub empty_way : ℕ → Spot → Goal → Visits
  pub kept_back : ℕ → ℕ → List ℕ → Account → Account

-- the account before the event, which stands at this place
module _ (k : NetPermits) (nodes : NodeAccounts) (place : ℕ) where
  -- the walk up to the node, the node, and the walk on
  abbrev pub walk_step : ℕ → Spot → Goal → List ℕ → ℕ → (Account → Account) → Accounts → Visits
  walk_step n f t c m g us =
      visits_and (visits_in (nodes.empty_way n f (To m)) (first_of us))
      (visit m (nodes.kept_back n m c (g (first_of (rest_of us)))) (visits_in (nodes.empty_way n (At m) t) (first_of (rest_of (rest_of us)))))

  abbrev mutual
    pub step_back : {x y : Tree} {e : TermEvent} → IsAfter k x e y → Account → Account
    step_back after_event a = at_place place
    step_back (after_choice h) a = branch_step h a
    step_back (after_join {m = m} {ys = ys} h) a = of_parts (parts_step h (parts_back m ys a))
    step_back (after_tied {y = y} {q = q} {e = e} h p) a = step_back h (permit_back k (earlier q e) y a)
    step_back (after_loop {x = x} {hi = hi} b {ps = ps} h next i) a = of_row (row_step h (loop_back (λ c. permit k (only c) x) (touch k.spread x) (fewer b hi) ps a))
    step_back (after_walk {n = n} {s = f} {t = t} {c = c} m {y = y} {u = u} {v = v} p h l r i j) a = of_walk (walk_step n f t c m (λ z. step_back h z) (parts_back seq (u ∷ y ∷ v ∷ []) a))

    pub branch_step : {xs : Trees} {e : TermEvent} {y : Tree} → IsAfterOne k xs e y → Account → Account
    branch_step (first_one h) a = of_branch zero (step_back h a)
    branch_step (later_one h) a = later_branch (branch_step h a)

    pub parts_step : {m : Mode} {xs : Trees} {e : TermEvent} {ys : List Tree} → IsAfterJoin k m xs e ys → Accounts → Accounts
    parts_step (first_part h) us = account_and (step_back h (first_of us)) (rest_of us)
    parts_step (later_part {m = m} {x = x} {e = e} s h) us = account_and (stay_back k m e x (first_of us)) (parts_step h (rest_of us))

    pub row_step : {x : Tree} {b : Bool} {ps qs : List Part} {e : TermEvent} → IsAfterRow k x b ps e qs → RowAccount → RowAccount
    row_step (in_turn h) rb = turn_with (λ a. step_back h a) rb
    row_step (in_gap {x = x} {c = c} p h) rb = gap_with (λ a. permit_back k (only c) x (step_back h a)) rb
    row_step (past_turn {y = y} {e = e} p h) rb = put_begun rb (permit_back k (only (instances_of e).instances) y) (λ b. row_step h b)
    row_step (past_gap h) rb = put_gap rb (λ b. row_step h b)
