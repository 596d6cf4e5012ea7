-- From an account of what permission leaves of a term to one of the term.
use Rattle.std.specs.List.{list_any}
use Rattle.std.specs.Prelude.{ℕ, zero, suc, Bool, true, false, List, [], ◌∷◌, Option, Some, None, cond, ◌&&◌}
use Rattle.chart_term.specs.Tables.{nth_tree}
use Rattle.chart_term.specs.Equality.{same_tree}
use Rattle.chart_term.specs.Facts.{misses}
use Rattle.chart_term.specs.NormalForms.{NetPermits, only, open_choice, open_choices, distinct}
use Rattle.chart_term.specs.Spreads.{touch}
use Rattle.chart_term.specs.Terms.{Block, Tree, Nil, Event, Join, Choice, Tied, Loop, Walk, Trees, none, more, Row, ends, gap, turn, items, Part}
use Rattle.msc_base.specs.Patterns.{Mode}
use Rattle.term_laws.specs.Permission.{permit, permit_all, permit_some, permit_row}
use Rattle.certificate_accounts.specs.Accounts.{Account, nothing, at_place, of_parts, of_branch, of_row, of_walk, Accounts, no_accounts, account_and, RowAccount, row_over}
use Rattle.certificate_accounts.specs.JoinsBack.{first_of, rest_of, parts_back}
use Rattle.certificate_accounts.specs.RowsBack.{put_gap, put_begun, loop_back}

-- whether the term is one of the parts of what permission left, opened as a choice
abbrev pub opens_to : Option Tree → Tree → Bool
opens_to None z = false
opens_to (Some y) z = list_any (same_tree z) (open_choice y)

-- at which index the term stands first
abbrev pub index_in : List Tree → Tree → ℕ
index_in [] z = zero
index_in (y ∷ ys) z = cond (same_tree z y) zero (suc (index_in ys z))

-- the account of a term of which z is a part, opened as a choice
abbrev pub reopened : Tree → Tree → Account → Account
reopened Nil z a = a
reopened (Event e) z a = a
reopened (Join m xs) z a = a
reopened (Choice zs) z a = of_branch (index_in (items zs) z) a
reopened (Tied x q) z a = a
reopened (Loop x lo hi r) z a = a
reopened (Walk n f t c) z a = a

abbrev pub reopened_some : Option Tree → Tree → Account → Account
reopened_some None z a = a
reopened_some (Some y) z a = reopened y z a

-- one branch later
abbrev pub later_branch : Account → Account
later_branch nothing = nothing
later_branch (at_place n) = nothing
later_branch (of_parts us) = nothing
later_branch (of_branch i a) = of_branch (suc i) a
later_branch (of_row b) = nothing
later_branch (of_walk v) = nothing

abbrev pub first_or_later : Bool → Account → Account → Account
first_or_later true a c = of_branch zero a
first_or_later false a c = later_branch c

-- the part of a choice in normal form that the account speaks of, and its account
abbrev pub branch_in : List Tree → Account → (Tree → Account → Account) → Account
branch_in zs nothing f = nothing
branch_in zs (at_place n) f = nothing
branch_in zs (of_parts us) f = nothing
branch_in zs (of_branch i a) f = f (nth_tree zs i) a
branch_in zs (of_row b) f = nothing
branch_in zs (of_walk v) f = nothing

abbrev pub choice_back : List Tree → Account → (Tree → Account → Account) → Account
choice_back [] a f = nothing
choice_back (z ∷ []) a f = f z a
choice_back (y ∷ z ∷ zs) a f = branch_in (y ∷ z ∷ zs) a f

-- the account of a join, where permission didn't fail
abbrev pub join_some : Mode → Option (List Tree) → Account → (Accounts → Accounts) → Account
join_some m None a f = nothing
join_some m (Some ys) a f = of_parts (f (parts_back m ys a))

-- the account of a loop, where permission didn't fail
abbrev pub loop_some : (List ℕ → Option Tree) → List ℕ → Option ℕ → Option (List Part) → Account → (RowAccount → RowAccount) → Account
loop_some p all hi None a f = nothing
loop_some p all hi (Some ps) a f = of_row (f (loop_back p all hi ps a))

-- whether it is the term itself that is left
abbrev pub is_itself : Tree → Option Tree → Bool
is_itself x None = false
is_itself x (Some y) = same_tree y x

-- whether the block misses the term, and permission leaves it as it is
abbrev pub stays : NetPermits → Block → Tree → Bool
stays k b x = misses (record { instances = b.instances; events = b.numbers }) x && is_itself x (permit k b x)

-- the account stays where the term does, and where it has no event
abbrev pub unless_stays : Bool → Account → Account → Account
unless_stays true a c = a
unless_stays false nothing c = nothing
unless_stays false (at_place n) c = c
unless_stays false (of_parts us) c = c
unless_stays false (of_branch i a) c = c
unless_stays false (of_row b) c = c
unless_stays false (of_walk v) c = c

-- an account of a term, from one of what permission left of it
abbrev mutual
  pub permit_back : NetPermits → Block → Tree → Account → Account
  permit_back k b Nil a = a
  permit_back k b (Event e) a = a
  permit_back k b (Join m xs) a = unless_stays (stays k b (Join m xs)) a (join_some m (permit_all k b xs) a (all_back k b xs))
  permit_back k b (Choice xs) a = unless_stays (stays k b (Choice xs)) a (choice_back (distinct (open_choices (permit_some k b xs))) a (λ z c. some_back k b xs z c))
  permit_back k b (Tied x q) a = unless_stays (stays k b (Tied x q)) a (permit_back k b x a)
  permit_back k b (Loop x lo hi r) a = unless_stays (stays k b (Loop x lo hi r)) a (loop_some (λ c. permit k (only c) x) (touch k.spread x) hi (permit_row k b r) a (gaps_back k b r))
  permit_back k b (Walk n f t c) a = a

  pub all_back : NetPermits → Block → Trees → Accounts → Accounts
  all_back k b none us = no_accounts
  all_back k b (more x xs) us = account_and (permit_back k b x (first_of us)) (all_back k b xs (rest_of us))

  pub some_back : NetPermits → Block → Trees → Tree → Account → Account
  some_back k b none z a = nothing
  some_back k b (more x xs) z a = first_or_later (opens_to (permit k b x) z) (permit_back k b x (reopened_some (permit k b x) z a)) (some_back k b xs z a)

  pub gaps_back : NetPermits → Block → Row → RowAccount → RowAccount
  gaps_back k b ends rb = rb
  gaps_back k b (gap c r) rb = put_gap rb (gaps_back k b r)
  gaps_back k b (turn y r) rb = put_begun rb (permit_back k b y) (gaps_back k b r)
