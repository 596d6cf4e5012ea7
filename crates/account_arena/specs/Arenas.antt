-- Accounts by numbers: a node names nodes of smaller numbers, so the accounts are those of one node after another.
use Rattle.std.specs.Prelude.{ℕ, zero, suc, ◌+◌, ◌<◌, Bool, true, false, List, [], ◌∷◌, ◌++◌, ◌≡◌, get_or, length}
use Rattle.certificate_accounts.specs.Accounts.{Account, nothing, at_place, of_parts, of_branch, of_row, of_walk, Accounts, no_accounts, account_and, RowAccount, row_over, turns_in_gap, begun_turn, Visits, arrived, visit}
use Rattle.certificate_accounts.specs.JoinsBack.{first_of, rest_of, parts_in}
use Rattle.account_arena.specs.declared.arena.Node.{Node}
use Rattle.account_arena.specs.declared.arena.Node.TheVariants as node
use Rattle.account_arena.specs.declared.numbers.RowItem.{RowItem}
use Rattle.account_arena.specs.declared.numbers.RowItem.TheVariants as item
use Rattle.account_arena.specs.declared.numbers.Visit.{Visit}

-- the account of a number
abbrev pub account_at : List Account → ℕ → Account
account_at us i = get_or us i nothing

-- the accounts of numbers
abbrev pub accounts_at : List Account → List ℕ → Accounts
accounts_at us [] = no_accounts
accounts_at us (i ∷ is) = account_and (account_at us i) (accounts_at us is)

-- the account of a row
abbrev pub row_at : List Account → List RowItem → RowAccount
row_at us [] = row_over
row_at us (item.Gap is ∷ rs) = turns_in_gap (accounts_at us is) (row_at us rs)
row_at us (item.Turn i ∷ rs) = begun_turn (account_at us i) (row_at us rs)

-- the visits of a walk, which arrives at a node
abbrev pub visits_at : List Account → List Visit → ℕ → Visits
visits_at us [] m = arrived m
visits_at us (v ∷ vs) m = visit v.node (account_at us v.account) (visits_at us vs m)

-- the account of a node over those before it
abbrev pub account_in : List Account → Node → Account
account_in us node.Nothing = nothing
account_in us (node.AtPlace n) = at_place n
account_in us (node.OfParts is) = of_parts (accounts_at us is)
account_in us (node.OfBranch i j) = of_branch i (account_at us j)
account_in us (node.OfRow rs) = of_row (row_at us rs)
account_in us (node.OfWalk vs m) = of_walk (visits_at us vs m)

-- the accounts of nodes, behind these
abbrev pub accounts_behind : List Account → List Node → List Account
accounts_behind us [] = us
accounts_behind us (n ∷ ns) = accounts_behind (us ++ account_in us n ∷ []) ns

-- the accounts of nodes
abbrev pub accounts_of : List Node → List Account
accounts_of ns = accounts_behind [] ns

-- those that were there keep their numbers
pub record Grows (old new : List Account) : Type 0 where
  pub rest : List Account
  pub are : new ≡ old ++ rest

-- the numbers are smaller than this one
abbrev pub AreSmaller : ℕ → List ℕ → Type 0
AreSmaller n [] = Unit {0}
AreSmaller n (i ∷ is) = (i < n) × AreSmaller n is

-- the numbers are those of accounts
abbrev pub AreThere : List Account → List ℕ → Type 0
AreThere us is = AreSmaller (length us) is

-- so are those in a row
abbrev pub IsSmallerItem : ℕ → RowItem → Type 0
IsSmallerItem n (item.Gap is) = AreSmaller n is
IsSmallerItem n (item.Turn i) = i < n

abbrev pub IsSmallerRow : ℕ → List RowItem → Type 0
IsSmallerRow n [] = Unit {0}
IsSmallerRow n (r ∷ rs) = IsSmallerItem n r × IsSmallerRow n rs

-- those in a row are those of accounts
abbrev pub IsRowThere : List Account → List RowItem → Type 0
IsRowThere us rs = IsSmallerRow (length us) rs

-- and those of visits
abbrev pub AreSmallerVisits : ℕ → List Visit → Type 0
AreSmallerVisits n [] = Unit {0}
AreSmallerVisits n (v ∷ vs) = (v.account < n) × AreSmallerVisits n vs

-- the node names smaller numbers alone
abbrev pub IsOlder : ℕ → Node → Type 0
IsOlder n node.Nothing = Unit {0}
IsOlder n (node.AtPlace p) = Unit {0}
IsOlder n (node.OfParts is) = AreSmaller n is
IsOlder n (node.OfBranch i j) = j < n
IsOlder n (node.OfRow rs) = IsSmallerRow n rs
IsOlder n (node.OfWalk vs m) = AreSmallerVisits n vs

-- so does each of these, the first of which has this number
abbrev pub AreOlder : ℕ → List Node → Type 0
AreOlder n [] = Unit {0}
AreOlder n (m ∷ ns) = IsOlder n m × AreOlder (n + 1) ns

-- the first accounts, so many; where there are too few, the others have no event
abbrev pub first_accounts : ℕ → Accounts → Accounts
first_accounts zero us = no_accounts
first_accounts (suc n) us = account_and (first_of us) (first_accounts n (rest_of us))

-- those behind so many
abbrev pub later_accounts : ℕ → Accounts → Accounts
later_accounts zero us = us
later_accounts (suc n) us = later_accounts n (rest_of us)

-- the accounts of the parts of a join of so many parts: one part is the join itself
abbrev pub accounts_in : ℕ → Account → Accounts
accounts_in zero a = no_accounts
accounts_in (suc zero) a = account_and a no_accounts
accounts_in (suc (suc n)) a = parts_in a

-- whether it is the account without events
abbrev pub is_nothing : Account → Bool
is_nothing nothing = true
is_nothing (at_place n) = false
is_nothing (of_parts us) = false
is_nothing (of_branch i a) = false
is_nothing (of_row b) = false
is_nothing (of_walk v) = false
