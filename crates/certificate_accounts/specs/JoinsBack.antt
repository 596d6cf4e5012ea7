-- From an account of a join in normal form to accounts of the parts that it was made of.
use Rattle.std.specs.Prelude.{List, [], ◌∷◌}
use Rattle.chart_term.specs.NormalForms.{open_part, flat}
use Rattle.chart_term.specs.Terms.{Tree, Nil, Event, Join, Choice, Tied, Loop, Walk}
use Rattle.msc_base.specs.Patterns.{Mode, seq, par}
use Rattle.certificate_accounts.specs.Accounts.{Account, nothing, at_place, of_parts, of_branch, of_row, of_walk, Accounts, no_accounts, account_and}

-- the first account, and the others; where there is none, it is one without events
abbrev pub first_of : Accounts → Account
first_of no_accounts = nothing
first_of (account_and a us) = a

abbrev pub rest_of : Accounts → Accounts
rest_of no_accounts = no_accounts
rest_of (account_and a us) = us

-- as many as there are terms, and those behind
abbrev pub front_for : List Tree → Accounts → Accounts
front_for [] us = no_accounts
front_for (x ∷ xs) us = account_and (first_of us) (front_for xs (rest_of us))

abbrev pub rest_for : List Tree → Accounts → Accounts
rest_for [] us = us
rest_for (x ∷ xs) us = rest_for xs (rest_of us)

-- the accounts in the account of a join; where it has no event there is none
abbrev pub parts_in : Account → Accounts
parts_in nothing = no_accounts
parts_in (at_place n) = no_accounts
parts_in (of_parts us) = us
parts_in (of_branch i a) = no_accounts
parts_in (of_row b) = no_accounts
parts_in (of_walk v) = no_accounts

-- the parts from which a join was made that has this account: no part is Nil, one part is itself
abbrev pub joined_parts : List Tree → Account → Accounts
joined_parts [] a = no_accounts
joined_parts (x ∷ []) a = account_and a no_accounts
joined_parts (x ∷ y ∷ ys) a = parts_in a

-- the account of a part that was opened
abbrev pub closed_part : Mode → Tree → Accounts → Account
closed_part m Nil us = nothing
closed_part seq (Join seq xs) us = of_parts us
closed_part seq (Join par xs) us = first_of us
closed_part par (Join seq xs) us = first_of us
closed_part par (Join par xs) us = of_parts us
closed_part m (Event e) us = first_of us
closed_part m (Choice xs) us = first_of us
closed_part m (Tied x q) us = first_of us
closed_part m (Loop x lo hi r) us = first_of us
closed_part m (Walk n f t c) us = first_of us

-- the accounts of the parts, from those of the parts that they were opened to
abbrev pub closed_parts : Mode → List Tree → Accounts → Accounts
closed_parts m [] us = no_accounts
closed_parts m (x ∷ xs) us = account_and (closed_part m x (front_for (open_part m x) us)) (closed_parts m xs (rest_for (open_part m x) us))

-- the accounts of the parts of which a join in normal form has this account
abbrev pub parts_back : Mode → List Tree → Account → Accounts
parts_back m xs a = closed_parts m xs (joined_parts (flat m xs) a)
