-- A code for accounts, by which proofs tell their values apart.
use Rattle.std.specs.Prelude.{ℕ, ◌≡◌, ◌≢◌, refl}
use Rattle.std.specs.Coded.{Coded, coded_ℕ}
use Rattle.std.proofs.Common.{ap, arith}
use base.Stored.{Gv, gnil, gnum, gcons}
use Rattle.certificate_accounts.specs.Accounts.{Account, nothing, at_place, of_parts, of_branch, of_row, of_walk, Accounts, no_accounts, account_and, RowAccount, row_over, turns_in_gap, begun_turn, Visits, arrived, visit}

-- the first part of a pair
abbrev first_of : Gv → Gv
first_of gnil = gnil
first_of (gnum n) = gnil
first_of (gcons a b) = a

-- the second part of a pair
abbrev second_of : Gv → Gv
second_of gnil = gnil
second_of (gnum n) = gnil
second_of (gcons a b) = b

-- two codes with different numbers in front_for are different
apart : (m n : ℕ) {a b : Gv} → gcons (gnum m) a ≡ gcons (gnum n) b → m ≢ n → ⊥
apart m n p other = other (cc)

abbrev mutual
  pub account_code : Account → Gv
  account_code nothing = gcons (gnum 0) gnil
  account_code (at_place a0) = gcons (gnum 1) (gcons (coded_ℕ.code a0) gnil)
  account_code (of_parts a0) = gcons (gnum 2) (gcons (accounts_code a0) gnil)
  account_code (of_branch a0 a1) = gcons (gnum 3) (gcons (coded_ℕ.code a0) (gcons (account_code a1) gnil))
  account_code (of_row a0) = gcons (gnum 4) (gcons (row_code a0) gnil)
  account_code (of_walk a0) = gcons (gnum 5) (gcons (visits_code a0) gnil)

  pub accounts_code : Accounts → Gv
  accounts_code no_accounts = gcons (gnum 0) gnil
  accounts_code (account_and a0 a1) = gcons (gnum 1) (gcons (account_code a0) (gcons (accounts_code a1) gnil))

  pub row_code : RowAccount → Gv
  row_code row_over = gcons (gnum 0) gnil
  row_code (turns_in_gap a0 a1) = gcons (gnum 1) (gcons (accounts_code a0) (gcons (row_code a1) gnil))
  row_code (begun_turn a0 a1) = gcons (gnum 2) (gcons (account_code a0) (gcons (row_code a1) gnil))

  pub visits_code : Visits → Gv
  visits_code (arrived a0) = gcons (gnum 0) (gcons (coded_ℕ.code a0) gnil)
  visits_code (visit a0 a1 a2) = gcons (gnum 1) (gcons (coded_ℕ.code a0) (gcons (account_code a1) (gcons (visits_code a2) gnil)))

mutual
  pub account_inj : (x y : Account) → account_code x ≡ account_code y → x ≡ y
  account_inj nothing nothing p = refl
  account_inj nothing (at_place b0) p = absurd (apart 0 1 p (omega arith))
  account_inj nothing (of_parts b0) p = absurd (apart 0 2 p (omega arith))
  account_inj nothing (of_branch b0 b1) p = absurd (apart 0 3 p (omega arith))
  account_inj nothing (of_row b0) p = absurd (apart 0 4 p (omega arith))
  account_inj nothing (of_walk b0) p = absurd (apart 0 5 p (omega arith))
  account_inj (at_place a0) nothing p = absurd (apart 1 0 p (omega arith))
  account_inj (at_place a0) (at_place b0) p = λ i. at_place (coded_ℕ.inj a0 b0 (ap (λ g. first_of (second_of g)) p) i)
  account_inj (at_place a0) (of_parts b0) p = absurd (apart 1 2 p (omega arith))
  account_inj (at_place a0) (of_branch b0 b1) p = absurd (apart 1 3 p (omega arith))
  account_inj (at_place a0) (of_row b0) p = absurd (apart 1 4 p (omega arith))
  account_inj (at_place a0) (of_walk b0) p = absurd (apart 1 5 p (omega arith))
  account_inj (of_parts a0) nothing p = absurd (apart 2 0 p (omega arith))
  account_inj (of_parts a0) (at_place b0) p = absurd (apart 2 1 p (omega arith))
  account_inj (of_parts a0) (of_parts b0) p = λ i. of_parts (accounts_inj a0 b0 (ap (λ g. first_of (second_of g)) p) i)
  account_inj (of_parts a0) (of_branch b0 b1) p = absurd (apart 2 3 p (omega arith))
  account_inj (of_parts a0) (of_row b0) p = absurd (apart 2 4 p (omega arith))
  account_inj (of_parts a0) (of_walk b0) p = absurd (apart 2 5 p (omega arith))
  account_inj (of_branch a0 a1) nothing p = absurd (apart 3 0 p (omega arith))
  account_inj (of_branch a0 a1) (at_place b0) p = absurd (apart 3 1 p (omega arith))
  account_inj (of_branch a0 a1) (of_parts b0) p = absurd (apart 3 2 p (omega arith))
  account_inj (of_branch a0 a1) (of_branch b0 b1) p = λ i. of_branch (coded_ℕ.inj a0 b0 (ap (λ g. first_of (second_of g)) p) i) (account_inj a1 b1 (ap (λ g. first_of (second_of (second_of g))) p) i)
  account_inj (of_branch a0 a1) (of_row b0) p = absurd (apart 3 4 p (omega arith))
  account_inj (of_branch a0 a1) (of_walk b0) p = absurd (apart 3 5 p (omega arith))
  account_inj (of_row a0) nothing p = absurd (apart 4 0 p (omega arith))
  account_inj (of_row a0) (at_place b0) p = absurd (apart 4 1 p (omega arith))
  account_inj (of_row a0) (of_parts b0) p = absurd (apart 4 2 p (omega arith))
  account_inj (of_row a0) (of_branch b0 b1) p = absurd (apart 4 3 p (omega arith))
  account_inj (of_row a0) (of_row b0) p = λ i. of_row (row_inj a0 b0 (ap (λ g. first_of (second_of g)) p) i)
  account_inj (of_row a0) (of_walk b0) p = absurd (apart 4 5 p (omega arith))
  account_inj (of_walk a0) nothing p = absurd (apart 5 0 p (omega arith))
  account_inj (of_walk a0) (at_place b0) p = absurd (apart 5 1 p (omega arith))
  account_inj (of_walk a0) (of_parts b0) p = absurd (apart 5 2 p (omega arith))
  account_inj (of_walk a0) (of_branch b0 b1) p = absurd (apart 5 3 p (omega arith))
  account_inj (of_walk a0) (of_row b0) p = absurd (apart 5 4 p (omega arith))
  account_inj (of_walk a0) (of_walk b0) p = λ i. of_walk (visits_inj a0 b0 (ap (λ g. first_of (second_of g)) p) i)

  pub accounts_inj : (x y : Accounts) → accounts_code x ≡ accounts_code y → x ≡ y
  accounts_inj no_accounts no_accounts p = refl
  accounts_inj no_accounts (account_and b0 b1) p = absurd (apart 0 1 p (omega arith))
  accounts_inj (account_and a0 a1) no_accounts p = absurd (apart 1 0 p (omega arith))
  accounts_inj (account_and a0 a1) (account_and b0 b1) p = λ i. account_and (account_inj a0 b0 (ap (λ g. first_of (second_of g)) p) i) (accounts_inj a1 b1 (ap (λ g. first_of (second_of (second_of g))) p) i)

  pub row_inj : (x y : RowAccount) → row_code x ≡ row_code y → x ≡ y
  row_inj row_over row_over p = refl
  row_inj row_over (turns_in_gap b0 b1) p = absurd (apart 0 1 p (omega arith))
  row_inj row_over (begun_turn b0 b1) p = absurd (apart 0 2 p (omega arith))
  row_inj (turns_in_gap a0 a1) row_over p = absurd (apart 1 0 p (omega arith))
  row_inj (turns_in_gap a0 a1) (turns_in_gap b0 b1) p = λ i. turns_in_gap (accounts_inj a0 b0 (ap (λ g. first_of (second_of g)) p) i) (row_inj a1 b1 (ap (λ g. first_of (second_of (second_of g))) p) i)
  row_inj (turns_in_gap a0 a1) (begun_turn b0 b1) p = absurd (apart 1 2 p (omega arith))
  row_inj (begun_turn a0 a1) row_over p = absurd (apart 2 0 p (omega arith))
  row_inj (begun_turn a0 a1) (turns_in_gap b0 b1) p = absurd (apart 2 1 p (omega arith))
  row_inj (begun_turn a0 a1) (begun_turn b0 b1) p = λ i. begun_turn (account_inj a0 b0 (ap (λ g. first_of (second_of g)) p) i) (row_inj a1 b1 (ap (λ g. first_of (second_of (second_of g))) p) i)

  pub visits_inj : (x y : Visits) → visits_code x ≡ visits_code y → x ≡ y
  visits_inj (arrived a0) (arrived b0) p = λ i. arrived (coded_ℕ.inj a0 b0 (ap (λ g. first_of (second_of g)) p) i)
  visits_inj (arrived a0) (visit b0 b1 b2) p = absurd (apart 0 1 p (omega arith))
  visits_inj (visit a0 a1 a2) (arrived b0) p = absurd (apart 1 0 p (omega arith))
  visits_inj (visit a0 a1 a2) (visit b0 b1 b2) p = λ i. visit (coded_ℕ.inj a0 b0 (ap (λ g. first_of (second_of g)) p) i) (account_inj a1 b1 (ap (λ g. first_of (second_of (second_of g))) p) i) (visits_inj a2 b2 (ap (λ g. first_of (second_of (second_of (second_of g)))) p) i)

abbrev pub coded_account : Coded Account
coded_account = record { code = account_code; inj = account_inj }
