-- Numbers that are there keep their accounts as more are added; accounts of one list of numbers behind another.
use Rattle.std.specs.Prelude.{ℕ, ◌+◌, ◌<◌, ◌≤◌, List, [], ◌∷◌, ◌++◌, ◌≡◌, length, refl}
use Rattle.std.proofs.Common.{ap, ap₂, sym, ◌∙◌, arith, append_assoc, append-nil}
use Rattle.std.proofs.lemmas.List.{length-append}
use Rattle.certificate_accounts.specs.Accounts.{Account, Accounts, no_accounts, account_and, begun_turn, turns_in_gap}
use Rattle.certificate_accounts.specs.StepsBack.{accounts_and}
use Rattle.account_arena.specs.Arenas.{account_at, accounts_at, row_at, AreSmaller, AreThere, IsSmallerRow, IsSmallerItem, IsRowThere, Grows}
use Rattle.account_arena.specs.declared.numbers.RowItem.{RowItem}
use Rattle.account_arena.specs.declared.numbers.RowItem.TheVariants as item
use Rattle.account_arena.proofs.Adding.{accounts_keep, row_keeps, stays_at}

-- more and more accounts
pub stays : (us : List Account) → Grows us us
stays us = record { rest = []; are = sym (append-nil us) }

pub grows_on : (a b c : List Account) → Grows a b → Grows b c → Grows a c
grows_on a b c g h = record { rest = g.rest ++ h.rest; are = h.are ∙ ap (λ l. l ++ h.rest) g.are ∙ append_assoc a g.rest h.rest }

grown_length : (old new : List Account) → Grows old new → length old ≤ length new
grown_length old new g = let e = ap length g.are ∙ length-append old g.rest in omega (arith, e)

-- numbers that are there
pub smaller_up : (k n : ℕ) (is : List ℕ) → k ≤ n → AreSmaller k is → AreSmaller n is
smaller_up k n [] l h = tt
smaller_up k n (i ∷ is) l h = (omega (arith, l, h.0), smaller_up k n is l h.1)

pub number_there : (old new : List Account) (i : ℕ) → Grows old new → i < length old → i < length new
number_there old new i g h = let e = grown_length old new g in omega (arith, e, h)

pub there_grown : (old new : List Account) (is : List ℕ) → Grows old new → AreThere old is → AreThere new is
there_grown old new is g h = smaller_up (length old) (length new) is (grown_length old new g) h

row_up : (k n : ℕ) (rs : List RowItem) → k ≤ n → IsSmallerRow k rs → IsSmallerRow n rs
row_up k n [] l h = tt
row_up k n (item.Gap is ∷ rs) l h = (smaller_up k n is l h.0, row_up k n rs l h.1)
row_up k n (item.Turn i ∷ rs) l h = (omega (arith, l, h.0), row_up k n rs l h.1)

pub row_grown : (old new : List Account) (rs : List RowItem) → Grows old new → IsRowThere old rs → IsRowThere new rs
row_grown old new rs g h = row_up (length old) (length new) rs (grown_length old new g) h

-- the same accounts
pub one_grown : (old new : List Account) (i : ℕ) → Grows old new → i < length old → account_at new i ≡ account_at old i
one_grown old new i g h = ap (λ us. account_at us i) g.are ∙ stays_at old g.rest i h

pub grown : (old new : List Account) (is : List ℕ) → Grows old new → AreThere old is → accounts_at new is ≡ accounts_at old is
grown old new is g h = ap (λ us. accounts_at us is) g.are ∙ accounts_keep old g.rest is h

pub same_row : (old new : List Account) (rs : List RowItem) → Grows old new → IsRowThere old rs → row_at new rs ≡ row_at old rs
same_row old new rs g h = ap (λ us. row_at us rs) g.are ∙ row_keeps old g.rest rs h

-- one list behind another
pub and_none : (us : Accounts) → accounts_and us no_accounts ≡ us
and_none no_accounts = refl
and_none (account_and a us) = ap (account_and a) (and_none us)

pub and_assoc : (us vs ws : Accounts) → accounts_and (accounts_and us vs) ws ≡ accounts_and us (accounts_and vs ws)
and_assoc no_accounts vs ws = refl
and_assoc (account_and a us) vs ws = ap (account_and a) (and_assoc us vs ws)

pub at_both : (us : List Account) (is ks : List ℕ) → accounts_at us (is ++ ks) ≡ accounts_and (accounts_at us is) (accounts_at us ks)
at_both us [] ks = refl
at_both us (i ∷ is) ks = ap (account_and (account_at us i)) (at_both us is ks)

pub there_both : (n : ℕ) (is ks : List ℕ) → AreSmaller n is → AreSmaller n ks → AreSmaller n (is ++ ks)
there_both n [] ks h g = g
there_both n (i ∷ is) ks h g = (h.0, there_both n is ks h.1 g)
