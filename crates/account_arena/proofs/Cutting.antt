-- Accounts by numbers, cut in two, with accounts without events where there are too few.
use Rattle.std.specs.Prelude.{ℕ, zero, suc, ◌+◌, ◌-◌, ◌<◌, ◌≤◌, List, [], ◌∷◌, ◌++◌, ◌≡◌, length, take, drop, replicate, refl}
use Rattle.std.proofs.Common.{ap, ap₂, sym, ◌∙◌, arith}
use Rattle.certificate_accounts.specs.Accounts.{Account, nothing, at_place, of_parts, of_branch, of_row, of_walk, Accounts, no_accounts, account_and, RowAccount, Visits}
use Rattle.certificate_accounts.specs.JoinsBack.{first_of, rest_of, parts_in}
use Rattle.certificate_accounts.specs.StepsBack.{accounts_and}
use Rattle.account_arena.specs.Arenas.{account_at, accounts_at, accounts_in, first_accounts, later_accounts, AreSmaller, AreThere, Grows}
use Rattle.account_arena.proofs.Growing.{stays, grown, at_both, there_both, there_grown, smaller_up}

replicate_push : (n i : ℕ) → replicate n i ++ i ∷ [] ≡ replicate (suc n) i
replicate_push zero i = refl
replicate_push (suc n) i = ap (λ l. i ∷ l) (replicate_push n i)

pub pushed_again : (n i : ℕ) (is ks : List ℕ) → is ≡ replicate n i → ks ≡ is ++ i ∷ [] → ks ≡ replicate (n + 1) i
pushed_again n i is ks e h = let s : suc n ≡ n + 1 = omega arith in h ∙ ap (λ l. l ++ i ∷ []) e ∙ replicate_push n i ∙ ap (λ k. replicate k i) s

pub ruleset repeating = (pushed_again)

-- as many numbers as are wanted
front_taken : (us : List Account) (n : ℕ) (is : List ℕ) → n ≤ length is → accounts_at us (take n is) ≡ first_accounts n (accounts_at us is)
front_taken us zero is h = refl
front_taken us (suc n) [] h = absurd (omega (arith, h))
front_taken us (suc n) (i ∷ is) h = ap (account_and (account_at us i)) (front_taken us n is (omega (arith, h)))

rest_dropped : (us : List Account) (n : ℕ) (is : List ℕ) → n ≤ length is → accounts_at us (drop n is) ≡ later_accounts n (accounts_at us is)
rest_dropped us zero is h = refl
rest_dropped us (suc n) [] h = absurd (omega (arith, h))
rest_dropped us (suc n) (i ∷ is) h = rest_dropped us n is (omega (arith, h))

there_taken : (k n : ℕ) (is : List ℕ) → AreSmaller k is → AreSmaller k (take n is)
there_taken k zero is h = tt
there_taken k (suc n) [] h = tt
there_taken k (suc n) (i ∷ is) h = (h.0, there_taken k n is h.1)

there_dropped : (k n : ℕ) (is : List ℕ) → AreSmaller k is → AreSmaller k (drop n is)
there_dropped k zero is h = h
there_dropped k (suc n) [] h = tt
there_dropped k (suc n) (i ∷ is) h = there_dropped k n is h.1

pub front_taken_is : (us : List Account) (n : ℕ) (is front : List ℕ) → n ≤ length is → front ≡ take n is → accounts_at us front ≡ first_accounts n (accounts_at us is)
front_taken_is us n is front h e = ap (accounts_at us) e ∙ front_taken us n is h

pub rest_dropped_is : (us : List Account) (n : ℕ) (is rest : List ℕ) → n ≤ length is → rest ≡ drop n is → accounts_at us rest ≡ later_accounts n (accounts_at us is)
rest_dropped_is us n is rest h e = ap (accounts_at us) e ∙ rest_dropped us n is h

pub there_taken_is : (us : List Account) (n : ℕ) (is front : List ℕ) → front ≡ take n is → AreThere us is → AreThere us front
there_taken_is us n is front e h = rw e (there_taken (length us) n is h)

pub there_dropped_is : (us : List Account) (n : ℕ) (is rest : List ℕ) → rest ≡ drop n is → AreThere us is → AreThere us rest
there_dropped_is us n is rest e h = rw e (there_dropped (length us) n is h)

-- with further ones
none_first : (us : List Account) (n i : ℕ) → account_at us i ≡ nothing → accounts_at us (replicate n i) ≡ first_accounts n no_accounts
none_first us zero i e = refl
none_first us (suc n) i e = ap₂ (λ a b. account_and a b) e (none_first us n i e)

front_filled : (us : List Account) (n i : ℕ) (is : List ℕ) → length is ≤ n → account_at us i ≡ nothing → accounts_at us (is ++ replicate (n - length is) i) ≡ first_accounts n (accounts_at us is)
front_filled us n i [] h e = let z : n - 0 ≡ n = omega arith in ap (λ k. accounts_at us (replicate k i)) z ∙ none_first us n i e
front_filled us zero i (j ∷ is) h e = absurd (omega (arith, h))
front_filled us (suc n) i (j ∷ is) h e = let z : suc n - suc (length is) ≡ n - length is = omega arith in ap (λ k. account_and (account_at us j) (accounts_at us (is ++ replicate k i))) z ∙ ap (account_and (account_at us j)) (front_filled us n i is (omega (arith, h)) e)

none_later : (n : ℕ) → later_accounts n no_accounts ≡ no_accounts
none_later zero = refl
none_later (suc n) = none_later n

rest_over : (us : List Account) (n : ℕ) (is : List ℕ) → length is ≤ n → later_accounts n (accounts_at us is) ≡ no_accounts
rest_over us n [] h = none_later n
rest_over us zero (i ∷ is) h = absurd (omega (arith, h))
rest_over us (suc n) (i ∷ is) h = rest_over us n is (omega (arith, h))

repeated_there : (k n i : ℕ) → i < k → AreSmaller k (replicate n i)
repeated_there k zero i h = tt
repeated_there k (suc n) i h = (h, repeated_there k n i h)

pub front_filled_is : (old new : List Account) (n i : ℕ) (is others front : List ℕ) → Grows old new → AreThere old is → length is ≤ n → account_at new i ≡ nothing → others ≡ replicate (n - length is) i → front ≡ is ++ others → accounts_at new front ≡ first_accounts n (accounts_at old is)
front_filled_is old new n i is others front g t h e p q = ap (accounts_at new) (q ∙ ap (λ l. is ++ l) p) ∙ front_filled new n i is h e ∙ ap (first_accounts n) (grown old new is g t)

pub there_filled_is : (old new : List Account) (n i : ℕ) (is others front : List ℕ) → Grows old new → AreThere old is → i < length new → others ≡ replicate n i → front ≡ is ++ others → AreThere new front
there_filled_is old new n i is others front g t l p q = rw q (there_both (length new) is others (there_grown old new is g t) (rw p (repeated_there (length new) n i l)))

pub rest_over_is : (old new : List Account) (n : ℕ) (is rest : List ℕ) → length is ≤ n → rest ≡ [] → accounts_at new rest ≡ later_accounts n (accounts_at old is)
rest_over_is old new n is rest h e = ap (accounts_at new) e ∙ sym (rest_over old n is h)

pub none_there : (new : List Account) (rest : List ℕ) → rest ≡ [] → AreThere new rest
none_there new rest e = rw e tt

-- the parts of a join
pub no_part : (us : List Account) (a : Account) (n : ℕ) (is : List ℕ) → n ≡ 0 → is ≡ [] → accounts_at us is ≡ accounts_in n a
no_part us a n is e h = ap (accounts_at us) h ∙ sym (ap (λ k. accounts_in k a) e)

pub one_part : (us : List Account) (i n : ℕ) (is : List ℕ) → n ≡ 1 → is ≡ replicate 1 i → accounts_at us is ≡ accounts_in n (account_at us i)
one_part us i n is e h = ap (accounts_at us) h ∙ sym (ap (λ k. accounts_in k (account_at us i)) e)

pub one_there : (us : List Account) (i n : ℕ) (is : List ℕ) → i < length us → is ≡ replicate n i → AreThere us is
one_there us i n is l h = rw h (repeated_there (length us) n i l)

many_in : (n : ℕ) (a : Account) → (n ≡ 0 → ⊥) → (n ≡ 1 → ⊥) → accounts_in n a ≡ parts_in a
many_in zero a f g = absurd (f refl)
many_in (suc zero) a f g = absurd (g refl)
many_in (suc (suc n)) a f g = refl

pub held_parts : (us : List Account) (a : Account) (n : ℕ) (is ks : List ℕ) → (n ≡ 0 → ⊥) → (n ≡ 1 → ⊥) → a ≡ of_parts (accounts_at us is) → ks ≡ is → accounts_at us ks ≡ accounts_in n a
held_parts us a n is ks f g e h = ap (accounts_at us) h ∙ sym (many_in n a f g ∙ ap parts_in e)

pub held_there : (us : List Account) (i : ℕ) (is ks : List ℕ) → i < length us → AreSmaller i is → ks ≡ is → AreThere us ks
held_there us i is ks l h e = rw e (smaller_up i (length us) is (omega (arith, l)) h)

pub other_parts : (us : List Account) (a c : Account) (n : ℕ) (ks : List ℕ) → (n ≡ 0 → ⊥) → (n ≡ 1 → ⊥) → a ≡ c → parts_in c ≡ no_accounts → ks ≡ [] → accounts_at us ks ≡ accounts_in n a
other_parts us a c n ks f g e h p = ap (accounts_at us) p ∙ sym (many_in n a f g ∙ ap parts_in e ∙ h)

pub nothing_parts : (us : List Account) (a : Account) (n : ℕ) (ks : List ℕ) → (n ≡ 0 → ⊥) → (n ≡ 1 → ⊥) → a ≡ nothing → ks ≡ [] → accounts_at us ks ≡ accounts_in n a
nothing_parts us a n ks f g e p = other_parts us a nothing n ks f g e refl p

pub place_parts : (us : List Account) (a : Account) (n q : ℕ) (ks : List ℕ) → (n ≡ 0 → ⊥) → (n ≡ 1 → ⊥) → a ≡ at_place q → ks ≡ [] → accounts_at us ks ≡ accounts_in n a
place_parts us a n q ks f g e p = other_parts us a (at_place q) n ks f g e refl p

pub branch_parts : (us : List Account) (a c : Account) (n q : ℕ) (ks : List ℕ) → (n ≡ 0 → ⊥) → (n ≡ 1 → ⊥) → a ≡ of_branch q c → ks ≡ [] → accounts_at us ks ≡ accounts_in n a
branch_parts us a c n q ks f g e p = other_parts us a (of_branch q c) n ks f g e refl p

pub row_parts : (us : List Account) (a : Account) (r : RowAccount) (n : ℕ) (ks : List ℕ) → (n ≡ 0 → ⊥) → (n ≡ 1 → ⊥) → a ≡ of_row r → ks ≡ [] → accounts_at us ks ≡ accounts_in n a
row_parts us a r n ks f g e p = other_parts us a (of_row r) n ks f g e refl p

pub walk_parts : (us : List Account) (a : Account) (v : Visits) (n : ℕ) (ks : List ℕ) → (n ≡ 0 → ⊥) → (n ≡ 1 → ⊥) → a ≡ of_walk v → ks ≡ [] → accounts_at us ks ≡ accounts_in n a
walk_parts us a v n ks f g e p = other_parts us a (of_walk v) n ks f g e refl p

pub ruleset cutting = (stays, front_taken_is, rest_dropped_is, there_taken_is, there_dropped_is, front_filled_is, there_filled_is, rest_over_is, none_there, no_part, one_part, one_there, held_parts, held_there, nothing_parts, place_parts, branch_parts, row_parts, walk_parts)
