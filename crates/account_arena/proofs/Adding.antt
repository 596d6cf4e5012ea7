-- One more node is one more account, and the others stay; the account of a number is that of its node.
use Rattle.std.specs.Prelude.{ℕ, zero, suc, ◌+◌, ◌<◌, List, [], ◌∷◌, ◌++◌, ◌≡◌, slice_get, get_or, length, Some, refl}
use Rattle.std.proofs.Common.{ap, ap₂, sym, ◌∙◌, arith, append_assoc, append-nil}
use Rattle.std.proofs.lemmas.List.{length_push}
use Rattle.std.proofs.lemmas.Option.{slice_get_read}
use Rattle.account_arena.specs.declared.arena.Node.{Node}
use Rattle.account_arena.specs.Arenas.{AreOlder, AreSmaller, AreSmallerVisits, AreThere, Grows, IsOlder, IsRowThere, IsSmallerItem, IsSmallerRow, account_at, account_in, accounts_at, accounts_behind, accounts_of, is_nothing, row_at, visits_at}
use Rattle.account_arena.specs.declared.arena.Node.TheVariants as node
use Rattle.account_arena.specs.declared.numbers.RowItem.{RowItem}
use Rattle.account_arena.specs.declared.numbers.RowItem.TheVariants as item
use Rattle.account_arena.specs.declared.numbers.Visit.{Visit}
use Rattle.certificate_accounts.specs.Accounts.{Account, account_and, begun_turn, of_branch, of_parts, of_row, of_walk, turns_in_gap, visit}

behind_pushed : (us : List Account) (ns : List Node) (n : Node) → accounts_behind us (ns ++ n ∷ []) ≡ accounts_behind us ns ++ account_in (accounts_behind us ns) n ∷ []
behind_pushed us [] n = refl
behind_pushed us (m ∷ ns) n = behind_pushed (us ++ account_in us m ∷ []) ns n

behind_length : (us : List Account) (ns : List Node) → length (accounts_behind us ns) ≡ length us + length ns
behind_length us [] = omega arith
behind_length us (n ∷ ns) = omega (arith, behind_length (us ++ account_in us n ∷ []) ns, length_push us (account_in us n))

pub pushed : (old new : List Node) (n : Node) → new ≡ old ++ n ∷ [] → accounts_of new ≡ accounts_of old ++ account_in (accounts_of old) n ∷ []
pushed old new n e = ap accounts_of e ∙ behind_pushed [] old n

pub counted : (ns : List Node) → length (accounts_of ns) ≡ length ns
counted ns = omega (arith, behind_length [] ns)

pub at_end : (us : List Account) (a : Account) → account_at (us ++ a ∷ []) (length us) ≡ a
at_end [] a = refl
at_end (u ∷ us) a = at_end us a

pub stays_at : (us vs : List Account) (i : ℕ) → i < length us → account_at (us ++ vs) i ≡ account_at us i
stays_at [] vs i h = absurd (omega arith)
stays_at (u ∷ us) vs zero h = refl
stays_at (u ∷ us) vs (suc i) h = stays_at us vs i (omega (arith, h))

older_pushed : (k : ℕ) (ns : List Node) (n : Node) → AreOlder k ns → IsOlder (k + length ns) n → AreOlder k (ns ++ n ∷ [])
older_pushed k [] n h g = let e : k + 0 ≡ k = omega arith in (rw e at g, tt)
older_pushed k (m ∷ ns) n h g = let e : k + suc (length ns) ≡ k + 1 + length ns = omega arith in (h.0, older_pushed (k + 1) ns n h.1 (rw e at g))

pub stays_older : (old new : List Node) (n : Node) → new ≡ old ++ n ∷ [] → AreOlder 0 old → IsOlder (length (accounts_of old)) n → AreOlder 0 new
stays_older old new n e h g = let c : length (accounts_of old) ≡ 0 + length old = counted old ∙ omega arith in rw e (older_pushed 0 old n h (rw c at g))

-- smaller numbers say the same in a longer list
pub accounts_keep : (us vs : List Account) (is : List ℕ) → AreThere us is → accounts_at (us ++ vs) is ≡ accounts_at us is
accounts_keep us vs [] h = refl
accounts_keep us vs (i ∷ is) h = ap₂ (λ a c. account_and a c) (stays_at us vs i h.0) (accounts_keep us vs is h.1)

pub row_keeps : (us vs : List Account) (rs : List RowItem) → IsRowThere us rs → row_at (us ++ vs) rs ≡ row_at us rs
row_keeps us vs [] h = refl
row_keeps us vs (item.Gap is ∷ rs) h = ap₂ (λ a b. turns_in_gap a b) (accounts_keep us vs is h.0) (row_keeps us vs rs h.1)
row_keeps us vs (item.Turn i ∷ rs) h = ap₂ (λ a b. begun_turn a b) (stays_at us vs i h.0) (row_keeps us vs rs h.1)

visits_keep : (us vs : List Account) (ws : List Visit) (m : ℕ) → AreSmallerVisits (length us) ws → visits_at (us ++ vs) ws m ≡ visits_at us ws m
visits_keep us vs [] m h = refl
visits_keep us vs (w ∷ ws) m h = ap₂ (λ a b. visit w.node a b) (stays_at us vs w.account h.0) (visits_keep us vs ws m h.1)

node_keeps : (us vs : List Account) (n : Node) → IsOlder (length us) n → account_in (us ++ vs) n ≡ account_in us n
node_keeps us vs node.Nothing h = refl
node_keeps us vs (node.AtPlace p) h = refl
node_keeps us vs (node.OfParts is) h = ap of_parts (accounts_keep us vs is h)
node_keeps us vs (node.OfBranch i j) h = ap (of_branch i) (stays_at us vs j h)
node_keeps us vs (node.OfRow rs) h = ap of_row (row_keeps us vs rs h)
node_keeps us vs (node.OfWalk ws m) h = ap of_walk (visits_keep us vs ws m h)

behind_keeps : (us : List Account) (ns : List Node) → (rest : List Account) × (accounts_behind us ns ≡ us ++ rest)
behind_keeps us [] = ([], sym (append-nil us))
behind_keeps us (n ∷ ns) = let (r, e) = behind_keeps (us ++ account_in us n ∷ []) ns in (account_in us n ∷ r, e ∙ append_assoc us (account_in us n ∷ []) r)

at_first : (us rest : List Account) (a : Account) → account_at (us ++ a ∷ rest) (length us) ≡ a
at_first [] rest a = refl
at_first (u ∷ us) rest a = at_first us rest a

node_at : (us : List Account) (ns : List Node) (i : ℕ) (n : Node) → AreOlder (length us) ns → slice_get ns i ≡ Some n → (account_at (accounts_behind us ns) (length us + i) ≡ account_in (accounts_behind us ns) n) × IsOlder (length us + i) n
node_at us [] i n h e = cc
node_at us (m ∷ ns) zero n h e =
    let p : m ≡ n = cc in
    let (r, q) = behind_keeps (us ++ account_in us m ∷ []) ns in
    let k : accounts_behind (us ++ account_in us m ∷ []) ns ≡ us ++ (account_in us m ∷ r) = q ∙ append_assoc us (account_in us m ∷ []) r in
    let z : length us + 0 ≡ length us = omega arith in
    (ap₂ (λ l j. account_at l j) k z ∙ at_first us r (account_in us m) ∙ sym (ap (λ l. account_in l m) k ∙ node_keeps us (account_in us m ∷ r) m h.0) ∙ ap (account_in (accounts_behind (us ++ account_in us m ∷ []) ns)) p, older_as (length us) (length us + 0) m n (sym z) p h.0)
  where
    older_as : (a b : ℕ) (m n : Node) → a ≡ b → m ≡ n → IsOlder a m → IsOlder b n
    older_as a b m n p q h = rw (p, q) at h
node_at us (m ∷ ns) (suc i) n h e =
    let vs = us ++ account_in us m ∷ [] in
    let c : length vs ≡ length us + 1 = length_push us (account_in us m) in
    let g = node_at vs ns i n (rw (← c) at h.1) e in
    let z : length vs + i ≡ length us + suc i = omega (arith, c) in
    (ap (account_at (accounts_behind vs ns)) (sym z) ∙ g.0, rw z at g.1)

pub node_of : (ns : List Node) (i : ℕ) (n : Node) → AreOlder 0 ns → slice_get ns i ≡ Some n → account_at (accounts_of ns) i ≡ account_in (accounts_of ns) n
node_of ns i n h e = let z : 0 + i ≡ i = omega arith in ap (account_at (accounts_of ns)) (sym z) ∙ (node_at [] ns i n h e).0

pub node_older : (ns : List Node) (i : ℕ) (n : Node) → AreOlder 0 ns → slice_get ns i ≡ Some n → IsOlder i n
node_older ns i n h e = let z : 0 + i ≡ i = omega arith in rw z at (node_at [] ns i n h e).1

pub looked : (us : List Account) (ns : List Node) (i : ℕ) (n : Node) → accounts_of ns ≡ us → AreOlder 0 ns → i < length us → n ≡ get_or ns i n → (account_at us i ≡ account_in us n) × IsOlder i n
looked us ns i n e h l g =
    let c = counted ns in
    let d = ap length e in
    let f : slice_get ns i ≡ Some n = slice_get_read ns (length ns) i n refl (omega (arith, l, c, d)) g in
    (sym (ap (λ (vs : List Account). account_at vs i) e) ∙ node_of ns i n h f ∙ ap (λ (vs : List Account). account_in vs n) e, node_older ns i n h f)

pub within : (ns : List Node) (i : ℕ) → i < length (accounts_of ns) → i < length ns
within ns i h = let c = counted ns in omega (arith, h, c)

pub ruleset looking = (node_of, node_older, within, counted)

pub ruleset adding = (pushed, counted, at_end, stays_at, stays_older)

pub tested : (a c : Account) → a ≡ c → is_nothing a ≡ is_nothing c
tested a c e = ap is_nothing e

pub ruleset testing = (tested)
