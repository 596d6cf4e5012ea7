-- Weights of sets of residual terms, worked by computation.
use Rattle.std.specs.Prelude.{ℕ, zero, suc, ◌+◌, List, [], ◌∷◌, ◌≡◌, None, refl, ◌≤◌}
use Rattle.msc_base.specs.Patterns.{seq, par}
use Rattle.chart_term.specs.Terms.{Tree, Event, Join, Choice, Tied, Loop, Trees, none, more, gap, ends}
use Rattle.term_laws.specs.Listing.{residual_set, set_weight, AreDeepAlong, IsResidualSet, IsDeepEnough}
use Rattle.term_laws.specs.Permission.{permits_of}
use Rattle.term_laws.proofs.SetExact.{deep_at, residual_set_is_exact}
use Rattle.term_laws.proofs.TermSentences.{net_rank}
use Rattle.term_laws.proofs.Ranking.{rank}
use Rattle.std.proofs.Common.{arith}

abbrev event : ℕ → ℕ → ℕ → Tree
event n i a = Event (record { number = n; at = i; also = None; label = a })

abbrev pub weigh : Tree → List ℕ → ℕ
weigh x l = set_weight (residual_set 40 (permits_of []) (x ∷ []) l)

-- a message from one instance to another: 5, then 1, then 1
abbrev message : Tree
message = Tied (Join seq (more (event 1 0 0) (more (event 2 1 1) none))) ((1, 2) ∷ [])

message_at_first : weigh message [] ≡ 5
message_at_first = refl

message_sent : weigh message (0 ∷ []) ≡ 1
message_sent = refl

message_received : weigh message (0 ∷ 1 ∷ []) ≡ 1
message_received = refl

-- a coregion of three actions, two of them alike, one before the third: 6, then two terms that weigh 5 and 3, then 1, then 1
abbrev coregion : Tree
coregion = Tied (Join par (more (event 1 0 0) (more (event 2 0 0) (more (event 3 0 1) none)))) ((2, 3) ∷ [])

coregion_at_first : weigh coregion [] ≡ 6
coregion_at_first = refl

coregion_one : weigh coregion (0 ∷ []) ≡ 8
coregion_one = refl

coregion_two : weigh coregion (0 ∷ 1 ∷ []) ≡ 1
coregion_two = refl

coregion_three : weigh coregion (0 ∷ 1 ∷ 0 ∷ []) ≡ 1
coregion_three = refl

-- a loop of a request and one of two answers: 18, and in each turn 31, 29, 19 and 18
abbrev answer : ℕ → Tree
answer n = Tied (Join seq (more (event n 1 n) (more (event (n + 1) 0 (n + 1)) none))) ((n, n + 1) ∷ [])

abbrev requests : Tree
requests = Loop (Tied (Join seq (more (event 1 0 1) (more (event 2 1 2) (more (Choice (more (answer 3) (more (answer 5) none))) none)))) ((1, 2) ∷ [])) 1 None (gap [] ends)

requests_at_first : weigh requests [] ≡ 18
requests_at_first = refl

request_sent : weigh requests (1 ∷ []) ≡ 31
request_sent = refl

request_received : weigh requests (1 ∷ 2 ∷ []) ≡ 29
request_received = refl

answer_sent : weigh requests (1 ∷ 2 ∷ 3 ∷ []) ≡ 19
answer_sent = refl

answer_received : weigh requests (1 ∷ 2 ∷ 3 ∷ 4 ∷ []) ≡ 18
answer_received = refl

second_request : weigh requests (1 ∷ 2 ∷ 3 ∷ 4 ∷ 1 ∷ []) ≡ 31
second_request = refl

-- a coregion of twenty equal actions: 21, and then as many terms of 20 as there are actions; the fourth weight is in CoregionWeights
abbrev pub alike : ℕ → ℕ → Trees
alike n zero = none
alike n (suc m) = more (event n 0 0) (alike (n + 1) m)

twenty_at_first : weigh (Join par (alike 1 20)) [] ≡ 21
twenty_at_first = refl

twenty_one : weigh (Join par (alike 1 20)) (0 ∷ []) ≡ 400
twenty_one = refl

-- of eight: 9, 64, 196 and 336
eight_one : weigh (Join par (alike 1 8)) (0 ∷ []) ≡ 64
eight_one = refl

eight_two : weigh (Join par (alike 1 8)) (0 ∷ 0 ∷ []) ≡ 196
eight_two = refl

twenty_two : weigh (Join par (alike 1 20)) (0 ∷ 0 ∷ []) ≡ 3610
twenty_two = refl

eight_three : weigh (Join par (alike 1 8)) (0 ∷ 0 ∷ 0 ∷ []) ≡ 336
eight_three = refl

-- the sets that were weighed are the sets of residual terms
abbrev deep : (x : Tree) → rank (net_rank []) x ≤ 40 → IsDeepEnough [] x 40
deep x l = deep_at [] tt 40 x l

message_sets : AreDeepAlong [] 40 (message ∷ []) (0 ∷ 1 ∷ [])
message_sets = ((deep message (omega arith), tt), ((deep (event 2 1 1) (omega arith), tt), tt))

message_set : IsResidualSet [] message (0 ∷ 1 ∷ []) (residual_set 40 (permits_of []) (message ∷ []) (0 ∷ 1 ∷ []))
message_set = residual_set_is_exact.set [] 40 message (0 ∷ 1 ∷ []) message_sets

request_sets : AreDeepAlong [] 40 (requests ∷ []) (1 ∷ 2 ∷ 3 ∷ 4 ∷ [])
request_sets = ((deep _ (omega arith), tt), ((deep _ (omega arith), tt), ((deep _ (omega arith), tt), ((deep _ (omega arith), tt), tt))))

request_set : IsResidualSet [] requests (1 ∷ 2 ∷ 3 ∷ 4 ∷ []) (residual_set 40 (permits_of []) (requests ∷ []) (1 ∷ 2 ∷ 3 ∷ 4 ∷ []))
request_set = residual_set_is_exact.set [] 40 requests (1 ∷ 2 ∷ 3 ∷ 4 ∷ []) request_sets
