-- The ways and accounts of the examples, and the certificate of the message by the laws.
use Rattle.std.specs.Prelude.{ℕ, zero, suc, [], ◌∷◌, ◌≡◌, refl, true, false}
use Rattle.std.proofs.Common.{arith}
use Rattle.std.proofs.lemmas.Bool.Decides.{nat_tests}
use Rattle.msc_base.specs.Lists.{IsIn}
use Rattle.msc_base.specs.Patterns.{empty}
use Rattle.hmsc_graph.specs.Graphs.{Spot, Start, At, behind}
use Rattle.chart_term.specs.TermMeanings.{HasPattern, has_nil, holds_walk, walk_stop, walk_last, walk_step}
use Rattle.chart_term.specs.TermPatterns.{Shape}
use Rattle.chart_term.specs.Terms.{TermEvent, Nil, Walk}
use Rattle.term_laws.specs.Permission.{permits_of}
use Rattle.term_laws.specs.Soundness.{IsTidyOver}
use Rattle.term_laws.specs.Taking.{IsAfter, after_event, after_join, after_tied, after_loop, first_part, in_gap}
use Rattle.certificates.specs.Certificates.{HasEmpty}
use Rattle.certificates.specs.CertificateLaws.{AreUnbegunNets, HasCertificate}
use Rattle.certificates.specs.Examples.{output, input, message, no_nets}
use Rattle.certificates.proofs.Unbegun.{never_stops}
use Rattle.certificate_accounts.specs.Accounts.{nothing, of_parts, of_row, row_over, turns_in_gap}
use Rattle.certificate_accounts.specs.Paths.{Path, path_end, path_step, account_back}
use Rattle.certificate_accounts.specs.Ways.{way_of}
use Rattle.certificate_accounts.specs.AccountLaws.{nodes_over, FindsWays}
use Rattle.certificate_accounts.specs.Examples.{no_ways, repeated, both_places, ExamplesGoBack}
use Rattle.certificate_accounts.proofs.TablesBack.{accounts_go_back}
use Rattle.certificate_accounts.proofs.WalkExample.{walked, walk_account, walk_certified}

no_behind : (n : ℕ) (f : Spot) (m : ℕ) → IsIn m (behind (no_nets.net n) f) → ⊥
no_behind n Start m h = h
no_behind n (At zero) m h = h
no_behind n (At (suc i)) m h = h

finds_none : (ev : ℕ → TermEvent) → FindsWays [] ev no_ways
finds_none ev n f t c h = absurd (no_walk h.pattern h.has)
  where
    no_walk : (s : Shape) → HasPattern no_nets false (Walk n f t c) s → ⊥
    no_walk s (holds_walk (walk_stop h)) = never_stops t h
    no_walk s (holds_walk (walk_last m i a)) = no_behind n f m i
    no_walk s (holds_walk (walk_step m i a av r)) = no_behind n f m i

nets_unbegun : AreUnbegunNets no_nets
nets_unbegun = record { nodes = λ n m. tt; over = λ n m h. refl }

-- the way of the output and then the input
sent : Path (permits_of []) message (output ∷ input ∷ []) Nil
sent = path_step (after_tied (after_join (first_part after_event)) refl) (path_step after_event path_end)

message_account : account_back (permits_of []) (nodes_over [] no_ways) sent 1 nothing ≡ of_parts both_places
unfolding sent
message_account = refl

abbrev events_of_message : ℕ → TermEvent
events_of_message zero = output
events_of_message (suc zero) = output
events_of_message (suc (suc n)) = input

nil_empty : HasEmpty no_nets Nil
nil_empty = record { pattern = empty; has = has_nil; none = tt }

message_tidy : IsTidyOver [] message
message_tidy = ((tt, (tt, tt)), (λ j h. (tt, (tt, tt))), λ j. grind (arith, nat_tests))

message_certified : HasCertificate no_nets message (0 ∷ 1 ∷ [])
message_certified =
    let (t, a, r) = accounts_go_back.way [] events_of_message no_ways message Nil (output ∷ input ∷ []) sent tt message_tidy (finds_none events_of_message) (refl, (refl, tt)) nil_empty in
    accounts_go_back.certificate [] events_of_message message (account_back (permits_of []) (nodes_over [] no_ways) sent 1 nothing) t (output ∷ input ∷ []) nets_unbegun (tt, (tt, tt)) (refl, (refl, tt)) a r

once_more : IsAfter (permits_of []) repeated output repeated
once_more = after_loop true (in_gap refl after_event) tt refl

twice : Path (permits_of []) repeated (output ∷ output ∷ []) repeated
twice = path_step once_more (path_step once_more path_end)

loop_account : account_back (permits_of []) (nodes_over [] no_ways) twice 1 nothing ≡ of_row (turns_in_gap both_places row_over)
unfolding twice once_more
loop_account = refl

loop_way : way_of (permits_of []) once_more ≡ 0 ∷ []
unfolding once_more
loop_way = refl

pub examples_go_back : ExamplesGoBack
examples_go_back = record { sent = sent; sent_account = message_account; certified = message_certified; once = once_more; once_way = loop_way; twice = twice; twice_account = loop_account; walked = walked; walked_account = walk_account; walk_certified = walk_certified }
