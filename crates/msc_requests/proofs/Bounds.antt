-- The numbers of a request are those that may be asked for.
use Rattle.std.proofs.Common.{◌≡◌, ◌≤◌, ℕ, Bool, true, false, if◌then◌else◌, nat_le, List, [], ◌∷◌, codes, Option, Some, None, arith, refl, subst}
use Rattle.std.specs.List.{list_all}
use Rattle.std.specs.Str.{is_utf8, bytes_eq}
use Rattle.std.specs.Str.Parse.{digits_value}
use Rattle.std.proofs.lemmas.Bool.{and_parts}
use Rattle.std.proofs.lemmas.Bool.Decides.{nat_tests}
use Rattle.clap.specs.Words.{App, Kinds, Row, fault_of, first_of, matches_of}
use Rattle.msc_base.specs.declared.limits.TheConstants.Limits.{BUDGET_MOST}
use Rattle.event_log.specs.declared.event.LogForm.{LogForm}
use Rattle.msc_requests.specs.declared.request.Request.{Request}
use Rattle.msc_requests.specs.declared.request.Request.TheVariants.{Judge, Next, Sessions, Choices, Check, Print, Sample}
use Rattle.msc_requests.specs.declared.request.Request.TheVariants as requests
use Rattle.msc_requests.specs.declared.request.TheConstants.{MOST_SEED, MOST_TURNS, SESSION_BUDGET_MOST}
use Rattle.msc_requests.specs.Requests.{IsBounded, ◌>>=◌, budget_from, check_app, check_from, check_in, choices_app, choices_from, choices_in, choices_request, command_request, check_request, form_of, is_between, is_number, is_true, judge_app, judge_request, list_app, list_from, list_in, list_request, next_app, next_from, next_in, next_request, number_in, print_app, print_from, print_in, print_request, request_by, request_from, request_in, request_of, sample_app, sample_from, sample_in, sample_request, seed_in, turns_in, unless_fault, session_budget_from, sessions_app, sessions_from, sessions_in, sessions_request}

-- each request that may be there is bounded
abbrev AllHave : Option Request → Type 0
AllHave o = (r : Request) → o ≡ Some r → IsBounded r

none_has : AllHave None
none_has r e = cc

one_has : (q : Request) → IsBounded q → AllHave (Some q)
one_has q h r e = let same : q ≡ r = cc in subst IsBounded same h

unless_has : (kinds : Kinds) (o : Option Request) → AllHave o → AllHave (unless_fault kinds o)
unless_has [] o h = h
unless_has (kind ∷ kinds) o h = none_has

if_has : (b : Bool) (x y : Option Request) → AllHave x → AllHave y → AllHave (if b then x else y)
if_has true x y hx hy = hx
if_has false x y hx hy = hy

within : (least most n : ℕ) → is_between least most n ≡ true → (least ≤ n) × (n ≤ most)
within least most n e = let parts = and_parts (nat_le least n) (nat_le n most) e in (grind (arith, nat_tests), grind (arith, nat_tests))

text_has : (least most : ℕ) (a b : Bool) (v n : ℕ) → is_between least most v ≡ b → (if a then (if b then Some v else None) else None) ≡ Some n → (least ≤ n) × (n ≤ most)
text_has least most true true v n is e = let same : v ≡ n = cc in subst (λ (m : ℕ). (least ≤ m) × (m ≤ most)) same (within least most v is)
text_has least most true false v n is e = cc
text_has least most false b v n is e = cc

number_has : (digits least most : ℕ) (text : List ℕ) (n : ℕ) → number_in digits least most text ≡ Some n → (least ≤ n) × (n ≤ most)
number_has digits least most text n e = text_has least most (is_number digits text) (is_between least most (digits_value 10 text)) (digits_value 10 text) n refl e

budget_has : (text : Option (List ℕ)) (n : ℕ) → budget_from text ≡ Some n → (1 ≤ n) × (n ≤ BUDGET_MOST)
budget_has None n e = let same : 1000000 ≡ n = cc in (omega (arith, same), omega (arith, same))
budget_has (Some text) n e = number_has 7 1 BUDGET_MOST text n e

judge_has : (d c l : List ℕ) (j : Bool) (f : LogForm) (o : Option ℕ) → ((n : ℕ) → o ≡ Some n → (1 ≤ n) × (n ≤ BUDGET_MOST)) → AllHave (o >>= (λ n. Some (Judge d c l n j f)))
judge_has d c l j f None h = none_has
judge_has d c l j f (Some n) h = one_has (Judge d c l n j f) (h n refl)

from_has : (d c l b j k : Option (List ℕ)) → AllHave (request_from d c l b j k)
from_has None c l b j k = none_has
from_has (Some d) None l b j k = none_has
from_has (Some d) (Some c) None b j k = none_has
from_has (Some d) (Some c) (Some l) b j k = judge_has d c l (is_true j) (form_of (is_true k)) (budget_from b) (λ n e. budget_has b n e)

next_has : (d c l : List ℕ) (o : Option ℕ) → ((n : ℕ) → o ≡ Some n → (1 ≤ n) × (n ≤ BUDGET_MOST)) → AllHave (o >>= (λ n. Some (Next d c l n)))
next_has d c l None h = none_has
next_has d c l (Some n) h = one_has (Next d c l n) (h n refl)

next_from_has : (d c l b : Option (List ℕ)) → AllHave (next_from d c l b)
next_from_has None c l b = none_has
next_from_has (Some d) None l b = none_has
next_from_has (Some d) (Some c) None b = none_has
next_from_has (Some d) (Some c) (Some l) b = next_has d c l (budget_from b) (λ n e. budget_has b n e)

session_budget_has : (text : Option (List ℕ)) (n : ℕ) → session_budget_from text ≡ Some n → (1 ≤ n) × (n ≤ SESSION_BUDGET_MOST)
session_budget_has None n e = let same : 10000 ≡ n = cc in (omega (arith, same), omega (arith, same))
session_budget_has (Some text) n e = number_has 7 1 SESSION_BUDGET_MOST text n e

sessions_has : (d c l : List ℕ) (f : LogForm) (o : Option ℕ) → ((n : ℕ) → o ≡ Some n → (1 ≤ n) × (n ≤ SESSION_BUDGET_MOST)) → AllHave (o >>= (λ n. Some (Sessions d c l n f)))
sessions_has d c l f None h = none_has
sessions_has d c l f (Some n) h = one_has (Sessions d c l n f) (h n refl)

sessions_from_has : (d c l b k : Option (List ℕ)) → AllHave (sessions_from d c l b k)
sessions_from_has None c l b k = none_has
sessions_from_has (Some d) None l b k = none_has
sessions_from_has (Some d) (Some c) None b k = none_has
sessions_from_has (Some d) (Some c) (Some l) b k = sessions_has d c l (form_of (is_true k)) (session_budget_from b) (λ n e. session_budget_has b n e)

choices_has : (d c : Option (List ℕ)) → AllHave (choices_from d c)
choices_has None c = none_has
choices_has (Some d) None = none_has
choices_has (Some d) (Some c) = one_has (Choices d c) tt

check_has : (d j : Option (List ℕ)) → AllHave (check_from d j)
check_has None j = none_has
check_has (Some d) j = one_has (Check d (is_true j)) tt

list_has : (d c j : Option (List ℕ)) → AllHave (list_from d c j)
list_has None c j = none_has
list_has (Some d) c j = one_has (requests.List d c (is_true j)) tt

print_has : (d : Option (List ℕ)) → AllHave (print_from d)
print_has None = none_has
print_has (Some d) = one_has (Print d) tt

sample_has : (turns seed : Option ℕ) → ((n : ℕ) → turns ≡ Some n → (1 ≤ n) × (n ≤ MOST_TURNS)) → ((x : ℕ) → seed ≡ Some x → x ≤ MOST_SEED) → AllHave (turns >>= (λ n. seed >>= (λ x. Some (Sample n x))))
sample_has None seed h k = none_has
sample_has (Some n) None h k = none_has
sample_has (Some n) (Some x) h k = let t = h n refl in one_has (Sample n x) (t.0, t.1, k x refl)

sampled_has : (t s : Option (List ℕ)) → AllHave (sample_from t s)
sampled_has None s = none_has
sampled_has (Some t) None = none_has
sampled_has (Some t) (Some s) = sample_has (turns_in t) (seed_in s) (λ n e. number_has 10 1 MOST_TURNS t n e) (λ x e. (number_has 10 0 MOST_SEED s x e).1)

by_has : (app : App) (asked : List Row → Option Request) (words : List (List ℕ)) → ((rows : List Row) → AllHave (asked rows)) → AllHave (request_by app asked words)
by_has app asked words h = unless_has (fault_of app words) (asked (matches_of app words)) (h (matches_of app words))

command_has : (command : List ℕ) (words : List (List ℕ)) → AllHave (command_request command words)
command_has command words =
    if_has (bytes_eq command (codes "judge")) (judge_request words) _
    (by_has judge_app request_in words (λ rows. from_has (first_of (codes "document") rows) (first_of (codes "chart") rows) (first_of (codes "log") rows) (first_of (codes "budget") rows) (first_of (codes "json") rows) (first_of (codes "log-json") rows)))
    (if_has (bytes_eq command (codes "check")) (check_request words) _ (by_has check_app check_in words (λ rows. check_has (first_of (codes "document") rows) (first_of (codes "json") rows)))
    (if_has (bytes_eq command (codes "list")) (list_request words) _ (by_has list_app list_in words (λ rows. list_has (first_of (codes "document") rows) (first_of (codes "chart") rows) (first_of (codes "json") rows)))
    (if_has (bytes_eq command (codes "print")) (print_request words) _ (by_has print_app print_in words (λ rows. print_has (first_of (codes "document") rows)))
    (if_has (bytes_eq command (codes "sample")) (sample_request words) _ (by_has sample_app sample_in words (λ rows. sampled_has (first_of (codes "turns") rows) (first_of (codes "seed") rows)))
    (if_has (bytes_eq command (codes "next")) (next_request words) _
    (by_has next_app next_in words (λ rows. next_from_has (first_of (codes "document") rows) (first_of (codes "chart") rows) (first_of (codes "log") rows) (first_of (codes "budget") rows)))
    (if_has (bytes_eq command (codes "sessions")) (sessions_request words) _
    (by_has sessions_app sessions_in words (λ rows. sessions_from_has (first_of (codes "document") rows) (first_of (codes "chart") rows) (first_of (codes "log") rows) (first_of (codes "budget") rows) (first_of (codes "log-json") rows)))
    (if_has (bytes_eq command (codes "choices")) (choices_request words) None
    (by_has choices_app choices_in words (λ rows. choices_has (first_of (codes "document") rows) (first_of (codes "chart") rows))) none_has)))))))

pub is_bounded : (words : List (List ℕ)) (request : Request) → request_of words ≡ Some request → IsBounded request
is_bounded [] request e = none_has request e
is_bounded (command ∷ words) request e = if_has (list_all is_utf8 words) (command_request command words) None (command_has command words) none_has request e
