-- Worked words.
use Rattle.std.proofs.Common.{◌≡◌, refl, codes, true, false, [], ◌∷◌, Some, None}
use Rattle.std.specs.Str.{is_utf8}
use Rattle.clap.proofs.OnLiterals.{clap_on_literals}
use Rattle.event_log.specs.declared.event.LogForm.TheVariants.{Lines, Json}
use Rattle.msc_requests.specs.declared.request.Request.TheVariants.{Judge, Next, Sessions, Choices, Check, List, Print, Sample}
use Rattle.msc_requests.specs.Requests.{request_of}

-- three words
plain : request_of (codes "judge" ∷ codes "d" ∷ codes "A" ∷ codes "l" ∷ []) ≡ Some (Judge (codes "d") (codes "A") (codes "l") 1000000 false Lines)
unfolding clap_on_literals is_utf8
plain = refl

json : request_of (codes "judge" ∷ codes "d" ∷ codes "A" ∷ codes "l" ∷ codes "--json" ∷ []) ≡ Some (Judge (codes "d") (codes "A") (codes "l") 1000000 true Lines)
unfolding clap_on_literals is_utf8
json = refl

json_log : request_of (codes "judge" ∷ codes "d" ∷ codes "A" ∷ codes "l" ∷ codes "--log-json" ∷ []) ≡ Some (Judge (codes "d") (codes "A") (codes "l") 1000000 false Json)
unfolding clap_on_literals is_utf8
json_log = refl

-- options stand anywhere, in any order
options_between : request_of (codes "judge" ∷ codes "--log-json" ∷ codes "d" ∷ codes "--json" ∷ codes "A" ∷ codes "l" ∷ []) ≡ Some (Judge (codes "d") (codes "A") (codes "l") 1000000 true Json)
unfolding clap_on_literals is_utf8
options_between = refl

-- `--` ends the options, and is no word itself
behind_dashes : request_of (codes "judge" ∷ codes "--" ∷ codes "d" ∷ codes "--json" ∷ codes "-" ∷ []) ≡ Some (Judge (codes "d") (codes "--json") (codes "-") 1000000 false Lines)
unfolding clap_on_literals is_utf8
behind_dashes = refl

-- behind `--` a second one is a word
second_dashes : request_of (codes "judge" ∷ codes "--json" ∷ codes "--" ∷ codes "--" ∷ codes "A" ∷ codes "l" ∷ []) ≡ Some (Judge (codes "--") (codes "A") (codes "l") 1000000 true Lines)
unfolding clap_on_literals is_utf8
second_dashes = refl

-- `-` and the empty word are words
dash_and_empty : request_of (codes "judge" ∷ codes "-" ∷ [] ∷ codes "l" ∷ []) ≡ Some (Judge (codes "-") [] (codes "l") 1000000 false Lines)
unfolding clap_on_literals is_utf8
dash_and_empty = refl

help_is_a_name : request_of (codes "judge" ∷ codes "help" ∷ codes "A" ∷ codes "l" ∷ []) ≡ Some (Judge (codes "help") (codes "A") (codes "l") 1000000 false Lines)
unfolding clap_on_literals is_utf8
help_is_a_name = refl

-- an option stands once
repeated : request_of (codes "judge" ∷ codes "d" ∷ codes "A" ∷ codes "l" ∷ codes "--json" ∷ codes "--json" ∷ []) ≡ None
unfolding clap_on_literals is_utf8
repeated = refl

repeated_log : request_of (codes "judge" ∷ codes "--log-json" ∷ codes "d" ∷ codes "A" ∷ codes "l" ∷ codes "--log-json" ∷ []) ≡ None
unfolding clap_on_literals is_utf8
repeated_log = refl

-- there is no help
no_help : request_of (codes "judge" ∷ codes "--help" ∷ codes "d" ∷ codes "A" ∷ codes "l" ∷ []) ≡ None
unfolding clap_on_literals is_utf8
no_help = refl

no_short_help : request_of (codes "judge" ∷ codes "-h" ∷ codes "d" ∷ codes "A" ∷ codes "l" ∷ []) ≡ None
unfolding clap_on_literals is_utf8
no_short_help = refl

-- an option is written out
abbreviated : request_of (codes "judge" ∷ codes "d" ∷ codes "A" ∷ codes "l" ∷ codes "--js" ∷ []) ≡ None
unfolding clap_on_literals is_utf8
abbreviated = refl

abbreviated_log : request_of (codes "judge" ∷ codes "d" ∷ codes "A" ∷ codes "l" ∷ codes "--log" ∷ []) ≡ None
unfolding clap_on_literals is_utf8
abbreviated_log = refl

-- it takes no value
empty_value : request_of (codes "judge" ∷ codes "d" ∷ codes "A" ∷ codes "l" ∷ codes "--json=" ∷ []) ≡ None
unfolding clap_on_literals is_utf8
empty_value = refl

value : request_of (codes "judge" ∷ codes "d" ∷ codes "A" ∷ codes "l" ∷ codes "--json=true" ∷ []) ≡ None
unfolding clap_on_literals is_utf8
value = refl

-- there are no others
unknown : request_of (codes "judge" ∷ codes "d" ∷ codes "A" ∷ codes "l" ∷ codes "--weight" ∷ codes "5" ∷ []) ≡ None
unfolding clap_on_literals is_utf8
unknown = refl

-- a budget is a number of one to seven digits, from 1 to 4,000,000
budget : request_of (codes "judge" ∷ codes "d" ∷ codes "A" ∷ codes "l" ∷ codes "--budget" ∷ codes "5" ∷ []) ≡ Some (Judge (codes "d") (codes "A") (codes "l") 5 false Lines)
unfolding clap_on_literals is_utf8
budget = refl

budget_joined : request_of (codes "judge" ∷ codes "--budget=0000007" ∷ codes "d" ∷ codes "A" ∷ codes "l" ∷ []) ≡ Some (Judge (codes "d") (codes "A") (codes "l") 7 false Lines)
unfolding clap_on_literals is_utf8
budget_joined = refl

greatest_budget : request_of (codes "judge" ∷ codes "d" ∷ codes "--budget" ∷ codes "4000000" ∷ codes "A" ∷ codes "l" ∷ []) ≡ Some (Judge (codes "d") (codes "A") (codes "l") 4000000 false Lines)
unfolding clap_on_literals is_utf8
greatest_budget = refl

no_budget : request_of (codes "judge" ∷ codes "d" ∷ codes "A" ∷ codes "l" ∷ codes "--budget" ∷ codes "0" ∷ []) ≡ None
unfolding clap_on_literals is_utf8
no_budget = refl

large_budget : request_of (codes "judge" ∷ codes "d" ∷ codes "A" ∷ codes "l" ∷ codes "--budget" ∷ codes "4000001" ∷ []) ≡ None
unfolding clap_on_literals is_utf8
large_budget = refl

long_budget : request_of (codes "judge" ∷ codes "d" ∷ codes "A" ∷ codes "l" ∷ codes "--budget" ∷ codes "00000005" ∷ []) ≡ None
unfolding clap_on_literals is_utf8
long_budget = refl

signed_budget : request_of (codes "judge" ∷ codes "d" ∷ codes "A" ∷ codes "l" ∷ codes "--budget" ∷ codes "+5" ∷ []) ≡ None
unfolding clap_on_literals is_utf8
signed_budget = refl

valueless_budget : request_of (codes "judge" ∷ codes "d" ∷ codes "A" ∷ codes "l" ∷ codes "--budget" ∷ []) ≡ None
unfolding clap_on_literals is_utf8
valueless_budget = refl

repeated_budget : request_of (codes "judge" ∷ codes "d" ∷ codes "A" ∷ codes "l" ∷ codes "--budget" ∷ codes "5" ∷ codes "--budget" ∷ codes "5" ∷ []) ≡ None
unfolding clap_on_literals is_utf8
repeated_budget = refl

check_budget : request_of (codes "check" ∷ codes "d" ∷ codes "--budget" ∷ codes "5" ∷ []) ≡ None
unfolding clap_on_literals is_utf8
check_budget = refl

number : request_of (codes "judge" ∷ codes "d" ∷ codes "A" ∷ codes "-5" ∷ []) ≡ None
unfolding clap_on_literals is_utf8
number = refl

-- three words behind the command, no fewer and no more
too_few : request_of (codes "judge" ∷ codes "d" ∷ codes "A" ∷ []) ≡ None
unfolding clap_on_literals is_utf8
too_few = refl

too_many : request_of (codes "judge" ∷ codes "d" ∷ codes "A" ∷ codes "l" ∷ codes "x" ∷ []) ≡ None
unfolding clap_on_literals is_utf8
too_many = refl

none : request_of (codes "judge" ∷ []) ≡ None
unfolding clap_on_literals is_utf8
none = refl

-- without words there is no command
no_words : request_of ([]) ≡ None
unfolding clap_on_literals is_utf8
no_words = refl

other_command : request_of (codes "samples" ∷ codes "2" ∷ codes "7" ∷ []) ≡ None
unfolding clap_on_literals is_utf8
other_command = refl

-- the command is spelled exactly
capital : request_of (codes "Judge" ∷ codes "d" ∷ codes "A" ∷ codes "l" ∷ []) ≡ None
unfolding clap_on_literals is_utf8
capital = refl

-- a word that is no UTF-8
no_text : request_of (codes "judge" ∷ codes "d" ∷ codes "A" ∷ (255 ∷ []) ∷ []) ≡ None
unfolding clap_on_literals is_utf8
no_text = refl

-- ---- check

check : request_of (codes "check" ∷ codes "d" ∷ []) ≡ Some (Check (codes "d") false)
unfolding clap_on_literals is_utf8
check = refl

check_json : request_of (codes "check" ∷ codes "--json" ∷ codes "d" ∷ []) ≡ Some (Check (codes "d") true)
unfolding clap_on_literals is_utf8
check_json = refl

check_nothing : request_of (codes "check" ∷ codes "--json" ∷ []) ≡ None
unfolding clap_on_literals is_utf8
check_nothing = refl

check_two : request_of (codes "check" ∷ codes "d" ∷ codes "A" ∷ []) ≡ None
unfolding clap_on_literals is_utf8
check_two = refl

-- it has no other options
check_log_json : request_of (codes "check" ∷ codes "d" ∷ codes "--log-json" ∷ []) ≡ None
unfolding clap_on_literals is_utf8
check_log_json = refl

check_json_twice : request_of (codes "check" ∷ codes "--json" ∷ codes "d" ∷ codes "--json" ∷ []) ≡ None
unfolding clap_on_literals is_utf8
check_json_twice = refl

-- ---- list

list : request_of (codes "list" ∷ codes "d" ∷ []) ≡ Some (List (codes "d") None false)
unfolding clap_on_literals is_utf8
list = refl

list_chart : request_of (codes "list" ∷ codes "d" ∷ codes "A" ∷ []) ≡ Some (List (codes "d") (Some (codes "A")) false)
unfolding clap_on_literals is_utf8
list_chart = refl

list_json : request_of (codes "list" ∷ codes "d" ∷ codes "--json" ∷ codes "A" ∷ []) ≡ Some (List (codes "d") (Some (codes "A")) true)
unfolding clap_on_literals is_utf8
list_json = refl

list_behind_dashes : request_of (codes "list" ∷ codes "--json" ∷ codes "--" ∷ codes "d" ∷ codes "--json" ∷ []) ≡ Some (List (codes "d") (Some (codes "--json")) true)
unfolding clap_on_literals is_utf8
list_behind_dashes = refl

-- the empty word is the name of a chart that there isn't
list_empty : request_of (codes "list" ∷ codes "d" ∷ [] ∷ []) ≡ Some (List (codes "d") (Some []) false)
unfolding clap_on_literals is_utf8
list_empty = refl

list_nothing : request_of (codes "list" ∷ []) ≡ None
unfolding clap_on_literals is_utf8
list_nothing = refl

list_three : request_of (codes "list" ∷ codes "d" ∷ codes "A" ∷ codes "B" ∷ []) ≡ None
unfolding clap_on_literals is_utf8
list_three = refl

list_log_json : request_of (codes "list" ∷ codes "d" ∷ codes "--log-json" ∷ []) ≡ None
unfolding clap_on_literals is_utf8
list_log_json = refl

-- ---- print

print : request_of (codes "print" ∷ codes "d" ∷ []) ≡ Some (Print (codes "d"))
unfolding clap_on_literals is_utf8
print = refl

print_behind_dashes : request_of (codes "print" ∷ codes "--" ∷ codes "--json" ∷ []) ≡ Some (Print (codes "--json"))
unfolding clap_on_literals is_utf8
print_behind_dashes = refl

print_nothing : request_of (codes "print" ∷ []) ≡ None
unfolding clap_on_literals is_utf8
print_nothing = refl

print_two : request_of (codes "print" ∷ codes "d" ∷ codes "A" ∷ []) ≡ None
unfolding clap_on_literals is_utf8
print_two = refl

-- it has no options
print_json : request_of (codes "print" ∷ codes "d" ∷ codes "--json" ∷ []) ≡ None
unfolding clap_on_literals is_utf8
print_json = refl

longer_command : request_of (codes "prints" ∷ codes "d" ∷ []) ≡ None
unfolding clap_on_literals is_utf8
longer_command = refl

-- ---- sample

sample : request_of (codes "sample" ∷ codes "2" ∷ codes "7" ∷ []) ≡ Some (Sample 2 7)
unfolding clap_on_literals is_utf8
sample = refl

-- one to ten digits, 1 to 250,000 turns, and a seed of 0 to 2,147,483,647
sample_least : request_of (codes "sample" ∷ codes "1" ∷ codes "0" ∷ []) ≡ Some (Sample 1 0)
unfolding clap_on_literals is_utf8
sample_least = refl

sample_most : request_of (codes "sample" ∷ codes "250000" ∷ codes "2147483647" ∷ []) ≡ Some (Sample 250000 2147483647)
unfolding clap_on_literals is_utf8
sample_most = refl

sample_zeros : request_of (codes "sample" ∷ codes "0000000002" ∷ codes "0000000007" ∷ []) ≡ Some (Sample 2 7)
unfolding clap_on_literals is_utf8
sample_zeros = refl

sample_behind_dashes : request_of (codes "sample" ∷ codes "--" ∷ codes "2" ∷ codes "7" ∷ []) ≡ Some (Sample 2 7)
unfolding clap_on_literals is_utf8
sample_behind_dashes = refl

sample_no_turns : request_of (codes "sample" ∷ codes "0" ∷ codes "7" ∷ []) ≡ None
unfolding clap_on_literals is_utf8
sample_no_turns = refl

sample_many_turns : request_of (codes "sample" ∷ codes "250001" ∷ codes "7" ∷ []) ≡ None
unfolding clap_on_literals is_utf8
sample_many_turns = refl

sample_large_seed : request_of (codes "sample" ∷ codes "2" ∷ codes "2147483648" ∷ []) ≡ None
unfolding clap_on_literals is_utf8
sample_large_seed = refl

sample_long_turns : request_of (codes "sample" ∷ codes "00000000002" ∷ codes "7" ∷ []) ≡ None
unfolding clap_on_literals is_utf8
sample_long_turns = refl

sample_long_seed : request_of (codes "sample" ∷ codes "2" ∷ codes "00000000007" ∷ []) ≡ None
unfolding clap_on_literals is_utf8
sample_long_seed = refl

sample_empty : request_of (codes "sample" ∷ codes "2" ∷ [] ∷ []) ≡ None
unfolding clap_on_literals is_utf8
sample_empty = refl

sample_signed : request_of (codes "sample" ∷ codes "+2" ∷ codes "7" ∷ []) ≡ None
unfolding clap_on_literals is_utf8
sample_signed = refl

sample_word : request_of (codes "sample" ∷ codes "two" ∷ codes "7" ∷ []) ≡ None
unfolding clap_on_literals is_utf8
sample_word = refl

sample_nothing : request_of (codes "sample" ∷ []) ≡ None
unfolding clap_on_literals is_utf8
sample_nothing = refl

sample_one : request_of (codes "sample" ∷ codes "2" ∷ []) ≡ None
unfolding clap_on_literals is_utf8
sample_one = refl

sample_three : request_of (codes "sample" ∷ codes "2" ∷ codes "7" ∷ codes "1" ∷ []) ≡ None
unfolding clap_on_literals is_utf8
sample_three = refl

-- it has no options
sample_json : request_of (codes "sample" ∷ codes "2" ∷ codes "7" ∷ codes "--json" ∷ []) ≡ None
unfolding clap_on_literals is_utf8
sample_json = refl

sample_budget : request_of (codes "sample" ∷ codes "2" ∷ codes "7" ∷ codes "--budget" ∷ codes "5" ∷ []) ≡ None
unfolding clap_on_literals is_utf8
sample_budget = refl

-- ---- the next labels

next_plain : request_of (codes "next" ∷ codes "d" ∷ codes "A" ∷ codes "l" ∷ []) ≡ Some (Next (codes "d") (codes "A") (codes "l") 1000000)
unfolding clap_on_literals is_utf8
next_plain = refl

next_budget : request_of (codes "next" ∷ codes "d" ∷ codes "--budget" ∷ codes "7" ∷ codes "A" ∷ codes "l" ∷ []) ≡ Some (Next (codes "d") (codes "A") (codes "l") 7)
unfolding clap_on_literals is_utf8
next_budget = refl

-- the answer has no form of its own in JSON, and the log is in the notation of charts
no_next_json : request_of (codes "next" ∷ codes "d" ∷ codes "A" ∷ codes "l" ∷ codes "--json" ∷ []) ≡ None
unfolding clap_on_literals is_utf8
no_next_json = refl

no_next_log_json : request_of (codes "next" ∷ codes "d" ∷ codes "A" ∷ codes "l" ∷ codes "--log-json" ∷ []) ≡ None
unfolding clap_on_literals is_utf8
no_next_log_json = refl

-- ---- sessions

sessions_plain : request_of (codes "sessions" ∷ codes "d" ∷ codes "A" ∷ codes "l" ∷ []) ≡ Some (Sessions (codes "d") (codes "A") (codes "l") 10000 Lines)
unfolding clap_on_literals is_utf8
sessions_plain = refl

sessions_json_log : request_of (codes "sessions" ∷ codes "d" ∷ codes "--log-json" ∷ codes "A" ∷ codes "l" ∷ codes "--budget=20000" ∷ []) ≡ Some (Sessions (codes "d") (codes "A") (codes "l") 20000 Json)
unfolding clap_on_literals is_utf8
sessions_json_log = refl

-- a session has a smaller budget than a log
sessions_budget_above : request_of (codes "sessions" ∷ codes "d" ∷ codes "A" ∷ codes "l" ∷ codes "--budget" ∷ codes "20001" ∷ []) ≡ None
unfolding clap_on_literals is_utf8
sessions_budget_above = refl

sessions_no_budget : request_of (codes "sessions" ∷ codes "d" ∷ codes "A" ∷ codes "l" ∷ codes "--budget" ∷ codes "0" ∷ []) ≡ None
unfolding clap_on_literals is_utf8
sessions_no_budget = refl

-- the answer has no form of its own in JSON
no_sessions_json : request_of (codes "sessions" ∷ codes "d" ∷ codes "A" ∷ codes "l" ∷ codes "--json" ∷ []) ≡ None
unfolding clap_on_literals is_utf8
no_sessions_json = refl

-- ---- choices

choices_plain : request_of (codes "choices" ∷ codes "d" ∷ codes "A" ∷ []) ≡ Some (Choices (codes "d") (codes "A"))
unfolding clap_on_literals is_utf8
choices_plain = refl

choices_behind_dashes : request_of (codes "choices" ∷ codes "--" ∷ codes "d" ∷ codes "--json" ∷ []) ≡ Some (Choices (codes "d") (codes "--json"))
unfolding clap_on_literals is_utf8
choices_behind_dashes = refl

-- the chart is named
choices_one : request_of (codes "choices" ∷ codes "d" ∷ []) ≡ None
unfolding clap_on_literals is_utf8
choices_one = refl

choices_three : request_of (codes "choices" ∷ codes "d" ∷ codes "A" ∷ codes "l" ∷ []) ≡ None
unfolding clap_on_literals is_utf8
choices_three = refl

-- it has no options
no_choices_json : request_of (codes "choices" ∷ codes "d" ∷ codes "A" ∷ codes "--json" ∷ []) ≡ None
unfolding clap_on_literals is_utf8
no_choices_json = refl
