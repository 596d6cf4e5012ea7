-- Which words are a request. The words behind the first are read as those of a simple command of `clap`: its matches, where
-- no kind of error applies.
use Rattle.std.specs.Prelude.{◌≡◌, ◌≤◌, ℕ, Bool, true, false, ◌&&◌, nat_le, if◌then◌else◌, List, [], ◌∷◌, length, codes, Option, Some, None, option_and_then, Result, Ok, Err}
use Rattle.std.specs.List.{list_all}
use Rattle.std.specs.Str.{all_ascii_digits, is_utf8, bytes_eq}
use Rattle.std.specs.Str.Parse.{digits_value}
use Rattle.clap.specs.Words.{App, Kinds, Row, Rule, fault_of, first_of, matches_of, new_rule, new_app, with_rule}
use Rattle.clap.specs.declared.builder.ArgAction.TheVariants.{Set, SetTrue}
use Rattle.msc_base.specs.declared.limits.TheConstants.Limits.{BUDGET_DEFAULT, BUDGET_MOST}
use Rattle.event_log.specs.declared.event.LogForm.{LogForm}
use Rattle.event_log.specs.declared.event.LogForm.TheVariants.{Lines, Json}
use Rattle.msc_requests.specs.declared.request.Request.{Request}
use Rattle.msc_requests.specs.declared.request.Request.TheVariants.{Judge, Next, Sessions, Choices, Check, Print, Sample}
use Rattle.msc_requests.specs.declared.request.Request.TheVariants as requests
use Rattle.msc_requests.specs.declared.request.WordFault.{WordFault}
use Rattle.msc_requests.specs.declared.request.WordFault.TheVariants.{NoRequest, NoMemory}
use Rattle.msc_requests.specs.declared.request.TheConstants.{MOST_SEED, MOST_TURNS, SESSION_BUDGET_DEFAULT, SESSION_BUDGET_MOST}

-- a word that has to be there
abbrev pub wanted : List ℕ → Rule
wanted name = record (new_rule name) { required = true; action = Some Set }

-- a word that may be there
abbrev pub optional : List ℕ → Rule
optional name = record (new_rule name) { action = Some Set }

-- an option without a value
abbrev pub flag : List ℕ → Rule
flag name = record (new_rule name) { long = Some name; action = Some SetTrue }

-- an option with a value
abbrev pub valued : List ℕ → Rule
valued name = record (new_rule name) { long = Some name; action = Some Set }

-- a command without arguments yet, to which each word is one, `--help` too
abbrev pub bare : List ℕ → App
bare command = record { top = record (new_app command).top { no_binary_name = true; disable_help_flag = true }; subs = [] }

-- judge DOC CHART LOG [--budget N] [--json] [--log-json]
abbrev pub judge_app : App
judge_app =
    with_rule (with_rule (with_rule (with_rule (with_rule (with_rule (bare (codes "judge")) (wanted (codes "document"))) (wanted (codes "chart"))) (wanted (codes "log"))) (valued (codes "budget"))) (flag (codes "json")))
    (flag (codes "log-json"))

-- next DOC CHART LOG [--budget N]
abbrev pub next_app : App
next_app = with_rule (with_rule (with_rule (with_rule (bare (codes "next")) (wanted (codes "document"))) (wanted (codes "chart"))) (wanted (codes "log"))) (valued (codes "budget"))

-- sessions DOC CHART LOG [--budget N] [--log-json]
abbrev pub sessions_app : App
sessions_app = with_rule (with_rule (with_rule (with_rule (with_rule (bare (codes "sessions")) (wanted (codes "document"))) (wanted (codes "chart"))) (wanted (codes "log"))) (valued (codes "budget"))) (flag (codes "log-json"))

-- choices DOC CHART
abbrev pub choices_app : App
choices_app = with_rule (with_rule (bare (codes "choices")) (wanted (codes "document"))) (wanted (codes "chart"))

-- check DOC [--json]
abbrev pub check_app : App
check_app = with_rule (with_rule (bare (codes "check")) (wanted (codes "document"))) (flag (codes "json"))

-- list DOC [CHART] [--json]
abbrev pub list_app : App
list_app = with_rule (with_rule (with_rule (bare (codes "list")) (wanted (codes "document"))) (optional (codes "chart"))) (flag (codes "json"))

-- print DOC
abbrev pub print_app : App
print_app = with_rule (bare (codes "print")) (wanted (codes "document"))

-- sample TURNS SEED
abbrev pub sample_app : App
sample_app = with_rule (with_rule (bare (codes "sample")) (wanted (codes "turns"))) (wanted (codes "seed"))

-- whether an option without a value is given
abbrev pub is_true : Option (List ℕ) → Bool
is_true None = false
is_true (Some text) = bytes_eq text (codes "true")

abbrev pub form_of : Bool → LogForm
form_of false = Lines
form_of true = Json

infixl 10 ◌>>=◌
abbrev pub ◌>>=◌ : {A B : Type 0} → Option A → (A → Option B) → Option B
o >>= f = option_and_then f o

-- decimal digits, one or more, and no more than so many
abbrev pub is_number : ℕ → List ℕ → Bool
is_number digits text = all_ascii_digits text && (nat_le 1 (length text) && nat_le (length text) digits)

abbrev pub is_between : ℕ → ℕ → ℕ → Bool
is_between least most number = nat_le least number && nat_le number most

-- the number in a text of no more than so many digits, where it is between these two
abbrev pub number_in : ℕ → ℕ → ℕ → List ℕ → Option ℕ
number_in digits least most text = if is_number digits text then (if is_between least most (digits_value 10 text) then Some (digits_value 10 text) else None) else None

-- a budget has one to seven digits
abbrev pub budget_in : List ℕ → Option ℕ
budget_in text = number_in 7 1 BUDGET_MOST text

-- that of a session too
abbrev pub session_budget_in : List ℕ → Option ℕ
session_budget_in text = number_in 7 1 SESSION_BUDGET_MOST text

-- the turns and the seed of a sample have one to ten
abbrev pub turns_in : List ℕ → Option ℕ
turns_in text = number_in 10 1 MOST_TURNS text

abbrev pub seed_in : List ℕ → Option ℕ
seed_in text = number_in 10 0 MOST_SEED text

-- the budget that is asked for, or the one that stands where none is
abbrev pub budget_from : Option (List ℕ) → Option ℕ
budget_from None = Some BUDGET_DEFAULT
budget_from (Some text) = budget_in text

-- the same of a session
abbrev pub session_budget_from : Option (List ℕ) → Option ℕ
session_budget_from None = Some SESSION_BUDGET_DEFAULT
session_budget_from (Some text) = session_budget_in text

-- the request to judge, from what each argument was given
abbrev pub request_from : Option (List ℕ) → Option (List ℕ) → Option (List ℕ) → Option (List ℕ) → Option (List ℕ) → Option (List ℕ) → Option Request
request_from document chart log budget json log_json = do
  d ← document
  c ← chart
  l ← log
  b ← budget_from budget
  Some (Judge d c l b (is_true json) (form_of (is_true log_json)))

-- the request to judge in what `clap` found
abbrev pub request_in : List Row → Option Request
request_in rows = request_from (first_of (codes "document") rows) (first_of (codes "chart") rows) (first_of (codes "log") rows)
    (first_of (codes "budget") rows) (first_of (codes "json") rows) (first_of (codes "log-json") rows)

-- the same of the request for the next labels
abbrev pub next_from : Option (List ℕ) → Option (List ℕ) → Option (List ℕ) → Option (List ℕ) → Option Request
next_from document chart log budget = do
  d ← document
  c ← chart
  l ← log
  b ← budget_from budget
  Some (Next d c l b)

abbrev pub next_in : List Row → Option Request
next_in rows = next_from (first_of (codes "document") rows) (first_of (codes "chart") rows) (first_of (codes "log") rows) (first_of (codes "budget") rows)

-- of the request to judge sessions
abbrev pub sessions_from : Option (List ℕ) → Option (List ℕ) → Option (List ℕ) → Option (List ℕ) → Option (List ℕ) → Option Request
sessions_from document chart log budget log_json = do
  d ← document
  c ← chart
  l ← log
  b ← session_budget_from budget
  Some (Sessions d c l b (form_of (is_true log_json)))

abbrev pub sessions_in : List Row → Option Request
sessions_in rows = sessions_from (first_of (codes "document") rows) (first_of (codes "chart") rows) (first_of (codes "log") rows) (first_of (codes "budget") rows) (first_of (codes "log-json") rows)

-- of the request to list choices
abbrev pub choices_from : Option (List ℕ) → Option (List ℕ) → Option Request
choices_from document chart = do
  d ← document
  c ← chart
  Some (Choices d c)

abbrev pub choices_in : List Row → Option Request
choices_in rows = choices_from (first_of (codes "document") rows) (first_of (codes "chart") rows)

-- of the request to check
abbrev pub check_from : Option (List ℕ) → Option (List ℕ) → Option Request
check_from document json = document >>= λ d. Some (Check d (is_true json))

abbrev pub check_in : List Row → Option Request
check_in rows = check_from (first_of (codes "document") rows) (first_of (codes "json") rows)

-- of the request to list
abbrev pub list_from : Option (List ℕ) → Option (List ℕ) → Option (List ℕ) → Option Request
list_from document chart json = document >>= λ d. Some (requests.List d chart (is_true json))

abbrev pub list_in : List Row → Option Request
list_in rows = list_from (first_of (codes "document") rows) (first_of (codes "chart") rows) (first_of (codes "json") rows)

-- of the request to print
abbrev pub print_from : Option (List ℕ) → Option Request
print_from document = document >>= λ d. Some (Print d)

abbrev pub print_in : List Row → Option Request
print_in rows = print_from (first_of (codes "document") rows)

-- and of the request for a sample
abbrev pub sample_from : Option (List ℕ) → Option (List ℕ) → Option Request
sample_from turns seed = do
  t ← turns
  s ← seed
  n ← turns_in t
  x ← seed_in s
  Some (Sample n x)

abbrev pub sample_in : List Row → Option Request
sample_in rows = sample_from (first_of (codes "turns") rows) (first_of (codes "seed") rows)

abbrev pub unless_fault : Kinds → Option Request → Option Request
unless_fault [] request = request
unless_fault (kind ∷ kinds) request = None

-- the request that words make by a simple command, or none: that of what `clap` found, where no kind of error applies
abbrev pub request_by : App → (List Row → Option Request) → List (List ℕ) → Option Request
request_by app asked words = unless_fault (fault_of app words) (asked (matches_of app words))

-- what `clap` finds in the words, where no kind of error applies
abbrev pub IsFound : App → List (List ℕ) → List Row → Type 0
IsFound app words rows = (fault_of app words ≡ []) × (rows ≡ matches_of app words)

-- the words make no request by the command, whatever is asked of it
abbrev pub HasNoRequest : App → List (List ℕ) → Type 0
HasNoRequest app words = (asked : List Row → Option Request) → request_by app asked words ≡ None

-- the requests that the words behind each command make, or none
abbrev pub judge_request : List (List ℕ) → Option Request
judge_request words = request_by judge_app request_in words

abbrev pub next_request : List (List ℕ) → Option Request
next_request words = request_by next_app next_in words

abbrev pub sessions_request : List (List ℕ) → Option Request
sessions_request words = request_by sessions_app sessions_in words

abbrev pub choices_request : List (List ℕ) → Option Request
choices_request words = request_by choices_app choices_in words

abbrev pub check_request : List (List ℕ) → Option Request
check_request words = request_by check_app check_in words

abbrev pub list_request : List (List ℕ) → Option Request
list_request words = request_by list_app list_in words

abbrev pub print_request : List (List ℕ) → Option Request
print_request words = request_by print_app print_in words

abbrev pub sample_request : List (List ℕ) → Option Request
sample_request words = request_by sample_app sample_in words

-- the request that the words behind this command make, or none
abbrev pub command_request : List ℕ → List (List ℕ) → Option Request
command_request command words =
    if bytes_eq command (codes "judge") then judge_request words
    else if bytes_eq command (codes "check") then check_request words
    else if bytes_eq command (codes "list") then list_request words
    else if bytes_eq command (codes "print") then print_request words
    else if bytes_eq command (codes "sample") then sample_request words
    else if bytes_eq command (codes "next") then next_request words
    else if bytes_eq command (codes "sessions") then sessions_request words
    else if bytes_eq command (codes "choices") then choices_request words
    else None

-- the request that the words make, or none
abbrev pub request_of : List (List ℕ) → Option Request
request_of [] = None
request_of (command ∷ words) = if list_all is_utf8 words then command_request command words else None

abbrev pub IsNoRequest : List (List ℕ) → Type 0
IsNoRequest words = request_of words ≡ None

-- the answer is the request, or none; want of memory says nothing
abbrev pub Answers : Option Request → Result Request WordFault → Type 0
Answers request (Ok answer) = request ≡ Some answer
Answers request (Err NoRequest) = request ≡ None
Answers request (Err NoMemory) = Unit {0}

-- the numbers of a request are those that may be asked for
abbrev pub IsBounded : Request → Type 0
IsBounded (Judge document chart log budget json form) = (1 ≤ budget) × (budget ≤ BUDGET_MOST)
IsBounded (Next document chart log budget) = (1 ≤ budget) × (budget ≤ BUDGET_MOST)
IsBounded (Sessions document chart log budget form) = (1 ≤ budget) × (budget ≤ SESSION_BUDGET_MOST)
IsBounded (Choices document chart) = Unit {0}
IsBounded (Check document json) = Unit {0}
IsBounded (requests.List document chart json) = Unit {0}
IsBounded (Print document) = Unit {0}
IsBounded (Sample turns seed) = (1 ≤ turns) × (turns ≤ MOST_TURNS) × (seed ≤ MOST_SEED)
