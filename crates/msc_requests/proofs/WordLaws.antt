-- The commands are such that `clap` has words for them, and what its answers mean for a request.
use Rattle.std.proofs.Common.{◌≡◌, ◌∙◌, ◌&&◌, ap, refl, Bool, true, false, Bor, map, ◌++◌, append-nil, append_assoc, [], ◌∷◌, Option, None, List, ℕ, Result, Err, IsErrOf, sym, subst, inl, inr, codes}
use Rattle.std.proofs.lemmas.List.{map-append}
use Rattle.std.proofs.lemmas.Str.{IsUtf8-from_is_utf8}
use Rattle.std.specs.List.{list_all}
use Rattle.std.specs.Str.{IsUtf8, is_utf8, bytes_eq}
use Rattle.std.proofs.lemmas.Bool.{false_from_ne_true}
use Rattle.std.proofs.lemmas.Slice.Eq.{bytes_eq-Decides}
use Rattle.clap.specs.Words.{App, Kinds, IsAmong, Row, HasKind, kind_of, fault_of, is_simple, is_simple_and_free, matches_of, first_value, rows_of}
use Rattle.clap.specs.declared.Error.{Error}
use Rattle.clap.specs.declared.error.ErrorKind.{ErrorKind}
use Rattle.clap.specs.declared.error.ErrorKind.TheVariants.{OutOfMemory}
use Rattle.clap.specs.declared.parser.matches.Found.{Found}
use Rattle.clap.proofs.OnLiterals.{clap_on_literals}
use Rattle.clap.proofs.WalkLemmas.{first_value-rows}
use Rattle.msc_requests.specs.declared.request.Request.{Request}
use Rattle.msc_requests.specs.declared.request.WordFault.{WordFault}
use Rattle.msc_requests.specs.declared.request.WordFault.TheVariants.{NoRequest, NoMemory}
use Rattle.msc_requests.specs.Requests.{Answers, HasNoRequest, IsFound, check_app, check_from, check_in, check_request, choices_app, choices_from, choices_in, choices_request, command_request, judge_app, judge_request, list_app, list_from, list_in, list_request, next_app, next_from, next_in, next_request, print_app, print_from, print_in, print_request, request_by, request_from, request_in, request_of, sample_app, sample_from, sample_in, sample_request, unless_fault, sessions_app, sessions_from, sessions_in, sessions_request}

pub judge_simple : is_simple judge_app ≡ true
unfolding clap_on_literals
judge_simple = refl

pub judge_free : is_simple_and_free judge_app ≡ true
unfolding clap_on_literals
judge_free = refl

pub next_simple : is_simple next_app ≡ true
unfolding clap_on_literals
next_simple = refl

pub next_free : is_simple_and_free next_app ≡ true
unfolding clap_on_literals
next_free = refl

pub sessions_simple : is_simple sessions_app ≡ true
unfolding clap_on_literals
sessions_simple = refl

pub sessions_free : is_simple_and_free sessions_app ≡ true
unfolding clap_on_literals
sessions_free = refl

pub choices_simple : is_simple choices_app ≡ true
unfolding clap_on_literals
choices_simple = refl

pub choices_free : is_simple_and_free choices_app ≡ true
unfolding clap_on_literals
choices_free = refl

pub check_simple : is_simple check_app ≡ true
unfolding clap_on_literals
check_simple = refl

pub check_free : is_simple_and_free check_app ≡ true
unfolding clap_on_literals
check_free = refl

pub list_simple : is_simple list_app ≡ true
unfolding clap_on_literals
list_simple = refl

pub list_free : is_simple_and_free list_app ≡ true
unfolding clap_on_literals
list_free = refl

pub print_simple : is_simple print_app ≡ true
unfolding clap_on_literals
print_simple = refl

pub print_free : is_simple_and_free print_app ≡ true
unfolding clap_on_literals
print_free = refl

pub sample_simple : is_simple sample_app ≡ true
unfolding clap_on_literals
sample_simple = refl

pub sample_free : is_simple_and_free sample_app ≡ true
unfolding clap_on_literals
sample_free = refl

-- without a fault the request is that of the matches
fits : (kinds : Kinds) (request : Option Request) → kinds ≡ [] → unless_fault kinds request ≡ request
fits [] request e = refl
fits (kind ∷ kinds) request e = cc

faulty : (kinds : Kinds) (kind : ErrorKind) (request : Option Request) → IsAmong kind kinds → unless_fault kinds request ≡ None
faulty [] kind request h = absurd h
faulty (k ∷ ks) kind request h = refl

-- what is answered of the matches is answered of the words
pub found_answers : (meant : App) (asked : List Row → Option Request) (app : App) (words : List (List ℕ)) (rows : List Row) (answer : Result Request WordFault) → app ≡ meant → IsFound app words rows
    → Answers (asked rows) answer → Answers (request_by meant asked words) answer
found_answers meant asked app words rows answer is found h = subst (λ (o : Option Request). Answers o answer) (sym same) h
  where
    same : request_by meant asked words ≡ asked rows
    same =
        fits (fault_of meant words) (asked (matches_of meant words)) (ap (λ (a : App). fault_of a words) (sym is) ∙ found.0)
        ∙ ap (λ (a : App). asked (matches_of a words)) (sym is) ∙ ap asked (sym found.1)

-- an error other than want of memory refuses the words
pub refused : (app : App) (words : List (List ℕ)) (error : Error) → HasKind (fault_of app words) error → (kind_of error ≡ OutOfMemory → ⊥) → HasNoRequest app words
refused app words error h other asked = elim h [
  | inl m ↦ absurd (other m)
  | inr among ↦ faulty (fault_of app words) (kind_of error) (asked (matches_of app words)) among
]

-- no request is the answer to such words
pub none_answered : {T : Type 0} (meant : App) (asked : List Row → Option Request) (app : App) (words : List (List ℕ)) (fault : WordFault) → app ≡ meant → (IsErrOf {T = T} (Err fault) NoRequest → HasNoRequest app words)
    → Answers (request_by meant asked words) (Err fault)
none_answered meant asked app words NoRequest is none = ap (λ (a : App). request_by a asked words) (sym is) ∙ none refl asked
none_answered meant asked app words NoMemory is none = tt

-- the first values of the arguments are those of the rows
pub firsts : (f : Found) (d c l b j k : Option (List ℕ)) → d ≡ first_value f (codes "document") → c ≡ first_value f (codes "chart") → l ≡ first_value f (codes "log") → b ≡ first_value f (codes "budget")
    → j ≡ first_value f (codes "json") → k ≡ first_value f (codes "log-json") → request_from d c l b j k ≡ request_in (rows_of f)
firsts f d c l b j k hd hc hl hb hj hk =
    rw (hd, hc, hl, hb, hj, hk, first_value-rows f (codes "document"), first_value-rows f (codes "chart"), first_value-rows f (codes "log"), first_value-rows f (codes "budget"), first_value-rows f (codes "json"), first_value-rows f (codes "log-json")) refl

pub next_firsts : (f : Found) (d c l b : Option (List ℕ)) → d ≡ first_value f (codes "document") → c ≡ first_value f (codes "chart") → l ≡ first_value f (codes "log") → b ≡ first_value f (codes "budget")
    → next_from d c l b ≡ next_in (rows_of f)
next_firsts f d c l b hd hc hl hb =
    rw (hd, hc, hl, hb, first_value-rows f (codes "document"), first_value-rows f (codes "chart"), first_value-rows f (codes "log"), first_value-rows f (codes "budget")) refl

pub sessions_firsts : (f : Found) (d c l b k : Option (List ℕ)) → d ≡ first_value f (codes "document") → c ≡ first_value f (codes "chart") → l ≡ first_value f (codes "log") → b ≡ first_value f (codes "budget")
    → k ≡ first_value f (codes "log-json") → sessions_from d c l b k ≡ sessions_in (rows_of f)
sessions_firsts f d c l b k hd hc hl hb hk =
    rw (hd, hc, hl, hb, hk, first_value-rows f (codes "document"), first_value-rows f (codes "chart"), first_value-rows f (codes "log"), first_value-rows f (codes "budget"), first_value-rows f (codes "log-json")) refl

pub choices_firsts : (f : Found) (d c : Option (List ℕ)) → d ≡ first_value f (codes "document") → c ≡ first_value f (codes "chart") → choices_from d c ≡ choices_in (rows_of f)
choices_firsts f d c hd hc = rw (hd, hc, first_value-rows f (codes "document"), first_value-rows f (codes "chart")) refl

pub checked_firsts : (f : Found) (d j : Option (List ℕ)) → d ≡ first_value f (codes "document") → j ≡ first_value f (codes "json") → check_from d j ≡ check_in (rows_of f)
checked_firsts f d j hd hj = rw (hd, hj, first_value-rows f (codes "document"), first_value-rows f (codes "json")) refl

pub listed_firsts : (f : Found) (d c j : Option (List ℕ)) → d ≡ first_value f (codes "document") → c ≡ first_value f (codes "chart") → j ≡ first_value f (codes "json") → list_from d c j ≡ list_in (rows_of f)
listed_firsts f d c j hd hc hj = rw (hd, hc, hj, first_value-rows f (codes "document"), first_value-rows f (codes "chart"), first_value-rows f (codes "json")) refl

pub first_document : (f : Found) (d : Option (List ℕ)) → d ≡ first_value f (codes "document") → print_from d ≡ print_in (rows_of f)
first_document f d hd = rw (hd, first_value-rows f (codes "document")) refl

pub sampled_firsts : (f : Found) (t s : Option (List ℕ)) → t ≡ first_value f (codes "turns") → s ≡ first_value f (codes "seed") → sample_from t s ≡ sample_in (rows_of f)
sampled_firsts f t s ht hs = rw (ht, hs, first_value-rows f (codes "turns"), first_value-rows f (codes "seed")) refl

-- a word that is no UTF-8 fails the test
pub not_utf8 : (bytes : List ℕ) → (IsUtf8 bytes → ⊥) → is_utf8 bytes ≡ false
not_utf8 bytes none = by (is_utf8 bytes) refl
  where
    by : (b : Bool) → is_utf8 bytes ≡ b → b ≡ false
    by true e = absurd (none (IsUtf8-from_is_utf8 bytes e))
    by false e = refl

-- one text more
pub more_texts : (texts new : List (Bor (List ℕ))) (text : Bor (List ℕ)) (word : List ℕ) (rest others words : List (List ℕ)) → new ≡ texts ++ text ∷ [] → text.now ≡ word → rest ≡ word ∷ others
    → map (λ w. w.now) texts ++ rest ≡ words → map (λ w. w.now) new ++ others ≡ words
more_texts texts new text word rest others words n t r h =
    ap (λ (ts : List (Bor (List ℕ))). map (λ w. w.now) ts ++ others) n
    ∙ ap (λ (ws : List (List ℕ)). ws ++ others) (map-append (λ w. w.now) texts (text ∷ []))
    ∙ append_assoc (map (λ w. w.now) texts) (text.now ∷ []) others
    ∙ ap (λ (w : List ℕ). map (λ x. x.now) texts ++ w ∷ others) t
    ∙ ap (λ (ws : List (List ℕ)). map (λ w. w.now) texts ++ ws) (sym r) ∙ h

pub more_utf8 : (word : List ℕ) (rest others words : List (List ℕ)) → rest ≡ word ∷ others → is_utf8 word ≡ true → list_all is_utf8 rest ≡ list_all is_utf8 words → list_all is_utf8 others ≡ list_all is_utf8 words
more_utf8 word rest others words r u h = ap (λ b. b && list_all is_utf8 others) (sym u) ∙ ap (list_all is_utf8) (sym r) ∙ h

-- the first word that is no text
pub first_other : (word : List ℕ) (rest others words : List (List ℕ)) → rest ≡ word ∷ others → is_utf8 word ≡ false → list_all is_utf8 rest ≡ list_all is_utf8 words → list_all is_utf8 words ≡ false
first_other word rest others words r u h = sym h ∙ ap (list_all is_utf8) r ∙ ap (λ b. b && list_all is_utf8 others) u

pub all_texts : (texts : List (Bor (List ℕ))) (rest words : List (List ℕ)) → rest ≡ [] → map (λ w. w.now) texts ++ rest ≡ words → map (λ w. w.now) texts ≡ words
all_texts texts rest words r h = sym (append-nil (map (λ w. w.now) texts)) ∙ ap (λ (ws : List (List ℕ)). map (λ w. w.now) texts ++ ws) (sym r) ∙ h

pub all_utf8 : (rest words : List (List ℕ)) → rest ≡ [] → list_all is_utf8 rest ≡ list_all is_utf8 words → list_all is_utf8 words ≡ true
all_utf8 rest words r h = sym h ∙ ap (list_all is_utf8) r

-- the words behind each command
pub judge_command : (command : List ℕ) (words : List (List ℕ)) → command ≡ codes "judge" → command_request command words ≡ judge_request words
judge_command command words e = rw e refl

pub check_command : (command : List ℕ) (words : List (List ℕ)) → command ≡ codes "check" → command_request command words ≡ check_request words
check_command command words e = rw e refl

pub list_command : (command : List ℕ) (words : List (List ℕ)) → command ≡ codes "list" → command_request command words ≡ list_request words
list_command command words e = rw e refl

pub print_command : (command : List ℕ) (words : List (List ℕ)) → command ≡ codes "print" → command_request command words ≡ print_request words
print_command command words e = rw e refl

pub sample_command : (command : List ℕ) (words : List (List ℕ)) → command ≡ codes "sample" → command_request command words ≡ sample_request words
sample_command command words e = rw e refl

pub next_command : (command : List ℕ) (words : List (List ℕ)) → command ≡ codes "next" → command_request command words ≡ next_request words
next_command command words e = rw e refl

pub sessions_command : (command : List ℕ) (words : List (List ℕ)) → command ≡ codes "sessions" → command_request command words ≡ sessions_request words
sessions_command command words e = rw e refl

pub choices_command : (command : List ℕ) (words : List (List ℕ)) → command ≡ codes "choices" → command_request command words ≡ choices_request words
choices_command command words e = rw e refl

differs : (a b : List ℕ) → (a ≡ b → ⊥) → bytes_eq a b ≡ false
differs a b other = false_from_ne_true (bytes_eq a b) (λ e. other ((bytes_eq-Decides a b).0 e))

pub no_command : (command : List ℕ) (words : List (List ℕ)) → (command ≡ codes "judge" → ⊥) → (command ≡ codes "check" → ⊥) → (command ≡ codes "list" → ⊥) → (command ≡ codes "print" → ⊥) → (command ≡ codes "sample" → ⊥)
    → (command ≡ codes "next" → ⊥) → (command ≡ codes "sessions" → ⊥) → (command ≡ codes "choices" → ⊥) → command_request command words ≡ None
no_command command words j c l p s n m h =
    rw (differs command (codes "judge") j, differs command (codes "check") c, differs command (codes "list") l, differs command (codes "print") p, differs command (codes "sample") s, differs command (codes "next") n, differs command (codes "sessions") m, differs command (codes "choices") h) refl

-- what is answered of the words behind a command is answered of all
pub commanded : (command : List ℕ) (rest texts words : List (List ℕ)) (answer : Result Request WordFault) → words ≡ command ∷ rest → list_all is_utf8 rest ≡ true → texts ≡ rest
    → Answers (command_request command texts) answer → Answers (request_of words) answer
commanded command rest texts words answer w u t h = subst (λ (o : Option Request). Answers o answer) (sym same) h
  where
    same : request_of words ≡ command_request command texts
    same = rw (w, u, t) refl
