-- What a line says by its tokens.
use Rattle.std.proofs.Common.{Bool, false, IsTrue, true≢false, ◌∙◌, Result, Ok, Err, IfOk, IfErr, ◌≡◌, ◌<◌, List, ℕ, [], length, arith, refl, ap, subst, sym, Option, Some, None, MatchOption}
use Rattle.msc_base.specs.declared.memory.NoMemory.{NoMemory}
use Rattle.msc_tokens.specs.declared.token.Token.{Token}
use Rattle.msc_base.specs.declared.label.Label.{Label}
use Rattle.msc_tokens.specs.Faults.{IfNamed}
use Rattle.msc_tokens.specs.Spelling.{Spells}
use Rattle.msc_tokens.specs.declared.fault.LexFault.{LexFault}
use Rattle.msc_tokens.specs.declared.fault.LexFault.TheVariants as lexing
use Rattle.token_grammar.specs.Languages.{texts}
use Rattle.msc_events.specs.LogEvents.{ReadsEvent}
use Rattle.token_grammar.specs.Refusals.{IsRefusal}
use Rattle.token_grammar.specs.declared.fault.ParseFault.{ParseFault}
use Rattle.token_grammar.specs.declared.fault.ParseFault.TheVariants as fault
use Rattle.event_log.specs.Meanings.{StatesVersion, IsEventOf, SaysBy, LineSays}
use Rattle.msc_base.specs.Only.{Never, Only}
use Rattle.event_log.specs.Objects.{Spelled, IsAllowed}
use Rattle.event_log.specs.Rules.{Rules}
use Rattle.event_log.specs.declared.event.LogForm.{LogForm}
use Rattle.event_log.specs.declared.event.LogForm.TheVariants.{Lines}
use Rattle.event_log.specs.declared.event.Version.{Version}
use Rattle.event_log.specs.declared.line.Line.{Line}
use Rattle.event_log.specs.declared.line.Line.TheVariants.{Blank, VersionLine, Event, NoEvent}

pub only_spelled : {A : Type 0} (P : List (List ℕ) → A → Type 0) (line : List ℕ) (tokens : List Token) (x : A) → Only (Spells line) tokens → Only (P (texts tokens)) x → Only (Spelled P line) x
only_spelled P line tokens x s o = record {
  holds = record { tokens = tokens; spells = s.holds; is = o.holds };
  alone = λ y p. o.alone y (subst (λ ts. P (texts ts) y) (s.alone p.tokens p.spells) p.is);
}

pub never_spelled : {A : Type 0} (P : List (List ℕ) → A → Type 0) (line : List ℕ) (tokens : List Token) → Only (Spells line) tokens → Never (P (texts tokens)) → Never (Spelled P line)
never_spelled P line tokens s n = λ y p. n y (subst (λ ts. P (texts ts) y) (s.alone p.tokens p.spells) p.is)

not_empty : (line : List ℕ) (tokens : List Token) → Only (Spells line) tokens → 0 < length tokens → Spells line [] → ⊥
not_empty line tokens s some h = omega (arith, ap length (s.alone [] h))

says_one : {S E K : Type 0} (r : Rules S E K) (version : Version) (number : ℕ) (line : List ℕ) (tokens : List Token) (m : Line S) → Only (Spells line) tokens → 0 < length tokens
    → SaysBy (StatesVersion (texts tokens)) (r.tokens_are version (texts tokens)) number m → LineSays r Lines version number line m
says_one r version number line tokens Blank s some h = absurd h
says_one r version number line tokens (VersionLine stated) s some h = (not_empty line tokens s some, (h.0, only_spelled StatesVersion line tokens stated s h.1))
says_one r version number line tokens (Event event) s some h = (not_empty line tokens s some, (λ first. never_spelled StatesVersion line tokens s (h.0 first), only_spelled (r.tokens_are version) line tokens event s h.1))
says_one r version number line tokens NoEvent s some h = (not_empty line tokens s some, (λ first. never_spelled StatesVersion line tokens s (h.0 first), never_spelled (r.tokens_are version) line tokens s h.1))

-- what the tokens say is what the line says
pub says_spelled : {S E K : Type 0} (r : Rules S E K) (version : Version) (number : ℕ) (line : List ℕ) (tokens : List Token) (answer : Result (Line S) NoMemory) → Only (Spells line) tokens → 0 < length tokens
    → IfOk answer (λ m. SaysBy (StatesVersion (texts tokens)) (r.tokens_are version (texts tokens)) number m) → IfOk answer (λ m. LineSays r Lines version number line m)
says_spelled r version number line tokens (Ok m) s some h = says_one r version number line tokens m s some h
says_spelled r version number line tokens (Err e) s some h = tt

-- bytes that have no reading as tokens say nothing
pub says_unspelled : {S E K : Type 0} (r : Rules S E K) (version : Version) (number : ℕ) (line : List ℕ) → Never (Spells line) → LineSays r Lines version number line NoEvent
says_unspelled r version number line h = (λ s. h [] s, (λ first. λ y p. h p.tokens p.spells, λ y p. h p.tokens p.spells))

-- a fault of the reading that is no want of memory is a refusal
pub refusal : (x : ParseFault) → (x ≡ fault.NoMemory → ⊥) → IsRefusal x
refusal fault.NoMemory h = h refl
refusal x h = tt

-- what the tokens are is what the bytes are
pub spelled_answer : {A E : Type 0} (P : List (List ℕ) → A → Type 0) (bytes : List ℕ) (tokens : List Token) (answer : Result (Option A) E) → Only (Spells bytes) tokens
    → IfOk answer (λ found. MatchOption found (Never (P (texts tokens))) (λ x. Only (P (texts tokens)) x))
    → IfOk answer (λ found. MatchOption found (Never (Spelled P bytes)) (λ x. Only (Spelled P bytes) x))
spelled_answer P bytes tokens (Ok None) s h = never_spelled P bytes tokens s h
spelled_answer P bytes tokens (Ok (Some x)) s h = only_spelled P bytes tokens x s h
spelled_answer P bytes tokens (Err e) s h = tt

-- a fault of the tokens that is no want of memory is named
pub named : (x : LexFault) (P : Type 0) → (x ≡ lexing.NoMemory → ⊥) → IfNamed x P → P
named lexing.NoMemory P h is = absurd (h refl)
named (lexing.BadByte at) P h is = is
named (lexing.OpenString at) P h is = is
named (lexing.OpenNote at) P h is = is
named (lexing.LongName at) P h is = is

-- the one event that the tokens are, in a log whose version has its kind
pub allowed_event : (version : Version) (tokens : List (List ℕ)) (label : Label) → ReadsEvent tokens label → ((other : Label) → ReadsEvent tokens other → other ≡ label)
    → IsAllowed version label.kind → Only (IsEventOf version tokens) label
allowed_event version tokens label reads only allowed = record { holds = record { reads = reads; allowed = allowed }; alone = λ y p. only y p.reads }

-- the same, in a log whose version hasn't
pub barred_event : (version : Version) (tokens : List (List ℕ)) (label : Label) → ((other : Label) → ReadsEvent tokens other → other ≡ label)
    → (IsAllowed version label.kind → ⊥) → Never (IsEventOf version tokens)
barred_event version tokens label only barred = λ y p. barred (subst (λ (l : Label). IsAllowed version l.kind) (only y p.reads) p.allowed)

-- what a line says in the form that is meant
pub says_in : {S E K : Type 0} (r : Rules S E K) (form meant : LogForm) (version : Version) (number : ℕ) (line : List ℕ) (answer : Result (Line S) NoMemory) → form ≡ meant
    → IfOk answer (λ m. LineSays r meant version number line m) → IfOk answer (λ m. LineSays r form version number line m)
says_in r form meant version number line answer is h = subst (λ f. IfOk answer (λ m. LineSays r f version number line m)) (sym is) h

pub not_both : (b : Bool) → IsTrue b → b ≡ false → ⊥
not_both b here gone = true≢false (sym here ∙ gone)
