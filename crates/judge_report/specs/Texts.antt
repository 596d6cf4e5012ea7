-- What is printed. Each text is one line, with a line feed at its end.
use Rattle.std.specs.Prelude.{ℕ, Bool, true, false, not, ◌&&◌, ◌==◌, nat_le, List, [], ◌∷◌, ◌++◌, codes}
use Rattle.std.specs.Fmt.{decimal}
use Rattle.std.specs.List.{list_all}
use Rattle.msc_base.specs.declared.place.Place.{Place}
use Rattle.msc_base.specs.declared.verdict.Verdict.{Verdict}
use Rattle.msc_base.specs.declared.verdict.Verdict.TheVariants.{Conforms, Fails, Early, TooLarge}
use Rattle.msc_rules.specs.declared.rule.Rule.{Rule}
use Rattle.msc_rules.specs.Rules.{rule_text}
use Rattle.event_log.specs.declared.event.LogFault.{LogFault}
use Rattle.event_log.specs.declared.event.LogFault.TheVariants.{Syntax, LongLine, LogLimit, TooManySessions, Version, NoMemory}
use Rattle.event_log.specs.Faults.{IsLogFault, fault_text}
use Rattle.judge_report.specs.declared.fault.Fault.{Fault}
use Rattle.judge_report.specs.declared.fault.Fault.TheVariants.{Document, NoChart, Log, DocumentRead, LogRead, Usage}

-- a verdict in words
abbrev pub verdict_words : Verdict → List ℕ
verdict_words (Conforms events) = codes "conforms, events " ++ decimal events
verdict_words (Fails event line) = codes "fails at event " ++ (decimal event ++ (codes ", line " ++ decimal line))
verdict_words (Early events) = codes "stops early, events " ++ decimal events
verdict_words (TooLarge event) = codes "too large at event " ++ decimal event

-- a verdict as a JSON object
abbrev pub verdict_json : Verdict → List ℕ
verdict_json (Conforms events) = codes "{\"events\":" ++ (decimal events ++ codes ",\"verdict\":\"conforms\"}")
verdict_json (Fails event line) = codes "{\"event\":" ++ (decimal event ++ (codes ",\"line\":" ++ (decimal line ++ codes ",\"verdict\":\"fails\"}")))
verdict_json (Early events) = codes "{\"events\":" ++ (decimal events ++ codes ",\"verdict\":\"stops early\"}")
verdict_json (TooLarge event) = codes "{\"event\":" ++ (decimal event ++ codes ",\"verdict\":\"too large\"}")

-- the line of a verdict: as JSON, or in words
abbrev pub verdict_line : Bool → Verdict → List ℕ
verdict_line false verdict = verdict_words verdict ++ 10 ∷ []
verdict_line true verdict = verdict_json verdict ++ 10 ∷ []

abbrev pub accepted_json : ℕ → List ℕ
accepted_json charts = codes "{\"charts\":" ++ (decimal charts ++ codes ",\"verdict\":\"accepted\"}")

-- the line of an accepted document with so many charts
abbrev pub accepted_line : Bool → ℕ → List ℕ
accepted_line false charts = codes "accepted, charts " ++ decimal charts ++ 10 ∷ []
accepted_line true charts = accepted_json charts ++ 10 ∷ []

-- the line in which a log's fault is decided
abbrev pub line_number : LogFault → ℕ
line_number (Syntax line) = line
line_number (LongLine line) = line
line_number (LogLimit line) = line
line_number (TooManySessions line) = line
line_number (Version line) = line
line_number NoMemory = 0

abbrev pub log_words : LogFault → List ℕ
log_words fault = codes "log refused at line " ++ (decimal (line_number fault) ++ (codes ": " ++ fault_text fault))

abbrev pub document_words : Rule → Place → List ℕ
document_words rule place = codes "document refused at " ++ (decimal place.line ++ (codes ":" ++ (decimal place.column ++ (codes ": " ++ rule_text rule))))

-- a fault that is told in these words: as JSON, or plain
abbrev pub told : Bool → List ℕ → List ℕ
told false words = words ++ 10 ∷ []
told true words = (codes "{\"fault\":\"" ++ (words ++ codes "\"}")) ++ 10 ∷ []

-- the line of a fault; the usage line is plain in any case
abbrev pub fault_line : Bool → Fault → List ℕ
fault_line json (Document rule place) = told json (document_words rule place)
fault_line json NoChart = told json (codes "no such chart")
fault_line json (Log fault) = told json (log_words fault)
fault_line json DocumentRead = told json (codes "cannot read the document")
fault_line json LogRead = told json (codes "cannot read the log")
fault_line json Usage = told false (codes "usage: mscjudge COMMAND WORDS")

-- want of memory is told in no line
abbrev pub IsTold : Fault → Type 0
IsTold (Document rule place) = Unit {0}
IsTold NoChart = Unit {0}
IsTold (Log fault) = IsLogFault fault
IsTold DocumentRead = Unit {0}
IsTold LogRead = Unit {0}
IsTold Usage = Unit {0}

-- a byte that stands for itself in a JSON string: no control byte, no quote and no backslash
abbrev pub needs_no_escape_byte : ℕ → Bool
needs_no_escape_byte b = nat_le 32 b && (not (b == 34) && not (b == 92))

abbrev pub needs_no_escape : List ℕ → Bool
needs_no_escape words = list_all needs_no_escape_byte words
