-- What a fault of a log tells.
use Rattle.std.specs.Prelude.{ℕ, List, [], codes}
use Rattle.event_log.specs.declared.event.LogFault.{LogFault}
use Rattle.event_log.specs.declared.event.LogFault.TheVariants.{Syntax, LongLine, LogLimit, TooManySessions, Version, NoMemory}

-- the fault is one of the log's, and no want of memory
abbrev pub IsLogFault : LogFault → Type 0
IsLogFault (Syntax line) = Unit {0}
IsLogFault (LongLine line) = Unit {0}
IsLogFault (LogLimit line) = Unit {0}
IsLogFault (TooManySessions line) = Unit {0}
IsLogFault (Version line) = Unit {0}
IsLogFault NoMemory = ⊥

-- the fault in words
abbrev pub fault_text : LogFault → List ℕ
fault_text (Syntax line) = codes "syntax"
fault_text (LongLine line) = codes "long line"
fault_text (LogLimit line) = codes "limit"
fault_text (TooManySessions line) = codes "sessions"
fault_text (Version line) = codes "version"
fault_text NoMemory = []
