-- What a fault tells.
use Rattle.msc_tokens.specs.declared.fault.LexFault.{LexFault}
use Rattle.msc_tokens.specs.declared.fault.LexFault.TheVariants.{BadByte, OpenString, OpenNote, LongName, NoMemory}

-- each fault but want of memory tells something of the text
abbrev pub IfNamed : LexFault → Type 0 → Type 0
IfNamed (BadByte at) P = P
IfNamed (OpenString at) P = P
IfNamed (OpenNote at) P = P
IfNamed (LongName at) P = P
IfNamed NoMemory P = Unit {0}
