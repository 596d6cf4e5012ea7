-- What a function that reads the prefix of a list of tokens answers, against a reader. Want of memory says nothing.
use Rattle.std.specs.Prelude.{◌≡◌, List, Result, Ok, Err}
use Rattle.msc_tokens.specs.declared.token.Token.{Token}
use Rattle.token_grammar.specs.declared.readers.ReadFault.{ReadFault}
use Rattle.token_grammar.specs.declared.readers.ReadFault.TheVariants.{Refused, TooDeep, NoMemory}
use Rattle.token_grammar.specs.Languages.{Read, refused, deep}

abbrev pub Fails : {Y : Type 0} → ReadFault → Read Y → Type 0
Fails (Refused left) read = read ≡ Err (refused left)
Fails (TooDeep left) read = read ≡ Err (deep left)
Fails NoMemory read = Unit {0}

abbrev pub Gives : {X Y : Type 0} → (X → Y × List Token) → Result X ReadFault → Read Y → Type 0
Gives view (Ok x) read = read ≡ Ok (view x)
Gives view (Err fault) read = Fails fault read
