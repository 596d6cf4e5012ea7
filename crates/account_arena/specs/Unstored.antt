-- Serves private contracts alone.
-- Sequences whose nodes store nothing of their items.
use Rattle.std.specs.Prelude.{List}
use Rattle.account_arena.specs.declared.numbers.NoFacts.{NoFacts}

-- nothing is said of the items
abbrev pub IsUnstored : {T : Type 0} → List T → NoFacts → Type 0
IsUnstored xs f = Unit {0}
