-- What a contract sees of the machine.
use Rattle.msc_tokens.specs.declared.machine.Machine.{Machine}
use Rattle.msc_tokens.specs.Machine.{State}

abbrev pub view : Machine → State
view m = record { mode = m.mode; start = m.start; text = m.text.items; place = m.place; tokens = m.tokens }
