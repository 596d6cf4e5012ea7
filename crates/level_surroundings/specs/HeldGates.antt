-- The called gates of a level, and the joins of a reference, as the code holds them.
use Rattle.std.specs.Borrow.{Bor}
use Rattle.std.specs.HashMap.{HashMap, get}
use Rattle.std.specs.Option.{option_copied}
use Rattle.std.specs.Prelude.{◌≡◌, ℕ, Bool, List, [], Option, None, Some}
use Rattle.std.specs.Str.{bytes_eq}
use Rattle.std.specs.Global.{Global}
use Rattle.std.specs.declared.rc.Rc.{Rc}
use Rattle.msc_tree.specs.declared.reference.Join.{Join}
use Rattle.msc_meaning.specs.Calls.{passed_to}
use Rattle.msc_meaning.specs.FarEnds.{Gates}

-- no gate of a level is called
abbrev pub uncalled : Gates
uncalled = record { calls = []; ends = [] }

abbrev pub gates_held : Option (Rc Gates Global) → Gates
gates_held None = uncalled
gates_held (Some gates) = gates.value

-- ---- joins

abbrev pub is_gate : Bor (List ℕ) → Bor (List ℕ) → Bool
is_gate g h = bytes_eq g.now h.now

-- the map has what the joins make of each gate
abbrev pub HasLeads : {S : Type 0} → HashMap (Bor (List ℕ)) (Bor (List ℕ)) S → List Join → Type 0
HasLeads leads joins = (g : Bor (List ℕ)) → option_copied (get is_gate leads g) ≡ passed_to joins g.now

abbrev pub AreLeads : {S : Type 0} → Option (Rc (HashMap (Bor (List ℕ)) (Bor (List ℕ)) S) Global) → List Join → Type 0
AreLeads None joins = (g : List ℕ) → passed_to joins g ≡ None
AreLeads (Some leads) joins = HasLeads leads.value joins
