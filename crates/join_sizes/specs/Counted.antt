-- Serves private contracts alone.
-- Counts up to a number above all limits.
use Rattle.std.specs.Prelude.{ℕ, min, Bool, List, Option, None, Some}
use Rattle.std.specs.List.{list_any}
use Rattle.chart_forms.specs.TiedTexts.{tie_gates}
use Rattle.gate_tables.specs.GateFacts.{Facts, most_counted}
use Rattle.msc_tree.specs.Statements.{Reference}

-- as far as it is told
abbrev pub capped : ℕ → ℕ
capped n = min n most_counted

-- how many inner events there are, by the facts of a gate
abbrev pub counted : Option Facts → ℕ
counted None = 0
counted (Some f) = f.count

-- a join of one of the references ties two gates
abbrev pub any_tied : List Reference → Bool
any_tied rs = list_any (λ (r : Reference). tie_gates r.joins) rs
