-- The charts of a table, by their names.
use Rattle.std.specs.Prelude.{ℕ, Bool, true, false, List, [], ◌∷◌, Some, if◌then◌else◌}
use Rattle.std.specs.Str.{bytes_eq}
use Rattle.std.proofs.Common.{◌≡◌, refl, subst}
use Rattle.std.proofs.lemmas.Slice.Eq.{bytes_eq-Decides}
use Rattle.msc_acceptance.specs.AcceptedCharts.{EachChart}
use Rattle.msc_meaning.specs.Tables.{ChartEntry, Table, chart_at}

-- what each chart has, that of a name has
pub entry_has : (P : ChartEntry → Type 0) (table : Table) (name : List ℕ) (c : ChartEntry) → EachChart P table → chart_at table name ≡ Some c → P c
entry_has P [] name c h e = absurd cc
entry_has P (d ∷ table) name c h e = by (bytes_eq d.name name) e (entry_has P table name c h.1)
  where
    by : (b : Bool) → (if b then Some d else chart_at table name) ≡ Some c → (chart_at table name ≡ Some c → P c) → P c
    by true f behind = let same : d ≡ c = cc in subst P same h.0
    by false f behind = behind f

-- what each chart's name has, the name of a chart has
pub name_has : (P : List ℕ → Type 0) (table : Table) (name : List ℕ) (c : ChartEntry) → EachChart (λ d. P d.name) table → chart_at table name ≡ Some c → P name
name_has P [] name c h e = absurd cc
name_has P (d ∷ table) name c h e = by (bytes_eq d.name name) refl e (name_has P table name c h.1)
  where
    by : (b : Bool) → bytes_eq d.name name ≡ b → (if b then Some d else chart_at table name) ≡ Some c → (chart_at table name ≡ Some c → P name) → P name
    by true s f behind = subst P ((bytes_eq-Decides d.name name).0 s) h.0
    by false s f behind = behind f
