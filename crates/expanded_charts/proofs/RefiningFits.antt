-- A refining chart is no larger than its table.
use Rattle.std.proofs.Common.{◌≡◌, ◌∙◌, ◌++◌, ◌<◌, ◌≤◌, ℕ, zero, suc, List, [], ◌∷◌, Option, Some, None, refl, sym, ap, subst, get_or, length}
use Rattle.std.specs.List.{slice_get}
use Rattle.msc_meaning.specs.Bodies.{Body, level, WovenItems}
use Rattle.msc_meaning.specs.Refinements.{refining, refining_by, refinings}
use Rattle.msc_meaning.specs.Refinements as plain
use Rattle.msc_meaning.specs.Tables.{Refinement, Table, body_at}
use Rattle.msc_meaning.specs.Views.{body_view}
use Rattle.level_surroundings.specs.RefiningViews.{refining_view, refinings_view}
use Rattle.level_surroundings.specs.declared.refining.Refining as rust_refining
use Rattle.level_surroundings.proofs.Dropped.{item_at}
use Rattle.expanded_charts.proofs.Measures.{body_fits, body_size, table_size}

abbrev refining_size : plain.Refining → ℕ
refining_size (refining b ms) = body_size b

all_fit : (table : Table) (held : WovenItems) (rs : List Refinement) (i : ℕ) (x : plain.Refining) → slice_get (refinings table held rs) i ≡ Some x → refining_size x ≤ table_size table
all_fit table held [] i x e = absurd cc
all_fit table held (r ∷ rs) i x e = by (body_at table r.chart) refl (λ k f. all_fit table held rs k x f) i e
  where
    by : (o : Option Body) → body_at table r.chart ≡ o → ((k : ℕ) → slice_get (refinings table held rs) k ≡ Some x → refining_size x ≤ table_size table) → (k : ℕ) → slice_get (refining_by r.instance held o ++ refinings table held rs) k ≡ Some x → refining_size x ≤ table_size table
    by None is behind k f = behind k f
    by (Some (level cover inner pairs)) is behind zero f = let same : refining (level cover inner pairs) (plain.matches r.instance held inner) ≡ x = cc in subst (λ (y : plain.Refining). refining_size y ≤ table_size table) same (body_fits table r.chart (level cover inner pairs) is)
    by (Some (level cover inner pairs)) is behind (suc k) f = behind k f

view_at : (xs : List rust_refining.Refining) (i : ℕ) (r : rust_refining.Refining) → slice_get xs i ≡ Some r → slice_get (refinings_view xs) i ≡ Some (refining_view r)
view_at [] i r e = absurd cc
view_at (y ∷ xs) zero r e = let p : y ≡ r = cc in ap (λ (z : rust_refining.Refining). Some (refining_view z)) p
view_at (y ∷ xs) (suc i) r e = view_at xs i r e

pub refining_fits : (table : Table) (held : WovenItems) (rs : List Refinement) (xs : List rust_refining.Refining) (i : ℕ) (r : rust_refining.Refining) → refinings_view xs ≡ refinings table held rs → i < length xs → r ≡ get_or xs i r → body_size (body_view r.body.now) ≤ table_size table
refining_fits table held rs xs i r are low is = all_fit table held rs i (refining_view r) (ap (λ (l : List plain.Refining). slice_get l i) (sym are) ∙ view_at xs i r (item_at xs i r low is))
