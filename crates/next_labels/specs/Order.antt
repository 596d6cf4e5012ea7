-- The order in which labels are listed: by instance, then by kind, then by text, each in bytes, then by far end.
use Rattle.std.specs.Prelude.{ℕ, List, []}
use Rattle.std.specs.Cmp.{IsTotalOrder, then_total, on_total, nat_cmp_total}
use Rattle.std.specs.Cmp.Lexicographic.{slice_cmp, nat_list_cmp_total}
use Rattle.std.specs.Ordering.{nat_cmp, ordering_then}
use Rattle.std.specs.declared.cmp.Ordering.{Ordering}
use Rattle.msc_base.specs.declared.label.Far.{Far}
use Rattle.msc_base.specs.declared.label.Far.TheVariants.{Nobody, Env, Instance}
use Rattle.msc_base.specs.declared.label.Label.{Label}
use Rattle.label_table.specs.Keys.{rank}

-- none comes before the environment, and that before instances
abbrev pub far_rank : Far → ℕ
far_rank Nobody = 0
far_rank Env = 1
far_rank (Instance name) = 2

abbrev pub far_name : Far → List ℕ
far_name Nobody = []
far_name Env = []
far_name (Instance name) = name

abbrev pub label_cmp : Label → Label → Ordering
label_cmp a b = ordering_then (ordering_then (ordering_then (ordering_then (slice_cmp nat_cmp a.at b.at) (nat_cmp (rank a.kind) (rank b.kind))) (slice_cmp nat_cmp a.text b.text)) (nat_cmp (far_rank a.far) (far_rank b.far))) (slice_cmp nat_cmp (far_name a.far) (far_name b.far))

-- it is a total order
pub label_total : IsTotalOrder label_cmp
label_total =
    then_total (then_total (then_total (then_total (on_total (λ (l : Label). l.at) nat_list_cmp_total) (on_total (λ (l : Label). rank l.kind) nat_cmp_total)) (on_total (λ (l : Label). l.text) nat_list_cmp_total))
    (on_total (λ (l : Label). far_rank l.far) nat_cmp_total)) (on_total (λ (l : Label). far_name l.far) nat_list_cmp_total)
