-- The order of labels tells them apart.
use Rattle.std.specs.Cmp.Lexicographic.{slice_cmp}
use Rattle.std.specs.Ordering.{nat_cmp, ordering_reverse}
use Rattle.std.specs.Prelude.{◌≡◌, refl}
use Rattle.std.specs.declared.cmp.Ordering.{Ordering}
use Rattle.std.specs.declared.cmp.Ordering.TheVariants.{Less, Equal, Greater}
use Rattle.std.proofs.Common.{ap}
use Rattle.std.proofs.lemmas.Map.Lookups.{exact_bytes}
use Rattle.msc_base.specs.declared.label.Far.{Far}
use Rattle.msc_base.specs.declared.label.Far.TheVariants.{Nobody, Env, Instance}
use Rattle.msc_base.specs.declared.label.Label.{Label}
use Rattle.label_table.specs.Keys.{rank}
use Rattle.label_table.proofs.Equality.{parts_are}
use Rattle.label_table.proofs.Keys.{rank_is}
use Rattle.term_facts.proofs.Listing.{both_equal, number_equal}
use Rattle.next_labels.specs.Order.{far_name, far_rank, label_cmp, label_total}

fars_are : (f g : Far) → far_rank f ≡ far_rank g → far_name f ≡ far_name g → f ≡ g
fars_are Nobody Nobody r n = refl
fars_are Env Env r n = refl
fars_are (Instance a) (Instance b) r n = ap Instance n
fars_are Nobody Env r n = cc
fars_are Nobody (Instance b) r n = cc
fars_are Env Nobody r n = cc
fars_are Env (Instance b) r n = cc
fars_are (Instance a) Nobody r n = cc
fars_are (Instance a) Env r n = cc

pub cmp_is : (a b : Label) → label_cmp a b ≡ Equal → a ≡ b
cmp_is a b h =
    let fifth = both_equal _ (slice_cmp nat_cmp (far_name a.far) (far_name b.far)) h in
    let fourth = both_equal _ (nat_cmp (far_rank a.far) (far_rank b.far)) fifth.0 in
    let third = both_equal _ (slice_cmp nat_cmp a.text b.text) fourth.0 in
    let second = both_equal (slice_cmp nat_cmp a.at b.at) (nat_cmp (rank a.kind) (rank b.kind)) third.0 in
    parts_are (exact_bytes a.at b.at second.0) (rank_is a.kind b.kind (number_equal (rank a.kind) (rank b.kind) second.1)) (exact_bytes a.text b.text third.1)
    (fars_are a.far b.far (number_equal (far_rank a.far) (far_rank b.far) fourth.1) (exact_bytes (far_name a.far) (far_name b.far) fifth.1))

pub cmp_itself : (a : Label) → label_cmp a a ≡ Equal
cmp_itself a = go (label_cmp a a) (label_total.antisymm a a)
  where
    go : (o : Ordering) → o ≡ ordering_reverse o → o ≡ Equal
    go Less h = cc
    go Equal h = refl
    go Greater h = cc
