use Rattle.std.proofs.Common.{rules, ◌≡◌, ℕ, ◌<◌, ◌≤◌, ◌+◌, ◌↔◌, ◌⊎◌, ◌∷◌, ◌++◌, [], List, length, get_or, IsTrue, true, Some, slice_get, take, drop, arith, Bool, ◌∙◌}
use Rattle.std.proofs.lemmas.List.{take_at}
use Rattle.std.proofs.lemmas.Option.{slice_get_read}
use Rattle.std.specs.Ordering.{nat_cmp}
use Rattle.std.specs.Vec.{vec_len}
use Rattle.std.specs.List.{list_any}
use Rattle.std.specs.BTreeMap.{is_at}
use Rattle.std.specs.BTreeSet.{contains}
use Rattle.column_order.specs.Counts.{targets, times}
use Rattle.column_order.proofs.Loop.{Keeps, enough, after, is_stuck, is_whole}
use Rattle.column_order.proofs.Counting.{free_less, inside_targets}
use Rattle.column_order.proofs.sorting.sort_edges.Goals as goal

written : (old new : List ℕ) (n : ℕ) → length new ≡ n → take n (new ++ drop (length new) old) ≡ new
written old new n e = take_at new (drop (length new) old) n e

no_key : (p : ℕ → Bool) (ks : List ℕ) → length ks ≡ 0 → list_any p ks ≡ true → ⊥
no_key p [] e h = cc
no_key p (k ∷ ks) e h = absurd (omega arith)

pub release-requires-clause-inside : goal.release-requires-clause-inside
release-requires-clause-inside c =
    let n = c.args.count in
    let edges = c.args.edges.now in
    let order = c.loop-item.order.items in
    let item = c.in-Some.item in
    let Ready = λ (y : ℕ). IsTrue (contains nat_cmp c.loop-item.ready y) in
    let k : Keeps n edges c.loop-item.counts.items Ready order = c.loop-item.invariant.keeps in
    let len : length c.loop-item.counts.items ≡ n = search rules in
    let mine : Ready item = search rules in
    let low : item < n = ((k.ready item).0 mine).0 in
    let many : vec_len c.in_ok-lists.lists ≡ n = search rules in
    let at : slice_get c.in_ok-lists.lists.items item ≡ Some c.index.result.now = slice_get_read c.in_ok-lists.lists.items n item c.index.result.now (search rules) low c.index.ensures in
    let list : c.index.result.now.items ≡ targets edges item = c.in_ok-lists.ensures.targets item c.index.result.now at in
    let list_is : c.deref-in-Some.result.now ≡ targets edges item = c.deref-in-Some.ensures.value ∙ list in
    let counts_are : c.deref_mut.result.now ≡ c.loop-item.counts.items = search rules in
    rw (list_is, counts_are, len) (inside_targets n edges item c.requires.inside)

pub release-requires-clause-enough : goal.release-requires-clause-enough
release-requires-clause-enough c =
    let n = c.args.count in
    let edges = c.args.edges.now in
    let order = c.loop-item.order.items in
    let item = c.in-Some.item in
    let Ready = λ (y : ℕ). IsTrue (contains nat_cmp c.loop-item.ready y) in
    let k : Keeps n edges c.loop-item.counts.items Ready order = c.loop-item.invariant.keeps in
    let len : length c.loop-item.counts.items ≡ n = search rules in
    let mine : Ready item = search rules in
    let low : item < n = ((k.ready item).0 mine).0 in
    let many : vec_len c.in_ok-lists.lists ≡ n = search rules in
    let at : slice_get c.in_ok-lists.lists.items item ≡ Some c.index.result.now = slice_get_read c.in_ok-lists.lists.items n item c.index.result.now (search rules) low c.index.ensures in
    let list : c.index.result.now.items ≡ targets edges item = c.in_ok-lists.ensures.targets item c.index.result.now at in
    let list_is : c.deref-in-Some.result.now ≡ targets edges item = c.deref-in-Some.ensures.value ∙ list in
    let counts_are : c.deref_mut.result.now ≡ c.loop-item.counts.items = search rules in
    rw (list_is, counts_are) (enough n edges c.loop-item.counts.items Ready order k item len c.requires.inside mine)

pub loop-item-smaller : goal.loop-item-smaller
loop-item-smaller c =
    let n = c.args.count in
    let order = c.loop-item.order.items in
    let item = c.in-Some.item in
    let mine : IsTrue (contains nat_cmp c.loop-item.ready item) = search rules in
    let q = (c.loop-item.invariant.keeps.ready item).0 mine in
    let pushed : c.push.new.self.items ≡ order ++ item ∷ [] = search rules in
    rw pushed (free_less n order item q.0 q.1)

pub loop-item-preserved : goal.loop-item-preserved
loop-item-preserved c =
    let n = c.args.count in
    let edges = c.args.edges.now in
    let order = c.loop-item.order.items in
    let item = c.in-Some.item in
    let Ready = λ (y : ℕ). IsTrue (contains nat_cmp c.loop-item.ready y) in
    let k : Keeps n edges c.loop-item.counts.items Ready order = c.loop-item.invariant.keeps in
    let len : length c.loop-item.counts.items ≡ n = search rules in
    let mine : Ready item = search rules in
    let low : item < n = ((k.ready item).0 mine).0 in
    let many : vec_len c.in_ok-lists.lists ≡ n = search rules in
    let at : slice_get c.in_ok-lists.lists.items item ≡ Some c.index.result.now = slice_get_read c.in_ok-lists.lists.items n item c.index.result.now (search rules) low c.index.ensures in
    let list : c.index.result.now.items ≡ targets edges item = c.in_ok-lists.ensures.targets item c.index.result.now at in
    let list_is : c.deref-in-Some.result.now ≡ targets edges item = c.deref-in-Some.ensures.value ∙ list in
    let counts_are : c.deref_mut.result.now ≡ c.loop-item.counts.items = search rules in
    let pushed : c.push.new.self.items ≡ order ++ item ∷ [] = search rules in
    let new = c.release.new.counts in
    let new_len : length new ≡ n = search rules in
    let new_is : take c.loop-item.counts.len (new ++ drop (length new) c.loop-item.counts.items) ≡ new = written c.loop-item.counts.items new c.loop-item.counts.len (search rules) in
    let least : (y : ℕ) → Ready y → item ≤ y = λ y r. search rules in
    let Mid = λ (y : ℕ). IsTrue (contains nat_cmp c.pop_first.new.self y) in
    let Ready' = λ (y : ℕ). IsTrue (contains nat_cmp c.release.new.ready y) in
    let mid : (y : ℕ) → Mid y ↔ (Ready y × (item ≡ y → ⊥)) = λ y. (λ m. (search rules, λ e. search rules), λ w. search rules) in
    let less : (y : ℕ) → get_or new y 0 + times y (targets edges item) ≡ get_or c.loop-item.counts.items y 0 = rw (list_is, counts_are) at c.in_ok-release.ensures.counts in
    let ready' : (y : ℕ) → Ready' y ↔ (Mid y ⊎ ((0 < get_or c.loop-item.counts.items y 0) × (get_or new y 0 ≡ 0))) = rw counts_are at c.in_ok-release.ensures.ready in
    let kept : Keeps n edges new Ready' (order ++ item ∷ []) = after n edges c.loop-item.counts.items Ready order k item new Mid Ready' len mine least mid less ready' in
    record { len = search rules; keeps = rw (new_is, pushed) kept }

pub returns-in-Some-first_waiting-clause-stuck : goal.returns-in-Some-first_waiting-clause-stuck
returns-in-Some-first_waiting-clause-stuck c =
    let n = c.args.count in
    let edges = c.args.edges.now in
    let Ready = λ (y : ℕ). IsTrue (contains nat_cmp c.loop-item.ready y) in
    let zero_is : length c.loop-item.ready.keys ≡ 0 = search rules in
    let none : (y : ℕ) → Ready y → ⊥ = λ y r. no_key (is_at (nat_cmp y)) c.loop-item.ready.keys zero_is r in
    let item = c.in-Some-first_waiting.item in
    let some : (item < n) × (0 < get_or c.loop-item.counts.items item 0) × ((y : ℕ) → y < n → 0 < get_or c.loop-item.counts.items y 0 → item ≤ y) = let d : c.deref-2.result.now ≡ c.loop-item.counts.items = search rules in let len : length c.loop-item.counts.items ≡ n = search rules in rw (d, len) at c.in-Some-first_waiting.ensures.some in
    is_stuck n edges c.loop-item.counts.items Ready c.loop-item.order.items c.loop-item.invariant.keeps none item some.0 some.1 some.2

pub returns-clause-whole : goal.returns-clause-whole
returns-clause-whole c =
    let n = c.args.count in
    let edges = c.args.edges.now in
    let Ready = λ (y : ℕ). IsTrue (contains nat_cmp c.loop-item.ready y) in
    let zero_is : length c.loop-item.ready.keys ≡ 0 = search rules in
    let none : (y : ℕ) → Ready y → ⊥ = λ y r. no_key (is_at (nat_cmp y)) c.loop-item.ready.keys zero_is r in
    let zeros : (y : ℕ) → get_or c.loop-item.counts.items y 0 ≡ 0 = let d : c.deref-2.result.now ≡ c.loop-item.counts.items = search rules in rw d at c.in-None.ensures.none in
    is_whole n edges c.loop-item.counts.items Ready c.loop-item.order.items c.loop-item.invariant.keeps none zeros
