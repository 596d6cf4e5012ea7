use Rattle.std.proofs.Common.{rules, ◌≡◌, ℕ, ◌<◌, ◌≤◌, ◌+◌, ◌↔◌, ◌∷◌, List, length, get_or, IsTrue, drop, ◌-◌, set, arith, subst}
use Rattle.std.proofs.lemmas.List.{drop_more}
use Rattle.std.specs.Ordering.{nat_cmp}
use Rattle.std.specs.BTreeSet.{contains}
use Rattle.column_order.specs.Counts.{times}
use Rattle.column_order.proofs.Steps.{Takes, takes, enough_more, counts_more, same_times, ready_zero, ready_some, times_drop}
use Rattle.column_order.proofs.sorting.release.Goals as goal
use Rattle.column_order.proofs.sorting.release.Goals.{then-count-eq0+in_ok-insert, else-count-eq0}

pub loop-target-preserved : goal.loop-target-preserved
loop-target-preserved c =
    let i = c.loop-target.target-index in
    let old = c.loop-target.counts in
    let t = get_or c.args.targets.now i 0 in
    let ts = drop (i + 1) c.args.targets.now in
    let new = set old t (get_or old t 0 - 1) in
    let more : drop i c.args.targets.now ≡ t ∷ ts = drop_more c.args.targets.now i 0 (omega arith) in
    let enough : (x : ℕ) → times x (t ∷ ts) ≤ get_or old x 0 = subst (λ (l : List ℕ). (x : ℕ) → times x l ≤ get_or old x 0) more c.loop-target.invariant.enough in
    let counts : (x : ℕ) → get_or old x 0 + times x c.args.targets.now ≡ get_or c.args.counts.now x 0 + times x (t ∷ ts)
    = subst (λ (l : List ℕ). (x : ℕ) → get_or old x 0 + times x c.args.targets.now ≡ get_or c.args.counts.now x 0 + times x l) more c.loop-target.invariant.counts in
    let lt : t < length old = search rules in
    let some : 0 < get_or old t 0 = omega (arith, enough t, same_times t t ts) in
    let k : Takes old new t = takes old t lt some in
    let before : get_or old t 0 ≤ get_or c.args.counts.now t 0 = let d : times t (drop i c.args.targets.now) ≤ times t c.args.targets.now = times_drop i t c.args.targets.now in let d' : times t (t ∷ ts) ≤ times t c.args.targets.now = subst (λ (l : List ℕ). times t l ≤ times t c.args.targets.now) more d in omega (arith, counts t, d') in
    let start = c.args.counts.now in
    let Was = λ (x : ℕ). IsTrue (contains nat_cmp c.loop-target.ready x) in
    let Start = λ (x : ℕ). IsTrue (contains nat_cmp c.args.ready.now x) in
    let Is = λ (x : ℕ). IsTrue (contains nat_cmp c.if-count-eq0.ready x) in
    record {
      len = search rules;
      enough = enough_more old new t ts k enough;
      counts = counts_more old new start t ts c.args.targets.now k counts;
      ready = elim c.if-count-eq0.branch [
        | then-count-eq0+in_ok-insert w ↦
            let zero_is : get_or new t 0 ≡ 0 = omega (arith, k.same, w.if-count-eq0.true) in
            let here : IsTrue (contains nat_cmp c.if-count-eq0.ready t) = rw w.ready-is (search rules) in
            let there : (x : ℕ) → (t ≡ x → ⊥) → Is x ↔ Was x = λ x ne. rw w.ready-is (search rules) in
            ready_zero old new start t Was Is Start k zero_is before c.loop-target.invariant.ready here there
        | else-count-eq0 w ↦ rw w.ready-is (ready_some old new start t Was Start k (omega (arith, w.if-count-eq0.false)) c.loop-target.invariant.ready)
      ];
    }
