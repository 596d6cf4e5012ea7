use Rattle.std.proofs.Common.{rules, ◌≡◌, ℕ, ◌<◌, ◌≤◌, ◌+◌, ◌∷◌, [], List, length, get_or, drop, arith, subst, set, ◌∙◌}
use Rattle.std.proofs.lemmas.List.{drop_more, get_or_default}
use Rattle.column_order.specs.Counts.{waiting}
use Rattle.column_order.specs.declared.edge.Edge.{Edge}
use Rattle.column_order.proofs.Counting.{waiting_le}
use Rattle.column_order.proofs.Steps.{counted, count_room}
use Rattle.column_order.proofs.sorting.counts_of.Goals as goal

pub overflow_add-index_mut : goal.overflow_add-index_mut
overflow_add-index_mut c =
    let edges = c.args.edges.now in
    let i = c.loop-edge.edge-index in
    let e0 : Edge = record { from = 0; to = 0 } in
    let e = get_or edges i e0 in
    let es = drop (i + 1) edges in
    let cs = c.loop-edge.counts.items in
    let more : drop i edges ≡ e ∷ es = drop_more edges i e0 (omega arith) in
    let lt : e.to < c.args.count = (c.requires.inside i e0 (omega arith)).1 in
    let h : get_or cs e.to 0 + waiting (e ∷ es) [] e.to ≡ waiting edges [] e.to = subst (λ (l : List Edge). get_or cs e.to 0 + waiting l [] e.to ≡ waiting edges [] e.to) more (c.loop-edge.invariant.counts e.to lt) in
    let room : get_or cs e.to 0 < waiting edges [] e.to = count_room cs e es (waiting edges [] e.to) h in
    let few : waiting edges [] e.to ≤ length edges = waiting_le edges [] e.to in
    let lt' : e.to < length cs = search rules in
    let is : c.index_mut.result.now ≡ get_or cs e.to 0 = c.index_mut.ensures.value ∙ get_or_default cs e.to c.index_mut.result.now 0 lt' in
    omega (arith, room, few, is, c.requires.few)

pub loop-edge-preserved : goal.loop-edge-preserved
loop-edge-preserved c =
    let edges = c.args.edges.now in
    let i = c.loop-edge.edge-index in
    let e0 : Edge = record { from = 0; to = 0 } in
    let e = get_or edges i e0 in
    let es = drop (i + 1) edges in
    let cs = c.loop-edge.counts.items in
    let more : drop i edges ≡ e ∷ es = drop_more edges i e0 (omega arith) in
    let lt : e.to < c.args.count = (c.requires.inside i e0 (omega arith)).1 in
    let lt' : e.to < length cs = search rules in
    let h : (x : ℕ) → x < c.args.count → get_or cs x 0 + waiting (e ∷ es) [] x ≡ waiting edges [] x = subst (λ (l : List Edge). (x : ℕ) → x < c.args.count → get_or cs x 0 + waiting l [] x ≡ waiting edges [] x) more c.loop-edge.invariant.counts in
    let step : (x : ℕ) → x < c.args.count → get_or (set cs e.to (get_or cs e.to 0 + 1)) x 0 + waiting es [] x ≡ waiting edges [] x = λ x b. counted cs e es x (waiting edges [] x) lt' (h x b) in
    let is : c.index_mut.result.now ≡ get_or cs e.to 0 = c.index_mut.ensures.value ∙ get_or_default cs e.to c.index_mut.result.now 0 lt' in
    record { len = search rules; counts = λ x b. rw is (step x b) }
